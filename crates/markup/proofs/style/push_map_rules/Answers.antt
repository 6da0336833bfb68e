use Rattle.markup.proofs.style.push_map_rules.Goals as goal

pub returns : goal.returns
unfolding Rattle.markup.specs.Style.map_text
returns c =
    rw (
      c.rule.ensures,
      c.rule-2.ensures,
      c.rule-3.ensures,
      c.rule-4.ensures,
      c.rule-5.ensures,
      c.rule-6.ensures,
      c.rule-7.ensures,
      c.rule-8.ensures,
    )
    at c.push_rules.ensures
