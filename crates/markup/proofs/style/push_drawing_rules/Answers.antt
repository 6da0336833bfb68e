use Rattle.markup.proofs.style.push_drawing_rules.Goals as goal

pub returns : goal.returns
unfolding Rattle.markup.specs.Style.drawing_text
returns c =
    rw (
      c.rule.ensures,
      c.rule-2.ensures,
      c.rule-3.ensures,
      c.rule-4.ensures,
      c.rule-5.ensures,
      c.rule-6.ensures,
      c.rule-7.ensures,
      c.rule-8.ensures,
      c.rule-9.ensures,
      c.rule-10.ensures,
      c.rule-11.ensures,
      c.rule-12.ensures,
      c.rule-13.ensures,
      c.rule-14.ensures,
    )
    at c.push_rules.ensures
