use Rattle.markup.proofs.style.push_colour_rules.Goals as goal

pub returns : goal.returns
unfolding Rattle.markup.specs.Style.colour_text
returns c = rw (c.rule.ensures, c.rule-2.ensures, c.rule-3.ensures, c.rule-4.ensures) at c.push_rules.ensures
