use Rattle.markup.proofs.style.push_reason_rules.Goals as goal

pub returns : goal.returns
unfolding Rattle.markup.specs.Style.reason_text
returns c = rw (c.rule.ensures, c.rule-2.ensures, c.rule-3.ensures) at c.push_rules.ensures
