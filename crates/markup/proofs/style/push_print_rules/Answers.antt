use Rattle.markup.proofs.style.push_print_rules.Goals as goal

pub returns : goal.returns
unfolding Rattle.markup.specs.Style.print_text
returns c = rw (c.rule.ensures, c.rule-2.ensures) at c.push_rules.ensures
