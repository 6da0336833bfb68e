use Rattle.markup.proofs.style.push_chart_rules.Goals as goal

pub returns : goal.returns
unfolding Rattle.markup.specs.Style.chart_text
returns c = rw (c.rule.ensures, c.rule-2.ensures, c.rule-3.ensures, c.rule-4.ensures, c.rule-5.ensures, c.rule-6.ensures) at c.push_rules.ensures
