use Rattle.run_charts.proofs.doing.break_text.Goals as goal

pub returns : goal.returns
unfolding Rattle.run_charts.specs.EventDeeds.break_text
returns c =
    rw (c.node.ensures, c.words.ensures, c.node-2.ensures, c.words-2.ensures) at c.sentence.ensures
