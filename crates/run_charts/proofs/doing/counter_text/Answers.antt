use Rattle.run_charts.proofs.doing.counter_text.Goals as goal

pub returns : goal.returns
unfolding Rattle.run_charts.specs.EventDeeds.counter_text
returns c =
    rw (c.words.ensures, c.node.ensures, c.words-2.ensures) at c.sentence.ensures
