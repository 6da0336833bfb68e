use Rattle.run_charts.proofs.doing.restart_text.Goals as goal

pub returns : goal.returns
unfolding Rattle.run_charts.specs.EventDeeds.restart_text
returns c =
    rw (c.node.ensures, c.words.ensures) at c.sentence.ensures
