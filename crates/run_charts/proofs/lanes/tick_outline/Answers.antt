use Rattle.run_charts.proofs.lanes.tick_outline.Goals as goal

pub returns : goal.returns
unfolding Rattle.run_charts.specs.Lanes.tick_outline
returns c =
    rw (c.words.ensures, c.number.ensures, c.words-2.ensures, c.number-2.ensures) at c.sentence.ensures
