use Rattle.run_charts.proofs.drawing.whole_width.Goals as goal

pub returns : goal.returns
unfolding Rattle.run_charts.specs.Drawings.whole_width
returns c =
    rw (c.words.ensures, c.number.ensures, c.words-2.ensures, c.number-2.ensures) at c.outline_text.ensures
