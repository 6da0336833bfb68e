use Rattle.run_charts.proofs.drawing.tip.Goals as goal

pub returns : goal.returns
unfolding Rattle.run_charts.specs.Drawings.tip
returns c =
    rw (
      c.words.ensures,
      c.number.ensures,
      c.words-2.ensures,
      c.number-2.ensures,
      c.words-3.ensures,
      c.number-3.ensures,
      c.words-4.ensures,
      c.number-4.ensures,
      c.words-5.ensures,
      c.number-5.ensures,
      c.words-6.ensures,
      c.saturating_sub.ensures,
    )
    at c.outline_text.ensures
