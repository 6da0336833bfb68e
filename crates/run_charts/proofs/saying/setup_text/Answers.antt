use Rattle.run_charts.proofs.saying.setup_text.Goals as goal

pub returns : goal.returns
unfolding Rattle.run_charts.specs.RowSentences.setup_words
returns c =
    rw (
      c.words.ensures,
      c.number.ensures,
      c.words-2.ensures,
      c.number-2.ensures,
      c.words-3.ensures,
      c.number-3.ensures,
    )
    at c.sentence.ensures
