use Rattle.run_charts.proofs.saying.overheard_text.Goals as goal

pub returns : goal.returns
unfolding Rattle.run_charts.specs.RowSentences.overheard
returns c =
    rw (c.words.ensures, c.number.ensures, c.words-2.ensures, c.number-2.ensures) at c.sentence.ensures
