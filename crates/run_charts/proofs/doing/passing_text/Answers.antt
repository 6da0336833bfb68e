use Rattle.run_charts.proofs.doing.passing_text.Goals as goal

pub returns : goal.returns
unfolding Rattle.run_charts.specs.EventDeeds.passing_text
returns c =
    rw (c.number.ensures, c.words.ensures) at c.sentence.ensures
