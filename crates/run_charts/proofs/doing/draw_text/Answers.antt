use Rattle.run_charts.proofs.doing.draw_text.Goals as goal

pub returns : goal.returns
unfolding Rattle.run_charts.specs.EventDeeds.draw_text
returns c =
    rw (c.words.ensures, c.number.ensures) at c.sentence.ensures
