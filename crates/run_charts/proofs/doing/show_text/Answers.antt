use Rattle.run_charts.proofs.doing.show_text.Goals as goal

pub returns : goal.returns
unfolding Rattle.run_charts.specs.EventDeeds.show_text
returns c =
    rw (c.words.ensures, c.node.ensures, c.words-2.ensures) at c.sentence.ensures
