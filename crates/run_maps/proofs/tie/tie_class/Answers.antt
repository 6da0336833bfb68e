use Rattle.run_maps.proofs.tie.tie_class.Goals as goal

pub returns : goal.returns
unfolding Rattle.run_maps.specs.Ties.tie_class
returns c =
    rw (
      c.words.ensures,
      c.number.ensures,
      c.thickness.ensures,
      c.words-2.ensures,
      c.dash.ensures,
    )
    at c.sentence.ensures
