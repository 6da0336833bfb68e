use Rattle.run_maps.proofs.tie.unknown_words.Goals as goal

pub returns : goal.returns
unfolding Rattle.run_maps.specs.Ties.unknown_words
returns c =
    rw (
      c.node.ensures,
      c.words.ensures,
      c.node-2.ensures,
      c.words-2.ensures,
      c.hearing.ensures,
    )
    at c.sentence.ensures
