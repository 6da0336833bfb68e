use Rattle.run_maps.proofs.map.title_words.Goals as goal

pub returns : goal.returns
unfolding Rattle.run_maps.specs.Maps.title_words
returns c =
    rw (
      c.words.ensures,
      c.number.ensures,
      c.words-2.ensures,
      c.number-2.ensures,
      c.words-3.ensures,
    )
    at c.sentence.ensures
