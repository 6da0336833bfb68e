use Rattle.script_faults.proofs.wrong_words.with_word.Goals as goal

pub returns : goal.returns
unfolding Rattle.script_faults.specs.WordFindings.near_note
returns c = rw (c.words.ensures, c.words-2.ensures, c.words-3.ensures) at c.with.ensures
