use Rattle.script_faults.proofs.wrong_words.with_near.Goals as goal

pub returns-in-Some : goal.returns-in-Some
returns-in-Some c = rw c.in-Some.is c.with_word.ensures
