use Rattle.script_faults.proofs.wrong_words.with_form.Goals as goal

pub returns : goal.returns
unfolding Rattle.script_faults.specs.WordFindings.form_note
returns c = rw (c.words.ensures, c.words-2.ensures, c.words-3.ensures, c.form_words-form.ensures) at c.with.ensures
