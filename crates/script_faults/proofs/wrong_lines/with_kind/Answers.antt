use Rattle.script_faults.proofs.wrong_lines.with_kind.Goals as goal

pub returns : goal.returns
unfolding Rattle.script_faults.specs.LineFindings.meant_note
returns c =
    rw (c.words.ensures, c.words-2.ensures, c.words-3.ensures, c.words-4.ensures, c.words-5.ensures, c.form_words-form.ensures, c.word-word.ensures)
    at c.with.ensures
