use Rattle.script_faults.proofs.bad_event.BadEvent.late_word.Goals as goal

pub returns : goal.returns
unfolding Rattle.script_faults.specs.EventFindings.late_word
returns c = rw (← c.self.view_is)
    (rw (c.words.ensures, c.words-2.ensures, c.octets.ensures, c.words-3.ensures, c.number.ensures, c.word_at-word.ensures.word) at c.found.ensures)
