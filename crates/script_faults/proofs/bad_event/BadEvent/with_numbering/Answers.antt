use Rattle.script_faults.proofs.bad_event.BadEvent.with_numbering.Goals as goal

pub returns : goal.returns
unfolding Rattle.script_faults.specs.EventFindings.numbering_note
returns c = rw (← c.self.view_is)
    (rw (c.words.ensures, c.number.ensures, c.words-2.ensures, c.number-2.ensures, c.made_row-row.ensures, c.last_of-last.ensures) at c.with.ensures)
