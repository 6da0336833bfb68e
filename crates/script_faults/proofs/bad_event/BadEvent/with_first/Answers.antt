use Rattle.script_faults.proofs.bad_event.BadEvent.with_first.Goals as goal

pub returns : goal.returns
unfolding Rattle.script_faults.specs.EventFindings.first_is_in
returns c = rw (← c.self.view_is) (rw (c.words.ensures, c.number.ensures, c.made_row-row.ensures) at c.with.ensures)
