use Rattle.script_faults.proofs.bad_event.BadEvent.not_so_many.Goals as goal

pub returns : goal.returns
unfolding Rattle.script_faults.specs.EventFindings.not_so_many
returns c = rw (← c.self.view_is) (rw (c.words.ensures, c.number.ensures, c.words-2.ensures, c.number-2.ensures, c.words-3.ensures) at c.found.ensures)
