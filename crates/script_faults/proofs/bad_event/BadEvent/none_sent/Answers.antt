use Rattle.script_faults.proofs.bad_event.BadEvent.none_sent.Goals as goal

pub returns : goal.returns
unfolding Rattle.script_faults.specs.EventFindings.none_sent
returns c = rw (← c.self.view_is) (rw (c.words.ensures, c.number.ensures, c.words-2.ensures) at c.found.ensures)
