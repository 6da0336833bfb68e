use Rattle.script_faults.proofs.bad_event.put_depot.Goals as goal

pub returns : goal.returns
unfolding Rattle.script_faults.specs.EventFindings.put_depot
returns c = rw (c.words.ensures, c.number.ensures, c.words-2.ensures) at c.with.ensures
