use Rattle.script_faults.proofs.bad_event.BadEvent.with_last_at.Goals as goal

pub returns : goal.returns
unfolding Rattle.script_faults.specs.EventFindings.last_note
returns c = rw (← c.self.view_is) (rw (
  c.words.ensures,
  c.number.ensures,
  c.words-2.ensures,
  c.number-2.ensures,
  c.words-3.ensures,
  c.number-3.ensures,
  c.words-4.ensures,
  c.number-4.ensures,
) at c.with.ensures)
