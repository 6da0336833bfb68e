use Rattle.script_faults.proofs.bad_event.BadEvent.for_a_meter.Goals as goal

pub returns : goal.returns
unfolding Rattle.script_faults.specs.EventFindings.for_a_meter
returns c = rw (← c.self.view_is) (rw (
  c.words.ensures,
  c.octets.ensures,
  c.words-2.ensures,
  c.words-3.ensures,
  c.number.ensures,
  c.last_of-last.ensures,
  c.word_at-word.ensures.word,
) at c.found.ensures)
