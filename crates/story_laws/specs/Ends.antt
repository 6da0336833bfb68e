-- How an event ends what a node keeps of a story, by the rules of the network and by what is recorded of the event.
use Rattle.std.specs.Prelude.{◌≡◌, ℕ, ◌+◌, ◌-◌, ◌||◌, ◌&&◌, Bool, true, false, not, None, Some, Ok, ◌⊎◌}
use Rattle.plc_base.specs.Times.{is_within}
use Rattle.node_rules.specs.Ciphers.{Ciphers}
use Rattle.node_rules.specs.Memory.{StationMemory}
use Rattle.line_events.specs.declared.event.Answer.{Answer}
use Rattle.line_events.specs.declared.event.Answer.TheVariants as answers
use Rattle.line_events.specs.declared.event.Event.{Event}
use Rattle.line_events.specs.declared.event.Event.TheVariants as events
use Rattle.line_rules.specs.Further.{line_step}
use Rattle.line_rules.specs.Worlds.{World, Trace}
use Rattle.line_progress.specs.EventFates.{Ended, MayLeave, hides_a_loss}
use Rattle.line_progress.specs.Stations.{station_at}
use Rattle.line_progress.specs.UnitFates.{is_datagram_end}
use Rattle.line_record.specs.declared.kept.Kept.{Kept}
use Rattle.line_record.specs.declared.kept.KeptEnd.{KeptEnd}
use Rattle.line_record.specs.declared.kept.KeptEnd.TheVariants as kept_ends
use Rattle.line_record.specs.declared.recorded.RecordedEvent.{RecordedEvent}
use Rattle.line_record.specs.Acts.{act_of}
use Rattle.line_record.specs.KeptItems.{end_of, is_power_lost, time_of}
use Rattle.line_record.specs.Kinds.{actor_of, is_dropped, is_reported}
use Rattle.line_record.specs.RunRecords.{recorded_event}

-- what is recorded of an event of a line that made the world what it is: of a line of this number, and where it injects the octets of a flight, of that one
abbrev pub recorded_by : (row same : ℕ) → Event → World × Trace → RecordedEvent
recorded_by row same event r = recorded_event row event r.1.happenings r.0.clock same

-- how an event ends what a node has kept for so long
abbrev pub EndedKept : World → Event → Kept → World × Trace → Type 0
EndedKept w event k r = Ended w event k.node k.clock (time_of k.gathered) r

-- Its story names the kind of an end, the event with its number, and the age of what was dropped by age.
pub data IsNamedEnd (w : World) (event : Event) (k : Kept) (n : ℕ) (r : World × Trace) : KeptEnd → Type 0 where
  NamesAge : (seconds : ℕ) → event ≡ events.Tick seconds → is_within (time_of k.gathered) (w.clock + seconds) k.clock ≡ false
      → IsNamedEnd w event k n r (kept_ends.Aged n ((w.clock + seconds) - k.clock))
  NamesRestart : event ≡ events.Restart k.node → IsNamedEnd w event k n r (kept_ends.Restarted n)
  NamesLeaving : MayLeave event k.node → r.1.happenings.answer ≡ answers.Left → IsNamedEnd w event k n r (kept_ends.Left n)
  NamesLoss : r.1.happenings.answer ≡ answers.Store → actor_of (act_of event) ≡ k.node → IsNamedEnd w event k n r (kept_ends.Halted n)

-- The node has halted in an event whose answer never says so.
abbrev pub HaltsUnsaid : Event → Kept → World × Trace → Type 0
HaltsUnsaid event k r = (hides_a_loss event ≡ true) × (station_at r.0 k.node ≡ None)

-- where an event of a line ends what a node that runs has kept, the end that is recorded is of that kind, or nothing says that the node has halted
abbrev pub EndsAreRecorded : Type 0
EndsAreRecorded =
    (ciphers : Ciphers) (w v : World) (event : Event) (d : Trace) → line_step ciphers w event ≡ Ok (v, d)
    → (k : Kept) (l : StationMemory) → station_at w k.node ≡ Some l → EndedKept w event k (v, d)
    → (row same n : ℕ) → IsNamedEnd w event k n (v, d) (end_of n (recorded_by row same event (v, d)) k) ⊎ HaltsUnsaid event k (v, d)

-- What is recorded of an end is so: it is of the kind that is named, and where none is named the event did not end what is kept, unless nothing says that
-- the node has halted.
pub data IsRecordedRight (w : World) (event : Event) (k : Kept) (n : ℕ) (r : World × Trace) (end : KeptEnd) : Type 0 where
  IsNamed : IsNamedEnd w event k n r end → IsRecordedRight w event k n r end
  IsNone : end ≡ kept_ends.Still → (EndedKept w event k r → HaltsUnsaid event k r) → IsRecordedRight w event k n r end

abbrev pub RecordedEndsAreSo : Type 0
RecordedEndsAreSo =
    (ciphers : Ciphers) (w v : World) (event : Event) (d : Trace) → line_step ciphers w event ≡ Ok (v, d)
    → (k : Kept) (l : StationMemory) → station_at w k.node ≡ Some l
    → (row same n : ℕ) → IsRecordedRight w event k n (v, d) (end_of n (recorded_by row same event (v, d)) k)

-- # Answers

abbrev pub is_bad_unit : Answer → Bool
is_bad_unit answers.BadUnit = true
is_bad_unit _ = false

-- the answers with which a datagram ends at a node by the rules are those by which a story has it dropped, but for what is no unit, and that a report
-- of its end goes out, or that power was lost
abbrev pub DropsAreEnds : Type 0
DropsAreEnds =
    (answer : Answer) → is_datagram_end answer ≡ (is_dropped answer && not (is_bad_unit answer)) || (is_reported answer || is_power_lost answer)
