-- What a recorder makes of events and remarks.
use Rattle.std.specs.Prelude.{◌≡◌, ℕ, List, Option, Result, Ok, Err}
use Rattle.line_events.specs.declared.event.Event.{Event}
use Rattle.line_simulation.specs.declared.facts.Facts.{Facts}
use Rattle.line_simulation.specs.declared.recording.RecordFault.{RecordFault}
use Rattle.line_simulation.specs.declared.recording.RecordFault.TheVariants as faults

-- An event is taken, and its line is the next one of the script; or the line of nodes does not take it; or the script has no room for it. What is left is the
-- recorder after that.
pub data Recorded (R : Type 0) : Type 0 where
  Taken : (after : R) → (facts : Facts) → Recorded R
  Refused : (after : R) → Recorded R
  Full : (after : R) → Recorded R

-- A remark is the next line of the script, or it is not written.
pub data Remarked (R : Type 0) : Type 0 where
  Written : (after : R) → Remarked R
  Unwritten : (after : R) → Remarked R

-- What a recorder answers, as far as memory does.
pub record Recorder (R : Type 0) : Type 0 where
  -- what becomes of an event
  pub recorded : Event → R → Recorded R
  -- what becomes of a remark at a time in thousandths of a second
  pub remarked : ℕ → List ℕ → R → Remarked R
  -- the octets of a flight, and who sent it
  pub flight : ℕ → R → Option (List ℕ)
  pub sender : ℕ → R → Option ℕ
  -- how many flights there are
  pub flights : R → ℕ
  -- the clock of the line, in seconds
  pub clock : R → ℕ
  -- how many events more the script may have
  pub room : R → ℕ

abbrev pub RecordsNot : {R : Type 0} → RecordFault → Recorded R → R → Type 0
RecordsNot faults.Full recorded r = recorded ≡ Full r
RecordsNot faults.Refused recorded r = recorded ≡ Refused r
RecordsNot faults.Memory recorded r = Unit {0}

-- what a recorder answers to an event, and what it is then
abbrev pub Records : {R : Type 0} → Result Facts RecordFault → Recorded R → R → Type 0
Records (Ok facts) recorded r = recorded ≡ Taken r facts
Records (Err fault) recorded r = RecordsNot fault recorded r

abbrev pub RemarksNot : {R : Type 0} → RecordFault → Remarked R → R → Type 0
RemarksNot faults.Full remarked r = remarked ≡ Unwritten r
RemarksNot faults.Refused remarked r = remarked ≡ Unwritten r
RemarksNot faults.Memory remarked r = Unit {0}

-- what a recorder answers to a remark, and what it is then
abbrev pub Remarks : {R : Type 0} → Result (Unit {0}) RecordFault → Remarked R → R → Type 0
Remarks (Ok u) remarked r = remarked ≡ Written r
Remarks (Err fault) remarked r = RemarksNot fault remarked r
