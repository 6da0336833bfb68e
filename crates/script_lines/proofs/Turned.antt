-- For machines: from a text that was written to the turn of a line.
use Rattle.std.proofs.Common.{List, ℕ, Ok, Err, Result, refl}
use Rattle.plc_base.specs.Streams.{SinkState}
use Rattle.script_lines.specs.declared.text_output.StopReason.{StopReason}
use Rattle.script_lines.specs.declared.text_output.StopReason.TheVariants as reasons
use Rattle.script_lines.specs.Outcomes.{Takes, Stops}
use Rattle.script_lines.specs.Clauses.{IsWritten, IsWrittenBy, StopsBy, StopsWith, Turned, TurnedBy}

stopped_by : {M : Type 0} (old new : SinkState) (text w : List ℕ) (m : M) (r : Result (Unit {0}) StopReason) → StopsBy w text old new r
    → TurnedBy w m m (Stops text) old new r
stopped_by old new text w m (Ok u) h = absurd h
stopped_by old new text w m (Err reasons.Memory) h = h
stopped_by old new text w m (Err reasons.WriteFault) h = h
stopped_by old new text w m (Err reasons.BadLine) h = (tt, h)

stops_short : (old new : SinkState) (text w : List ℕ) (reason : StopReason) → IsWrittenBy w text old new (Err reason) → StopsBy w text old new (Err reason)
stops_short old new text w reasons.Memory h = h
stops_short old new text w reasons.WriteFault h = h
stops_short old new text w reasons.BadLine h = absurd h

taken_by : {M : Type 0} (old new : SinkState) (text w : List ℕ) (m next : M) (r : Result (Unit {0}) StopReason) → IsWrittenBy w text old new r
    → TurnedBy w m next (Takes next text) old new r
taken_by old new text w m next (Ok u) h = (refl, h)
taken_by old new text w m next (Err reasons.Memory) h = h
taken_by old new text w m next (Err reasons.WriteFault) h = h
taken_by old new text w m next (Err reasons.BadLine) h = absurd h

-- the report of a bad line was written, or a prefix of it
pub written_stop : {old new : SinkState} (text : List ℕ) (u : Unit {0}) → IsWritten old new text (Ok u) → StopsWith old new text (Err reasons.BadLine)
written_stop {old} {new} text u t = record { w = t.w; wrote = t.wrote; by = t.is_written; faults = t.faults }

pub written_short : {old new : SinkState} (text : List ℕ) (reason : StopReason) → IsWritten old new text (Err reason) → StopsWith old new text (Err reason)
written_short {old} {new} text reason t = record { w = t.w; wrote = t.wrote; by = stops_short old new text t.w reason t.is_written; faults = t.faults }

-- a bad line stops any machine
pub stopped : {M : Type 0} {old new : SinkState} (text : List ℕ) (r : Result (Unit {0}) StopReason) → StopsWith old new text r → (m : M)
    → Turned old new m m (Stops text) r
stopped {M} {old} {new} text r t m = record { w = t.w; wrote = t.wrote; turned = stopped_by old new text t.w m r t.by; faults = t.faults }

-- a line was taken, and its report written
pub taken : {M : Type 0} {old new : SinkState} (text : List ℕ) (r : Result (Unit {0}) StopReason) → IsWritten old new text r → (m next : M)
    → Turned old new m next (Takes next text) r
taken {M} {old} {new} text r t m next = record { w = t.w; wrote = t.wrote; turned = taken_by old new text t.w m next r t.is_written; faults = t.faults }
