-- The turn of a line, from what was looked at and written.
use Rattle.std.proofs.Common.{◌≡◌, ℕ, ◌+◌, List, [], ◌++◌, length, Option, None, Some, Ok, Err, Result, sym, ap, ◌∙◌, refl, subst, arith}
use Rattle.std.specs.Io.KnownBytes.{Appends}
use Rattle.std.proofs.lemmas.Grind.{common_steps}
use Rattle.plc_base.specs.Streams.{SinkState, WritePlan, PlansRoomFor}
use Rattle.script_lines.specs.declared.text_output.StopReason.{StopReason}
use Rattle.script_lines.specs.declared.text_output.StopReason.TheVariants as reasons
use Rattle.script_lines.specs.Outcomes.{Turn, Stops}
use Rattle.script_lines.specs.Clauses.{IsWritten, StopsBy, StopsWith, Turned, TurnedBy, turn_text}
use Rattle.script_lines.proofs.Turned.{taken, written_stop, written_short}
use Rattle.line_view.specs.CheckRuns.{CheckRun, Look, after, look_text, end_of, turn_by, stop_by}
use Rattle.line_view.specs.Checked.{Looked, LooksLast, bad_line}

pub nothing_appended : (taken : Option (List ℕ)) → Appends taken taken []
nothing_appended None = tt
nothing_appended (Some xs) = grind (arith, common_steps)

pub room_of : (plan : Option WritePlan) (n more : ℕ) → PlansRoomFor (n + more) plan → PlansRoomFor more plan
room_of None n more room = absurd room
room_of (Some plan) n more room = let within = room.1 in (room.0, omega (arith, within))

-- memory ran out before anything was written
pub unwritten : {M : Type 0} (s : SinkState) (m0 m1 : M) (turn : Turn M) → Turned s s m0 m1 turn (Err reasons.Memory)
unwritten s m0 m1 turn = record {
  w = [];
  wrote = nothing_appended s.taken;
  turned = record { rest = turn_text turn; whole = refl };
  faults = record { later = omega arith; none = λ more room. (room_of s.plan (length (turn_text turn)) more room, refl) };
}

-- a line was looked at, and what is said of it was written
pub turned : {old new : SinkState} (text0 text1 shown : List ℕ) (c0 c1 : CheckRun) (number : ℕ) (line : List ℕ) (look : Look) (r : Result (Unit {0}) StopReason)
    → text0 ≡ [] → shown ≡ text1 → Looked text0 text1 c0 c1 number line look → ((t : List ℕ) → shown ≡ t → IsWritten old new t r)
    → Turned old new c0 c1 (turn_by number line look c0) r
turned {old} {new} text0 text1 shown c0 c1 number line look r none is looked written =
    subst (λ m. Turned old new c0 m (turn_by number line look c0) r) (sym looked.checking)
    (taken (look_text number line look c0) r
    (written (look_text number line look c0) (is ∙ looked.text ∙ ap (λ (l : List ℕ). l ++ look_text number line look c0) none))
    c0 (after number line look c0))

stopped_by : (old new : SinkState) (text w : List ℕ) (c0 c1 : CheckRun) (r : Result (Unit {0}) StopReason) → StopsBy w text old new r
    → TurnedBy w c0 c1 (Stops text) old new r
stopped_by old new text w c0 c1 (Ok u) h = absurd h
stopped_by old new text w c0 c1 (Err reasons.Memory) h = h
stopped_by old new text w c0 c1 (Err reasons.WriteFault) h = h
stopped_by old new text w c0 c1 (Err reasons.BadLine) h = (tt, h)

stopped : {old new : SinkState} (text : List ℕ) (c0 c1 : CheckRun) (r : Result (Unit {0}) StopReason) → StopsWith old new text r
    → Turned old new c0 c1 (Stops text) r
stopped {old} {new} text c0 c1 r t = record { w = t.w; wrote = t.wrote; turned = stopped_by old new text t.w c0 c1 r t.by; faults = t.faults }

last_text : (text0 text1 shown : List ℕ) (c : CheckRun) (number : ℕ) (look : Look) → text0 ≡ [] → shown ≡ text1 → LooksLast text0 text1 c number look
    → shown ≡ look_text number [] look c ++ end_of (after number [] look c)
last_text text0 text1 shown c number look none is looked =
    is ∙ looked ∙ ap (λ (l : List ℕ). l ++ (look_text number [] look c ++ end_of (after number [] look c))) none

-- what a bad line answers, once its text was written or not
pub stops_by : {old new : SinkState} (text : List ℕ) (r : Result (Unit {0}) StopReason) → IsWritten old new text r → StopsWith old new text (bad_line r)
stops_by text (Ok u) t = written_stop text u t
stops_by text (Err reason) t = written_short text reason t

-- the octet that is too much was reported, with the last lines
stopped_last : {old new : SinkState} (text : List ℕ) (c0 c1 : CheckRun) (r : Result (Unit {0}) StopReason) → IsWritten old new text r
    → Turned old new c0 c1 (Stops text) (bad_line r)
stopped_last text c0 c1 r t = stopped text c0 c1 (bad_line r) (stops_by text r t)

pub turned_stop : {old new : SinkState} (text0 text1 shown : List ℕ) (c0 c1 : CheckRun) (number : ℕ) (look : Look) (r : Result (Unit {0}) StopReason)
    → text0 ≡ [] → shown ≡ text1 → LooksLast text0 text1 c0 number look → ((t : List ℕ) → shown ≡ t → IsWritten old new t r)
    → (answer : Result (Unit {0}) StopReason) → answer ≡ bad_line r → Turned old new c0 c1 (stop_by number look c0) answer
turned_stop {old} {new} text0 text1 shown c0 c1 number look r none is looked written answer ends =
    let text = look_text number [] look c0 ++ end_of (after number [] look c0) in
    subst (λ (a : Result (Unit {0}) StopReason). Turned old new c0 c1 (stop_by number look c0) a) (sym ends)
    (stopped_last text c0 c1 r (written text (last_text text0 text1 shown c0 number look none is looked)))
