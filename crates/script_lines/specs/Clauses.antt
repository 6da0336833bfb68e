-- What a machine's calls and the run over it say.
use Rattle.std.specs.Prelude.{◌≡◌, ℕ, ◌≤◌, Bool, true, false, List, [], length, Result, Ok, Err, IsTrue}
use Rattle.std.specs.Io.KnownBytes.{Appends}
use Rattle.plc_base.specs.Streams.{SourceState, SinkState, Gives, SourceFaults, SinkFaults, SourceRose, SinkRose, PlansRoomFor, IsPrefixOf}
use Rattle.script_lines.specs.declared.machine.Exit.{Exit}
use Rattle.script_lines.specs.declared.machine.Exit.TheVariants as exits
use Rattle.script_lines.specs.declared.text_output.StopReason.{StopReason}
use Rattle.script_lines.specs.declared.text_output.StopReason.TheVariants as stops
use Rattle.script_lines.specs.declared.window.TheConstants.{WINDOW}
use Rattle.script_lines.specs.Outcomes.{Turn, Skips, Takes, Stops, Ended, Open, Outcome, StopsShortOf, BreaksOff, MayBreakOff}

-- w was written of a text: all of it, or a prefix where memory ran out or the sink failed
abbrev pub IsWrittenBy : List ℕ → List ℕ → SinkState → SinkState → Result (Unit {0}) StopReason → Type 0
IsWrittenBy w text old new (Ok _) = w ≡ text
IsWrittenBy w text old new (Err stops.Memory) = IsPrefixOf w text
IsWrittenBy w text old new (Err stops.WriteFault) = SinkRose old new × IsPrefixOf w text
IsWrittenBy w text old new (Err stops.BadLine) = ⊥

-- a text was written
pub record IsWritten (old new : SinkState) (text : List ℕ) (result : Result (Unit {0}) StopReason) : Type 0 where
  pub w : List ℕ
  pub wrote : Appends old.taken new.taken w
  pub is_written : IsWrittenBy w text old new result
  pub faults : SinkFaults old new (length text)

-- w was written of the report of a bad line: all of it, and the run stops there, or a prefix of it
abbrev pub StopsBy : List ℕ → List ℕ → SinkState → SinkState → Result (Unit {0}) StopReason → Type 0
StopsBy w text old new (Err stops.BadLine) = w ≡ text
StopsBy w text old new (Err stops.Memory) = IsPrefixOf w text
StopsBy w text old new (Err stops.WriteFault) = SinkRose old new × IsPrefixOf w text
StopsBy w text old new (Ok _) = ⊥

-- the report of a bad line was written
pub record StopsWith (old new : SinkState) (text : List ℕ) (result : Result (Unit {0}) StopReason) : Type 0 where
  pub w : List ℕ
  pub wrote : Appends old.taken new.taken w
  pub by : StopsBy w text old new result
  pub faults : SinkFaults old new (length text)

abbrev pub turn_text : {M : Type 0} → Turn M → List ℕ
turn_text Skips = []
turn_text (Takes next text) = text
turn_text (Stops text) = text

-- the run goes on after a line's turn, which w reports
abbrev pub GoesOn : {M : Type 0} → List ℕ → M → M → Turn M → Type 0
GoesOn w m0 m1 Skips = (m1 ≡ m0) × (w ≡ [])
GoesOn w m0 m1 (Takes next text) = (m1 ≡ next) × (w ≡ text)
GoesOn w m0 m1 (Stops text) = ⊥

abbrev pub IsStop : {M : Type 0} → Turn M → Type 0
IsStop Skips = ⊥
IsStop (Takes next text) = ⊥
IsStop (Stops text) = Unit {0}

-- a line had its turn, and w was written of its report
abbrev pub TurnedBy : {M : Type 0} → List ℕ → M → M → Turn M → SinkState → SinkState → Result (Unit {0}) StopReason
    → Type 0
TurnedBy w m0 m1 turn old new (Ok _) = GoesOn w m0 m1 turn
TurnedBy w m0 m1 turn old new (Err stops.BadLine) = IsStop turn × (w ≡ turn_text turn)
TurnedBy w m0 m1 turn old new (Err stops.Memory) = IsPrefixOf w (turn_text turn)
TurnedBy w m0 m1 turn old new (Err stops.WriteFault) = SinkRose old new × IsPrefixOf w (turn_text turn)

-- a line had its turn
pub record Turned {M : Type 0} (old new : SinkState) (m0 m1 : M) (turn : Turn M)
    (result : Result (Unit {0}) StopReason) : Type 0 where
  pub w : List ℕ
  pub wrote : Appends old.taken new.taken w
  pub turned : TurnedBy w m0 m1 turn old new result
  pub faults : SinkFaults old new (length (turn_text turn))

-- ---- the whole run

-- how a run ends at which a machine's call ends it
abbrev pub exit_of : StopReason → Exit
exit_of stops.BadLine = exits.BadScript
exit_of stops.Memory = exits.Memory
exit_of stops.WriteFault = exits.WriteFault

-- What an exit says, over the octets b that were given, the text w that was written and what b does by the outcome: at the end of
-- input, that it is in the state `last`, and that w is the whole text; at a bad line, that few octets are read after it; where the
-- text could not be written whole, the line in which it breaks off, and that few octets are read after that line.
abbrev pub Comes : {M : Type 0} → (List ℕ → Bool → Outcome M) → M → SourceState → SourceState → SinkState → SinkState
    → List ℕ → List ℕ → Exit → Type 0
Comes outcome last source0 source1 sink0 sink1 b w exits.Fine =
    IsTrue source1.ended × ((outcome b true).ending ≡ Ended last) × (w ≡ (outcome b true).text)
Comes outcome last source0 source1 sink0 sink1 b w exits.BadScript =
    StopsShortOf WINDOW (outcome b source1.ended).ending × (w ≡ (outcome b source1.ended).text)
Comes outcome last source0 source1 sink0 sink1 b w exits.ReadFault =
    SourceRose source0 source1 × ((outcome b false).ending ≡ Open) × (w ≡ (outcome b false).text)
Comes outcome last source0 source1 sink0 sink1 b w exits.WriteFault =
    SinkRose sink0 sink1 × IsPrefixOf w (outcome b source1.ended).text
    × BreaksOff WINDOW (λ octets ended. (outcome octets ended).text) b w source1.ended
Comes outcome last source0 source1 sink0 sink1 b w exits.Memory =
    IsPrefixOf w (outcome b source1.ended).text
    × MayBreakOff WINDOW (λ octets ended. (outcome octets ended).text) b w source1.ended

-- What a run did: what the source gave, what the sink took, why it ended so, and where neither can have failed.
pub record Drives {M : Type 0} (outcome : List ℕ → Bool → Outcome M) (last : M) (source0 source1 : SourceState)
    (sink0 sink1 : SinkState) (exit : Exit) : Type 0 where
  pub b : List ℕ
  pub w : List ℕ
  pub gave : Gives source0 source1 b
  pub wrote : Appends sink0.taken sink1.taken w
  pub comes : Comes outcome last source0 source1 sink0 sink1 b w exit
  pub source : SourceFaults source0 source1
  pub sink_later : sink0.faults ≤ sink1.faults
  -- no write fails where none is to and there is room for the whole text
  pub sink_none : PlansRoomFor (length (outcome b source1.ended).text) sink0.plan → sink1.faults ≡ sink0.faults
