-- What an item makes a meter do, and what is written of it.
use Rattle.std.specs.Prelude.{◌≡◌, ◌⊎◌, ⊤, ℕ, List, [], Option, Some, None, Result, Err, IsSome}
use Rattle.plc_base.specs.Keeper.{Store, Write}
use Rattle.plc_base.specs.declared.keeper.BadStore as keeper
use Rattle.plc_base.specs.declared.streams.Failed.{Failed}
use Rattle.plc_base.specs.Streams.{SinkState, HasWritten}
use Rattle.node_rules.specs.Memory as memory
use Rattle.meter_node.specs.MeterStates.{MeterState}
use Rattle.host_calls.specs.declared.answers.Given.{Given}
use Rattle.host_calls.specs.declared.calls.Call.{Call}
use Rattle.host_calls.specs.declared.status.Status.{Status}
use Rattle.host_calls.specs.declared.status.Status.TheVariants.{Halted, BadStore, Malformed, Memory}
use Rattle.host_calls.specs.Answers.{none_given, answer_text}
use Rattle.host_calls.specs.Calls.{call_in}
use Rattle.meter_host.specs.CallEffects.{Made}

-- # Opening

-- why a meter was not opened: a record has no reading, or there is no memory
abbrev pub NotOpened : Result memory.Memory keeper.BadStore → Status → Type 0
NotOpened (Err bad) BadStore = ⊤
NotOpened read Memory = ⊤
NotOpened read status = ⊥

-- # Calls

-- how a call ended that leaves this memory
abbrev pub unless_halted : Option memory.StationMemory → Status → Status
unless_halted None status = Halted
unless_halted (Some l) status = status

-- The meter was halted, and nothing is done.
pub record WasHalted (old : MeterState) (status : Status) (given : Given) (new : MeterState) : Type 0 where
  pub halted : old.station.memory ≡ None
  pub ended : status ≡ Halted
  pub none : given ≡ none_given
  pub same : new ≡ old

-- The item spells no call, and nothing is done.
pub record WasNoCall (call : Option Call) (old : MeterState) (status : Status) (given : Given) (new : MeterState) : Type 0 where
  pub running : IsSome old.station.memory
  pub is_none : call ≡ None
  pub ended : status ≡ Malformed
  pub none : given ≡ none_given
  pub same : new ≡ old

-- The call that the item spells is made.
pub record WasMade (spelled : Option Call) (old : MeterState) (status : Status) (given : Given) (new : MeterState) : Type 0 where
  pub running : IsSome old.station.memory
  pub call : Call
  pub is_some : spelled ≡ Some call
  pub told : Status
  pub made : Made call old told given new
  pub ended : status ≡ unless_halted new.station.memory told

-- an item of this kind with these octets came to a meter
abbrev pub Called : ℕ → List ℕ → MeterState → Status → Given → MeterState → Type 0
Called kind octets old status given new =
    WasHalted old status given new ⊎ (WasNoCall (call_in kind octets) old status given new ⊎ WasMade (call_in kind octets) old status given new)

-- # Answers

-- the puts that a keeper lists, none where it lists none
abbrev pub listed_puts : Option (List Write) → List Write
listed_puts None = []
listed_puts (Some puts) = puts

abbrev pub puts_in : Store → List Write
puts_in store = listed_puts store.listed

-- the same meter, whose keeper lists no put
abbrev pub all_stored : MeterState → MeterState
all_stored m = record m { station = record m.station { store = record m.station.store { listed = Some [] } } }

-- What an item makes the meter do is done, and its puts, its frames, what is handed up and how it ended are written.
pub record Answers (kind : ℕ) (octets : List ℕ) (old new : MeterState) (before after : SinkState) (result : Result (Unit {0}) Failed) : Type 0 where
  pub mid : MeterState
  pub status : Status
  pub given : Given
  pub called : Called kind octets old status given mid
  pub stored : new ≡ all_stored mid
  pub written : HasWritten before after result (answer_text (puts_in mid.station.store) given status)
