-- How a station's plan is made over all that a node holds in memory.
use Rattle.std.proofs.Common.{◌≡◌, ℕ, Option, Some, None, length, refl}
use Rattle.std.specs.Option.{option_map}
use Rattle.plc_base.specs.declared.address.Eui.{Eui}
use Rattle.plc_base.specs.declared.key.Key.{Key}
use Rattle.plc_base.specs.Grant.{Granted}
use Rattle.joining_messages.specs.declared.message.JoinMessage.{JoinMessage}
use Rattle.node_rules.specs.declared.heard.Heard.{Heard}
use Rattle.node_rules.specs.Memory.{StationMemory, Memory}
use Rattle.node_rules.specs.Plans.{resting, within}
use Rattle.node_rules.specs.Drafts.{Draft, Lack, alone, lack}
use Rattle.node_rules.specs.HearingRules.{Hearing, dropped, dropped_for}
use Rattle.node_rules.specs.MemoryDrafts.{with_station, in_memory, command_lack}
use Rattle.node_rules.specs.JoiningPackets.{command_of}
use Rattle.node_rules.proofs.Words.{IsDone, of_station_done}
use Rattle.node_rules.proofs.MemoryDraftShapes.{whole, reading}
use Rattle.line_laws.proofs.Planned.{Planned, Refuses, Keeps, Ended}
use Rattle.line_laws.proofs.Made.{RingWord, Given}
use Rattle.line_laws.proofs.MadeIn.{MadeIn, Station}
use Rattle.line_laws.proofs.HearingForms.{IsNoUp, Handed, MadeOf}
use Rattle.line_laws.proofs.SetsOut.{LacksNothing, lacks_nothing}

-- what the line keeps beside the store, over all of the memory
pub data HandedIn {H : Type 0} (word : Heard → H) (g : Given) (m : Memory) : Memory → H → Type 0 where
  ByStation : (n : StationMemory) (h : Heard) → Handed g m.station n h → HandedIn word g m (with_station n m) (word h)

-- a command that lacks nothing
pub commands_well : (m : Memory) (to : ℕ) (message : JoinMessage) → command_lack m to message ≡ None → LacksNothing m.station to (length (command_of message))
commands_well m to message e = by_lack (lack m.station to (length (command_of message))) refl e
  where
    by_lack : (o : Option Lack) → lack m.station to (length (command_of message)) ≡ o → option_map dropped_for o ≡ None
        → LacksNothing m.station to (length (command_of message))
    by_lack None is e = lacks_nothing m.station to (length (command_of message)) is
    by_lack (Some x) is e = absurd (cc)

-- nothing is said of the answer
abbrev pub AnyAnswer : {H : Type 0} → H → Type 0
AnyAnswer answer = Unit {0}

module _ (W : RingWord → Type 0) (L : Granted → Type 0) (P : Eui → Key → Type 0) (E : Eui → Type 0) (g : Given) (m : Memory) where
  -- N holds of the answer
  abbrev pub MadeBy : {H : Type 0} → (H → Type 0) → Draft Memory → H → Type 0
  MadeBy N d answer = MadeIn W L P E g m d × IsDone m.station d × N answer

  pub within_planned : {H : Type 0} (N : H → Type 0) (word : Heard → H) (p : Hearing) → ((h : Heard) → IsNoUp h → N (word h))
      → Planned alone dropped m.station (Handed g m.station) (MadeOf W g m.station) p
      → Planned in_memory dropped m (HandedIn word g m) (MadeBy N) (within (λ l. with_station l m) (reading word) p)
  unfolding resting
  within_planned N word p says (Refuses reason) = Refuses reason
  within_planned N word p says (Keeps n answer k) = Keeps (with_station n m) (word answer) (ByStation n answer k)
  within_planned N word p says (Ended d answer done left) =
      Ended (whole m d) (word answer) (Station d done.0, of_station_done m d done.1, says answer done.2) left
