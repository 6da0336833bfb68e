-- What the coordinator hears of a letter keeps the ranges.
use Rattle.std.proofs.Common.{◌≡◌, ℕ, ◌<◌, ◌≤◌, List, length, Some, refl, arith}
use Rattle.plc_base.specs.declared.address.Eui.{Eui}
use Rattle.plc_base.specs.declared.key.Key.{Key}
use Rattle.joining_messages.specs.declared.message.JoinMessage.{JoinMessage}
use Rattle.joining_messages.specs.Reader.{join_in}
use Rattle.node_rules.specs.Accepted.{Accepted}
use Rattle.node_rules.specs.declared.heard.CoordinatorHeard.TheVariants as coordinator_heard
use Rattle.node_rules.specs.Memory.{Memory, Load, Command}
use Rattle.node_rules.specs.Coordinators as coordinators
use Rattle.node_rules.specs.HearingRules.{dropped}
use Rattle.node_rules.specs.JoiningPackets.{command_of}
use Rattle.line_laws.specs.Ranges.{HasRoomInFrames, IsStationRanged}
use Rattle.line_laws.proofs.Made.{Given, RingWord, Carry}
use Rattle.line_laws.proofs.MemoryDraftForms.{HandedIn}
use Rattle.line_laws.proofs.CoordinatorForms.{IsReached, IsSaidDown, IsGranted, coordinator_is}
use Rattle.line_laws.proofs.NodeCalls.{heard_given}
use Rattle.joining_messages.proofs.JoinRanges.{read_fits}
use Rattle.line_laws.proofs.StoreFold.{WordFits}
use Rattle.line_laws.proofs.RangeFold.{InRange}
use Rattle.line_laws.proofs.RangePlans.{RangeOk, plan_ranged}
use Rattle.line_laws.proofs.RangeHeard.{handed_ranged}

-- an EUI of eight octets
abbrev pub HasEight : Eui → Type 0
HasEight eui = length eui.0 ≡ 8

-- What the coordinator says goes to one node, and fits a command.
pub record SpeaksWell (own : coordinators.CoordinatorIdentity) (g : Given) (m : Memory) : Type 0 where
  pub reached : (to : ℕ) → IsReached g m to → to < 0xFFFE
  pub short : (join : JoinMessage) → IsSaidDown HasEight own m join → length (command_of join) ≤ 375

-- what it says, and no more
pub data SaysOnly (own : coordinators.CoordinatorIdentity) (g : Given) (m : Memory) : RingWord → Type 0 where
  ToMeter : (to : ℕ) (join : JoinMessage) → IsReached g m to → IsSaidDown HasEight own m join → SaysOnly own g m (Carry to 0 (Command (command_of join)))

pub coordinator_carries : (own : coordinators.CoordinatorIdentity) (g : Given) (m : Memory) → SpeaksWell own g m → (to n : ℕ) (load : Load)
    → SaysOnly own g m (Carry to n load) → (to < 0xFFFE) × HasRoomInFrames load
coordinator_carries own g m speaks to n load (ToMeter t join there said) = (speaks.reached t there, speaks.short join said)

pub coordinator_words : (own : coordinators.CoordinatorIdentity) (g : Given) (m : Memory) (w : RingWord) → SaysOnly own g m w → WordFits w
coordinator_words own g m w (ToMeter to join there said) = omega arith

abbrev AnyKey : Eui → Key → Type 0
AnyKey eui psk = Unit {0}

any_eui : (octets : List ℕ) (join : JoinMessage) → join_in octets ≡ Some join → HasEight join.eui
any_eui octets join e = (read_fits join octets e).eui

pub coordinator_hears_ranged : (own : coordinators.CoordinatorIdentity) (m : Memory) (got : Accepted) (cost note now : ℕ)
    → InRange (SaysOnly own (heard_given got cost note now) m) (heard_given got cost note now) → IsStationRanged m.station
    → RangeOk (coordinators.hear_coordinator own m got cost note now)
coordinator_hears_ranged own m got cost note now known h =
    plan_ranged (SaysOnly own (heard_given got cost note now) m) (λ granted. IsGranted m granted) AnyKey HasEight (heard_given got cost note now) known m h
    dropped (HandedIn coordinator_heard.Station (heard_given got cost note now) m) _
    (λ k answer x. handed_ranged coordinator_heard.Station (heard_given got cost note now) m k answer x h) (λ d answer x. x.0) _
    (coordinator_is (SaysOnly own (heard_given got cost note now) m) AnyKey HasEight (heard_given got cost note now) own m
    (λ to there join said. ToMeter to join there said) got refl (λ u join e read. any_eui u.body join read))
