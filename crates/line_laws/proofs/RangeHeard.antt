-- What a node hears of a letter is in the letter's ranges.
use Rattle.std.proofs.Common.{◌≡◌, ℕ, ◌<◌, ◌≤◌, Bool, false, length, Some, refl, sym, ap, ◌∙◌, subst, arith}
use Rattle.std.specs.Prelude.{◌==◌}
use Rattle.std.proofs.lemmas.Bool.{eqb-true}
use Rattle.std.proofs.lemmas.Option.{same_Some}
use Rattle.plc_base.specs.declared.key.Key.{Key}
use Rattle.mesh_header.specs.declared.unit.Unit.{Unit as MeshUnit}
use Rattle.mesh_header.specs.declared.unit.Unit.TheVariants as units
use Rattle.mesh_header.specs.Reader.{unit_in}
use Rattle.loadng_messages.specs.declared.message.Message.{Message}
use Rattle.loadng_messages.specs.Grammar as messages
use Rattle.loadng_messages.specs.Reader.{message_in}
use Rattle.joining_messages.specs.declared.message.JoinMessage.{JoinMessage}
use Rattle.node_rules.specs.declared.heard.Path.{Path}
use Rattle.node_rules.specs.declared.heard.Path.TheVariants as paths
use Rattle.node_rules.specs.Accepted.{Accepted}
use Rattle.node_rules.specs.declared.heard.Heard.{Heard}
use Rattle.node_rules.specs.declared.heard.MeterHeard.TheVariants as meter_heard
use Rattle.node_rules.specs.Frames.{SealedUnit, to_all}
use Rattle.node_rules.specs.Memory.{StationMemory, Memory, Load}
use Rattle.node_rules.specs.JoiningPackets.{command_of}
use Rattle.node_rules.specs.HearingRules.{dropped}
use Rattle.node_rules.specs.Meters as meters
use Rattle.loadng_messages.proofs.Readings.{message_read}
use Rattle.line_laws.specs.SealedUnits.{IsFit, IsRoute, IsSealedUnit}
use Rattle.line_laws.specs.Ranges.{HasRoomInFrames, IsStationRanged}
use Rattle.line_laws.proofs.LetterAccepts.{IsOfLetter}
use Rattle.line_laws.proofs.Made.{Given, IsCome, MessageCame, RingWord, Carry}
use Rattle.line_laws.proofs.HearingForms.{Handed, HandsUp, HandsOn, Gathers, Completes}
use Rattle.line_laws.proofs.MemoryDraftForms.{HandedIn, ByStation}
use Rattle.line_laws.proofs.MeterForms.{RingCause, ToCoordinator, IsSaidUp, meter_is}
use Rattle.line_laws.proofs.NodeCalls.{NoGrant, NoPair, NoEui, heard_given}
use Rattle.line_laws.proofs.StoreFold.{WordFits}
use Rattle.line_laws.proofs.RangeFold.{InRange}
use Rattle.line_laws.proofs.RangePlans.{RangeOk, plan_ranged}

-- the fields of a path
abbrev by_of : Path → ℕ
by_of (paths.Sealed from all key) = from
by_of (paths.Up from) = 0
by_of (paths.Down from) = 0

abbrev all_of : Path → Bool
all_of (paths.Sealed from all key) = all
all_of (paths.Up from) = false
all_of (paths.Down from) = false

module _ (l : SealedUnit) (fits : IsSealedUnit l) (from counter : ℕ) (got : Accepted) (is : IsOfLetter l from counter got) (cost note now : ℕ) where
  abbrev pub heard : Given
  heard = heard_given got cost note now

  -- what came is the letter's unit, from the letter's sender
  pub comes_of : (by : ℕ) (all : Bool) (u : MeshUnit) → IsCome heard by all u → (by ≡ l.from) × (u ≡ l.unit) × (all ≡ (l.to == to_all))
  comes_of by all u c =
      let same : got ≡ c.got = same_Some got c.got c.is in
      let path : paths.Sealed by all c.key ≡ paths.Sealed l.from (l.to == to_all) l.key = sym c.path ∙ ap (λ (x : Accepted). x.path) (sym same) ∙ is.path in
      (ap by_of path, same_Some u l.unit (sym c.unit ∙ ap (λ (x : Accepted). unit_in x.payload) (sym same) ∙ is.unit), ap all_of path)

  heard_fits : (by : ℕ) (all : Bool) (u : MeshUnit) → IsCome heard by all u → (by < 0xFFFE) × IsFit u
  heard_fits by all u c = let x = comes_of by all u c in (subst (λ a. a < 0xFFFE) (sym x.0) fits.from, subst IsFit (sym x.1) fits.unit)

  -- a route message is the one that the letter's unit spells
  agents_after : (by : ℕ) (all : Bool) (message : Message) → MessageCame heard by all message → messages.IsMessage message
  agents_after by all message t =
      let x = comes_of by all (units.Local t.code t.body) t.came in
      let r : IsRoute (units.Local t.code t.body) = subst IsRoute (sym x.1) fits.route in
      let m = r (eqb-true t.code 1 t.first) in
      let read : message_in t.body ≡ Some m.0 = message_read m.0 t.body (m.1, m.2) in
      subst messages.IsMessage (same_Some m.0 message (sym read ∙ t.read)) m.1

  pub heard_ranged : (W : RingWord → Type 0) → ((to n : ℕ) (load : Load) → W (Carry to n load) → (to < 0xFFFE) × HasRoomInFrames load)
      → ((w : RingWord) → W w → WordFits w) → InRange W heard
  heard_ranged W carries words = record { comes = heard_fits; came_so = agents_after; near = λ by e. absurd (cc); carries = carries; words = words }

-- a plain frame brings no unit
pub plain_ranged : (got : Accepted) (cost note now : ℕ) → ((from : ℕ) (all : Bool) (key : Key) → got.path ≡ paths.Sealed from all key → ⊥)
    → (W : RingWord → Type 0)
    → ((to n : ℕ) (load : Load) → W (Carry to n load) → (to < 0xFFFE) × HasRoomInFrames load) → ((w : RingWord) → W w → WordFits w)
    → InRange W (heard_given got cost note now)
plain_ranged got cost note now plain W carries words = record {
  comes = λ by all u c. absurd (plain by all c.key (ap (λ (x : Accepted). x.path) (same_Some got c.got c.is) ∙ c.path));
  came_so = λ by all message t. absurd (plain by all t.came.key (ap (λ (x : Accepted). x.path) (same_Some got t.came.got t.came.is) ∙ t.came.path));
  near = λ by e. absurd (cc);
  carries = carries;
  words = words;
}

-- # A meter

-- what the line keeps beside the store
pub handed_ranged : {H : Type 0} (word : Heard → H) (g : Given) (m : Memory) (n : Memory) (answer : H) → HandedIn word g m n answer → IsStationRanged m.station
    → IsStationRanged n.station
handed_ranged word g m n answer (ByStation l a k) h = of_station_handed g m.station l a k h
  where
    of_station_handed : (g : Given) (l n : StationMemory) (a : Heard) → Handed g l n a → IsStationRanged l → IsStationRanged n
    of_station_handed g l n a (HandsUp by own mesh octets came here mine) h = h
    of_station_handed g l n a (HandsOn x none) h = h
    of_station_handed g l n a (Gathers by own mesh piece came here mine e) h =
        record { ring = h.ring; tag = h.tag; hops = h.hops; bodies = h.bodies; number = h.number }
    of_station_handed g l n a (Completes by own mesh piece note octets came here mine e) h =
        record { ring = h.ring; tag = h.tag; hops = h.hops; bodies = h.bodies; number = h.number }

-- what a meter says to the coordinator fits a command
abbrev pub SaysShort : meters.Identity → Memory → Type 0
SaysShort x m = (join : JoinMessage) → IsSaidUp x m join → length (command_of join) ≤ 375

pub meter_carries : (g : Given) (x : meters.Identity) (m : Memory) → SaysShort x m → (to n : ℕ) (load : Load) → RingCause g x m (Carry to n load)
    → (to < 0xFFFE) × HasRoomInFrames load
meter_carries g x m short to n load (ToCoordinator join said) = (omega arith, short join said)

pub meter_hears_ranged : (x : meters.Identity) (m : Memory) (got : Accepted) (cost note now : ℕ)
    → InRange (RingCause (heard_given got cost note now) x m) (heard_given got cost note now) → IsStationRanged m.station
    → RangeOk (meters.hear_meter x m got cost note now)
meter_hears_ranged x m got cost note now known h =
    plan_ranged (RingCause (heard_given got cost note now) x m) NoGrant NoPair NoEui (heard_given got cost note now) known m h dropped
    (HandedIn meter_heard.Station (heard_given got cost note now) m) _
    (λ n answer k. handed_ranged meter_heard.Station (heard_given got cost note now) m n answer k h) (λ d answer x. x.0) _
    (meter_is NoGrant NoPair NoEui (heard_given got cost note now) x m got refl)
