-- What a letter spells is read back: its sender, its unit and its route message; and so it is of letters in their ranges.
use Rattle.std.specs.Prelude.{◌≡◌, ℕ, ◌+◌, ◌≤◌, false, All, List, Some, Ok}
use Rattle.std.proofs.Common.{refl, sym, ap, ◌∙◌, subst}
use Rattle.std.proofs.lemmas.Option.{same_Some}
use Rattle.std.proofs.lemmas.List.Elements.{All-weaker}
use Rattle.plc_base.specs.declared.key.Key.{Key}
use Rattle.mac_frames.specs.Grammar.{header}
use Rattle.mac_frames.specs.declared.head.MacHead.TheVariants as heads
use Rattle.mesh_header.specs.Grammar.{spelling}
use Rattle.mesh_header.specs.Reader.{unit_in}
use Rattle.mesh_header.specs.declared.unit.Unit.TheVariants as units
use Rattle.loadng_messages.specs.Grammar as messages
use Rattle.loadng_messages.proofs.Readings.{message_read}
use Rattle.node_rules.specs.Accepted.{Accepted}
use Rattle.node_rules.specs.Calls as calls
use Rattle.node_rules.specs.Ciphers.{Ciphers, OpensWhatItSeals, network}
use Rattle.node_rules.specs.Coordinators as coordinator_rules
use Rattle.node_rules.specs.Frames.{SealedUnit, Sent, Sealed, Up, Down, Arrived, arrived_with, head_of}
use Rattle.node_rules.specs.Memory.{Memory, Meter, Node, node_address}
use Rattle.node_rules.specs.Meters as meters
use Rattle.node_rules.specs.NodeSteps.{of_station}
use Rattle.node_rules.specs.Plans.{Plan}
use Rattle.line_events.specs.Events.{IsLineOctets}
use Rattle.line_rules.specs.Forgery.{accepting}
use Rattle.line_rules.specs.Steps.{identity, note_by, forged_by}
use Rattle.line_rules.specs.Worlds.{World, node_at}
use Rattle.line_laws.specs.SealedUnits.{IsSealedUnit, IsRoute}
use Rattle.line_laws.specs.Owed.{AreOctets}
use Rattle.line_laws.proofs.LetterAccepts.{from_of}
use Rattle.node_rules.proofs.NetworkOpens.{network_opens_again}
use Rattle.line_laws.proofs.LetterSeals.{sealed_unit_arrives, sealed_unit_opens, sealed_unit_unit}
use Rattle.line_laws.proofs.RangeFrames.{IsSent}
use Rattle.line_laws.proofs.RangePlans.{RangeOk}
pub use Rattle.line_laws.specs.Ranked.{SealedUnitRead}

-- a plain frame has no letter
abbrev pub FrameRead : Ciphers → Sent → Type 0
FrameRead ciphers (Sealed sealed_unit) = SealedUnitRead ciphers sealed_unit
FrameRead ciphers (Up agent from message) = Unit {0}
FrameRead ciphers (Down from message) = Unit {0}

-- what the letters of a plan spell is read back
abbrev pub Reads : Ciphers → {A : Type 0} → Plan Memory A → Type 0
Reads ciphers p = All (FrameRead ciphers) p.frames

-- So it is of every call of a node of a line that may send sealed frames.
pub record CallsRead (ciphers : Ciphers) (w : World) : Type 0 where
  pub send : (number : ℕ) (x : Node) (m : Memory) → node_at w number ≡ Some x → x.memory ≡ Some m
      → (b : ℕ) (y : Node) (to : ℕ) (datagram : List ℕ) → node_at w b ≡ Some y → node_address y ≡ Some to
      → IsLineOctets datagram → Reads ciphers (of_station m (calls.send m.station to datagram (w.sends + 1) w.clock))
  pub challenge : (number : ℕ) (x : Node) (m : Memory) → node_at w number ≡ Some x → x.memory ≡ Some m
      → (b : ℕ) (y : Node) → node_at w b ≡ Some y → Reads ciphers (coordinator_rules.challenge x.eui m y.eui w.clock)
  pub activate : (number : ℕ) (x : Node) (m : Memory) → node_at w number ≡ Some x → x.memory ≡ Some m
      → (b : ℕ) (y : Node) (index : ℕ) → node_at w b ≡ Some y → index ≤ 1
      → Reads ciphers (coordinator_rules.activate m y.eui index w.clock)
  pub kick : (number : ℕ) (x : Node) (m : Memory) → node_at w number ≡ Some x → x.memory ≡ Some m → (b : ℕ) (y : Node)
      → node_at w b ≡ Some y → Reads ciphers (coordinator_rules.kick m y.eui)
  -- what is heard of octets that were accepted, and that are not forged
  pub meter_hears : (number : ℕ) (x : Node) (octets : List ℕ) (cost : ℕ) (got : Accepted) (psk : Key) (m : Memory)
      → node_at w number ≡ Some x → AreOctets octets → (accepting ciphers x octets).answer ≡ Ok got
      → forged_by w octets got.path ≡ false
      → (accepting ciphers x octets).node.role ≡ Meter psk → (accepting ciphers x octets).node.memory ≡ Some m
      → Reads ciphers (meters.hear_meter (identity ciphers (accepting ciphers x octets).node psk) m got cost
      (note_by w octets got.path) w.clock)
  pub coordinator_hears : (number : ℕ) (x : Node) (octets : List ℕ) (cost : ℕ) (got : Accepted) (m : Memory)
      → node_at w number ≡ Some x → AreOctets octets → (accepting ciphers x octets).answer ≡ Ok got
      → forged_by w octets got.path ≡ false
      → (accepting ciphers x octets).node.memory ≡ Some m
      → Reads ciphers (coordinator_rules.hear_coordinator
      (record { eui = (accepting ciphers x octets).node.eui; ciphers = ciphers }) m got cost
      (note_by w octets got.path) w.clock)

-- # What is in its ranges is read back

sealed_unit_read : (ciphers : Ciphers) → OpensWhatItSeals ciphers → (l : SealedUnit) → IsSealedUnit l → SealedUnitRead ciphers l
sealed_unit_read ciphers opens l fits = record {
  opens = λ a ack seq pan to from counter index payload is head opened.
      let body : List ℕ = ciphers.seals l.key (head_of l) (spelling l.unit) in
      let came : Arrived = arrived_with ciphers (head_of l) (header (head_of l)) body in
      let this : came ≡ a = same_Some came a (sym (sealed_unit_arrives ciphers opens l fits) ∙ is) in
      let heads_are : head_of l ≡ heads.Sealed ack seq pan to from counter index = ap (λ (x : Arrived). x.head) this ∙ head in
      let payload_is : spelling l.unit
      ≡ payload = same_Some (spelling l.unit) payload (sym (sealed_unit_opens ciphers opens l fits) ∙ ap (λ (x : Arrived). x.opened l.key) this ∙ opened) in
      (sym (ap from_of heads_are), ap unit_in (sym payload_is) ∙ sealed_unit_unit ciphers opens l fits);
  messages = λ message is.
      let r : IsRoute (units.Local 1 (messages.spelling message)) = subst IsRoute is fits.route in
      let x = r refl in
      (x.0, message_read x.0 (messages.spelling message) (x.1, x.2), x.2, x.1);
}

pub sent_read : (f : Sent) → IsSent f → FrameRead network f
sent_read (Sealed l) fits = sealed_unit_read network network_opens_again l fits
sent_read (Up agent from message) fits = tt
sent_read (Down from message) fits = tt

pub plan_reads : {A : Type 0} (p : Plan Memory A) → RangeOk p → Reads network p
plan_reads p ok = All-weaker IsSent (FrameRead network) sent_read p.frames ok.frames
