-- The calls of a node keep custody: what is heard of a letter, a send, accepting, and time.
use Rattle.std.proofs.Common.{◌≡◌, ℕ, ◌+◌, ◌≤◌, ◌<◌, cond, eqb, Bool, true, false, List, length, Option, Result, refl, ap, ◌∙◌, subst, arith}
use Rattle.std.specs.Prelude.{nat_lt, not}
use Rattle.std.specs.List.{sum_by, filter}
use Rattle.std.proofs.lemmas.List.Filters.{sum_by-filter_both}
use Rattle.std.proofs.lemmas.Option.{same_Some}
use Rattle.plc_base.specs.declared.address.Eui.{Eui}
use Rattle.plc_base.specs.declared.key.Key.{Key}
use Rattle.joining_messages.specs.declared.message.JoinMessage.{JoinMessage}
use Rattle.mesh_header.specs.declared.unit.Unit.{Unit as MeshUnit}
use Rattle.fragment_buffers.specs.Reassembly.{Reassembly}
use Rattle.fragment_buffers.specs.PieceIntake as pieces
use Rattle.node_rules.specs.Accepted.{Accepted}
use Rattle.node_rules.specs.declared.heard.MeterHeard.{MeterHeard}
use Rattle.node_rules.specs.declared.heard.MeterHeard.TheVariants as meter_heard
use Rattle.node_rules.specs.declared.heard.CoordinatorHeard.{CoordinatorHeard}
use Rattle.node_rules.specs.declared.heard.CoordinatorHeard.TheVariants as coordinator_heard
use Rattle.node_rules.specs.declared.heard.SentHow.{SentHow}
use Rattle.node_rules.specs.declared.refusal.FrameRefusal.{FrameRefusal}
use Rattle.node_rules.specs.declared.refusal.SendRefusal.{SendRefusal}
use Rattle.node_rules.specs.Frames.{SealedUnit, Arrived}
use Rattle.node_rules.specs.Memory.{StationMemory, Memory, Load, Datagram, Command, Body}
use Rattle.node_rules.specs.Plans.{Plan, resting}
use Rattle.node_rules.specs.Acceptance.{Accepting, accept, marking}
use Rattle.node_rules.specs.JoiningPackets.{command_of}
use Rattle.node_rules.specs.HearingRules.{dropped}
use Rattle.node_rules.specs.Calls as calls
use Rattle.node_rules.specs.Meters as meters
use Rattle.node_rules.specs.Coordinators as coordinators
use Rattle.node_rules.specs.Drafts.{alone, empty_draft}
use Rattle.node_rules.specs.MemoryDrafts.{in_memory}
use Rattle.node_rules.specs.NodeSteps.{of_station}
use Rattle.node_rules.proofs.MemoryDraftShapes.{whole}
use Rattle.line_laws.specs.SealedUnits.{IsSealedUnit}
use Rattle.line_laws.specs.Custody.{weigh, below, content_is, load_is, body_is, sealed_unit_is, held_is, up_is, keeps}
use Rattle.line_laws.proofs.Planned.{Planned, Refuses, Keeps, Ended}
use Rattle.line_laws.proofs.LetterAccepts.{IsOfLetter}
use Rattle.line_laws.proofs.Made.{Given, IsCome, RingWord, Carry, Draw, Activate, Made}
use Rattle.line_laws.proofs.MemoryDraftForms.{HandedIn}
use Rattle.line_laws.proofs.MeterForms.{RingCause, ToCoordinator, HandsNothingUp, meter_is}
use Rattle.line_laws.proofs.CoordinatorForms as coordinator
use Rattle.line_laws.proofs.CallForms.{Few, Nothing, send_is}
use Rattle.line_laws.proofs.StoreMarks.{IsPlain, Accepts, Turned, Plain, Marked, accept_is}
use Rattle.line_laws.proofs.NodeCalls.{NoGrant, NoPair, NoEui, heard_given, call_given, no_some}
use Rattle.line_laws.proofs.RangeHeard.{comes_of}
use Rattle.line_laws.proofs.CustodyWords.{Brings}
use Rattle.line_laws.proofs.CustodyPlans.{BringsIn, Moves, Agrees, up_by, up_none, BodiesKept, plan_kept, plan_kept_by, station_moves, handed_in_kept}
use Rattle.fragment_buffers.specs.declared.times.TheConstants.{REASSEMBLY_TIME, WAITING_TIME}

-- # What is heard of a letter

-- what a meter and the coordinator hand up
abbrev pub meter_up : ℕ → ℕ → MeterHeard → ℕ
meter_up n i (meter_heard.Station h) = up_is n i h
meter_up n i _ = 0

abbrev pub coordinator_up : ℕ → ℕ → CoordinatorHeard → ℕ
coordinator_up n i (coordinator_heard.Station h) = up_is n i h
coordinator_up n i _ = 0

-- commands carry no datagram
pub record SaysNoDatagram (W : RingWord → Type 0) (n i : ℕ) : Type 0 where
  pub none : (to note : ℕ) (load : Load) → W (Carry to note load) → weigh n note (load_is i load) ≤ 0

pub zero_weight : (n note : ℕ) → weigh n note 0 ≤ 0
zero_weight n note = by_test (eqb note n)
  where
    by_test : (b : Bool) → cond b 0 0 ≤ 0
    by_test true = omega arith
    by_test false = omega arith

pub meter_says : (g : Given) (x : meters.Identity) (m : Memory) (n i : ℕ) → SaysNoDatagram (RingCause g x m) n i
meter_says g x m n i = record { none = by_cause }
  where
    by_cause : (to note : ℕ) (load : Load) → RingCause g x m (Carry to note load) → weigh n note (load_is i load) ≤ 0
    by_cause to note load (ToCoordinator join said) = zero_weight n 0

-- what the coordinator says and does to its ring
pub data CoordinatorWord : RingWord → Type 0 where
  Says : (to : ℕ) (join : JoinMessage) → CoordinatorWord (Carry to 0 (Command (command_of join)))
  Draws : (index : ℕ) → (key : Key) → CoordinatorWord (Draw index key)
  Activates : (index : ℕ) → CoordinatorWord (Activate index)

pub coordinator_says : (n i : ℕ) → SaysNoDatagram CoordinatorWord n i
coordinator_says n i = record { none = by_cause }
  where
    by_cause : (to note : ℕ) (load : Load) → CoordinatorWord (Carry to note load) → weigh n note (load_is i load) ≤ 0
    by_cause to note load (Says t join) = zero_weight n 0

abbrev pub AnyEui : Eui → Type 0
AnyEui eui = Unit {0}

abbrev pub AnyPair : Eui → Key → Type 0
AnyPair eui psk = Unit {0}

-- what comes of a frame weighs this much at most
pub record Comes (g : Given) (n i brought : ℕ) : Type 0 where
  pub comes : (by : ℕ) (u : MeshUnit) → IsCome g by false u → weigh n g.note (content_is i u) ≤ brought

-- what comes of a letter is the letter's weight
pub sealed_unit_comes : (l : SealedUnit) (fits : IsSealedUnit l) (from counter : ℕ) (got : Accepted) (is : IsOfLetter l from counter got) (cost now n i : ℕ)
    → Comes (heard_given got cost l.note now) n i (sealed_unit_is n i l)
sealed_unit_comes l fits from counter got is cost now n i = record {
  comes = λ by u c.
      let same : content_is i u ≡ content_is i l.unit = ap (content_is i) (comes_of l fits from counter got is cost l.note now by false u c).1 in
      let more : weigh n l.note (content_is i u) ≡ sealed_unit_is n i l = ap (weigh n l.note) same in
      omega arith;
}

-- a plain frame brings nothing
pub plain_comes : (got : Accepted) (cost note now n i : ℕ) → IsPlain got.path → Comes (heard_given got cost note now) n i 0
plain_comes got cost note now n i plain =
    record { comes = λ by u c. absurd (subst IsPlain (ap (λ (x : Accepted). x.path) (same_Some got c.got c.is) ∙ c.path) plain) }

module _ (got : Accepted) (cost note now n i brought : ℕ) (some : 0 < n) (comes : Comes (heard_given got cost note now) n i brought) where
  brings : (W : RingWord → Type 0) → SaysNoDatagram W n i → BringsIn W (heard_given got cost note now) n i brought
  brings W says = record {
    first = record { comes = comes.comes; carries = λ to k load c. let none = says.none to k load c in omega arith };
    later = record { comes = λ by u c. absurd (no_some _ c.is); carries = says.none };
  }

  abbrev pub came : Given
  came = heard_given got cost note now

  pub meter_hears_kept : (x : meters.Identity) (m : Memory) → Agrees came m.station
      → BodiesKept n i brought (up_by (meter_up n i)) m (meters.hear_meter x m got cost note now)
  meter_hears_kept x m agrees =
      plan_kept (RingCause came x m) came n i brought some (brings (RingCause came x m) (meter_says came x m n i)) NoGrant NoPair NoEui m dropped (meter_up n i)
      (HandedIn meter_heard.Station came m) _
      (λ k answer h. handed_in_kept (RingCause came x m) came n i brought (brings (RingCause came x m) (meter_says came x m n i)).first meter_heard.Station
      (meter_up n i) (λ a. refl) m k answer agrees h)
      (λ d answer h. (h.0, no_up answer h.2)) _ (meter_is NoGrant NoPair NoEui came x m got refl)
    where
      no_up : (a : MeterHeard) → HandsNothingUp a → meter_up n i a ≡ 0
      no_up (meter_heard.Station h) none = up_none (RingCause came x m) came n i brought (brings (RingCause came x m) (meter_says came x m n i)).first h none
      no_up _ none = refl

  pub coordinator_hears_kept : (own : coordinators.CoordinatorIdentity) (m : Memory) → Agrees came m.station
      → BodiesKept n i brought (up_by (coordinator_up n i)) m (coordinators.hear_coordinator own m got cost note now)
  coordinator_hears_kept own m agrees =
      plan_kept CoordinatorWord came n i brought some (brings CoordinatorWord (coordinator_says n i)) (λ granted. coordinator.IsGranted m granted) AnyPair
      AnyEui m dropped (coordinator_up n i) (HandedIn coordinator_heard.Station came m) _
      (λ k answer h. handed_in_kept CoordinatorWord came n i brought (brings CoordinatorWord (coordinator_says n i)).first coordinator_heard.Station
      (coordinator_up n i) (λ a. refl) m k answer agrees h)
      (λ d answer h. (h.0, no_up answer h.2)) _
      (coordinator.coordinator_is CoordinatorWord AnyPair AnyEui came own m (λ to there join said. Says to join) got refl (λ u join e read. tt))
    where
      no_up : (a : CoordinatorHeard) → coordinator.HandsNothingUp a → coordinator_up n i a ≡ 0
      no_up (coordinator_heard.Station h) none = up_none CoordinatorWord came n i brought (brings CoordinatorWord (coordinator_says n i)).first h none
      no_up _ none = refl

-- # A send

-- the one body that is sent out
data TheSend (to note tag : ℕ) (datagram : List ℕ) : RingWord → Type 0 where
  TheBody : TheSend to note tag datagram (Carry to note (Datagram datagram tag))

module _ (n i : ℕ) (some : 0 < n) (m : Memory) where
  send_brings : (to note now tag : ℕ) (datagram : List ℕ)
      → Brings (TheSend to note tag datagram) (call_given 0 note now) n i (weigh n note (below i (length datagram)))
  send_brings to note now tag datagram = record { comes = λ by u c. absurd (no_some _ c.is); carries = weighs }
    where
      weighs : (t k : ℕ) (load : Load) → TheSend to note tag datagram (Carry t k load) → weigh n k (load_is i load) ≤ weigh n note (below i (length datagram))
      weighs t k load TheBody = omega arith

  pub send_kept : (to : ℕ) (datagram : List ℕ) (note now : ℕ)
      → BodiesKept n i (weigh n note (below i (length datagram))) (up_by (λ (h : SentHow). 0)) m (of_station m (calls.send m.station to datagram note now))
  unfolding resting
  send_kept to datagram note now =
      plan_kept_by n i (weigh n note (below i (length datagram))) m calls.sending_ends (λ h. 0) Nothing
      (λ d (a : SentHow). Moves n i (keeps n i m.station + weigh n note (below i (length datagram))) d 0)
      (λ k answer none. absurd none) (λ d answer x. x) _
      (over _ (send_is (TheSend to note m.station.next_tag datagram) (call_given 0 note now) m.station to datagram (λ low high. TheBody)))
    where
      over : (p : Plan StationMemory (Result SentHow SendRefusal))
          → Planned alone calls.sending_ends m.station Nothing
          (λ d (a : SentHow). Made (TheSend to note m.station.next_tag datagram) (call_given 0 note now) (empty_draft m.station) d × Few m.station d) p
          → Planned in_memory calls.sending_ends m Nothing (λ d (a : SentHow). Moves n i (keeps n i m.station + weigh n note (below i (length datagram))) d 0)
          (of_station m p)
      over p (Refuses reason) = Refuses reason
      over p (Keeps k answer x) = absurd x
      over p (Ended d answer done left) = Ended (whole m d) answer (station_moves (TheSend to note m.station.next_tag datagram) (call_given 0 note now) n i
          (weigh n note (below i (length datagram))) some (send_brings to note now m.station.next_tag datagram) m d done.0) left

  -- accepting a frame moves no datagram
  pub accept_kept : (own : Eui) (a : Option Arrived) → BodiesKept n i 0 (λ (r : Result Accepted FrameRefusal). 0) m (of_station m (accept m.station own a))
  unfolding resting marking
  accept_kept own a = by_form _ (accept_is m.station own a)
    where
      by_form : (p : Accepting) → Accepts m.station a p → BodiesKept n i 0 (λ (r : Result Accepted FrameRefusal). 0) m (of_station m p)
      by_form p (Turned reason) = record { kept = omega arith; fails = refl }
      by_form p (Plain got plain) = record { kept = omega arith; fails = refl }
      by_form p (Marked from counter got x) = record { kept = omega arith; fails = refl }

  -- time ends bodies and reassemblies
  pub tick_kept : (now : ℕ) → keeps n i (calls.tick now m.station) ≤ keeps n i m.station
  unfolding pieces.unexpired
  tick_kept now =
      let waited = fewer (body_is n i) (λ (b : Body). calls.is_within WAITING_TIME now b.since) m.station.waiting in
      let held = fewer (held_is n i) (λ (r : Reassembly). nat_lt now (r.since + REASSEMBLY_TIME)) m.station.reassemblies in
      omega arith
    where
      fewer : {X : Type 0} (f : X → ℕ) (test : X → Bool) (xs : List X) → sum_by f (filter test xs) ≤ sum_by f xs
      fewer f test xs = let both = sum_by-filter_both test (λ x. not (test x)) (λ x. refl) f xs in omega arith
