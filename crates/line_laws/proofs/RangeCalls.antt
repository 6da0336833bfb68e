-- The other calls of a node keep the ranges.
use Rattle.std.proofs.Common.{◌≡◌, ℕ, ◌<◌, ◌≤◌, ◌^◌, List, length, Option, Some, None, Result, refl, sym, subst}
use Rattle.std.specs.Prelude.{IfSome}
use Rattle.std.proofs.lemmas.Option.{same_Some}
use Rattle.std.proofs.lemmas.List.Elements.{All-nil, All-filter}
use Rattle.plc_base.specs.declared.address.Eui.{Eui}
use Rattle.routing_set.specs.RoutingSet as routing
use Rattle.node_rules.specs.Frames.{Arrived}
use Rattle.node_rules.specs.Memory.{StationMemory, Memory, Load, Datagram, Body}
use Rattle.node_rules.specs.Plans.{Plan, resting}
use Rattle.node_rules.specs.Acceptance.{Accepting, accept, marking}
use Rattle.node_rules.specs.Calls as calls
use Rattle.node_rules.specs.Drafts.{Ends, alone, empty_draft}
use Rattle.node_rules.specs.MemoryDrafts.{in_memory, with_station}
use Rattle.node_rules.specs.NodeSteps.{of_station}
use Rattle.node_rules.proofs.MemoryDraftShapes.{whole}
use Rattle.line_laws.specs.Ranges.{HasRoomInFrames, IsStationRanged, IsBody}
use Rattle.line_laws.proofs.Planned.{Planned, Refuses, Keeps, Ended}
use Rattle.line_laws.proofs.Made.{Given, RingWord, Carry, Drop, Install, Draw, Activate, Made}
use Rattle.line_laws.proofs.MadeIn.{MadeIn, Station}
use Rattle.line_laws.proofs.CallForms.{Few, Nothing, send_is, near_is}
use Rattle.line_laws.proofs.StoreFold.{WordFits}
use Rattle.line_laws.proofs.StoreMarks.{Accepts, Turned, Plain, Marked, accept_is}
use Rattle.line_laws.proofs.NodeCalls.{NoGrant, NoPair, NoEui, NoWord, call_given, near_given, no_some}
use Rattle.line_laws.proofs.RangeFold.{InRange, ended_hops}
use Rattle.line_laws.proofs.RangeFrames.{IsSent}
use Rattle.line_laws.proofs.RangePlans.{RangeOk, plan_ranged}
use Rattle.fragment_buffers.specs.declared.times.TheConstants.{WAITING_TIME}

-- what a call without a frame is given
pub call_ranged : (W : RingWord → Type 0) (cost note now : ℕ) (near : Option ℕ) → IfSome near (λ by. (by < 0xFFFE) × (cost < 2 ^ 16))
    → ((to n : ℕ) (load : Load) → W (Carry to n load) → (to < 0xFFFE) × HasRoomInFrames load) → ((w : RingWord) → W w → WordFits w)
    → InRange W (record { got = None; cost = cost; note = note; now = now; near = near })
call_ranged W cost note now near h carries words = record {
  comes = λ by all u c. absurd (no_some _ c.is);
  came_so = λ by all m t. absurd (no_some _ t.came.is);
  near = λ by e. by_near near h by e;
  carries = carries;
  words = words;
}
  where
    by_near : (o : Option ℕ) → IfSome o (λ by. (by < 0xFFFE) × (cost < 2 ^ 16)) → (by : ℕ) → o ≡ Some by → (by < 0xFFFE) × (cost < 2 ^ 16)
    by_near None h by e = absurd (no_some _ e)
    by_near (Some a) h by e = (subst (λ k. k < 0xFFFE) (same_Some a by e) h.0, h.1)

module _ (m : Memory) (h : IsStationRanged m.station) where
  pub station_ranged : {H F : Type 0} (W : RingWord → Type 0) (g : Given) → InRange W g → (ends : Ends F) (p : Plan StationMemory (Result H F))
      → Planned alone ends m.station Nothing (λ d (a : H). Made W g (empty_draft m.station) d × Few m.station d) p → RangeOk (of_station m p)
  unfolding resting
  station_ranged {H = H} {F = F} W g known ends p s = plan_ranged W NoGrant NoPair NoEui g known m h ends Nothing
      (λ d a. MadeIn W NoGrant NoPair NoEui g m d × Few m.station d) (λ n answer k. absurd k) (λ d a x. x.0) (of_station m p) (over p s)
    where
      over : (p : Plan StationMemory (Result H F)) → Planned alone ends m.station Nothing (λ d (a : H). Made W g (empty_draft m.station) d × Few m.station d) p
          → Planned in_memory ends m Nothing (λ d (a : H). MadeIn W NoGrant NoPair NoEui g m d × Few m.station d) (of_station m p)
      over p (Refuses reason) = Refuses reason
      over p (Keeps n answer k) = absurd k
      over p (Ended d answer done left) = Ended (whole m d) answer (Station d done.0, record { few = done.1.few }) left

  -- the one body of a send
  record IsTheSend (to note : ℕ) (datagram : List ℕ) (w : RingWord) : Type 0 where
    is : w ≡ Carry to note (Datagram datagram m.station.next_tag)
    some : 0 < length datagram
    short : length datagram ≤ 1280

  send_carries : (to note : ℕ) (datagram : List ℕ) → to < 0xFFFE → (t n : ℕ) (load : Load) → IsTheSend to note datagram (Carry t n load)
      → (t < 0xFFFE) × HasRoomInFrames load
  send_carries to note datagram there t n load c = subst Fits (sym c.is) (there, (c.some, c.short, h.tag))
    where
      Fits : RingWord → Type 0
      Fits (Carry t n load) = (t < 0xFFFE) × HasRoomInFrames load
      Fits Drop = Unit {0}
      Fits (Install granted) = Unit {0}
      Fits (Draw index key) = Unit {0}
      Fits (Activate index) = Unit {0}

  send_words : (to note : ℕ) (datagram : List ℕ) (w : RingWord) → IsTheSend to note datagram w → WordFits w
  send_words to note datagram w c = subst WordFits (sym c.is) (c.some, c.short, h.tag)

  pub send_ranged : (to : ℕ) (datagram : List ℕ) (note now : ℕ) → to < 0xFFFE → RangeOk (of_station m (calls.send m.station to datagram note now))
  send_ranged to datagram note now there =
      station_ranged (IsTheSend to note datagram) (call_given 0 note now)
      (call_ranged (IsTheSend to note datagram) 0 note now None tt (send_carries to note datagram there) (send_words to note datagram)) calls.sending_ends _
      (send_is (IsTheSend to note datagram) (call_given 0 note now) m.station to datagram (λ some short. record { is = refl; some = some; short = short }))

  never : (w : RingWord) → ⊥ → WordFits w
  never w none = absurd none

  pub near_ranged : (to cost now : ℕ) → to < 0xFFFE → cost < 2 ^ 16 → RangeOk (of_station m (calls.preset_near m.station to cost now))
  near_ranged to cost now there low =
      station_ranged NoWord (near_given to cost now) (call_ranged NoWord cost 0 now (Some to) (there, low) (λ t n load none. absurd none) never)
      calls.presetting_ends _
      (near_is NoWord (near_given to cost now) m.station to refl)

  -- marks are no part of the ranges
  pub accept_ranged : (own : Eui) (a : Option Arrived) → RangeOk (of_station m (accept m.station own a))
  unfolding resting marking
  accept_ranged own a = by_form _ (accept_is m.station own a)
    where
      by_form : (p : Accepting) → Accepts m.station a p → RangeOk (of_station m p)
      by_form p (Turned reason) = record { station = h; frames = All-nil IsSent }
      by_form p (Plain got plain) = record { station = h; frames = All-nil IsSent }
      by_form p (Marked from counter got x) =
          record { station = record { ring = h.ring; tag = h.tag; hops = h.hops; bodies = h.bodies; number = h.number }; frames = All-nil IsSent }

  -- time, and a link that breaks
  pub tick_ranged : (now : ℕ) → IsStationRanged (calls.tick now m.station)
  tick_ranged now = record {
    ring = h.ring;
    tag = h.tag;
    hops = ended_hops (routing.is_old now) m.station.routing h.hops;
    bodies = All-filter (λ (b : Body). calls.is_within WAITING_TIME now b.since) IsBody m.station.waiting h.bodies;
    number = h.number;
  }

  pub broke_ranged : {A : Type 0} (next : ℕ) (answer : A) → RangeOk (resting (with_station (calls.broke next m.station) m) answer answer)
  unfolding resting
  broke_ranged next answer = record {
    station = record {
      ring = h.ring;
      tag = h.tag;
      hops = ended_hops (routing.goes_by next) m.station.routing h.hops;
      bodies = h.bodies;
      number = h.number;
    };
    frames = All-nil IsSent;
  }
