-- What a station accepts can come to its meter.
use Rattle.std.proofs.Common.{◌≡◌, ℕ, Bool, true, false, List, Option, Some, None, Result, Ok, Err, refl, sym, ap, subst}
use Rattle.std.specs.Prelude.{◌==◌, if◌then◌else◌, IfSome, IfNone, IsSome}
use Rattle.std.specs.Option.{option_map, option_map_or}
use Rattle.std.proofs.lemmas.Bool.{and_parts}
use Rattle.plc_base.specs.declared.address.Eui.{Eui}
use Rattle.plc_base.specs.declared.key.Key.{Key}
use Rattle.mac_frames.specs.declared.head.MacHead.{MacHead}
use Rattle.mac_frames.specs.declared.head.MacHead.TheVariants as heads
use Rattle.frame_counters.specs.declared.fault.PeerFault.{PeerFault}
use Rattle.group_keys.specs.KeyRing as ring
use Rattle.node_rules.specs.Accepted.{Accepted}
use Rattle.node_rules.specs.declared.heard.Path.TheVariants as paths
use Rattle.node_rules.specs.declared.refusal.FrameRefusal.{FrameRefusal}
use Rattle.node_rules.specs.declared.refusal.FrameRefusal.TheVariants.{NotForMe, Halted}
use Rattle.plc_base.specs.declared.out_frame.Out.{Out}
use Rattle.node_rules.specs.CarriedPlans.{Carries}
use Rattle.node_rules.specs.States.{State}
use Rattle.node_rules.specs.Frames.{Arrived}
use Rattle.node_rules.specs.Memory.{StationMemory}
use Rattle.node_rules.specs.Plans.{resting}
use Rattle.node_rules.specs.Acceptance.{Accepting, accept, accept_head, is_own, is_for_me, refuse, marking, admitted, open_sealed, with_key}
use Rattle.meter_node.specs.MeterAnswers.{CameUp}
use Rattle.meter_node.specs.Laws.{AcceptedFramesCame}

-- what is accepted can come to the meter that is left
abbrev CameIn : Accepting → Type 0
CameIn p = (got : Accepted) → p.answer ≡ Ok got → CameUp got.path p.memory

-- a node with an address has a ring
has_ring : (l : StationMemory) (address : ℕ) → is_own l address ≡ true → IsSome l.ring
has_ring l address = by_ring l.ring
  where
    by_ring : (r : ring.Ring) → option_map_or (λ own. own == address) (option_map (λ g. g.address) r) false ≡ true → IsSome r
    by_ring (Some g) e = refl
    by_ring None e = absurd (cc)

refused : (l : StationMemory) (reason : FrameRefusal) → CameIn (refuse l reason)
unfolding resting
refused l reason got e = absurd (cc)

-- what is handed on of a frame, where that can come
handed : (l : StationMemory) (x : Accepted) → CameUp x.path l → (got : Accepted) → ◌≡◌ {A = Result Accepted FrameRefusal} (Ok x) (Ok got) → CameUp got.path l
handed l x h got e = let same : x ≡ got = cc in subst (λ (a : Accepted). CameUp a.path l) same h

module _ (l : StationMemory) (to from counter : ℕ) where
  marked : (key : Key) (payload : List ℕ) → CameIn (marking l from counter (record { path = paths.Sealed from (to == 0xFFFF) key; payload = payload }))
  unfolding marking
  marked key payload got e = handed _ _ tt got e

  admitted_came : (key : Key) (payload : List ℕ) (r : Result (Unit {0}) PeerFault)
      → CameIn (admitted l from counter (record { path = paths.Sealed from (to == 0xFFFF) key; payload = payload }) r)
  admitted_came key payload (Ok u) = marked key payload
  admitted_came key payload (Err fault) = refused l _

  opened_came : (key : Key) (o : Option (List ℕ)) → CameIn (open_sealed l to from counter key o)
  opened_came key None = refused l _
  opened_came key (Some payload) = admitted_came key payload _

  sealed_came : (a : Arrived) (o : Option Key) → CameIn (with_key l a to from counter o)
  sealed_came a None = refused l _
  sealed_came a (Some key) = opened_came key (a.opened key)

head_came : (l : StationMemory) (own : Eui) (a : Arrived) (head : MacHead) → is_for_me l own head ≡ true → CameIn (accept_head l a head)
unfolding resting
head_came l own a (heads.Sealed ack seq pan to from counter index) mine = sealed_came l to from counter a (ring.key_in_ring l.ring index)
head_came l own a (heads.Up ack version seq pan to from) mine = handed l _ (has_ring l to (and_parts _ _ (and_parts _ _ mine).1).0)
head_came l own a (heads.Down ack version seq pan to from) mine = handed l _ tt

pub came : AcceptedFramesCame
came l own None = refused l _
came l own (Some a) = by_test (is_for_me l own a.head) refl
  where
    by_test : (b : Bool) → is_for_me l own a.head ≡ b → CameIn (if b then accept_head l a a.head else refuse l NotForMe)
    by_test true mine = head_came l own a a.head mine
    by_test false other = refused l NotForMe

-- so it is where accepting is carried out
pub carried_came : (s t : State StationMemory) (l : StationMemory) (own : Eui) (a : Option Arrived) (got : Accepted) (out : Out)
    → Carries s (accept l own a) (Ok got) out t → IfSome t.memory (CameUp got.path)
carried_came s t l own a got out c = by_done c.done c.answer_is (ap (λ (x : State StationMemory). x.memory) c.new_is)
  where
    by_done : (done : Bool) → ◌≡◌ {A = Result Accepted FrameRefusal} (Ok got) (if done then (accept l own a).answer else (accept l own a).failed)
        → t.memory ≡ (if done then Some (accept l own a).memory else None) → IfSome t.memory (CameUp got.path)
    by_done true e m = subst (λ (o : Option StationMemory). IfSome o (CameUp got.path)) (sym m) (came l own a got (sym e))
    by_done false e m = subst (λ (o : Option StationMemory). IfSome o (CameUp got.path)) (sym m) tt

-- and so where a station says that it accepted
pub accepted_came : (s t : State StationMemory) (a : Option Arrived) (got : Accepted) (out : Out)
    → IfNone s.memory (◌≡◌ {A = Result Accepted FrameRefusal} (Ok got) (Err Halted) × (t ≡ s))
    → IfSome s.memory (λ l. Carries s (accept l s.eui a) (Ok got) out t) → IfSome t.memory (CameUp got.path)
accepted_came s t a got out = by_memory s.memory
  where
    by_memory : (o : Option StationMemory) → IfNone o (◌≡◌ {A = Result Accepted FrameRefusal} (Ok got) (Err Halted) × (t ≡ s))
        → IfSome o (λ l. Carries s (accept l s.eui a) (Ok got) out t) → IfSome t.memory (CameUp got.path)
    by_memory None h k = let never = h.0 in absurd (cc)
    by_memory (Some l) h k = carried_came s t l s.eui a got out k
