-- A node that accepts a sealed frame: it runs on, and is joined with the ring that it had; and what it found in the frame.
use Rattle.std.proofs.Common.{◌≡◌, ℕ, Bool, List, Option, Some, None, Result, Ok, Err, refl, sym, ap, subst, ◌∙◌}
use Rattle.std.specs.Prelude.{◌==◌}
use Rattle.plc_base.specs.declared.key.Key.{Key}
use Rattle.plc_base.specs.Grant.{Granted}
use Rattle.group_keys.specs.KeyRing as ring
use Rattle.mac_frames.specs.Grammar.{IsSealed}
use Rattle.node_rules.specs.Accepted.{Accepted}
use Rattle.node_rules.specs.Acceptance.{Accepting, accept, marking}
use Rattle.node_rules.specs.declared.heard.Path.TheVariants as paths
use Rattle.node_rules.specs.declared.refusal.FrameRefusal.{FrameRefusal}
use Rattle.node_rules.specs.declared.refusal.FrameRefusal.TheVariants as frames
use Rattle.node_rules.specs.Ciphers.{Ciphers}
use Rattle.node_rules.specs.Frames.{Arrived, arrived, to_all}
use Rattle.node_rules.specs.Memory.{StationMemory, Memory, Node}
use Rattle.node_rules.specs.NodeSteps.{acts, of_station}
use Rattle.node_rules.specs.Plans.{Plan, resting}
use Rattle.line_rules.specs.Forgery.{accepting}
use Rattle.line_laws.proofs.StoreMarks.{Accepts, IsPlain, Marked, Plain, Turned, accept_is}
use Rattle.line_progress.proofs.WholePlans.{Acted, Failed, Whole, acts_either}

-- # In the plan

-- A plan that accepts a sealed frame: its station is joined, and keeps its ring.
record IsJoined (l : StationMemory) (p : Accepting) : Type 0 where
  granted : Granted
  ring : l.ring ≡ Some granted
  kept : p.memory.ring ≡ Some granted

-- What a key opens of a frame that came: its head is a sealed one.
pub record IsOpened (o : Option Arrived) (key : Key) : Type 0 where
  pub frame : Arrived
  pub is : o ≡ Some frame
  pub sealed : IsSealed frame.head
  pub payload : List ℕ
  pub opened : frame.opened key ≡ Some payload

in_ring : (r : ring.Ring) (index : ℕ) (key : Key) → ring.key_in_ring r index ≡ Some key → (g : Granted) × (r ≡ Some g)
in_ring None index key e = absurd (cc)
in_ring (Some g) index key e = (g, refl)

refused_not : (reason : FrameRefusal) (got : Accepted) → ◌≡◌ {A = Result Accepted FrameRefusal} (Err reason) (Ok got) → ⊥
refused_not reason got e = cc

same_got : (a b : Accepted) → ◌≡◌ {A = Result Accepted FrameRefusal} (Ok a) (Ok b) → a ≡ b
same_got a b e = cc

keys_same : (a c : ℕ) (b d : Bool) (k m : Key) → paths.Sealed a b k ≡ paths.Sealed c d m → k ≡ m
keys_same a c b d k m e = cc

module _ (l : StationMemory) (o : Option Arrived) (got : Accepted) where
  -- where a write fails nothing is accepted
  fails : (p : Accepting) → Accepts l o p → p.failed ≡ Ok got → ⊥
  unfolding resting marking
  fails p (Turned reason) e = refused_not frames.Store got e
  fails p (Plain other plain) e = refused_not frames.Store got e
  fails p (Marked from counter other is) e = refused_not frames.Store got e

  joined : (from : ℕ) (all : Bool) (key : Key) → got.path ≡ paths.Sealed from all key → (p : Accepting) → Accepts l o p → p.answer ≡ Ok got → IsJoined l p
  unfolding resting marking
  joined from all key path p (Turned reason) e = absurd (refused_not reason got e)
  joined from all key path p (Plain other plain) e =
      absurd (subst IsPlain (ap (λ (a : Accepted). a.path) (same_got other got e) ∙ path) plain.path)
  joined from all key path p (Marked sender counter other is) e =
      let g = in_ring l.ring is.index is.key is.held in record { granted = g.0; ring = g.1; kept = g.1 }

  opened : (from : ℕ) (all : Bool) (key : Key) → got.path ≡ paths.Sealed from all key → (p : Accepting) → Accepts l o p → p.answer ≡ Ok got → IsOpened o key
  unfolding resting marking
  opened from all key path p (Turned reason) e = absurd (refused_not reason got e)
  opened from all key path p (Plain other plain) e =
      absurd (subst IsPlain (ap (λ (a : Accepted). a.path) (same_got other got e) ∙ path) plain.path)
  opened from all key path p (Marked sender counter other is) e =
      let held : paths.Sealed sender (is.to == to_all) is.key ≡ paths.Sealed from all key =
      sym (ap (λ (a : Accepted). a.path) is.got_is) ∙ ap (λ (a : Accepted). a.path) (same_got other got e) ∙ path in
      record {
        frame = is.frame;
        is = is.is;
        sealed = subst IsSealed (sym is.head.3) tt;
        payload = is.payload;
        opened = subst (λ k. is.frame.opened k ≡ Some is.payload) (keys_same sender from (is.to == to_all) all is.key key held) is.opened;
      }

-- # At a node

-- A node that accepted a sealed frame: it ran, and runs with the ring that it had.
pub record StillJoined (ciphers : Ciphers) (x : Node) (octets : List ℕ) : Type 0 where
  pub memory : Memory
  pub there : x.memory ≡ Some memory
  pub granted : Granted
  pub ring : memory.station.ring ≡ Some granted
  pub now : Memory
  pub runs : (accepting ciphers x octets).node.memory ≡ Some now
  pub kept : now.station.ring ≡ Some granted

module _ (ciphers : Ciphers) (x : Node) (octets : List ℕ) (got : Accepted) (from : ℕ) (all : Bool) (key : Key)
    (path : got.path ≡ paths.Sealed from all key) where
  abbrev plan : Memory → Plan Memory (Result Accepted FrameRefusal)
  plan m = of_station m (accept m.station x.eui (arrived ciphers octets))

  halted_accepts_none : x.memory ≡ None → (accepting ciphers x octets).answer ≡ Ok got → ⊥
  unfolding acts
  halted_accepts_none none e = refused_not frames.Halted got (sym (halted_so none) ∙ e)
    where
      halted_so : x.memory ≡ None → (accepting ciphers x octets).answer ≡ Err frames.Halted
      halted_so none = rw none refl

  -- The plan that a node has carried out which accepted the octets.
  record CarriedOut : Type 0 where
    memory : Memory
    there : x.memory ≡ Some memory
    answer : (plan memory).answer ≡ Ok got
    runs : (accepting ciphers x octets).node.memory ≡ Some (plan memory).memory

  carried_out : (accepting ciphers x octets).answer ≡ Ok got → CarriedOut
  carried_out e = by_memory x.memory refl
    where
      by_acted : (m : Memory) → x.memory ≡ Some m → Acted (plan m) (accepting ciphers x octets) → CarriedOut
      by_acted m there (Whole a f k) = record { memory = m; there = there; answer = sym a ∙ e; runs = k }
      by_acted m there (Failed a f k) =
          absurd (fails m.station (arrived ciphers octets) got _ (accept_is m.station x.eui (arrived ciphers octets)) (sym a ∙ e))

      by_memory : (o : Option Memory) → x.memory ≡ o → CarriedOut
      by_memory None none = absurd (halted_accepts_none none e)
      by_memory (Some m) there = by_acted m there (acts_either x m (Err frames.Halted) plan there)

  pub still_joined : (accepting ciphers x octets).answer ≡ Ok got → StillJoined ciphers x octets
  still_joined e =
      let c = carried_out e in
      let o : Option Arrived = arrived ciphers octets in
      let j = joined c.memory.station o got from all key path _ (accept_is c.memory.station x.eui o) c.answer in
      record { memory = c.memory; there = c.there; granted = j.granted; ring = j.ring; now = (plan c.memory).memory; runs = c.runs; kept = j.kept }

  -- and what it found
  pub was_opened : (accepting ciphers x octets).answer ≡ Ok got → IsOpened (arrived ciphers octets) key
  was_opened e =
      let c = carried_out e in
      let o : Option Arrived = arrived ciphers octets in
      opened c.memory.station o got from all key path _ (accept_is c.memory.station x.eui o) c.answer
