-- The letters that a node sends have the address that the node has after it sent them, and are under the key that it seals with then.
use Rattle.std.proofs.Common.{◌≡◌, ℕ, ◌+◌, List, [], ◌∷◌, ◌++◌, ⊎_elim, Option, Some, None, Result, refl}
use Rattle.std.specs.Option.{option_and_then, option_map_or}
use Rattle.plc_base.specs.declared.address.Eui.{Eui}
use Rattle.plc_base.specs.declared.key.Key.{Key}
use Rattle.plc_base.specs.Grant.{Granted}
use Rattle.group_keys.specs.KeyRing as ring
use Rattle.node_rules.specs.Frames.{SealedUnit, Sent, Sealed, Up, Down}
use Rattle.node_rules.specs.Memory.{Memory, Node}
use Rattle.node_rules.specs.Plans.{Plan, carry_out, resting}
use Rattle.node_rules.specs.Drafts.{Draft, Ends, UnsealedUnit, sealed_units, sealed_by, sealing_key}
use Rattle.node_rules.specs.MemoryDrafts.{in_memory}
use Rattle.node_rules.specs.NodeSteps.{NodeStep, acts, stays, left_by}
use Rattle.node_rules.specs.Laws.{IsWhole, IsCutOff}
use Rattle.node_rules.proofs.FailedWrites.{clean}
use Rattle.line_laws.proofs.Planned.{Planned, Refuses, Keeps, Ended}
use Rattle.line_laws.proofs.Made.{RingWord, Given}
use Rattle.line_laws.proofs.MadeIn.{MadeIn}
use Rattle.line_laws.proofs.Frontiers.{ArePlain, made_in_plain}

-- A letter has the address of a ring, and is under the key that the ring seals with.
pub record IsOfRing (r : ring.Ring) (l : SealedUnit) : Type 0 where
  pub granted : Granted
  pub is : r ≡ Some granted
  pub from : granted.address ≡ l.from
  pub key : sealing_key granted ≡ Some l.key

-- the ring of a node, where it runs
abbrev pub node_ring : Node → ring.Ring
node_ring x = option_and_then (λ (m : Memory). m.station.ring) x.memory

-- a frame is of a ring, where it is sealed
abbrev pub IsFrom : ring.Ring → Sent → Type 0
IsFrom r (Sealed l) = IsOfRing r l
IsFrom r (Up agent from message) = Unit {0}
IsFrom r (Down from message) = Unit {0}

abbrev pub AreFrom : ring.Ring → List Sent → Type 0
AreFrom r [] = Unit {0}
AreFrom r (f ∷ fs) = IsFrom r f × AreFrom r fs

pub from_append : (r : ring.Ring) (fs gs : List Sent) → AreFrom r fs → AreFrom r gs → AreFrom r (fs ++ gs)
from_append r [] gs h k = k
from_append r (f ∷ fs) gs h k = (h.0, from_append r fs gs h.1 k)

plain_from : (r : ring.Ring) (fs : List Sent) → ArePlain fs → AreFrom r fs
plain_from r [] h = tt
plain_from r (Sealed l ∷ fs) h = absurd h
plain_from r (Up agent from message ∷ fs) h = (tt, plain_from r fs h)
plain_from r (Down from message ∷ fs) h = (tt, plain_from r fs h)

sealed_units_from : (g : Granted) (key : Key) → sealing_key g ≡ Some key → (first : ℕ) (units : List UnsealedUnit)
    → AreFrom (Some g) (sealed_units g key first units)
sealed_units_from g key is first [] = tt
sealed_units_from g key is first (o ∷ rest) =
    (record { granted = g; is = refl; from = refl; key = is }, sealed_units_from g key is (first + 1) rest)

pub sealed_from : (r : ring.Ring) (first : ℕ) (units : List UnsealedUnit) → AreFrom r (sealed_by r first units)
sealed_from None first units = tt
sealed_from (Some g) first units = by_key (sealing_key g) refl
  where
    by_key : (key : Option Key) → sealing_key g ≡ key → AreFrom (Some g) (option_map_or (λ k. sealed_units g k first units) key [])
    by_key None is = tt
    by_key (Some key) is = sealed_units_from g key is first units

-- a plan that is made of words: its letters are of the ring that is left
pub plan_from : {H F : Type 0} (W : RingWord → Type 0) (L : Granted → Type 0) (P : Eui → Key → Type 0) (E : Eui → Type 0) (g : Given) (m : Memory)
    (ends : Ends F) (K : Memory → H → Type 0) (D : Draft Memory → H → Type 0)
    → ((d : Draft Memory) (answer : H) → D d answer → MadeIn W L P E g m d) → (p : Plan Memory (Result H F)) → Planned in_memory ends m K D p
    → AreFrom p.memory.station.ring p.frames
unfolding resting
plan_from W L P E g m ends K D made p (Refuses reason) = tt
plan_from W L P E g m ends K D made p (Keeps n answer k) = tt
plan_from W L P E g m ends K D made p (Ended d answer done left) =
    from_append _ d.plain _ (plain_from _ d.plain (made_in_plain W L P E g m d (made d answer done)))
    (sealed_from d.memory.station.ring d.memory.station.counter.next d.units)

pub acts_from : {A : Type 0} (x : Node) (halted : A) (plan : Memory → Plan Memory A)
    → ((m : Memory) → x.memory ≡ Some m → AreFrom (plan m).memory.station.ring (plan m).frames)
    → AreFrom (node_ring (acts x halted plan).node) (acts x halted plan).frames
unfolding acts
acts_from {A = A} x halted plan f = by_memory x.memory refl
  where
    by_memory : (o : Option Memory) → x.memory ≡ o
        → let d : NodeStep A = option_map_or (λ m. left_by x (carry_out x.store.records x.store.cut (plan m))) o (stays x halted) in
        AreFrom (node_ring d.node) d.frames
    by_memory None e = tt
    by_memory (Some m) e = ⊎_elim
        (λ (w : IsWhole x.store.records x.store.cut (plan m) (carry_out x.store.records x.store.cut (plan m))). rw (w.memory, w.frames) (f m e))
        (λ (c : IsCutOff x.store.records x.store.cut (plan m) (carry_out x.store.records x.store.cut (plan m))). rw (c.memory, c.frames) tt)
        (clean x.store.records x.store.cut (plan m))
