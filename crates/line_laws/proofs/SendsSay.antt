-- What plans send says what the units that they seal say; what a node does is what its plan does, or nothing.
use Rattle.std.proofs.Common.{⊎_elim, ◌≡◌, ℕ, ◌+◌, Bool, true, false, List, [], ◌∷◌, ◌++◌, length, Option, Some, None, Result, Ok, Err, refl, sym, subst}
use Rattle.std.specs.Prelude.{All, if◌then◌else◌, nat_lt}
use Rattle.std.specs.Option.{option_map_or}
use Rattle.std.proofs.lemmas.List.Elements.{All-nil, All-cons, All-head, All-tail}
use Rattle.plc_base.specs.declared.key.Key.{Key}
use Rattle.plc_base.specs.Grant.{Granted}
use Rattle.group_keys.specs.KeyRing as ring
use Rattle.mesh_header.specs.declared.unit.Unit.{Unit as MeshUnit}
use Rattle.node_rules.specs.Drafts.{Draft, Ends, UnsealedUnit, counters_left, sealed_units, refused, sealed, sealed_by, sealing, sealing_key}
use Rattle.node_rules.specs.Frames.{Sent}
use Rattle.node_rules.specs.Memory.{Memory, Node}
use Rattle.node_rules.specs.MemoryDrafts.{in_memory}
use Rattle.node_rules.specs.NodeSteps.{acts, left_by, stays}
use Rattle.node_rules.specs.Plans.{Plan, carry_out, resting}
use Rattle.node_rules.specs.Laws.{IsWhole, IsCutOff}
use Rattle.node_rules.proofs.FailedWrites.{clean}
use Rattle.reach_rules.specs.ReachingNodes.{Reaching, in_reach}
use Rattle.line_laws.proofs.FlightsSay.{FrameSays}

-- # What a node does

-- What holds of a plan's answer and frames, and of its answer where a write fails.
pub record Both {A : Type 0} (Q : A → List Sent → Type 0) (answer failed : A) (frames : List Sent) : Type 0 where
  pub whole : Q answer frames
  pub cut : Q failed []

pub acts_by : {A : Type 0} (Q : A → List Sent → Type 0) (x : Node) (halted : A) (plan : Memory → Plan Memory A) → Q halted []
    → ((m : Memory) → x.memory ≡ Some m → Both Q (plan m).answer (plan m).failed (plan m).frames)
    → Q (acts x halted plan).answer (acts x halted plan).frames
unfolding acts
acts_by {A} Q x halted plan down up = by_memory x.memory refl
  where
    by_outcome : (m : Memory) → x.memory ≡ Some m → Q (carry_out x.store.records x.store.cut (plan m)).answer
        (carry_out x.store.records x.store.cut (plan m)).frames
    by_outcome m e = ⊎_elim
        (λ (w : IsWhole x.store.records x.store.cut (plan m) (carry_out x.store.records x.store.cut (plan m))). subst
        (λ a. Q a (carry_out x.store.records x.store.cut (plan m)).frames) (sym w.answer) (subst (Q (plan m).answer) (sym w.frames) (up m e).whole))
        (λ (c : IsCutOff x.store.records x.store.cut (plan m) (carry_out x.store.records x.store.cut (plan m))). subst
        (λ a. Q a (carry_out x.store.records x.store.cut (plan m)).frames) (sym c.answer) (subst (Q (plan m).failed) (sym c.frames) (up m e).cut))
        (clean x.store.records x.store.cut (plan m))

    by_memory : (o : Option Memory) → x.memory ≡ o → Q (option_map_or (λ m. left_by x (carry_out x.store.records x.store.cut (plan m))) o
        (stays x halted)).answer (option_map_or (λ m. left_by x (carry_out x.store.records x.store.cut (plan m))) o (stays x halted)).frames
    by_memory None e = down
    by_memory (Some m) e = by_outcome m e

-- # What is sealed

module _ (P : ℕ → MeshUnit → Type 0) where
  record OutSays (o : UnsealedUnit) : Type 0 where
    says : P o.to o.unit

  sealed_units_say : (g : Granted) (key : Key) (first : ℕ) (us : List UnsealedUnit) → All OutSays us → All (FrameSays P) (sealed_units g key first us)
  sealed_units_say g key first [] all = All-nil (FrameSays P)
  sealed_units_say g key first (o ∷ rest) all = All-cons (FrameSays P) _ _ (All-head OutSays o rest all).says
      (sealed_units_say g key (first + 1) rest (All-tail OutSays o rest all))

  sealed_say : (r : ring.Ring) (first : ℕ) (us : List UnsealedUnit) → All OutSays us → All (FrameSays P) (sealed_by r first us)
  sealed_say None first us all = All-nil (FrameSays P)
  sealed_say (Some g) first us all = by_key (sealing_key g)
    where
      by_key : (key : Option Key) → All (FrameSays P) (option_map_or (λ k. sealed_units g k first us) key [])
      by_key None = All-nil (FrameSays P)
      by_key (Some key) = sealed_units_say g key first us all

  -- one unit, or none
  pub one_sealed : (r : ring.Ring) (first to : ℕ) (unit : MeshUnit) (note : ℕ) → P to unit
      → All (FrameSays P) (sealed_by r first (record { to = to; unit = unit; note = note } ∷ []))
  one_sealed r first to unit note p = sealed_say r first _ (All-cons OutSays _ [] (record { says = p }) (All-nil OutSays))

  pub none_sealed : (r : ring.Ring) (first : ℕ) → All (FrameSays P) (sealed_by r first [])
  none_sealed r first = sealed_say r first [] (All-nil OutSays)

-- # Plans over what stands beside the memory

module _ {H E : Type 0} (Q : Result H E → List Sent → Type 0) (fails : (e : E) → Q (Err e) []) where
  pub refused_by : (ends : Ends E) (y : Reaching Memory) (reason : E) → let p : Plan (Reaching Memory) (Result H E) = refused ends y reason in Both Q p.answer
      p.failed p.frames
  unfolding resting
  refused_by ends y reason = record { whole = fails reason; cut = fails ends.store }

  pub sealed_by_plan : (ends : Ends E) (y : Reaching Memory) (d : Draft (Reaching Memory)) (answer : H)
      → Q (Ok answer) (d.plain ++ sealed_by d.memory.memory.station.ring d.memory.memory.station.counter.next d.units)
      → let p : Plan (Reaching Memory) (Result H E) = sealed (in_reach in_memory) ends y d answer in Both Q p.answer p.failed p.frames
  unfolding sealed
  sealed_by_plan ends y d answer h = by_test (nat_lt (counters_left y.memory.station) (length d.units))
    where
      by_test : (t : Bool) → let p : Plan (Reaching Memory) (Result H E) =
          (if t then refused ends y ends.spent else sealing (in_reach in_memory) ends d answer) in Both Q p.answer p.failed p.frames
      by_test true = refused_by ends y ends.spent
      by_test false = record { whole = h; cut = fails ends.store }
