-- What a next step comes to, by what is tested, and which tests led to it.
use Rattle.std.proofs.Common.{◌≡◌, ℕ, Bool, true, false, Option, Some, None, Result, Ok, Err, refl}
use Rattle.std.specs.Prelude.{nat_lt, if◌then◌else◌}
use Rattle.node_rules.specs.declared.refusal.SendRefusal.{SendRefusal}
use Rattle.node_rules.specs.declared.refusal.SendRefusal.TheVariants.{WaitingFull, SeqSpent, CounterSpent}
use Rattle.node_rules.specs.Memory.{StationMemory, next_hop}
use Rattle.node_rules.specs.Drafts.{counters_left, is_awaited, no_room, numbers_spent}
use Rattle.plc_station.specs.declared.next_steps.NextStep.{NextStep}
use Rattle.plc_station.specs.declared.next_steps.NextStep.TheVariants.{Goes, Waits, Seeks}
use Rattle.plc_station.specs.NextSteps.{next_step, step_by, step_without}

-- The tests, and the step that they lead to.
pub data Tests (l : StationMemory) (to octets frames : ℕ) : Result NextStep SendRefusal → Type 0 where
  goes_spent : (hop : ℕ) → Some hop ≡ next_hop l to → true ≡ nat_lt (counters_left l) frames → Tests l to octets frames (Err CounterSpent)
  goes : (hop : ℕ) → Some hop ≡ next_hop l to → false ≡ nat_lt (counters_left l) frames → Tests l to octets frames (Ok (Goes hop))
  full : None ≡ next_hop l to → true ≡ no_room l octets → Tests l to octets frames (Err WaitingFull)
  waits : None ≡ next_hop l to → false ≡ no_room l octets → true ≡ is_awaited l to → Tests l to octets frames (Ok Waits)
  numbers : None ≡ next_hop l to → false ≡ no_room l octets → false ≡ is_awaited l to → true ≡ numbers_spent l → Tests l to octets frames (Err SeqSpent)
  seeks_spent : None ≡ next_hop l to → false ≡ no_room l octets → false ≡ is_awaited l to → false ≡ numbers_spent l → true ≡ nat_lt (counters_left l) 1
      → Tests l to octets frames (Err CounterSpent)
  seeks : None ≡ next_hop l to → false ≡ no_room l octets → false ≡ is_awaited l to → false ≡ numbers_spent l → false ≡ nat_lt (counters_left l) 1
      → Tests l to octets frames (Ok Seeks)

-- a step was led to by some tests
pub tested : (l : StationMemory) (to octets frames : ℕ) → Tests l to octets frames (next_step l to octets frames)
tested l to octets frames = by_hop (next_hop l to) refl
  where
    by_hop : (h : Option ℕ) → h ≡ next_hop l to → Tests l to octets frames (step_by l to octets frames h)
    by_hop (Some hop) e = by_few (nat_lt (counters_left l) frames) refl
      where
        by_few : (few : Bool) → few ≡ nat_lt (counters_left l) frames
            → Tests l to octets frames (if few then Err CounterSpent else Ok (Goes hop))
        by_few true few = goes_spent hop e few
        by_few false few = goes hop e few
    by_hop None e = by_tests (no_room l octets) (is_awaited l to) (numbers_spent l) (nat_lt (counters_left l) 1) refl refl refl refl
      where
        by_tests : (a b c d : Bool) → a ≡ no_room l octets → b ≡ is_awaited l to → c ≡ numbers_spent l → d ≡ nat_lt (counters_left l) 1
            → Tests l to octets frames (step_without a b c d)
        by_tests true b c d p q r s = full e p
        by_tests false true c d p q r s = waits e p q
        by_tests false false true d p q r s = numbers e p q r
        by_tests false false false true p q r s = seeks_spent e p q r s
        by_tests false false false false p q r s = seeks e p q r s

-- # The step, by the tests

pub step_is : (l : StationMemory) (to octets frames : ℕ) (r : Result NextStep SendRefusal) → Tests l to octets frames r → r ≡ next_step l to octets frames
step_is l to octets frames r (goes_spent hop e few) = rw (← e, ← few) refl
step_is l to octets frames r (goes hop e few) = rw (← e, ← few) refl
step_is l to octets frames r (full e p) = rw (← e, ← p) refl
step_is l to octets frames r (waits e p q) = rw (← e, ← p, ← q) refl
step_is l to octets frames r (numbers e p q n) = rw (← e, ← p, ← q, ← n) refl
step_is l to octets frames r (seeks_spent e p q n s) = rw (← e, ← p, ← q, ← n, ← s) refl
step_is l to octets frames r (seeks e p q n s) = rw (← e, ← p, ← q, ← n, ← s) refl
