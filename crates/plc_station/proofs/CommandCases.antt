-- What sending a command comes to, by what is tested.
use Rattle.std.proofs.Common.{◌≡◌, ℕ, true, false, List, length, Some, None, Result, Ok, Err, refl}
use Rattle.std.specs.Prelude.{nat_lt}
use Rattle.node_rules.specs.declared.heard.SentHow.TheVariants.{Sent, Waiting}
use Rattle.node_rules.specs.declared.refusal.SendRefusal.TheVariants.{NotJoined, WaitingFull, SeqSpent, CounterSpent}
use Rattle.node_rules.specs.declared.refusal.SendRefusal.{SendRefusal}
use Rattle.node_rules.specs.Memory.{StationMemory, Command, next_hop}
use Rattle.node_rules.specs.Drafts.{alone, empty_draft, body_goes, waits, seeks, seeks_once, lack, no_room, numbers_spent, is_awaited}
use Rattle.node_rules.specs.Drafts.{counters_left, refused, sealing, checked, goes, with_own_number}
use Rattle.node_rules.specs.Calls.{sending_ends, command_from, send_command, room_fault, room}
use Rattle.plc_station.specs.Rooms.{room_answer}
use Rattle.plc_station.specs.declared.next_steps.NextStep.{NextStep}
use Rattle.plc_station.specs.NextSteps.{next_step, step_answer, stepping}
use Rattle.plc_station.proofs.NextStepCases as step
use Rattle.plc_station.proofs.Ways.{sealed_spent, sealed_fits, never_less}

goes_spent : (l : StationMemory) (own to : ℕ) (octets : List ℕ) (now hop : ℕ) → Some hop ≡ next_hop l to → true ≡ nat_lt (counters_left l) 1
    → refused sending_ends l CounterSpent ≡ command_from l own to octets now
unfolding checked lack empty_draft body_goes
goes_spent l own to octets now hop by few = rw (← by) (sealed_spent sending_ends l (body_goes own hop to 0 (Command octets) (empty_draft l)) Sent 1 refl few)

goes_by : (l : StationMemory) (own to : ℕ) (octets : List ℕ) (now hop : ℕ) → Some hop ≡ next_hop l to → false ≡ nat_lt (counters_left l) 1
    → sealing alone sending_ends (body_goes own hop to 0 (Command octets) (empty_draft l)) Sent ≡ command_from l own to octets now
unfolding checked lack empty_draft body_goes
goes_by l own to octets now hop by few = rw (← by) (sealed_fits sending_ends l (body_goes own hop to 0 (Command octets) (empty_draft l)) Sent 1 refl few)

full : (l : StationMemory) (own to : ℕ) (octets : List ℕ) (now : ℕ) → None ≡ next_hop l to → true ≡ no_room l (length octets)
    → refused sending_ends l WaitingFull ≡ command_from l own to octets now
unfolding checked lack
full l own to octets now by room = rw (← by, ← room) refl

quiet : (l : StationMemory) (own to : ℕ) (octets : List ℕ) (now : ℕ) → None ≡ next_hop l to → false ≡ no_room l (length octets) → true ≡ is_awaited l to
    → sealing alone sending_ends (waits to 0 (Command octets) now (empty_draft l)) Waiting ≡ command_from l own to octets now
unfolding checked lack seeks_once empty_draft waits
quiet l own to octets now by room awaited =
    rw (← by, ← room, ← awaited) (sealed_fits sending_ends l (waits to 0 (Command octets) now (empty_draft l)) Waiting 0 refl (never_less (counters_left l)))

seq_spent : (l : StationMemory) (own to : ℕ) (octets : List ℕ) (now : ℕ) → None ≡ next_hop l to → false ≡ no_room l (length octets)
    → false ≡ is_awaited l to → true ≡ numbers_spent l
    → refused sending_ends l SeqSpent ≡ command_from l own to octets now
unfolding checked lack
seq_spent l own to octets now by room awaited spent = rw (← by, ← room, ← awaited, ← spent) refl

seeks_spent : (l : StationMemory) (own to : ℕ) (octets : List ℕ) (now : ℕ) → None ≡ next_hop l to → false ≡ no_room l (length octets)
    → false ≡ is_awaited l to → false ≡ numbers_spent l → true ≡ nat_lt (counters_left l) 1
    → refused sending_ends l CounterSpent ≡ command_from l own to octets now
unfolding checked lack seeks_once empty_draft waits goes with_own_number
seeks_spent l own to octets now by room awaited spent few =
    rw (← by, ← room, ← awaited, ← spent) (sealed_spent sending_ends l (waits to 0 (Command octets) now (seeks own to (empty_draft l))) Waiting 1 refl few)

seeking : (l : StationMemory) (own to : ℕ) (octets : List ℕ) (now : ℕ) → None ≡ next_hop l to → false ≡ no_room l (length octets) → false ≡ is_awaited l to
    → false ≡ numbers_spent l → false ≡ nat_lt (counters_left l) 1
    → sealing alone sending_ends (waits to 0 (Command octets) now (seeks own to (empty_draft l))) Waiting ≡ command_from l own to octets now
unfolding checked lack seeks_once empty_draft waits goes with_own_number
seeking l own to octets now by room awaited spent few =
    rw (← by, ← room, ← awaited, ← spent) (sealed_fits sending_ends l (waits to 0 (Command octets) now (seeks own to (empty_draft l))) Waiting 1 refl few)

pub not_joined : (l : StationMemory) (to : ℕ) (octets : List ℕ) (now : ℕ) → None ≡ l.ring → refused sending_ends l NotJoined ≡ send_command l to octets now
not_joined l to octets now e = rw (← e) refl

-- # The way, by the next step

pub command_step : (l : StationMemory) (own to : ℕ) (octets : List ℕ) (now : ℕ)
    → stepping l own to 0 now (Command octets) (empty_draft l) (next_step l to (length octets) 1) ≡ command_from l own to octets now
command_step l own to octets now = by_tests _ (step.tested l to (length octets) 1)
  where
    by_tests : (r : Result NextStep SendRefusal) → step.Tests l to (length octets) 1 r
        → stepping l own to 0 now (Command octets) (empty_draft l) r ≡ command_from l own to octets now
    by_tests r (step.goes_spent hop e few) = goes_spent l own to octets now hop e few
    by_tests r (step.goes hop e few) = goes_by l own to octets now hop e few
    by_tests r (step.full e p) = full l own to octets now e p
    by_tests r (step.waits e p q) = quiet l own to octets now e p q
    by_tests r (step.numbers e p q n) = seq_spent l own to octets now e p q n
    by_tests r (step.seeks_spent e p q n s) = seeks_spent l own to octets now e p q n s
    by_tests r (step.seeks e p q n s) = seeking l own to octets now e p q n s

-- # Room

room_goes_spent : (l : StationMemory) (to octets hop : ℕ) → Some hop ≡ next_hop l to → true ≡ nat_lt (counters_left l) 1
    → ◌≡◌ {A = Result (Unit {0}) SendRefusal} (Err CounterSpent) (room_answer (room_fault l to octets))
unfolding lack
room_goes_spent l to octets hop by few = rw (← by, ← few) refl

room_goes : (l : StationMemory) (to octets hop : ℕ) → Some hop ≡ next_hop l to → false ≡ nat_lt (counters_left l) 1
    → ◌≡◌ {A = Result (Unit {0}) SendRefusal} (Ok tt) (room_answer (room_fault l to octets))
unfolding lack
room_goes l to octets hop by few = rw (← by, ← few) refl

room_full : (l : StationMemory) (to octets : ℕ) → None ≡ next_hop l to → true ≡ no_room l octets
    → ◌≡◌ {A = Result (Unit {0}) SendRefusal} (Err WaitingFull) (room_answer (room_fault l to octets))
unfolding lack
room_full l to octets by room = rw (← by, ← room) refl

room_quiet : (l : StationMemory) (to octets : ℕ) → None ≡ next_hop l to → false ≡ no_room l octets → true ≡ is_awaited l to
    → ◌≡◌ {A = Result (Unit {0}) SendRefusal} (Ok tt) (room_answer (room_fault l to octets))
unfolding lack
room_quiet l to octets by room awaited = rw (← by, ← room, ← awaited, ← never_less (counters_left l)) refl

room_seq : (l : StationMemory) (to octets : ℕ) → None ≡ next_hop l to → false ≡ no_room l octets → false ≡ is_awaited l to → true ≡ numbers_spent l
    → ◌≡◌ {A = Result (Unit {0}) SendRefusal} (Err SeqSpent) (room_answer (room_fault l to octets))
unfolding lack
room_seq l to octets by room awaited spent = rw (← by, ← room, ← awaited, ← spent) refl

room_spent : (l : StationMemory) (to octets : ℕ) → None ≡ next_hop l to → false ≡ no_room l octets → false ≡ is_awaited l to → false ≡ numbers_spent l
    → true ≡ nat_lt (counters_left l) 1 → ◌≡◌ {A = Result (Unit {0}) SendRefusal} (Err CounterSpent) (room_answer (room_fault l to octets))
unfolding lack
room_spent l to octets by room awaited spent few = rw (← by, ← room, ← awaited, ← spent, ← few) refl

room_seeks : (l : StationMemory) (to octets : ℕ) → None ≡ next_hop l to → false ≡ no_room l octets → false ≡ is_awaited l to → false ≡ numbers_spent l
    → false ≡ nat_lt (counters_left l) 1 → ◌≡◌ {A = Result (Unit {0}) SendRefusal} (Ok tt) (room_answer (room_fault l to octets))
unfolding lack
room_seeks l to octets by room awaited spent few = rw (← by, ← room, ← awaited, ← spent, ← few) refl

-- what a command would be refused for is what its next step is
pub room_step : (l : StationMemory) (to octets : ℕ) → step_answer (next_step l to octets 1) ≡ room_answer (room_fault l to octets)
room_step l to octets = by_tests (next_step l to octets 1) (step.tested l to octets 1)
  where
    by_tests : (r : Result NextStep SendRefusal) → step.Tests l to octets 1 r → step_answer r ≡ room_answer (room_fault l to octets)
    by_tests r (step.goes_spent hop e few) = room_goes_spent l to octets hop e few
    by_tests r (step.goes hop e few) = room_goes l to octets hop e few
    by_tests r (step.full e p) = room_full l to octets e p
    by_tests r (step.waits e p q) = room_quiet l to octets e p q
    by_tests r (step.numbers e p q n) = room_seq l to octets e p q n
    by_tests r (step.seeks_spent e p q n s) = room_spent l to octets e p q n s
    by_tests r (step.seeks e p q n s) = room_seeks l to octets e p q n s
