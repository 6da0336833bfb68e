-- What refuses the calls of the line, and which lines of a script are bad.
use Rattle.std.specs.Prelude.{◌≡◌, ℕ, true, false, List, [], ◌∷◌, ◌++◌, map, replicate, Option, Some, None, Result, Ok, Err}
use Rattle.std.specs.List.{range_with_len}
use Rattle.std.specs.Option.{option_map}
use Rattle.node_rules.specs.Memory.{Memory}
use Rattle.node_rules.specs.Coordinators as coordinator_rules
use Rattle.node_rules.specs.declared.refusal.CoordinatorRefusal.{CoordinatorRefusal}
use Rattle.node_rules.specs.declared.refusal.CoordinatorRefusal.TheVariants as refusals
use Rattle.line_events.specs.declared.event.Answer.TheVariants as answers
use Rattle.line_events.specs.declared.event.Event.{Event}
use Rattle.line_events.specs.declared.event.Event.TheVariants.{Coordinator, Meter, Depot, Near, Counter, Allow, RandomOctets, Join, Leave, Send, Deliver}
use Rattle.line_events.specs.declared.event.Event.TheVariants.{Inject, Lose}
use Rattle.line_events.specs.declared.event.Event.TheVariants.{Break, Tick, Cut, Rekey, Activate, Challenge, Kick, Show}
use Rattle.line_events.specs.declared.event.StepFault.TheVariants as faults
use Rattle.line_rules.specs.Worlds.{start}
use Rattle.line_rules.specs.Runs.{run}
use Rattle.worked_scripts.specs.Scripts.{plain, eui, group_key, pair_key, second_key, rand_k, alone, one_meter, two_meters, answers_after, answers_to}
use Rattle.worked_scripts.specs.Scripts.{counts_of, fault_after, shown_at_last, memory_at}

-- # Halted nodes

-- the coordinator and meter 1 have halted: a write of each failed
abbrev pub both_halted : List Event
both_halted =
    two_meters ++ (Near 0 2 1 ∷ Cut 0 1 false ∷ Cut 1 1 false ∷ Send 1 2 (0xaa ∷ []) ∷ Send 0 2 (0xaa ∷ []) ∷ [])

-- every call at one of them, or toward one
abbrev pub calls_at_halted : List Event
calls_at_halted =
    Send 1 2 (0xaa ∷ []) ∷ Send 2 1 (0xaa ∷ []) ∷ Send 1 1 (0xaa ∷ []) ∷ Break 1 2 ∷ Break 2 1 ∷ Join 1 2 ∷ Join 1 0
    ∷ Join 2 1 ∷ Leave 1 ∷ RandomOctets 1 rand_k ∷ RandomOctets 0 rand_k
    ∷ Inject 1 1 (0 ∷ []) ∷ Inject 0 1 (0 ∷ []) ∷ Allow 1 ∷ Rekey 1 second_key ∷ Rekey 0 second_key ∷ Challenge 1
    ∷ Activate 0 1 ∷ Activate 1 0 ∷ Kick 1
    ∷ Tick 1 ∷ Cut 1 1 true ∷ Show 1 ∷ []

-- A halted node answers so before all else, and has no address for others.
unfoldable pub HaltedNodesDoNothing : Type 0
HaltedNodesDoNothing =
    (answers_after 8 both_halted ≡ answers.Store ∷ answers.Store ∷ [])
    × (answers_to both_halted calls_at_halted
    ≡ answers.Halted ∷ answers.NoAddress ∷ answers.NoAddress ∷ answers.Halted ∷ answers.NoAddress ∷ answers.Halted ∷ answers.NoAddress
    ∷ answers.NoAddress ∷ answers.Halted ∷ answers.Halted ∷ answers.Halted
    ∷ answers.Halted ∷ answers.Halted ∷ answers.Halted ∷ answers.Halted ∷ answers.Halted ∷ answers.Halted ∷ answers.Halted ∷ answers.Halted
    ∷ answers.Halted
    ∷ answers.Ticked ∷ answers.Set ∷ answers.Shown ∷ [])
    × (shown_at_last (run plain start (both_halted ++ calls_at_halted)) ≡ Some (record {
      halted = true;
      address = None;
      active = None;
      next_counter = 0;
      last_number = 0;
      key0 = None;
      key1 = None;
      routes = [];
      floors = replicate 16 0;
      peers = [];
    }))
    × (counts_of (both_halted ++ calls_at_halted) ≡ record { events = 33; flights = 0; sends = 0; ups = 0; forged = 0 })

-- # Nodes without an address

-- meter 1 is not joined, and meter 2 is
abbrev pub one_not_joined : List Event
one_not_joined = alone ++ (Meter (eui 2) pair_key ∷ Meter (eui 3) pair_key ∷ Depot 2 ∷ [])

-- calls at one of them, or toward one
abbrev pub calls_about_addresses : List Event
calls_about_addresses =
    Send 1 2 (0xaa ∷ []) ∷ Send 1 2 (replicate 1281 7) ∷ Send 2 1 (0xaa ∷ []) ∷ Send 1 1 (0xaa ∷ [])
    ∷ Send 2 2 (0xaa ∷ []) ∷ Send 2 2 (replicate 1281 7) ∷ Send 2 0 []
    ∷ Break 2 1 ∷ Break 1 2 ∷ Join 2 1 ∷ Join 2 0 ∷ Join 1 1 ∷ Join 1 2 ∷ Leave 1 ∷ Leave 2 ∷ Leave 2 ∷ Kick 1
    ∷ Challenge 1 ∷ Activate 1 0 ∷ []

-- A call toward a node without an address is refused first; then the node's own state refuses, then the size, then the own address.
unfoldable pub CallsNeedAddresses : Type 0
CallsNeedAddresses =
    answers_to one_not_joined calls_about_addresses
    ≡ answers.NotJoined ∷ answers.NotJoined ∷ answers.NoAddress ∷ answers.NoAddress ∷ answers.ToSelf ∷ answers.BadSize ∷ answers.BadSize
    ∷ answers.NoAddress ∷ answers.Broken ∷ answers.NoAddress ∷ answers.AlreadyJoined ∷ answers.NoAddress ∷ answers.Asked ∷ answers.NotJoined
    ∷ answers.Left ∷ answers.NotJoined ∷ answers.NotAllowed ∷ answers.NotAllowed ∷ answers.NotAllowed ∷ []

-- # Random values

-- A node holds eight random values, takes the oldest first, and keeps them when it leaves.
unfoldable pub EightRandomValuesAreHeld : Type 0
EightRandomValuesAreHeld =
    (answers_to one_meter (replicate 9 (RandomOctets 1 rand_k)) ≡ replicate 8 answers.Given ++ (answers.RandomsFull ∷ []))
    × (answers_to one_meter (replicate 9 (RandomOctets 0 rand_k)) ≡ replicate 8 answers.Given ++ (answers.RandomsFull ∷ []))
    × (answers_to one_meter (replicate 8 (RandomOctets 1 rand_k) ++ (Leave 1 ∷ RandomOctets 1 rand_k ∷ []))
    ≡ replicate 8 answers.Given ++ (answers.Left ∷ answers.RandomsFull ∷ []))

-- # A full book

-- what the coordinator answers where a meter is allowed beside a book of this many entries, all of the meter of EUI 5
abbrev pub allowed_beside : (count n : ℕ) → Option (Result ℕ CoordinatorRefusal)
allowed_beside count n =
    option_map (λ (m : Memory).
    (coordinator_rules.allow
    (record m {
      book = replicate count
          (record {
            eui = eui 5;
            psk = pair_key;
            allowed = true;
            issued0 = None;
            issued1 = None;
          });
    }) (eui n) pair_key).answer)
    (memory_at alone 0)

-- The book has room for 999 meters, and one that is known needs none. No script fills it, since a world has no more meters.
unfoldable pub TheBookHasRoom : Type 0
TheBookHasRoom =
    (allowed_beside 998 9 ≡ Some (Ok 999))
    × (allowed_beside 999 9 ≡ Some (Err refusals.MetersFull))
    × (allowed_beside 999 5 ≡ Some (Ok 1))

-- # Bad lines

-- A line that is not taken has the first reason that holds.
unfoldable pub BadLinesHaveTheirReasons : Type 0
BadLinesHaveTheirReasons =
    (fault_after alone (Deliver 1 0 1) ≡ Some faults.Flight)
    × (fault_after alone (Deliver 0 0 1) ≡ Some faults.Flight)
    × (fault_after alone (Join 0 0) ≡ Some faults.Node)
    × (fault_after alone (Depot 0) ≡ Some faults.Setup)
    × (fault_after alone (Depot 1) ≡ Some faults.Node)
    × (fault_after [] (Send 0 0 (0 ∷ [])) ≡ Some faults.Setup)
    × (fault_after alone (Coordinator (eui 2) group_key) ≡ Some faults.Setup)
    × (fault_after alone (Meter (eui 1) pair_key) ≡ Some faults.Setup)
    × (fault_after (alone ++ (Tick 1 ∷ [])) (Meter (eui 2) pair_key) ≡ Some faults.Setup)
    × (fault_after (two_meters ++ (Tick 1 ∷ [])) (Near 1 3 1) ≡ Some faults.Setup)
    × (fault_after (two_meters ++ (Tick 1 ∷ [])) (Counter 1 5) ≡ Some faults.Setup)
    × (fault_after (one_not_joined ++ (Tick 1 ∷ [])) (Depot 1) ≡ Some faults.Setup)
    × (fault_after two_meters (Depot 1) ≡ Some faults.Setup)
    × (fault_after two_meters (Near 1 1 1) ≡ Some faults.Setup)
    × (fault_after two_meters (Near 1 3 1) ≡ Some faults.Node)
    × (fault_after one_not_joined (Near 1 2 1) ≡ Some faults.Setup)
    × (fault_after (two_meters ++ (Near 1 2 1 ∷ [])) (Near 2 1 1) ≡ Some faults.Setup)
    × (fault_after two_meters (Kick 0) ≡ Some faults.Node)
    × (fault_after two_meters (Allow 0) ≡ Some faults.Node)
    × (fault_after two_meters (Leave 0) ≡ Some faults.Node)
    × (fault_after two_meters (Challenge 0) ≡ Some faults.Node)
    × (fault_after two_meters (Deliver 1 9 1) ≡ Some faults.Node)
    × (fault_after two_meters (Lose 1) ≡ Some faults.Flight)

-- this many meters, each joined in the workshop, the first of them near this many others
abbrev pub neighbours : ℕ → List Event
neighbours count =
    alone ++ (map (λ n. Meter (eui n) pair_key) (range_with_len 2 66)
    ++ (map (λ n. Depot n) (range_with_len 1 66) ++ map (λ n. Near 1 n 1) (range_with_len 2 count)))

-- A node that keeps 64 ranks is near no other.
unfoldable pub SixtyFourAreNear : Type 0
SixtyFourAreNear =
    (fault_after (neighbours 63) (Near 1 66 1) ≡ None)
    × (fault_after (neighbours 64) (Near 1 66 1) ≡ Some faults.Setup)
    × (fault_after (neighbours 64) (Near 66 1 1) ≡ Some faults.Setup)
