-- Single commands and calls of further reach: what refuses, in which order, and what is stored.
use Rattle.std.specs.Prelude.{◌≡◌, ℕ, ◌+◌, ◌-◌, true, false, Bool, List, [], ◌∷◌, ◌++◌, map, replicate, Result, Ok, Err}
use Rattle.std.specs.List.{range_with_len}
use Rattle.byteorder.specs.Endian.{big_bytes}
use Rattle.plc_base.specs.declared.address.TheConstants.{PAN}
use Rattle.plc_base.specs.Keeper.{Write}
use Rattle.frame_counters.specs.SendCounter as counter
use Rattle.neighbour_checks.specs.Acks.{ack_spelling}
use Rattle.broadcast_log.specs.Grammar.{spelling}
use Rattle.store_tables.specs.Numberings.{counting_at}
use Rattle.broadcast_log.specs.OriginMarks.{mark_ahead}
use Rattle.path_requests.specs.declared.message.PathMessage.TheVariants.{Ask, Tell}
use Rattle.path_requests.specs.Messages.{path_spelling}
use Rattle.pan_discovery.specs.History.{begun, ended}
use Rattle.pan_discovery.specs.Messages.{request_spelling, beacon_spelling}
use Rattle.node_rules.specs.declared.refusal.Dropped.{Dropped}
use Rattle.node_rules.specs.declared.refusal.Dropped.TheVariants.{BadUnit, NoRoute, CounterSpent}
use Rattle.node_rules.specs.Memory.{Memory, Coordinator, Meter}
use Rattle.node_rules.specs.MemoryDrafts.{in_memory}
use Rattle.reach_rules.specs.declared.heard.CommandHeard.{CommandHeard}
use Rattle.reach_rules.specs.declared.heard.CommandHeard.TheVariants as commands
use Rattle.reach_rules.specs.declared.heard.DiscoveryHeard.{DiscoveryHeard}
use Rattle.reach_rules.specs.declared.heard.DiscoveryHeard.TheVariants.{Beacon, Beaconed}
use Rattle.reach_rules.specs.declared.refusal.ReachDropped.{ReachDropped}
use Rattle.reach_rules.specs.declared.refusal.ReachDropped.TheVariants.{Known, Old, OriginsFull, Revisited, PathLong}
use Rattle.reach_rules.specs.declared.refusal.BroadcastRefusal.{BroadcastRefusal}
use Rattle.reach_rules.specs.declared.refusal.BroadcastRefusal.TheVariants as broadcasts
use Rattle.reach_rules.specs.declared.refusal.AskRefusal.{AskRefusal}
use Rattle.reach_rules.specs.declared.refusal.AskRefusal.TheVariants as asks
use Rattle.reach_rules.specs.declared.refusal.DiscoveryDropped.{DiscoveryDropped}
use Rattle.reach_rules.specs.declared.refusal.DiscoveryDropped.TheVariants as discovery
use Rattle.reach_rules.specs.declared.refusal.ScanRefusal.TheVariants as scans
use Rattle.reach_rules.specs.declared.refusal.ChooseRefusal.TheVariants as choices
use Rattle.reach_rules.specs.ReachingNodes.{Reaching, Commanding, OfCommand, with_log, with_scan}
use Rattle.reach_rules.specs.Broadcasts.{broadcast}
use Rattle.reach_rules.specs.PathRequests.{ask_path}
use Rattle.reach_rules.specs.Beacons.{hear_discovery, begin_scan, choose_agent, is_discovery}
use Rattle.reach_rules.specs.FurtherReceptions.{hear_command}
use Rattle.reach_rules.specs.SmallLines.{SmallLine, Doing, Sends, Comes, Passes, Hearing, group_key, identity, unjoined, joined, near_to, on_line, line_of}
use Rattle.reach_rules.specs.SmallLines.{words_of, flown_in}
use Rattle.reach_rules.specs.ReachScripts.{waiting, answered, relayed, learned, checked_line}

-- # Words

-- what a node does about a command of a neighbour
abbrev pub about : Reaching Memory → (from : ℕ) → (all : Bool) → (code : ℕ) → List ℕ → Commanding Memory
about x from all code body =
    hear_command in_memory x (record { from = from; to_all = all; code = code; body = body })

-- what it answers
abbrev pub answer_to : Reaching Memory → (from : ℕ) → (all : Bool) → (code : ℕ) → List ℕ → Result CommandHeard ReachDropped
answer_to x from all code body = (about x from all code body).answer

-- what is dropped for a reason that nodes have without further reach
abbrev pub known : Dropped → Result CommandHeard ReachDropped
known reason = Err (Known reason)

-- a node whose next counter is this one
abbrev pub counting : ℕ → Reaching Memory → Reaching Memory
counting next x = on_line (record x.memory.station { counter = counter.counting_at next }) x

-- one that has no counter left
abbrev pub spent : Reaching Memory → Reaching Memory
spent x = counting 4294967295 x

-- the put of a counter's limit, as a node makes it first
abbrev pub counter_put : Write
counter_put = record { slot = 2; octets = big_bytes 4 1024 }

-- # Commands that have no reading or come on a wrong way

-- a broadcast of one octet
abbrev pub broadcast_of : (hops origin number : ℕ) → List ℕ
broadcast_of hops origin number = spelling (record { hops = hops; origin = origin; number = number; octets = 0xaa ∷ [] })

-- an ask, and a tell
abbrev pub ask : (target : ℕ) → List ℕ → List ℕ
ask target walk = path_spelling (Ask target walk)

abbrev pub tell : List ℕ → List ℕ
tell walk = path_spelling (Tell walk)

-- A broadcast goes to all and the other commands to one node; octets that are none of them are dropped, and so is a command of another
-- code, and each at a node without an address.
unfoldable pub StrangeCommandsAreDropped : Type 0
StrangeCommandsAreDropped =
    (answer_to (joined 1) 2 true 3 (ack_spelling 5 1) ≡ known BadUnit)
    × (answer_to (joined 1) 2 false 3 (ack_spelling 0 1) ≡ known BadUnit)
    × (answer_to (joined 1) 2 false 4 (broadcast_of 14 2 0) ≡ known BadUnit)
    × (answer_to (joined 1) 2 true 4 (broadcast_of 15 2 0) ≡ known BadUnit)
    × (answer_to (joined 1) 2 true 5 (ask 1 (2 ∷ [])) ≡ known BadUnit)
    × (answer_to (joined 1) 2 false 5 [] ≡ known BadUnit)
    × (answer_to (joined 1) 2 false 6 (ack_spelling 5 1) ≡ known BadUnit)
    × (answer_to unjoined 2 true 4 (broadcast_of 14 2 0) ≡ known BadUnit)

-- # Broadcasts

-- a node that holds 32 origins, from address 100 on, each with the mark 5
abbrev pub with_origins : Reaching Memory → Reaching Memory
with_origins x =
    with_log (record x.beside.log { marks = map (λ k. mark_ahead (100 + k) 5) (range_with_len 0 32) }) x

-- what is handed up of it
abbrev pub up_of : (origin number : ℕ) → Result CommandHeard ReachDropped
up_of origin number = Ok (commands.Broadcast origin number (0xaa ∷ []))

-- A broadcast is old before origins are full, and counters are judged last; one that goes no further takes no counter.
unfoldable pub BroadcastsAreJudgedInOrder : Type 0
BroadcastsAreJudgedInOrder =
    (answer_to (with_origins (joined 1)) 2 true 4 (broadcast_of 14 7 1) ≡ Err OriginsFull)
    × (answer_to (with_origins (joined 1)) 2 true 4 (broadcast_of 14 1 1) ≡ Err Old)
    × (answer_to (with_origins (joined 1)) 2 true 4 (broadcast_of 14 100 5) ≡ Err Old)
    × (answer_to (with_origins (joined 1)) 2 true 4 (broadcast_of 14 131 6) ≡ up_of 131 6)
    × (answer_to (spent (with_origins (joined 1))) 2 true 4 (broadcast_of 14 100 5) ≡ Err Old)
    × (answer_to (spent (joined 1)) 2 true 4 (broadcast_of 2 7 1) ≡ known CounterSpent)
    × (answer_to (spent (joined 1)) 2 true 4 (broadcast_of 1 7 1) ≡ up_of 7 1)

-- the put of the mark of the coordinator's first broadcast, in the first slot
abbrev pub mark_put : Write
mark_put = record { slot = 0x0300; octets = big_bytes 2 0 ++ big_bytes 4 63 }

-- The mark is stored first, ahead of the number, and then the counter; a later number that both cover stores nothing.
unfoldable pub ABroadcastStoresItsMark : Type 0
ABroadcastStoresItsMark =
    ((about (joined 1) 0 true 4 (broadcast_of 14 0 0)).puts ≡ mark_put ∷ counter_put ∷ [])
    × ((about (joined 1) 0 true 4 (broadcast_of 1 0 0)).puts ≡ mark_put ∷ [])
    × ((about (joined 1) 0 true 4 (broadcast_of 1 0 0)).frames ≡ [])
    × ((about (about (joined 1) 0 true 4 (broadcast_of 14 0 0)).memory 0 true 4 (broadcast_of 14 0 63)).puts ≡ [])

-- what a node answers that is to send a broadcast
abbrev pub broadcast_answer : Reaching Memory → List ℕ → Result (Unit {0}) BroadcastRefusal
broadcast_answer x datagram = (broadcast in_memory x datagram).answer

-- a node that has given out all numbers
abbrev pub numbered_out : Reaching Memory → Reaching Memory
numbered_out x = with_log (record x.beside.log { numbering = counting_at 4294967295 }) x

-- An own broadcast is refused in the order of its refusals, and stores its number before its counter.
unfoldable pub OwnBroadcastsAreJudgedInOrder : Type 0
OwnBroadcastsAreJudgedInOrder =
    (broadcast_answer unjoined [] ≡ Err broadcasts.NotJoined)
    × (broadcast_answer (numbered_out (joined 1)) [] ≡ Err broadcasts.BadSize)
    × (broadcast_answer (numbered_out (joined 1)) (replicate 361 7) ≡ Err broadcasts.BadSize)
    × (broadcast_answer (spent (numbered_out (joined 1))) (replicate 360 7) ≡ Err broadcasts.NumberSpent)
    × (broadcast_answer (spent (joined 1)) (replicate 360 7) ≡ Err broadcasts.CounterSpent)
    × (broadcast_answer (joined 1) (replicate 360 7) ≡ Ok tt)
    × ((broadcast in_memory (joined 1) (7 ∷ [])).puts
    ≡ record { slot = 6; octets = big_bytes 4 32 } ∷ counter_put ∷ [])

-- # Path requests

-- the node between two others
abbrev pub between : Reaching Memory
between = near_to 2 1 (near_to 0 1 (joined 1))

-- a walk of 15 addresses, of which the coordinator's is the last
abbrev pub fifteen : List ℕ
fifteen = map (λ k. 20 + k) (range_with_len 0 14) ++ 0 ∷ []

-- An ask is refused in the order of its refusals; one at its target may have a full walk. A tell goes back only from the node after the
-- own one, and needs no counter where it ends.
unfoldable pub PathsAreJudgedInOrder : Type 0
PathsAreJudgedInOrder =
    (answer_to between 3 false 5 (ask 9 (0 ∷ [])) ≡ known BadUnit)
    × (answer_to between 0 false 5 (ask 9 (1 ∷ 0 ∷ [])) ≡ known NoRoute)
    × (answer_to between 0 false 5 (ask 2 (1 ∷ 0 ∷ [])) ≡ Err Revisited)
    × (answer_to (spent between) 0 false 5 (ask 2 fifteen) ≡ Err PathLong)
    × (answer_to between 0 false 5 (ask 1 fifteen) ≡ Ok commands.Answered)
    × (answer_to (spent between) 0 false 5 (ask 2 (0 ∷ [])) ≡ known CounterSpent)
    × (answer_to between 2 false 5 (tell (0 ∷ 1 ∷ 2 ∷ [])) ≡ Ok commands.Relayed)
    × (answer_to between 3 false 5 (tell (0 ∷ 1 ∷ 2 ∷ [])) ≡ known BadUnit)
    × (answer_to (spent between) 2 false 5 (tell (1 ∷ 2 ∷ [])) ≡ Ok (commands.Path (1 ∷ 2 ∷ [])))

-- what a node answers that is to ask for a path
abbrev pub ask_answer : Reaching Memory → ℕ → Result (Unit {0}) AskRefusal
ask_answer x target = (ask_path in_memory x target).answer

-- A path is not asked for, in the order of the refusals.
unfoldable pub AsksAreJudgedInOrder : Type 0
AsksAreJudgedInOrder =
    (ask_answer unjoined 0 ≡ Err asks.NotJoined)
    × (ask_answer (spent between) 1 ≡ Err asks.ToSelf)
    × (ask_answer (spent between) 9 ≡ Err asks.NoRoute)
    × (ask_answer (spent between) 2 ≡ Err asks.CounterSpent)
    × (ask_answer between 2 ≡ Ok tt)
    × ((ask_path in_memory between 2).puts ≡ counter_put ∷ [])

-- # Beacons

-- a meter that scans
abbrev pub scanning : Reaching Memory → Reaching Memory
scanning x = with_scan begun x

-- what a meter answers to octets of discovery, and what the coordinator does
abbrev pub meter_answer : Reaching Memory → List ℕ → Result DiscoveryHeard DiscoveryDropped
meter_answer x octets = (hear_discovery (Meter group_key) x.memory.station x.beside.scan octets 1).answer

abbrev pub coordinator_answer : List ℕ → Result DiscoveryHeard DiscoveryDropped
coordinator_answer octets = (hear_discovery Coordinator (joined 0).memory.station ended octets 1).answer

-- Frames of discovery are refused in the order of their refusals.
unfoldable pub DiscoveryIsJudgedInOrder : Type 0
DiscoveryIsJudgedInOrder =
    (meter_answer unjoined (0x03 ∷ []) ≡ Err discovery.Malformed)
    × (meter_answer unjoined (request_spelling 9) ≡ Err discovery.NotForMe)
    × (meter_answer (joined 1) (request_spelling 9) ≡ Err discovery.NoRoute)
    × (meter_answer (near_to 0 5 (joined 1)) (request_spelling 9) ≡ Ok Beacon)
    × (coordinator_answer (request_spelling 9) ≡ Ok Beacon)
    × (meter_answer unjoined (beacon_spelling 0 (PAN + 1) 2 5) ≡ Err discovery.NotForMe)
    × (meter_answer (joined 1) (beacon_spelling 0 PAN 1 5) ≡ Err discovery.NotForMe)
    × (meter_answer (scanning (joined 1)) (beacon_spelling 0 PAN 2 5) ≡ Err discovery.NotScanning)
    × (meter_answer unjoined (beacon_spelling 0 PAN 2 5) ≡ Err discovery.NotScanning)
    × (meter_answer (scanning unjoined) (beacon_spelling 0 PAN 2 5) ≡ Ok Beaconed)

-- The lowest three bits of the first octet say what is heard as discovery, whatever comes after it.
unfoldable pub DiscoveryIsKnownByItsType : Type 0
DiscoveryIsKnownByItsType =
    (is_discovery (0x00 ∷ []) ≡ true)
    × (is_discovery (0x0b ∷ 7 ∷ []) ≡ true)
    × (is_discovery (0x69 ∷ 0x98 ∷ []) ≡ false)
    × (is_discovery [] ≡ false)

-- A meter that is joined neither scans nor chooses; one that heard no agent has none to choose.
unfoldable pub OnlyTheUnjoinedScan : Type 0
OnlyTheUnjoinedScan =
    ((begin_scan (joined 1).memory ended).answer ≡ Err scans.AlreadyJoined)
    × ((begin_scan unjoined.memory ended).answer ≡ Ok tt)
    × ((choose_agent identity (joined 1) 1 0).answer ≡ Err choices.AlreadyJoined)
    × ((choose_agent identity (scanning unjoined) 1 0).answer ≡ Err choices.NoBeacon)

-- # Acknowledgements

-- a meter finds a route when nothing waits for it any more
abbrev pub learned_late : List Doing
learned_late = Sends 1 2 (0xaa ∷ []) ∷ Comes 1 2 1 ∷ Passes 30 ∷ Comes 2 1 1 ∷ []

-- three nodes, with checks on, of which meter 1 has this many counters left
abbrev pub with_counters_left : ℕ → SmallLine
with_counters_left left = line_of true (joined 0 ∷ counting (4294967295 - left) (joined 1) ∷ joined 2 ∷ [])

-- A reply is acknowledged with the last counter, and not without one; it is taken all the same.
unfoldable pub AnAcknowledgementTakesACounter : Type 0
AnAcknowledgementTakesACounter =
    (flown_in (with_counters_left 2) learned_late ≡ 3)
    × (flown_in (with_counters_left 1) learned_late ≡ 2)
    × (words_of (with_counters_left 1) learned_late ≡ words_of (with_counters_left 2) learned_late)

-- the coordinator finds a route over meter 1
abbrev pub found_by_relay : List Doing
found_by_relay =
    Sends 0 2 (0xaa ∷ []) ∷ Comes 1 1 1 ∷ Comes 2 2 1 ∷ Comes 3 1 1 ∷ Comes 5 2 1 ∷ Comes 4 0 1 ∷ Comes 7 1 1 ∷ []

-- A reply that is sent on is acknowledged, and its next hop is checked too: the acknowledgement comes after it.
unfoldable pub ARelayIsCheckedToo : Type 0
ARelayIsCheckedToo =
    (words_of checked_line found_by_relay
    ≡ waiting ∷ relayed ∷ answered ∷ relayed ∷ Hearing (Ok (OfCommand commands.Acked)) ∷ learned
    ∷ Hearing (Ok (OfCommand commands.Acked)) ∷ [])
    × (flown_in checked_line found_by_relay ≡ 7)
