-- A small line of nodes with further reach, for scripts that are computed: frames are handed on as values, each opened by the key that
-- sealed it, and no store write fails. Node 0 is the coordinator, and a node that is joined has its number as its address.
use Rattle.std.specs.Prelude.{ℕ, ◌+◌, ◌-◌, ◌==◌, Bool, List, [], ◌∷◌, ◌++◌, length, map, slice_get, slice_set, Option, Some, None, Result, Ok, Err}
use Rattle.std.specs.Prelude.{if◌then◌else◌}
use Rattle.std.specs.Option.{option_map, option_map_or}
use Rattle.byteorder.specs.Endian.{big_bytes}
use Rattle.plc_base.specs.declared.address.Eui.{Eui}
use Rattle.plc_base.specs.declared.key.Key.{Key}
use Rattle.group_keys.specs.KeyBook.{same_key}
use Rattle.mesh_header.specs.Grammar.{spelling}
use Rattle.pan_discovery.specs.declared.message.Discovery.{Discovery}
use Rattle.pan_discovery.specs.Messages.{discovery_spelling}
use Rattle.node_rules.specs.Accepted.{Accepted}
use Rattle.node_rules.specs.declared.heard.Heard.{Heard}
use Rattle.node_rules.specs.declared.heard.SentHow.{SentHow}
use Rattle.node_rules.specs.declared.refusal.FrameRefusal.{FrameRefusal}
use Rattle.node_rules.specs.declared.refusal.SendRefusal.{SendRefusal}
use Rattle.node_rules.specs.Acceptance.{accept}
use Rattle.node_rules.specs.Calls as calls
use Rattle.node_rules.specs.Ciphers.{network}
use Rattle.node_rules.specs.Frames.{Sent, SealedUnit, Sealed, Up, Down, Arrived, head_of}
use Rattle.node_rules.specs.HearingRules.{hear}
use Rattle.node_rules.specs.Memory.{StationMemory, Memory, Role, Coordinator, Meter}
use Rattle.node_rules.specs.MemoryDrafts.{with_station, in_memory}
use Rattle.node_rules.specs.Meters as meters
use Rattle.node_rules.specs.NodeSteps.{of_station}
use Rattle.node_rules.specs.Plans.{Plan}
use Rattle.node_rules.specs.RestartStates.{remembering, blank_station}
use Rattle.reach_rules.specs.declared.heard.DiscoveryHeard.{DiscoveryHeard}
use Rattle.reach_rules.specs.declared.refusal.ReachDropped.{ReachDropped}
use Rattle.reach_rules.specs.declared.refusal.BroadcastRefusal.{BroadcastRefusal}
use Rattle.reach_rules.specs.declared.refusal.AskRefusal.{AskRefusal}
use Rattle.reach_rules.specs.declared.refusal.DiscoveryDropped.{DiscoveryDropped}
use Rattle.reach_rules.specs.declared.refusal.ScanRefusal.{ScanRefusal}
use Rattle.reach_rules.specs.declared.refusal.ChooseRefusal.{ChooseRefusal}
use Rattle.reach_rules.specs.ReachingNodes.{Reaching, ReachHeard, nothing_beside, with_memory, with_scan, tick_beside}
use Rattle.reach_rules.specs.Broadcasts.{broadcast}
use Rattle.reach_rules.specs.PathRequests.{ask_path}
use Rattle.reach_rules.specs.Beacons.{ChosenAgent, hear_discovery, begin_scan, choose_agent}
use Rattle.reach_rules.specs.Beacons as beacons
use Rattle.reach_rules.specs.FurtherReceptions.{hear_reaching}

-- # Nodes and flights

-- a frame that flies
pub data Flight : Type 0 where
  OfNode : (frame : Sent) → Flight
  OfDiscovery : (frame : Discovery) → Flight

-- The nodes by their numbers, the flights by theirs from 1, the clock, and whether checks are on.
pub record SmallLine : Type 0 where
  pub checks_on : Bool
  pub clock : ℕ
  pub nodes : List (Reaching Memory)
  pub flights : List Flight

-- the key of the group
abbrev pub group_key : Key
group_key = record { 0 = big_bytes 16 0x000102030405060708090a0b0c0d0e0f }

-- no node of these scripts has an EUI of its own, since none joins
abbrev pub no_eui : Eui
no_eui = record { 0 = big_bytes 8 0 }

-- a node that is not joined, and one that is
abbrev pub unjoined : Reaching Memory
unjoined = record { memory = remembering blank_station []; beside = nothing_beside }

abbrev pub joined : ℕ → Reaching Memory
joined n = record {
  memory =
      remembering
      (record blank_station
      { ring = Some (record { address = n; active = 0; key0 = Some group_key; key1 = None }) }) [];
  beside = nothing_beside;
}

-- a node with other things on the line
abbrev pub on_line : StationMemory → Reaching Memory → Reaching Memory
on_line l x = with_memory x (with_station l x.memory)

-- a node that keeps a neighbour as a route of one hop
abbrev pub near_to : (to cost : ℕ) → Reaching Memory → Reaching Memory
near_to to cost x = on_line (calls.preset_near x.memory.station to cost 0).memory x

-- a line of nodes on which nothing happened yet
abbrev pub line_of : (checks_on : Bool) → List (Reaching Memory) → SmallLine
line_of checks_on nodes = record { checks_on = checks_on; clock = 0; nodes = nodes; flights = [] }

-- the role of a node
abbrev pub role_of : ℕ → Role
role_of n = if n == 0 then Coordinator else Meter group_key

-- # What happens

-- what may happen on the line
pub data Doing : Type 0 where
  Sends : (from to : ℕ) → (datagram : List ℕ) → Doing
  Comes : (flight node cost : ℕ) → Doing
  Breaks : (node next : ℕ) → Doing
  Passes : (seconds : ℕ) → Doing
  Broadcasts : (node : ℕ) → (datagram : List ℕ) → Doing
  Asks : (node target : ℕ) → Doing
  Scans : (node : ℕ) → Doing
  Chooses : (node k : ℕ) → Doing

-- what is answered
pub data Word : Type 0 where
  Sending : Result SentHow SendRefusal → Word
  Refusing : FrameRefusal → Word
  Hearing : Result (ReachHeard Heard) ReachDropped → Word
  Breaking : Word
  Passing : Word
  Broadcasting : Result (Unit {0}) BroadcastRefusal → Word
  Asking : Result (Unit {0}) AskRefusal → Word
  Discovering : Result DiscoveryHeard DiscoveryDropped → Word
  Scanning : Result (Unit {0}) ScanRefusal → Word
  Choosing : Result ChosenAgent ChooseRefusal → Word
  -- there is no such node or flight
  Nobody : Word

-- the line that is left, and what was answered
pub record Happened : Type 0 where
  pub line : SmallLine
  pub word : Word

-- nothing has changed
abbrev pub nothing_but : SmallLine → Word → Happened
nothing_but s word = record { line = s; word = word }

-- a node is another one, and its frames fly
abbrev pub node_did : SmallLine → ℕ → Reaching Memory → List Flight → Word → Happened
node_did s n x flights word =
    record { line = record s { nodes = slice_set s.nodes n x; flights = s.flights ++ flights }; word = word }

-- a node carries out a plan
abbrev pub carries : {A : Type 0} → SmallLine → ℕ → (A → Word) → Plan (Reaching Memory) A → Happened
carries s n word p = node_did s n p.memory (map OfNode p.frames) (word p.answer)

-- of its memory alone
abbrev pub carries_known : {A : Type 0} → SmallLine → ℕ → Reaching Memory → (A → Word) → Plan Memory A → Happened
carries_known s n x word p = node_did s n (with_memory x p.memory) (map OfNode p.frames) (word p.answer)

-- of discovery
abbrev pub discovers : {A : Type 0} → SmallLine → ℕ → Reaching Memory → (A → Word) → beacons.Discovering A → Happened
discovers s n x word d = node_did s n (with_scan d.scan x) (flown d.sent) (word d.answer)
  where
    flown : Option Discovery → List Flight
    flown None = []
    flown (Some frame) = OfDiscovery frame ∷ []

-- a sealed frame as it comes, which the key opens that sealed it
abbrev pub sealed_unit_arrived : SealedUnit → Arrived
sealed_unit_arrived sealed_unit = record {
  head = head_of sealed_unit;
  body = [];
  opened = λ key. if same_key key sealed_unit.key then Some (spelling sealed_unit.unit) else None;
}

-- a frame that was accepted is heard, by a node that has taken its mark
abbrev pub hears : SmallLine → ℕ → Reaching Memory → Accepted → (cost note : ℕ) → Happened
hears s n x got cost note =
    carries s n Hearing
    (hear_reaching in_memory s.checks_on x got s.clock
    (of_station x.memory (hear x.memory.station got cost note s.clock)))

-- a frame is heard where it is accepted
abbrev pub accepts : SmallLine → ℕ → Reaching Memory → SealedUnit → ℕ → Happened
accepts s n x sealed_unit cost =
    let p = accept x.memory.station no_eui (Some (sealed_unit_arrived sealed_unit)) in by_answer p.answer (on_line p.memory x)
  where
    by_answer : Result Accepted FrameRefusal → Reaching Memory → Happened
    by_answer (Err reason) y = nothing_but s (Refusing reason)
    by_answer (Ok got) y = hears s n y got cost sealed_unit.note

-- a flight comes to a node
abbrev pub comes : SmallLine → ℕ → Reaching Memory → ℕ → Flight → Happened
comes s n x cost (OfNode (Sealed sealed_unit)) = accepts s n x sealed_unit cost
comes s n x cost (OfNode (Up agent from message)) = nothing_but s Nobody
comes s n x cost (OfNode (Down from message)) = nothing_but s Nobody
comes s n x cost (OfDiscovery frame) =
    discovers s n x Discovering
    (hear_discovery (role_of n) x.memory.station x.beside.scan (discovery_spelling frame) cost)

-- what a node does
abbrev pub at_node : SmallLine → ℕ → (Reaching Memory → Happened) → Happened
at_node s n does = option_map_or does (slice_get s.nodes n) (nothing_but s Nobody)

-- time passes at a node
abbrev pub later : ℕ → Reaching Memory → Reaching Memory
later now x =
    record { memory = with_station (calls.tick now x.memory.station) x.memory; beside = tick_beside now x.beside }

-- the identity of a meter, whose packets these scripts never make
abbrev pub identity : meters.Identity
identity = record { eui = no_eui; psk = group_key; ciphers = network }

-- one thing happens
abbrev pub happens : SmallLine → Doing → Happened
happens s (Sends from to datagram) =
    at_node s from (λ x.
    carries_known s from x Sending (of_station x.memory (calls.send x.memory.station to datagram 1 s.clock)))
happens s (Comes flight node cost) =
    at_node s node (λ x.
    option_map_or (λ f. comes s node x cost f) (slice_get s.flights (flight - 1)) (nothing_but s Nobody))
happens s (Breaks node next) =
    at_node s node (λ x. node_did s node (on_line (calls.broke next x.memory.station) x) [] Breaking)
happens s (Passes seconds) =
    record {
      line = record s { clock = s.clock + seconds; nodes = map (later (s.clock + seconds)) s.nodes };
      word = Passing;
    }
happens s (Broadcasts node datagram) = at_node s node (λ x. carries s node Broadcasting (broadcast in_memory x datagram))
happens s (Asks node target) = at_node s node (λ x. carries s node Asking (ask_path in_memory x target))
happens s (Scans node) = at_node s node (λ x. discovers s node x Scanning (begin_scan x.memory x.beside.scan))
happens s (Chooses node k) = at_node s node (λ x. carries s node Choosing (choose_agent identity x k s.clock))

-- # What is seen of a script

-- the answers, in order
abbrev pub words_of : SmallLine → List Doing → List Word
words_of s [] = []
words_of s (doing ∷ rest) = (happens s doing).word ∷ words_of (happens s doing).line rest

-- the line after it
abbrev pub behind : SmallLine → List Doing → SmallLine
behind s [] = s
behind s (doing ∷ rest) = behind (happens s doing).line rest

-- how many frames flew
abbrev pub flown_in : SmallLine → List Doing → ℕ
flown_in s doings = length (behind s doings).flights

-- the octets of a flight of discovery
abbrev pub discovery_octets : SmallLine → List Doing → ℕ → Option (List ℕ)
discovery_octets s doings number = option_map octets_of (slice_get (behind s doings).flights (number - 1))
  where
    octets_of : Flight → List ℕ
    octets_of (OfNode frame) = []
    octets_of (OfDiscovery frame) = discovery_spelling frame
