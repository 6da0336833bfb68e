-- Beacons: a meter without an address asks for them, and joins by the agent that it heard at the least cost. They are neither sealed
-- nor stored. Which agents a scan heard is said by `pan_discovery`.
use Rattle.std.specs.Prelude.{ℕ, ◌%◌, ◌==◌, ◌&&◌, ◌||◌, not, nat_lt, Bool, List, length, is_some, Option, Some, None, Result, Ok, Err, if◌then◌else◌}
use Rattle.std.specs.Option.{option_map, option_map_or}
use Rattle.plc_base.specs.declared.address.TheConstants.{PAN}
use Rattle.plc_base.specs.Fields.{octet}
use Rattle.pan_discovery.specs.declared.message.Discovery.{Discovery}
use Rattle.pan_discovery.specs.declared.message.Discovery.TheVariants as frames
use Rattle.pan_discovery.specs.Reader.{discovery_in}
use Rattle.pan_discovery.specs.Agents.{kth_of}
use Rattle.pan_discovery.specs.History.{Scanned, begun, taken_after}
use Rattle.node_rules.specs.declared.refusal.JoinRefusal.{JoinRefusal}
use Rattle.node_rules.specs.declared.refusal.JoinRefusal.TheVariants as joins
use Rattle.node_rules.specs.Acceptance.{is_own}
use Rattle.node_rules.specs.Memory.{StationMemory, Memory, Role, Coordinator, Meter, address_of}
use Rattle.node_rules.specs.Plans.{Plan, within}
use Rattle.node_rules.specs.Drafts.{Ends, refused, choose}
use Rattle.node_rules.specs.Neighbours.{valid_route}
use Rattle.node_rules.specs.Meters as meters
use Rattle.reach_rules.specs.declared.heard.DiscoveryHeard.{DiscoveryHeard}
use Rattle.reach_rules.specs.declared.heard.DiscoveryHeard.TheVariants as heard
use Rattle.reach_rules.specs.declared.refusal.DiscoveryDropped.{DiscoveryDropped}
use Rattle.reach_rules.specs.declared.refusal.DiscoveryDropped.TheVariants as drops
use Rattle.reach_rules.specs.declared.refusal.ScanRefusal.{ScanRefusal}
use Rattle.reach_rules.specs.declared.refusal.ScanRefusal.TheVariants as scans
use Rattle.reach_rules.specs.declared.refusal.ChooseRefusal.{ChooseRefusal}
use Rattle.reach_rules.specs.declared.refusal.ChooseRefusal.TheVariants as choices
use Rattle.reach_rules.specs.ReachingNodes.{Reaching, with_memory}

-- What a node does about discovery: its answer, the scan that is left, and the frame that it sends, if it sends one. No store write can
-- fail, since none is made.
pub record Discovering (A : Type 0) : Type 0 where
  pub answer : A
  pub scan : Scanned
  pub sent : Option Discovery

-- nothing has changed
abbrev pub stays : {A : Type 0} → Scanned → A → Discovering A
stays scan answer = record { answer = answer; scan = scan; sent = None }

-- # Hearing a frame of discovery

-- the type of a frame: the lowest three bits of its first octet (IEEE 802.15.4-2006, 7.2.1.1.1)
abbrev pub frame_type : List ℕ → ℕ
frame_type octets = octet 0 octets % 8

-- whether octets are heard by this rule: a beacon's type or a MAC command's, at any length
abbrev pub is_discovery : List ℕ → Bool
is_discovery octets = nat_lt 0 (length octets) && ((frame_type octets == 0) || (frame_type octets == 3))

-- the cost from a node to the coordinator: nothing from the coordinator itself, and from a meter that of its valid route
abbrev pub cost_to_coordinator : Role → StationMemory → Option ℕ
cost_to_coordinator Coordinator l = Some 0
cost_to_coordinator (Meter psk) l = option_map (λ r. r.1) (valid_route l 0)

-- what a node heard of discovery
abbrev pub Heard : Type 0
Heard = Discovering (Result DiscoveryHeard DiscoveryDropped)

-- a beacon goes out where a cost home is there
abbrev pub beacons : Scanned → (own : ℕ) → Option ℕ → Heard
beacons scan own None = stays scan (Err drops.NoRoute)
beacons scan own (Some cost) =
    record { answer = Ok heard.Beacon; scan = scan; sent = Some (frames.Beacon 0 PAN own cost) }

-- a request is answered by a node that has an address
abbrev pub hear_request : Role → StationMemory → Scanned → Heard
hear_request role l scan =
    option_map_or (λ own. beacons scan own (cost_to_coordinator role l)) (address_of l) (stays scan (Err drops.NotForMe))

-- a beacon is taken into the scan
abbrev pub takes_beacon : Scanned → (from cost link : ℕ) → Heard
takes_beacon scan from cost link =
    record { answer = Ok heard.Beaconed; scan = taken_after scan from cost link; sent = None }

-- whether a beacon is no beacon for this node: it is of another PAN, or has the own address as its sender's
abbrev pub is_foreign : StationMemory → (pan from : ℕ) → Bool
is_foreign l pan from = not (pan == PAN) || is_own l from

-- whether a node takes beacons: it has no address, and scans
abbrev pub takes_beacons : StationMemory → Scanned → Bool
takes_beacons l scan = not (is_some (address_of l)) && scan.scanning

-- a beacon, over a link of this cost
abbrev pub hear_beacon : StationMemory → Scanned → (pan from cost link : ℕ) → Heard
hear_beacon l scan pan from cost link =
    if is_foreign l pan from then stays scan (Err drops.NotForMe)
    else (if takes_beacons l scan then takes_beacon scan from cost link else stays scan (Err drops.NotScanning))

-- a frame of discovery that octets are, if they are one
abbrev pub hear_discovery_in : Role → StationMemory → Scanned → Option Discovery → (link : ℕ) → Heard
hear_discovery_in role l scan None link = stays scan (Err drops.Malformed)
hear_discovery_in role l scan (Some (frames.Request seq)) link = hear_request role l scan
hear_discovery_in role l scan (Some (frames.Beacon seq pan from cost)) link = hear_beacon l scan pan from cost link

-- what a node that is not halted makes of octets of discovery
abbrev pub hear_discovery : Role → StationMemory → Scanned → List ℕ → (link : ℕ) → Heard
hear_discovery role l scan octets link = hear_discovery_in role l scan (discovery_in octets) link

-- # Scanning and choosing

-- a meter that is not joined begins to scan, with nothing heard, and asks for beacons
abbrev pub begin_scan : Memory → Scanned → Discovering (Result (Unit {0}) ScanRefusal)
begin_scan m scan =
    if meters.is_joined m then stays scan (Err scans.AlreadyJoined)
    else record { answer = Ok tt; scan = begun; sent = Some (frames.Request 0) }

-- the agent by which a meter joins: its address, and the cost to the coordinator by it
pub record ChosenAgent : Type 0 where
  pub address : ℕ
  pub total : ℕ

-- what a meter does to join by an agent that it heard; nothing is sealed or stored, so neither end is met
abbrev pub Choosing : Type 0
Choosing = Plan (Reaching Memory) (Result ChosenAgent ChooseRefusal)

abbrev pub choosing_ends : Ends ChooseRefusal
choosing_ends = record { spent = choices.Halted; store = choices.Halted }

-- the answer of joining, with the agent
abbrev pub chosen : ChosenAgent → Result (Unit {0}) JoinRefusal → Result ChosenAgent ChooseRefusal
chosen agent (Ok u) = Ok agent
chosen agent (Err joins.Halted) = Err choices.Halted
chosen agent (Err joins.AlreadyJoined) = Err choices.AlreadyJoined

-- the meter joins by an agent as it joins by any, and its scan stays
abbrev pub joins_by : meters.Identity → Reaching Memory → (now : ℕ) → Option (ℕ × ℕ) → Choosing
joins_by own x now None = refused choosing_ends x choices.NoBeacon
joins_by own x now (Some (address, total)) =
    within (with_memory x) (chosen (record { address = address; total = total })) (meters.join own x.memory address now)

-- the meter joins by the k-th agent, counted from 1
abbrev pub choose_agent : meters.Identity → Reaching Memory → (k now : ℕ) → Choosing
choose_agent own x k now =
    choose (meters.is_joined x.memory) (refused choosing_ends x choices.AlreadyJoined)
    (joins_by own x now (kth_of x.beside.scan.agents k))
