-- What later rules stand on: a node that seals a command alone of code 03, 04 or 05 keeps all that the laws rest on.
use Rattle.std.specs.Prelude.{◌≡◌, ◌⊎◌, ℕ, ◌<◌, ◌≤◌, true, All, List, [], ◌∷◌, ◌++◌, Bool, drop, take, length, Some, None, Result, Err}
use Rattle.plc_base.specs.Keeper.{Write}
use Rattle.pan_discovery.specs.declared.message.Discovery.{Discovery}
use Rattle.pan_discovery.specs.Messages.{IsDiscovery, discovery_spelling}
use Rattle.mac_frames.specs.Grammar.{IsTarget}
use Rattle.mesh_header.specs.declared.unit.Mesh.{Mesh}
use Rattle.mesh_header.specs.declared.unit.Unit.{Unit as MeshUnit}
use Rattle.mesh_header.specs.declared.unit.Unit.TheVariants as units
use Rattle.mesh_header.specs.Grammar.{spelling}
use Rattle.mesh_header.specs.Pieces.{Placed}
use Rattle.loadng_messages.specs.declared.message.Message.{Message}
use Rattle.loadng_messages.specs.Grammar as messages
use Rattle.plc_base.specs.Grant.{Granted}
use Rattle.plc_base.specs.declared.address.Eui.{Eui}
use Rattle.plc_base.specs.declared.key.Key.{Key}
use Rattle.node_rules.specs.Ciphers.{network}
use Rattle.node_rules.specs.Drafts.{Ends, alone, counters_left, empty_draft, goes, sealed, sealing_key}
use Rattle.node_rules.specs.Frames.{Sent, Sealed, spelled}
use Rattle.node_rules.specs.Memory.{StationMemory, Memory, Node}
use Rattle.node_rules.specs.NodeSteps.{NodeStep, acts, of_station, stays}
use Rattle.node_rules.specs.ComposedPlans.{behind}
use Rattle.node_rules.specs.Plans.{Plan}
use Rattle.reach_rules.specs.ReachingNodes.{Beside}
use Rattle.line_rules.specs.Nonces.{HasSender, IsSpelled}
use Rattle.line_rules.specs.Steps.{running_world, world_after}
use Rattle.line_rules.specs.Worlds.{World, Issued, Pairing, Sending, node_at, start}
use Rattle.line_rules.specs.Further.{discovery_flight}
use Rattle.line_events.specs.declared.happenings.Handed.{Handed}
use Rattle.line_laws.specs.Agreed.{Confirmed}
use Rattle.line_laws.specs.InCustody.{Custody, SentUnder}
use Rattle.line_laws.specs.Keyed.{AtHome, Each, Keyed}
use Rattle.line_laws.specs.SealedUnits.{IsFit, IsPlainFrame}
use Rattle.line_laws.specs.Lines.{FlightFits, WorldOk}
use Rattle.line_laws.specs.Live.{MarksRise, live}
use Rattle.line_laws.specs.Loops.{RanksRise}
use Rattle.line_laws.specs.Owed.{AreOctets}
use Rattle.line_laws.specs.Places.{LiveFalls}
use Rattle.line_laws.specs.Ranges.{WorldRanged}
use Rattle.line_laws.specs.Ranked.{RoutingHolds, homes_of}
use Rattle.line_laws.specs.Shut.{ShutAt}
use Rattle.line_laws.specs.Tags.{TagsOk}

-- # What is sealed

-- a command alone of code 03, 04 or 05: no route message, no datagram or piece of one, and no joining message, so no grant
abbrev pub IsBeside : MeshUnit → Type 0
IsBeside (units.Local code body) = 3 ≤ code
IsBeside (units.Whole mesh octets) = ⊥
IsBeside (units.Part mesh piece) = ⊥
IsBeside (units.Carried mesh body) = ⊥

-- Such a unit that a sealed frame has room for, and that is octets.
pub record MayBeSealed (unit : MeshUnit) : Type 0 where
  pub beside : IsBeside unit
  pub fit : IsFit unit
  pub octets : AreOctets (spelling unit)

-- a station seals a unit for one node or for all, under note 0, as it seals each of its commands
abbrev pub seals : {E : Type 0} → Ends E → ℕ → MeshUnit → StationMemory → Plan StationMemory (Result (Unit {0}) E)
seals ends to unit l = sealed alone ends l (goes to unit 0 (empty_draft l)) tt

-- a node does so; a halted one answers another refusal
abbrev pub seals_at : {E : Type 0} → Ends E → E → ℕ → MeshUnit → Node → NodeStep (Result (Unit {0}) E)
seals_at ends halted to unit x = acts x (Err halted) (λ m. of_station m (seals ends to unit m.station))

-- a node sends a plain frame, and nothing changes at it
abbrev pub sends_plain : Sent → Node → NodeStep (Unit {0})
sends_plain frame x = record (stays x tt) { frames = frame ∷ [] }

-- # What is kept

-- What holds of a world of the network that was reached with no event forged: with the keys that were issued, the sends and the joinings
-- that were taken and what was handed up before it, and all the sends of its run. Home says at which address each node is.
pub record Holds (given : List Issued) (sent : List Sending) (taken : List Pairing) (all : List Sending) (home : ℕ → ℕ) (ups : List Handed)
    (w : World) : Type 0 where
  -- stores, sizes, marks and counters
  pub line : WorldOk w
  pub octets : All FlightFits w.flights
  pub spelled : All (IsSpelled network) w.flights
  pub ranged : WorldRanged w
  -- addresses and issued keys
  pub keyed : Keyed w given
  pub senders : All (AtHome keyed.book w) w.flights
  pub joinings : Confirmed w taken
  -- ranks and routes
  pub routes : RoutingHolds network (homes_of keyed.book w) w
  -- tags and custody, where this many flights are live
  pub tags : TagsOk w sent
  pub custody : Custody network live (SentUnder home all) home w ups

-- What holds from one world to the other: no mark falls, no flight comes to life, no stored rank falls, a meter that was shut out stays so,
-- and each new sealed flight has the address of its sender.
pub record GoesOn (w v : World) : Type 0 where
  pub marks : MarksRise w v
  pub live : LiveFalls live w v None
  pub ranks : RanksRise w v
  pub shut : (eui : Eui) → ShutAt eui w → ShutAt eui v
  pub senders : All (HasSender v) (drop (length w.flights) v.flights)

-- where the one holds, so does the other, and all goes on
abbrev pub Keeps : World → World → Type 0
Keeps w v =
    (given : List Issued) (sent : List Sending) (taken : List Pairing) (all : List Sending) (home : ℕ → ℕ) (ups : List Handed)
    → Holds given sent taken all home ups w → Holds given sent taken all home ups v × GoesOn w v

-- that an event of no setup kind was taken keeps it
abbrev pub RunningKeeps : Type 0
RunningKeeps = (w : World) → Keeps w (running_world w)

-- where setup is over, so does a node that seals such a unit
abbrev pub SealingKeeps : Type 0 → Type 0
SealingKeeps E =
    (ends : Ends E) (halted : E) (to : ℕ) (unit : MeshUnit) → IsTarget to → MayBeSealed unit → (w : World) (number : ℕ) (x : Node)
    → w.running ≡ true → node_at w number ≡ Some x → Keeps w (world_after network w number (seals_at ends halted to unit x))

-- and a node that sends a plain frame of octets, of whatever joining message: which grants are right is known by the pair tags that were
-- made, and it makes none
abbrev pub PlainKeeps : Type 0
PlainKeeps =
    (frame : Sent) → IsPlainFrame frame → AreOctets (spelled network frame).octets → (w : World) (number : ℕ) (x : Node)
    → w.running ≡ true → node_at w number ≡ Some x → Keeps w (world_after network w number (sends_plain frame x))

-- # What is stored beside

-- a write at a slot of the log of broadcasts: the limit of its numbers, or the mark of an origin
abbrev pub IsOfLog : Write → Type 0
IsOfLog p = (p.slot ≡ 6) ⊎ ((0x0300 ≤ p.slot) × (p.slot < 0x0320))

-- records are stored, and nothing of the memory changes
abbrev pub stores : {A : Type 0} → A → A → List Write → Memory → Plan Memory A
stores answer failed ps m = record { answer = answer; failed = failed; puts = ps; memory = m; frames = []; made = []; opened = [] }

-- a node does so
abbrev pub stores_at : List Write → Node → NodeStep (Unit {0})
stores_at ps x = acts x tt (λ m. stores tt tt ps m)

-- whatever power is lost, a node that stores its log keeps all of it
abbrev pub StoringKeeps : Type 0
StoringKeeps =
    (ps : List Write) → Each IsOfLog ps → (w : World) (number : ℕ) (x : Node)
    → w.running ≡ true → node_at w number ≡ Some x → Keeps w (world_after network w number (stores_at ps x))

-- what a node did is what it did in two steps, of which the first sent nothing and made no tag
pub record IsSplit {A B : Type 0} (whole : NodeStep A) (first : NodeStep B) (rest : NodeStep A) : Type 0 where
  pub node : whole.node ≡ rest.node
  pub frames : whole.frames ≡ rest.frames
  pub made : whole.made ≡ rest.made
  pub silent : first.frames ≡ []
  pub none_made : first.made ≡ []

-- a node that stores its log before its other writes does so before all else, whatever power is lost
abbrev pub PlansSplit : Type 0 → Type 0
PlansSplit A =
    (x : Node) (halted : A) (ps : List Write) (q : Memory → Plan Memory A)
    → IsSplit (acts x halted (λ m. behind ps (q m))) (stores_at ps x) (acts (stores_at ps x).node halted q)

-- # What flies unsealed

-- a frame of discovery flies, and nothing else happens
abbrev pub flown : ℕ → Discovery → World → World
flown number frame w = record w { flights = w.flights ++ discovery_flight number frame ∷ [] }

-- it keeps all of it
abbrev pub DiscoveringKeeps : Type 0
DiscoveringKeeps =
    (frame : Discovery) → IsDiscovery frame → AreOctets (discovery_spelling frame) → (w : World) (number : ℕ) (x : Node)
    → w.running ≡ true → node_at w number ≡ Some x → Keeps w (flown number frame w)

-- # What is not sent after all

-- the flights that a step would have sent are not sent: the first this many are there
abbrev pub unsent : ℕ → World → World
unsent count w = record w { flights = take count w.flights }

-- it holds as before
abbrev pub UnsentHolds : Type 0
UnsentHolds =
    (given : List Issued) (sent : List Sending) (taken : List Pairing) (all : List Sending) (home : ℕ → ℕ) (ups : List Handed)
    (w : World) (count : ℕ) → count ≤ length w.flights → w.running ≡ true → Holds given sent taken all home ups w
    → Holds given sent taken all home ups (unsent count w)

-- # What only further rules see

-- checks are turned on, and nodes hold other things beside their memories
abbrev pub BesideKeeps : Type 0
BesideKeeps = (w : World) (on : Bool) (bs : List Beside) → Keeps w (record w { checks_on = on; beside = bs })

-- # One after the other

-- marks, live flights, ranks and what is shut out go on from one world to the next, and so from the first to the last; whose address the
-- new flights have is said of each by itself
abbrev pub KeepsOn : World → World → Type 0
KeepsOn w v = (given : List Issued) (sent : List Sending) (taken : List Pairing) (all : List Sending) (home : ℕ → ℕ) (ups : List Handed)
    → Holds given sent taken all home ups w
    → Holds given sent taken all home ups v × MarksRise w v × LiveFalls live w v None × RanksRise w v × ((eui : Eui) → ShutAt eui w → ShutAt eui v)

abbrev pub KeepsInTurn : Type 0
KeepsInTurn = (w v u : World) → KeepsOn w v → KeepsOn v u → KeepsOn w u

-- # At its ends

-- a command alone of code 03, 04 or 05 may be sealed, with each body that a frame has room for
abbrev pub CommandsMayBeSealed : Type 0
CommandsMayBeSealed =
    (code : ℕ) (body : List ℕ) → 3 ≤ code → code ≤ 5 → length body ≤ 379 → AreOctets body → MayBeSealed (units.Local code body)

-- a route message, a datagram, a piece of one and a joining message may not
pub record OthersMayNot : Type 0 where
  pub route : (message : Message) → MayBeSealed (units.Local 1 (messages.spelling message)) → ⊥
  pub joining : (body : List ℕ) → MayBeSealed (units.Local 2 body) → ⊥
  pub datagram : (mesh : Mesh) (octets : List ℕ) → MayBeSealed (units.Whole mesh octets) → ⊥
  pub piece : (mesh : Mesh) (piece : Placed) → MayBeSealed (units.Part mesh piece) → ⊥
  pub carried : (mesh : Mesh) (body : List ℕ) → MayBeSealed (units.Carried mesh body) → ⊥

-- a joined node with a counter left and no loss of power to come seals it under its active key, with its next counter, and sends it
abbrev pub JoinedNodesSeal : Type 0 → Type 0
JoinedNodesSeal E =
    (ends : Ends E) (halted : E) (to : ℕ) (unit : MeshUnit) (x : Node) (m : Memory) (g : Granted) (key : Key)
    → x.memory ≡ Some m → x.store.cut ≡ None → m.station.ring ≡ Some g → sealing_key g ≡ Some key
    → 1 ≤ counters_left m.station
    → (seals_at ends halted to unit x).frames
    ≡ Sealed (record {
      to = to;
      from = g.address;
      counter = m.station.counter.next;
      index = g.active;
      key = key;
      unit = unit;
      note = 0;
    })
    ∷ []

-- the world before the first event holds
abbrev pub StartHolds : Type 0
StartHolds = (all : List Sending) (home : ℕ → ℕ) → Holds [] [] [] all home [] start
