-- What the history and the report have of further reach: each thing exactly where the answer of its event says so, with the frame that came for it or
-- that flew.
use Rattle.std.specs.Prelude.{◌≡◌, ℕ, Bool, true, false, List, [], ◌∷◌, ◌++◌, length, drop, map, is_some, slice_get, Option, Some, None, IfSome, Ok}
use Rattle.std.specs.Prelude.{if◌then◌else◌}
use Rattle.std.specs.Option.{option_map}
use Rattle.plc_base.specs.declared.key.Key.{Key}
use Rattle.mesh_header.specs.declared.unit.Unit.{Unit as MeshUnit}
use Rattle.mesh_header.specs.declared.unit.Unit.TheVariants as units
use Rattle.mesh_header.specs.Reader.{unit_in}
use Rattle.loadng_messages.specs.declared.message.Message.TheVariants.{Rrep}
use Rattle.broadcast_log.specs.declared.broadcast.Broadcast.{Broadcast}
use Rattle.broadcast_log.specs.Reader.{broadcast_in}
use Rattle.neighbour_checks.specs.Acks.{ack_in}
use Rattle.pan_discovery.specs.declared.message.Discovery.TheVariants.{Beacon}
use Rattle.pan_discovery.specs.Reader.{discovery_in}
use Rattle.path_requests.specs.declared.message.PathMessage.TheVariants.{Tell}
use Rattle.path_requests.specs.Reader.{path_in}
use Rattle.node_rules.specs.Accepted.{Accepted}
use Rattle.node_rules.specs.declared.heard.Path.TheVariants as paths
use Rattle.node_rules.specs.Ciphers.{network}
use Rattle.node_rules.specs.Frames.{SealedUnit, Sealed, spelled}
use Rattle.node_rules.specs.Memory.{Node}
use Rattle.node_rules.specs.Replies.{route_message}
use Rattle.line_events.specs.declared.event.Answer.{Answer}
use Rattle.line_events.specs.declared.event.Answer.TheVariants as answers
use Rattle.line_events.specs.declared.event.Event.{Event}
use Rattle.line_events.specs.declared.event.Event.TheVariants as events
use Rattle.line_events.specs.declared.happenings.BroadcastUp.{BroadcastUp}
use Rattle.line_events.specs.declared.happenings.PathLine.{PathLine}
use Rattle.line_rules.specs.Forgery.{Comes, accepting}
use Rattle.line_rules.specs.FurtherRuns.{broadcasts}
use Rattle.line_rules.specs.Runs.{Entry, one_of, IsLineRun}
use Rattle.line_rules.specs.Steps.{flight_by}
use Rattle.line_rules.specs.Worlds.{World, node_at, Broadcasting, Noticed, Replied, Acknowledged, Scans, Heard, start}

-- # Frames that come and fly

-- A node accepted octets that came to it, sealed by a neighbour at this address for it alone or for all, which carry this unit.
pub record FrameCame (w : World) (event : Event) (number from : ℕ) (all : Bool) (unit : MeshUnit) : Type 0 where
  pub node : Node
  pub there : node_at w number ≡ Some node
  pub octets : List ℕ
  pub comes : Comes w event number octets
  pub got : Accepted
  pub is : (accepting network node octets).answer ≡ Ok got
  pub key : Key
  pub path : got.path ≡ paths.Sealed from all key
  pub carries : unit_in got.payload ≡ Some unit

-- the cost of the link over which octets come
abbrev pub link_of : Event → ℕ
link_of (events.Deliver flight node cost) = cost
link_of (events.Inject node cost octets) = cost
link_of _ = 0

-- # Broadcasts

-- A datagram that a node sent to all.
pub record ToAll : Type 0 where
  pub node : ℕ
  pub datagram : List ℕ

abbrev pub to_all_of : Broadcasting → ToAll
to_all_of b = record { node = b.node; datagram = b.datagram }

abbrev pub is_sent : Answer → Bool
is_sent answers.Sent = true
is_sent _ = false

abbrev pub as_bcast : Event → Option ToAll
as_bcast (events.Bcast node datagram) = Some (record { node = node; datagram = datagram })
as_bcast _ = None

-- what an event sends to all, by its line and its answer alone
abbrev pub sent_to_all : Event → Answer → Option ToAll
sent_to_all event answer = if is_sent answer then as_bcast event else None

abbrev pub all_sent_to_all : List Entry → List ToAll
all_sent_to_all [] = []
all_sent_to_all (x ∷ xs) = one_of (sent_to_all x.event x.trace.happenings.answer) ++ all_sent_to_all xs

-- The broadcasts of a history are those that `bcast` lines sent, each once and in their order.
abbrev pub ListsBroadcasts : List Entry → Type 0
ListsBroadcasts entries = map to_all_of (broadcasts entries) ≡ all_sent_to_all entries

-- A broadcast that was handed up came in a frame to all.
pub record BroadcastCame (w : World) (event : Event) (u : BroadcastUp) : Type 0 where
  pub from : ℕ
  pub body : List ℕ
  pub came : FrameCame w event u.node from true (units.Local 4 body)
  pub broadcast : Broadcast
  pub read : broadcast_in body ≡ Some broadcast
  pub origin : broadcast.origin ≡ u.origin
  pub number : broadcast.number ≡ u.number
  pub octets : broadcast.octets ≡ u.octets

abbrev pub is_bup : Answer → Bool
is_bup answers.Bup = true
is_bup _ = false

-- # Paths

-- A walk that is reported came back in a frame to the node that reports it.
pub record WalkCame (w : World) (event : Event) (line : PathLine) : Type 0 where
  pub from : ℕ
  pub body : List ℕ
  pub came : FrameCame w event line.node from false (units.Local 5 body)
  pub read : path_in body ≡ Some (Tell line.walk)

abbrev pub is_path : Answer → Bool
is_path answers.Path = true
is_path _ = false

-- # What nodes notice

-- A reply of this number and origin is one of the flights that an event adds: a letter of a node to a neighbour, where neighbours are checked.
pub record ReplyFlew (w : World) (x : Entry) (node neighbour number origin : ℕ) : Type 0 where
  pub checks : w.checks_on ≡ true
  pub place : ℕ
  pub sealed_unit : SealedUnit
  pub flight : slice_get (drop (length w.flights) x.after.flights) place ≡ Some (flight_by node (spelled network (Sealed sealed_unit)))
  pub to : sealed_unit.to ≡ neighbour
  pub cost : ℕ
  pub target : ℕ
  pub carries : route_message sealed_unit.unit ≡ Some (Rrep number cost origin target)

-- An acknowledgement of this number and origin came from a neighbour, in a frame to this node alone.
pub record AckCame (w : World) (event : Event) (node neighbour number origin : ℕ) : Type 0 where
  pub body : List ℕ
  pub came : FrameCame w event node neighbour false (units.Local 3 body)
  pub read : ack_in body ≡ Some (number, origin)

-- A beacon came over a link of this cost.
pub record BeaconCame (w : World) (event : Event) (node from cost link : ℕ) : Type 0 where
  pub octets : List ℕ
  pub comes : Comes w event node octets
  pub seq : ℕ
  pub pan : ℕ
  pub read : discovery_in octets ≡ Some (Beacon seq pan from cost)
  pub over : link_of event ≡ link

-- what a node noticed, with its frame
abbrev pub HasFrame : World → Entry → Noticed → Type 0
HasFrame w x (Replied node neighbour number origin) = ReplyFlew w x node neighbour number origin
HasFrame w x (Acknowledged node neighbour number origin) = AckCame w x.event node neighbour number origin
HasFrame w x (Scans node) = x.event ≡ events.Scan node
HasFrame w x (Heard node from cost link) = BeaconCame w x.event node from cost link

abbrev pub is_acknowledged : Option Noticed → Bool
is_acknowledged None = false
is_acknowledged (Some (Replied node neighbour number origin)) = false
is_acknowledged (Some (Acknowledged node neighbour number origin)) = true
is_acknowledged (Some (Scans node)) = false
is_acknowledged (Some (Heard node from cost link)) = false

abbrev pub is_scan : Option Noticed → Bool
is_scan None = false
is_scan (Some (Replied node neighbour number origin)) = false
is_scan (Some (Acknowledged node neighbour number origin)) = false
is_scan (Some (Scans node)) = true
is_scan (Some (Heard node from cost link)) = false

abbrev pub is_beacon : Option Noticed → Bool
is_beacon None = false
is_beacon (Some (Replied node neighbour number origin)) = false
is_beacon (Some (Acknowledged node neighbour number origin)) = false
is_beacon (Some (Scans node)) = false
is_beacon (Some (Heard node from cost link)) = true

abbrev pub is_acked : Answer → Bool
is_acked answers.Acked = true
is_acked _ = false

abbrev pub is_scanning : Answer → Bool
is_scanning answers.Scanning = true
is_scanning _ = false

abbrev pub is_beaconed : Answer → Bool
is_beaconed answers.Beaconed = true
is_beaconed _ = false

-- # Events

-- What the history and the report have of further reach is there exactly where the answer says so, and has its frame.
pub record IsReachReported (w : World) (x : Entry) : Type 0 where
  pub broadcast : option_map to_all_of x.trace.further.broadcast ≡ sent_to_all x.event x.trace.happenings.answer
  pub bup : is_some x.trace.happenings.bup ≡ is_bup x.trace.happenings.answer
  pub bup_came : IfSome x.trace.happenings.bup (BroadcastCame w x.event)
  pub path : is_some x.trace.happenings.path ≡ is_path x.trace.happenings.answer
  pub path_came : IfSome x.trace.happenings.path (WalkCame w x.event)
  pub acked : is_acknowledged x.trace.further.noticed ≡ is_acked x.trace.happenings.answer
  pub scans : is_scan x.trace.further.noticed ≡ is_scanning x.trace.happenings.answer
  pub beacons : is_beacon x.trace.further.noticed ≡ is_beaconed x.trace.happenings.answer
  pub noticed : IfSome x.trace.further.noticed (HasFrame w x)

-- so it is of each event of a run
abbrev pub AreReachReported : World → List Entry → Type 0
AreReachReported w [] = Unit {0}
AreReachReported w (x ∷ xs) = IsReachReported w x × AreReachReported x.after xs

-- so it is of every run of the network, forged or not, over restarts and failed writes
abbrev pub EveryEventIsReported : Type 0
EveryEventIsReported = (entries : List Entry) → IsLineRun network entries → AreReachReported start entries

-- and its history lists the broadcasts
abbrev pub EveryBroadcastIsListed : Type 0
EveryBroadcastIsListed = (entries : List Entry) → IsLineRun network entries → ListsBroadcasts entries
