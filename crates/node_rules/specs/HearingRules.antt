-- What a station makes of a frame that it accepted: route messages, units over the mesh, datagrams and pieces.
use Rattle.std.specs.Prelude.{ℕ, ◌+◌, ◌-◌, Bool, true, false, not, ◌==◌, ◌||◌, nat_lt, List, Option, Some, None, Result, Ok, Err, if◌then◌else◌}
use Rattle.std.specs.Option.{option_map_or}
use Rattle.plc_base.specs.Faults.{◌then◌, ◌when◌}
use Rattle.mesh_header.specs.declared.unit.Mesh.{Mesh}
use Rattle.mesh_header.specs.declared.unit.Unit.{Unit}
use Rattle.mesh_header.specs.declared.unit.Unit.TheVariants as units
use Rattle.mesh_header.specs.Pieces.{Placed}
use Rattle.mesh_header.specs.Reader.{unit_in}
use Rattle.loadng_messages.specs.declared.message.Message.{Message}
use Rattle.loadng_messages.specs.declared.message.Message.TheVariants.{Rreq, Rrep, Rerr}
use Rattle.loadng_messages.specs.Reader.{message_in}
use Rattle.routing_set.specs.declared.rank.Rank.{Rank}
use Rattle.routing_set.specs.RoutingSet as routing
use Rattle.fragment_buffers.specs.PieceIntake as pieces
use Rattle.node_rules.specs.Accepted.{Accepted}
use Rattle.node_rules.specs.declared.heard.Path.{Path}
use Rattle.node_rules.specs.declared.heard.Path.TheVariants as paths
use Rattle.node_rules.specs.declared.heard.Way.TheVariants.{Air, Near, Mesh as ByMesh}
use Rattle.node_rules.specs.declared.heard.Heard.{Heard}
use Rattle.node_rules.specs.declared.heard.Heard.TheVariants as heard
use Rattle.node_rules.specs.declared.refusal.Dropped.{Dropped}
use Rattle.node_rules.specs.declared.refusal.Dropped.TheVariants.{BadUnit, NoRoute, HopsSpent, NotBetter, CostSpent, RoutesFull, BufferFull, SeqSpent}
use Rattle.node_rules.specs.declared.refusal.Dropped.TheVariants.{CounterSpent, Store}
use Rattle.node_rules.specs.Frames.{to_all}
use Rattle.node_rules.specs.Memory.{StationMemory, address_of, next_hop}
use Rattle.node_rules.specs.Plans.{Plan, resting}
use Rattle.node_rules.specs.Drafts.{Draft, Ends, Lack, OfRoom, OfNumbers, alone, empty_draft, with_rank, with_own_number, with_routing_by, goes, send_message}
use Rattle.node_rules.specs.Drafts.{leave, numbers_spent, refused, sealed, checked, choose}

-- what a node does on the line about a frame that was accepted
abbrev pub Hearing : Type 0
Hearing = Plan StationMemory (Result Heard Dropped)

-- how the words of a frame that is dropped say that counters are spent, and that a store write failed
abbrev pub dropped : Ends Dropped
dropped = record { spent = CounterSpent; store = Store }

-- how they say what a body lacks
abbrev pub dropped_for : Lack → Dropped
dropped_for OfRoom = BufferFull
dropped_for OfNumbers = SeqSpent

-- nothing has changed
abbrev pub drop_it : StationMemory → Dropped → Hearing
drop_it l reason = refused dropped l reason

-- the doing is carried to its end
abbrev pub ends : StationMemory → Draft StationMemory → Heard → Hearing
ends l d answer = sealed alone dropped l d answer

-- # Ranks that messages offer

-- a message's rank, with the cost of the link that it came over
abbrev pub rank_over : ℕ → ℕ → ℕ → Rank
rank_over number cost link = record { number = number; cost = cost + link }

-- what is wrong with a rank that a neighbour offers for an address
unfoldable pub rank_fault : StationMemory → ℕ → ℕ → Rank → ℕ → Option Dropped
rank_fault l own origin rank now =
    Some NotBetter when ((origin == own) || not (routing.is_better l.routing origin rank))
    then Some CostSpent when nat_lt 65535 rank.cost
    then Some RoutesFull when routing.is_full l.routing origin now

-- the rank is offered by the neighbour, and what waits for the address leaves by it
abbrev pub offers : ℕ → ℕ → Rank → ℕ → ℕ → StationMemory → Draft StationMemory
offers own origin rank by now l = leave own origin by (with_rank origin rank by now (empty_draft l))

-- the same, and between the two an own number is taken
abbrev pub offers_numbered : ℕ → ℕ → Rank → ℕ → ℕ → StationMemory → Draft StationMemory
offers_numbered own origin rank by now l =
    leave own origin by (with_own_number (with_rank origin rank by now (empty_draft l)))

-- # Hearing a route request

-- the node that is sought takes an own number, and answers with it
abbrev pub answers : StationMemory → (own by origin : ℕ) → Rank → ℕ → Hearing
answers l own by origin rank now =
    ends l (send_message by (Rrep (l.own_number.last + 1) 0 own origin)
    (offers_numbered own origin rank by now l)) heard.Answered

-- another node sends the request on, with the higher cost
abbrev pub sends_on : StationMemory → (own by origin dest : ℕ) → Rank → ℕ → Hearing
sends_on l own by origin dest rank now =
    ends l (send_message to_all (Rreq rank.number rank.cost origin dest) (offers own origin rank by now l)) heard.Relayed

-- a request is answered by the node that is sought, and sent on by each other one
abbrev pub hear_request : StationMemory → (own by origin dest : ℕ) → Rank → ℕ → Hearing
hear_request l own by origin dest rank now =
    checked dropped l (rank_fault l own origin rank now)
    (choose (dest == own)
    (choose (numbers_spent l) (drop_it l SeqSpent) (answers l own by origin rank now))
    (sends_on l own by origin dest rank now))

-- # Hearing a route reply

-- the node that asked has its route
abbrev pub learns : StationMemory → (own by origin : ℕ) → Rank → ℕ → Hearing
learns l own by origin rank now = ends l (offers own origin rank by now l) heard.Learned

-- another node sends the reply on, to the hop that led to its target before
abbrev pub passes_on : StationMemory → (own by origin to hop : ℕ) → Rank → ℕ → Hearing
passes_on l own by origin to hop rank now =
    ends l (send_message hop (Rrep rank.number rank.cost origin to) (offers own origin rank by now l)) heard.Relayed

-- by the hop that leads to its target
abbrev pub hear_reply_for : StationMemory → (own by origin to : ℕ) → Rank → ℕ → Option ℕ → Hearing
hear_reply_for l own by origin to rank now None = drop_it l NoRoute
hear_reply_for l own by origin to rank now (Some hop) =
    checked dropped l (rank_fault l own origin rank now) (passes_on l own by origin to hop rank now)

-- a reply is learned by the node that asked, and sent on by each other one
abbrev pub hear_reply : StationMemory → (own by origin to : ℕ) → Rank → ℕ → Hearing
hear_reply l own by origin to rank now =
    choose (to == own) (checked dropped l (rank_fault l own origin rank now) (learns l own by origin rank now))
    (hear_reply_for l own by origin to rank now (next_hop l to))

-- # Hearing a route error

-- the route to the lost address ends where it goes by the neighbour
abbrev pub loses : ℕ → ℕ → StationMemory → Draft StationMemory
loses lost by l = with_routing_by (λ r. routing.without_next_to r lost by) (empty_draft l)

-- and the error goes on by the hop that leads to its target as the routes then are, whatever address that is; at its target it ends
abbrev pub error_hop : StationMemory → (own by lost to : ℕ) → Option ℕ
error_hop l own by lost to = if to == own then None else next_hop (loses lost by l).memory to

abbrev pub pass_error_on : ℕ → ℕ → Option ℕ → Draft StationMemory → Draft StationMemory
pass_error_on lost to None d = d
pass_error_on lost to (Some hop) d = send_message hop (Rerr lost to) d

-- the route ends, and the error goes on where it is for another node
abbrev pub hear_error : StationMemory → (own by lost to : ℕ) → Hearing
hear_error l own by lost to =
    ends l (pass_error_on lost to (error_hop l own by lost to) (loses lost by l)) heard.Broken

-- # Units over the mesh for other nodes

-- whether no hop is left to a unit
abbrev pub is_spent : Mesh → Bool
is_spent mesh = nat_lt mesh.hops 2

-- the unit with one hop less
abbrev pub hop_less : Mesh → Mesh
hop_less mesh = record mesh { hops = mesh.hops - 1 }

-- the unit goes on
abbrev pub forwards : StationMemory → ℕ → Unit → ℕ → Hearing
forwards l hop unit note = ends l (goes hop unit note (empty_draft l)) heard.Relayed

-- a route error to its origin says that it can't
abbrev pub reports : StationMemory → Mesh → ℕ → Hearing
reports l mesh hop = ends l (send_message hop (Rerr mesh.to mesh.origin) (empty_draft l)) heard.Reported

-- by the hop that leads to its origin
abbrev pub report_by : StationMemory → Mesh → Option ℕ → Hearing
report_by l mesh None = drop_it l NoRoute
report_by l mesh (Some hop) = reports l mesh hop

-- by the hop that leads to its target: without one its origin gets a route error, unless that is this node
abbrev pub forward_by : StationMemory → (own : ℕ) → Mesh → Unit → ℕ → Option ℕ → Hearing
forward_by l own mesh unit note None =
    choose (mesh.origin == own) (drop_it l NoRoute) (report_by l mesh (next_hop l mesh.origin))
forward_by l own mesh unit note (Some hop) = choose (is_spent mesh) (drop_it l HopsSpent) (forwards l hop unit note)

-- a unit for another node, as it would go on
abbrev pub forward : StationMemory → (own : ℕ) → Mesh → Unit → ℕ → Hearing
forward l own mesh unit note = forward_by l own mesh unit note (next_hop l mesh.to)

-- # Datagrams and pieces for this node

-- a datagram is handed up
abbrev pub hands_up : StationMemory → (from note : ℕ) → List ℕ → Hearing
hands_up l from note octets = resting l (Ok (heard.Up from note octets)) (Err Store)

-- what came of a piece, with the reassemblies that are left
unfoldable pub gathered : StationMemory → ℕ → pieces.Taking → Hearing
gathered l from t = record (resting l (came t.outcome) (Err Store)) { memory = record l { reassemblies = t.held } }
  where
    came : pieces.Outcome → Result Heard Dropped
    came pieces.Full = Err BufferFull
    came pieces.Held = Ok heard.Held
    came (pieces.Whole note octets) = Ok (heard.Up from note octets)

-- a piece is taken by the rule of reassembly
abbrev pub gather : StationMemory → (from : ℕ) → Placed → (note now : ℕ) → Hearing
gather l from piece note now = gathered l from (pieces.taken l.reassemblies from piece note now)

-- # A frame that was accepted

-- a route message to all may be a request alone, one to this node a reply or an error
abbrev pub hear_message : StationMemory → (own by : ℕ) → (all : Bool) → (cost now : ℕ) → Message → Hearing
hear_message l own by true cost now (Rreq number c origin dest) =
    hear_request l own by origin dest (rank_over number c cost) now
hear_message l own by true cost now (Rrep number c origin to) = drop_it l BadUnit
hear_message l own by true cost now (Rerr lost to) = drop_it l BadUnit
hear_message l own by false cost now (Rreq number c origin dest) = drop_it l BadUnit
hear_message l own by false cost now (Rrep number c origin to) =
    hear_reply l own by origin to (rank_over number c cost) now
hear_message l own by false cost now (Rerr lost to) = hear_error l own by lost to

-- octets that spell no message are dropped
abbrev pub hear_message_in : StationMemory → (own by : ℕ) → (all : Bool) → (cost now : ℕ) → Option Message → Hearing
hear_message_in l own by all cost now None = drop_it l BadUnit
hear_message_in l own by all cost now (Some message) = hear_message l own by all cost now message

-- a command for the neighbours: a route message, or one of code 03, 04 or 05, which is handed on unread
abbrev pub hear_command : StationMemory → (own by : ℕ) → (all : Bool) → (code : ℕ) → List ℕ → (cost now : ℕ) → Hearing
hear_command l own by all code body cost now =
    choose (code == 1) (hear_message_in l own by all cost now (message_in body))
    (choose (code == 2) (drop_it l BadUnit) (resting l (Ok (heard.Local by all code body)) (Err Store)))

-- a unit with a mesh header, to this node
abbrev pub hear_over_mesh : StationMemory → (own : ℕ) → Unit → (note now : ℕ) → Hearing
hear_over_mesh l own (units.Whole mesh octets) note now =
    choose (mesh.to == own) (hands_up l mesh.origin note octets)
    (forward l own mesh (units.Whole (hop_less mesh) octets) note)
hear_over_mesh l own (units.Part mesh piece) note now =
    choose (mesh.to == own) (gather l mesh.origin piece note now)
    (forward l own mesh (units.Part (hop_less mesh) piece) note)
hear_over_mesh l own (units.Carried mesh body) note now =
    choose (mesh.to == own) (resting l (Ok (heard.Joining (ByMesh mesh.origin) body)) (Err Store))
    (forward l own mesh (units.Carried (hop_less mesh) body) note)
hear_over_mesh l own (units.Local code body) note now = drop_it l BadUnit

-- a sealed frame: a command for the neighbours, or a unit over the mesh, which may not go to all
abbrev pub hear_sealed : StationMemory → (own by : ℕ) → (all : Bool) → Unit → (cost note now : ℕ) → Hearing
hear_sealed l own by all (units.Local code body) cost note now = hear_command l own by all code body cost now
hear_sealed l own by all (units.Whole mesh octets) cost note now =
    choose all (drop_it l BadUnit) (hear_over_mesh l own (units.Whole mesh octets) note now)
hear_sealed l own by all (units.Part mesh piece) cost note now =
    choose all (drop_it l BadUnit) (hear_over_mesh l own (units.Part mesh piece) note now)
hear_sealed l own by all (units.Carried mesh body) cost note now =
    choose all (drop_it l BadUnit) (hear_over_mesh l own (units.Carried mesh body) note now)

-- a plain frame carries a joining command alone
abbrev pub is_joining : Unit → Option (List ℕ)
is_joining (units.Local code body) = if code == 2 then Some body else None
is_joining (units.Whole mesh octets) = None
is_joining (units.Part mesh piece) = None
is_joining (units.Carried mesh body) = None

-- a plain frame without a joining command is dropped
abbrev pub hear_plain : StationMemory → (List ℕ → Heard) → Option (List ℕ) → Hearing
hear_plain l answer None = drop_it l BadUnit
hear_plain l answer (Some body) = resting l (Ok (answer body)) (Err Store)

-- the unit of an accepted frame, at a node whose address is given; one without an address hears plain frames alone
abbrev pub hear_unit : StationMemory → Path → Unit → (cost note now : ℕ) → Hearing
hear_unit l (paths.Sealed from all key) unit cost note now =
    option_map_or (λ own. hear_sealed l own from all unit cost note now) (address_of l) (drop_it l BadUnit)
hear_unit l (paths.Up from) unit cost note now = hear_plain l (λ body. heard.Joining (Air from) body) (is_joining unit)
hear_unit l (paths.Down from) unit cost note now =
    hear_plain l (λ body. heard.Joining (Near from) body) (is_joining unit)

-- octets that spell no unit are dropped
abbrev pub hear_unit_in : StationMemory → Path → Option Unit → (cost note now : ℕ) → Hearing
hear_unit_in l path None cost note now = drop_it l BadUnit
hear_unit_in l path (Some unit) cost note now = hear_unit l path unit cost note now

-- what a station makes of an accepted frame, which came over a link of this cost under this note
abbrev pub hear : StationMemory → Accepted → (cost note now : ℕ) → Hearing
hear l got cost note now = hear_unit_in l got.path (unit_in got.payload) cost note now
