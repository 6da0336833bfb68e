-- What a station makes of a frame puts three times at most, before the counter.
use Rattle.std.proofs.Common.{ℕ, Bool, true, false, List, [], ◌∷◌, Option, Some, None, Err}
use Rattle.std.specs.Prelude.{if◌then◌else◌}
use Rattle.std.specs.Option.{option_map_or}
use Rattle.mesh_header.specs.declared.unit.Mesh.{Mesh}
use Rattle.mesh_header.specs.declared.unit.Unit.{Unit as MeshUnit}
use Rattle.mesh_header.specs.declared.unit.Unit.TheVariants as units
use Rattle.mesh_header.specs.Pieces.{Placed}
use Rattle.mesh_header.specs.Reader.{unit_in}
use Rattle.loadng_messages.specs.declared.message.Message.{Message}
use Rattle.loadng_messages.specs.declared.message.Message.TheVariants.{Rreq, Rrep, Rerr}
use Rattle.loadng_messages.specs.Reader.{message_in}
use Rattle.routing_set.specs.declared.rank.Rank.{Rank}
use Rattle.routing_set.specs.RoutingSet as routing
use Rattle.fragment_buffers.specs.Reassembly.{PlacedPiece, Reassembly, placed, begun as piece_begun, datagram_of, repeats}
use Rattle.fragment_buffers.specs.PieceIntake as pieces
use Rattle.node_rules.specs.Accepted.{Accepted}
use Rattle.node_rules.specs.declared.heard.Path.{Path}
use Rattle.node_rules.specs.declared.heard.Path.TheVariants as paths
use Rattle.node_rules.specs.declared.heard.Heard.{Heard}
use Rattle.node_rules.specs.declared.heard.Heard.TheVariants as heard
use Rattle.node_rules.specs.declared.refusal.Dropped.TheVariants.{BufferFull, BadUnit}
use Rattle.node_rules.specs.Memory.{StationMemory, address_of, next_hop}
use Rattle.node_rules.specs.Plans.{resting}
use Rattle.node_rules.specs.Drafts.{alone}
use Rattle.node_rules.specs.HearingRules.{Hearing, dropped, drop_it, hear_request, hear_reply_for, hear_reply, hear_error, pass_error_on, loses, forward_by}
use Rattle.node_rules.specs.HearingRules.{forward}
use Rattle.node_rules.specs.HearingRules.{report_by, gathered, gather, hear_message, hear_message_in, hear_command, hear_over_mesh, hear_sealed, hear_plain}
use Rattle.node_rules.specs.HearingRules.{is_joining, hear_unit, hear_unit_in, hear}
use Rattle.node_rules.proofs.Shapes.{Shape, Rests, Keeps, rests_shape, checked_shape, choose_shape, sealed_shape}
use Rattle.node_rules.proofs.PutCounts.{Does, station_does, error_does, error_on_does}

abbrev pub StationFew : StationMemory → Hearing → Type 0
StationFew l p = Shape alone dropped l Does p

ruleset words = (rests_shape, checked_shape, choose_shape, sealed_shape, station_does)

-- # Gathered pieces

-- the answer of a piece that is taken in is never that there is no room
data Came : pieces.Taking → Type 0 where
  Held : (held : List Reassembly) → Came (record { held = held; outcome = pieces.Held })
  Whole : (held : List Reassembly) (note : ℕ) (octets : List ℕ) → Came (record { held = held; outcome = pieces.Whole note octets })

settled_came : (whole : Option (List ℕ)) (r : Reassembly) (rest : List Reassembly) → Came (pieces.settled whole r rest)
settled_came None r rest = Held _
settled_came (Some octets) r rest = Whole _ _ _

behind_came : (r : Reassembly) (t : pieces.Taking) → Came t → Came (pieces.behind r t)
behind_came r t (Held held) = Held _
behind_came r t (Whole held note octets) = Whole _ _ _

either : (b : Bool) (s t : pieces.Taking) → Came s → Came t → Came (if b then s else t)
either true s t a b = a
either false s t a b = b

taken_came : (held : List Reassembly) (anew : Reassembly) (p : PlacedPiece) → Came (pieces.taken_in held anew p)
unfolding pieces.taken_in
taken_came [] anew p = settled_came (datagram_of anew) anew []
taken_came (r ∷ rest) anew p =
    either (pieces.same_name anew r) _ _
    (either (repeats r.pieces p) _ _ (Held _) (settled_came (datagram_of (pieces.grown r anew p)) (pieces.grown r anew p) rest))
    (behind_came r _ (taken_came rest anew p))

module _ (l : StationMemory) where
  came_shape : (from : ℕ) (t : pieces.Taking) → Came t → StationFew l (gathered l from t)
  unfolding gathered resting
  came_shape from t (Held held) = Keeps (record l { reassemblies = held }) heard.Held
  came_shape from t (Whole held note octets) = Keeps (record l { reassemblies = held }) (heard.Up from note octets)

  full_shape : (from : ℕ) → StationFew l (gathered l from (record { held = l.reassemblies; outcome = pieces.Full }))
  unfolding gathered resting
  full_shape from = Rests (Err BufferFull)

  by_room : (b : Bool) (from : ℕ) (t : pieces.Taking) → Came t
      → StationFew l (gathered l from (if b then t else record { held = l.reassemblies; outcome = pieces.Full }))
  by_room true from t c = came_shape from t c
  by_room false from t c = full_shape from

  gather_shape : (from : ℕ) (piece : Placed) (note now : ℕ) → StationFew l (gather l from piece note now)
  unfolding pieces.taken
  gather_shape from piece note now =
      by_room (pieces.has_room l.reassemblies (piece_begun from piece note now)) from _
      (taken_came l.reassemblies (piece_begun from piece note now) (placed piece))

  -- # The rules

  request_shape : (own by origin dest : ℕ) (rank : Rank) (now : ℕ) → StationFew l (hear_request l own by origin dest rank now)
  request_shape own by origin dest rank now = search words depth 16

  reply_for_shape : (own by origin to : ℕ) (rank : Rank) (now : ℕ) (hop : Option ℕ) → StationFew l (hear_reply_for l own by origin to rank now hop)
  reply_for_shape own by origin to rank now None = search words depth 16
  reply_for_shape own by origin to rank now (Some hop) = search words depth 16

  reply_shape : (own by origin to : ℕ) (rank : Rank) (now : ℕ) → StationFew l (hear_reply l own by origin to rank now)
  reply_shape own by origin to rank now = search (words, reply_for_shape own by origin to rank now (next_hop l to)) depth 16

  pass_error_on_done : (lost to by : ℕ) (hop : Option ℕ) → Does (pass_error_on lost to hop (loses lost by l))
  pass_error_on_done lost to by None = error_does l (λ r. routing.without_next_to r lost by)
  pass_error_on_done lost to by (Some hop) = error_on_does l hop _ 0 (λ r. routing.without_next_to r lost by)

  error_shape : (own by lost to : ℕ) → StationFew l (hear_error l own by lost to)
  error_shape own by lost to = sealed_shape _ _ _ _ _ _ (pass_error_on_done lost to by _)

  report_shape : (mesh : Mesh) (hop : Option ℕ) → StationFew l (report_by l mesh hop)
  report_shape mesh None = search words depth 16
  report_shape mesh (Some hop) = search words depth 16

  forward_by_shape : (own : ℕ) (mesh : Mesh) (unit : MeshUnit) (note : ℕ) (hop : Option ℕ) → StationFew l (forward_by l own mesh unit note hop)
  forward_by_shape own mesh unit note None = search (words, report_shape mesh (next_hop l mesh.origin)) depth 16
  forward_by_shape own mesh unit note (Some hop) = search words depth 16

  forward_shape : (own : ℕ) (mesh : Mesh) (unit : MeshUnit) (note : ℕ) → StationFew l (forward l own mesh unit note)
  forward_shape own mesh unit note = forward_by_shape own mesh unit note (next_hop l mesh.to)

  message_shape : (own by : ℕ) (all : Bool) (cost now : ℕ) (message : Message) → StationFew l (hear_message l own by all cost now message)
  message_shape own by true cost now (Rreq number c origin dest) = request_shape own by origin dest _ now
  message_shape own by true cost now (Rrep number c origin to) = search words depth 16
  message_shape own by true cost now (Rerr lost to) = search words depth 16
  message_shape own by false cost now (Rreq number c origin dest) = search words depth 16
  message_shape own by false cost now (Rrep number c origin to) = reply_shape own by origin to _ now
  message_shape own by false cost now (Rerr lost to) = error_shape own by lost to

  message_in_shape : (own by : ℕ) (all : Bool) (cost now : ℕ) (message : Option Message)
      → StationFew l (hear_message_in l own by all cost now message)
  message_in_shape own by all cost now None = search words depth 16
  message_in_shape own by all cost now (Some message) = message_shape own by all cost now message

  command_shape : (own by : ℕ) (all : Bool) (code : ℕ) (body : List ℕ) (cost now : ℕ) → StationFew l (hear_command l own by all code body cost now)
  command_shape own by all code body cost now = search (words, message_in_shape own by all cost now (message_in body)) depth 16

  mesh_shape : (own : ℕ) (unit : MeshUnit) (note now : ℕ) → StationFew l (hear_over_mesh l own unit note now)
  mesh_shape own (units.Whole mesh octets) note now = choose_shape _ _ _ _ _ _ _ (Rests _) (forward_shape own mesh _ note)
  mesh_shape own (units.Part mesh piece) note now = choose_shape _ _ _ _ _ _ _ (gather_shape mesh.origin piece note now) (forward_shape own mesh _ note)
  mesh_shape own (units.Carried mesh body) note now = choose_shape _ _ _ _ _ _ _ (Rests _) (forward_shape own mesh _ note)
  mesh_shape own (units.Local code body) note now = Rests _

  sealed_unit_shape : (own by : ℕ) (all : Bool) (unit : MeshUnit) (cost note now : ℕ) → StationFew l (hear_sealed l own by all unit cost note now)
  sealed_unit_shape own by all (units.Local code body) cost note now = command_shape own by all code body cost now
  sealed_unit_shape own by all (units.Whole mesh octets) cost note now =
      choose_shape _ _ _ _ _ _ _ (Rests _) (mesh_shape own (units.Whole mesh octets) note now)
  sealed_unit_shape own by all (units.Part mesh piece) cost note now = choose_shape _ _ _ _ _ _ _ (Rests _) (mesh_shape own (units.Part mesh piece) note now)
  sealed_unit_shape own by all (units.Carried mesh body) cost note now =
      choose_shape _ _ _ _ _ _ _ (Rests _) (mesh_shape own (units.Carried mesh body) note now)

  plain_shape : (answer : List ℕ → Heard) (body : Option (List ℕ)) → StationFew l (hear_plain l answer body)
  plain_shape answer None = Rests _
  plain_shape answer (Some body) = Rests _

  addressed_shape : (own : Option ℕ) (by : ℕ) (all : Bool) (unit : MeshUnit) (cost note now : ℕ)
      → StationFew l (option_map_or (λ a. hear_sealed l a by all unit cost note now) own (drop_it l BadUnit))
  addressed_shape None by all unit cost note now = Rests _
  addressed_shape (Some own) by all unit cost note now = sealed_unit_shape own by all unit cost note now

  unit_shape : (path : Path) (unit : MeshUnit) (cost note now : ℕ) → StationFew l (hear_unit l path unit cost note now)
  unit_shape (paths.Sealed from all key) unit cost note now = addressed_shape (address_of l) from all unit cost note now
  unit_shape (paths.Up from) unit cost note now = plain_shape _ (is_joining unit)
  unit_shape (paths.Down from) unit cost note now = plain_shape _ (is_joining unit)

  unit_in_shape : (path : Path) (unit : Option MeshUnit) (cost note now : ℕ) → StationFew l (hear_unit_in l path unit cost note now)
  unit_in_shape path None cost note now = Rests _
  unit_in_shape path (Some unit) cost note now = unit_shape path unit cost note now

  pub hear_few : (got : Accepted) (cost note now : ℕ) → StationFew l (hear l got cost note now)
  hear_few got cost note now = unit_in_shape got.path (unit_in got.payload) cost note now
