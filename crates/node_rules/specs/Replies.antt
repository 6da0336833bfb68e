-- The route reply that a plan sends.
use Rattle.std.specs.Prelude.{ℕ, ◌==◌, if◌then◌else◌, is_some, List, [], ◌∷◌, Option, Some, None}
use Rattle.mesh_header.specs.declared.unit.Unit.{Unit as MeshUnit}
use Rattle.mesh_header.specs.declared.unit.Unit.TheVariants.{Whole, Part, Carried, Local}
use Rattle.loadng_messages.specs.declared.message.Message.{Message}
use Rattle.loadng_messages.specs.declared.message.Message.TheVariants.{Rreq, Rrep, Rerr}
use Rattle.loadng_messages.specs.Reader.{message_in}
use Rattle.node_rules.specs.declared.heard.Reply.{Reply}
use Rattle.node_rules.specs.Frames.{Sent, Sealed, Up, Down}
use Rattle.node_rules.specs.Plans.{Plan}

-- the route message of a unit, if it is one: a command of code 01
abbrev pub route_message : MeshUnit → Option Message
route_message (Local code body) = if code == 1 then message_in body else None
route_message (Whole mesh octets) = None
route_message (Part mesh piece) = None
route_message (Carried mesh body) = None

-- the reply that a message to a neighbour is, if it is one
abbrev pub reply_with : ℕ → Option Message → Option Reply
reply_with to None = None
reply_with to (Some (Rrep number cost origin target)) = Some (record { to = to; number = number; origin = origin })
reply_with to (Some (Rreq number cost origin dest)) = None
reply_with to (Some (Rerr lost target)) = None

-- the reply that a frame carries, if it carries one
unfoldable pub reply_of : Sent → Option Reply
reply_of (Sealed sealed_unit) = reply_with sealed_unit.to (route_message sealed_unit.unit)
reply_of (Up agent from message) = None
reply_of (Down from message) = None

-- one of two, the first if there is one
abbrev pub first_of : Option Reply → Option Reply → Option Reply
first_of (Some reply) rest = Some reply
first_of None rest = rest

-- the first reply among frames
abbrev pub reply_among : List Sent → Option Reply
reply_among [] = None
reply_among (frame ∷ frames) = first_of (reply_of frame) (reply_among frames)

-- the reply that was sent where a plan was carried out and left a memory: none where a put failed
abbrev pub reply_sent : {M N A : Type 0} → Plan M A → Option N → Option Reply
reply_sent p memory = if is_some memory then reply_among p.frames else None
