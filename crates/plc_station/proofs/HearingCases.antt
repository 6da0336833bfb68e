-- What hearing a frame comes to, by what it is.
use Rattle.std.proofs.Common.{◌≡◌, ◌⊎◌, inl, inr, ℕ, Bool, true, false, List, Option, Some, None, Ok, Err, refl}
use Rattle.std.specs.Prelude.{◌==◌}
use Rattle.plc_base.specs.declared.key.Key.{Key}
use Rattle.plc_base.specs.declared.address.Eui.{Eui}
use Rattle.loadng_messages.specs.declared.message.Message.{Message}
use Rattle.loadng_messages.specs.declared.message.Message.TheVariants.{Rreq, Rrep, Rerr}
use Rattle.loadng_messages.specs.Reader.{message_in}
use Rattle.mesh_header.specs.declared.unit.Mesh.{Mesh}
use Rattle.mesh_header.specs.declared.unit.Unit.{Unit as MeshUnit}
use Rattle.mesh_header.specs.declared.unit.Unit.TheVariants.{Whole, Part, Carried, Local}
use Rattle.mesh_header.specs.Pieces.{Placed}
use Rattle.node_rules.specs.declared.heard.Heard.{Heard}
use Rattle.node_rules.specs.declared.heard.Heard.TheVariants as heard
use Rattle.node_rules.specs.declared.heard.Way.TheVariants.{Air, Near}
use Rattle.node_rules.specs.declared.heard.Path.{Path}
use Rattle.node_rules.specs.declared.heard.Path.TheVariants as paths
use Rattle.node_rules.specs.declared.refusal.Dropped.TheVariants.{BadUnit, Store}
use Rattle.node_rules.specs.Memory.{StationMemory}
use Rattle.node_rules.specs.Plans.{resting}
use Rattle.node_rules.specs.Drafts.{choose, refused}
use Rattle.node_rules.specs.HearingRules.{dropped, hear_message, hear_command, hear_over_mesh, hear_sealed, hear_unit_in, is_joining, hear_request, hear_reply}
use Rattle.node_rules.specs.HearingRules.{hear_error, rank_over}

-- # A command

pub message_bad : (l : StationMemory) (own by : ℕ) (all : Bool) (code : ℕ) (body : List ℕ) (cost now : ℕ) → true ≡ (code == 1) → None ≡ message_in body
    → refused {H = Heard} dropped l BadUnit ≡ hear_command l own by all code body cost now
unfolding choose
message_bad l own by all code body cost now one none = rw (← one, ← none) refl

pub message_is : (l : StationMemory) (own by : ℕ) (all : Bool) (code : ℕ) (body : List ℕ) (cost now : ℕ) (m : Message) → true ≡ (code == 1)
    → Some m ≡ message_in body → hear_message l own by all cost now m ≡ hear_command l own by all code body cost now
unfolding choose
message_is l own by all code body cost now m one some = rw (← one, ← some) refl

pub joining_bad : (l : StationMemory) (own by : ℕ) (all : Bool) (code : ℕ) (body : List ℕ) (cost now : ℕ) → false ≡ (code == 1) → true ≡ (code == 2)
    → refused {H = Heard} dropped l BadUnit ≡ hear_command l own by all code body cost now
unfolding choose
joining_bad l own by all code body cost now one two = rw (← one, ← two) refl

pub local_is : (l : StationMemory) (own by : ℕ) (all : Bool) (code : ℕ) (body : List ℕ) (cost now : ℕ) → false ≡ (code == 1) → false ≡ (code == 2)
    → resting l (Ok (heard.Local by all code body)) (Err Store) ≡ hear_command l own by all code body cost now
unfolding choose
local_is l own by all code body cost now one two = rw (← one, ← two) refl

-- # A unit of a sealed frame

-- a unit that goes over the mesh
abbrev pub IsOverMesh : MeshUnit → Type 0
IsOverMesh u =
    ((mesh : Mesh) × (octets : List ℕ) × u ≡ Whole mesh octets)
    ⊎ (((mesh : Mesh) × (piece : Placed) × u ≡ Part mesh piece) ⊎ ((mesh : Mesh) × (body : List ℕ) × u ≡ Carried mesh body))

pub mesh_all : (l : StationMemory) (own by : ℕ) (all : Bool) (u : MeshUnit) (cost note now : ℕ) → IsOverMesh u → true ≡ all
    → refused {H = Heard} dropped l BadUnit ≡ hear_sealed l own by all u cost note now
unfolding choose
mesh_all l own by all u cost note now (inl (mesh, octets, is)) a = rw (is, ← a) refl
mesh_all l own by all u cost note now (inr (inl (mesh, piece, is))) a = rw (is, ← a) refl
mesh_all l own by all u cost note now (inr (inr (mesh, body, is))) a = rw (is, ← a) refl

pub mesh_one : (l : StationMemory) (own by : ℕ) (all : Bool) (u : MeshUnit) (cost note now : ℕ) → IsOverMesh u → false ≡ all
    → hear_over_mesh l own u note now ≡ hear_sealed l own by all u cost note now
unfolding choose
mesh_one l own by all u cost note now (inl (mesh, octets, is)) a = rw (is, ← a) refl
mesh_one l own by all u cost note now (inr (inl (mesh, piece, is))) a = rw (is, ← a) refl
mesh_one l own by all u cost note now (inr (inr (mesh, body, is))) a = rw (is, ← a) refl

-- # A frame

pub no_unit : (l : StationMemory) (path : Path) (o : Option MeshUnit) (cost note now : ℕ) → None ≡ o
    → refused {H = Heard} dropped l BadUnit ≡ hear_unit_in l path o cost note now
no_unit l path o cost note now e = rw (← e) refl

pub unit_unjoined : (l : StationMemory) (path : Path) (o : Option MeshUnit) (u : MeshUnit) (from : ℕ) (all : Bool) (key : Key) (cost note now : ℕ) → Some u ≡ o
    → path ≡ paths.Sealed from all key → None ≡ l.ring
    → refused {H = Heard} dropped l BadUnit ≡ hear_unit_in l path o cost note now
unit_unjoined l path o u from all key cost note now e p r = rw (← e, p, ← r) refl

pub up_none : (l : StationMemory) (path : Path) (o : Option MeshUnit) (u : MeshUnit) (from : Eui) (cost note now : ℕ) → Some u ≡ o → path ≡ paths.Up from
    → None ≡ is_joining u → refused {H = Heard} dropped l BadUnit ≡ hear_unit_in l path o cost note now
up_none l path o u from cost note now e p j = rw (← e, p, ← j) refl

pub up_some : (l : StationMemory) (path : Path) (o : Option MeshUnit) (u : MeshUnit) (from : Eui) (body : List ℕ) (cost note now : ℕ) → Some u ≡ o
    → path ≡ paths.Up from → Some body ≡ is_joining u
    → resting l (Ok (heard.Joining (Air from) body)) (Err Store) ≡ hear_unit_in l path o cost note now
up_some l path o u from body cost note now e p j = rw (← e, p, ← j) refl

pub down_none : (l : StationMemory) (path : Path) (o : Option MeshUnit) (u : MeshUnit) (from cost note now : ℕ) → Some u ≡ o → path ≡ paths.Down from
    → None ≡ is_joining u → refused {H = Heard} dropped l BadUnit ≡ hear_unit_in l path o cost note now
down_none l path o u from cost note now e p j = rw (← e, p, ← j) refl

pub down_some : (l : StationMemory) (path : Path) (o : Option MeshUnit) (u : MeshUnit) (from : ℕ) (body : List ℕ) (cost note now : ℕ) → Some u ≡ o
    → path ≡ paths.Down from → Some body ≡ is_joining u
    → resting l (Ok (heard.Joining (Near from) body)) (Err Store) ≡ hear_unit_in l path o cost note now
down_some l path o u from body cost note now e p j = rw (← e, p, ← j) refl

-- # A message, by its kind

pub request_to_one : (l : StationMemory) (own by : ℕ) (all : Bool) (cost now : ℕ) (m : Message) (number c origin dest : ℕ) → m ≡ Rreq number c origin dest
    → false ≡ all → refused {H = Heard} dropped l BadUnit ≡ hear_message l own by all cost now m
request_to_one l own by all cost now m number c origin dest is a = rw (is, ← a) refl

pub request_is : (l : StationMemory) (own by : ℕ) (all : Bool) (cost now : ℕ) (m : Message) (number c origin dest : ℕ) → m ≡ Rreq number c origin dest
    → true ≡ all → hear_request l own by origin dest (rank_over number c cost) now ≡ hear_message l own by all cost now m
request_is l own by all cost now m number c origin dest is a = rw (is, ← a) refl

pub reply_to_all : (l : StationMemory) (own by : ℕ) (all : Bool) (cost now : ℕ) (m : Message) (number c origin to : ℕ) → m ≡ Rrep number c origin to
    → true ≡ all → refused {H = Heard} dropped l BadUnit ≡ hear_message l own by all cost now m
reply_to_all l own by all cost now m number c origin to is a = rw (is, ← a) refl

pub reply_is : (l : StationMemory) (own by : ℕ) (all : Bool) (cost now : ℕ) (m : Message) (number c origin to : ℕ) → m ≡ Rrep number c origin to → false ≡ all
    → hear_reply l own by origin to (rank_over number c cost) now ≡ hear_message l own by all cost now m
reply_is l own by all cost now m number c origin to is a = rw (is, ← a) refl

pub error_to_all : (l : StationMemory) (own by : ℕ) (all : Bool) (cost now : ℕ) (m : Message) (lost to : ℕ) → m ≡ Rerr lost to → true ≡ all
    → refused {H = Heard} dropped l BadUnit ≡ hear_message l own by all cost now m
error_to_all l own by all cost now m lost to is a = rw (is, ← a) refl

pub error_is : (l : StationMemory) (own by : ℕ) (all : Bool) (cost now : ℕ) (m : Message) (lost to : ℕ) → m ≡ Rerr lost to → false ≡ all
    → hear_error l own by lost to ≡ hear_message l own by all cost now m
error_is l own by all cost now m lost to is a = rw (is, ← a) refl
