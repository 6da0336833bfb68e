-- What a node sends over the mesh: bodies, and the units that they go out as.
use Rattle.std.specs.Prelude.{◌≡◌, ◌≤◌, ℕ, nat_le, if◌then◌else◌, List, [], ◌∷◌, length, map, drop, Option, Some, None, refl}
use Rattle.std.specs.Coded.{Coded, code_by, coded×, coded_ℕ, coded_list, coded_option}
use Rattle.mesh_header.specs.declared.unit.Mesh.{Mesh}
use Rattle.mesh_header.specs.declared.unit.Unit.{Unit as MeshUnit}
use Rattle.mesh_header.specs.declared.unit.Unit.TheVariants.{Whole, Part, Carried}
use Rattle.fragment_buffers.specs.Fragmentation.{pieces_cut, pieces_of}

-- # What is carried

-- a datagram, with the tag that names its pieces where it has more than one, or the octets of a command, its code first
pub data Load : Type 0 where
  Datagram : (octets : List ℕ) → (tag : ℕ) → Load
  Command : (octets : List ℕ) → Load

-- the octets of a load
abbrev pub load_octets : Load → List ℕ
load_octets (Datagram octets tag) = octets
load_octets (Command octets) = octets

-- its tag, which a command does not have
abbrev pub load_tag : Load → Option ℕ
load_tag (Datagram octets tag) = Some tag
load_tag (Command octets) = None

-- the load of a tag, if there is one, and octets
abbrev pub load_of : Option ℕ → List ℕ → Load
load_of None octets = Command octets
load_of (Some tag) octets = Datagram octets tag

pub load_back : (load : Load) → load_of (load_tag load) (load_octets load) ≡ load
load_back (Datagram octets tag) = refl
load_back (Command octets) = refl

-- a load is kept as its octets, and its tag if it has one
abbrev pub load_code : Coded Load
load_code =
    code_by (Option ℕ × List ℕ) (coded× (coded_option coded_ℕ) (coded_list coded_ℕ))
    (λ l. (load_tag l, load_octets l)) (λ p. load_of p.0 p.1) (λ l. load_back l)

-- a datagram has at most 1,280 octets
abbrev pub IsShort : Load → Type 0
IsShort (Datagram octets tag) = length octets ≤ 1280
IsShort (Command octets) = Unit {0}

-- # Units

-- the mesh header of what a node sends itself: 14 hops are left to it
abbrev pub own_mesh : ℕ → ℕ → Mesh
own_mesh own to = record { hops = 14; origin = own; to = to }

-- the units of a load: a datagram that fits goes whole, a longer one in pieces, and a command after its code
abbrev pub units_of : ℕ → ℕ → Load → List MeshUnit
units_of own to (Datagram octets tag) =
    if nat_le (length octets) 375 then Whole (own_mesh own to) octets ∷ []
    else map (λ piece. Part (own_mesh own to) piece) (pieces_cut octets tag)
units_of own to (Command octets) = Carried (own_mesh own to) (drop 1 octets) ∷ []

-- how many they are
abbrev pub units_in : Load → ℕ
units_in (Datagram octets tag) = pieces_of (length octets)
units_in (Command octets) = 1

-- # What goes out

-- A unit on its way out, which is not sealed yet.
pub record UnsealedUnit : Type 0 where
  pub to : ℕ
  pub unit : MeshUnit
  pub note : ℕ

-- each of the units goes to the hop
abbrev pub all_go : ℕ → ℕ → List MeshUnit → List UnsealedUnit
all_go hop note units = map (λ unit. record { to = hop; unit = unit; note = note }) units
