-- What holds of ranks and routes before the first forged event.
use Rattle.std.specs.Prelude.{◌≡◌, ◌⊎◌, ◌≢◌, ℕ, ◌<◌, ◌^◌, Bool, ◌==◌, if◌then◌else◌, All, List, Option, Some, None}
use Rattle.std.specs.Option.{option_map, option_and_then}
use Rattle.mac_frames.specs.declared.head.MacHead.TheVariants as heads
use Rattle.mesh_header.specs.declared.unit.Mesh.{Mesh}
use Rattle.mesh_header.specs.declared.unit.Unit.{Unit as MeshUnit}
use Rattle.mesh_header.specs.declared.unit.Unit.TheVariants as units
use Rattle.mesh_header.specs.Pieces.{Placed}
use Rattle.mesh_header.specs.Reader.{unit_in}
use Rattle.loadng_messages.specs.declared.message.Message.{Message}
use Rattle.loadng_messages.specs.declared.message.Message.TheVariants.{Rreq, Rrep, Rerr}
use Rattle.loadng_messages.specs.Grammar as messages
use Rattle.loadng_messages.specs.Reader.{message_in}
use Rattle.group_keys.specs.KeyBook as books
use Rattle.routing_set.specs.declared.rank.Rank.{Rank}
use Rattle.routing_set.specs.Ranks.{Beats, IsAtLeast}
use Rattle.routing_set.specs.RoutingSet as routing
use Rattle.node_rules.specs.Ciphers.{Ciphers}
use Rattle.node_rules.specs.Frames.{SealedUnit, Sealed, Arrived, arrived, spelled}
use Rattle.node_rules.specs.Memory.{Memory, Node}
use Rattle.line_rules.specs.Worlds.{World, Flight, node_at}
use Rattle.line_laws.specs.Loops.{stored}

-- # Homes

-- A home gives each node the address that is its own, also while it is halted or has left; a node without one never had an address.
abbrev pub Homes : Type 0
Homes = ℕ → Option ℕ

-- the home of each node that is there
unfoldable pub homes_of : books.Book → World → Homes
homes_of b w i =
    if i == 0 then option_map (λ (x : Node). 0) (node_at w 0) else option_and_then (λ (x : Node). books.address_of b x.eui) (node_at w i)

abbrev pub At : Homes → ℕ → ℕ → Type 0
At h i address = h i ≡ Some address

-- every address may become that of a node without one
abbrev pub Own : Homes → ℕ → ℕ → Type 0
Own h i dest = (h i ≡ Some dest) ⊎ (h i ≡ None)

-- # What is said

-- a rank of two octets each, of an address of two octets
abbrev pub IsSmall : (number cost origin : ℕ) → Type 0
IsSmall number cost origin = (number < 2 ^ 16) × (cost < 2 ^ 16) × (origin < 2 ^ 16)

-- the rank is the node's own at cost 0, or what is held is that rank or beats it
abbrev pub RankBacked : (ℕ → Type 0) → routing.Routing → (number cost origin : ℕ) → Type 0
RankBacked At t number cost origin =
    (At origin × (cost ≡ 0)) ⊎ (IsAtLeast (routing.held t origin) (record { number = number; cost = cost }) × IsSmall number cost origin)

-- a request and a reply offer a rank, an error none
abbrev pub MessageBacked : (ℕ → Type 0) → routing.Routing → Message → Type 0
MessageBacked At t (Rreq number cost origin dest) = RankBacked At t number cost origin
MessageBacked At t (Rrep number cost origin to) = RankBacked At t number cost origin
MessageBacked At t (Rerr lost to) = Unit {0}

-- a route message is backed; other commands alone, and units over the mesh, say no rank
pub data UnitBacked (At : ℕ → Type 0) (t : routing.Routing) : MeshUnit → Type 0 where
  Says : (m : Message) → MessageBacked At t m → UnitBacked At t (units.Local 1 (messages.spelling m))
  IsWhole : (mesh : Mesh) (octets : List ℕ) → UnitBacked At t (units.Whole mesh octets)
  IsPart : (mesh : Mesh) (piece : Placed) → UnitBacked At t (units.Part mesh piece)
  IsCarried : (mesh : Mesh) (body : List ℕ) → UnitBacked At t (units.Carried mesh body)
  IsOther : (code : ℕ) (body : List ℕ) → code ≢ 1 → UnitBacked At t (units.Local code body)

-- What a letter spells is read back: the address and the unit of who opens it under its key, and its route message.
pub record SealedUnitRead (ciphers : Ciphers) (sealed_unit : SealedUnit) : Type 0 where
  pub opens : (a : Arrived) (ack : Bool) (seq pan to from counter index : ℕ) (payload : List ℕ)
      → arrived ciphers (spelled ciphers (Sealed sealed_unit)).octets ≡ Some a
      → a.head ≡ heads.Sealed ack seq pan to from counter index
      → a.opened sealed_unit.key ≡ Some payload → (from ≡ sealed_unit.from) × (unit_in payload ≡ Some sealed_unit.unit)
  pub messages : (message : Message) → sealed_unit.unit ≡ units.Local 1 (messages.spelling message)
      → (read : Message) × (message_in (messages.spelling message) ≡ Some read)
      × (messages.spelling message ≡ messages.spelling read) × messages.IsMessage read

-- # Ranks and routes

-- the next hop of its valid route to an address, whether it has a ring or not
unfoldable pub via : Node → ℕ → Option ℕ
via x dest = option_and_then (λ (m : Memory). routing.next_of m.station.routing dest) x.memory

-- The node of an address keeps a stored rank that beats this one.
pub record Nearer (h : Homes) (w : World) (next dest : ℕ) (rank : Rank) : Type 0 where
  pub number : ℕ
  pub node : Node
  pub home : h number ≡ Some next
  pub there : node_at w number ≡ Some node
  pub beats : Beats (routing.held (stored node) dest) rank

abbrev pub IsNearer : Homes → World → ℕ → ℕ → Rank → Type 0
IsNearer h w next dest rank = (next ≡ dest) ⊎ Nearer h w next dest rank

-- A flight is plain, or the spelling of a letter from its sender's address whose rank is the sender's own at cost 0, or backed by what the sender stores.
pub data FlightBacked (ciphers : Ciphers) (h : Homes) (w : World) (f : Flight) : Type 0 where
  IsPlain : f.key ≡ None → FlightBacked ciphers h w f
  IsSealedUnit : (sealed_unit : SealedUnit) (x : Node) → f.octets ≡ (spelled ciphers (Sealed sealed_unit)).octets → f.key ≡ Some sealed_unit.key
      → h f.from ≡ Some sealed_unit.from
      → node_at w f.from ≡ Some x
      → UnitBacked (At h f.from) (stored x) sealed_unit.unit → SealedUnitRead ciphers sealed_unit → FlightBacked ciphers h w f

-- A valid route is at a stored rank, and leads to its end or nearer.
pub record GoodRoute (h : Homes) (w : World) (x : Node) (dest next : ℕ) : Type 0 where
  pub rank : Rank
  pub kept : routing.rank_of (stored x) dest ≡ Some rank
  pub nearer : IsNearer h w next dest rank

-- Ranks: flights are backed, and no node keeps a rank of its own address.
pub record RanksHold (ciphers : Ciphers) (h : Homes) (w : World) : Type 0 where
  pub backed : All (FlightBacked ciphers h w) w.flights
  pub not_own : (i : ℕ) (x : Node) → node_at w i ≡ Some x → (dest : ℕ) → Own h i dest → routing.rank_of (stored x) dest ≡ None

-- Routes: valid routes lead nearer.
pub record RoutesHold (h : Homes) (w : World) : Type 0 where
  pub routes : (i : ℕ) (x : Node) → node_at w i ≡ Some x → (dest next : ℕ) → via x dest ≡ Some next → GoodRoute h w x dest next

pub record RoutingHolds (ciphers : Ciphers) (h : Homes) (w : World) : Type 0 where
  pub ranks : RanksHold ciphers h w
  pub routes : RoutesHold h w
