-- How what a station does is made: a constructor for each word, with the tests that its rule makes.
use Rattle.std.proofs.Common.{◌≡◌, ℕ, ◌≤◌, Bool, true, false, List, Option, Some, None, length}
use Rattle.std.specs.Prelude.{is_some, ◌==◌, ◌<◌}
use Rattle.std.specs.List.{AllByRecursion}
use Rattle.plc_base.specs.declared.key.Key.{Key}
use Rattle.plc_base.specs.Grant.{Granted}
use Rattle.group_keys.specs.KeyRing as ring
use Rattle.routing_set.specs.declared.rank.Rank.{Rank}
use Rattle.routing_set.specs.RoutingSet as routing
use Rattle.mesh_header.specs.declared.unit.Mesh.{Mesh}
use Rattle.mesh_header.specs.declared.unit.Unit.{Unit as MeshUnit}
use Rattle.mesh_header.specs.declared.unit.Unit.TheVariants as units
use Rattle.mesh_header.specs.Reader.{unit_in}
use Rattle.mesh_header.specs.Pieces.{Placed}
use Rattle.loadng_messages.specs.declared.message.Message.{Message}
use Rattle.loadng_messages.specs.declared.message.Message.TheVariants.{Rreq, Rrep, Rerr}
use Rattle.loadng_messages.specs.Grammar as messages
use Rattle.loadng_messages.specs.Reader.{message_in}
use Rattle.node_rules.specs.declared.heard.Path.TheVariants as paths
use Rattle.node_rules.specs.Accepted.{Accepted}
use Rattle.node_rules.specs.Frames.{to_all}
use Rattle.node_rules.specs.Memory.{StationMemory, Load, Datagram, load_octets, address_of, next_hop}
use Rattle.node_rules.specs.Drafts.{Draft, UnsealedUnit, with_rank, with_own_number, with_next_tag, with_ring, with_routing_by, goes, body_goes, waits, leave}
use Rattle.node_rules.specs.Drafts.{no_room, numbers_spent}
use Rattle.node_rules.specs.HearingRules.{rank_over, hop_less}
use Rattle.node_rules.specs.Calls.{near_rank, idled}
use Rattle.node_rules.specs.Laws.{IsShort}

-- What a call of a node is given: a frame that came over a link of a cost, under a note, at a time; or no frame.
pub record Given : Type 0 where
  pub got : Option Accepted
  pub cost : ℕ
  pub note : ℕ
  pub now : ℕ
  -- a neighbour that the workshop gives
  pub near : Option ℕ

-- A unit came in a sealed frame, from this neighbour, to all or to one.
pub record IsCome (g : Given) (by : ℕ) (all : Bool) (u : MeshUnit) : Type 0 where
  pub got : Accepted
  pub is : g.got ≡ Some got
  pub key : Key
  pub path : got.path ≡ paths.Sealed by all key
  pub unit : unit_in got.payload ≡ Some u

-- A route message came.
pub record MessageCame (g : Given) (by : ℕ) (all : Bool) (message : Message) : Type 0 where
  pub code : ℕ
  pub body : List ℕ
  pub came : IsCome g by all (units.Local code body)
  pub first : (code == 1) ≡ true
  pub read : message_in body ≡ Some message

-- what a neighbour offers of the way to an address: by a request, by a reply, or of itself in the workshop
pub data Offered (g : Given) (address : Option ℕ) (by : ℕ) : ℕ → Rank → Type 0 where
  ByRequest : (own number c origin dest : ℕ) → address ≡ Some own → (origin == own) ≡ false → (rank_over number c g.cost).cost ≤ 65535
      → MessageCame g by true (Rreq number c origin dest) → Offered g address by origin (rank_over number c g.cost)
  ByReply : (own number c origin to : ℕ) → address ≡ Some own → (origin == own) ≡ false → (rank_over number c g.cost).cost ≤ 65535
      → MessageCame g by false (Rrep number c origin to) → Offered g address by origin (rank_over number c g.cost)
  ByItself : g.near ≡ Some by → Offered g address by by (near_rank g.cost)

-- the unit with one hop less
pub data IsLess : MeshUnit → MeshUnit → Type 0 where
  Whole : (mesh : Mesh) (octets : List ℕ) → IsLess (units.Whole mesh octets) (units.Whole (hop_less mesh) octets)
  Part : (mesh : Mesh) (piece : Placed) → IsLess (units.Part mesh piece) (units.Part (hop_less mesh) piece)
  Carried : (mesh : Mesh) (body : List ℕ) → IsLess (units.Carried mesh body) (units.Carried (hop_less mesh) body)

-- The rank beats what is held, and there is a place for it.
pub record RankFits (r : routing.Routing) (origin : ℕ) (rank : Rank) (now : ℕ) : Type 0 where
  pub better : routing.is_better r origin rank ≡ true
  pub room : routing.is_full r origin now ≡ false

-- what is done to a ring, and the body that is sent out to an address under a note
pub data RingWord : Type 0 where
  Carry : (to note : ℕ) → (load : Load) → RingWord
  Drop : RingWord
  Install : (granted : Granted) → RingWord
  Draw : (index : ℕ) → (key : Key) → RingWord
  Activate : (index : ℕ) → RingWord

-- what a ring becomes by a word
pub data RingChange (W : RingWord → Type 0) (r : ring.Ring) : ring.Ring → Type 0 where
  Drops : RingChange W r None
  Installs : (granted : Granted) → W (Install granted) → RingChange W r (Some granted)
  Draws : (index : ℕ) (key : Key) → W (Draw index key) → RingChange W r (ring.with_key r index key)
  Activates : (index : ℕ) → W (Activate index) → is_some (ring.key_in_ring r index) ≡ true → RingChange W r (ring.with_active r index)

-- the last that was done is that a rank was offered, and that what waited for the address left
pub record JustRanked (g : Given) (by origin : ℕ) (rank : Rank) (d : Draft StationMemory) : Type 0 where
  pub before : Draft StationMemory
  pub own : ℕ
  pub is : d ≡ leave own origin by (with_rank origin rank by g.now before)

-- the mesh header of a unit that has one
abbrev pub mesh_of : MeshUnit → Option Mesh
mesh_of (units.Whole mesh octets) = Some mesh
mesh_of (units.Part mesh piece) = Some mesh
mesh_of (units.Carried mesh body) = Some mesh
mesh_of (units.Local code body) = None

-- an address that can't be reached, and whom it is told: so an error says, or so it is of a unit that came
pub data IsLost (g : Given) : ℕ → ℕ → Type 0 where
  ByError : (by lost to : ℕ) → MessageCame g by false (Rerr lost to) → IsLost g lost to
  OnWay : (by : ℕ) (unit : MeshUnit) (mesh : Mesh) → IsCome g by false unit → mesh_of unit ≡ Some mesh → IsLost g mesh.to mesh.origin

-- none of the units has a note
abbrev pub AreUnnoted : List UnsealedUnit → Type 0
AreUnnoted units = AllByRecursion (λ (o : UnsealedUnit). o.note ≡ 0) units

-- what goes out under a note goes alone: nothing under a note went before, and nothing began to wait
pub data IsAlone (s d : Draft StationMemory) : ℕ → Type 0 where
  Unnoted : IsAlone s d 0
  Alone : (note : ℕ) → d.memory.waiting ≡ s.memory.waiting → AreUnnoted d.units → IsAlone s d note

-- A tag is taken once, for a datagram that is sent out.
pub record TakesTag (W : RingWord → Type 0) (s d : Draft StationMemory) : Type 0 where
  pub to : ℕ
  pub note : ℕ
  pub datagram : List ℕ
  pub carries : W (Carry to note (Datagram datagram s.memory.next_tag))
  pub same : d.memory.next_tag ≡ s.memory.next_tag

-- a unit of a route message, or another node's unit with one hop less
pub data IsSaid (W : RingWord → Type 0) (g : Given) (s d : Draft StationMemory) : ℕ → MeshUnit → ℕ → Type 0 where
  Seeks : (own dest number note : ℕ) (load : Load) → address_of d.memory ≡ Some own → d.memory.own_number.last ≡ number → 0 < number → W (Carry dest note load)
      → IsSaid W g s d to_all (units.Local 1 (messages.spelling (Rreq number 0 own dest))) 0
  Answers : (own by origin number n c dest : ℕ) → address_of d.memory ≡ Some own → d.memory.own_number.last ≡ number → 0 < number
      → MessageCame g by true (Rreq n c origin dest) → IsSaid W g s d by (units.Local 1 (messages.spelling (Rrep number 0 own origin))) 0
  Relays : (by origin dest n c : ℕ) (rank : Rank) → Offered g (address_of d.memory) by origin rank → JustRanked g by origin rank d
      → MessageCame g by true (Rreq n c origin dest)
      → IsSaid W g s d to_all (units.Local 1 (messages.spelling (Rreq rank.number rank.cost origin dest))) 0
  Passes : (by origin to hop n c : ℕ) (rank : Rank) → Offered g (address_of d.memory) by origin rank → JustRanked g by origin rank d
      → MessageCame g by false (Rrep n c origin to) → next_hop s.memory to ≡ Some hop
      → IsSaid W g s d hop (units.Local 1 (messages.spelling (Rrep rank.number rank.cost origin to))) 0
  SaysTheSame : (hop lost to dest : ℕ) → IsLost g lost to → next_hop d.memory dest ≡ Some hop
      → IsSaid W g s d hop (units.Local 1 (messages.spelling (Rerr lost to))) 0
  Forwards : (by hop dest : ℕ) (unit less : MeshUnit) → IsCome g by false unit → IsLess unit less → next_hop d.memory dest ≡ Some hop
      → IsSaid W g s d hop less g.note

-- The doing is made of words, from another one on.
pub data Made (W : RingWord → Type 0) (g : Given) (s : Draft StationMemory) : Draft StationMemory → Type 0 where
  Starts : Made W g s s
  Ranks : (by origin : ℕ) (rank : Rank) (d : Draft StationMemory) → Made W g s d → Offered g (address_of d.memory) by origin rank
      → RankFits d.memory.routing origin rank g.now
      → Made W g s (with_rank origin rank by g.now d)
  Numbers : (d : Draft StationMemory) → Made W g s d → numbers_spent d.memory ≡ false → Made W g s (with_own_number d)
  Tags : (d : Draft StationMemory) → Made W g s d → TakesTag W s d → Made W g s (with_next_tag d)
  Rings : (r : ring.Ring) (d : Draft StationMemory) → Made W g s d → RingChange W d.memory.ring r → Made W g s (with_ring r d)
  Idles : (d : Draft StationMemory) → Made W g s d → Made W g s (record d { memory = idled d.memory })
  Loses : (lost by : ℕ) (d : Draft StationMemory) → Made W g s d → Made W g s (with_routing_by (λ r. routing.without_next_to r lost by) d)
  Goes : (to : ℕ) (unit : MeshUnit) (note : ℕ) (d : Draft StationMemory) → Made W g s d → IsSaid W g s d to unit note → IsAlone s d note
      → Made W g s (goes to unit note d)
  Sends : (own hop to note : ℕ) (load : Load) (d : Draft StationMemory) → Made W g s d → address_of d.memory ≡ Some own → next_hop d.memory to ≡ Some hop
      → IsShort load → W (Carry to note load) → IsAlone s d note
      → Made W g s (body_goes own hop to note load d)
  Waits : (to note : ℕ) (load : Load) (now : ℕ) (d : Draft StationMemory) → Made W g s d → next_hop d.memory to ≡ None
      → no_room d.memory (length (load_octets load)) ≡ false → IsShort load → W (Carry to note load) → IsAlone s d note
      → Made W g s (waits to note load now d)
  Leaves : (own dest hop : ℕ) (rank : Rank) (d : Draft StationMemory) → Made W g s d → address_of d.memory ≡ Some own
      → Offered g (address_of d.memory) hop dest rank → Made W g s (leave own dest hop d)
