-- What became of each octet of each datagram that was sent, after a run without a forged event: a closed list of fates.
--
-- A unit of a datagram is named by the octets that it carries: the octet at a position is in the one unit of the load that has its place, a whole
-- datagram or one piece. So the law speaks of positions, as custody counts them, and says the same of all octets of one unit.
use Rattle.std.specs.Prelude.{◌≡◌, ℕ, ◌<◌, true, false, List, [], ◌∷◌, ◌++◌, length, Some}
use Rattle.plc_base.specs.declared.key.Key.{Key}
use Rattle.mesh_header.specs.declared.unit.Unit.{Unit as MeshUnit}
use Rattle.fragment_buffers.specs.Reassembly.{PlacedPiece, Reassembly}
use Rattle.fragment_buffers.specs.declared.times.TheConstants.{REASSEMBLY_TIME, WAITING_TIME}
use Rattle.node_rules.specs.Ciphers.{network}
use Rattle.node_rules.specs.Memory.{StationMemory, Body}
use Rattle.line_events.specs.declared.happenings.Handed.{Handed}
use Rattle.line_rules.specs.Forgery.{AcceptsSealed}
use Rattle.line_rules.specs.Runs.{Entry, IsLineRun, NoneForged, last_world, send_at, sends, ups}
use Rattle.line_rules.specs.Worlds.{World, Flight, Sending, flight_at, start}
use Rattle.line_laws.specs.Custody.{content_is, load_is, placed_is}
use Rattle.line_laws.specs.Places.{unit_of}
use Rattle.line_progress.specs.EventFates.{Ended}
use Rattle.line_progress.specs.Lists.{Among}
use Rattle.line_progress.specs.Stations.{station_at}
use Rattle.line_progress.specs.UnitFates.{is_datagram_end}

-- # Where the octet at a position of the datagram of a number is

-- in no event from a world on a node accepted the octets of this flight under its key
abbrev pub NoneAccepted : World → List Entry → Flight → Type 0
NoneAccepted w [] f = Unit {0}
NoneAccepted w (x ∷ xs) f =
    ((key : Key) → f.key ≡ Some key → AcceptsSealed network w x.event f.octets key → ⊥) × NoneAccepted x.after xs f

-- A flight carries it under the number of the send, and in no event so far a node accepted that flight. It may be lost, which only keeps `deliver`
-- from it: a script can still inject its octets. And it may be hopeless, where its node would not admit it any more.
pub record IsInFlight (n i : ℕ) (before : List Entry) (w : World) (number : ℕ) : Type 0 where
  pub flight : Flight
  pub there : flight_at w number ≡ Some flight
  pub note : flight.note ≡ n
  pub unit : MeshUnit
  pub carried : unit_of network flight ≡ Some unit
  pub octet : content_is i unit ≡ 1
  pub unaccepted : NoneAccepted start before flight

-- A body with it waits at a node for a route.
pub record IsWaiting (n i : ℕ) (w : World) (node : ℕ) : Type 0 where
  pub station : StationMemory
  pub there : station_at w node ≡ Some station
  pub body : Body
  pub waits : Among body station.waiting
  pub note : body.note ≡ n
  pub octet : load_is i body.load ≡ 1

-- A piece with it is gathered at a node.
pub record IsGathered (n i : ℕ) (w : World) (node : ℕ) : Type 0 where
  pub station : StationMemory
  pub there : station_at w node ≡ Some station
  pub reassembly : Reassembly
  pub held : Among reassembly station.reassemblies
  pub note : reassembly.note ≡ n
  pub piece : PlacedPiece
  pub placed : Among piece reassembly.pieces
  pub octet : placed_is i piece ≡ 1

-- The datagram was handed up under the number.
pub record IsHandedUp (n : ℕ) (before : List Entry) : Type 0 where
  pub handed : Handed
  pub is : Among handed (ups before)
  pub note : handed.note ≡ n

-- # How it ends

-- How one event of a run ends it: a node accepts its flight, and is answered NoRoute, HopsSpent, CounterSpent, BufferFull, Reported or Store; or the
-- body or the piece ends at its node, for a reason of the closed list of `Ended`.
pub data Ends (n i : ℕ) (before : List Entry) (w : World) (x : Entry) : Type 0 where
  AtDelivery : (number : ℕ) (key : Key) (f : IsInFlight n i before w number) → AcceptsSealed network w x.event f.flight.octets key
      → f.flight.key ≡ Some key → is_datagram_end x.trace.happenings.answer ≡ true → Ends n i before w x
  WhileWaiting : (node : ℕ) (b : IsWaiting n i w node) → Ended w x.event node b.body.since WAITING_TIME (x.after, x.trace) → Ends n i before w x
  WhileGathered : (node : ℕ) (p : IsGathered n i w node) → Ended w x.event node p.reassembly.since REASSEMBLY_TIME (x.after, x.trace)
      → Ends n i before w x

-- One event of a run, the one of this number, ended it.
pub record HasEnded (n i : ℕ) (entries : List Entry) (number : ℕ) : Type 0 where
  pub before : List Entry
  pub entry : Entry
  pub after : List Entry
  pub split : entries ≡ before ++ entry ∷ after
  pub is : entry.number ≡ number
  pub how : Ends n i before (last_world start before) entry

-- # The law

-- What became of it after a run that led to a world: it was handed up; it is in a flight of a number, lost or not, that nobody accepted; it waits or is
-- gathered at a node of a number; or an event of a number ended it.
pub data Fate (n i : ℕ) (entries : List Entry) (w : World) : Type 0 where
  HandedUp : IsHandedUp n entries → Fate n i entries w
  Flies : (number : ℕ) (f : IsInFlight n i entries w number) → f.flight.lost ≡ false → Fate n i entries w
  Lost : (number : ℕ) (f : IsInFlight n i entries w number) → f.flight.lost ≡ true → Fate n i entries w
  Waits : (node : ℕ) → IsWaiting n i w node → Fate n i entries w
  Gathered : (node : ℕ) → IsGathered n i w node → Fate n i entries w
  Over : (event : ℕ) → HasEnded n i entries event → Fate n i entries w

-- each octet of the datagram of each send that was taken has one
abbrev pub HaveFates : List Entry → World → Type 0
HaveFates entries w =
    (n : ℕ) (s : Sending) → send_at (sends entries) n ≡ Some s → (i : ℕ) → i < length s.datagram → Fate n i entries w

-- So it is after each run of the network in which no event is forged, whatever power is lost. A run that is cut off is a run, so it is so after each event.
abbrev pub EverySendHasAFate : Type 0
EverySendHasAFate = (entries : List Entry) → IsLineRun network entries → NoneForged entries → HaveFates entries (last_world start entries)
