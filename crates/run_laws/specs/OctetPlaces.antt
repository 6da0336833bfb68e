-- At which places the octets of a datagram are at once: each at one place at most.
use Rattle.std.specs.Prelude.{◌≡◌, ℕ, ◌<◌, Bool, true, false, List, [], ◌∷◌, ◌++◌, length, Some}
use Rattle.mesh_header.specs.declared.unit.Unit.{Unit as MeshUnit}
use Rattle.fragment_buffers.specs.Reassembly.{PlacedPiece, Reassembly}
use Rattle.node_rules.specs.Ciphers.{network}
use Rattle.node_rules.specs.Memory.{Body, StationMemory}
use Rattle.line_events.specs.declared.happenings.Handed.{Handed}
use Rattle.line_rules.specs.Runs.{Entry, IsLineRun, one_of, ups}
use Rattle.line_rules.specs.Worlds.{World, Flight, flight_at, start}
use Rattle.line_laws.specs.Custody.{content_is, load_is, placed_is}
use Rattle.line_laws.specs.Live.{live}
use Rattle.line_laws.specs.OpenFlights.{Opening, is_open, opening}
use Rattle.line_laws.specs.Places.{unit_of}
use Rattle.line_progress.specs.Lists.{Among}
use Rattle.line_progress.specs.Stations.{station_at}

-- # Places

-- where an octet of a datagram may be: it was handed up, it is in the flight of a number, or it waits or is gathered at the node of a number
pub data Place : Type 0 where
  Up : Place
  InFlight : (number : ℕ) → Place
  AtNode : (node : ℕ) → Place
  InPieces : (node : ℕ) → Place

-- The octet at position i of the datagram of send n is at a place, where these flights count and this was handed up. A flight counts with what its key
-- opens, a whole datagram or a piece; a body waits with its whole load.
pub data IsAtPlace (counts : World → Flight → Bool) (n i : ℕ) (w : World) (handed : List Handed) : Place → Type 0 where
  WasHandedUp : (u : Handed) → Among u handed → u.note ≡ n → i < length u.octets → IsAtPlace counts n i w handed Up
  Flies : (number : ℕ) (f : Flight) (unit : MeshUnit) → flight_at w number ≡ Some f → counts w f ≡ true → f.note ≡ n
      → unit_of network f ≡ Some unit → content_is i unit ≡ 1 → IsAtPlace counts n i w handed (InFlight number)
  Waits : (node : ℕ) (l : StationMemory) (b : Body) → station_at w node ≡ Some l → Among b l.waiting → b.note ≡ n → load_is i b.load ≡ 1
      → IsAtPlace counts n i w handed (AtNode node)
  IsGathered : (node : ℕ) (l : StationMemory) (r : Reassembly) (p : PlacedPiece) → station_at w node ≡ Some l → Among r l.reassemblies → r.note ≡ n
      → Among p r.pieces → placed_is i p ≡ 1 → IsAtPlace counts n i w handed (InPieces node)

-- no octet of a send is at two places
abbrev pub AreAtOnePlace : (World → Flight → Bool) → World → List Handed → Type 0
AreAtOnePlace counts w handed =
    (n i : ℕ) → 0 < n → (a b : Place) → IsAtPlace counts n i w handed a → IsAtPlace counts n i w handed b → a ≡ b

-- # Runs

-- So it is after each event before the first forged one, lost flights or not: where those count that may still come, which the node of their address
-- would still admit; and where those count that are open, since no node has accepted them so far. What was opened is listed, the last first.
abbrev pub StayAtOnePlace : List Opening → (before : List Entry) → World → List Entry → Type 0
StayAtOnePlace opened before w [] = Unit {0}
StayAtOnePlace opened before w (x ∷ xs) =
    x.trace.happenings.forged ≡ false
    → AreAtOnePlace live x.after (ups (before ++ x ∷ []))
    × AreAtOnePlace (λ _ f. is_open (one_of (opening w x.event) ++ opened) f) x.after (ups (before ++ x ∷ []))
    × StayAtOnePlace (one_of (opening w x.event) ++ opened) (before ++ x ∷ []) x.after xs

abbrev pub EveryOctetIsAtOnePlace : Type 0
EveryOctetIsAtOnePlace = (entries : List Entry) → IsLineRun network entries → StayAtOnePlace [] [] start entries
