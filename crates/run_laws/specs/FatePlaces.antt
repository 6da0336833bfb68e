-- The fates of an octet that are not over are at one place.
use Rattle.std.specs.Prelude.{◌≡◌, ℕ, ◌<◌, List, length, Option, Some, None}
use Rattle.node_rules.specs.Ciphers.{network}
use Rattle.line_rules.specs.Runs.{Entry, IsLineRun, NoneForged, last_world, send_at, sends}
use Rattle.line_rules.specs.Worlds.{World, Sending, start}
use Rattle.run_laws.specs.DatagramFates as fates
use Rattle.run_laws.specs.DatagramFates.{Fate}
use Rattle.run_laws.specs.OctetPlaces.{AtNode, InFlight, InPieces, Place, Up}

-- where an octet of a fate is; one that is over is nowhere
abbrev pub place_of : {n i : ℕ} {entries : List Entry} {w : World} → Fate n i entries w → Option Place
place_of (fates.HandedUp h) = Some Up
place_of (fates.Flies number f free) = Some (InFlight number)
place_of (fates.Lost number f lost) = Some (InFlight number)
place_of (fates.Waits node b) = Some (AtNode node)
place_of (fates.Gathered node p) = Some (InPieces node)
place_of (fates.Over event e) = None

-- two fates of an octet of a send that are not over are at one place
abbrev pub FatesAreAtOnePlace : List Entry → World → Type 0
FatesAreAtOnePlace entries w =
    (n : ℕ) (s : Sending) → send_at (sends entries) n ≡ Some s → (i : ℕ) → i < length s.datagram → (f g : Fate n i entries w) (a b : Place)
    → place_of f ≡ Some a → place_of g ≡ Some b → a ≡ b

-- So it is after each run of the network in which no event is forged, whatever power is lost.
abbrev pub EveryFateIsAtOnePlace : Type 0
EveryFateIsAtOnePlace = (entries : List Entry) → IsLineRun network entries → NoneForged entries → FatesAreAtOnePlace entries (last_world start entries)
