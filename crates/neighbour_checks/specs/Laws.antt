-- What holds of every history, and of every acknowledgement.
use Rattle.std.specs.Prelude.{◌≡◌, ◌≤◌, ◌==◌, ℕ, ◌+◌, List, [], ◌∷◌, length, Some}
use Rattle.std.specs.List.{filter}
use Rattle.plc_base.specs.Fields.{AreOctets}
use Rattle.neighbour_checks.specs.Acks.{SpellsAck, ack_in}
use Rattle.neighbour_checks.specs.declared.tables.ListedNeighbour.{ListedNeighbour}
use Rattle.neighbour_checks.specs.Neighbours.{Neighbours, nobody, is_of, sent_after, acked_after, tick_after}
use Rattle.neighbour_checks.specs.History.{Entry, History, after_history, Reply, Acknowledgement, Tick}

-- the number and the origin that octets spell are read out of them
abbrev pub AcksAreRead : Type 0
AcksAreRead =
    (number origin : ℕ) (octets : List ℕ) → SpellsAck number origin octets → ack_in octets ≡ Some (number, origin)

-- the number and the origin that are read out of octets are those that they spell
abbrev pub ReadAcksAreSpelled : Type 0
ReadAcksAreSpelled =
    (number origin : ℕ) (octets : List ℕ) → AreOctets octets → ack_in octets ≡ Some (number, origin)
    → SpellsAck number origin octets

-- one more entry
abbrev pub entry_after : Neighbours → Entry → Neighbours
entry_after s (Reply neighbour number origin time) = sent_after s neighbour number origin time
entry_after s (Acknowledgement neighbour number origin) = acked_after s neighbour number origin
entry_after s (Tick time) = tick_after s time

-- What is open and listed after one more entry follows from what was open and listed before it.
abbrev pub OneMoreEntry : Type 0
OneMoreEntry =
    (history : History) (entry : Entry) → after_history (entry ∷ history) ≡ entry_after (after_history history) entry

-- nothing is open or listed at the start
abbrev pub NobodyAtTheStart : Type 0
NobodyAtTheStart = after_history [] ≡ nobody

-- at most 64 neighbours are open or listed
abbrev pub AtMost64 : Type 0
AtMost64 = (history : History) → length (after_history history).checks + length (after_history history).listed ≤ 64

-- how often a neighbour is open or listed
abbrev pub times_held : Neighbours → ℕ → ℕ
times_held s neighbour =
    length (filter (is_of neighbour) s.checks)
    + length (filter (λ (l : ListedNeighbour). l.neighbour == neighbour) s.listed)

-- no neighbour has two open checks, is listed twice, or is open and listed
abbrev pub HeldOnce : Type 0
HeldOnce = (history : History) (neighbour : ℕ) → times_held (after_history history) neighbour ≤ 1
