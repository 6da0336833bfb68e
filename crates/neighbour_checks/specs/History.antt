-- What is open and listed after a history, as a property of the whole history.
use Rattle.std.specs.Prelude.{◌≡◌, ℕ, Bool, false, List, [], ◌∷◌, ◌++◌, not, if◌then◌else◌}
use Rattle.std.specs.List.{filter, list_any}
use Rattle.neighbour_checks.specs.declared.tables.OpenCheck.{OpenCheck}
use Rattle.neighbour_checks.specs.declared.tables.ListedNeighbour.{ListedNeighbour}
use Rattle.neighbour_checks.specs.Neighbours.{Neighbours, nobody, waits_for, is_open_at, is_listed_at, may_begin, check_of, newly_listed}

-- What a node did and heard since it started: a reply that it sent to a neighbour, with its number, the node that gave the
-- number, and the time; an acknowledgement that it heard of a neighbour; a tick of its clock.
pub data Entry : Type 0 where
  Reply : (neighbour number origin time : ℕ) → Entry
  Acknowledgement : (neighbour number origin : ℕ) → Entry
  Tick : (time : ℕ) → Entry

-- the latest entry first
abbrev pub History : Type 0
History = List Entry

-- whether an entry ends a check that is open
abbrev pub ends : OpenCheck → Entry → Bool
ends c (Reply neighbour number origin time) = false
ends c (Acknowledgement neighbour number origin) = waits_for neighbour number origin c
ends c (Tick time) = not (is_open_at time c)

-- whether an entry lets a neighbour go that is listed
abbrev pub lets_go : ListedNeighbour → Entry → Bool
lets_go l (Reply neighbour number origin time) = false
lets_go l (Acknowledgement neighbour number origin) = false
lets_go l (Tick time) = not (is_listed_at time l)

-- What an entry begins, with what was open and listed before it: a reply a check, where the neighbour has none, is not listed
-- and fewer than 64 are open or listed; a tick the listing of each neighbour whose check it ends.
abbrev pub begun_by : Entry → Neighbours → Neighbours
begun_by (Reply neighbour number origin time) before =
    if may_begin before neighbour then record { checks = check_of neighbour number origin time ∷ []; listed = [] }
    else nobody
begun_by (Acknowledgement neighbour number origin) before = nobody
begun_by (Tick time) before = record { checks = []; listed = newly_listed time before.checks }

-- what is still open and listed after later entries: what none of them ended or let go
abbrev pub still : (later : List Entry) → Neighbours → Neighbours
still later s =
    record {
      checks = filter (λ c. not (list_any (ends c) later)) s.checks;
      listed = filter (λ l. not (list_any (lets_go l) later)) s.listed;
    }

abbrev pub together : Neighbours → Neighbours → Neighbours
together a b = record { checks = a.checks ++ b.checks; listed = a.listed ++ b.listed }

-- Of what began in a past, what is open and listed after later entries, the first of them first. Each entry of the past began
-- something by what was open and listed just before it.
abbrev pub open_or_listed : (past : History) (later : List Entry) → Neighbours
open_or_listed [] later = nobody
open_or_listed (entry ∷ past) later =
    together (open_or_listed past (entry ∷ later)) (still later (begun_by entry (open_or_listed past [])))

-- what is open and listed after a history
unfoldable pub after_history : History → Neighbours
after_history history = open_or_listed history []

-- a state that one history leads to is led on to another by one more entry
abbrev pub LeadsOn : (old : Neighbours) (entry : Entry) (new : Neighbours) → Type 0
LeadsOn old entry new = (history : History) → old ≡ after_history history → new ≡ after_history (entry ∷ history)
