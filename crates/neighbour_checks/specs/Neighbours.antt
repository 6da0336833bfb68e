-- The neighbours of a node that have an open check or are listed, and how one more reply, acknowledgement or tick changes them.
use Rattle.std.specs.Prelude.{ℕ, ◌+◌, Bool, List, [], ◌∷◌, ◌++◌, length, map, not, nat_lt, ◌==◌, ◌&&◌, if◌then◌else◌}
use Rattle.std.specs.List.{filter, list_any}
use Rattle.plc_base.specs.Times.{is_within}
use Rattle.neighbour_checks.specs.declared.tables.OpenCheck.{OpenCheck}
use Rattle.neighbour_checks.specs.declared.tables.ListedNeighbour.{ListedNeighbour}
use Rattle.neighbour_checks.specs.declared.tables.TheConstants.{CHECK_TIME, LISTED_TIME}

-- Open checks in the order in which they began, and listed neighbours in the order in which they were listed.
pub record Neighbours : Type 0 where
  pub checks : List OpenCheck
  pub listed : List ListedNeighbour

abbrev pub nobody : Neighbours
nobody = record { checks = []; listed = [] }

-- whether an open check is of a neighbour
abbrev pub is_of : (neighbour : ℕ) → OpenCheck → Bool
is_of neighbour c = c.neighbour == neighbour

-- whether an acknowledgement of this neighbour, number and origin is what a check waits for
abbrev pub waits_for : (neighbour number origin : ℕ) → OpenCheck → Bool
waits_for neighbour number origin c = c.neighbour == neighbour && (c.number == number && c.origin == origin)

-- whether a check is still open at this time: its time has not passed since the reply
abbrev pub is_open_at : (now : ℕ) → OpenCheck → Bool
is_open_at now c = is_within CHECK_TIME now c.since

-- whether a neighbour is still listed at this time: the time of a listing has not passed since it was listed
abbrev pub is_listed_at : (now : ℕ) → ListedNeighbour → Bool
is_listed_at now l = is_within LISTED_TIME now l.since

-- whether a neighbour has an open check
abbrev pub has_check : Neighbours → ℕ → Bool
has_check s neighbour = list_any (is_of neighbour) s.checks

-- whether a neighbour is listed
abbrev pub is_listed : Neighbours → ℕ → Bool
is_listed s neighbour = list_any (λ (l : ListedNeighbour). l.neighbour == neighbour) s.listed

-- whether an open check has this neighbour, number and origin
abbrev pub is_awaited : Neighbours → (neighbour number origin : ℕ) → Bool
is_awaited s neighbour number origin = list_any (waits_for neighbour number origin) s.checks

-- whether fewer than 64 neighbours are open or listed
abbrev pub has_room : Neighbours → Bool
has_room s = nat_lt (length s.checks + length s.listed) 64

-- whether a reply to a neighbour begins a check
abbrev pub may_begin : Neighbours → ℕ → Bool
may_begin s neighbour = not (has_check s neighbour) && (not (is_listed s neighbour) && has_room s)

-- the check that a reply begins
abbrev pub check_of : (neighbour number origin now : ℕ) → OpenCheck
check_of neighbour number origin now =
    record { neighbour = neighbour; number = number; origin = origin; since = now }

-- the neighbour of a check that a tick ends
abbrev pub listed_from : (now : ℕ) → OpenCheck → ListedNeighbour
listed_from now c = record { neighbour = c.neighbour; since = now }

-- the neighbours whose checks end at this time
abbrev pub newly_listed : (now : ℕ) → List OpenCheck → List ListedNeighbour
newly_listed now checks = map (listed_from now) (filter (λ c. not (is_open_at now c)) checks)

-- after a reply to a neighbour
abbrev pub sent_after : Neighbours → (neighbour number origin now : ℕ) → Neighbours
sent_after s neighbour number origin now =
    if may_begin s neighbour then record s { checks = s.checks ++ check_of neighbour number origin now ∷ [] } else s

-- after an acknowledgement by a neighbour
abbrev pub acked_after : Neighbours → (neighbour number origin : ℕ) → Neighbours
acked_after s neighbour number origin =
    record s { checks = filter (λ c. not (waits_for neighbour number origin c)) s.checks }

-- after a tick: what was listed for the time of a listing is let go, and then the checks that ended are listed
abbrev pub tick_after : Neighbours → (now : ℕ) → Neighbours
tick_after s now =
    record {
      checks = filter (is_open_at now) s.checks;
      listed = filter (is_listed_at now) s.listed ++ newly_listed now s.checks;
    }
