-- Worked histories, computed. A node with the address 2 answers a request that its neighbour 1 passed on.
use Rattle.std.proofs.Common.{◌≡◌, ℕ, [], ◌∷◌, refl}
use Rattle.neighbour_checks.specs.Neighbours.{Neighbours, nobody, check_of}
use Rattle.neighbour_checks.specs.History.{Reply, Acknowledgement, Tick, after_history}

open_since : (time : ℕ) → Neighbours
open_since time = record { checks = check_of 1 2 2 time ∷ []; listed = [] }

listed_since : (time : ℕ) → Neighbours
listed_since time = record { checks = []; listed = record { neighbour = 1; since = time } ∷ [] }

-- open for the time of a check
still_open : after_history (Tick 8 ∷ Reply 1 2 2 7 ∷ []) ≡ open_since 7
unfolding after_history open_since
still_open = refl

ended : after_history (Tick 9 ∷ Reply 1 2 2 7 ∷ []) ≡ listed_since 9
unfolding after_history listed_since
ended = refl

acknowledged : after_history (Tick 9 ∷ Acknowledgement 1 2 2 ∷ Reply 1 2 2 7 ∷ []) ≡ nobody
unfolding after_history
acknowledged = refl

-- another number, another origin and another neighbour end nothing, and a second reply begins nothing
not_acknowledged : after_history (Acknowledgement 3 2 2 ∷ Acknowledgement 1 2 3 ∷ Acknowledgement 1 3 2 ∷ Reply 1 3 2 8 ∷ Reply 1 2 2 7 ∷ []) ≡ open_since 7
unfolding after_history open_since
not_acknowledged = refl

-- listed for the time of a listing, from the tick on that ended the check
still_listed : after_history (Tick 308 ∷ Reply 1 3 2 20 ∷ Tick 9 ∷ Reply 1 2 2 7 ∷ []) ≡ listed_since 9
unfolding after_history listed_since
still_listed = refl

let_go : after_history (Tick 309 ∷ Tick 9 ∷ Reply 1 2 2 7 ∷ []) ≡ nobody
unfolding after_history
let_go = refl

-- what a tick lets go may be checked again, and what it lists may not
checked_again : after_history (Reply 1 2 2 309 ∷ Tick 309 ∷ Tick 9 ∷ Reply 1 5 2 7 ∷ []) ≡ open_since 309
unfolding after_history open_since
checked_again = refl
