-- The order of ranks.
use Rattle.std.proofs.Common.{ℕ, ◌+◌, ◌≤◌, refl, inr, arith}
use Rattle.routing_set.specs.declared.rank.Rank.{Rank}
use Rattle.routing_set.specs.Ranks.{Beats, IsAtLeast}

pub at_least_trans : (r s t : Rank) → IsAtLeast r s → IsAtLeast s t → IsAtLeast r t
at_least_trans r s t h k = grind arith

pub beats_at_least : (r s t : Rank) → IsAtLeast r s → Beats s t → Beats r t
beats_at_least r s t h k = grind arith

pub beats_trans : (r s t : Rank) → Beats r s → Beats s t → Beats r t
beats_trans r s t h k = grind arith

pub beats_not_itself : (r : Rank) → ¬ (Beats r r)
beats_not_itself r h = grind arith

-- each link costs at least 1
pub beats_farther : (number cost link : ℕ) → 1 ≤ link → Beats (record { number = number; cost = cost }) (record { number = number; cost = cost + link })
beats_farther number cost link h = inr (refl, omega arith)
