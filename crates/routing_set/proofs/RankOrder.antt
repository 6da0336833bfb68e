-- The order of ranks.
use Rattle.std.proofs.Common.{◌≡◌, ℕ, ◌≤◌, true, arith}
use Rattle.std.proofs.lemmas.Bool.Decides.{nat_tests}
use Rattle.routing_set.specs.declared.rank.Rank.{Rank}
use Rattle.routing_set.specs.Ranks.{Beats, beats, IsAtLeast}

pub at_least_trans : (r s t : Rank) → IsAtLeast r s → IsAtLeast s t → IsAtLeast r t
at_least_trans r s t h k = grind arith

pub beats-true : (r s : Rank) → beats r s ≡ true → Beats r s
beats-true r s h = grind (arith, nat_tests)

-- a floor as high as a rank's number stands above the rank
pub floor_at_least : (floor : ℕ) (r : Rank) → r.number ≤ floor → IsAtLeast (record { number = floor; cost = 0 }) r
floor_at_least floor r h = grind arith
