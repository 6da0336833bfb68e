-- Ranks, and which of two is the better one.
use Rattle.std.specs.Prelude.{◌≡◌, ◌⊎◌, ℕ, ◌<◌, Bool, ◌&&◌, ◌||◌, ◌==◌, nat_lt, refl}
use Rattle.std.specs.Coded.{Coded, code_by, coded×, coded_ℕ}
use Rattle.routing_set.specs.declared.rank.Rank.{Rank}

-- a rank is kept as the pair of its fields
abbrev pub rank_code : Coded Rank
rank_code =
    code_by (ℕ × ℕ) (coded× coded_ℕ coded_ℕ)
    (λ r. (r.number, r.cost)) (λ p. record { number = p.0; cost = p.1 }) (λ _. refl)

-- The number is greater, or the numbers are equal and the cost is lower.
abbrev pub Beats : Rank → Rank → Type 0
Beats r s = (s.number < r.number) ⊎ ((r.number ≡ s.number) × (r.cost < s.cost))

-- the same as a test
abbrev pub beats : Rank → Rank → Bool
beats r s = nat_lt s.number r.number || (r.number == s.number && nat_lt r.cost s.cost)

-- It is the other rank or beats it.
abbrev pub IsAtLeast : Rank → Rank → Type 0
IsAtLeast r s = (r ≡ s) ⊎ Beats r s

-- the rank of a number and a cost
abbrev pub rank_by : ℕ → ℕ → Rank
rank_by number cost = record { number = number; cost = cost }
