-- What taking a rank that is offered comes to, by what is tested.
use Rattle.std.proofs.Common.{◌≡◌, ℕ, ◌<◌, inl, inr, true, false, not, Some, None, Result, refl, arith}
use Rattle.std.specs.Prelude.{◌==◌, ◌||◌, nat_lt}
use Rattle.std.proofs.lemmas.Bool.{cases_lt}
use Rattle.std.proofs.lemmas.Bool.Decides.{nat_tests}
use Rattle.routing_set.specs.declared.rank.Rank.{Rank}
use Rattle.routing_set.specs.RoutingSet as routing
use Rattle.node_rules.specs.declared.heard.Heard.{Heard}
use Rattle.node_rules.specs.declared.refusal.Dropped.{Dropped}
use Rattle.node_rules.specs.declared.refusal.Dropped.TheVariants.{NotBetter, CostSpent, RoutesFull}
use Rattle.node_rules.specs.Memory.{StationMemory}
use Rattle.node_rules.specs.Plans.{Plan}
use Rattle.node_rules.specs.Drafts.{checked, refused}
use Rattle.node_rules.specs.HearingRules.{dropped, rank_fault}

-- # The fault

pub no_better : (l : StationMemory) (own origin : ℕ) (rank : Rank) (now : ℕ) → true ≡ ((origin == own) || not (routing.is_better l.routing origin rank))
    → rank_fault l own origin rank now ≡ Some NotBetter
unfolding rank_fault
no_better l own origin rank now e = rw (← e) refl

pub costs_more : (l : StationMemory) (own origin : ℕ) (rank : Rank) (now : ℕ) → false ≡ ((origin == own) || not (routing.is_better l.routing origin rank))
    → true ≡ nat_lt 65535 rank.cost → rank_fault l own origin rank now ≡ Some CostSpent
unfolding rank_fault
costs_more l own origin rank now b e = rw (← b, ← e) refl

pub no_place : (l : StationMemory) (own origin : ℕ) (rank : Rank) (now : ℕ) → false ≡ ((origin == own) || not (routing.is_better l.routing origin rank))
    → false ≡ nat_lt 65535 rank.cost → true ≡ routing.is_full l.routing origin now → rank_fault l own origin rank now ≡ Some RoutesFull
unfolding rank_fault
no_place l own origin rank now b k e = rw (← b, ← k, ← e) refl

pub no_fault : (l : StationMemory) (own origin : ℕ) (rank : Rank) (now : ℕ) → false ≡ ((origin == own) || not (routing.is_better l.routing origin rank))
    → false ≡ nat_lt 65535 rank.cost → false ≡ routing.is_full l.routing origin now → rank_fault l own origin rank now ≡ None
unfolding rank_fault
no_fault l own origin rank now b k e = rw (← b, ← k, ← e) refl

pub big : (n : ℕ) → (n < 65536 → ⊥) → true ≡ nat_lt 65535 n
big n h = elim (cases_lt n 65536) [ inl less ↦ absurd (h less) | inr more ↦ grind (arith, nat_tests) ]

pub small : (n : ℕ) → n < 65536 → false ≡ nat_lt 65535 n
small n h = grind (arith, nat_tests)

-- # What is done

-- what is done about a rank that is taken
abbrev pub taking : StationMemory → ℕ → ℕ → Rank → ℕ → Plan StationMemory (Result Heard Dropped) → Plan StationMemory (Result Heard Dropped)
taking l own origin rank now plan = checked dropped l (rank_fault l own origin rank now) plan

pub not_taken : (l : StationMemory) (own origin : ℕ) (rank : Rank) (now : ℕ) (p : Plan StationMemory (Result Heard Dropped)) (reason : Dropped)
    → rank_fault l own origin rank now ≡ Some reason → refused {H = Heard} dropped l reason ≡ taking l own origin rank now p
unfolding checked
not_taken l own origin rank now p reason e = rw e refl

pub taken : (l : StationMemory) (own origin : ℕ) (rank : Rank) (now : ℕ) (p : Plan StationMemory (Result Heard Dropped))
    → rank_fault l own origin rank now ≡ None → p ≡ taking l own origin rank now p
unfolding checked
taken l own origin rank now p e = rw e refl
