-- The place of one more agent in a table of 16.
use Rattle.std.proofs.Common.{◌≡◌, ◌<◌, ◌≤◌, ℕ, zero, suc, ◌+◌, Bool, true, false, cond, List, [], ◌∷◌, length, take, Some, None, refl, sym, ap, ◌∙◌, take_all}
use Rattle.std.proofs.Common.{arith}
use Rattle.std.specs.Prelude.{not, nat_lt, insert, position}
use Rattle.std.specs.List.{list_any, position_or_len}
use Rattle.std.proofs.lemmas.Bool.{ltb-false}
use Rattle.std.proofs.lemmas.Option.{same_Some}
use Rattle.plc_base.specs.Orders.{placed_by}
use Rattle.pan_discovery.specs.declared.agents.Agent.{Agent}
use Rattle.pan_discovery.specs.Agents.{rank, without, agents_of, is_known_by}
use Rattle.pan_discovery.specs.Laws.{FirstAgentsSuffice}
use Rattle.pan_discovery.proofs.Orders.{one_more_agent, agents_sorted, agents_distinct, sorted_take, added_first, added_is, take_first}

-- how many come before an agent
abbrev pub place : Agent → List Agent → ℕ
place h xs = position_or_len (λ (a : Agent). nat_lt (rank h) (rank a)) xs

placed_within : (h : Agent) (n : ℕ) (xs : List Agent) → place h xs ≤ n → take (suc n) (placed_by rank h xs) ≡ insert (take n xs) (place h xs) h
placed_within h n [] le = refl
placed_within h n (x ∷ xs) le = by_test (λ m le. placed_within h m xs le) (nat_lt (rank h) (rank x)) n refl le
  where
    by_test : ((m : ℕ) → place h xs ≤ m → take (suc m) (placed_by rank h xs) ≡ insert (take m xs) (place h xs) h) → (b : Bool) (n : ℕ)
        → nat_lt (rank h) (rank x) ≡ b → cond (not b) (1 + place h xs) 0 ≤ n
        → take (suc n) (cond b (h ∷ (x ∷ xs)) (x ∷ placed_by rank h xs)) ≡ insert (take n (x ∷ xs)) (cond (not b) (1 + place h xs) 0) h
    by_test more true n e le = refl
    by_test more false zero e le = absurd (omega (arith, le))
    by_test more false (suc m) e le =
        let one : 1 + place h xs ≡ suc (place h xs) = omega arith in
        rw one (ap (λ (ys : List Agent). x ∷ ys) (more m (omega (arith, le))))

placed_past : (h : Agent) (n : ℕ) (xs : List Agent) → n ≤ place h xs → take n (placed_by rank h xs) ≡ take n xs
placed_past h zero xs le = refl
placed_past h (suc n) [] le = absurd (omega (arith, le))
placed_past h (suc n) (x ∷ xs) le = by_test (λ le. placed_past h n xs le) (nat_lt (rank h) (rank x)) le
  where
    by_test : (n ≤ place h xs → take n (placed_by rank h xs) ≡ take n xs) → (b : Bool) → suc n ≤ cond (not b) (1 + place h xs) 0
        → take (suc n) (cond b (h ∷ (x ∷ xs)) (x ∷ placed_by rank h xs)) ≡ take (suc n) (x ∷ xs)
    by_test more true le = absurd (omega (arith, le))
    by_test more false le = ap (λ (ys : List Agent). x ∷ ys) (more (omega (arith, le)))

-- one that comes after 16
pub placed_out : (h : Agent) (xs : List Agent) → length xs ≤ 16 → 16 ≤ place h xs → xs ≡ take 16 (placed_by rank h xs)
placed_out h xs few past = sym (placed_past h 16 xs past ∙ take_all 16 xs few)

pub placed_in : (h : Agent) (xs : List Agent) → place h xs < 16 → insert (take 15 xs) (place h xs) h ≡ take 16 (placed_by rank h xs)
placed_in h xs within = sym (placed_within h 15 xs (omega (arith, within)))

place_low : (h : Agent) (xs : List Agent) → place h xs ≤ length xs
place_low h [] = omega arith
place_low h (x ∷ xs) = by_test (place_low h xs) (nat_lt (rank h) (rank x))
  where
    by_test : (place h xs ≤ length xs) → (b : Bool) → cond (not b) (1 + place h xs) 0 ≤ suc (length xs)
    by_test more true = omega arith
    by_test more false = omega (arith, more)

-- where `position` answers a place, and where it answers none
pub place_some : (h : Agent) (xs : List Agent) (i : ℕ) → position (λ (a : Agent). nat_lt (rank h) (rank a)) xs ≡ Some i → (i ≡ place h xs) × (i ≤ length xs)
place_some h xs i e = by_test (nat_lt (place h xs) (length xs)) e
  where
    by_test : (b : Bool) → (cond b (Some (place h xs)) None) ≡ Some i → (i ≡ place h xs) × (i ≤ length xs)
    by_test true e = let same : i ≡ place h xs = sym (same_Some _ _ e) in (same, omega (arith, same, place_low h xs))
    by_test false e = absurd (cc)

pub place_none : (h : Agent) (xs : List Agent) → position (λ (a : Agent). nat_lt (rank h) (rank a)) xs ≡ None → length xs ≡ place h xs
place_none h xs e = by_test (nat_lt (place h xs) (length xs)) refl e
  where
    by_test : (b : Bool) → nat_lt (place h xs) (length xs) ≡ b → (cond b (Some (place h xs)) None) ≡ None → length xs ≡ place h xs
    by_test true is e = absurd (cc)
    by_test false is e = let high : length xs ≤ place h xs = ltb-false _ _ is in omega (arith, high, place_low h xs)

-- # The law

take_few : (k : ℕ) (b : Bool) (xs ys : List Agent) → take k (cond b (take k xs) ys) ≡ cond b (take k xs) (take k ys)
take_few k true xs ys = take_first k xs
take_few k false xs ys = refl

pub first_agents : FirstAgentsSuffice
first_agents h heard =
    let agents : List Agent = agents_of heard in
    ap (take 16) (one_more_agent h heard)
    ∙ added_first h 16 agents (agents_distinct heard)
    ∙ ap (take 16) (added_is h (take 16 agents) (sorted_take 16 agents (agents_sorted heard)))
    ∙ take_few 16 (list_any (is_known_by h) (take 16 agents)) agents (placed_by rank h (without h.address (take 16 agents)))
