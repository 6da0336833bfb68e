-- After every history each neighbour is open or listed once at most.
use Rattle.std.proofs.Common.{◌≡◌, ◌≤◌, ◌==◌, ℕ, ◌+◌, Bool, true, false, List, [], ◌∷◌, ◌++◌, length, if◌then◌else◌, refl, sym, ap, subst, ◌∙◌, arith}
use Rattle.std.specs.Prelude.{not, ◌||◌, cond, map}
use Rattle.std.specs.List.{filter, list_any}
use Rattle.std.proofs.lemmas.Bool.{and_parts, eqb-true}
use Rattle.std.proofs.lemmas.List.{length-append}
use Rattle.std.proofs.lemmas.List.Elements.{filter-append}
use Rattle.neighbour_checks.specs.declared.tables.OpenCheck.{OpenCheck}
use Rattle.neighbour_checks.specs.declared.tables.ListedNeighbour.{ListedNeighbour}
use Rattle.neighbour_checks.specs.Neighbours.{Neighbours, is_of, waits_for, has_check, is_listed, has_room, may_begin, is_open_at, is_listed_at, check_of}
use Rattle.neighbour_checks.specs.Neighbours.{listed_from, newly_listed}
use Rattle.neighbour_checks.specs.History.{Entry, Reply, Acknowledgement, Tick, after_history}
use Rattle.neighbour_checks.specs.Laws.{entry_after, times_held, HeldOnce}
use Rattle.neighbour_checks.proofs.Histories.{nobody_at_the_start, one_more_entry}

-- # Counts

-- how many pass a test
abbrev count : {X : Type 0} → (X → Bool) → List X → ℕ
count test xs = length (filter test xs)

count_append : {X : Type 0} (test : X → Bool) (xs ys : List X) → count test (xs ++ ys) ≡ count test xs + count test ys
count_append test xs ys = ap length (filter-append test xs ys) ∙ length-append (filter test xs) (filter test ys)

count_both : {X : Type 0} (test keep : X → Bool) (xs : List X) → count test (filter keep xs) + count test (filter (λ x. not (keep x)) xs) ≡ count test xs
count_both test keep [] = refl
count_both {X = X} test keep (x ∷ xs) = by_tests (keep x) (test x) refl _ _ _ (count_both test keep xs)
  where
    by_tests : (k t : Bool) → test x ≡ t → (a b c : List X) → count test a + count test b ≡ length c
        → count test (cond k (x ∷ a) a) + count test (cond (not k) (x ∷ b) b) ≡ length (cond t (x ∷ c) c)
    by_tests true true is a b c same = rw is (omega (arith, same))
    by_tests true false is a b c same = rw is (omega (arith, same))
    by_tests false true is a b c same = rw is (omega (arith, same))
    by_tests false false is a b c same = rw is (omega (arith, same))

count_none : {X : Type 0} (test : X → Bool) (xs : List X) → list_any test xs ≡ false → count test xs ≡ 0
count_none test [] none = refl
count_none {X = X} test (x ∷ xs) none = by_test (test x) none (count_none test xs)
  where
    by_test : (b : Bool) → (b || list_any test xs) ≡ false → (list_any test xs ≡ false → count test xs ≡ 0)
        → length (cond b (x ∷ filter test xs) (filter test xs)) ≡ 0
    by_test true none others = absurd (cc)
    by_test false none others = others none

one_most : {X : Type 0} (test : X → Bool) (x : X) → count test (x ∷ []) ≤ 1
one_most {X = X} test x = by_test (test x)
  where
    by_test : (b : Bool) → length (cond b (x ∷ []) []) ≤ 1
    by_test true = omega arith
    by_test false = omega arith

no_one : {X : Type 0} (test : X → Bool) (x : X) → test x ≡ false → count test (x ∷ []) ≡ 0
no_one test x is = rw is refl

is_false : (b : Bool) → not b ≡ true → b ≡ false
is_false true is = absurd (cc)
is_false false is = refl

-- whether a listing is of a neighbour
abbrev lists : ℕ → ListedNeighbour → Bool
lists neighbour l = l.neighbour == neighbour

count_newly : (now neighbour : ℕ) (checks : List OpenCheck) → count (lists neighbour) (map (listed_from now) checks) ≡ count (is_of neighbour) checks
count_newly now neighbour [] = refl
count_newly now neighbour (c ∷ checks) = by_test (c.neighbour == neighbour) _ _ (count_newly now neighbour checks)
  where
    by_test : (b : Bool) (ls : List ListedNeighbour) (cs : List OpenCheck) → length ls ≡ length cs
        → length (cond b (listed_from now c ∷ ls) ls) ≡ length (cond b (c ∷ cs) cs)
    by_test true ls cs same = omega (arith, same)
    by_test false ls cs same = same

-- # Steps

-- a neighbour that a check may begin of is not held
not_held : (s : Neighbours) (neighbour : ℕ) → may_begin s neighbour ≡ true → times_held s neighbour ≡ 0
not_held s neighbour is =
    let a = and_parts (not (has_check s neighbour)) _ is in
    let b = and_parts (not (is_listed s neighbour)) (has_room s) a.1 in
    let checks = count_none (is_of neighbour) s.checks (is_false _ a.0) in
    let listed = count_none (λ (l : ListedNeighbour). l.neighbour == neighbour) s.listed (is_false _ b.0) in
    omega (arith, checks, listed)

held_begun : (s : Neighbours) (c : OpenCheck) → may_begin s c.neighbour ≡ true → ((p : ℕ) → times_held s p ≤ 1) → (p : ℕ)
    → times_held (record s { checks = s.checks ++ c ∷ [] }) p ≤ 1
held_begun s c is once p = by_test (c.neighbour == p) refl
  where
    more : count (is_of p) (s.checks ++ c ∷ []) ≡ count (is_of p) s.checks + count (is_of p) (c ∷ [])
    more = count_append (is_of p) s.checks (c ∷ [])

    by_test : (b : Bool) → (c.neighbour == p) ≡ b → times_held (record s { checks = s.checks ++ c ∷ [] }) p ≤ 1
    by_test true same =
        let none : times_held s p ≡ 0 = subst (λ (q : ℕ). times_held s q ≡ 0) (eqb-true _ _ same) (not_held s c.neighbour is) in
        omega (arith, more, none, one_most (is_of p) c)
    by_test false other = omega (arith, more, once p, no_one (is_of p) c other)

held_step : (s : Neighbours) (e : Entry) → ((p : ℕ) → times_held s p ≤ 1) → (p : ℕ) → times_held (entry_after s e) p ≤ 1
held_step s (Reply neighbour number origin time) once p = by_test (may_begin s neighbour) refl
  where
    by_test : (b : Bool) → may_begin s neighbour ≡ b
        → times_held (if b then record s { checks = s.checks ++ check_of neighbour number origin time ∷ [] } else s) p ≤ 1
    by_test true is = held_begun s (check_of neighbour number origin time) is once p
    by_test false is = once p
held_step s (Acknowledgement neighbour number origin) once p =
    omega (arith, once p, count_both (is_of p) (λ c. not (waits_for neighbour number origin c)) s.checks)
held_step s (Tick time) once p =
    omega (
      arith,
      once p,
      count_both (is_of p) (is_open_at time) s.checks,
      count_both (lists p) (is_listed_at time) s.listed,
      count_append (lists p) (filter (is_listed_at time) s.listed) (newly_listed time s.checks),
      count_newly time p (filter (λ c. not (is_open_at time c)) s.checks),
    )

pub held_once : HeldOnce
held_once [] p = subst (λ (s : Neighbours). times_held s p ≤ 1) (sym nobody_at_the_start) (omega arith)
held_once (entry ∷ history) p =
    subst (λ (s : Neighbours). times_held s p ≤ 1) (sym (one_more_entry history entry)) (held_step (after_history history) entry (held_once history) p)
