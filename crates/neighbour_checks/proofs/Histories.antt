-- What is open and listed after one more entry of a history.
use Rattle.std.proofs.Common.{◌≡◌, ◌<◌, ◌≤◌, ℕ, ◌+◌, Bool, true, false, List, [], ◌∷◌, ◌++◌, length, take, drop, get_or, if◌then◌else◌, refl, sym, ap, subst}
use Rattle.std.proofs.Common.{◌∙◌, append-nil, take-append-drop, arith}
use Rattle.std.specs.Prelude.{not, ◌||◌, cond}
use Rattle.std.specs.List.{filter, list_any}
use Rattle.std.proofs.lemmas.Bool.{ltb-true, and_parts}
use Rattle.std.proofs.lemmas.List.{length-append, length-map, drop_more}
use Rattle.std.proofs.lemmas.List.Elements.{filter-append, filter_agree}
use Rattle.std.proofs.lemmas.List.Filters.{length-filter_both}
use Rattle.std.proofs.lemmas.List.Folds.{list_any-append}
use Rattle.neighbour_checks.specs.declared.tables.OpenCheck.{OpenCheck}
use Rattle.neighbour_checks.specs.declared.tables.ListedNeighbour.{ListedNeighbour}
use Rattle.neighbour_checks.specs.Neighbours.{Neighbours, nobody, waits_for, has_check, is_listed, may_begin, is_open_at, is_listed_at, check_of, listed_from}
use Rattle.neighbour_checks.specs.Neighbours.{newly_listed, is_awaited, acked_after}
use Rattle.neighbour_checks.specs.History.{Entry, History, Reply, Acknowledgement, Tick, ends, lets_go, begun_by, still, together, open_or_listed}
use Rattle.neighbour_checks.specs.History.{after_history, LeadsOn}
use Rattle.neighbour_checks.specs.Laws.{entry_after, OneMoreEntry, NobodyAtTheStart, AtMost64}

filter_all : {X : Type 0} (test : X → Bool) → ((x : X) → test x ≡ true) → (xs : List X) → filter test xs ≡ xs
filter_all test all [] = refl
filter_all test all (x ∷ xs) = rw (all x) (ap (λ ys. x ∷ ys) (filter_all test all xs))

-- what no entry of a list ends
module _ {X : Type 0} (test : X → Entry → Bool) where
  kept_more : (later : List Entry) (e : Entry) (xs : List X)
      → filter (λ x. not (list_any (test x) (later ++ e ∷ []))) xs
      ≡ filter (λ x. not (list_any (test x) (e ∷ []))) (filter (λ x. not (list_any (test x) later)) xs)
  kept_more later e [] = refl
  kept_more later e (x ∷ xs) =
      rw (list_any-append (test x) later (e ∷ [])) (by_tests (list_any (test x) later) (list_any (test x) (e ∷ [])) refl _ _ (kept_more later e xs))
    where
      by_tests : (a b : Bool) → list_any (test x) (e ∷ []) ≡ b → (f g : List X) → f ≡ filter (λ x. not (list_any (test x) (e ∷ []))) g
          → cond (not (a || b)) (x ∷ f) f ≡ filter (λ x. not (list_any (test x) (e ∷ []))) (cond (not a) (x ∷ g) g)
      by_tests true b is f g same = same
      by_tests false true is f g same = rw is same
      by_tests false false is f g same = rw is (ap (λ ys. x ∷ ys) same)

neighbours_are : {a b : List OpenCheck} {x y : List ListedNeighbour} → a ≡ b → x ≡ y
    → let s : Neighbours = record { checks = a; listed = x } in s ≡ record { checks = b; listed = y }
neighbours_are e f = λ i. record { checks = e i; listed = f i }

still_more : (later : List Entry) (e : Entry) (s : Neighbours) → still (later ++ e ∷ []) s ≡ still (e ∷ []) (still later s)
still_more later e s = neighbours_are (kept_more ends later e s.checks) (kept_more lets_go later e s.listed)

still_together : (later : List Entry) (a b : Neighbours) → still later (together a b) ≡ together (still later a) (still later b)
still_together later a b = neighbours_are (filter-append _ a.checks b.checks) (filter-append _ a.listed b.listed)

-- What is open and listed after later entries and one more is what the one leaves of what is open and listed after the others.
past_more : (past : History) (later : List Entry) (e : Entry) → open_or_listed past (later ++ e ∷ []) ≡ still (e ∷ []) (open_or_listed past later)
past_more [] later e = refl
past_more (x ∷ past) later e =
    let begun : Neighbours = begun_by x (open_or_listed past []) in
    ap (λ (s : Neighbours). together s (still (later ++ e ∷ []) begun)) (past_more past (x ∷ later) e)
    ∙ ap (λ (s : Neighbours). together (still (e ∷ []) (open_or_listed past (x ∷ later))) s) (still_more later e begun)
    ∙ sym (still_together (e ∷ []) (open_or_listed past (x ∷ later)) (still later begun))

still_all : (s : Neighbours) → still [] s ≡ s
still_all s = neighbours_are (filter_all _ (λ _. refl) s.checks) (filter_all _ (λ _. refl) s.listed)

not_or : (b : Bool) → not (b || false) ≡ not b
not_or true = refl
not_or false = refl

not_not_or : (b : Bool) → not (not b || false) ≡ b
not_not_or true = refl
not_not_or false = refl

-- what one entry leaves, and what it begins
entry_step : (s : Neighbours) (e : Entry) → together (still (e ∷ []) s) (begun_by e s) ≡ entry_after s e
entry_step s (Reply neighbour number origin time) = by_test (may_begin s neighbour)
  where
    checks_stay : filter (λ c. not (list_any (ends c) (Reply neighbour number origin time ∷ []))) s.checks ≡ s.checks
    checks_stay = filter_all _ (λ _. refl) s.checks

    listed_stay : filter (λ l. not (list_any (lets_go l) (Reply neighbour number origin time ∷ []))) s.listed ≡ s.listed
    listed_stay = filter_all _ (λ _. refl) s.listed

    by_test : (b : Bool)
        → together (still (Reply neighbour number origin time ∷ []) s)
        (if b then record { checks = check_of neighbour number origin time ∷ []; listed = [] } else nobody)
        ≡ (if b then record s { checks = s.checks ++ check_of neighbour number origin time ∷ [] } else s)
    by_test true = neighbours_are (ap (λ (cs : List OpenCheck). cs ++ check_of neighbour number origin time ∷ []) checks_stay) (append-nil _ ∙ listed_stay)
    by_test false = neighbours_are (append-nil _ ∙ checks_stay) (append-nil _ ∙ listed_stay)
entry_step s (Acknowledgement neighbour number origin) =
    neighbours_are (append-nil _ ∙ filter_agree _ _ (λ c. not_or (waits_for neighbour number origin c)) s.checks)
    (append-nil _ ∙ filter_all _ (λ _. refl) s.listed)
entry_step s (Tick time) =
    neighbours_are (append-nil _ ∙ filter_agree _ _ (λ c. not_not_or (is_open_at time c)) s.checks)
    (ap (λ (ls : List ListedNeighbour). ls ++ newly_listed time s.checks) (filter_agree _ _ (λ l. not_not_or (is_listed_at time l)) s.listed))

pub one_more_entry : OneMoreEntry
unfolding after_history
one_more_entry history entry =
    let s : Neighbours = open_or_listed history [] in
    ap (λ (a : Neighbours). together a (still [] (begun_by entry s))) (past_more history [] entry)
    ∙ ap (λ (b : Neighbours). together (still (entry ∷ []) s) b) (still_all (begun_by entry s))
    ∙ entry_step s entry

pub nobody_at_the_start : NobodyAtTheStart
unfolding after_history
nobody_at_the_start = refl

-- a call that does as the entry says leads on
pub leads_on : (old new : Neighbours) (entry : Entry) → new ≡ entry_after old entry → LeadsOn old entry new
leads_on old new entry is history so_far = is ∙ ap (λ (s : Neighbours). entry_after s entry) so_far ∙ sym (one_more_entry history entry)

-- how many neighbours a tick leaves
pub length-newly : (now : ℕ) (checks : List OpenCheck) → length (filter (is_open_at now) checks) + length (newly_listed now checks) ≡ length checks
length-newly now checks =
    omega (
      arith,
      length-map (filter (λ c. not (is_open_at now c)) checks) (listed_from now),
      length-filter_both (is_open_at now) (λ c. not (is_open_at now c)) (λ _. refl) checks,
    )

length-newly_filtered : (now : ℕ) (checks : List OpenCheck) → length (newly_listed now checks) ≡ length (filter (λ c. not (is_open_at now c)) checks)
length-newly_filtered now checks = length-map (filter (λ c. not (is_open_at now c)) checks) (listed_from now)

length-newly_append : (now : ℕ) (a b : List OpenCheck) → length (newly_listed now (a ++ b)) ≡ length (newly_listed now a) + length (newly_listed now b)
length-newly_append now a b =
    length-newly_filtered now (a ++ b) ∙ ap length (filter-append (λ c. not (is_open_at now c)) a b)
    ∙ length-append (filter (λ c. not (is_open_at now c)) a) (filter (λ c. not (is_open_at now c)) b)
    ∙ (λ i. sym (length-newly_filtered now a) i + sym (length-newly_filtered now b) i)

-- One check has room after those before it, where all have.
pub newly_within : (now : ℕ) (checks : List OpenCheck) (i : ℕ) (x : OpenCheck) → i < length checks → x ≡ get_or checks i x
    → length (newly_listed now (take i checks)) + length (newly_listed now (x ∷ [])) ≤ length (newly_listed now checks)
newly_within now checks i x within is =
    let rest : List OpenCheck = drop (i + 1) checks in
    let parts : checks ≡ take i checks ++ (x ∷ rest) =
    sym (take-append-drop i checks)
    ∙ ap (λ (cs : List OpenCheck). take i checks ++ cs) (drop_more checks i x within ∙ ap (λ (c : OpenCheck). c ∷ rest) (sym is)) in
    let whole : length (newly_listed now checks) ≡ length (newly_listed now (take i checks)) + length (newly_listed now (x ∷ rest)) =
    ap (λ (cs : List OpenCheck). length (newly_listed now cs)) parts ∙ length-newly_append now (take i checks) (x ∷ rest) in
    let first : length (newly_listed now (x ∷ rest))
    ≡ length (newly_listed now (x ∷ [])) + length (newly_listed now rest) = length-newly_append now (x ∷ []) rest in
    omega (arith, whole, first)

pub length-kept : {X : Type 0} (test : X → Bool) (xs : List X) → length (filter test xs) ≤ length xs
length-kept test xs = omega (arith, length-filter_both test (λ x. not (test x)) (λ _. refl) xs)

-- how many are listed at a tick
pub tick_room : (checks : List OpenCheck) (listed : List ListedNeighbour) (now : ℕ) → length checks + length listed ≤ 64
    → length (filter (is_listed_at now) listed) + length (newly_listed now checks) ≤ 64
tick_room checks listed now fits = omega (arith, length-newly now checks, length-kept (is_listed_at now) listed)

pub tick_fits : (checks : List OpenCheck) (listed : List ListedNeighbour) (now : ℕ) → length checks + length listed ≤ 64
    → length (filter (is_open_at now) checks) + length (filter (is_listed_at now) listed ++ newly_listed now checks) ≤ 64
tick_fits checks listed now fits =
    omega (arith, length-newly now checks, length-kept (is_listed_at now) listed, length-append (filter (is_listed_at now) listed) (newly_listed now checks))

-- an acknowledgement that no check waits for ends none
filter_none : {X : Type 0} (test : X → Bool) (xs : List X) → list_any test xs ≡ false → filter (λ x. not (test x)) xs ≡ xs
filter_none test [] none = refl
filter_none test (x ∷ xs) none = by_test (test x) none (filter_none test xs)
  where
    by_test : (b : Bool) → (b || list_any test xs) ≡ false → (list_any test xs ≡ false → filter (λ y. not (test y)) xs ≡ xs)
        → cond (not b) (x ∷ filter (λ y. not (test y)) xs) (filter (λ y. not (test y)) xs) ≡ x ∷ xs
    by_test true none others = absurd (cc)
    by_test false none others = ap (λ ys. x ∷ ys) (others none)

pub not_awaited : (s : Neighbours) (neighbour number origin : ℕ) → is_awaited s neighbour number origin ≡ false → s ≡ acked_after s neighbour number origin
not_awaited s neighbour number origin none = neighbours_are (sym (filter_none (waits_for neighbour number origin) s.checks none)) refl

room_of : (s : Neighbours) (neighbour : ℕ) → may_begin s neighbour ≡ true → length s.checks + length s.listed < 64
room_of s neighbour is =
    let rest = (and_parts (not (has_check s neighbour)) _ is).1 in
    ltb-true _ _ (and_parts (not (is_listed s neighbour)) _ rest).1

entry_fits : (s : Neighbours) (e : Entry) → length s.checks + length s.listed ≤ 64 → length (entry_after s e).checks + length (entry_after s e).listed ≤ 64
entry_fits s (Reply neighbour number origin time) fits = by_test (may_begin s neighbour) refl
  where
    by_test : (b : Bool) → may_begin s neighbour ≡ b
        → length (let t : Neighbours = if b then record s { checks = s.checks ++ check_of neighbour number origin time ∷ [] } else s in t).checks
        + length (let t : Neighbours = if b then record s { checks = s.checks ++ check_of neighbour number origin time ∷ [] } else s in t).listed ≤ 64
    by_test true is = omega (arith, room_of s neighbour is, length-append s.checks (check_of neighbour number origin time ∷ []))
    by_test false is = fits
entry_fits s (Acknowledgement neighbour number origin) fits = omega (arith, length-kept (λ c. not (waits_for neighbour number origin c)) s.checks)
entry_fits s (Tick time) fits = tick_fits s.checks s.listed time fits

pub at_most_64 : AtMost64
at_most_64 [] = subst (λ (s : Neighbours). length s.checks + length s.listed ≤ 64) (sym nobody_at_the_start) (omega arith)
at_most_64 (entry ∷ history) =
    subst (λ (s : Neighbours). length s.checks + length s.listed ≤ 64) (sym (one_more_entry history entry))
    (entry_fits (after_history history) entry (at_most_64 history))
