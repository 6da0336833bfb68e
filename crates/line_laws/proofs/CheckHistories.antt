-- What is open and listed after a history is what the history as a whole says.
use Rattle.std.proofs.Common.{◌≡◌, ℕ, Bool, true, false, not, List, [], ◌∷◌, ◌++◌, ⊎_elim, ◌⊎◌, inl, inr, map, refl, sym, ap, ◌∙◌, subst}
use Rattle.std.specs.Prelude.{◌||◌, ◌&&◌, cond, if◌then◌else◌}
use Rattle.std.specs.List.{filter, list_any}
use Rattle.std.proofs.lemmas.Bool.{and_parts, or_left, or_right}
use Rattle.std.proofs.lemmas.List.Folds.{list_any-append}
use Rattle.neighbour_checks.specs.declared.tables.OpenCheck.{OpenCheck}
use Rattle.neighbour_checks.specs.declared.tables.ListedNeighbour.{ListedNeighbour}
use Rattle.neighbour_checks.specs.History.{Acknowledgement, History, Reply, Tick, after_history}
use Rattle.neighbour_checks.specs.Neighbours.{Neighbours, check_of, is_listed_at, is_open_at, listed_from, may_begin, newly_listed, nobody, waits_for}
use Rattle.neighbour_checks.proofs.Histories.{nobody_at_the_start, one_more_entry}
use Rattle.line_laws.specs.CheckHistories.{Begins, IsListed, IsOpen, Lists, StaysListed, StaysOpen}

-- # Lists

module _ {X : Type 0} where
  any_filtered : (q p : X → Bool) (xs : List X) → list_any p (filter q xs) ≡ list_any (λ x. q x && p x) xs
  any_filtered q p [] = refl
  any_filtered q p (x ∷ xs) = by_test (any_filtered q p xs) (q x)
    where
      by_test : list_any p (filter q xs) ≡ list_any (λ y. q y && p y) xs → (t : Bool)
          → list_any p (cond t (x ∷ filter q xs) (filter q xs)) ≡ ((t && p x) || list_any (λ y. q y && p y) xs)
      by_test rest true = ap (λ b. p x || b) rest
      by_test rest false = rest

  any_mapped : {Y : Type 0} (f : X → Y) (p : Y → Bool) (xs : List X) → list_any p (map f xs) ≡ list_any (λ x. p (f x)) xs
  any_mapped f p [] = refl
  any_mapped f p (x ∷ xs) = ap (λ b. p (f x) || b) (any_mapped f p xs)

either_true : (a b : Bool) → (a || b) ≡ true → (a ≡ true) ⊎ (b ≡ true)
either_true true b e = inl refl
either_true false b e = inr e

or_nothing : (a : Bool) → (a || false) ≡ true → a ≡ true
or_nothing true e = refl
or_nothing false e = absurd (cc (e))

both_true : (a b : Bool) → a ≡ true → b ≡ true → (a && b) ≡ true
both_true true b e f = f
both_true false b e f = absurd (cc (e))

is_not : (b : Bool) → not b ≡ true → b ≡ false
is_not true e = absurd (cc (e))
is_not false e = refl

not_is : (b : Bool) → b ≡ false → not b ≡ true
not_is true e = absurd (cc (e))
not_is false e = refl

not_not_is : (b : Bool) → not b ≡ false → b ≡ true
not_not_is true e = refl
not_not_is false e = absurd (cc (e))

not_true : (b : Bool) → b ≡ true → not b ≡ false
not_true true e = refl
not_true false e = absurd (cc (e))

none_any : {X : Type 0} (p : X → Bool) (s : Neighbours) (of : Neighbours → List X) → of nobody ≡ [] → s ≡ nobody → list_any p (of s) ≡ true → false ≡ true
none_any p s of none is e = sym (ap (list_any p) (ap of is ∙ none)) ∙ e

-- # Open checks

-- A check that passes a test, and is open.
pub record Opened (p : OpenCheck → Bool) (h : History) : Type 0 where
  pub check : OpenCheck
  pub held : IsOpen check h
  pub passes : p check ≡ true

pub some_open : (p : OpenCheck → Bool) (h : History) → list_any p (after_history h).checks ≡ true → Opened p h
some_open p [] e = absurd (cc (none_any p (after_history []) (λ s. s.checks) refl nobody_at_the_start e))
some_open p (Reply neighbour number origin time ∷ h) e = by_test (λ a. some_open p h a) (may_begin s neighbour) refl
    (subst (λ (t : Neighbours). list_any p t.checks ≡ true) (one_more_entry h (Reply neighbour number origin time)) e)
  where
    s : Neighbours
    s = after_history h

    more : Opened p h → Opened p (Reply neighbour number origin time ∷ h)
    more o = record { check = o.check; held = StaysOpen _ h o.held refl; passes = o.passes }

    by_test : (list_any p s.checks ≡ true → Opened p h) → (t : Bool) → may_begin s neighbour ≡ t
        → list_any p (if t then record s { checks = s.checks ++ check_of neighbour number origin time ∷ [] } else s).checks ≡ true
        → Opened p (Reply neighbour number origin time ∷ h)
    by_test rest false none any = more (rest any)
    by_test rest true may any = ⊎_elim
        (λ (before : list_any p s.checks ≡ true). more (rest before))
        (λ (new : list_any p (check_of neighbour number origin time ∷ []) ≡ true).
        record { check = check_of neighbour number origin time; held = Begins h may; passes = or_nothing _ new })
        (either_true _ _ (sym (list_any-append p s.checks (check_of neighbour number origin time ∷ [])) ∙ any))
some_open p (Acknowledgement neighbour number origin ∷ h) e =
    let any = subst (λ (t : Neighbours). list_any p t.checks ≡ true) (one_more_entry h (Acknowledgement neighbour number origin)) e in
    let o = some_open (λ c. not (waits_for neighbour number origin c) && p c) h
    (sym (any_filtered (λ c. not (waits_for neighbour number origin c)) p _) ∙ any) in
    let both = and_parts (not (waits_for neighbour number origin o.check)) (p o.check) o.passes in
    record { check = o.check; held = StaysOpen _ h o.held (is_not _ both.0); passes = both.1 }
some_open p (Tick time ∷ h) e =
    let any = subst (λ (t : Neighbours). list_any p t.checks ≡ true) (one_more_entry h (Tick time)) e in
    let o = some_open (λ c. is_open_at time c && p c) h (sym (any_filtered (is_open_at time) p _) ∙ any) in
    let both = and_parts (is_open_at time o.check) (p o.check) o.passes in
    record { check = o.check; held = StaysOpen _ h o.held (not_true _ both.0); passes = both.1 }

-- what is open is there
pub open_is_there : (c : OpenCheck) (p : OpenCheck → Bool) (h : History) → IsOpen c h → p c ≡ true → list_any p (after_history h).checks ≡ true
open_is_there c p h (Begins past may) e =
    let entry = Reply c.neighbour c.number c.origin c.since in
    subst (λ (t : Neighbours). list_any p t.checks ≡ true) (sym (one_more_entry past entry)) (rw may (last (after_history past)))
  where
    last : (s : Neighbours) → list_any p (s.checks ++ c ∷ []) ≡ true
    last s = list_any-append p s.checks (c ∷ []) ∙ or_right (list_any p s.checks) (p c || false) (or_left (p c) false e)
open_is_there c p h (StaysOpen (Reply neighbour number origin time) past o stays) e =
    subst (λ (t : Neighbours). list_any p t.checks ≡ true) (sym (one_more_entry past (Reply neighbour number origin time)))
    (by_test (open_is_there c p past o e) (may_begin (after_history past) neighbour))
  where
    s : Neighbours
    s = after_history past

    by_test : list_any p s.checks ≡ true → (t : Bool)
        → list_any p (if t then record s { checks = s.checks ++ check_of neighbour number origin time ∷ [] } else s).checks ≡ true
    by_test before false = before
    by_test before true = list_any-append p s.checks (check_of neighbour number origin time ∷ []) ∙ or_left (list_any p s.checks) _ before
open_is_there c p h (StaysOpen (Acknowledgement neighbour number origin) past o stays) e =
    subst (λ (t : Neighbours). list_any p t.checks ≡ true) (sym (one_more_entry past (Acknowledgement neighbour number origin)))
    (any_filtered (λ c. not (waits_for neighbour number origin c)) p _
    ∙ open_is_there c (λ k. not (waits_for neighbour number origin k) && p k) past o (both_true _ _ (not_is _ stays) e))
open_is_there c p h (StaysOpen (Tick time) past o stays) e =
    subst (λ (t : Neighbours). list_any p t.checks ≡ true) (sym (one_more_entry past (Tick time)))
    (any_filtered (is_open_at time) p _ ∙ open_is_there c (λ k. is_open_at time k && p k) past o (both_true _ _ (not_not_is _ stays) e))

-- # Listed neighbours

-- A listed neighbour that passes a test.
pub record Listed (p : ListedNeighbour → Bool) (h : History) : Type 0 where
  pub neighbour : ListedNeighbour
  pub listed : IsListed neighbour h
  pub passes : p neighbour ≡ true

-- of those that a tick lists
any_newly : (p : ListedNeighbour → Bool) (time : ℕ) (checks : List OpenCheck)
    → list_any p (newly_listed time checks) ≡ list_any (λ c. not (is_open_at time c) && p (listed_from time c)) checks
any_newly p time checks =
    any_mapped (listed_from time) p (filter (λ c. not (is_open_at time c)) checks)
    ∙ any_filtered (λ c. not (is_open_at time c)) (λ c. p (listed_from time c)) checks

pub some_listed : (p : ListedNeighbour → Bool) (h : History) → list_any p (after_history h).listed ≡ true → Listed p h
some_listed p [] e = absurd (cc (none_any p (after_history []) (λ s. s.listed) refl nobody_at_the_start e))
some_listed p (Reply neighbour number origin time ∷ h) e = by_test (λ a. some_listed p h a) (may_begin s neighbour)
    (subst (λ (t : Neighbours). list_any p t.listed ≡ true) (one_more_entry h (Reply neighbour number origin time)) e)
  where
    s : Neighbours
    s = after_history h

    more : Listed p h → Listed p (Reply neighbour number origin time ∷ h)
    more l = record { neighbour = l.neighbour; listed = StaysListed _ h l.listed refl; passes = l.passes }

    by_test : (list_any p s.listed ≡ true → Listed p h) → (t : Bool)
        → list_any p (if t then record s { checks = s.checks ++ check_of neighbour number origin time ∷ [] } else s).listed ≡ true
        → Listed p (Reply neighbour number origin time ∷ h)
    by_test rest true any = more (rest any)
    by_test rest false any = more (rest any)
some_listed p (Acknowledgement neighbour number origin ∷ h) e =
    let any = subst (λ (t : Neighbours). list_any p t.listed ≡ true) (one_more_entry h (Acknowledgement neighbour number origin)) e in
    let l = some_listed p h any in
    record { neighbour = l.neighbour; listed = StaysListed _ h l.listed refl; passes = l.passes }
some_listed p (Tick time ∷ h) e = ⊎_elim (kept (λ q a. some_listed q h a)) new
    (either_true _ _ (sym (list_any-append p (filter (is_listed_at time) s.listed) (newly_listed time s.checks)) ∙ any))
  where
    s : Neighbours
    s = after_history h

    any : list_any p (filter (is_listed_at time) s.listed ++ newly_listed time s.checks) ≡ true
    any = subst (λ (t : Neighbours). list_any p t.listed ≡ true) (one_more_entry h (Tick time)) e

    kept : ((q : ListedNeighbour → Bool) → list_any q s.listed ≡ true → Listed q h) → list_any p (filter (is_listed_at time) s.listed) ≡ true
        → Listed p (Tick time ∷ h)
    kept rest before =
        let l = rest (λ n. is_listed_at time n && p n) (sym (any_filtered (is_listed_at time) p s.listed) ∙ before) in
        let both = and_parts (is_listed_at time l.neighbour) (p l.neighbour) l.passes in
        record { neighbour = l.neighbour; listed = StaysListed _ h l.listed (not_true _ both.0); passes = both.1 }

    new : list_any p (newly_listed time s.checks) ≡ true → Listed p (Tick time ∷ h)
    new now =
        let o = some_open (λ c. not (is_open_at time c) && p (listed_from time c)) h (sym (any_newly p time s.checks) ∙ now) in
        let both = and_parts (not (is_open_at time o.check)) (p (listed_from time o.check)) o.passes in
        record { neighbour = listed_from time o.check; listed = Lists h o.check o.held refl (is_not _ both.0); passes = both.1 }

-- who is listed is there
pub listed_is_there : (l : ListedNeighbour) (p : ListedNeighbour → Bool) (h : History) → IsListed l h → p l ≡ true → list_any p (after_history h).listed ≡ true
listed_is_there l p h (Lists past c held same due) e =
    subst (λ (t : Neighbours). list_any p t.listed ≡ true) (sym (one_more_entry past (Tick l.since)))
    (list_any-append p (filter (is_listed_at l.since) s.listed) (newly_listed l.since s.checks)
    ∙ or_right (list_any p (filter (is_listed_at l.since) s.listed)) _
    (any_newly p l.since s.checks ∙ open_is_there c (λ k. not (is_open_at l.since k) && p (listed_from l.since k)) past held
    (both_true _ _ (not_is _ due) (subst (λ n. p (record { neighbour = n; since = l.since }) ≡ true) (sym same) e))))
  where
    s : Neighbours
    s = after_history past
listed_is_there l p h (StaysListed (Reply neighbour number origin time) past k stays) e =
    subst (λ (t : Neighbours). list_any p t.listed ≡ true) (sym (one_more_entry past (Reply neighbour number origin time)))
    (by_test (listed_is_there l p past k e) (may_begin (after_history past) neighbour))
  where
    s : Neighbours
    s = after_history past

    by_test : list_any p s.listed ≡ true → (t : Bool)
        → list_any p (if t then record s { checks = s.checks ++ check_of neighbour number origin time ∷ [] } else s).listed ≡ true
    by_test before true = before
    by_test before false = before
listed_is_there l p h (StaysListed (Acknowledgement neighbour number origin) past k stays) e =
    subst (λ (t : Neighbours). list_any p t.listed ≡ true) (sym (one_more_entry past (Acknowledgement neighbour number origin))) (listed_is_there l p past k e)
listed_is_there l p h (StaysListed (Tick time) past k stays) e =
    subst (λ (t : Neighbours). list_any p t.listed ≡ true) (sym (one_more_entry past (Tick time)))
    (list_any-append p (filter (is_listed_at time) s.listed) (newly_listed time s.checks) ∙ or_left (list_any p (filter (is_listed_at time) s.listed)) _
    (any_filtered (is_listed_at time) p s.listed ∙ listed_is_there l (λ n. is_listed_at time n && p n) past k (both_true _ _ (not_not_is _ stays) e)))
  where
    s : Neighbours
    s = after_history past
