-- The records that cells stand for at one slot, and that a log has the same records without the cells that a later one replaces.
use Rattle.std.proofs.Common.{◌≡◌, ℕ, zero, suc, ◌+◌, ◌-◌, ◌<◌, ◌≤◌, ◌==◌, ◌&&◌, ◌||◌, not, Bool, true, false, cond, if◌then◌else◌, List}
use Rattle.std.proofs.Common.{Option, Some, None, refl, sym, subst, ap, ◌∙◌, arith}
use Rattle.std.specs.Ordering.{nat_cmp}
use Rattle.std.specs.Cmp.{nat_cmp_total}
use Rattle.std.specs.FinMap.{get, insert, empty, get-empty, same_map, nat_cmp-IsAntisymmetric}
use Rattle.plc_base.specs.Keeper.{Records}
use Rattle.flash_keeper.specs.Flash.{Word}
use Rattle.flash_keeper.specs.Records.{slot_at, octets_at}
use Rattle.flash_keeper.specs.Front.{front_slot, front_octets, front_records}
use Rattle.flash_keeper.specs.Log.{place, counts, step, upto, holds, holds_later, front_kept, kept}
use Rattle.flash_keeper.specs.declared.front.Front.{Front}
use Rattle.flash_keeper.proofs.RecordLemmas.{same_number, succ}
use Rattle.flash_keeper.proofs.FrontLemmas.{get_insert, same_slot}

get_step : (c : Bool) (r : Records) (s : ℕ) (o : List ℕ) (q : ℕ) → get (if c then insert r s o else r) q ≡ cond (c && (s == q)) (Some o) (get r q)
get_step true r s o q = get_insert r s o q
get_step false r s o q = refl

-- what one cell more makes of the record of a slot
pub get_upto : (f : Front) (w : ℕ → Word) (k q : ℕ) → get (upto f w (k + 1)) q ≡ cond (holds f w k q) (Some (octets_at w (place f k) 8)) (get (upto f w k) q)
unfolding upto
get_upto f w k q = ap (λ (n : ℕ). get (upto f w n) q) (succ k) ∙ get_step (counts f w k) (upto f w k) (slot_at w (place f k)) (octets_at w (place f k) 8) q

pub get_upto-zero : (f : Front) (w : ℕ → Word) (q : ℕ) → get (upto f w 0) q ≡ get (front_records w f.count) q
unfolding upto
get_upto-zero f w q = refl

twice : {A : Type 0} (b : Bool) (x y z : A) → cond b x (cond b y z) ≡ cond b x z
twice true x y z = refl
twice false x y z = refl

swapped : {A : Type 0} (a b : Bool) (x y z : A) → (a ≡ true → b ≡ true → ⊥) → cond a x (cond b y z) ≡ cond b y (cond a x z)
swapped true true x y z apart = absurd (apart refl refl)
swapped true false x y z apart = refl
swapped false true x y z apart = refl
swapped false false x y z apart = refl

-- a second record at a slot replaces the first
replaced : (r : Records) (s : ℕ) (o p : List ℕ) → insert (insert r s o) s p ≡ insert r s p
replaced r s o p = same_map nat_cmp_total nat_cmp-IsAntisymmetric _ _ (λ q.
    get_insert (insert r s o) s p q ∙ ap (λ (x : Option (List ℕ)). cond (s == q) (Some p) x) (get_insert r s o q)
    ∙ twice (s == q) (Some p) (Some o) (get r q) ∙ sym (get_insert r s p q))

-- records at two slots may come in either order
exchanged : (r : Records) (s t : ℕ) (o p : List ℕ) → (t == s) ≡ false → insert (insert r s o) t p ≡ insert (insert r t p) s o
exchanged r s t o p apart = same_map nat_cmp_total nat_cmp-IsAntisymmetric _ _ (λ q.
    get_insert (insert r s o) t p q ∙ ap (λ (x : Option (List ℕ)). cond (t == q) (Some p) x) (get_insert r s o q)
    ∙ swapped (t == q) (s == q) (Some p) (Some o) (get r q) (never q)
    ∙ ap (λ (x : Option (List ℕ)). cond (s == q) (Some o) x) (sym (get_insert r t p q)) ∙ sym (get_insert (insert r t p) s o q))
  where
    both : (b : Bool) → b ≡ false → b ≡ true → ⊥
    both true e h = cc
    both false e h = cc

    never : (q : ℕ) → (t == q) ≡ true → (s == q) ≡ true → ⊥
    never q a b =
        let one = same_slot t q a in
        let two = same_slot s q b in
        both (t == s) apart (ap (λ (n : ℕ). t == n) two ∙ a)

step_replaces : (c : Bool) (s t : ℕ) (r : Records) (o p : List ℕ) → (c && (t == s)) ≡ true
    → (if c then insert (insert r s o) t p else insert r s o) ≡ (if c then insert r t p else r)
step_replaces true s t r o p e = let same = same_slot t s e in subst (λ (n : ℕ). insert (insert r n o) t p ≡ insert r t p) same (replaced r t o p)
step_replaces false s t r o p e = cc

step_exchanges : (c : Bool) (s t : ℕ) (r : Records) (o p : List ℕ) → (c && (t == s)) ≡ false
    → (if c then insert (insert r s o) t p else insert r s o) ≡ insert (if c then insert r t p else r) s o
step_exchanges true s t r o p e = exchanged r s t o p e
step_exchanges false s t r o p e = refl

-- the records after n cells from k on
play : Front → (ℕ → Word) → ℕ → ℕ → Records → Records
play f w k zero r = r
play f w k (suc n) r = play f w (suc k) n (step f w k r)

play-upto : (f : Front) (w : ℕ → Word) (k n : ℕ) → play f w k n (upto f w k) ≡ upto f w (k + n)
unfolding play upto
play-upto f w k zero = ap (upto f w) (omega arith)
play-upto f w k (suc n) = play-upto f w (suc k) n ∙ ap (upto f w) (omega arith)

-- a record that one of the cells replaces does not matter
play-replaced : (f : Front) (w : ℕ → Word) (k n : ℕ) (r : Records) (s : ℕ) (o : List ℕ) → holds_later f w k n s ≡ true
    → play f w k n (insert r s o) ≡ play f w k n r
unfolding play holds_later
play-replaced f w k zero r s o h = cc
play-replaced f w k (suc n) r s o h =
    by_first (λ (r' : Records) (rest : holds_later f w (suc k) n s ≡ true). play-replaced f w (suc k) n r' s o rest) (holds f w k s)
    refl
  where
    by_first : ((r' : Records) → holds_later f w (suc k) n s ≡ true → play f w (suc k) n (insert r' s o) ≡ play f w (suc k) n r') → (b : Bool)
        → holds f w k s ≡ b
        → play f w (suc k) n (step f w k (insert r s o)) ≡ play f w (suc k) n (step f w k r)
    by_first more true e = ap (play f w (suc k) n) (step_replaces (counts f w k) s (slot_at w (place f k)) r o (octets_at w (place f k) 8) e)
    by_first more false e =
        let rest : holds_later f w (suc k) n s ≡ true = ap (λ (b : Bool). b || holds_later f w (suc k) n s) (sym e) ∙ h in
        ap (play f w (suc k) n) (step_exchanges (counts f w k) s (slot_at w (place f k)) r o (octets_at w (place f k) 8) e) ∙ more (step f w k r) rest

keeps : (f : Front) (c h : Bool) (w : ℕ → Word) (k n : ℕ) (r : Records) (s : ℕ) (o : List ℕ) → (h ≡ true → play f w k n (insert r s o) ≡ play f w k n r)
    → play f w k n (if c && not h then insert r s o else r) ≡ play f w k n (if c then insert r s o else r)
keeps f true true w k n r s o same = sym (same refl)
keeps f true false w k n r s o same = refl
keeps f false h w k n r s o same = refl

pub less_none : (n : ℕ) → n - 0 ≡ n
less_none n = omega arith

none_more : (n : ℕ) → 0 + n ≡ n
none_more n = omega arith

or_parts : (a b : Bool) → (a || b) ≡ false → (a ≡ false) × (b ≡ false)
or_parts true b e = cc
or_parts false b e = (refl, e)

-- a record that none of the cells has may come after them
play-apart : (f : Front) (w : ℕ → Word) (k n : ℕ) (r : Records) (s : ℕ) (o : List ℕ) → holds_later f w k n s ≡ false
    → play f w k n (insert r s o) ≡ insert (play f w k n r) s o
unfolding play holds_later
play-apart f w k zero r s o h = refl
play-apart f w k (suc n) r s o h =
    let parts = or_parts (holds f w k s) (holds_later f w (suc k) n s) h in
    ap (play f w (suc k) n) (step_exchanges (counts f w k) s (slot_at w (place f k)) r o (octets_at w (place f k) 8) parts.0)
    ∙ play-apart f w (suc k) n (step f w k r) s o parts.1

-- records of the front that a cell replaces do not matter
front_kept-play : (f : Front) (w : ℕ → Word) (n i : ℕ) → play f w 0 n (front_kept f w n i) ≡ play f w 0 n (front_records w i)
unfolding front_kept front_records
front_kept-play f w n zero = refl
front_kept-play f w n (suc i) = by_later (front_kept-play f w n i) (holds_later f w 0 n (front_slot w i)) refl
  where
    by_later : play f w 0 n (front_kept f w n i) ≡ play f w 0 n (front_records w i) → (b : Bool) → holds_later f w 0 n (front_slot w i) ≡ b
        → play f w 0 n (if not b then insert (front_kept f w n i) (front_slot w i) (front_octets w i) else front_kept f w n i)
        ≡ play f w 0 n (insert (front_records w i) (front_slot w i) (front_octets w i))
    by_later before true e = before ∙ sym (play-replaced f w 0 n (front_records w i) (front_slot w i) (front_octets w i) e)
    by_later before false e =
        play-apart f w 0 n (front_kept f w n i) (front_slot w i) (front_octets w i) e
        ∙ ap (λ (r : Records). insert r (front_slot w i) (front_octets w i)) before
        ∙ sym (play-apart f w 0 n (front_records w i) (front_slot w i) (front_octets w i) e)

kept-play : (f : Front) (w : ℕ → Word) (n k : ℕ) → k ≤ n → play f w k (n - k) (kept f w n k) ≡ upto f w n
unfolding kept upto play
kept-play f w n zero le =
    ap (λ (d : ℕ). play f w 0 d (front_kept f w n f.count)) (less_none n) ∙ front_kept-play f w n f.count ∙ play-upto f w 0 n
    ∙ ap (upto f w) (none_more n)
kept-play f w n (suc k) le =
    let more : n - k ≡ suc (n - suc k) = omega (arith, le) in
    keeps f (counts f w k) (holds_later f w (suc k) (n - suc k) (slot_at w (place f k))) w (suc k) (n - suc k) (kept f w n k) (slot_at w (place f k))
    (octets_at w (place f k) 8)
    (play-replaced f w (suc k) (n - suc k) (kept f w n k) (slot_at w (place f k)) (octets_at w (place f k) 8))
    ∙ ap (λ (d : ℕ). play f w k d (kept f w n k)) (sym more) ∙ kept-play f w n k (omega (arith, le))

-- a log has the same records without the cells that a later one replaces
pub kept-all : (f : Front) (w : ℕ → Word) (n : ℕ) → kept f w n n ≡ upto f w n
unfolding play
kept-all f w n =
    let none : n - n ≡ 0 = omega arith in
    ap (λ (d : ℕ). play f w n d (kept f w n n)) (sym none) ∙ kept-play f w n n (omega arith)

pub kept-zero : (f : Front) (w : ℕ → Word) (n : ℕ) → kept f w n 0 ≡ front_kept f w n f.count
unfolding kept
kept-zero f w n = refl

passes : (c h : Bool) (x y : Records) → c ≡ false → (if c && not h then x else y) ≡ y
passes true h x y e = cc
passes false h x y e = refl

-- a cell that does not count is not kept
pub kept-uncounted : (f : Front) (w : ℕ → Word) (n k : ℕ) → counts f w k ≡ false → kept f w n (k + 1) ≡ kept f w n k
unfolding kept
kept-uncounted f w n k e = ap (kept f w n) (succ k) ∙ passes (counts f w k) (holds_later f w (suc k) (n - suc k) (slot_at w (place f k))) _ _ e

passes_replaced : (c h : Bool) (x y : Records) → h ≡ true → (if c && not h then x else y) ≡ y
passes_replaced true true x y e = refl
passes_replaced true false x y e = cc
passes_replaced false h x y e = refl

-- nor is one that a later one replaces
pub kept-replaced : (f : Front) (w : ℕ → Word) (n k : ℕ) → holds_later f w (k + 1) (n - (k + 1)) (slot_at w (place f k)) ≡ true
    → kept f w n (k + 1) ≡ kept f w n k
unfolding kept
kept-replaced f w n k e =
    ap (kept f w n) (succ k) ∙ passes_replaced (counts f w k) (holds_later f w (suc k) (n - suc k) (slot_at w (place f k))) _ _
    (ap (λ (j : ℕ). holds_later f w j (n - j)
    (slot_at w (place f k))) (sym (succ k)) ∙ e)

takes : (c h : Bool) (x y : Records) → c ≡ true → h ≡ false → (if c && not h then x else y) ≡ x
takes true true x y e f = cc
takes true false x y e f = refl
takes false h x y e f = cc

pub kept-counted : (f : Front) (w : ℕ → Word) (n k : ℕ) → counts f w k ≡ true → holds_later f w (k + 1) (n - (k + 1)) (slot_at w (place f k)) ≡ false
    → kept f w n (k + 1) ≡ insert (kept f w n k) (slot_at w (place f k)) (octets_at w (place f k) 8)
unfolding kept
kept-counted f w n k e none =
    ap (kept f w n) (succ k) ∙ takes (counts f w k) (holds_later f w (suc k) (n - suc k) (slot_at w (place f k))) _ _ e
    (ap (λ (j : ℕ). holds_later f w j (n - j) (slot_at w (place f k)))
    (sym (succ k)) ∙ none)

-- one cell more of those that may replace
pub holds_later-suc : (f : Front) (w : ℕ → Word) (k n s : ℕ) → k < n → holds_later f w k (n - k) s ≡ (holds f w k s || holds_later f w (k + 1) (n - (k + 1)) s)
unfolding holds_later
holds_later-suc f w k n s le =
    let more : n - k ≡ suc (n - suc k) = omega (arith, le) in
    ap (λ (d : ℕ). holds_later f w k d s) more ∙ ap (λ (j : ℕ). holds f w k s || holds_later f w j (n - j) s) (sym (succ k))

pub holds_later-end : (f : Front) (w : ℕ → Word) (k n s : ℕ) → n ≤ k → holds_later f w k (n - k) s ≡ false
unfolding holds_later
holds_later-end f w k n s le =
    let none : n - k ≡ 0 = omega (arith, le) in
    ap (λ (d : ℕ). holds_later f w k d s) none

or_true : (a b : Bool) → b ≡ true → (a || b) ≡ true
or_true true b e = refl
or_true false b e = e

passed_over : (c h e : Bool) (x y : Option (List ℕ)) → (e ≡ true → h ≡ true) → cond ((c && not h) && e) x y ≡ y
passed_over true true e x y f = refl
passed_over true false true x y f = absurd (never (f refl))
  where
    never : false ≡ true → ⊥
    never e = cc
passed_over true false false x y f = refl
passed_over false h e x y f = refl

left_out : (h e : Bool) (x y : Option (List ℕ)) → (e ≡ true → h ≡ true) → cond (not h && e) x y ≡ y
left_out true e x y f = refl
left_out false true x y f = absurd (never (f refl))
  where
    never : false ≡ true → ⊥
    never e = cc
left_out false false x y f = refl

-- no record of the front is kept whose slot a cell has
front_kept_free : (f : Front) (w : ℕ → Word) (n i q : ℕ) → holds_later f w 0 n q ≡ true → get (front_kept f w n i) q ≡ None
unfolding front_kept
front_kept_free f w n zero q h = get-empty nat_cmp q
front_kept_free f w n (suc i) q h =
    get_step (not (holds_later f w 0 n (front_slot w i))) (front_kept f w n i) (front_slot w i) (front_octets w i) q
    ∙ left_out (holds_later f w 0 n (front_slot w i)) (front_slot w i == q) (Some (front_octets w i)) (get (front_kept f w n i) q)
    (λ e. let same = same_slot (front_slot w i) q e in subst (λ (s : ℕ). holds_later f w 0 n s ≡ true) (sym same) h)
    ∙ front_kept_free f w n i q h

none_of : (b : Bool) (o : List ℕ) (x : Option (List ℕ)) → cond b (Some o) x ≡ None → (b ≡ false) × (x ≡ None)
none_of true o x e = cc
none_of false o x e = (refl, e)

not_that : (h b : Bool) (x y : Option (List ℕ)) → b ≡ false → cond (not h && b) x y ≡ y
not_that true b x y e = refl
not_that false true x y e = cc
not_that false false x y e = refl

-- nor one that the front has not
pub front_kept_within : (f : Front) (w : ℕ → Word) (n i q : ℕ) → get (front_records w i) q ≡ None → get (front_kept f w n i) q ≡ None
unfolding front_kept front_records
front_kept_within f w n zero q e = e
front_kept_within f w n (suc i) q e =
    let parts = none_of (front_slot w i == q) (front_octets w i) (get (front_records w i) q)
    (sym (get_insert (front_records w i) (front_slot w i) (front_octets w i) q) ∙ e) in
    get_step (not (holds_later f w 0 n (front_slot w i))) (front_kept f w n i) (front_slot w i) (front_octets w i) q
    ∙ not_that (holds_later f w 0 n (front_slot w i)) (front_slot w i == q) (Some (front_octets w i)) (get (front_kept f w n i) q) parts.0
    ∙ front_kept_within f w n i q parts.1

-- no record is kept whose slot a later cell has
kept_free : (f : Front) (w : ℕ → Word) (n k q : ℕ) → k ≤ n → holds_later f w k (n - k) q ≡ true → get (kept f w n k) q ≡ None
unfolding kept holds_later
kept_free f w n zero q le h = front_kept_free f w n f.count q (ap (λ (d : ℕ). holds_later f w 0 d q) (sym (less_none n)) ∙ h)
kept_free f w n (suc k) q le h =
    let more : n - k ≡ suc (n - suc k) = omega (arith, le) in
    let before = kept_free f w n k q (omega (arith, le))
    (ap (λ (d : ℕ). holds_later f w k d q) more ∙ or_true (holds f w k q) (holds_later f w (suc k) (n - suc k) q)
    h) in
    get_step (counts f w k && not (holds_later f w (suc k) (n - suc k) (slot_at w (place f k)))) (kept f w n k) (slot_at w (place f k))
    (octets_at w (place f k) 8) q
    ∙ passed_over (counts f w k) (holds_later f w (suc k) (n - suc k) (slot_at w (place f k))) (slot_at w (place f k) == q) (Some (octets_at w (place f k) 8))
    (get (kept f w n k) q) (λ e.
    let same = same_slot (slot_at w (place f k)) q e in subst (λ (s : ℕ). holds_later f w (suc k) (n - suc k) s ≡ true) (sym same) h)
    ∙ before

holds_own : (f : Front) (w : ℕ → Word) (k : ℕ) → counts f w k ≡ true → holds f w k (slot_at w (place f k)) ≡ true
holds_own f w k e = (λ i. e i && (slot_at w (place f k) == slot_at w (place f k))) ∙ same_number (slot_at w (place f k))

-- so the record of a cell that counts is not yet there
pub cell_apart : (f : Front) (w : ℕ → Word) (n k : ℕ) → k < n → counts f w k ≡ true → get (kept f w n k) (slot_at w (place f k)) ≡ None
cell_apart f w n k less e =
    let s = slot_at w (place f k) in
    kept_free f w n k s (omega (arith, less)) (holds_later-suc f w k n s less
    ∙ ap (λ (b : Bool). b || holds_later f w (k + 1) (n - (k + 1)) s) (holds_own f w k e))

-- one record of the front more, if no cell has its slot
pub front_kept-suc : (f : Front) (w : ℕ → Word) (n i : ℕ) → front_kept f w n (i + 1)
    ≡ (if holds_later f w 0 n (front_slot w i) then front_kept f w n i else insert (front_kept f w n i) (front_slot w i) (front_octets w i))
unfolding front_kept
front_kept-suc f w n i = ap (front_kept f w n) (succ i) ∙ turned (holds_later f w 0 n (front_slot w i)) _ _
  where
    turned : (h : Bool) (x y : Records) → (if not h then x else y) ≡ (if h then y else x)
    turned true x y = refl
    turned false x y = refl

-- one cell more that counts, if no later one has its slot
pub kept-suc : (f : Front) (w : ℕ → Word) (n k : ℕ) → counts f w k ≡ true → kept f w n (k + 1)
    ≡ (if holds_later f w (k + 1) (n - (k + 1)) (slot_at w (place f k)) then kept f w n k
    else insert (kept f w n k) (slot_at w (place f k)) (octets_at w (place f k) 8))
kept-suc f w n k e = by_later (holds_later f w (k + 1) (n - (k + 1)) (slot_at w (place f k))) refl
  where
    by_later : (b : Bool) → holds_later f w (k + 1) (n - (k + 1)) (slot_at w (place f k)) ≡ b
        → kept f w n (k + 1) ≡ (if b then kept f w n k else insert (kept f w n k) (slot_at w (place f k)) (octets_at w (place f k) 8))
    by_later true h = kept-replaced f w n k h
    by_later false h = kept-counted f w n k e h

pub no_front_kept : (f : Front) (w : ℕ → Word) (n : ℕ) → front_kept f w n 0 ≡ empty
unfolding front_kept
no_front_kept f w n = refl
