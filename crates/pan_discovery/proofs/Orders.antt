-- One more beacon in the order of all that was heard, and in the order of the agents.
use Rattle.std.proofs.Common.{◌≡◌, ◌<◌, ◌≤◌, ℕ, zero, suc, Bool, true, false, cond, List, [], ◌∷◌, take, refl, sym, ap, subst, ◌∙◌, arith}
use Rattle.std.specs.Prelude.{not, nat_lt, nat_le, ◌==◌, ◌&&◌, ◌||◌}
use Rattle.std.specs.List.{list_any}
use Rattle.std.proofs.lemmas.Bool.{eqb-true, eqb-false, ltb-true, ltb-false}
use Rattle.std.proofs.lemmas.Grind.{common_steps}
use Rattle.plc_base.specs.Orders.{placed_by, ordered_by}
use Rattle.pan_discovery.specs.declared.agents.Agent.{Agent}
use Rattle.pan_discovery.specs.Agents.{rank, without, firsts, agents_of, is_known_by}

-- # Without an address

-- a test, and what holds on each side of it
same_test : (a b : ℕ) → (a == b) ≡ (b == a)
same_test a b = grind (arith, common_steps)

without_twice : (n : ℕ) (xs : List Agent) → without n (without n xs) ≡ without n xs
without_twice n [] = refl
without_twice n (x ∷ xs) = by_test (without_twice n xs) (x.address == n) refl
  where
    by_test : (without n (without n xs) ≡ without n xs) → (b : Bool) → (x.address == n) ≡ b
        → without n (cond (not b) (x ∷ without n xs) (without n xs)) ≡ cond (not b) (x ∷ without n xs) (without n xs)
    by_test more true e = more
    by_test more false e = rw e (ap (λ (ys : List Agent). x ∷ ys) (more))

without_both : (m n : ℕ) (xs : List Agent) → without m (without n xs) ≡ without n (without m xs)
without_both m n [] = refl
without_both m n (x ∷ xs) = by_tests (without_both m n xs) (x.address == m) (x.address == n) refl refl
  where
    by_tests : (without m (without n xs) ≡ without n (without m xs)) → (a b : Bool) → (x.address == m) ≡ a → (x.address == n) ≡ b
        → without m (cond (not b) (x ∷ without n xs) (without n xs)) ≡ without n (cond (not a) (x ∷ without m xs) (without m xs))
    by_tests more true true ea eb = more
    by_tests more true false ea eb = rw ea (more)
    by_tests more false true ea eb = rw eb (more)
    by_tests more false false ea eb = rw (ea, eb) (ap (λ (ys : List Agent). x ∷ ys) (more))

-- # Order

-- all of a list come at this place or later
abbrev pub From : ℕ → List Agent → Type 0
From n [] = Unit {0}
From n (x ∷ xs) = (n ≤ rank x) × From n xs

abbrev pub Sorted : List Agent → Type 0
Sorted [] = Unit {0}
Sorted (x ∷ xs) = From (rank x) xs × Sorted xs

from_lower : (m n : ℕ) (xs : List Agent) → m ≤ n → From n xs → From m xs
from_lower m n [] le h = tt
from_lower m n (x ∷ xs) le h = (omega (arith, h.0), from_lower m n xs le h.1)

from_without : (n a : ℕ) (xs : List Agent) → From n xs → From n (without a xs)
from_without n a [] h = tt
from_without n a (x ∷ xs) h = by_test (from_without n a xs h.1) (x.address == a)
  where
    by_test : (From n (without a xs)) → (b : Bool) → From n (cond (not b) (x ∷ without a xs) (without a xs))
    by_test more true = more
    by_test more false = (h.0, more)

sorted_without : (a : ℕ) (xs : List Agent) → Sorted xs → Sorted (without a xs)
sorted_without a [] h = tt
sorted_without a (x ∷ xs) h = by_test (sorted_without a xs h.1) (x.address == a)
  where
    by_test : (Sorted (without a xs)) → (b : Bool) → Sorted (cond (not b) (x ∷ without a xs) (without a xs))
    by_test more true = more
    by_test more false = (from_without (rank x) a xs h.0, more)

from_placed : (n : ℕ) (h : Agent) (xs : List Agent) → n ≤ rank h → From n xs → From n (placed_by rank h xs)
from_placed n h [] le f = (le, tt)
from_placed n h (x ∷ xs) le f = by_test (from_placed n h xs le f.1) (nat_lt (rank h) (rank x))
  where
    by_test : (From n (placed_by rank h xs)) → (b : Bool) → From n (cond b (h ∷ (x ∷ xs)) (x ∷ placed_by rank h xs))
    by_test more true = (le, f)
    by_test more false = (f.0, more)

sorted_placed : (h : Agent) (xs : List Agent) → Sorted xs → Sorted (placed_by rank h xs)
sorted_placed h [] s = (tt, tt)
sorted_placed h (x ∷ xs) s = by_test (sorted_placed h xs s.1) (nat_lt (rank h) (rank x)) refl
  where
    by_test : (Sorted (placed_by rank h xs)) → (b : Bool) → nat_lt (rank h) (rank x) ≡ b → Sorted (cond b (h ∷ (x ∷ xs)) (x ∷ placed_by rank h xs))
    by_test more true e =
        let lower : rank h < rank x = ltb-true _ _ e in
        ((omega (arith, lower), from_lower (rank h) (rank x) xs (omega (arith, lower)) s.0), s)
    by_test more false e =
        let higher : rank x ≤ rank h = ltb-false _ _ e in
        (from_placed (rank x) h xs higher s.0, more)

pub sorted_all : (xs : List Agent) → Sorted (ordered_by rank xs)
sorted_all [] = tt
sorted_all (x ∷ xs) = sorted_placed x (ordered_by rank xs) (sorted_all xs)

from_firsts : (n : ℕ) (xs : List Agent) → From n xs → From n (firsts xs)
from_firsts n [] h = tt
from_firsts n (x ∷ xs) h = (h.0, from_without n x.address (firsts xs) (from_firsts n xs h.1))

sorted_firsts : (xs : List Agent) → Sorted xs → Sorted (firsts xs)
sorted_firsts [] h = tt
sorted_firsts (x ∷ xs) h =
    (from_without (rank x) x.address (firsts xs) (from_firsts (rank x) xs h.0), sorted_without x.address (firsts xs) (sorted_firsts xs h.1))

-- # One more beacon among agents

-- before the first that comes later, where its address does not come first
abbrev pub added : Agent → List Agent → List Agent
added h [] = h ∷ []
added h (x ∷ xs) =
    cond (nat_lt (rank h) (rank x)) (h ∷ without h.address (x ∷ xs))
    (cond (x.address == h.address) (x ∷ xs) (x ∷ added h xs))

added_front : (h : Agent) (xs : List Agent) → From (suc (rank h)) xs → added h xs ≡ h ∷ without h.address xs
added_front h [] f = refl
added_front h (x ∷ xs) f =
    let lower : nat_lt (rank h) (rank x) ≡ true = grind (arith, common_steps, f.0) in
    rw lower refl

-- without its address, nothing was added
added_without : (h : Agent) (xs : List Agent) → without h.address (added h xs) ≡ without h.address xs
added_without h [] = let own : (h.address == h.address) ≡ true = grind (arith, common_steps) in rw own refl
added_without h (x ∷ xs) = by_tests (added_without h xs) (nat_lt (rank h) (rank x)) (x.address == h.address) refl refl
  where
    own : (h.address == h.address) ≡ true
    own = grind (arith, common_steps)

    by_tests : (without h.address (added h xs) ≡ without h.address xs) → (b c : Bool) → nat_lt (rank h) (rank x) ≡ b → (x.address == h.address) ≡ c
        → without h.address (cond b (h ∷ without h.address (x ∷ xs)) (cond c (x ∷ xs) (x ∷ added h xs))) ≡ without h.address (x ∷ xs)
    by_tests more true c eb ec = rw own (without_twice h.address (x ∷ xs))
    by_tests more false true eb ec = refl
    by_tests more false false eb ec = rw ec (ap (λ (ys : List Agent). x ∷ ys) (more))

front_all : (h x : Agent) (xs : List Agent) → rank h < rank x → From (rank x) xs → From (suc (rank h)) (x ∷ xs)
front_all h x xs lower f = (omega (arith, lower), from_lower (suc (rank h)) (rank x) xs (omega (arith, lower)) f)

-- what is added goes on beside other addresses
added_beside : (h : Agent) (n : ℕ) (xs : List Agent) → (h.address == n) ≡ false → Sorted xs → without n (added h xs) ≡ added h (without n xs)
added_beside h n [] other s = rw other refl
added_beside h n (x ∷ xs) other s = by_tests (added_beside h n xs other s.1) (nat_lt (rank h) (rank x)) (x.address == h.address) (x.address == n) refl refl refl
  where
    by_tests : (without n (added h xs) ≡ added h (without n xs)) → (b c d : Bool) → nat_lt (rank h) (rank x) ≡ b → (x.address == h.address) ≡ c
        → (x.address == n) ≡ d
        → without n (cond b (h ∷ without h.address (x ∷ xs)) (cond c (x ∷ xs) (x ∷ added h xs))) ≡ added h (without n (x ∷ xs))
    by_tests more true c d eb ec ed =
        let all : From (suc (rank h)) (x ∷ xs) = front_all h x xs (ltb-true _ _ eb) s.0 in
        let right : added h (without n (x ∷ xs))
        ≡ h ∷ without h.address (without n (x ∷ xs)) = added_front h (without n (x ∷ xs)) (from_without (suc (rank h)) n (x ∷ xs) all) in
        rw other (ap (λ (ys : List Agent). h ∷ ys) (without_both n h.address (x ∷ xs))) ∙ sym right
    by_tests more false true true eb ec ed =
        let same : h.address ≡ n = sym (eqb-true _ _ ec) ∙ eqb-true _ _ ed in
        absurd (eqb-false _ _ other same)
    by_tests more false true false eb ec ed = rw (ed, eb, ec) refl
    by_tests more false false true eb ec ed = rw ed (more)
    by_tests more false false false eb ec ed = rw (ed, eb, ec) (ap (λ (ys : List Agent). x ∷ ys) (more))

-- The agents of a list with one more beacon are the agents of the list with it added.
firsts_placed : (h : Agent) (xs : List Agent) → Sorted xs → firsts (placed_by rank h xs) ≡ added h (firsts xs)
firsts_placed h [] s = refl
firsts_placed h (x ∷ xs) s = by_tests (firsts_placed h xs s.1) (nat_lt (rank h) (rank x)) (x.address == h.address) refl refl
  where
    by_tests : (firsts (placed_by rank h xs) ≡ added h (firsts xs)) → (b c : Bool) → nat_lt (rank h) (rank x) ≡ b → (x.address == h.address) ≡ c
        → firsts (cond b (h ∷ (x ∷ xs)) (x ∷ placed_by rank h xs)) ≡ cond b (h ∷ without h.address (x ∷ without x.address (firsts xs)))
        (cond c (x ∷ without x.address (firsts xs)) (x ∷ added h (without x.address (firsts xs))))
    by_tests more true c eb ec = refl
    by_tests more false true eb ec =
        let same : x.address ≡ h.address = eqb-true _ _ ec in
        ap (λ (ys : List Agent). x ∷ without x.address ys) (more)
        ∙ ap (λ (ys : List Agent). x ∷ ys) (subst (λ (n : ℕ). without n (added h (firsts xs)) ≡ without n (firsts xs)) (sym same) (added_without h (firsts xs)))
    by_tests more false false eb ec =
        ap (λ (ys : List Agent). x ∷ without x.address ys) (more)
        ∙ ap (λ (ys : List Agent). x ∷ ys) (added_beside h x.address (firsts xs) (same_test h.address x.address ∙ ec) (sorted_firsts xs s.1))

pub one_more_agent : (h : Agent) (heard : List Agent) → agents_of (h ∷ heard) ≡ added h (agents_of heard)
one_more_agent h heard = firsts_placed h (ordered_by rank heard) (sorted_all heard)

pub agents_sorted : (heard : List Agent) → Sorted (agents_of heard)
agents_sorted heard = sorted_firsts (ordered_by rank heard) (sorted_all heard)

-- # The first agents

-- an address stands nowhere in a list
abbrev pub Free : ℕ → List Agent → Type 0
Free n [] = Unit {0}
Free n (x ∷ xs) = ((x.address == n) ≡ false) × Free n xs

abbrev pub Distinct : List Agent → Type 0
Distinct [] = Unit {0}
Distinct (x ∷ xs) = Free x.address xs × Distinct xs

free_gone : (n : ℕ) (xs : List Agent) → Free n (without n xs)
free_gone n [] = tt
free_gone n (x ∷ xs) = by_test (free_gone n xs) (x.address == n) refl
  where
    by_test : (Free n (without n xs)) → (b : Bool) → (x.address == n) ≡ b → Free n (cond (not b) (x ∷ without n xs) (without n xs))
    by_test more true e = more
    by_test more false e = (e, more)

free_without : (m n : ℕ) (xs : List Agent) → Free m xs → Free m (without n xs)
free_without m n [] f = tt
free_without m n (x ∷ xs) f = by_test (free_without m n xs f.1) (x.address == n)
  where
    by_test : (Free m (without n xs)) → (b : Bool) → Free m (cond (not b) (x ∷ without n xs) (without n xs))
    by_test more true = more
    by_test more false = (f.0, more)

distinct_without : (n : ℕ) (xs : List Agent) → Distinct xs → Distinct (without n xs)
distinct_without n [] d = tt
distinct_without n (x ∷ xs) d = by_test (distinct_without n xs d.1) (x.address == n)
  where
    by_test : (Distinct (without n xs)) → (b : Bool) → Distinct (cond (not b) (x ∷ without n xs) (without n xs))
    by_test more true = more
    by_test more false = (free_without x.address n xs d.0, more)

pub distinct_firsts : (xs : List Agent) → Distinct (firsts xs)
distinct_firsts [] = tt
distinct_firsts (x ∷ xs) = (free_gone x.address (firsts xs), distinct_without x.address (firsts xs) (distinct_firsts xs))

pub agents_distinct : (heard : List Agent) → Distinct (agents_of heard)
agents_distinct heard = distinct_firsts (ordered_by rank heard)

free_without_same : (n : ℕ) (xs : List Agent) → Free n xs → without n xs ≡ xs
free_without_same n [] f = refl
free_without_same n (x ∷ xs) f = rw f.0 (ap (λ (ys : List Agent). x ∷ ys) (free_without_same n xs f.1))

free_take : (n k : ℕ) (xs : List Agent) → Free n xs → Free n (take k xs)
free_take n zero xs f = tt
free_take n (suc k) [] f = tt
free_take n (suc k) (x ∷ xs) f = (f.0, free_take n k xs f.1)

from_take : (n k : ℕ) (xs : List Agent) → From n xs → From n (take k xs)
from_take n zero xs f = tt
from_take n (suc k) [] f = tt
from_take n (suc k) (x ∷ xs) f = (f.0, from_take n k xs f.1)

pub sorted_take : (k : ℕ) (xs : List Agent) → Sorted xs → Sorted (take k xs)
sorted_take zero xs s = tt
sorted_take (suc k) [] s = tt
sorted_take (suc k) (x ∷ xs) s = (from_take (rank x) k xs s.0, sorted_take k xs s.1)

pub take_first : (k : ℕ) (xs : List Agent) → take k (take k xs) ≡ take k xs
take_first zero xs = refl
take_first (suc k) [] = refl
take_first (suc k) (x ∷ xs) = ap (λ (ys : List Agent). x ∷ ys) (take_first k xs)

-- where one address is left out, one more than the first k is enough for the first k
left_out : (n k : ℕ) (xs : List Agent) → Distinct xs → take k (without n xs) ≡ take k (without n (take (suc k) xs))
left_out n zero xs d = refl
left_out n (suc k) [] d = refl
left_out n (suc k) (x ∷ xs) d = by_test (left_out n k xs d.1) (x.address == n) refl
  where
    by_test : (take k (without n xs) ≡ take k (without n (take (suc k) xs))) → (b : Bool) → (x.address == n) ≡ b
        → take (suc k) (cond (not b) (x ∷ without n xs) (without n xs))
        ≡ take (suc k) (cond (not b) (x ∷ without n (take (suc k) xs)) (without n (take (suc k) xs)))
    by_test more true e =
        let free : Free n xs = subst (λ (m : ℕ). Free m xs) (eqb-true _ _ e) d.0 in
        ap (take (suc k)) (free_without_same n xs free) ∙ sym (take_first (suc k) xs)
        ∙ ap (take (suc k)) (sym (free_without_same n (take (suc k) xs) (free_take n (suc k) xs free)))
    by_test more false e = ap (λ (ys : List Agent). x ∷ ys) (more)

-- The first k with one more added follow from the first k.
pub added_first : (h : Agent) (k : ℕ) (xs : List Agent) → Distinct xs → take k (added h xs) ≡ take k (added h (take k xs))
added_first h zero xs d = refl
added_first h (suc k) [] d = refl
added_first h (suc k) (x ∷ xs) d = by_tests (added_first h k xs d.1) (nat_lt (rank h) (rank x)) (x.address == h.address) refl
  where
    by_tests : (take k (added h xs) ≡ take k (added h (take k xs))) → (b c : Bool) → (x.address == h.address) ≡ c
        → take (suc k) (cond b (h ∷ without h.address (x ∷ xs)) (cond c (x ∷ xs) (x ∷ added h xs)))
        ≡ take (suc k) (cond b (h ∷ without h.address (x ∷ take k xs)) (cond c (x ∷ take k xs) (x ∷ added h (take k xs))))
    by_tests more true c e = ap (λ (ys : List Agent). h ∷ ys) (left_out h.address k (x ∷ xs) d)
    by_tests more false true e = ap (λ (ys : List Agent). x ∷ ys) (sym (take_first k xs))
    by_tests more false false e = ap (λ (ys : List Agent). x ∷ ys) (more)

-- # What the table does

-- whether a beacon has nothing new for those who come later
known_later : (h : Agent) (xs : List Agent) → From (suc (rank h)) xs → list_any (is_known_by h) xs ≡ false
known_later h [] f = refl
known_later h (x ∷ xs) f = by_test (known_later h xs f.1) (h.address == x.address) refl
  where
    by_test : (list_any (is_known_by h) xs ≡ false) → (b : Bool) → (h.address == x.address) ≡ b
        → ((b && nat_le x.total h.total) || list_any (is_known_by h) xs) ≡ false
    by_test more true e =
        let same : h.address ≡ x.address = eqb-true _ _ e in
        let dearer : nat_le x.total h.total ≡ false = grind (arith, common_steps, f.0, same) in
        rw dearer (more)
    by_test more false e = more

placed_front : (h : Agent) (xs : List Agent) → From (suc (rank h)) xs → placed_by rank h xs ≡ h ∷ xs
placed_front h [] f = refl
placed_front h (x ∷ xs) f =
    let lower : nat_lt (rank h) (rank x) ≡ true = grind (arith, common_steps, f.0) in
    rw lower refl

behind : (h x : Agent) (xs : List Agent) (k : Bool) → nat_lt (rank h) (rank x) ≡ false
    → x ∷ cond k xs (placed_by rank h (without h.address xs)) ≡ cond k (x ∷ xs) (placed_by rank h (x ∷ without h.address xs))
behind h x xs true e = refl
behind h x xs false e = rw e refl

-- what is added stands at its new place, unless it has nothing new
pub added_is : (h : Agent) (xs : List Agent) → Sorted xs
    → added h xs ≡ cond (list_any (is_known_by h) xs) xs (placed_by rank h (without h.address xs))
added_is h [] s = refl
added_is h (x ∷ xs) s = by_tests (added_is h xs s.1) (nat_lt (rank h) (rank x)) (x.address == h.address) refl refl
  where
    by_tests : (added h xs ≡ cond (list_any (is_known_by h) xs) xs (placed_by rank h (without h.address xs))) → (b c : Bool) → nat_lt (rank h) (rank x) ≡ b
        → (x.address == h.address) ≡ c
        → cond b (h ∷ without h.address (x ∷ xs)) (cond c (x ∷ xs) (x ∷ added h xs))
        ≡ cond (list_any (is_known_by h) (x ∷ xs)) (x ∷ xs) (placed_by rank h (without h.address (x ∷ xs)))
    by_tests more true c eb ec =
        let all : From (suc (rank h)) (x ∷ xs) = front_all h x xs (ltb-true _ _ eb) s.0 in
        let new : list_any (is_known_by h) (x ∷ xs) ≡ false = known_later h (x ∷ xs) all in
        rw new (sym (placed_front h (without h.address (x ∷ xs)) (from_without (suc (rank h)) h.address (x ∷ xs) all)))
    by_tests more false true eb ec =
        let same : x.address ≡ h.address = eqb-true _ _ ec in
        let there : (h.address == x.address) ≡ true = same_test h.address x.address ∙ ec in
        let higher : rank x ≤ rank h = ltb-false _ _ eb in
        let cheaper : nat_le x.total h.total ≡ true = grind (arith, common_steps, higher, same) in
        rw (there, cheaper) refl
    by_tests more false false eb ec =
        let other : (h.address == x.address) ≡ false = same_test h.address x.address ∙ ec in
        rw (other, ec) (ap (λ (ys : List Agent). x ∷ ys) (more) ∙ behind h x xs (list_any (is_known_by h) xs) eb)
