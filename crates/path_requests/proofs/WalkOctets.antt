-- Walks: their octets, and what one more address makes of them.
use Rattle.std.proofs.Common.{◌≡◌, ◌<◌, ◌≤◌, ◌==◌, ℕ, zero, suc, ◌+◌, ◌*◌, Bool, true, false, List, [], ◌∷◌, ◌++◌, length, take, get_or, ◌-◌, refl, sym, ap}
use Rattle.std.proofs.Common.{◌∙◌, append_assoc, arith}
use Rattle.std.specs.Prelude.{not, ◌&&◌, ◌||◌}
use Rattle.std.specs.List.{list_all}
use Rattle.std.proofs.lemmas.Bool.{and_parts, ltb-true}
use Rattle.std.proofs.lemmas.Grind.{common_steps}
use Rattle.std.proofs.lemmas.List.{length-append, length-take-le, take_more}
use Rattle.std.proofs.lemmas.List.Folds.{list_all-append, list_any-append}
use Rattle.byteorder.specs.Endian.{big_bytes}
use Rattle.plc_base.specs.Addresses.{is_address}
use Rattle.plc_base.specs.Fields.{AreOctets, after, two}
use Rattle.plc_base.proofs.Places.{two_behind, two_then}
use Rattle.path_requests.specs.Walks.{has, are_distinct, is_walk, walk_octets, walk_at}

-- # One more address

pub same_both : (a b : ℕ) → (a == b) ≡ (b == a)
same_both a b = grind (arith, common_steps)

has_more : (x : ℕ) (walk : List ℕ) (a : ℕ) → has x (walk ++ a ∷ []) ≡ (has x walk || ((a == x) || false))
has_more x walk a = list_any-append (λ b. b == x) walk (a ∷ [])

distinct_table : (p q d h : Bool) → (not (p || (q || false)) && (d && not h)) ≡ ((not p && d) && not (q || h))
distinct_table true q d h = refl
distinct_table false true true h = refl
distinct_table false true false h = refl
distinct_table false false d h = refl

distinct_more : (walk : List ℕ) (a : ℕ) → are_distinct (walk ++ a ∷ []) ≡ (are_distinct walk && not (has a walk))
distinct_more [] a = refl
distinct_more (x ∷ walk) a =
    let others : has x (walk ++ a ∷ [])
    ≡ (has x walk || ((x == a) || false)) = has_more x walk a ∙ ap (λ (q : Bool). has x walk || (q || false)) (same_both a x) in
    let rest = distinct_more walk a in
    (λ i. not (others i) && rest i) ∙ distinct_table (has x walk) (x == a) (are_distinct walk) (has a walk)

walk_table : (l b d n : Bool) → ((l && (b && true)) && (d && n)) ≡ ((l && d) && (b && n))
walk_table false b d n = refl
walk_table true true true n = refl
walk_table true true false n = refl
walk_table true false true n = refl
walk_table true false false n = refl

pub walk_more : (walk : List ℕ) (a : ℕ) → is_walk (walk ++ a ∷ []) ≡ (is_walk walk && (is_address a && not (has a walk)))
walk_more walk a =
    let all = list_all-append is_address walk (a ∷ []) in
    let distinct = distinct_more walk a in
    (λ i. all i && distinct i) ∙ walk_table (list_all is_address walk) (is_address a) (are_distinct walk) (not (has a walk))

-- # Addresses in octets

at_more : (n at : ℕ) (octets : List ℕ) → walk_at (suc n) at octets ≡ walk_at n at octets ++ two (at + 2 * n) octets ∷ []
at_more zero at octets = ap (λ (p : ℕ). two p octets ∷ []) (let same : at ≡ at + 2 * 0 = omega arith in same)
at_more (suc n) at octets =
    let place : at + 2 + 2 * n ≡ at + 2 * suc n = omega arith in
    ap (λ (ws : List ℕ). two at octets ∷ ws) (at_more n (at + 2) octets ∙ ap (λ (p : ℕ). walk_at n (at + 2) octets ++ two p octets ∷ []) place)

pub one_more : (n at : ℕ) (octets : List ℕ) → walk_at (n + 1) at octets ≡ walk_at n at octets ++ two (at + 2 * n) octets ∷ []
one_more n at octets = ap (λ (k : ℕ). walk_at k at octets) (let same : n + 1 ≡ suc n = omega arith in same) ∙ at_more n at octets

pub length-walk_at : (n at : ℕ) (octets : List ℕ) → length (walk_at n at octets) ≡ n
length-walk_at zero at octets = refl
length-walk_at (suc n) at octets = ap suc (length-walk_at n (at + 2) octets)

and_false : (b : Bool) → (b && false) ≡ false
and_false true = refl
and_false false = refl

-- a walk that is none stays none with more addresses
pub stays_none : (m n at : ℕ) (octets : List ℕ) → is_walk (walk_at n at octets) ≡ false → is_walk (walk_at (m + n) at octets) ≡ false
stays_none zero n at octets none = ap (λ (k : ℕ). is_walk (walk_at k at octets)) (let same : 0 + n ≡ n = omega arith in same) ∙ none
stays_none (suc m) n at octets none =
    let place : suc m + n ≡ suc (m + n) = omega arith in
    ap (λ (k : ℕ). is_walk (walk_at k at octets)) place ∙ ap is_walk (at_more (m + n) at octets)
    ∙ walk_more (walk_at (m + n) at octets) (two (at + 2 * (m + n)) octets)
    ∙ ap (λ (b : Bool). b && (is_address (two (at + 2 * (m + n)) octets) && not (has (two (at + 2 * (m + n)) octets) (walk_at (m + n) at octets))))
    (stays_none m n at octets none)

-- one more address of a walk that is read, and one that makes it none
pub extended : (walk new : List ℕ) (k at : ℕ) (octets : List ℕ) → walk ≡ walk_at k at octets → is_walk walk ≡ true
    → (is_address (two (at + 2 * k) octets) && not (has (two (at + 2 * k) octets) walk)) ≡ true → new ≡ walk ++ two (at + 2 * k) octets ∷ []
    → (new ≡ walk_at (k + 1) at octets) × (is_walk new ≡ true) × (length new ≡ length walk + 1)
extended walk new k at octets here is fits longer =
    let last : ℕ = two (at + 2 * k) octets in (
      longer ∙ ap (λ (w : List ℕ). w ++ last ∷ []) here ∙ sym (one_more k at octets),
      ap is_walk longer ∙ walk_more walk last ∙ rw (is, fits) refl,
      ap length longer ∙ length-append walk (last ∷ []),
    )

pub not_extended : (walk : List ℕ) (k count at : ℕ) (octets : List ℕ) → walk ≡ walk_at k at octets → k < count
    → (is_address (two (at + 2 * k) octets) && not (has (two (at + 2 * k) octets) walk)) ≡ false → is_walk (walk_at count at octets) ≡ false
not_extended walk k count at octets here more fits =
    let last : ℕ = two (at + 2 * k) octets in
    let longer : walk_at (k + 1) at octets ≡ walk ++ last ∷ [] = one_more k at octets ∙ ap (λ (w : List ℕ). w ++ last ∷ []) (sym here) in
    let none : is_walk (walk_at (k + 1) at octets)
    ≡ false = ap is_walk longer ∙ walk_more walk last ∙ ap (λ (b : Bool). is_walk walk && b) fits ∙ and_false (is_walk walk) in
    let place : count ≡ (count - (k + 1)) + (k + 1) = omega arith in
    ap (λ (n : ℕ). is_walk (walk_at n at octets)) place ∙ stays_none (count - (k + 1)) (k + 1) at octets none

-- # The octets of a walk

pub octets_more : (walk : List ℕ) (a : ℕ) → walk_octets (walk ++ a ∷ []) ≡ walk_octets walk ++ big_bytes 2 a
octets_more [] a = refl
octets_more (x ∷ walk) a = ap (λ (o : List ℕ). big_bytes 2 x ++ o) (octets_more walk a)

pub length-walk_octets : (walk : List ℕ) → length (walk_octets walk) ≡ 2 * length walk
length-walk_octets [] = refl
length-walk_octets (a ∷ walk) = omega (arith, length-walk_octets walk)

-- one more address that is written
pub written_more : (front addresses out : List ℕ) (i x : ℕ) → i < length addresses → x ≡ get_or addresses i x → out ≡ front ++ walk_octets (take i addresses)
    → out ++ big_bytes 2 x ≡ front ++ walk_octets (take (i + 1) addresses)
written_more front addresses out i x within is so_far =
    let more : take (i + 1) addresses ≡ take i addresses ++ x ∷ [] = take_more addresses i x within ∙ ap (λ (y : ℕ). take i addresses ++ y ∷ []) (sym is) in
    ap (λ (o : List ℕ). o ++ big_bytes 2 x) so_far ∙ append_assoc front (walk_octets (take i addresses)) (big_bytes 2 x)
    ∙ ap (λ (o : List ℕ). front ++ o) (sym (octets_more (take i addresses) x) ∙ ap walk_octets (sym more))

pub written_room : (front addresses out : List ℕ) (i : ℕ) → i < length addresses → out ≡ front ++ walk_octets (take i addresses)
    → length front + 2 * length addresses ≤ 400 → length out + 2 ≤ 400
written_room front addresses out i within so_far fits =
    let long : length out ≡ length front + length (walk_octets (take i addresses)) = ap length so_far ∙ length-append front (walk_octets (take i addresses)) in
    omega (arith, long, length-walk_octets (take i addresses), length-take-le i addresses (omega arith))

-- a walk that is spelled is read
pub walk_behind : (front walk rest : List ℕ) → list_all is_address walk ≡ true
    → walk_at (length walk) (length front) (front ++ (walk_octets walk ++ rest)) ≡ walk
walk_behind front [] rest all = refl
walk_behind front (a ∷ walk) rest all =
    let parts = and_parts (is_address a) (list_all is_address walk) all in
    let low = ltb-true _ _ parts.0 in
    let others : List ℕ = walk_octets walk ++ rest in
    let first : two (length front) (front ++ (big_bytes 2 a ++ others)) ≡ a = two_behind front a others (omega arith) in
    let long : length front + 2 ≡ length (front ++ big_bytes 2 a) = omega (arith, length-append front (big_bytes 2 a)) in
    let same : front ++ (big_bytes 2 a ++ others) ≡ (front ++ big_bytes 2 a) ++ others = sym (append_assoc front (big_bytes 2 a) others) in
    let tail : walk_at (length walk) (length front + 2) (front ++ (big_bytes 2 a ++ others)) ≡ walk =
    (λ i. walk_at (length walk) (long i) (same i)) ∙ walk_behind (front ++ big_bytes 2 a) walk rest parts.1 in
    λ i. first i ∷ tail i

-- octets are those of the walk that is read out of them, and what follows it
pub walk_then : (n at : ℕ) (octets : List ℕ) → AreOctets octets → at + 2 * n ≤ length octets
    → after at octets ≡ walk_octets (walk_at n at octets) ++ after (at + 2 * n) octets
walk_then zero at octets fits within = ap (λ (p : ℕ). after p octets) (let same : at ≡ at + 2 * 0 = omega arith in same)
walk_then (suc n) at octets fits within =
    let place : at + 2 + 2 * n ≡ at + 2 * suc n = omega arith in
    two_then at octets fits (omega arith)
    ∙ ap (λ (o : List ℕ). big_bytes 2 (two at octets) ++ o)
    (walk_then n (at + 2) octets fits (omega arith) ∙ ap (λ (p : ℕ). walk_octets (walk_at n (at + 2) octets) ++ after p octets) place)
