-- The last item that is the one sought, as items are added and left out.
use Rattle.std.proofs.Common.{◌≡◌, inl, inr, ℕ, zero, suc, ◌+◌, ◌-◌, ◌<◌, ◌≤◌, List, [], ◌∷◌, ◌++◌, length, map, take, Some, refl, sym, ap, subst, ◌∙◌, arith}
use Rattle.std.proofs.Common.{length-append, length-take}
use Rattle.std.specs.Prelude.{slice_get, slice_index}
use Rattle.std.specs.Prelude.{Result, Ok, Err, IsOk, is_ok, if◌then◌else◌}
use Rattle.std.specs.Option.{option_map}
use Rattle.std.proofs.lemmas.Bool.{cases_lt}
use Rattle.std.proofs.lemmas.List.{length-map, take-map, take-take}
use Rattle.std.proofs.lemmas.Option.{slice_get_within, slice_get-map, get_or_from_slice_get}
use Rattle.octet_log.specs.LogChains.{chain_of}
use Rattle.octet_log.specs.Logs.{IsLast}

pub got_left : {X : Type 0} (xs ys : List X) (k : ℕ) → k < length xs → slice_get (xs ++ ys) k ≡ slice_get xs k
got_left [] ys k within = absurd (omega (arith, within))
got_left (x ∷ xs) ys zero within = refl
got_left (x ∷ xs) ys (suc k) within = got_left xs ys k (omega (arith, within))

pub got_last : {X : Type 0} (xs : List X) (y : X) (k : ℕ) → length xs ≡ k → slice_get (xs ++ y ∷ []) k ≡ Some y
got_last [] y zero e = refl
got_last [] y (suc k) e = absurd (omega (arith, e))
got_last (x ∷ xs) y zero e = absurd (omega (arith, e))
got_last (x ∷ xs) y (suc k) e = got_last xs y k (omega (arith, e))

pub got_take : {X : Type 0} (n : ℕ) (xs : List X) (k : ℕ) → k < n → slice_get (take n xs) k ≡ slice_get xs k
got_take zero xs k within = absurd (omega (arith, within))
got_take (suc n) [] k within = refl
got_take (suc n) (x ∷ xs) zero within = refl
got_take (suc n) (x ∷ xs) (suc k) within = got_take n xs k (omega (arith, within))

-- one more item, another one
pub other_pushed : {X : Type 0} (items : List X) (item other : X) (n : ℕ) → (other ≡ item → ⊥) → IsLast items item n → IsLast (items ++ other ∷ []) item n
other_pushed items item other n differs is = record {
  within = omega (arith, is.within, length-append items (other ∷ []));
  here = λ some. got_left items (other ∷ []) (n - 1) (omega (arith, is.within, some)) ∙ is.here some;
  none = λ k low e. elim (cases_lt k (length items)) [
    | inl before ↦ is.none k low (sym (got_left items (other ∷ []) k before) ∙ e)
    | inr behind ↦
        let inside = slice_get_within (items ++ other ∷ []) k item e in
        let last : length items ≡ k = omega (arith, behind, inside, length-append items (other ∷ [])) in
        let same : Some other ≡ Some item = sym (got_last items other k last) ∙ e in differs cc
  ];
}

-- one more item, the one sought
pub own_pushed : {X : Type 0} (items : List X) (item : X) (n : ℕ) → n ≡ length items + 1 → IsLast (items ++ item ∷ []) item n
own_pushed items item n e = record {
  within = omega (arith, e, length-append items (item ∷ []));
  here = λ some. got_last items item (n - 1) (omega (arith, e));
  none = λ k low same. absurd (omega (arith, e, low, slice_get_within (items ++ item ∷ []) k item same, length-append items (item ∷ [])));
}

pub one_is_last : {X : Type 0} (items : List X) (item : X) (m n : ℕ) → IsLast items item m → IsLast items item n → m ≡ n
one_is_last items item m n first second = elim (cases_lt m n) [
  | inl below ↦ absurd (first.none (n - 1) (omega (arith, below)) (second.here (omega (arith, below))))
  | inr above ↦ elim (cases_lt n m) [
    | inl below ↦ absurd (second.none (m - 1) (omega (arith, below)) (first.here (omega (arith, below))))
    | inr other ↦ omega (arith, above, other)
  ]
]

chain_at : (strings : List (List ℕ)) (k : ℕ) (octets : List ℕ) → slice_get strings k ≡ Some octets → slice_get (map chain_of strings) k ≡ Some (chain_of octets)
chain_at strings k octets e = slice_get-map chain_of strings k ∙ ap (option_map chain_of) e

pub chain_index : (strings : List (List ℕ)) (k : ℕ) (octets : List ℕ) → slice_get strings k ≡ Some octets
    → slice_index (map chain_of strings) k ≡ chain_of octets
chain_index strings k octets e = get_or_from_slice_get (map chain_of strings) k (chain_of octets) 0 (chain_at strings k octets e)

-- what is last up to the last number of its chain is last
pub last_in_chain : (strings : List (List ℕ)) (octets : List ℕ) (from n : ℕ) → IsLast (map chain_of strings) (chain_of octets) from
    → IsLast (take from strings) octets n → IsLast strings octets n
last_in_chain strings octets from n chained is =
    let cut = length-take from strings in record {
      within = omega (arith, is.within, cut);
      here = λ some. sym (got_take from strings (n - 1) (omega (arith, some, is.within, cut))) ∙ is.here some;
      none = λ k low e. elim (cases_lt k from) [
        | inl before ↦ is.none k low (got_take from strings k before ∙ e)
        | inr behind ↦ chained.none k behind (chain_at strings k octets e)
      ];
    }

-- what is last up to the number before in its chain is last among those before
pub last_before : (strings : List (List ℕ)) (octets : List ℕ) (count from n : ℕ) → IsLast (take count (map chain_of strings)) (chain_of octets) from
    → count ≤ length strings
    → IsLast (take from strings) octets n → IsLast (take count strings) octets n
last_before strings octets count from n chained within is =
    let cut : length (take count (map chain_of strings))
    ≡ count = omega (arith, length-take count (map chain_of strings), length-map strings chain_of, within) in
    let order : from ≤ count = omega (arith, chained.within, cut) in
    last_in_chain (take count strings) octets from n
    (subst (λ (cs : List ℕ). IsLast cs (chain_of octets) from) (take-map chain_of count strings) chained)
    (subst (λ (ss : List (List ℕ)). IsLast ss octets n) (sym (take-take from count strings order)) is)

-- # The search from a number down its chain

-- none is the one sought from a number on, which is in the chain of the octets
pub record IsSought (strings : List (List ℕ)) (octets : List ℕ) (from number : ℕ) : Type 0 where
  pub upto : number ≤ from
  pub chain : 0 < number → slice_get (map chain_of strings) (number - 1) ≡ Some (chain_of octets)
  pub none : (k : ℕ) → number ≤ k → k < from → slice_get strings k ≡ Some octets → ⊥

-- the number before in the chain
pub sought_before : (strings : List (List ℕ)) (octets : List ℕ) (from number before : ℕ) → IsSought strings octets from number → 0 < number
    → from ≤ length strings
    → (slice_get strings (number - 1) ≡ Some octets → ⊥)
    → IsLast (take (number - 1) (map chain_of strings)) (slice_index (map chain_of strings) (number - 1)) before
    → IsSought strings octets from before
sought_before strings octets from number before was some within differs is =
    let cut = length-take (number - 1) (map chain_of strings) in
    let count = length-map strings chain_of in
    let order : before ≤ number - 1 = omega (arith, is.within, cut) in
    let chain : slice_index (map chain_of strings) (number - 1)
    ≡ chain_of octets = get_or_from_slice_get (map chain_of strings) (number - 1) (chain_of octets) 0 (was.chain some) in
    let last = subst (λ c. IsLast (take (number - 1) (map chain_of strings)) c before) chain is in record {
      upto = omega (arith, order, was.upto);
      chain = λ positive. sym (got_take (number - 1) (map chain_of strings) (before - 1) (omega (arith, positive, order))) ∙ last.here positive;
      none = λ k low high e. elim (cases_lt k number) [
        | inl below ↦ elim (cases_lt k (number - 1)) [
          | inl earlier ↦ last.none k low (got_take (number - 1) (map chain_of strings) k earlier ∙ chain_at strings k octets e)
          | inr later ↦ let same : k ≡ number - 1 = omega (arith, below, later) in differs (sym (ap (λ j. slice_get strings j) same) ∙ e)
        ]
        | inr above ↦ was.none k above high e
      ];
    }

-- the number that ends the search
pub sought_ends : (strings : List (List ℕ)) (octets : List ℕ) (from number : ℕ) → IsSought strings octets from number → from ≤ length strings
    → (0 < number → slice_get strings (number - 1) ≡ Some octets) → IsLast (take from strings) octets number
sought_ends strings octets from number was within here =
    let cut = length-take from strings in record {
      within = omega (arith, was.upto, cut, within);
      here = λ some. got_take from strings (number - 1) (omega (arith, some, was.upto)) ∙ here some;
      none = λ k low e. let inside = slice_get_within (take from strings) k octets e in
          let high : k < from = omega (arith, inside, cut) in was.none k low high (sym (got_take from strings k high) ∙ e);
    }

pub if_ok : {T E X : Type 0} (r : Result T E) (more same new : X) → IsOk r → new ≡ (if is_ok r then more else same) → new ≡ more
if_ok (Ok t) more same new ok e = e
if_ok (Err t) more same new ok e = absurd cc
