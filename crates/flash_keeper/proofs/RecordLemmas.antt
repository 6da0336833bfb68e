-- What a record is depends on its own words alone, and what a program of one leaves.
use Rattle.std.proofs.Common.{◌≡◌, ◌⊎◌, inl, inr, ℕ, zero, suc, ◌+◌, ◌*◌, ◌/◌, ◌%◌, ◌^◌, ◌<◌, ◌≤◌, ◌==◌, Bool, true, List}
use Rattle.std.proofs.Common.{[], ◌++◌, take, drop, length, Some, refl, sym, subst, ap, ◌∙◌, arith}
use Rattle.std.proofs.lemmas.Bool.Decides.{nat_tests}
use Rattle.std.proofs.lemmas.List.{take-append-drop, take-take, drop-take}
use Rattle.byteorder.specs.Endian.{big_bytes}
use Rattle.flash_keeper.specs.Check.{check_of}
use Rattle.flash_keeper.specs.Flash.{Word, Bank, Programs}
use Rattle.flash_keeper.specs.Log.{SameOutside}
use Rattle.flash_keeper.specs.Records.{value, low_at, slot_at, length_at, octets_from, body_at, octets_at, has_check, IsFirm, IsReadable, IsWhole, HasRecord}

-- the words of a record of n words beside its head are the same
abbrev pub SameRecord : (ℕ → Word) → (ℕ → Word) → ℕ → ℕ → Type 0
SameRecord w v at n = (i : ℕ) → at ≤ i → i < at + 1 + n → v i ≡ w i

pub firm-same : {x y : Word} → y ≡ x → IsFirm x → IsFirm y
firm-same {x} {y} e h = subst (λ (z : Word). z ≡ Some (value z)) (sym e) h

pub firm_of : (x : Word) (n : ℕ) → x ≡ Some n → IsFirm x
firm_of x n e = e ∙ ap (λ (y : Word). Some (value y)) (sym e)

pub octets_from-same : (w v : ℕ → Word) (at n : ℕ) → ((i : ℕ) → i < n → v (at + i) ≡ w (at + i)) → octets_from v at n ≡ octets_from w at n
unfolding octets_from
octets_from-same w v at zero h = refl
octets_from-same w v at (suc n) h =
    let front = octets_from-same w v at n (λ i le. h i (omega (arith, le))) in
    let last = h n (omega arith) in
    λ i. front i ++ big_bytes 8 (value (last i))

-- one more, as the code counts
pub succ : (n : ℕ) → n + 1 ≡ suc n
succ n = omega arith

pub octets_from-suc : (w : ℕ → Word) (at n : ℕ) → octets_from w at (n + 1) ≡ octets_from w at n ++ big_bytes 8 (value (w (at + n)))
unfolding octets_from
octets_from-suc w at n = ap (octets_from w at) (succ n)

pub octets_from-zero : (w : ℕ → Word) (at : ℕ) → octets_from w at 0 ≡ []
unfolding octets_from
octets_from-zero w at = refl

pub low_at-same : (w v : ℕ → Word) (at : ℕ) → v at ≡ w at → low_at v at ≡ low_at w at
low_at-same w v at h = ap (λ (x : Word). value x % 0x100000000) h

pub head-same : (w v : ℕ → Word) (at n : ℕ) → SameRecord w v at n → v at ≡ w at
head-same w v at n h = h at (omega arith) (omega arith)

pub body_at-same : (w v : ℕ → Word) (at n : ℕ) → SameRecord w v at n → body_at v at n ≡ body_at w at n
body_at-same w v at n h = octets_from-same w v (at + 1) n (λ i le. h (at + 1 + i) (omega arith) (omega (arith, le)))

pub octets_at-same : (w v : ℕ → Word) (at n : ℕ) → SameRecord w v at n → octets_at v at n ≡ octets_at w at n
octets_at-same w v at n h =
    let low = low_at-same w v at (head-same w v at n h) in
    let body = body_at-same w v at n h in
    λ i. take (low i % 65) (body i)

pub slot_at-same : (w v : ℕ → Word) (at n : ℕ) → SameRecord w v at n → slot_at v at ≡ slot_at w at
slot_at-same w v at n h = ap (λ (m : ℕ). m / 65) (low_at-same w v at (head-same w v at n h))

pub has_check-same : (w v : ℕ → Word) (at n : ℕ) → SameRecord w v at n → has_check v at n ≡ has_check w at n
has_check-same w v at n h =
    let head = head-same w v at n h in
    let low = low_at-same w v at head in
    let body = body_at-same w v at n h in
    λ i. value (head i) / 0x100000000 == check_of (low i) (body i)

pub readable-same : (w v : ℕ → Word) (at n : ℕ) → SameRecord w v at n → IsReadable w at n → IsReadable v at n
readable-same w v at n h x = record {
  head = firm-same (head-same w v at n h) x.head;
  body = λ i le. firm-same (h (at + 1 + i) (omega arith) (omega (arith, le))) (x.body i le);
}

pub whole-same : (w v : ℕ → Word) (at n : ℕ) → SameRecord w v at n → IsWhole w at n → IsWhole v at n
whole-same w v at n h x = record {
  readable = readable-same w v at n h x.readable;
  more = subst (λ (m : ℕ). 0 < m) (sym (slot_at-same w v at n h)) x.more;
  slot = subst (λ (m : ℕ). m < 2 ^ 16) (sym (slot_at-same w v at n h)) x.slot;
  check = has_check-same w v at n h ∙ x.check;
}

pub record-same : (w v : ℕ → Word) (at n slot : ℕ) (octets : List ℕ) → SameRecord w v at n → HasRecord w at n slot octets → HasRecord v at n slot octets
record-same w v at n slot octets h x = record {
  whole = whole-same w v at n h x.whole;
  slot_is = slot_at-same w v at n h ∙ x.slot_is;
  octets_is = octets_at-same w v at n h ∙ x.octets_is;
}

pub less_or_same : (m n : ℕ) → n ≤ m → (n < m) ⊎ (n ≡ m)
less_or_same zero zero le = inr refl
less_or_same zero (suc n) le = absurd (omega (arith, le))
less_or_same (suc m) zero le = inl (omega arith)
less_or_same (suc m) (suc n) le = elim (less_or_same m n (omega (arith, le))) [
  | inl less ↦ inl (omega (arith, less))
  | inr same ↦ inr (ap suc same)
]

take_sum : (n m : ℕ) (xs : List ℕ) → take (n + m) xs ≡ take n xs ++ take m (drop n xs)
take_sum n m xs =
    let front = take-take n (n + m) xs (omega arith) in
    let back = drop-take n m xs in
    sym (take-append-drop n (take (n + m) xs)) ∙ (λ i. front i ++ back i)

-- one word more of the octets of a record
pub one_more_word : (init old new : Bank) (at i word : ℕ) (octets : List ℕ) → Programs (at + i) word true old new → SameOutside at (at + i) init old
    → octets_from old.words at i ≡ take (8 * i) octets
    → ((j : ℕ) → j < i → IsFirm (old.words (at + j))) → big_bytes 8 word ≡ take 8 (drop (8 * i) octets)
    → SameOutside at (at + (i + 1)) init new × (octets_from new.words at (i + 1) ≡ take (8 * (i + 1)) octets) × ((j : ℕ) → j < i + 1
    → IsFirm (new.words (at + j)))
one_more_word init old new at i word octets p same spelled body is =
    let front = octets_from-same old.words new.words at i (λ j le. p.others (at + j) (λ e. omega (arith, le, e))) ∙ spelled in
    let last : big_bytes 8 (value (new.words (at + i))) ≡ take 8 (drop (8 * i) octets) = ap (λ (x : Word). big_bytes 8 (value x)) (p.done refl) ∙ is in
    let next : 8 * i + 8 ≡ 8 * (i + 1) = omega arith in
    (outside, octets_from-suc new.words at i ∙ (λ k. front k ++ last k) ∙ sym (take_sum (8 * i) 8 octets) ∙ ap (λ (n : ℕ). take n octets) next, firm)
  where
    outside : (j : ℕ) → (j < at) ⊎ (at + (i + 1) ≤ j) → new.words j ≡ init.words j
    outside j (inl le) = p.others j (λ e. omega (arith, le, e)) ∙ same j (inl le)
    outside j (inr le) = p.others j (λ e. omega (arith, le, e)) ∙ same j (inr (omega (arith, le)))

    firm : (j : ℕ) → j < i + 1 → IsFirm (new.words (at + j))
    firm j le = elim (less_or_same i j (omega (arith, le))) [
      | inl less ↦ firm-same (p.others (at + j) (λ e. omega (arith, less, e))) (body j less)
      | inr e ↦ subst (λ (n : ℕ). IsFirm (new.words (at + n))) (sym e) (firm_of (new.words (at + i)) word (p.done refl))
    ]

pub same_number : (n : ℕ) → (n == n) ≡ true
same_number n = grind (arith, nat_tests)

-- head and octets of a record that were programmed
pub record_written : (b0 b1 b2 : Bank) (at n slot low check : ℕ) (octets all : List ℕ) → Programs at (check * 0x100000000 + low) true b0 b1
    → SameOutside (at + 1) (at + 1 + n) b1 b2 → octets_from b2.words (at + 1) n ≡ take (8 * n) all → ((i : ℕ) → i < n → IsFirm (b2.words (at + 1 + i)))
    → low ≡ slot * 65 + length octets → check ≡ check_of low (take (8 * n) all) → 0 < slot → slot < 2 ^ 16 → length octets ≤ 64 → length octets ≤ 8 * n
    → take (length octets) all ≡ octets → HasRecord b2.words at n slot octets
record_written b0 b1 b2 at n slot low check octets all p same spelled firm low_is check_is more small fits enough padded =
    let head : b2.words at ≡ Some (check * 0x100000000 + low) = same at (inl (omega arith)) ∙ p.done refl in
    let number : value (b2.words at) ≡ check * 0x100000000 + low = ap value head in
    let low_is' : low_at b2.words at ≡ low = ap (λ (m : ℕ). m % 0x100000000) number ∙ omega (arith, low_is, small, fits) in
    let slot_is : slot_at b2.words at ≡ slot = ap (λ (m : ℕ). m / 65) low_is' ∙ omega (arith, low_is, fits) in
    let long : low % 65 ≡ length octets = omega (arith, low_is, fits) in
    let upper : value (b2.words at) / 0x100000000 ≡ check = ap (λ (m : ℕ). m / 0x100000000) number ∙ omega (arith, low_is, small, fits) in
    record {
      whole = record {
        readable = record { head = firm_of (b2.words at) (check * 0x100000000 + low) head; body = firm };
        more = subst (λ (m : ℕ). 0 < m) (sym slot_is) more;
        slot = subst (λ (m : ℕ). m < 2 ^ 16) (sym slot_is) small;
        check = (λ i. upper i == check_of (low_is' i) (spelled i)) ∙ ap (λ (m : ℕ). m == check_of low (take (8 * n) all)) check_is
            ∙ same_number (check_of low (take (8 * n) all));
      };
      slot_is = slot_is;
      octets_is =
          (λ i. take (low_is' i % 65) (spelled i)) ∙ ap (λ (m : ℕ). take m (take (8 * n) all)) long ∙ take-take (length octets) (8 * n) all enough ∙ padded;
    }

pub length_written : (b0 b1 b2 : Bank) (at n slot low check : ℕ) (octets : List ℕ) → Programs at (check * 0x100000000 + low) true b0 b1
    → SameOutside (at + 1) (at + 1 + n) b1 b2 → low ≡ slot * 65 + length octets → slot < 2 ^ 16 → length octets ≤ 64
    → length_at b2.words at ≡ length octets
length_written b0 b1 b2 at n slot low check octets p same low_is small fits =
    let head : b2.words at ≡ Some (check * 0x100000000 + low) = same at (inl (omega arith)) ∙ p.done refl in
    ap (λ (x : Word). value x % 0x100000000 % 65) head ∙ omega (arith, low_is, small, fits)

-- a program of its head changes nothing else
pub outside_head : (b0 b1 : Bank) (at n word : ℕ) (ok : Bool) → Programs at word ok b0 b1 → SameOutside at (at + 1 + n) b0 b1
outside_head b0 b1 at n word ok p = outside
  where
    outside : (i : ℕ) → (i < at) ⊎ (at + 1 + n ≤ i) → b1.words i ≡ b0.words i
    outside i (inl le) = p.others i (λ e. omega (arith, e, le))
    outside i (inr le) = p.others i (λ e. omega (arith, e, le))

-- nor do those of its octets
pub outside_body : (b0 b1 b2 : Bank) (at n word : ℕ) (ok : Bool) → Programs at word ok b0 b1 → SameOutside (at + 1) (at + 1 + n) b1 b2
    → SameOutside at (at + 1 + n) b0 b2
outside_body b0 b1 b2 at n word ok p same = outside
  where
    outside : (i : ℕ) → (i < at) ⊎ (at + 1 + n ≤ i) → b2.words i ≡ b0.words i
    outside i (inl le) = same i (inl (omega (arith, le))) ∙ p.others i (λ e. omega (arith, e, le))
    outside i (inr le) = same i (inr le) ∙ p.others i (λ e. omega (arith, e, le))
