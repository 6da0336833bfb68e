-- The end of a log as an opening reads it, and a cell that was written.
use Rattle.std.proofs.Common.{◌≡◌, ◌⊎◌, inl, inr, ℕ, ◌+◌, ◌/◌, ◌%◌, ◌<◌, ◌≤◌, ◌==◌, Bool, true, false, List, Some, None, if◌then◌else◌}
use Rattle.std.proofs.Common.{sym, subst, ap, ◌∙◌, arith}
use Rattle.std.proofs.lemmas.Bool.{cases_lt, false_from_ne_true}
use Rattle.std.proofs.lemmas.Bool.Decides.{nat_tests}
use Rattle.flash_keeper.specs.Flash.{Bank, Programs, erased, head_word, layout_in}
use Rattle.flash_keeper.specs.Records.{HasRecord}
use Rattle.flash_keeper.specs.Log.{place, mark, room, IsWholeCell, IsCertain, IsOpen, IsLeft, Choice, SameOutside}
use Rattle.flash_keeper.specs.declared.front.Front.{Front}
use Rattle.flash_keeper.proofs.RecordLemmas.{record-same, less_or_same, same_number}

pub true_is_false : (b : Bool) → b ≡ true → b ≡ false → ⊥
true_is_false true e f = cc
true_is_false false e f = cc

-- a cell that reads as blank is the first one that may be written, or the next one
pub found_blank : (f : Front) (bank : Bank) (n cell : ℕ) (c : Choice) (blank : Bool) → IsLeft f bank n c → cell ≤ n + 1
    → (IsCertain f bank.words cell → blank ≡ false)
    → (IsWholeCell f bank.words cell → blank ≡ false) → blank ≡ true
    → ((cell ≡ n) × (n < room f bank.size → bank.words (mark f n) ≡ Some erased)) ⊎ (cell ≡ n + 1)
found_blank f bank n cell c blank left le certain whole is = elim (less_or_same (n + 1) cell le) [
  | inr e ↦ inr e
  | inl less ↦ (elim (less_or_same n cell (omega (arith, less))) [
    | inl before ↦ absurd (true_is_false blank is (certain (left.certain cell before)))
    | inr e ↦ inl (e, λ fits. unmarked left.last (λ w. whole (subst (λ (k : ℕ). IsWholeCell f bank.words k) (sym e) w)))
  ])
]
  where
    unmarked : IsOpen f bank.words n → (IsWholeCell f bank.words n → blank ≡ false) → bank.words (mark f n) ≡ Some erased
    unmarked (inl e) apart = e.1
    unmarked (inr both) apart = absurd (true_is_false blank is (apart both.0))

-- where no cell reads as blank the bank is full
pub found_none : (f : Front) (bank : Bank) (n cell count : ℕ) (c : Choice) → IsLeft f bank n c → cell ≤ n + 1 → cell ≤ count → (cell < count → ⊥)
    → count ≡ room f bank.size
    → ((count ≡ n) × (n < room f bank.size → bank.words (mark f n) ≡ Some erased)) ⊎ (count ≡ n + 1)
found_none f bank n cell count c left le fits full all = elim (less_or_same count cell fits) [
  | inl less ↦ absurd (full less)
  | inr e ↦ (elim (less_or_same (n + 1) cell le) [
    | inr last ↦ inr (sym e ∙ last)
    | inl less ↦ (let here : count ≡ n = omega (arith, e, less, all, within left.within) in inl (here, λ more. absurd (omega (arith, here, all, more))))
  ])
]
  where
    within : {P : Type 0} → (n < room f bank.size) ⊎ ((n ≡ room f bank.size) × P) → n ≤ room f bank.size
    within (inl less) = omega (arith, less)
    within (inr both) = let e = both.0 in omega (arith, e)

pub is_number : (m n : ℕ) → (m == n) ≡ true → m ≡ n
is_number m n e = grind (arith, nat_tests)

-- the layout that the first word of a bank names, or none
pub no_layout : (word : ℕ) → (word / 65536 ≡ head_word / 65536 → ⊥) → None ≡ layout_in word
no_layout word h =
    let e = false_from_ne_true (word / 65536 == head_word / 65536) (λ t. h (is_number (word / 65536) (head_word / 65536) t)) in
    sym (λ i. if e i then Some (word % 65536) else None)

pub some_layout : (word : ℕ) → word / 65536 ≡ head_word / 65536 → Some (word % 65536) ≡ layout_in word
some_layout word h =
    let e = ap (λ (n : ℕ). n == head_word / 65536) h ∙ same_number (head_word / 65536) in
    sym (λ i. if e i then Some (word % 65536) else None)

-- a record stays where a later word of its cell is programmed
pub record_stays : (f : Front) (b0 b1 : Bank) (k at slot : ℕ) (ok : Bool) (octets : List ℕ) → at ≡ place f k → Programs (at + 10) 0 ok b0 b1
    → HasRecord b0.words at 8 slot octets → HasRecord b1.words (place f k) 8 slot octets
record_stays f b0 b1 k at slot ok octets here p record_is = subst (λ (m : ℕ). HasRecord b1.words m 8 slot octets) here
    (record-same b0.words b1.words at 8 slot octets (λ i a le. p.others i (λ e. omega (arith, e, le))) record_is)

-- programs of a record change nothing outside its cell
pub outside_record : (f : Front) (b0 b1 : Bank) (k at : ℕ) → at ≡ place f k → SameOutside at (at + 1 + 8) b0 b1 → SameOutside (place f k) (mark f k) b0 b1
outside_record f b0 b1 k at here same = outside
  where
    outside : (i : ℕ) → (i < place f k) ⊎ (mark f k ≤ i) → b1.words i ≡ b0.words i
    outside i (inl le) = same i (inl (omega (arith, le, here)))
    outside i (inr le) = same i (inr (omega (arith, le, here)))

-- nor does one of its fence
pub outside_fence : (f : Front) (b0 b1 b2 : Bank) (k at : ℕ) (ok : Bool) → at ≡ place f k → SameOutside at (at + 1 + 8) b0 b1 → Programs (at + 10) 0 ok b1 b2
    → SameOutside (place f k) (mark f k) b0 b2
outside_fence f b0 b1 b2 k at ok here same p = outside
  where
    outside : (i : ℕ) → (i < place f k) ⊎ (mark f k ≤ i) → b2.words i ≡ b0.words i
    outside i (inl le) = p.others i (λ e. omega (arith, e, le, here)) ∙ same i (inl (omega (arith, le, here)))
    outside i (inr le) = p.others i (λ e. omega (arith, e, le, here)) ∙ same i (inr (omega (arith, le, here)))

pub wider : (f : Front) (b0 b1 : Bank) (k : ℕ) → SameOutside (place f k) (mark f k) b0 b1 → SameOutside (place f k) (place f k + 12) b0 b1
wider f b0 b1 k same = outside
  where
    outside : (i : ℕ) → (i < place f k) ⊎ (place f k + 12 ≤ i) → b1.words i ≡ b0.words i
    outside i (inl le) = same i (inl le)
    outside i (inr le) = same i (inr (omega (arith, le)))

-- a bank of which a cell was found to have decayed is not left by any puts
pub never_decayed : (f : Front) (bank : Bank) (n cell : ℕ) (c : Choice) (found : Bool) → IsLeft f bank n c → found ≡ true
    → (IsWholeCell f bank.words cell → found ≡ false) → (bank.words (mark f cell) ≡ Some erased → found ≡ false) → ⊥
never_decayed f bank n cell c found left is whole unmarked = true_is_false found is (elim (cases_lt cell n) [
  | inl before ↦ by_certain (left.certain cell before)
  | inr from ↦ (elim (less_or_same cell n from) [
    | inl after ↦ unmarked (left.blank (mark f cell) (omega (arith, after)))
    | inr here ↦ by_open (subst (λ (k : ℕ). IsOpen f bank.words k) here left.last)
  ])
])
  where
    by_certain : IsCertain f bank.words cell → found ≡ false
    by_certain (inl both) = whole both.1
    by_certain (inr both) = unmarked both.0

    by_open : IsOpen f bank.words cell → found ≡ false
    by_open (inl both) = unmarked both.1
    by_open (inr both) = whole both.0
