-- A keeper over two banks.
use Rattle.std.proofs.Common.{◌≡◌, inl, inr, ℕ, zero, suc, ◌<◌, ◌≤◌, ◌==◌, ◌&&◌, ◌||◌, ◌⊎◌, not, Bool, true, false, Option, Some, None, refl, sym, subst, ap}
use Rattle.std.proofs.Common.{◌∙◌, ◌+◌, arith}
use Rattle.std.proofs.lemmas.Bool.Decides.{nat_tests}
use Rattle.std.specs.FinMap.{len}
use Rattle.plc_base.specs.Keeper.{Records}
use Rattle.flash_keeper.specs.Flash.{Word, Bank, IsBlank, erased}
use Rattle.flash_keeper.specs.Records.{begun}
use Rattle.flash_keeper.specs.Front.{front_records}
use Rattle.flash_keeper.specs.Log.{Choice, IsBlankFrom, IsLeft, place, room, fence, are_erased, is_erased, upto, upto_fence}
use Rattle.flash_keeper.specs.declared.front.Front.{Front}
use Rattle.flash_keeper.specs.Banks.{AreHeld, AreReady, ArePurged, IsKept, are_full, are_purged, choice_of}
use Rattle.flash_keeper.proofs.RecordLemmas.{less_or_same}
use Rattle.flash_keeper.proofs.FrontLemmas.{front_len}
use Rattle.flash_keeper.proofs.CellLemmas.{upto-zero, upto_unfenced}
use Rattle.flash_keeper.proofs.OpeningLemmas.{is_number}
use Rattle.flash_keeper.proofs.BankLemmas.{ready_is_held, n_within}

-- banks of which nothing is open
pub kept_of_ready : (f : Front) (live spare : Bank) (n : ℕ) (copied : Option Front) (has_failed : Bool) → AreReady f live spare n → copied ≡ None
    → IsKept f live spare n copied false has_failed
kept_of_ready f live spare n copied has_failed r none = record { held = ready_is_held f live spare n copied r none; ready = (r, none); cause = λ e. cc }

either : (one other : Bool) → (one ≡ true) ⊎ (other ≡ true) → (one || other) ≡ true
either true other e = refl
either false other (inl e) = cc
either false other (inr e) = e

-- a program or an erase of one of two banks failed, or there was no room
pub one_cause : (one other full : Bool) → (one ≡ true) ⊎ (other ≡ true) ⊎ (full ≡ true) → ((one || other) ≡ true) ⊎ (full ≡ true)
one_cause one other full (inl e) = inl (either one other (inl e))
one_cause one other full (inr (inl e)) = inl (either one other (inr e))
one_cause one other full (inr (inr e)) = inr e

-- banks of which something may be open, where the flash failed
pub kept_of_failed : (f : Front) (live spare : Bank) (n : ℕ) (copied : Option Front) (one other : Bool) → AreHeld f live spare n copied
    → (one ≡ true) ⊎ (other ≡ true)
    → IsKept f live spare n copied true (one || other)
kept_of_failed f live spare n copied one other held e = record { held = held; ready = tt; cause = λ _. inl (either one other e) }

-- and where it failed, or there was no room
pub kept_of_full : (f : Front) (live spare : Bank) (n : ℕ) (copied : Option Front) (one other : Bool) → AreHeld f live spare n copied
    → (one ≡ true) ⊎ (other ≡ true) ⊎ (are_full f live n ≡ true) → IsKept f live spare n copied true (one || other)
kept_of_full f live spare n copied one other held e = record { held = held; ready = tt; cause = λ _. one_cause one other (are_full f live n) e }

-- nothing else may be found where nothing is open
pub nothing_else : (f : Front) (live spare : Bank) (n : ℕ) → AreReady f live spare n → upto_fence f live.words n ≡ upto f live.words n
nothing_else f live spare n r = upto_unfenced f live.words n (r.log.blank (fence f n) (omega arith))

pub kept_within : (f : Front) (live spare : Bank) (n : ℕ) (copied : Option Front) (failed has_failed : Bool) → IsKept f live spare n copied failed has_failed
    → n ≤ room f live.size
kept_within f live spare n copied failed has_failed k = n_within f live n (choice_of f live n) k.held.left.log

number_is : (m n : ℕ) → m ≡ n → (m == n) ≡ true
number_is m n e = grind (arith, nat_tests)

both_true : (a b : Bool) → a ≡ true → b ≡ true → (a && b) ≡ true
both_true true true e f = refl
both_true true false e f = cc
both_true false b e f = cc

true_parts : (a b : Bool) → (a && b) ≡ true → (a ≡ true) × (b ≡ true)
true_parts true b e = (refl, e)
true_parts false b e = cc

not_not : (a : Bool) → not (not a) ≡ true → a ≡ true
not_not true e = refl
not_not false e = cc

not_true : (a : Bool) → not a ≡ true → a ≡ false
not_true true e = cc
not_true false e = refl

all_erased : (words : ℕ → Word) (n : ℕ) → ((i : ℕ) → words i ≡ Some erased) → are_erased words n ≡ true
unfolding are_erased
all_erased words zero blank = refl
all_erased words (suc n) blank = both_true (are_erased words n) (not (begun (words n))) (all_erased words n blank) (ap (λ (w : Word). not (begun w)) (blank n))

each_erased : (words : ℕ → Word) (n : ℕ) → are_erased words n ≡ true → (i : ℕ) → i < n → words i ≡ Some erased
unfolding are_erased
each_erased words zero all i less = absurd (omega (arith, less))
each_erased words (suc n) all i less =
    let both = true_parts (are_erased words n) (not (begun (words n))) all in
    elim (less_or_same n i (omega (arith, less))) [
      | inl before ↦ each_erased words n both.0 i before
      | inr here ↦ ap words here ∙ not_begun (words n) both.1
    ]
  where
    not_begun : (w : Word) → not (begun w) ≡ true → w ≡ Some erased
    not_begun None e = cc
    not_begun (Some m) e = ap Some (is_number m erased (not_not (m == erased) e))

-- banks in which nothing but the records is left
pub purged_is : (spare : Bank) (n : ℕ) → n ≡ 0 → IsBlank spare → are_purged spare n ≡ true
purged_is spare n none blank =
    both_true (n == 0) (is_erased spare) (number_is n 0 none)
    (both_true (not spare.torn) (are_erased spare.words spare.size) (ap not blank.firm) (all_erased spare.words spare.size blank.blank))

pub purged_banks : (f : Front) (live spare : Bank) (n : ℕ) (c : Choice) → IsLeft f live n c → are_purged spare n ≡ true
    → ArePurged live spare (upto f live.words n)
purged_banks f live spare n c left all =
    let both = true_parts (n == 0) (is_erased spare) all in
    let none : n ≡ 0 = is_number n 0 both.0 in
    let other = true_parts (not spare.torn) (are_erased spare.words spare.size) both.1 in
    let is : upto f live.words n ≡ front_records live.words f.count = ap (upto f live.words) none ∙ upto-zero f live.words in
    record {
      front = f;
      has_front = left.has_front;
      all = sym is;
      each = ap (λ (r : Records). len r) is ∙ front_len f live.words f.count (omega arith) left.has_front.records;
      cells = subst (λ (k : ℕ). IsBlankFrom live.words (place f (k + 1))) none left.blank;
      firm = not_true spare.torn other.0;
      blank = each_erased spare.words spare.size other.1;
    }
