-- What a cell is depends on its own words alone, and what a reading of a certain one shows.
use Rattle.std.proofs.Common.{◌≡◌, inl, inr, ℕ, zero, suc, ◌+◌, ◌<◌, ◌≤◌, true, if◌then◌else◌, Some, sym, subst, ap, ◌∙◌, refl, arith}
use Rattle.std.specs.FinMap.{insert}
use Rattle.plc_base.specs.Keeper.{Records}
use Rattle.flash_keeper.specs.Flash.{Word, Bank, erased}
use Rattle.flash_keeper.specs.Records.{slot_at, octets_at, begun}
use Rattle.flash_keeper.specs.Front.{front_records, AreInFront, HasFront}
use Rattle.flash_keeper.specs.Log.{place, mark, close, fence, counts, step, upto, upto_fence, IsCertain, AreCertain}
use Rattle.flash_keeper.specs.declared.front.Front.{Front}
use Rattle.flash_keeper.proofs.RecordLemmas.{SameRecord, slot_at-same, octets_at-same, whole-same, less_or_same, succ}
use Rattle.flash_keeper.proofs.FrontLemmas.{front_records-same, front-same}

-- the words of a cell are the same
abbrev pub SameCell : Front → (ℕ → Word) → (ℕ → Word) → ℕ → Type 0
SameCell f w v k = (i : ℕ) → place f k ≤ i → i < place f k + 12 → v i ≡ w i

-- the words of the cells before a place are the same
abbrev pub SameFront : (ℕ → Word) → (ℕ → Word) → ℕ → Type 0
SameFront w v to = (i : ℕ) → 3 ≤ i → i < to → v i ≡ w i

-- a front before cells stays where the words before a place are the same
pub front_before : (f : Front) (old new : Bank) (n : ℕ) → new.size ≡ old.size → SameFront old.words new.words (place f n) → HasFront old f → HasFront new f
front_before f old new n size h = front-same f old new size (λ i three le. h i three (omega (arith, le)))

pub record_of_cell : (f : Front) (w v : ℕ → Word) (k : ℕ) → SameCell f w v k → SameRecord w v (place f k) 8
record_of_cell f w v k h = λ i a b. h i a (omega (arith, b))

pub counts-same : (f : Front) (w v : ℕ → Word) (k : ℕ) → SameCell f w v k → counts f v k ≡ counts f w k
counts-same f w v k h = ap begun (h (mark f k) (omega arith) (omega arith))

pub step-same : (f : Front) (w v : ℕ → Word) (k : ℕ) (r : Records) → SameCell f w v k → step f v k r ≡ step f w k r
step-same f w v k r h =
    let c = counts-same f w v k h in
    let s = slot_at-same w v (place f k) 8 (record_of_cell f w v k h) in
    let o = octets_at-same w v (place f k) 8 (record_of_cell f w v k h) in
    λ i. if c i then insert r (s i) (o i) else r

pub upto-zero : (f : Front) (w : ℕ → Word) → upto f w 0 ≡ front_records w f.count
unfolding upto
upto-zero f w = refl

pub upto-suc : (f : Front) (w : ℕ → Word) (k : ℕ) → upto f w (k + 1) ≡ step f w k (upto f w k)
unfolding upto
upto-suc f w k = ap (upto f w) (succ k)

pub upto-same : (f : Front) (w v : ℕ → Word) (n : ℕ) → AreInFront w f → SameFront w v (place f n) → upto f v n ≡ upto f w n
unfolding upto
upto-same f w v zero all h = front_records-same f w v f.count (omega arith) all (λ i four le. h i (omega (arith, four)) (omega (arith, le)))
upto-same f w v (suc k) all h =
    ap (step f v k) (upto-same f w v k all (λ i three le. h i three (omega (arith, le))))
    ∙ step-same f w v k (upto f w k) (λ i a b. h i (omega (arith, a)) (omega (arith, b)))

-- the words of a cell before a place are the same where those before it are
pub cell_of_front : (f : Front) (w v : ℕ → Word) (k n : ℕ) → k < n → SameFront w v (place f n) → SameCell f w v k
cell_of_front f w v k n le h = λ i a b. h i (omega (arith, a)) (omega (arith, b, le))

-- the records of the first cells, with that of the next one, depend on their words alone
pub upto_fence-same : (f : Front) (w v : ℕ → Word) (n : ℕ) → AreInFront w f → SameFront w v (place f n) → SameRecord w v (place f n) 8
    → v (fence f n) ≡ w (fence f n) → upto_fence f v n ≡ upto_fence f w n
upto_fence-same f w v n all front record_is e =
    let u = upto-same f w v n all front in
    let s = slot_at-same w v (place f n) 8 record_is in
    let o = octets_at-same w v (place f n) 8 record_is in
    λ i. if begun (e i) then insert (u i) (s i) (o i) else u i

-- where the fence was not begun it adds nothing
pub upto_unfenced : (f : Front) (w : ℕ → Word) (n : ℕ) → w (fence f n) ≡ Some erased → upto_fence f w n ≡ upto f w n
upto_unfenced f w n e = λ i. if begun (e i) then insert (upto f w n) (slot_at w (place f n)) (octets_at w (place f n) 8) else upto f w n

pub upto_fenced : (f : Front) (w : ℕ → Word) (n : ℕ) → begun (w (fence f n)) ≡ true
    → upto_fence f w n ≡ insert (upto f w n) (slot_at w (place f n)) (octets_at w (place f n) 8)
upto_fenced f w n e = λ i. if e i then insert (upto f w n) (slot_at w (place f n)) (octets_at w (place f n) 8) else upto f w n

pub certain-same : (f : Front) (w v : ℕ → Word) (k : ℕ) → SameCell f w v k → IsCertain f w k → IsCertain f v k
certain-same f w v k h (inl (marked, whole)) =
    inl (h (mark f k) (omega arith) (omega arith) ∙ marked, whole-same w v (place f k) 8 (record_of_cell f w v k h) whole)
certain-same f w v k h (inr (unmarked, closed)) =
    inr (h (mark f k) (omega arith) (omega arith) ∙ unmarked, h (close f k) (omega arith) (omega arith) ∙ closed)

pub all_certain-same : (f : Front) (w v : ℕ → Word) (n : ℕ) → SameFront w v (place f n) → AreCertain f w n → AreCertain f v n
all_certain-same f w v n h x = λ k le. certain-same f w v k (cell_of_front f w v k n le h) (x k le)

-- one cell more that is certain
pub one_more_certain : (f : Front) (w : ℕ → Word) (n : ℕ) → AreCertain f w n → IsCertain f w n → AreCertain f w (n + 1)
one_more_certain f w n all one = λ k le. elim (less_or_same n k (omega (arith, le))) [
  | inl less ↦ all k less
  | inr e ↦ subst (λ (j : ℕ). IsCertain f w j) (sym e) one
]
