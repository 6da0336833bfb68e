-- A log after a program: a record that was written or cut short, a cell that was closed.
use Rattle.std.proofs.Common.{◌≡◌, ◌⊎◌, inl, inr, ℕ, ◌+◌, ◌<◌, ◌≤◌, Bool, true, false, if◌then◌else◌, List}
use Rattle.std.proofs.Common.{Some, refl, sym, subst, ap, ◌∙◌, arith}
use Rattle.std.specs.FinMap.{insert}
use Rattle.plc_base.specs.Keeper.{Records}
use Rattle.flash_keeper.specs.Flash.{Word, Bank, Programs, erased}
use Rattle.flash_keeper.specs.Records.{slot_at, octets_at, begun, HasRecord}
use Rattle.flash_keeper.specs.Log.{place, mark, fence, close, room, counts, step, upto, upto_fence, IsWholeCell}
use Rattle.flash_keeper.specs.Log.{IsOpen, IsBlankFrom, IsSettled, IsLeft, Choice, IsOneOf, SameOutside}
use Rattle.flash_keeper.specs.declared.front.Front.{Front}
use Rattle.flash_keeper.proofs.RecordLemmas.{SameRecord, whole-same, record-same, less_or_same}
use Rattle.flash_keeper.proofs.CellLemmas.{SameFront, front_before, upto-same, upto-suc, upto_fence-same}
use Rattle.flash_keeper.proofs.CellLemmas.{upto_unfenced, upto_fenced, all_certain-same, one_more_certain}

pub is_less : (i to : ℕ) → i < to → i ≡ to → ⊥
is_less i to le e = omega (arith, le, e)

pub one_of : {c : Choice} {r x : Records} → x ≡ r → IsOneOf c r → IsOneOf c x
one_of {c} {r} {x} e h = subst (λ (y : Records). IsOneOf c y) (sym e) h

-- a record that is whole
pub step_whole : (f : Front) (w : ℕ → Word) (k slot : ℕ) (octets : List ℕ) (r : Records) (b : Bool) → counts f w k ≡ b → slot_at w (place f k) ≡ slot
    → octets_at w (place f k) 8 ≡ octets
    → step f w k r ≡ (if b then insert r slot octets else r)
step_whole f w k slot octets r b c s o = λ i. if c i then insert r (s i) (o i) else r

-- What is left where nothing but the first cell after a settled log has changed.
pub left_after : (f : Front) (old new : Bank) (n : ℕ) (c : Choice) → IsSettled f old n → n < room f old.size → SameOutside (place f n) (place f n + 12) old new
    → new.torn ≡ old.torn → new.size ≡ old.size
    → IsOpen f new.words n → IsOneOf c (upto f old.words n) → IsOneOf c (upto_fence f new.words n) → IsLeft f new n c
left_after f old new n c s fits same torn size opened one next =
    let front : SameFront old.words new.words (place f n) = λ i three le. same i (inl le) in
    record {
      firm = torn ∙ s.firm;
      has_front = front_before f old new n size front s.has_front;
      certain = all_certain-same f old.words new.words n front s.certain;
      last = opened;
      blank = λ i le. same i (inr (omega (arith, le))) ∙ s.blank i (omega (arith, le));
      within = inl (subst (λ (z : ℕ). n < room f z) (sym size) fits);
      stands = one_of (upto-same f old.words new.words n s.has_front.records front) one;
      stands_next = next;
    }

pub uncounted_cell : (f : Front) (w : ℕ → Word) (n : ℕ) → w (mark f n) ≡ Some erased → upto f w (n + 1) ≡ upto f w n
uncounted_cell f w n e = upto-suc f w n ∙ (λ i. if begun (e i) then insert (upto f w n) (slot_at w (place f n)) (octets_at w (place f n) 8) else upto f w n)

within_room : (m n : ℕ) (P : Type 0) → n ≤ m → P → (n < m) ⊎ ((n ≡ m) × P)
within_room m n P le p = elim (less_or_same m n le) [
  | inl less ↦ inl less
  | inr same ↦ inr (same, p)
]

-- a settled log is one of which nothing is open
pub settled_is_left : (f : Front) (bank : Bank) (n : ℕ) (c : Choice) → IsSettled f bank n → IsOneOf c (upto f bank.words n) → IsLeft f bank n c
settled_is_left f bank n c s one =
    let unfenced : bank.words (fence f n) ≡ Some erased = s.blank (fence f n) (omega arith) in
    record {
      firm = s.firm;
      has_front = s.has_front;
      certain = s.certain;
      last = inl (unfenced, s.blank (mark f n) (omega arith));
      blank = λ i le. s.blank i (omega (arith, le));
      within = within_room (room f bank.size) n (IsBlankFrom bank.words (place f n)) s.within s.blank;
      stands = one;
      stands_next = one_of (upto_unfenced f bank.words n unfenced) one;
    }

pub counted_cell : (f : Front) (w : ℕ → Word) (n : ℕ) → counts f w n ≡ true
    → upto f w (n + 1) ≡ insert (upto f w n) (slot_at w (place f n)) (octets_at w (place f n) 8)
counted_cell f w n counted = upto-suc f w n ∙ step_whole f w n (slot_at w (place f n)) (octets_at w (place f n) 8) (upto f w n) true counted refl refl

-- a cell after a settled log whose record is whole
pub record BodyIs (f : Front) (old b : Bank) (n slot : ℕ) (octets : List ℕ) : Type 0 where
  pub record_is : HasRecord b.words (place f n) 8 slot octets
  pub fenced : b.words (fence f n) ≡ Some 0
  pub same : SameOutside (place f n) (mark f n) old b
  pub torn : b.torn ≡ old.torn
  pub size : b.size ≡ old.size

-- the records with a cell whose record is whole
with_record : (f : Front) (w : ℕ → Word) (n slot : ℕ) (octets : List ℕ) (r : Records) → HasRecord w (place f n) 8 slot octets → upto f w n ≡ r
    → insert (upto f w n) (slot_at w (place f n)) (octets_at w (place f n) 8) ≡ insert r slot octets
with_record f w n slot octets r h e = λ i. insert (e i) (h.slot_is i) (h.octets_is i)

one_with_record : (f : Front) (w : ℕ → Word) (n slot : ℕ) (octets : List ℕ) (r : Records) (c : Choice) (b : Bool) → HasRecord w (place f n) 8 slot octets
    → upto f w n ≡ r
    → IsOneOf c r → IsOneOf c (insert r slot octets)
    → IsOneOf c (if b then insert (upto f w n) (slot_at w (place f n)) (octets_at w (place f n) 8) else upto f w n)
one_with_record f w n slot octets r c true h e one two = one_of (with_record f w n slot octets r h e) two
one_with_record f w n slot octets r c false h e one two = one_of e one

-- the record or its fence was cut short
pub left_at_body : (f : Front) (old new : Bank) (n slot : ℕ) (octets : List ℕ) (c : Choice) → IsSettled f old n → n < room f old.size
    → SameOutside (place f n) (mark f n) old new
    → new.torn ≡ old.torn → new.size ≡ old.size → (new.words (fence f n) ≡ Some erased) ⊎ HasRecord new.words (place f n) 8 slot octets
    → IsOneOf c (upto f old.words n) → IsOneOf c (insert (upto f old.words n) slot octets) → IsLeft f new n c
left_at_body f old new n slot octets c s fits same torn size body one two =
    let unmarked : new.words (mark f n) ≡ Some erased = same (mark f n) (inr (omega arith)) ∙ s.blank (mark f n) (omega arith) in
    let front : SameFront old.words new.words (place f n) = λ i three le. same i (inl le) in
    left_after f old new n c s fits (λ i h. same i (wider i h)) torn size (opened body unmarked) one
    (next body (upto-same f old.words new.words n s.has_front.records front))
  where
    wider : (i : ℕ) → (i < place f n) ⊎ (place f n + 12 ≤ i) → (i < place f n) ⊎ (mark f n ≤ i)
    wider i (inl le) = inl le
    wider i (inr le) = inr (omega (arith, le))

    opened : (new.words (fence f n) ≡ Some erased) ⊎ HasRecord new.words (place f n) 8 slot octets → new.words (mark f n) ≡ Some erased → IsOpen f new.words n
    opened (inl unfenced) unmarked = inl (unfenced, unmarked)
    opened (inr record_is) unmarked = inr (record_is.whole, inl unmarked)

    next : (new.words (fence f n) ≡ Some erased) ⊎ HasRecord new.words (place f n) 8 slot octets → upto f new.words n ≡ upto f old.words n
        → IsOneOf c (upto_fence f new.words n)
    next (inl unfenced) e = one_of (upto_unfenced f new.words n unfenced ∙ e) one
    next (inr record_is) e = one_with_record f new.words n slot octets (upto f old.words n) c (begun (new.words (fence f n))) record_is e one two

-- the mark was cut short, or is whole
pub left_at_mark : (f : Front) (old b new : Bank) (n slot : ℕ) (octets : List ℕ) (c : Choice) (ok : Bool) → IsSettled f old n → n < room f old.size
    → BodyIs f old b n slot octets → Programs (mark f n) 0 ok b new
    → IsOneOf c (upto f old.words n) → IsOneOf c (insert (upto f old.words n) slot octets) → IsLeft f new n c
left_at_mark f old b new n slot octets c ok s fits body p one two =
    let same : (i : ℕ) → i < mark f n → new.words i ≡ b.words i = λ i le. p.others i (is_less i (mark f n) le) in
    let record_is = record-same b.words new.words (place f n) 8 slot octets (λ i a le. same i (omega (arith, le))) body.record_is in
    let fenced : new.words (fence f n) ≡ Some 0 = same (fence f n) (omega arith) ∙ body.fenced in
    let front : SameFront old.words new.words (place f n) = λ i three le. same i (omega (arith, le)) ∙ body.same i (inl le) in
    left_after f old new n c s fits (λ i h. outside i h) (p.torn ∙ body.torn) (p.size ∙ body.size) (inr (record_is.whole, inr fenced)) one
    (one_with_record f new.words n slot octets (upto f old.words n) c (begun (new.words (fence f n))) record_is
    (upto-same f old.words new.words n s.has_front.records front) one two)
  where
    outside : (i : ℕ) → (i < place f n) ⊎ (place f n + 12 ≤ i) → new.words i ≡ old.words i
    outside i (inl le) = p.others i (λ e. absurd (omega (arith, e, le))) ∙ body.same i (inl le)
    outside i (inr le) = p.others i (λ e. absurd (omega (arith, e, le))) ∙ body.same i (inr (omega (arith, le)))

-- with its mark the record counts
pub records_marked : (f : Front) (old b new : Bank) (n slot : ℕ) (octets : List ℕ) → IsSettled f old n → BodyIs f old b n slot octets
    → Programs (mark f n) 0 true b new
    → upto f new.words (n + 1) ≡ insert (upto f old.words n) slot octets
records_marked f old b new n slot octets s body p =
    let same : (i : ℕ) → i < mark f n → new.words i ≡ b.words i = λ i le. p.others i (is_less i (mark f n) le) in
    let record_is = record-same b.words new.words (place f n) 8 slot octets (λ i a le. same i (omega (arith, le))) body.record_is in
    let front : SameFront old.words new.words (place f n) = λ i three le. same i (omega (arith, le)) ∙ body.same i (inl le) in
    counted_cell f new.words n (ap begun (p.done refl))
    ∙ with_record f new.words n slot octets (upto f old.words n) record_is (upto-same f old.words new.words n s.has_front.records front)

-- and the log is settled
pub settled_marked : (f : Front) (old b new : Bank) (n slot : ℕ) (octets : List ℕ) → IsSettled f old n → n < room f old.size → BodyIs f old b n slot octets
    → Programs (mark f n) 0 true b new → IsSettled f new (n + 1)
settled_marked f old b new n slot octets s fits body p =
    let same : (i : ℕ) → i < mark f n → new.words i ≡ b.words i = λ i le. p.others i (is_less i (mark f n) le) in
    let whole = whole-same b.words new.words (place f n) 8 (λ i a le. same i (omega (arith, le))) body.record_is.whole in
    let front : SameFront old.words new.words (place f n) = λ i three le. same i (omega (arith, le)) ∙ body.same i (inl le) in
    record {
      firm = p.torn ∙ body.torn ∙ s.firm;
      has_front = front_before f old new n (p.size ∙ body.size) front s.has_front;
      certain = one_more_certain f new.words n (all_certain-same f old.words new.words n front s.certain) (inl (p.done refl, whole));
      blank = λ i le. p.others i (λ e. absurd (omega (arith, e, le))) ∙ body.same i (inr (omega (arith, le))) ∙ s.blank i (omega (arith, le));
      within = subst (λ (z : ℕ). n + 1 ≤ room f z) (sym (p.size ∙ body.size)) (omega (arith, fits));
    }

-- one word of the cell that is written is programmed, and no word of its record: the cell is left as what it then is
still_left : (f : Front) (old new : Bank) (n : ℕ) (c : Choice) (at : ℕ) (ok : Bool) → close f n ≤ at → at ≤ mark f n → n < room f old.size → IsLeft f old n c
    → Programs at 0 ok old new → IsOpen f new.words n → IsOneOf c (upto_fence f new.words n) → IsLeft f new n c
still_left f old new n c at ok low high fits left p opened next =
    let front : SameFront old.words new.words (place f n) = λ i three le. p.others i (λ e. absurd (omega (arith, e, le, low))) in
    record {
      firm = p.torn ∙ left.firm;
      has_front = front_before f old new n p.size front left.has_front;
      certain = all_certain-same f old.words new.words n front left.certain;
      last = opened;
      blank = λ i le. p.others i (λ e. absurd (omega (arith, e, le, high))) ∙ left.blank i le;
      within = inl (subst (λ (z : ℕ). n < room f z) (sym p.size) fits);
      stands = one_of (upto-same f old.words new.words n left.has_front.records front) left.stands;
      stands_next = next;
    }

front_still : (f : Front) (old new : Bank) (n at : ℕ) (ok : Bool) → close f n ≤ at → Programs at 0 ok old new → SameFront old.words new.words (place f n)
front_still f old new n at ok low p = λ i three le. p.others i (λ e. absurd (omega (arith, e, le, low)))

record_still : (f : Front) (old new : Bank) (n at : ℕ) (ok : Bool) → close f n ≤ at → Programs at 0 ok old new → SameRecord old.words new.words (place f n) 8
record_still f old new n at ok low p = λ i a le. p.others i (λ e. absurd (omega (arith, e, le, low)))

-- a cell whose mark was not begun is closed, or that was cut short
pub left_closed : (f : Front) (old new : Bank) (n : ℕ) (c : Choice) (ok : Bool) → n < room f old.size → IsLeft f old n c → old.words (mark f n) ≡ Some erased
    → Programs (close f n) 0 ok old new → IsLeft f new n c
left_closed f old new n c ok fits left unmarked p =
    let fence_is : new.words (fence f n) ≡ old.words (fence f n) = p.others (fence f n) (λ e. absurd (omega (arith, e))) in
    let mark_is : new.words (mark f n) ≡ old.words (mark f n) = p.others (mark f n) (λ e. absurd (omega (arith, e))) in
    still_left f old new n c (close f n) ok (omega arith) (omega arith) fits left p (opened left.last fence_is mark_is)
    (one_of (upto_fence-same f old.words new.words n left.has_front.records (front_still f old new n (close f n) ok (omega arith) p)
    (record_still f old new n (close f n) ok (omega arith) p)
    fence_is) left.stands_next)
  where
    opened : IsOpen f old.words n → new.words (fence f n) ≡ old.words (fence f n) → new.words (mark f n) ≡ old.words (mark f n) → IsOpen f new.words n
    opened (inl both) e m = inl (e ∙ both.0, m ∙ both.1)
    opened (inr (whole, inl e)) d m =
        inr (whole-same old.words new.words (place f n) 8 (record_still f old new n (close f n) ok (omega arith) p) whole, inl (m ∙ e))
    opened (inr (whole, inr e)) d m =
        inr (whole-same old.words new.words (place f n) 8 (record_still f old new n (close f n) ok (omega arith) p) whole, inr (d ∙ e))

pub settled_closed : (f : Front) (old new : Bank) (n : ℕ) (c : Choice) → n < room f old.size → IsLeft f old n c → old.words (mark f n) ≡ Some erased
    → Programs (close f n) 0 true old new → IsSettled f new (n + 1) × IsOneOf c (upto f new.words (n + 1))
settled_closed f old new n c fits left unmarked p =
    let front = front_still f old new n (close f n) true (omega arith) p in
    let still : new.words (mark f n) ≡ Some erased = p.others (mark f n) (λ e. absurd (omega (arith, e))) ∙ unmarked in (
      record {
        firm = p.torn ∙ left.firm;
        has_front = front_before f old new n p.size front left.has_front;
        certain = one_more_certain f new.words n (all_certain-same f old.words new.words n front left.certain) (inr (still, p.done refl));
        blank = λ i le. p.others i (λ e. absurd (omega (arith, e, le))) ∙ left.blank i (omega (arith, le));
        within = subst (λ (z : ℕ). n + 1 ≤ room f z) (sym p.size) (omega (arith, fits));
      },
      one_of (uncounted_cell f new.words n still ∙ upto-same f old.words new.words n left.has_front.records front) left.stands,
    )

-- a cell whose fence was begun has a whole record
pub whole_of_fenced : (f : Front) (w : ℕ → Word) (n : ℕ) → IsOpen f w n → begun (w (fence f n)) ≡ true → IsWholeCell f w n
whole_of_fenced f w n (inl both) b = absurd (never (sym (ap begun both.0) ∙ b))
  where
    never : false ≡ true → ⊥
    never e = cc
whole_of_fenced f w n (inr both) b = both.0

-- its fence may be programmed again
pub left_fenced : (f : Front) (old new : Bank) (n : ℕ) (c : Choice) (ok : Bool) → n < room f old.size → IsLeft f old n c → begun (old.words (fence f n)) ≡ true
    → Programs (fence f n) 0 ok old new → IsLeft f new n c
left_fenced f old new n c ok fits left fenced p =
    let mark_is : new.words (mark f n) ≡ old.words (mark f n) = p.others (mark f n) (λ e. absurd (omega (arith, e))) in
    let record_is = record_still f old new n (fence f n) ok (omega arith) p in
    let front = front_still f old new n (fence f n) ok (omega arith) p in
    let whole = whole_of_fenced f old.words n left.last fenced in
    let was = one_of (sym (upto_fenced f old.words n fenced)) left.stands_next in
    still_left f old new n c (fence f n) ok (omega arith) (omega arith) fits left p
    (inr (whole-same old.words new.words (place f n) 8 record_is whole, opened left.last mark_is))
    (one_with_record f new.words n (slot_at old.words (place f n)) (octets_at old.words (place f n) 8) (upto f old.words n) c (begun (new.words (fence f n)))
    (record-same old.words new.words (place f n) 8 (slot_at old.words (place f n)) (octets_at old.words (place f n) 8) record_is
    (record { whole = whole; slot_is = refl; octets_is = refl }))
    (upto-same f old.words new.words n left.has_front.records front) left.stands was)
  where
    opened : IsOpen f old.words n → new.words (mark f n) ≡ old.words (mark f n) → (new.words (mark f n) ≡ Some erased) ⊎ (new.words (fence f n) ≡ Some 0)
    opened (inl both) m = inl (m ∙ both.1)
    opened (inr (whole, inl e)) m = inl (m ∙ e)
    opened (inr (whole, inr e)) m = inr (p.kept e)

-- where its fence is whole its mark may be programmed again
pub left_marked : (f : Front) (old new : Bank) (n : ℕ) (c : Choice) (ok : Bool) → n < room f old.size → IsLeft f old n c → old.words (fence f n) ≡ Some 0
    → Programs (mark f n) 0 ok old new → IsLeft f new n c
left_marked f old new n c ok fits left fenced p =
    let fence_is : new.words (fence f n) ≡ old.words (fence f n) = p.others (fence f n) (λ e. absurd (omega (arith, e))) in
    let record_is = record_still f old new n (mark f n) ok (omega arith) p in
    let whole = whole_of_fenced f old.words n left.last (ap begun fenced) in
    still_left f old new n c (mark f n) ok (omega arith) (omega arith) fits left p
    (inr (whole-same old.words new.words (place f n) 8 record_is whole, inr (fence_is ∙ fenced)))
    (one_of (upto_fence-same f old.words new.words n left.has_front.records (front_still f old new n (mark f n) ok (omega arith) p) record_is fence_is)
    left.stands_next)

pub settled_again : (f : Front) (old new : Bank) (n : ℕ) (c : Choice) → n < room f old.size → IsLeft f old n c → old.words (fence f n) ≡ Some 0
    → Programs (mark f n) 0 true old new → IsSettled f new (n + 1) × IsOneOf c (upto f new.words (n + 1))
settled_again f old new n c fits left fenced p =
    let front = front_still f old new n (mark f n) true (omega arith) p in
    let record_is = record_still f old new n (mark f n) true (omega arith) p in
    let fence_is : new.words (fence f n) ≡ old.words (fence f n) = p.others (fence f n) (λ e. absurd (omega (arith, e))) in
    let whole = whole-same old.words new.words (place f n) 8 record_is (whole_of_fenced f old.words n left.last (ap begun fenced)) in (
      record {
        firm = p.torn ∙ left.firm;
        has_front = front_before f old new n p.size front left.has_front;
        certain = one_more_certain f new.words n (all_certain-same f old.words new.words n front left.certain) (inl (p.done refl, whole));
        blank = λ i le. p.others i (λ e. absurd (omega (arith, e, le))) ∙ left.blank i (omega (arith, le));
        within = subst (λ (z : ℕ). n + 1 ≤ room f z) (sym p.size) (omega (arith, fits));
      },
      one_of (counted_cell f new.words n (ap begun (p.done refl)) ∙ sym (upto_fenced f new.words n (ap begun (fence_is ∙ fenced)))
          ∙ upto_fence-same f old.words new.words n left.has_front.records front record_is fence_is) left.stands_next,
    )
