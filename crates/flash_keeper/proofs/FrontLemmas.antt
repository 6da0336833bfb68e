-- The front of a bank: where its records stand, and that it depends on its own words alone.
use Rattle.std.proofs.Common.{◌≡◌, inl, inr, ℕ, zero, suc, ◌+◌, ◌-◌, ◌*◌, ◌%◌, ◌^◌, ◌<◌, ◌≤◌, ◌==◌, Bool, true, false, cond, List}
use Rattle.std.proofs.Common.{Option, Some, None, is_some, refl, sym, subst, ap, ◌∙◌, arith}
use Rattle.std.proofs.lemmas.Bool.{cases_lt, cases_eq}
use Rattle.std.proofs.lemmas.Bool.Decides.{nat_tests}
use Rattle.std.specs.FinMap.{get, insert, empty, len, get-insert, get-empty, len-insert, len-empty}
use Rattle.std.specs.Cmp.{nat_cmp_total}
use Rattle.std.specs.Ordering.{nat_cmp, eq_by_cmp}
use Rattle.plc_base.specs.Keeper.{Records}
use Rattle.flash_keeper.specs.Flash.{Word, Bank, IsBlank, Programs}
use Rattle.flash_keeper.specs.Records.{value, slot_at, length_at, octets_at, has_check, IsFirm, IsReadable, IsWhole, HasRecord}
use Rattle.flash_keeper.specs.Front.{words_of, front_place, front_words, front_slot, front_octets, front_records, no_front, IsInFront, AreInFront}
use Rattle.flash_keeper.specs.Front.{HasFront, IsDecayedAt, IsGrowing, IsFresh, number_word, front_in}
use Rattle.flash_keeper.specs.Log.{IsSettled, upto}
use Rattle.flash_keeper.specs.Wear.{Counts}
use Rattle.flash_keeper.specs.declared.front.Front.{Front}
use Rattle.flash_keeper.proofs.RecordLemmas.{SameRecord, head-same, slot_at-same, octets_at-same, whole-same, less_or_same, same_number, succ}

-- the words of a front are the same
abbrev pub SameOfFront : Front → (ℕ → Word) → (ℕ → Word) → Type 0
SameOfFront f w v = (i : ℕ) → 4 ≤ i → i < 4 + f.words → v i ≡ w i

-- where its next record stands
pub next_place : (w : ℕ → Word) (i : ℕ) → front_place w (suc i) ≡ front_place w i + 1 + front_words w i
unfolding front_place
next_place w i = refl

pub first_place : (w : ℕ → Word) → front_place w 0 ≡ 4
unfolding front_place
first_place w = refl

-- a later record stands further on
pub front_grows : (w : ℕ → Word) (i n : ℕ) → i ≤ n → front_place w i ≤ front_place w n
front_grows w i zero le = let e : i ≡ zero = omega (arith, le) in subst (λ (j : ℕ). front_place w j ≤ front_place w zero) (sym e) (omega arith)
front_grows w i (suc n) le = elim (less_or_same (suc n) i le) [
  | inl less ↦ (let before = front_grows w i n (omega (arith, less)) in let next = next_place w n in omega (arith, before, next))
  | inr same ↦ subst (λ (j : ℕ). front_place w j ≤ front_place w (suc n)) (sym same) (omega arith)
]

pub front_from_four : (w : ℕ → Word) (i : ℕ) → 4 ≤ front_place w i
front_from_four w i = let h = front_grows w 0 i (omega arith) in let first = first_place w in omega (arith, h, first)

-- each of its records ends within it
pub ends_within : (f : Front) (w : ℕ → Word) (i : ℕ) → AreInFront w f → i < f.count → front_place w i + 1 + front_words w i ≤ 4 + f.words
ends_within f w i all less =
    let h = front_grows w (suc i) f.count (omega (arith, less)) in
    let next = next_place w i in
    let end = all.end in
    omega (arith, h, next, end)

pub front_place-same : (f : Front) (w v : ℕ → Word) (i : ℕ) → i ≤ f.count → AreInFront w f → SameOfFront f w v → front_place v i ≡ front_place w i
unfolding front_place
front_place-same f w v zero le all same = refl
front_place-same f w v (suc i) le all same =
    let before = front_place-same f w v i (omega (arith, le)) all same in
    let within = ends_within f w i all (omega (arith, le)) in
    let from = front_from_four w i in
    let head = same (front_place w i) (omega (arith, from)) (omega (arith, within)) in
    ap (λ (p : ℕ). p + 1 + words_of (length_at v p)) before
    ∙ ap (λ (x : Word). front_place w i + 1 + words_of (value x % 0x100000000 % 65)) head

-- the words of a record of it are the same
same_record : (f : Front) (w v : ℕ → Word) (i : ℕ) → i < f.count → AreInFront w f → SameOfFront f w v → SameRecord w v (front_place w i) (front_words w i)
same_record f w v i less all same =
    let within = ends_within f w i all less in
    let from = front_from_four w i in
    λ j a b. same j (omega (arith, from, a)) (omega (arith, within, b))

pub front_words-same : (f : Front) (w v : ℕ → Word) (i : ℕ) → i < f.count → AreInFront w f → SameOfFront f w v → front_words v i ≡ front_words w i
front_words-same f w v i less all same =
    let place_is = front_place-same f w v i (omega (arith, less)) all same in
    let head = head-same w v (front_place w i) (front_words w i) (same_record f w v i less all same) in
    ap (λ (p : ℕ). words_of (length_at v p)) place_is ∙ ap (λ (x : Word). words_of (value x % 0x100000000 % 65)) head

pub front_slot-same : (f : Front) (w v : ℕ → Word) (i : ℕ) → i < f.count → AreInFront w f → SameOfFront f w v → front_slot v i ≡ front_slot w i
front_slot-same f w v i less all same =
    ap (λ (p : ℕ). slot_at v p) (front_place-same f w v i (omega (arith, less)) all same)
    ∙ slot_at-same w v (front_place w i) (front_words w i) (same_record f w v i less all same)

pub front_octets-same : (f : Front) (w v : ℕ → Word) (i : ℕ) → i < f.count → AreInFront w f → SameOfFront f w v → front_octets v i ≡ front_octets w i
front_octets-same f w v i less all same =
    let place_is = front_place-same f w v i (omega (arith, less)) all same in
    let words_is = front_words-same f w v i less all same in
    (λ k. octets_at v (place_is k) (words_is k)) ∙ octets_at-same w v (front_place w i) (front_words w i) (same_record f w v i less all same)

pub front_records-same : (f : Front) (w v : ℕ → Word) (i : ℕ) → i ≤ f.count → AreInFront w f → SameOfFront f w v → front_records v i ≡ front_records w i
unfolding front_records
front_records-same f w v zero le all same = refl
front_records-same f w v (suc i) le all same =
    let before = front_records-same f w v i (omega (arith, le)) all same in
    let slot = front_slot-same f w v i (omega (arith, le)) all same in
    let octets = front_octets-same f w v i (omega (arith, le)) all same in
    λ k. insert (before k) (slot k) (octets k)

pub in_front-same : (f : Front) (w v : ℕ → Word) → SameOfFront f w v → AreInFront w f → AreInFront v f
in_front-same f w v same all = record {
  each = λ i less. record {
    whole = subst (λ (p : ℕ). IsWhole v p (front_words v i)) (sym (front_place-same f w v i (omega (arith, less)) all same))
        (subst (λ (n : ℕ). IsWhole v (front_place w i) n) (sym (front_words-same f w v i less all same))
        (whole-same w v (front_place w i) (front_words w i) (same_record f w v i less all same) (all.each i less).whole));
    apart = (let records = front_records-same f w v i (omega (arith, less)) all same in let slot = front_slot-same f w v i less all same in
        λ k. get (records k) (slot k)) ∙ (all.each i less).apart;
  };
  end = front_place-same f w v f.count (omega arith) all same ∙ all.end;
}

-- a front stays where its words do
pub front-same : (f : Front) (old new : Bank) → new.size ≡ old.size → ((i : ℕ) → 3 ≤ i → i < 4 + f.words → new.words i ≡ old.words i)
    → HasFront old f → HasFront new f
front-same f old new size same h = record {
  records = in_front-same f old.words new.words (λ i four le. same i (omega (arith, four)) le) h.records;
  number = same 3 (omega arith) (omega arith) ∙ h.number;
  few = h.few;
  within = subst (λ (n : ℕ). 4 + f.words ≤ n) (sym size) h.within;
}

-- a record more of a front that grows
pub one_more_record : (f g : Front) (old new : Bank) (slot : ℕ) (octets : List ℕ) (n : ℕ) → AreInFront old.words f → SameOfFront f old.words new.words
    → g.count ≡ f.count + 1 → g.words ≡ f.words + 1 + n → n ≡ words_of (length_at new.words (4 + f.words))
    → HasRecord new.words (4 + f.words) n slot octets → get (front_records old.words f.count) slot ≡ None
    → AreInFront new.words g × (front_records new.words g.count ≡ insert (front_records old.words f.count) slot octets)
unfolding front_records
one_more_record f g old new slot octets n all same count words_is long h apart =
    let w = new.words in
    let now = in_front-same f old.words w same all in
    let here : front_place w f.count ≡ 4 + f.words = now.end in
    let wide : front_words w f.count ≡ n = ap (λ (p : ℕ). words_of (length_at w p)) here ∙ sym long in
    let is = front_records-same f old.words w f.count (omega arith) all same in
    let slot_is : front_slot w f.count ≡ slot = ap (λ (p : ℕ). slot_at w p) here ∙ h.slot_is in
    let octets_is : front_octets w f.count ≡ octets = (λ k. octets_at w (here k) (wide k)) ∙ h.octets_is in
    let next = next_place w f.count in
    let last : IsInFront w f.count = record {
      whole = subst (λ (p : ℕ). IsWhole w p (front_words w f.count)) (sym here)
          (subst (λ (m : ℕ). IsWhole w (4 + f.words) m) (sym wide) h.whole);
      apart = (λ k. get (is k) (slot_is k)) ∙ apart;
    } in (
      record {
        each = λ i less. elim (less_or_same f.count i (omega (arith, less, count))) [
          | inl before ↦ now.each i before
          | inr e ↦ subst (λ (j : ℕ). IsInFront w j) (sym e) last
        ];
        end = ap (front_place w) (count ∙ succ f.count) ∙ next ∙ omega (arith, here, wide, words_is);
      },
      ap (front_records w) (count ∙ succ f.count) ∙ (λ k. insert (is k) (slot_is k) (octets_is k)),
    )

-- an empty one
pub none_in_front : (w : ℕ → Word) → AreInFront w no_front
none_in_front w = record { each = λ i less. absurd (omega (arith, less)); end = first_place w }

-- a bank that was erased and given a head has a front without a record, which may grow
pub begun_front : (old new : Bank) → IsBlank old → 15 ≤ new.size → new.torn ≡ old.torn → ((i : ℕ) → 2 ≤ i → new.words i ≡ old.words i)
    → Counts 0 2 old new → IsGrowing new no_front
begun_front old new blank fits torn same counts = record {
  firm = torn ∙ blank.firm;
  records = none_in_front new.words;
  few = omega arith;
  within = omega (arith, fits);
  number = same 3 (omega arith) ∙ blank.blank 3;
  blank = λ i four. same i (omega (arith, four)) ∙ blank.blank i;
  once = λ i. let none = blank.fresh i in let count = counts.once i in omega (arith, none, count);
  unmarked = counts.outside 2 (inr (omega arith)) ∙ blank.fresh 2;
  unnumbered = counts.outside 3 (inr (omega arith)) ∙ blank.fresh 3;
  unused = λ i four. counts.outside i (inr (omega (arith, four))) ∙ blank.fresh i;
}

-- how often the words of a front were programmed to which something was written, or in part
pub once_of_growing : (f : Front) (old new : Bank) (to : ℕ) → IsGrowing old f → Counts (4 + f.words) to old new → (i : ℕ) → new.programs i ≤ 1
once_of_growing f old new to grows counts i = elim (cases_lt i (4 + f.words)) [
  | inl before ↦ (let same = counts.outside i (inl before) in let once = grows.once i in omega (arith, same, once))
  | inr past ↦ (let none = grows.unused i past in let once = counts.once i in omega (arith, none, once))
]

-- and its number
pub once_of_number : (f : Front) (old new : Bank) (word : ℕ) (ok : Bool) → IsGrowing old f → Programs 3 word ok old new → (i : ℕ) → new.programs i ≤ 1
once_of_number f old new word ok grows p i = elim (cases_eq i 3) [
  | inl here ↦ (let once = p.once in let none = grows.unnumbered in
      subst (λ (n : ℕ). new.programs n ≤ 1) (sym here) (omega (arith, none, once)))
  | inr apart ↦ (let same = p.uncounted i apart in let once = grows.once i in omega (arith, same, once))
]

pub fresh_numbered : (f : Front) (old new : Bank) (word : ℕ) (ok : Bool) → IsGrowing old f → Programs 3 word ok old new → IsFresh f new
fresh_numbered f old new word ok grows p = record {
  once = once_of_number f old new word ok grows p;
  mark = p.uncounted 2 (λ e. omega (arith, e)) ∙ grows.unmarked;
  rest = λ i past. p.uncounted i (λ e. omega (arith, e, past)) ∙ grows.unused i past;
}

-- a front whose number was programmed, with no cell behind it
pub numbered_front : (f : Front) (old new : Bank) (word : ℕ) → old.size < 2 ^ 32 → word ≡ number_word f.count → IsGrowing old f → Programs 3 word true old new
    → IsSettled f new 0
numbered_front f old new word small is grows p = record {
  firm = p.torn ∙ grows.firm;
  has_front = record {
    records = in_front-same f old.words new.words (λ i four le. p.others i (λ e. omega (arith, e, four))) grows.records;
    number = p.done refl ∙ ap (λ (n : ℕ). Some n) is;
    few = omega (arith, grows.few, grows.within, small);
    within = subst (λ (n : ℕ). 4 + f.words ≤ n) (sym p.size) grows.within;
  };
  certain = λ k le. absurd (omega (arith, le));
  blank = λ i le. p.others i (λ e. omega (arith, e, le)) ∙ grows.blank i (omega (arith, le));
  within = omega arith;
}

pub records_numbered : (f : Front) (old new : Bank) (word : ℕ) (ok : Bool) → IsGrowing old f → Programs 3 word ok old new
    → upto f new.words 0 ≡ front_records old.words f.count
unfolding upto
records_numbered f old new word ok grows p =
    front_records-same f old.words new.words f.count (omega arith) grows.records (λ i four le. p.others i (λ e. omega (arith, e, four)))

pub no_records : (w : ℕ → Word) → front_records w 0 ≡ empty
unfolding front_records
no_records w = refl

pub next_records : (w : ℕ → Word) (i : ℕ) → front_records w (i + 1) ≡ insert (front_records w i) (front_slot w i) (front_octets w i)
unfolding front_records
next_records w i = ap (front_records w) (succ i)

-- it has as many records as it says
pub front_len : (f : Front) (w : ℕ → Word) (i : ℕ) → i ≤ f.count → AreInFront w f → len (front_records w i) ≡ i
unfolding front_records
front_len f w zero le all = len-empty nat_cmp (List ℕ)
front_len f w (suc i) le all =
    len-insert nat_cmp_total (front_records w i) (front_slot w i) (front_octets w i)
    ∙ ap (λ (o : Option (List ℕ)). cond (is_some o) (len (front_records w i)) (len (front_records w i) + 1)) (all.each i (omega (arith, le))).apart
    ∙ ap (λ (n : ℕ). n + 1) (front_len f w i (omega (arith, le)) all) ∙ succ i

-- two numbers tie where they are equal
tie_is : (q s : ℕ) → eq_by_cmp nat_cmp q s ≡ (s == q)
tie_is q s = grind (arith, nat_tests)

pub get_insert : (r : Records) (s : ℕ) (o : List ℕ) (q : ℕ) → get (insert r s o) q ≡ cond (s == q) (Some o) (get r q)
get_insert r s o q = get-insert nat_cmp_total r s o q ∙ ap (λ (b : Bool). cond b (Some o) (get r q)) (tie_is q s)

pub same_slot : (s t : ℕ) → (s == t) ≡ true → s ≡ t
same_slot s t e = grind (arith, nat_tests)

pub some_is_none : {A : Type 0} {x : A} → Some x ≡ None → ⊥
some_is_none e = cc

pub some_apart : {A : Type 0} {o : Option A} {x : A} → o ≡ None → o ≡ Some x → ⊥
some_apart e h = some_is_none (sym h ∙ e)

-- its first n records are firm within the bank, and each has its check
pub record AreRight (bank : Bank) (n : ℕ) : Type 0 where
  pub within : (j : ℕ) → j < n → front_place bank.words j + front_words bank.words j < bank.size
  pub readable : (j : ℕ) → j < n → IsReadable bank.words (front_place bank.words j) (front_words bank.words j)
  pub check : (j : ℕ) → j < n → has_check bank.words (front_place bank.words j) (front_words bank.words j) ≡ true

pub all_right : (bank : Bank) (f : Front) → HasFront bank f → AreRight bank f.count
all_right bank f h = record {
  within = λ j less. let ends = ends_within f bank.words j h.records less in let size = h.within in omega (arith, ends, size);
  readable = λ j less. (h.records.each j less).whole.readable;
  check = λ j less. (h.records.each j less).whole.check;
}

pub right_before : (bank : Bank) (n i : ℕ) → IsDecayedAt bank n i → AreRight bank i
right_before bank n i d = record {
  within = λ j less.
      let next = next_place bank.words j in
      let grows = front_grows bank.words (suc j) (i + 1) (omega (arith, less)) in
      let size = d.within in
      omega (arith, next, grows, size);
  readable = λ j less. d.readable j (omega (arith, less));
  check = d.before;
}

-- what a slot has in a front it keeps to its end
pub front_keeps : (f : Front) (w : ℕ → Word) (i d q : ℕ) (o : List ℕ) → i + d ≤ f.count → AreInFront w f → get (front_records w i) q ≡ Some o
    → get (front_records w (i + d)) q ≡ Some o
unfolding front_records
front_keeps f w i zero q o le all e = ap (λ (n : ℕ). get (front_records w n) q) (omega arith) ∙ e
front_keeps f w i (suc d) q o le all e =
    let n : ℕ = i + d in
    let before = front_keeps f w i d q o (omega (arith, le)) all e in
    let more : i + suc d ≡ suc (i + d) = omega arith in
    let apart = (all.each n (omega (arith, le))).apart in
    ap (λ (m : ℕ). get (front_records w m) q) more ∙ get_insert (front_records w n) (front_slot w n) (front_octets w n) q
    ∙ by_slot (front_slot w n == q) refl apart before
  where
    by_slot : (b : Bool) → (front_slot w (i + d) == q) ≡ b → get (front_records w (i + d)) (front_slot w (i + d)) ≡ None
        → get (front_records w (i + d)) q ≡ Some o → cond b (Some (front_octets w (i + d))) (get (front_records w (i + d)) q) ≡ Some o
    by_slot true h apart before =
        let same = same_slot (front_slot w (i + d)) q h in
        absurd (some_apart apart (ap (λ (s : ℕ). get (front_records w (i + d)) s) same ∙ before))
    by_slot false h apart before = before

-- what is known where a record of a front stands
pub record AtRecord (bank : Bank) (at n : ℕ) : Type 0 where
  pub within : at + n < bank.size
  pub few : n ≤ 8
  pub whole : IsWhole bank.words at n
  pub fits : length_at bank.words at ≤ 8 * n

pub at_head : (bank : Bank) (f : Front) (i at : ℕ) → HasFront bank f → i < f.count → at ≡ front_place bank.words i
    → (at < bank.size) × IsFirm (bank.words at)
at_head bank f i at h less is =
    let ends = ends_within f bank.words i h.records less in
    let size = h.within in (
      omega (arith, ends, size, is),
      subst (λ (p : ℕ). IsFirm (bank.words p)) (sym is) (h.records.each i less).whole.readable.head,
    )

pub at_record : (bank : Bank) (f : Front) (i at n : ℕ) → HasFront bank f → i < f.count → at ≡ front_place bank.words i
    → n ≡ words_of (length_at bank.words at) → AtRecord bank at n
at_record bank f i at n h less is long =
    let ends = ends_within f bank.words i h.records less in
    let size = h.within in
    let w = bank.words in
    let wide : front_words w i ≡ n = ap (λ (p : ℕ). words_of (length_at w p)) (sym is) ∙ sym long in
    record {
      within = omega (arith, ends, size, is, wide);
      few = omega (arith, long);
      whole = subst (λ (p : ℕ). IsWhole w p n) (sym is) (subst (λ (m : ℕ). IsWhole w (front_place w i) m) wide (h.records.each i less).whole);
      fits = omega (arith, long);
    }

pub place_after : (w : ℕ → Word) (i at n : ℕ) → at ≡ front_place w i → n ≡ words_of (length_at w at) → at + (1 + n) ≡ front_place w (i + 1)
place_after w i at n is long =
    let wide : front_words w i ≡ n = ap (λ (p : ℕ). words_of (length_at w p)) (sym is) ∙ sym long in
    let next = next_place w i in
    let step : front_place w (i + 1) ≡ front_place w (suc i) = ap (front_place w) (succ i) in
    omega (arith, is, wide, next, step)

apart_is : (s t : ℕ) → (s ≡ t → ⊥) → (s == t) ≡ false
apart_is s t never = grind (arith, nat_tests)

-- a record of the slot that is looked for
pub front_found : (f : Front) (w : ℕ → Word) (i q : ℕ) → i < f.count → AreInFront w f → front_slot w i ≡ q
    → get (front_records w f.count) q ≡ Some (front_octets w i)
front_found f w i q less all is =
    let d : ℕ = f.count - (i + 1) in
    let all_is : i + 1 + d ≡ f.count = omega (arith, less) in
    let tied : (front_slot w i == q) ≡ true = ap (λ (s : ℕ). front_slot w i == s) (sym is) ∙ same_number (front_slot w i) in
    let here : get (front_records w (i + 1)) q ≡ Some (front_octets w i) =
    ap (λ (r : Records). get r q) (next_records w i) ∙ get_insert (front_records w i) (front_slot w i) (front_octets w i) q
    ∙ ap (λ (b : Bool). cond b (Some (front_octets w i)) (get (front_records w i) q)) tied in
    ap (λ (n : ℕ). get (front_records w n) q) (sym all_is) ∙ front_keeps f w (i + 1) d q (front_octets w i) (omega (arith, all_is)) all here

-- and one of another slot
pub front_passed : (w : ℕ → Word) (i q : ℕ) → get (front_records w i) q ≡ None → (front_slot w i ≡ q → ⊥) → get (front_records w (i + 1)) q ≡ None
front_passed w i q none never =
    ap (λ (r : Records). get r q) (next_records w i) ∙ get_insert (front_records w i) (front_slot w i) (front_octets w i) q
    ∙ ap (λ (b : Bool). cond b (Some (front_octets w i)) (get (front_records w i) q)) (apart_is (front_slot w i) q never) ∙ none

pub none_found : (w : ℕ → Word) (q : ℕ) → get (front_records w 0) q ≡ None
unfolding front_records
none_found w q = get-empty nat_cmp q

pub octets_here : (w : ℕ → Word) (i at n : ℕ) → at ≡ front_place w i → n ≡ words_of (length_at w at) → octets_at w at n ≡ front_octets w i
octets_here w i at n is long =
    let wide : n ≡ front_words w i = long ∙ ap (λ (p : ℕ). words_of (length_at w p)) is in
    λ k. octets_at w (is k) (wide k)

-- the record of a front that is looked at next
pub right_at : (bank : Bank) (n i at : ℕ) → AreRight bank n → i < n → at ≡ front_place bank.words i
    → (at + words_of (length_at bank.words at) < bank.size) × IsReadable bank.words at (words_of (length_at bank.words at))
    × (has_check bank.words at (words_of (length_at bank.words at)) ≡ true)
right_at bank n i at right less is =
    let w = bank.words in
    subst (λ (p : ℕ). (p + words_of (length_at w p) < bank.size) × IsReadable w p (words_of (length_at w p))
    × (has_check w p (words_of (length_at w p)) ≡ true))
    (sym is) (right.within i less, right.readable i less, right.check i less)

-- and one that has decayed
pub wrong_at : (bank : Bank) (n i at : ℕ) → IsDecayedAt bank n i → at ≡ front_place bank.words i
    → (at + words_of (length_at bank.words at) < bank.size) × IsReadable bank.words at (words_of (length_at bank.words at))
    × (has_check bank.words at (words_of (length_at bank.words at)) ≡ false)
wrong_at bank n i at d is =
    let w = bank.words in
    let next = next_place w i in
    let step : front_place w (i + 1) ≡ front_place w (suc i) = ap (front_place w) (succ i) in
    let size = d.within in
    subst (λ (p : ℕ). (p + words_of (length_at w p) < bank.size) × IsReadable w p (words_of (length_at w p))
    × (has_check w p (words_of (length_at w p)) ≡ false))
    (sym is) (omega (arith, next, step, size), d.readable i (omega arith), d.decayed)

pub count_is : (bank : Bank) (f : Front) (word : ℕ) → HasFront bank f → word ≡ number_word f.count → word % 0x100000000 ≡ f.count
count_is bank f word h is = let few = h.few in omega (arith, is, few)

-- what the words of a bank say of its front
pub front_in_is : (bank : Bank) (f : Front) → HasFront bank f → front_in bank ≡ f
unfolding front_in
front_in_is bank f h =
    let few = h.few in
    let end = h.records.end in
    let value_is : value (bank.words 3) ≡ number_word f.count = ap value h.number in
    let count_is : value (bank.words 3) % 0x100000000 ≡ f.count = omega (arith, few, value_is) in
    let words_is : front_place bank.words (value (bank.words 3) % 0x100000000) - 4 ≡ f.words =
    ap (λ (n : ℕ). front_place bank.words n - 4) count_is ∙ omega (arith, end) in
    λ k. record { count = count_is k; words = words_is k }

-- it is the same where the words behind the head are
place-same : (w v : ℕ → Word) (n : ℕ) → ((i : ℕ) → 3 ≤ i → v i ≡ w i) → front_place v n ≡ front_place w n
unfolding front_place
place-same w v zero same = refl
place-same w v (suc n) same =
    let before = place-same w v n same in
    let four = front_from_four w n in
    let here : v (front_place v n) ≡ w (front_place w n) = ap v before ∙ same (front_place w n) (omega (arith, four)) in
    λ k. before k + 1 + words_of (value (here k) % 0x100000000 % 65)

pub front_in-same : (old new : Bank) → ((i : ℕ) → 3 ≤ i → new.words i ≡ old.words i) → front_in new ≡ front_in old
unfolding front_in
front_in-same old new same =
    let count : value (new.words 3) % 0x100000000 ≡ value (old.words 3) % 0x100000000 = ap (λ (x : Word). value x % 0x100000000) (same 3 (omega arith)) in
    let end : front_place new.words (value (new.words 3) % 0x100000000) - 4 ≡ front_place old.words (value (old.words 3) % 0x100000000) - 4 =
    ap (λ (n : ℕ). front_place new.words n - 4) count
    ∙ ap (λ (n : ℕ). n - 4) (place-same old.words new.words (value (old.words 3) % 0x100000000) same) in
    λ k. record { count = count k; words = end k }

-- what the words of a copy say of its front, once its mark was programmed, or begun
pub marked_front : (f : Front) (old new : Bank) (ok : Bool) → IsSettled f old 0 → Programs 2 0 ok old new → front_in new ≡ f
marked_front f old new ok s p = front_in-same old new (λ i three. p.others i (λ e. omega (arith, e, three))) ∙ front_in_is old f s.has_front

-- a front that was gone through
pub whole_front : (bank : Bank) (f : Front) (count at i : ℕ) → HasFront bank f → count ≡ f.count → i ≡ f.count → at ≡ front_place bank.words i
    → Some (record { count = count; words = at - 4 }) ≡ Some f
whole_front bank f count at i h is all place =
    let end = h.records.end in
    let last : front_place bank.words i ≡ front_place bank.words f.count = ap (front_place bank.words) all in
    let words_is : at - 4 ≡ f.words = omega (arith, place, last, end) in
    λ k. Some (record { count = is k; words = words_is k })

pub some_same : {A : Type 0} {x y : A} → Some x ≡ Some y → x ≡ y
some_same e = cc

pub both_some : {A : Type 0} {o : Option A} {x y : A} → o ≡ Some x → o ≡ Some y → x ≡ y
both_some e h = some_same (sym e ∙ h)
