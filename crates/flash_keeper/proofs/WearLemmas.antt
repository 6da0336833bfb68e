-- How often words were programmed: after a program, an opening, a put, a copy.
use Rattle.std.proofs.Common.{◌≡◌, ◌⊎◌, inl, inr, ℕ, ◌+◌, ◌-◌, ◌/◌, ◌%◌, ◌<◌, ◌≤◌, ◌||◌, Bool, true, false, Some, None}
use Rattle.std.proofs.Common.{refl, sym, subst, ap, ◌∙◌, arith}
use Rattle.std.proofs.lemmas.Bool.{cases_lt, cases_eq, or_cases, or_left, or_right, or_from}
use Rattle.flash_keeper.specs.Flash.{Word, Bank, IsBlank, Programs, Erases, erased}
use Rattle.flash_keeper.specs.Log.{place, mark, close, room, Choice, IsCertain, IsSettled, IsLeft, IsFoundBlank, SameOutside}
use Rattle.flash_keeper.specs.Wear.{is_zero, one_if, is_done, cell_share, noted, IsWornLog, IsWornLive, IsWornSpare, AreWorn, Counts, Keeps}
use Rattle.flash_keeper.specs.Front.{IsFresh, front_in}
use Rattle.flash_keeper.specs.declared.front.Front.{Front}
use Rattle.flash_keeper.specs.Banks.{IsDead, AreWornBoth}
use Rattle.flash_keeper.proofs.OpeningLemmas.{is_number, true_is_false}

pub zero_is : (w : Word) → is_zero w ≡ true → w ≡ Some 0
unfolding is_zero
zero_is None e = cc
zero_is (Some n) e = ap Some (is_number n 0 e)

pub of_zero : (w : Word) → w ≡ Some 0 → is_zero w ≡ true
unfolding is_zero
of_zero w e = ap is_zero e

pub of_erased : (w : Word) → w ≡ Some erased → is_zero w ≡ false
unfolding is_zero
of_erased w e = ap is_zero e

pub one_true : (b : Bool) → b ≡ true → one_if b ≡ 1
unfolding one_if
one_true b e = ap one_if e

pub one_false : (b : Bool) → b ≡ false → one_if b ≡ 0
unfolding one_if
one_false b e = ap one_if e

pub one_least : (b : Bool) → one_if b ≤ 1
unfolding one_if
one_least true = omega arith
one_least false = omega arith

pub one_more : (a b : Bool) → (a ≡ true → b ≡ true) → one_if a ≤ one_if b
unfolding one_if
one_more false b h = omega arith
one_more true b h = let e = one_true b (h refl) in omega (arith, e)

-- the share of a cell
pub share_none : (front : Front) (w : ℕ → Word) (k : ℕ) → is_done front w k ≡ false → is_done front w (k + 1) ≡ false → cell_share front w k ≡ 0
unfolding cell_share
share_none front w k e f =
    let one = one_false (is_done front w k || is_done front w (k + 1)) (or_from (is_done front w k) (is_done front w (k + 1)) e f) in
    let two = one_false (is_done front w (k + 1)) f in
    omega (arith, one, two)

pub share_one : (front : Front) (w : ℕ → Word) (k : ℕ) → is_done front w (k + 1) ≡ false → cell_share front w k ≤ 1
unfolding cell_share
share_one front w k f =
    let one = one_least (is_done front w k || is_done front w (k + 1)) in
    let two = one_false (is_done front w (k + 1)) f in
    omega (arith, one, two)

pub share_some : (front : Front) (w : ℕ → Word) (k : ℕ) → is_done front w k ≡ true → 1 ≤ cell_share front w k
unfolding cell_share
share_some front w k e =
    let one = one_true (is_done front w k || is_done front w (k + 1)) (or_left (is_done front w k) (is_done front w (k + 1)) e) in
    omega (arith, one)

pub share_two : (front : Front) (w : ℕ → Word) (k : ℕ) → is_done front w (k + 1) ≡ true → cell_share front w k ≡ 2
unfolding cell_share
share_two front w k f =
    let one = one_true (is_done front w k || is_done front w (k + 1)) (or_right (is_done front w k) (is_done front w (k + 1)) f) in
    let two = one_true (is_done front w (k + 1)) f in
    omega (arith, one, two)

pub share_least : (front : Front) (w : ℕ → Word) (k : ℕ) → cell_share front w k ≤ 2
unfolding cell_share
share_least front w k =
    let one = one_least (is_done front w k || is_done front w (k + 1)) in
    let two = one_least (is_done front w (k + 1)) in
    omega (arith, one, two)

pub share_more : (front : Front) (w v : ℕ → Word) (k : ℕ) → ((i : ℕ) → is_done front w i ≡ true → is_done front v i ≡ true)
    → cell_share front w k ≤ cell_share front v k
unfolding cell_share
share_more front w v k h =
    let one = one_more (is_done front w k || is_done front w (k + 1)) (is_done front v k || is_done front v (k + 1)) either in
    let two = one_more (is_done front w (k + 1)) (is_done front v (k + 1)) (h (k + 1)) in
    omega (arith, one, two)
  where
    either : (is_done front w k || is_done front w (k + 1)) ≡ true → (is_done front v k || is_done front v (k + 1)) ≡ true
    either e = elim (or_cases (is_done front w k) (is_done front w (k + 1)) e) [
      | inl a ↦ or_left (is_done front v k) (is_done front v (k + 1)) (h k a)
      | inr b ↦ or_right (is_done front v k) (is_done front v (k + 1)) (h (k + 1) b)
    ]

-- a cell of which mark and close are erased is not done
pub blank_is_undone : (front : Front) (w : ℕ → Word) (k : ℕ) → w (mark front k) ≡ Some erased → w (close front k) ≡ Some erased → is_done front w k ≡ false
blank_is_undone front w k m c =
    or_from (is_zero (w (mark front k))) (is_zero (w (close front k))) (of_erased (w (mark front k)) m) (of_erased (w (close front k)) c)

pub undone_of : (front : Front) (w : ℕ → Word) (k : ℕ) → w (mark front k) ≡ Some erased → (w (close front k) ≡ Some 0 → ⊥) → is_done front w k ≡ false
undone_of front w k m never =
    or_from (is_zero (w (mark front k))) (is_zero (w (close front k))) (of_erased (w (mark front k)) m) (unclosed (is_zero (w (close front k))) refl)
  where
    unclosed : (b : Bool) → is_zero (w (close front k)) ≡ b → is_zero (w (close front k)) ≡ false
    unclosed true e = absurd (never (zero_is (w (close front k)) e))
    unclosed false e = e

pub closed_is_done : (front : Front) (w : ℕ → Word) (k : ℕ) → w (close front k) ≡ Some 0 → is_done front w k ≡ true
closed_is_done front w k c = or_right (is_zero (w (mark front k))) (is_zero (w (close front k))) (of_zero (w (close front k)) c)

-- and a certain one is
pub certain_is_done : (front : Front) (w : ℕ → Word) (k : ℕ) → IsCertain front w k → is_done front w k ≡ true
certain_is_done front w k (inl both) = or_left (is_zero (w (mark front k))) (is_zero (w (close front k))) (of_zero (w (mark front k)) both.0)
certain_is_done front w k (inr both) = closed_is_done front w k both.1

-- a program counts once at its place, and nowhere else
pub program_counts : (old new : Bank) (at word from to : ℕ) (ok : Bool) → from ≤ at → at < to → Programs at word ok old new → Counts from to old new
program_counts old new at word from to ok low high p = record { once = once; outside = outside }
  where
    once : (i : ℕ) → new.programs i ≤ old.programs i + 1
    once i = elim (cases_eq i at) [
      | inl here ↦ subst (λ (n : ℕ). new.programs n ≤ old.programs n + 1) (sym here) p.once
      | inr apart ↦ (let e = p.uncounted i apart in omega (arith, e))
    ]

    outside : (i : ℕ) → (i < from) ⊎ (to ≤ i) → new.programs i ≡ old.programs i
    outside i (inl less) = p.uncounted i (λ e. omega (arith, e, less, low))
    outside i (inr past) = p.uncounted i (λ e. omega (arith, e, past, high))

-- a program of what is there already changes no word
pub same_words : (old new : Bank) (at word : ℕ) (ok : Bool) → Programs at word ok old new → old.words at ≡ Some word → (i : ℕ) → new.words i ≡ old.words i
same_words old new at word ok p is i = elim (cases_eq i at) [
  | inl here ↦ subst (λ (n : ℕ). new.words n ≡ old.words n) (sym here) (p.kept is ∙ sym is)
  | inr apart ↦ p.others i apart
]

pub no_counts : (bank : Bank) (from to : ℕ) → Counts from to bank bank
no_counts bank from to = record { once = λ i. omega arith; outside = λ i h. refl }

-- programs of places that follow one another
pub then_counts : (a b c : Bank) (from at to : ℕ) → from ≤ at → at ≤ to → Counts from at a b → Counts at to b c → Counts from to a c
then_counts a b c from at to low high p q = record { once = once; outside = outside }
  where
    once : (i : ℕ) → c.programs i ≤ a.programs i + 1
    once i = elim (cases_lt i at) [
      | inl less ↦ (let e = q.outside i (inl less) in let h = p.once i in omega (arith, e, h))
      | inr past ↦ (let e = p.outside i (inr past) in let h = q.once i in omega (arith, e, h))
    ]

    outside : (i : ℕ) → (i < from) ⊎ (to ≤ i) → c.programs i ≡ a.programs i
    outside i (inl less) = q.outside i (inl (omega (arith, less, low))) ∙ p.outside i (inl less)
    outside i (inr past) = q.outside i (inr past) ∙ p.outside i (inr (omega (arith, past, high)))

pub wider_counts : (a b : Bank) (from to low high : ℕ) → low ≤ from → to ≤ high → Counts from to a b → Counts low high a b
wider_counts a b from to low high le less p = record { once = p.once; outside = outside }
  where
    outside : (i : ℕ) → (i < low) ⊎ (high ≤ i) → b.programs i ≡ a.programs i
    outside i (inl below) = p.outside i (inl (omega (arith, below, le)))
    outside i (inr past) = p.outside i (inr (omega (arith, past, less)))

-- what is done stays so where a word is programmed to 0
zero_stays : (old new : Bank) (at i : ℕ) (ok : Bool) → Programs at 0 ok old new → is_zero (old.words i) ≡ true → is_zero (new.words i) ≡ true
zero_stays old new at i ok p e = elim (cases_eq i at) [
  | inl here ↦ of_zero (new.words i) (subst (λ (n : ℕ). new.words n ≡ Some 0) (sym here)
      (p.kept (subst (λ (n : ℕ). old.words n ≡ Some 0) here (zero_is (old.words i) e))))
  | inr apart ↦ ap is_zero (p.others i apart) ∙ e
]

done_stays : (front : Front) (w v : ℕ → Word) (k : ℕ) → ((i : ℕ) → is_zero (w i) ≡ true → is_zero (v i) ≡ true) → is_done front w k ≡ true
    → is_done front v k ≡ true
done_stays front w v k h e = elim (or_cases (is_zero (w (mark front k))) (is_zero (w (close front k))) e) [
  | inl a ↦ or_left (is_zero (v (mark front k))) (is_zero (v (close front k))) (h (mark front k) a)
  | inr b ↦ or_right (is_zero (v (mark front k))) (is_zero (v (close front k))) (h (close front k) b)
]

pub zero_keeps : (front : Front) (old new : Bank) (at : ℕ) (ok : Bool) → Programs at 0 ok old new → Keeps front old new
zero_keeps front old new at ok p = record {
  size = p.size;
  note = zero_stays old new at 1 ok p;
  done = λ k e. done_stays front old.words new.words k (λ i z. zero_stays old new at i ok p z) e;
}

pub keeps_all : (front : Front) (bank : Bank) → Keeps front bank bank
keeps_all front bank = record { size = refl; note = λ e. e; done = λ k e. e }

pub then_keeps : (front : Front) (a b c : Bank) → Keeps front a b → Keeps front b c → Keeps front a c
then_keeps front a b c p q = record { size = q.size ∙ p.size; note = λ e. q.note (p.note e); done = λ k e. q.done k (p.done k e) }

-- and where a cell was written after a settled log
pub put_keeps : (front : Front) (old new : Bank) (n : ℕ) → IsSettled front old n → SameOutside (place front n) (place front n + 12) old new
    → new.size ≡ old.size → Keeps front old new
put_keeps front old new n s same size = record {
  size = size;
  note = λ e. ap is_zero (same 1 (inl (omega arith))) ∙ e;
  done = λ k e. elim (cases_lt k n) [
    | inl less ↦ kept k less e
    | inr past ↦ absurd (never k past e)
  ];
}
  where
    kept : (k : ℕ) → k < n → is_done front old.words k ≡ true → is_done front new.words k ≡ true
    kept k less e =
        let m = same (mark front k) (inl (omega (arith, less))) in
        let c = same (close front k) (inl (omega (arith, less))) in
        (λ i. is_zero (m i) || is_zero (c i)) ∙ e

    never : (k : ℕ) → n ≤ k → is_done front old.words k ≡ true → ⊥
    never k past e =
        true_is_false (is_done front old.words k) e
        (blank_is_undone front old.words k (s.blank (mark front k) (omega (arith, past))) (s.blank (close front k) (omega (arith, past))))

-- a log of which each word was programmed once more at most
pub log_more : (front : Front) (f : ℕ) (old new : Bank) → Keeps front old new → ((i : ℕ) → new.programs i ≤ old.programs i + 1) → IsWornLog front f old
    → IsWornLog front (f + 1) new
log_more front f old new keeps once log = record {
  records = λ i three less. let before = log.records i three less in let now = once i in omega (arith, before, now);
  cells = cells;
  rest = rest;
}
  where
    cells : (k j : ℕ) → k < room front new.size → j < 12 → new.programs (place front k + j) ≤ f + 1 + cell_share front new.words k
    cells k j less small =
        let inside : k < room front old.size = subst (λ (z : ℕ). k < room front z) keeps.size less in
        let before = log.cells k j inside small in
        let now = once (place front k + j) in
        let share = share_more front old.words new.words k keeps.done in
        omega (arith, before, now, share)

    rest : (i : ℕ) → place front (room front new.size) ≤ i → i < new.size → new.programs i ≤ f + 1
    rest i past less =
        let from = subst (λ (z : ℕ). place front (room front z) ≤ i) keeps.size past in
        let before = log.rest i from (subst (λ (z : ℕ). i < z) keeps.size less) in
        let now = once i in
        omega (arith, before, now)

pub log_at_most : (front : Front) (f g : ℕ) (bank : Bank) → f ≤ g → IsWornLog front f bank → IsWornLog front g bank
log_at_most front f g bank le log = record {
  records = λ i three less. let before = log.records i three less in omega (arith, before, le);
  cells = λ k j less small. let before = log.cells k j less small in omega (arith, before, le);
  rest = λ i past less. let before = log.rest i past less in omega (arith, before, le);
}

-- one of which no word was programmed
pub log_same : (front : Front) (f : ℕ) (old new : Bank) → Keeps front old new → ((i : ℕ) → 3 ≤ i → new.programs i ≡ old.programs i) → IsWornLog front f old
    → IsWornLog front f new
log_same front f old new keeps same log = record {
  records = λ i three less. let before = log.records i three less in let now = same i three in omega (arith, before, now);
  cells = cells;
  rest = rest;
}
  where
    cells : (k j : ℕ) → k < room front new.size → j < 12 → new.programs (place front k + j) ≤ f + cell_share front new.words k
    cells k j less small =
        let inside : k < room front old.size = subst (λ (z : ℕ). k < room front z) keeps.size less in
        let before = log.cells k j inside small in
        let now = same (place front k + j) (omega arith) in
        let share = share_more front old.words new.words k keeps.done in
        omega (arith, before, now, share)

    rest : (i : ℕ) → place front (room front new.size) ≤ i → i < new.size → new.programs i ≤ f
    rest i past less =
        let from = subst (λ (z : ℕ). place front (room front z) ≤ i) keeps.size past in
        let before = log.rest i from (subst (λ (z : ℕ). i < z) keeps.size less) in
        let now = same i (omega (arith, past)) in
        omega (arith, before, now)

-- One of which the last cell was programmed once more, and the first one after it written or closed, which was not done, nor the one after that.
pub log_goes_on : (front : Front) (f at : ℕ) (old new : Bank) → Keeps front old new → Counts (place front (at - 1)) (place front at + 12) old new
    → at < room front old.size
    → is_done front old.words at ≡ false → is_done front old.words (at + 1) ≡ false → is_done front new.words at ≡ true → IsWornLog front f old
    → IsWornLog front f new
log_goes_on front f at old new keeps counts has_room undone next done log = record { records = records; cells = cells; rest = rest }
  where
    here : (k j : ℕ) → k < room front old.size → j < 12 → k ≡ at → new.programs (place front k + j) ≤ f + cell_share front new.words k
    here k j less small is =
        let before = log.cells k j less small in
        let now = counts.once (place front k + j) in
        let was = share_none front old.words k (ap (λ (n : ℕ). is_done front old.words n) is ∙ undone)
        (ap (λ (n : ℕ). is_done front old.words (n + 1)) is ∙ next) in
        let share = share_some front new.words k (ap (λ (n : ℕ). is_done front new.words n) is ∙ done) in
        omega (arith, before, now, was, share)

    last : (k j : ℕ) → k < room front old.size → j < 12 → k + 1 ≡ at → new.programs (place front k + j) ≤ f + cell_share front new.words k
    last k j less small is =
        let before = log.cells k j less small in
        let now = counts.once (place front k + j) in
        let was = share_one front old.words k (ap (λ (n : ℕ). is_done front old.words n) is ∙ undone) in
        let share = share_two front new.words k (ap (λ (n : ℕ). is_done front new.words n) is ∙ done) in
        omega (arith, before, now, was, share)

    other : (k j : ℕ) → k < room front old.size → j < 12 → (k + 1 < at) ⊎ (at < k) → new.programs (place front k + j) ≤ f + cell_share front new.words k
    other k j less small (inl below) =
        let before = log.cells k j less small in
        let now = counts.outside (place front k + j) (inl (omega (arith, below, small))) in
        let share = share_more front old.words new.words k keeps.done in
        omega (arith, before, now, share)
    other k j less small (inr above) =
        let before = log.cells k j less small in
        let now = counts.outside (place front k + j) (inr (omega (arith, above))) in
        let share = share_more front old.words new.words k keeps.done in
        omega (arith, before, now, share)

    cells : (k j : ℕ) → k < room front new.size → j < 12 → new.programs (place front k + j) ≤ f + cell_share front new.words k
    cells k j less small =
        let inside : k < room front old.size = subst (λ (z : ℕ). k < room front z) keeps.size less in
        elim (cases_eq k at) [
          | inl is ↦ here k j inside small is
          | inr apart ↦ (elim (cases_eq (k + 1) at) [
            | inl is ↦ last k j inside small is
            | inr further ↦ (elim (cases_lt k at) [
              | inl below ↦ other k j inside small (inl (omega (arith, below, further)))
              | inr above ↦ other k j inside small (inr (omega (arith, above, apart)))
            ])
          ])
        ]

    records : (i : ℕ) → 3 ≤ i → i < 4 + front.words → new.programs i ≤ f + 1
    records i three less =
        let before = log.records i three less in
        let now = counts.outside i (inl (omega (arith, less))) in
        omega (arith, before, now)

    rest : (i : ℕ) → place front (room front new.size) ≤ i → i < new.size → new.programs i ≤ f
    rest i past less =
        let from = subst (λ (z : ℕ). place front (room front z) ≤ i) keeps.size past in
        let before = log.rest i from (subst (λ (z : ℕ). i < z) keeps.size less) in
        let now = counts.outside i (inr (omega (arith, from, has_room))) in
        omega (arith, before, now)

-- one to which all cells were copied
pub log_of_copy : (front : Front) (f : ℕ) (bank old : Bank) → IsFresh front old → ((i : ℕ) → 3 ≤ i → bank.programs i ≡ old.programs i)
    → IsWornLog front f bank
log_of_copy front f bank old fresh same = record {
  records = λ i three less. let now = same i three in let once = fresh.once i in omega (arith, now, once);
  cells = λ k j less small. let now = same (place front k + j) (omega arith) in let none = fresh.rest (place front k + j) (omega arith) in
      omega (arith, now, none);
  rest = λ i past less. let now = same i (omega (arith, past)) in let none = fresh.rest i (omega (arith, past)) in omega (arith, now, none);
}

-- a bank of which each word was programmed so rarely may be a live one or a spare one
pub spare_of_few : (f : ℕ) (bank : Bank) → ((i : ℕ) → bank.programs i ≤ f + 1) → IsWornSpare f bank
spare_of_few f bank few = record {
  head = let now = few 0 in omega (arith, now);
  number = let now = few 1 in omega (arith, now);
  mark = let now = few 2 in omega (arith, now);
  others = λ i three less. let now = few i in omega (arith, now);
}

pub spare_of_blank : (f : ℕ) (bank : Bank) → ((i : ℕ) → bank.programs i ≡ 0) → IsWornSpare f bank
spare_of_blank f bank none = spare_of_few f bank (λ i. let now = none i in omega (arith, now))

-- a spare bank of which each word was programmed once more at most
pub spare_more : (f : ℕ) (old new : Bank) → new.size ≡ old.size → (is_zero (old.words 1) ≡ true → is_zero (new.words 1) ≡ true)
    → ((i : ℕ) → new.programs i ≤ old.programs i + 1) → IsWornSpare f old → IsWornSpare (f + 1) new
spare_more f old new size notes once spare =
    let note = one_more (is_zero (old.words 1)) (is_zero (new.words 1)) notes in
    record {
      head = let before = spare.head in let now = once 0 in omega (arith, before, now, note);
      number = let before = spare.number in let now = once 1 in omega (arith, before, now, note);
      mark = let before = spare.mark in let now = once 2 in omega (arith, before, now);
      others = λ i three less. let before = spare.others i three (subst (λ (z : ℕ). i < z) size less) in let now = once i in omega (arith, before, now);
    }

-- and so a live one, whatever is noted beside it
pub live_more : (front : Front) (f m l : ℕ) (old new : Bank) → Keeps front old new → m ≤ l → ((i : ℕ) → new.programs i ≤ old.programs i + 1)
    → IsWornLive front f m old
    → IsWornLive front (f + 1) l new
live_more front f m l old new keeps le once live = record {
  head = let before = live.head in let now = once 0 in omega (arith, before, now);
  number = let before = live.number in let now = once 1 in omega (arith, before, now);
  mark = let before = live.mark in let now = once 2 in omega (arith, before, now, le);
  log = log_more front f old new keeps once live.log;
}

pub live_beside : (front : Front) (f l : ℕ) (live spare : Bank) → IsWornLive front f (noted spare) live → IsWornLive front (f + 1) l live
live_beside front f l live spare is =
    let note = one_least (is_zero (spare.words 1)) in
    record {
      head = let before = is.head in omega (arith, before);
      number = let before = is.number in omega (arith, before);
      mark = let before = is.mark in omega (arith, before, note);
      log = log_at_most front f (f + 1) live (omega arith) is.log;
    }

-- a live bank that is a spare one from then on
pub log_others : (front : Front) (f : ℕ) (bank : Bank) → IsWornLog front f bank → (i : ℕ) → 3 ≤ i → i < bank.size → bank.programs i ≤ f + 2
log_others front f bank log i three less = elim (cases_lt i (4 + front.words)) [
  | inl before ↦ (let most = log.records i three before in omega (arith, most))
  | inr behind ↦ (elim (cases_lt i (place front (room front bank.size))) [
    | inl inside ↦ of_cell behind inside
    | inr past ↦ (let most = log.rest i past less in omega (arith, most))
  ])
]
  where
    of_cell : 4 + front.words ≤ i → i < place front (room front bank.size) → bank.programs i ≤ f + 2
    of_cell behind inside =
        let k : ℕ = (i - (4 + front.words)) / 12 in
        let j : ℕ = (i - (4 + front.words)) % 12 in
        let at : place front k + j ≡ i = omega (arith, behind) in
        let is_in : k < room front bank.size = omega (arith, inside, behind) in
        let most = log.cells k j is_in (omega arith) in
        let share = share_least front bank.words k in
        let same : bank.programs (place front k + j) ≡ bank.programs i = ap bank.programs at in
        omega (arith, most, share, same)

-- a live bank that is a spare one from then on
pub live_is_spare : (front : Front) (f m : ℕ) (live : Bank) → m ≤ 1 → IsWornLive front f m live → IsWornSpare f live
live_is_spare front f m live least is = record {
  head = let before = is.head in omega (arith, before);
  number = let before = is.number in omega (arith, before);
  mark = let before = is.mark in omega (arith, before, least);
  others = log_others front f live is.log;
}

pub live_at_most : (front : Front) (f g m : ℕ) (bank : Bank) → f ≤ g → IsWornLive front f m bank → IsWornLive front g m bank
live_at_most front f g m bank le is = record {
  head = let before = is.head in omega (arith, before, le);
  number = let before = is.number in omega (arith, before, le);
  mark = let before = is.mark in omega (arith, before, le);
  log = log_at_most front f g bank le is.log;
}

pub spare_at_most : (f g : ℕ) (bank : Bank) → f ≤ g → IsWornSpare f bank → IsWornSpare g bank
spare_at_most f g bank le is = record {
  head = let before = is.head in omega (arith, before, le);
  number = let before = is.number in omega (arith, before, le);
  mark = let before = is.mark in omega (arith, before, le);
  others = λ i three less. let before = is.others i three less in omega (arith, before, le);
}

pub worn_at_most : (front : Front) (f g : ℕ) (live spare : Bank) → f ≤ g → AreWorn front f live spare → AreWorn front g live spare
worn_at_most front f g live spare le is = record {
  live_is = live_at_most front f g (noted spare) live le is.live_is;
  spare_is = spare_at_most f g spare le is.spare_is;
}

pub both_at_most : (front : Front) (f g : ℕ) (live spare : Bank) → f ≤ g → AreWornBoth front f live spare → AreWornBoth front g live spare
both_at_most front f g live spare le is = (
  worn_at_most front f g live spare le is.0,
  elim is.1 [
    | inl dead ↦ inl dead
    | inr other ↦ inr (worn_at_most (front_in spare) f g spare live le other)
  ],
)

pub both_beside_dead : (front : Front) (f : ℕ) (live spare : Bank) → IsDead spare → AreWorn front f live spare → AreWornBoth front (f + 1) live spare
both_beside_dead front f live spare dead is = (worn_at_most front f (f + 1) live spare (omega arith) is, inl dead)

-- the live bank of which each word was programmed once more at most, beside a dead one
pub worn_more : (front : Front) (f : ℕ) (old new spare : Bank) → Keeps front old new → ((i : ℕ) → new.programs i ≤ old.programs i + 1)
    → AreWorn front f old spare
    → AreWorn front (f + 1) new spare
worn_more front f old new spare keeps once is = record {
  live_is = live_more front f (noted spare) (noted spare) old new keeps (omega arith) once is.live_is;
  spare_is = spare_at_most f (f + 1) spare (omega arith) is.spare_is;
}

-- two banks of which each word was programmed once more at most
pub both_more : (front : Front) (f : ℕ) (a b c d : Bank) → Keeps front a b → d.size ≡ c.size → (is_zero (c.words 1) ≡ true → is_zero (d.words 1) ≡ true)
    → ((i : ℕ) → b.programs i ≤ a.programs i + 1) → ((i : ℕ) → d.programs i ≤ c.programs i + 1) → AreWorn front f a c → AreWorn front (f + 1) b d
both_more front f a b c d p size note once twice is = record {
  live_is = live_more front f (noted c) (noted d) a b p (one_more (is_zero (c.words 1)) (is_zero (d.words 1)) note) once is.live_is;
  spare_is = spare_more f c d size note twice is.spare_is;
}

pub both_ways_more : (front : Front) (f : ℕ) (a b c d : Bank) → Keeps front a b → Keeps (front_in c) c d → front_in d ≡ front_in c
    → ((i : ℕ) → b.programs i ≤ a.programs i + 1) → ((i : ℕ) → d.programs i ≤ c.programs i + 1) → (IsDead c → IsDead d) → AreWornBoth front f a c
    → AreWornBoth front (f + 1) b d
both_ways_more front f a b c d p q same once twice dead is = (
  both_more front f a b c d p q.size q.note once twice is.0,
  elim is.1 [
    | inl was ↦ inl (dead was)
    | inr other ↦ inr (subst (λ (h : Front). AreWorn h (f + 1) d b) (sym same)
        (both_more (front_in c) f c d a b q p.size p.note twice once other))
  ],
)

-- words of the log alone were programmed
pub worn_log : (front : Front) (f : ℕ) (old new spare : Bank) → ((i : ℕ) → i < 3 → new.programs i ≡ old.programs i) → IsWornLog front f new
    → AreWorn front f old spare
    → AreWorn front f new spare
worn_log front f old new spare same log is = record {
  live_is = record {
    head = let before = is.live_is.head in let now = same 0 (omega arith) in omega (arith, before, now);
    number = let before = is.live_is.number in let now = same 1 (omega arith) in omega (arith, before, now);
    mark = let before = is.live_is.mark in let now = same 2 (omega arith) in omega (arith, before, now);
    log = log;
  };
  spare_is = is.spare_is;
}

-- a copy, with its mark
pub copy_is_live : (front : Front) (f m : ℕ) (old new : Bank) (ok : Bool) → IsFresh front old → Programs 2 0 ok old new → IsWornLive front f m new
copy_is_live front f m old new ok fresh p = record {
  head = let now = p.uncounted 0 (λ e. omega (arith, e)) in let once = fresh.once 0 in omega (arith, now, once);
  number = let now = p.uncounted 1 (λ e. omega (arith, e)) in let once = fresh.once 1 in omega (arith, now, once);
  mark = let now = p.once in let none = fresh.mark in omega (arith, now, none);
  log = log_of_copy front f new old fresh (λ i three. p.uncounted i (λ e. omega (arith, e, three)));
}

pub retired_is_spare : (front : Front) (f m : ℕ) (old new : Bank) (ok : Bool) → m ≤ 1 → Programs 0 0 ok old new → IsWornLive front f m old
    → IsWornSpare f new
retired_is_spare front f m old new ok least p live = record {
  head = let before = live.head in let now = p.once in omega (arith, before, now);
  number = let before = live.number in let now = p.uncounted 1 (λ e. omega (arith, e)) in omega (arith, before, now);
  mark = let before = live.mark in let now = p.uncounted 2 (λ e. omega (arith, e)) in omega (arith, before, now, least);
  others = λ i three less. let before = log_others front f old live.log i three (subst (λ (z : ℕ). i < z) p.size less) in
      let now = p.uncounted i (λ e. omega (arith, e, three)) in omega (arith, before, now);
}

-- a copy that is gone on with, beside the bank that was copied and retired
pub handed_over : (front copied : Front) (f : ℕ) (old retired spare b0 b1 : Bank) (ok done : Bool) → IsFresh copied b0 → Programs 2 0 ok b0 b1
    → Programs 0 0 done old retired → AreWorn front f old spare → AreWorn copied f b1 retired
handed_over front copied f old retired spare b0 b1 ok done fresh p q is = record {
  live_is = copy_is_live copied f (noted retired) b0 b1 ok fresh p;
  spare_is = retired_is_spare front f (noted spare) old retired done (one_least (is_zero (spare.words 1))) q is.live_is;
}

-- and where that was cut short, in the mark of the copy or in the retirement
pub cut_in_mark : (front copied : Front) (f : ℕ) (old spare b0 b1 : Bank) (ok : Bool) → IsFresh copied b0 → Programs 2 0 ok b0 b1 → front_in b1 ≡ copied
    → AreWorn front f old spare → AreWornBoth front (f + 1) old b1
cut_in_mark front copied f old spare b0 b1 ok fresh p same is =
    let copy = copy_is_live copied f 0 b0 b1 ok fresh p in (
      record {
        live_is = live_beside front f (noted b1) old spare is.live_is;
        spare_is = spare_at_most f (f + 1) b1 (omega arith) (live_is_spare copied f 0 b1 (omega arith) copy);
      },
      inr (subst (λ (h : Front). AreWorn h (f + 1) b1 old) (sym same) (record {
        live_is = copy_is_live copied (f + 1) (noted old) b0 b1 ok fresh p;
        spare_is = spare_at_most f (f + 1) old (omega arith) (live_is_spare front f (noted spare) old (one_least (is_zero (spare.words 1))) is.live_is);
      })),
    )

pub cut_in_retirement : (front copied : Front) (f : ℕ) (old retired spare b0 b1 : Bank) (ok done : Bool) → IsFresh copied b0 → Programs 2 0 ok b0 b1
    → front_in b1 ≡ copied → Programs 0 0 done old retired → AreWorn front f old spare → AreWornBoth front (f + 1) retired b1
cut_in_retirement front copied f old retired spare b0 b1 ok done fresh p same q is =
    let copy = copy_is_live copied f 0 b0 b1 ok fresh p in
    let counts = program_counts old retired 0 0 0 1 done (omega arith) (omega arith) q in
    let keeps = zero_keeps front old retired 0 done q in
    let note = one_least (is_zero (spare.words 1)) in (
      record {
        live_is = record {
          head = let before = is.live_is.head in let now = q.once in omega (arith, before, now);
          number = let before = is.live_is.number in let now = q.uncounted 1 (λ e. omega (arith, e)) in omega (arith, before, now);
          mark = let before = is.live_is.mark in let now = q.uncounted 2 (λ e. omega (arith, e)) in omega (arith, before, now, note);
          log = log_more front f old retired keeps counts.once is.live_is.log;
        };
        spare_is = spare_at_most f (f + 1) b1 (omega arith) (live_is_spare copied f 0 b1 (omega arith) copy);
      },
      inr (subst (λ (h : Front). AreWorn h (f + 1) b1 retired) (sym same) (record {
        live_is = copy_is_live copied (f + 1) (noted retired) b0 b1 ok fresh p;
        spare_is = spare_at_most f (f + 1) retired (omega arith) (retired_is_spare front f (noted spare) old retired done note q is.live_is);
      })),
    )

-- a copy that failed
pub cut_in_copy : (front : Front) (f : ℕ) (live old new : Bank) → IsDead new → (IsWornSpare f old → IsWornSpare (f + 1) new) → AreWorn front f live old
    → AreWornBoth front (f + 1) live new
cut_in_copy front f live old new dead more is =
    (record { live_is = live_beside front f (noted new) live old is.live_is; spare_is = more is.spare_is }, inl dead)

-- a spare bank that was erased, beside one of which the mark was programmed once
pub wiped_worn : (front : Front) (f : ℕ) (live old new : Bank) → live.programs 2 ≤ 1 → ((i : ℕ) → new.programs i ≡ 0) → AreWorn front f live old
    → AreWorn front f live new
wiped_worn front f live old new once none is = record {
  live_is = record {
    head = is.live_is.head;
    number = is.live_is.number;
    mark = omega (arith, once);
    log = is.live_is.log;
  };
  spare_is = spare_of_blank f new none;
}

-- an opening that makes certain that the live bank is it, and the other one none, and notes that
pub parted : (front : Front) (f : ℕ) (a b c d e : Bank) (done : Bool) → Programs 2 0 true a b → Programs 0 0 true c d → Programs 1 0 true d e → c.torn ≡ done
    → (done ≡ false → c.words 1 ≡ Some 0 → ⊥) → AreWorn front f a c → AreWorn front (f + one_if done) b e
parted front f a b c d e true p q r torn never is =
    let notes : is_zero (c.words 1) ≡ true → is_zero (e.words 1) ≡ true = λ z. of_zero (e.words 1) (r.done refl) in
    let more = both_more front f a b c e (zero_keeps front a b 2 true p) (r.size ∙ q.size) notes
    (program_counts a b 2 0 2 3 true (omega arith) (omega arith) p).once
    (then_counts c d e 0 1 2 (omega arith) (omega arith) (program_counts c d 0 0 0 1 true (omega arith) (omega arith) q)
    (program_counts d e 1 0 1 2 true (omega arith) (omega arith) r)).once is in
    let one = one_true true refl in
    let same : f + 1 ≡ f + one_if true = omega (arith, one) in
    subst (λ (n : ℕ). AreWorn front n b e) same more
parted front f a b c d e false p q r torn never is =
    let was : noted c ≡ 0 = one_false (is_zero (c.words 1)) (unnoted (is_zero (c.words 1)) refl) in
    let now : noted e ≡ 1 = one_true (is_zero (e.words 1)) (of_zero (e.words 1) (r.done refl)) in
    let none = one_false false refl in
    let same : f ≡ f + one_if false = omega (arith, none) in
    subst (λ (n : ℕ). AreWorn front n b e) same (record {
      live_is = record {
        head = let before = is.live_is.head in let count = p.uncounted 0 (λ x. omega (arith, x)) in omega (arith, before, count);
        number = let before = is.live_is.number in let count = p.uncounted 1 (λ x. omega (arith, x)) in omega (arith, before, count);
        mark = let before = is.live_is.mark in let count = p.once in omega (arith, before, count, was, now);
        log = log_same front f a b (zero_keeps front a b 2 true p) (λ i three. p.uncounted i (λ x. omega (arith, x, three))) is.live_is.log;
      };
      spare_is = record {
        head = let before = is.spare_is.head in let count = q.once in let still = r.uncounted 0 (λ x. omega (arith, x)) in
            omega (arith, before, count, still, was, now);
        number = let before = is.spare_is.number in let count = r.once in let still = q.uncounted 1 (λ x. omega (arith, x)) in
            omega (arith, before, count, still, was, now);
        mark = let before = is.spare_is.mark in let one = q.uncounted 2 (λ x. omega (arith, x)) in let two = r.uncounted 2 (λ x. omega (arith, x)) in
            omega (arith, before, one, two);
        others = λ i three less.
            let before = is.spare_is.others i three (subst (λ (z : ℕ). i < z) (r.size ∙ q.size) less) in
            let one = q.uncounted i (λ x. omega (arith, x, three)) in
            let two = r.uncounted i (λ x. omega (arith, x, three)) in
            omega (arith, before, one, two);
      };
    })
  where
    unnoted : (b : Bool) → is_zero (c.words 1) ≡ b → is_zero (c.words 1) ≡ false
    unnoted true z = absurd (never refl (zero_is (c.words 1) z))
    unnoted false z = z

-- a bank that is retired, and then erased, where that was cut short
pub spare_retired : (f : ℕ) (old new : Bank) (ok : Bool) → Programs 0 0 ok old new → IsWornSpare f old → IsWornSpare (f + 1) new
spare_retired f old new ok p spare =
    spare_more f old new p.size (λ z. ap is_zero (p.others 1 (λ e. omega (arith, e))) ∙ z)
    (program_counts old new 0 0 0 1 ok (omega arith) (omega arith) p).once spare

pub wiped_cut : (f : ℕ) (old retired new : Bank) (ok : Bool) → Programs 0 0 true old retired → Erases ok retired new → ok ≡ false → IsWornSpare f old
    → IsWornSpare (f + 1) new
wiped_cut f old retired new ok p e failed spare = elim (e.cut failed) [
  | inl same ↦ subst (λ (b : Bank). IsWornSpare (f + 1) b) (sym same) (spare_retired f old retired true p spare)
  | inr more ↦ (elim more [
    | inl torn ↦ spare_more f old new (e.size ∙ p.size)
        (λ z. ap (λ (h : ℕ → Word). is_zero (h 1)) torn.1 ∙ ap is_zero (p.others 1 (λ x. omega (arith, x))) ∙ z)
        (λ i. let same = ap (λ (h : ℕ → ℕ). h i) torn.2 in let once = counts.once i in omega (arith, same, once)) spare
    | inr blank ↦ spare_of_blank (f + 1) new blank.2
  ])
]
  where
    counts : Counts 0 1 old retired
    counts = program_counts old retired 0 0 0 1 true (omega arith) (omega arith) p

-- a bank that was erased and given a head
pub headed_few : (f : ℕ) (a b : Bank) (word : ℕ) (ok : Bool) → IsBlank a → Programs 0 word ok a b → IsWornSpare (f + 1) b
headed_few f a b word ok blank p =
    spare_of_few (f + 1) b (λ i. let none = blank.fresh i in
    let once = (program_counts a b 0 word 0 1 ok (omega arith) (omega arith) p).once i in omega (arith, none, once))

pub begun_counts : (a b c : Bank) (word number : ℕ) (ok done : Bool) → Programs 0 word ok a b → Programs 1 number done b c → Counts 0 2 a c
begun_counts a b c word number ok done p q =
    then_counts a b c 0 1 2 (omega arith) (omega arith) (program_counts a b 0 word 0 1 ok (omega arith) (omega arith) p)
    (program_counts b c 1 number 1 2 done (omega arith) (omega arith) q)

pub few_spare : (f : ℕ) (bank : Bank) → ((i : ℕ) → bank.programs i ≤ 1) → IsWornSpare (f + 1) bank
few_spare f bank few = spare_of_few (f + 1) bank (λ i. let once = few i in omega (arith, once))

-- and to which cells were copied, or in part

-- a record that was put after a settled log
pub put_is_worn : (front : Front) (f n : ℕ) (old new spare : Bank) → IsSettled front old n → IsSettled front new (n + 1) → n < room front old.size
    → SameOutside (place front n) (place front n + 12) old new
    → new.size ≡ old.size → Counts (place front n) (place front n + 12) old new → AreWorn front f old spare → AreWorn front f new spare
put_is_worn front f n old new spare s t has_room same size counts is =
    let keeps = put_keeps front old new n s same size in
    let undone = blank_is_undone front old.words n (s.blank (mark front n) (omega arith)) (s.blank (close front n) (omega arith)) in
    let next = blank_is_undone front old.words (n + 1) (s.blank (mark front (n + 1)) (omega arith)) (s.blank (close front (n + 1)) (omega arith)) in
    let done = certain_is_done front new.words n (t.certain n (omega arith)) in
    let wide = wider_counts old new (place front n) (place front n + 12) (place front (n - 1)) (place front n + 12) (omega arith) (omega arith) counts in
    worn_log front f old new spare (λ i less. counts.outside i (inl (omega (arith, less))))
    (log_goes_on front f n old new keeps wide has_room undone next done is.live_is.log) is

-- an opening that settled the last cell and closed the one after it
pub opened_is_worn : (front : Front) (f at : ℕ) (old mid new spare : Bank) → Keeps front old mid → Keeps front mid new
    → Counts (place front (at - 1)) (place front at) old mid
    → Counts (place front at) (place front at + 12) mid new → at < room front old.size → is_done front old.words at ≡ false
    → is_done front old.words (at + 1) ≡ false → is_done front new.words at ≡ true
    → AreWorn front f old spare → AreWorn front f new spare
opened_is_worn front f at old mid new spare p q one two has_room undone next done is =
    let counts = then_counts old mid new (place front (at - 1)) (place front at) (place front at + 12) (omega arith) (omega arith) one two in
    worn_log front f old new spare (λ i less. counts.outside i (inl (omega (arith, less))))
    (log_goes_on front f at old new (then_keeps front old mid new p q) counts has_room undone next done is.live_is.log) is

pub found_undone : (front : Front) (bank : Bank) (n at : ℕ) (c : Choice) → IsLeft front bank n c → IsFoundBlank front bank n at → at < room front bank.size
    → (bank.words (close front at) ≡ Some 0 → ⊥) → is_done front bank.words at ≡ false
found_undone front bank n at c left (inl (here, unmarked)) less unclosed =
    let fits : n < room front bank.size = omega (arith, less, here) in
    undone_of front bank.words at (subst (λ (k : ℕ). bank.words (mark front k) ≡ Some erased) (sym here) (unmarked fits)) unclosed
found_undone front bank n at c left (inr next) less unclosed =
    blank_is_undone front bank.words at (left.blank (mark front at) (omega (arith, next))) (left.blank (close front at) (omega (arith, next)))

pub found_next : (front : Front) (bank : Bank) (n at : ℕ) (c : Choice) → IsLeft front bank n c → IsFoundBlank front bank n at
    → is_done front bank.words (at + 1) ≡ false
found_next front bank n at c left (inl (here, unmarked)) =
    blank_is_undone front bank.words (at + 1) (left.blank (mark front (at + 1)) (omega (arith, here))) (left.blank (close front (at + 1)) (omega (arith, here)))
found_next front bank n at c left (inr next) =
    blank_is_undone front bank.words (at + 1) (left.blank (mark front (at + 1)) (omega (arith, next))) (left.blank (close front (at + 1)) (omega (arith, next)))

-- a reopening that goes on with a whole copy
log_of_spare : (front : Front) (f : ℕ) (bank : Bank) → 4 + front.words ≤ bank.size → IsWornSpare f bank → IsWornLog front (f + 2) bank
log_of_spare front f bank within is = record {
  records = λ i three less. let most = is.others i three (omega (arith, less, within)) in omega (arith, most);
  cells = λ k j less small. let most = is.others (place front k + j) (omega arith) (omega (arith, less, small)) in omega (arith, most);
  rest = λ i past less. is.others i (omega (arith, past)) less;
}

pub reopened_worn : (front copied : Front) (f : ℕ) (old retired copy : Bank) → 4 + copied.words ≤ copy.size → Programs 0 0 true old retired
    → AreWorn front f old copy → AreWornBoth copied (f + 2) copy retired
reopened_worn front copied f old retired copy within p is =
    let note = one_least (is_zero (copy.words 1)) in (
      record {
        live_is = record {
          head = let before = is.spare_is.head in omega (arith, before, note);
          number = let before = is.spare_is.number in omega (arith, before, note);
          mark = let before = is.spare_is.mark in omega (arith, before);
          log = log_of_spare copied f copy within is.spare_is;
        };
        spare_is = spare_at_most f (f + 2) retired (omega arith) (retired_is_spare front f (noted copy) old retired true note p is.live_is);
      },
      inl (inl (p.done refl)),
    )
