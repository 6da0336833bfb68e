-- How much oftener a word was programmed than in a life in which nothing fails, as one number.
use Rattle.std.proofs.Common.{◌≡◌, ◌⊎◌, inl, inr, ℕ, zero, suc, ◌+◌, ◌-◌, ◌<◌, ◌≤◌, ◌==◌, ◌&&◌, ◌||◌, not, leb, Bool, true, false}
use Rattle.std.proofs.Common.{Option, Some, None, if◌then◌else◌, refl, sym, subst, ap, ◌∙◌, arith}
use Rattle.std.proofs.lemmas.Bool.{and_from, and_parts, cases_Bool, or_cases, or_left, or_right, leb-false}
use Rattle.flash_keeper.specs.Flash.{Word, Bank, erased}
use Rattle.flash_keeper.specs.Records.{begun}
use Rattle.flash_keeper.specs.Front.{front_in, HasFront}
use Rattle.flash_keeper.specs.Log.{place, room}
use Rattle.flash_keeper.specs.declared.front.Front.{Front}
use Rattle.flash_keeper.specs.Wear.{is_zero, is_dead, one_if, cell_share, noted, words_past, cells_past, log_past, live_past, spare_past, worn_as, worn_if}
use Rattle.flash_keeper.specs.Wear.{worn_of}
use Rattle.flash_keeper.specs.Wear.{worn_with, IsWornLog, IsWornLive, IsWornSpare, AreWorn, AreProgrammed}
use Rattle.flash_keeper.specs.Banks.{IsDead, IsSeen, AreReady, AreWornBoth}
use Rattle.flash_keeper.proofs.RecordLemmas.{less_or_same}
use Rattle.flash_keeper.proofs.FrontLemmas.{front_in_is, some_is_none}
use Rattle.flash_keeper.proofs.OpeningLemmas.{is_number}
use Rattle.flash_keeper.proofs.WearLemmas.{zero_is, of_zero, one_least, one_true, one_more, log_others}

words_least : (programs : ℕ → ℕ) (share at n f : ℕ) → ((j : ℕ) → j < n → programs (at + j) ≤ f + share) → words_past programs share at n ≤ f
unfolding words_past
words_least programs share at zero f h = omega arith
words_least programs share at (suc n) f h =
    let before = words_least programs share at n f (λ j less. h j (omega (arith, less))) in
    let last = h n (omega arith) in
    omega (arith, before, last)

words_are : (programs : ℕ → ℕ) (share at n f : ℕ) → words_past programs share at n ≤ f → (j : ℕ) → j < n → programs (at + j) ≤ f + share
unfolding words_past
words_are programs share at zero f h j less = absurd (omega (arith, less))
words_are programs share at (suc n) f h j less = elim (less_or_same n j (omega (arith, less))) [
  | inl before ↦ words_are programs share at n f (omega (arith, h)) j before
  | inr here ↦ subst (λ (k : ℕ). programs (at + k) ≤ f + share) (sym here) (omega (arith, h))
]

cells_least : (front : Front) (bank : Bank) (n f : ℕ)
    → ((k j : ℕ) → k < n → j < 12 → bank.programs (place front k + j) ≤ f + cell_share front bank.words k) → cells_past front bank n ≤ f
unfolding cells_past
cells_least front bank zero f h = omega arith
cells_least front bank (suc n) f h =
    let before = cells_least front bank n f (λ k j less small. h k j (omega (arith, less)) small) in
    let last = words_least bank.programs (cell_share front bank.words n) (place front n) 12 f (λ j small. h n j (omega arith) small) in
    omega (arith, before, last)

cells_are : (front : Front) (bank : Bank) (n f : ℕ) → cells_past front bank n ≤ f → (k j : ℕ) → k < n → j < 12
    → bank.programs (place front k + j) ≤ f + cell_share front bank.words k
unfolding cells_past
cells_are front bank zero f h k j less small = absurd (omega (arith, less))
cells_are front bank (suc n) f h k j less small = elim (less_or_same n k (omega (arith, less))) [
  | inl before ↦ cells_are front bank n f (omega (arith, h)) k j before small
  | inr here ↦ subst (λ (i : ℕ). bank.programs (place front i + j) ≤ f + cell_share front bank.words i) (sym here)
      (words_are bank.programs (cell_share front bank.words n) (place front n) 12 f (omega (arith, h)) j small)
]

-- the words from a place on
from_are : (programs : ℕ → ℕ) (share at n f i : ℕ) → words_past programs share at n ≤ f → at ≤ i → i < at + n → programs i ≤ f + share
from_are programs share at n f i h past less =
    let same : at + (i - at) ≡ i = omega (arith, past) in
    subst (λ (j : ℕ). programs j ≤ f + share) same (words_are programs share at n f h (i - at) (omega (arith, past, less)))

log_least : (front : Front) (f : ℕ) (bank : Bank) → IsWornLog front f bank → log_past front bank ≤ f
unfolding log_past
log_least front f bank is =
    let end : ℕ = place front (room front bank.size) in
    let one = words_least bank.programs 1 3 (1 + front.words) f (λ j less. is.records (3 + j) (omega arith) (omega (arith, less))) in
    let two = cells_least front bank (room front bank.size) f is.cells in
    let three = words_least bank.programs 0 end (bank.size - end) f
    (λ j less. let most = is.rest (end + j) (omega arith) (omega (arith, less)) in omega (arith, most)) in
    omega (arith, one, two, three)

log_is : (front : Front) (f : ℕ) (bank : Bank) → log_past front bank ≤ f → IsWornLog front f bank
unfolding log_past
log_is front f bank h =
    let end : ℕ = place front (room front bank.size) in
    record {
      records = λ i past less. from_are bank.programs 1 3 (1 + front.words) f i (omega (arith, h)) past (omega (arith, less));
      cells = cells_are front bank (room front bank.size) f (omega (arith, h));
      rest = λ i past less. (
          let most = from_are bank.programs 0 end (bank.size - end) f i (omega (arith, h)) past (omega (arith, past, less)) in omega (arith, most));
    }

live_least : (front : Front) (f m : ℕ) (bank : Bank) → IsWornLive front f m bank → live_past front m bank ≤ f
unfolding live_past
live_least front f m bank is =
    let head = is.head in
    let number = is.number in
    let mark = is.mark in
    let log = log_least front f bank is.log in
    omega (arith, head, number, mark, log)

live_is : (front : Front) (f m : ℕ) (bank : Bank) → live_past front m bank ≤ f → IsWornLive front f m bank
unfolding live_past
live_is front f m bank h = record {
  head = omega (arith, h);
  number = omega (arith, h);
  mark = omega (arith, h);
  log = log_is front f bank (omega (arith, h));
}

spare_least : (f : ℕ) (bank : Bank) → IsWornSpare f bank → spare_past bank ≤ f
unfolding spare_past
spare_least f bank is =
    let head = is.head in
    let number = is.number in
    let mark = is.mark in
    let others = words_least bank.programs 2 3 (bank.size - 3) f
    (λ j less. let most = is.others (3 + j) (omega arith) (omega (arith, less)) in omega (arith, most)) in
    omega (arith, head, number, mark, others)

spare_is : (f : ℕ) (bank : Bank) → spare_past bank ≤ f → IsWornSpare f bank
unfolding spare_past
spare_is f bank h = record {
  head = omega (arith, h);
  number = omega (arith, h);
  mark = omega (arith, h);
  others = λ i past less. from_are bank.programs 2 3 (bank.size - 3) f i (omega (arith, h)) past (omega (arith, past, less));
}

worn_least : (front : Front) (f : ℕ) (live spare : Bank) → AreWorn front f live spare → worn_as front live spare ≤ f
unfolding worn_as
worn_least front f live spare is =
    let one = live_least front f (noted spare) live is.live_is in
    let two = spare_least f spare is.spare_is in
    omega (arith, one, two)

worn_is : (front : Front) (f : ℕ) (live spare : Bank) → worn_as front live spare ≤ f → AreWorn front f live spare
unfolding worn_as
worn_is front f live spare h = record { live_is = live_is front f (noted spare) live (omega (arith, h)); spare_is = spare_is f spare (omega (arith, h)) }

-- a bank that no reading takes for a live one
dead_is : (bank : Bank) → IsDead bank → is_dead bank ≡ true
unfolding is_dead
dead_is bank (inl retired) = or_left (is_zero (bank.words 0)) (not bank.torn && not (begun (bank.words 2))) (of_zero (bank.words 0) retired)
dead_is bank (inr both) = or_right (is_zero (bank.words 0)) (not bank.torn && not (begun (bank.words 2)))
    (and_from (not bank.torn) (not (begun (bank.words 2))) (ap not both.0) (ap (λ (w : Word). not (begun w)) both.1))

is_dead_bank : (bank : Bank) → is_dead bank ≡ true → IsDead bank
unfolding is_dead
is_dead_bank bank e = elim (or_cases (is_zero (bank.words 0)) (not bank.torn && not (begun (bank.words 2))) e) [
  | inl retired ↦ inl (zero_is (bank.words 0) retired)
  | inr both ↦ inr (firm bank.torn (parts both).0, unbegun (bank.words 2) (parts both).1)
]
  where
    parts : (not bank.torn && not (begun (bank.words 2))) ≡ true → (not bank.torn ≡ true) × (not (begun (bank.words 2)) ≡ true)
    parts both = and_parts (not bank.torn) (not (begun (bank.words 2))) both

    firm : (b : Bool) → not b ≡ true → b ≡ false
    firm true e = cc
    firm false e = refl

    never : (b : Bool) → b ≡ false → not (not b) ≡ true → ⊥
    never true is e = cc
    never false is e = cc

    number : (n : ℕ) → ((n == erased) ≡ true) ⊎ ((n == erased) ≡ false) → not (not (n == erased)) ≡ true → Some n ≡ Some erased
    number n (inl is) e = ap Some (is_number n erased is)
    number n (inr is) e = absurd (never (n == erased) is e)

    unbegun : (w : Word) → not (begun w) ≡ true → w ≡ Some erased
    unbegun None e = cc
    unbegun (Some n) e = number n (cases_Bool (n == erased)) e

if_dead : (live spare : Bank) → is_dead live ≡ true → worn_if live spare ≡ 0
unfolding worn_if
if_dead live spare e = λ i. if e i then 0 else worn_as (front_in live) live spare

if_live : (live spare : Bank) → is_dead live ≡ false → worn_if live spare ≡ worn_as (front_in live) live spare
unfolding worn_if
if_live live spare e = λ i. if e i then 0 else worn_as (front_in live) live spare

if_least : (f : ℕ) (live spare : Bank) → IsDead live ⊎ AreWorn (front_in live) f live spare → worn_if live spare ≤ f
if_least f live spare (inl dead) = let none = if_dead live spare (dead_is live dead) in omega (arith, none)
if_least f live spare (inr is) = elim (cases_Bool (is_dead live)) [
  | inl dead ↦ (let none = if_dead live spare dead in omega (arith, none))
  | inr not_dead ↦ (let same = if_live live spare not_dead in let least = worn_least (front_in live) f live spare is in omega (arith, same, least))
]

if_is : (f : ℕ) (live spare : Bank) → worn_if live spare ≤ f → IsDead live ⊎ AreWorn (front_in live) f live spare
if_is f live spare h = elim (cases_Bool (is_dead live)) [
  | inl dead ↦ inl (is_dead_bank live dead)
  | inr not_dead ↦ (let same = if_live live spare not_dead in inr (worn_is (front_in live) f live spare (omega (arith, same, h))))
]

pub with_least : (front : Front) (f : ℕ) (live spare : Bank) → AreWornBoth front f live spare → worn_with front live spare ≤ f
with_least front f live spare is =
    let one = worn_least front f live spare is.0 in
    let two = if_least f spare live is.1 in
    omega (arith, one, two)

pub with_is : (front : Front) (f : ℕ) (live spare : Bank) → worn_with front live spare ≤ f → AreWornBoth front f live spare
with_is front f live spare h = (worn_is front f live spare (omega (arith, h)), if_is f spare live (omega (arith, h)))

pub of_least : (f : ℕ) (live spare : Bank) → AreWornBoth (front_in live) f live spare → worn_of live spare ≤ f
of_least f live spare is =
    let one = if_least f live spare (inr is.0) in
    let two = if_least f spare live is.1 in
    omega (arith, one, two)

-- what banks are that a keeper gives back
pub of_with : (live spare : Bank) → worn_of live spare ≤ worn_with (front_in live) live spare
of_with live spare =
    of_least (worn_with (front_in live) live spare) live spare (with_is (front_in live) (worn_with (front_in live) live spare) live spare (omega arith))

-- and of which one was read as the live one
pub with_of : (live spare : Bank) (g : ℕ) (seen : Option ℕ) → IsSeen live seen → seen ≡ Some g → worn_with (front_in live) live spare ≤ worn_of live spare
with_of live spare g seen sees is = elim (cases_Bool (is_dead live)) [
  | inl dead ↦ absurd (some_is_none (sym is ∙ sees.dead (is_dead_bank live dead)))
  | inr not_dead ↦ (let same = if_live live spare not_dead in omega (arith, same))
]

pub with_of_second : (live spare : Bank) (g : ℕ) (seen : Option ℕ) → IsSeen live seen → seen ≡ Some g
    → worn_with (front_in live) live spare ≤ worn_of spare live
with_of_second live spare g seen sees is = let one = with_of live spare g seen sees is in omega (arith, one)

-- a step that adds so much
pub with_adds : (m : ℕ) (front next : Front) (a b c d : Bank) → ((f : ℕ) → AreWornBoth front f a b → AreWornBoth next (f + m) c d)
    → worn_with next c d ≤ worn_with front a b + m
with_adds m front next a b c d h =
    with_least next (worn_with front a b + m) c d (h (worn_with front a b) (with_is front (worn_with front a b) a b (omega arith)))

-- what an opening that failed leaves
pub of_settled : (t : ℕ) (a b c d : Bank) (front next : Front) → front ≡ front_in a → HasFront c next
    → ((f : ℕ) → AreWornBoth front f a b → AreWornBoth next (f + t + 1) c d) → worn_of c d ≤ worn_with (front_in a) a b + t + 1
of_settled t a b c d front next is has h =
    let f : ℕ = worn_with (front_in a) a b in
    let before : AreWornBoth front f a b = subst (λ (e : Front). AreWornBoth e f a b) (sym is) (with_is (front_in a) f a b (omega arith)) in
    of_least (f + t + 1) c d (subst (λ (e : Front). AreWornBoth e (f + t + 1) c d) (sym (front_in_is c next has)) (h f before))

-- a step after which nothing is open, and one that failed
pub with_same : (n : ℕ) (front next : Front) (a b c d : Bank) → AreReady next c d n → ((f : ℕ) → AreWorn front f a b → AreWorn next f c d)
    → worn_with next c d ≤ worn_with front a b
with_same n front next a b c d ready h =
    with_least next (worn_with front a b) c d
    (h (worn_with front a b) ((with_is front (worn_with front a b) a b (omega arith)).0), inl ready.beside)

pub with_cut : (front next : Front) (a b c d : Bank) → ((f : ℕ) → AreWorn front f a b → AreWornBoth next (f + 1) c d)
    → worn_with next c d ≤ worn_with front a b + 1
with_cut front next a b c d h = with_adds 1 front next a b c d (λ f is. h f is.0)

-- an opening, where a cell is left and where none is
pub with_opened : (n : ℕ) (front next : Front) (a b c d : Bank) → AreReady next c d n
    → ((f : ℕ) → n < room next c.size → AreWorn front f a b → AreWorn next (f + one_if b.torn) c d)
    → ((f : ℕ) → AreWornBoth front f a b → AreWornBoth next (f + one_if b.torn + 1) c d)
    → worn_with next c d ≤ worn_with front a b + one_if b.torn + one_if (leb (room next c.size) n)
with_opened n front next a b c d ready exact any = elim (cases_Bool (leb (room next c.size) n)) [
  | inl full ↦ (
      let most = with_least next (worn_with front a b + one_if b.torn + 1) c d
      (any (worn_with front a b) (with_is front (worn_with front a b) a b (omega arith))) in
      let one = one_true (leb (room next c.size) n) full in
      omega (arith, most, one))
  | inr some ↦ (
      let less : n < room next c.size = leb-false (room next c.size) n some in
      let most = with_least next (worn_with front a b + one_if b.torn) c d
      (exact (worn_with front a b) less (with_is front (worn_with front a b) a b (omega arith)).0, inl ready.beside) in
      omega (arith, most))
]

pub torn_first : (a b : Bool) → one_if a ≤ one_if (a || b)
torn_first a b = one_more a (a || b) (λ e. or_left a b e)

pub torn_second : (a b : Bool) → one_if b ≤ one_if (a || b)
torn_second a b = one_more b (a || b) (λ e. or_right a b e)

-- a store that was made
pub with_none : (front : Front) (live spare : Bank) → AreWorn front 0 live spare → IsDead spare → worn_with front live spare ≡ 0
with_none front live spare is dead = let most = with_least front 0 live spare (is, inl dead) in omega (arith, most)

-- how often each word was programmed
pub programmed_of : (f : ℕ) (bank : Bank) → bank.programs 0 ≤ 3 + f → bank.programs 1 ≤ 2 + f → bank.programs 2 ≤ 2 + f
    → ((i : ℕ) → 3 ≤ i → i < bank.size → bank.programs i ≤ f + 2) → AreProgrammed f bank
programmed_of f bank head one two rest = record { head = head; others = others }
  where
    others : (i : ℕ) → 0 < i → i < bank.size → bank.programs i ≤ 2 + f
    others zero more less = absurd (omega (arith, more))
    others (suc zero) more less = one
    others (suc (suc zero)) more less = two
    others (suc (suc (suc i))) more less = let most = rest (suc (suc (suc i))) (omega arith) less in omega (arith, most)

pub are_programmed : (front : Front) (live spare : Bank)
    → AreProgrammed (worn_with front live spare) live × AreProgrammed (worn_with front live spare) spare
are_programmed front live spare =
    let f : ℕ = worn_with front live spare in
    let is = (with_is front f live spare (omega arith)).0 in
    let note = one_least (is_zero (spare.words 1)) in
    let a = is.live_is.head in
    let b = is.live_is.number in
    let c = is.live_is.mark in
    let d = is.spare_is.head in
    let e = is.spare_is.number in
    let g = is.spare_is.mark in (
      programmed_of f live (omega (arith, a)) (omega (arith, b)) (omega (arith, c, note)) (log_others front f live is.live_is.log),
      programmed_of f spare (omega (arith, d, note)) (omega (arith, e, note)) (omega (arith, g)) is.spare_is.others,
    )
