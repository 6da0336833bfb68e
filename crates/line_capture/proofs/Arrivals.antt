-- What is said of the arrivals of a flight.
use Rattle.std.proofs.Common.{◌≡◌, ◌≤◌, ◌<◌, ◌&&◌, ℕ, zero, suc, Bool, true, false, ◌+◌, ◌-◌, List, [], ◌∷◌, ◌++◌, length, drop, refl, sym, ap, subst, ◌∙◌}
use Rattle.std.proofs.Common.{append-nil, arith, get_or, if◌then◌else◌, nat_lt}
use Rattle.std.specs.Prelude.{All}
use Rattle.std.proofs.lemmas.Bool.{ltb-true}
use Rattle.std.proofs.lemmas.List.Elements.{All-append, All-nil, All-same}
use Rattle.pcapng.specs.Blocks.{BlockOption, options_spelling}
use Rattle.line_capture.specs.declared.fate.Arrival.{Arrival}
use Rattle.line_capture.specs.FateValues.{FateValue}
use Rattle.line_capture.specs.Comments.{arrival_notes, arrivals_notes, end_notes, fate_notes, is_meant, meant_after, meant_from, more_notes, others_notes}
use Rattle.line_capture.specs.Comments.{heard_notes}
use Rattle.line_capture.specs.Sentences.{AreFew, IsSmall}
use Rattle.line_capture.proofs.Lists.{next, past}
use Rattle.line_capture.proofs.Options.{few_then, options_four, options_then}

-- # One by one

notes_step : (m : ℕ) (xs : List Arrival) (i : ℕ) (d : Arrival) → i < length xs
    → arrivals_notes m (drop i xs) ≡ heard_notes m (get_or xs i d) ++ arrivals_notes (meant_after m (get_or xs i d)) (drop (suc i) xs)
notes_step m [] i d h = absurd (omega (arith, h))
notes_step m (x ∷ xs) zero d h = refl
notes_step m (x ∷ xs) (suc i) d h = notes_step m xs i d (omega (arith, h))

pub notes_at : (m : ℕ) (xs : List Arrival) (i : ℕ) (d : Arrival) → i < length xs
    → arrivals_notes m (drop i xs) ≡ heard_notes m (get_or xs i d) ++ arrivals_notes (meant_after m (get_or xs i d)) (drop (i + 1) xs)
notes_at m xs i d h =
    notes_step m xs i d h
    ∙ ap (λ (j : ℕ). heard_notes m (get_or xs i d) ++ arrivals_notes (meant_after m (get_or xs i d)) (drop j xs)) (next i)

meant_step : (m : ℕ) (xs : List Arrival) (i : ℕ) (d : Arrival) → i < length xs
    → meant_from m (drop i xs) ≡ meant_from (meant_after m (get_or xs i d)) (drop (suc i) xs)
meant_step m [] i d h = absurd (omega (arith, h))
meant_step m (x ∷ xs) zero d h = refl
meant_step m (x ∷ xs) (suc i) d h = meant_step m xs i d (omega (arith, h))

pub meant_at : (m : ℕ) (xs : List Arrival) (i : ℕ) (d : Arrival) → i < length xs
    → meant_from m (drop i xs) ≡ meant_from (meant_after m (get_or xs i d)) (drop (i + 1) xs)
meant_at m xs i d h = meant_step m xs i d h ∙ ap (λ (j : ℕ). meant_from (meant_after m (get_or xs i d)) (drop j xs)) (next i)

-- one more, or as many
after_by : (b : Bool) (m : ℕ) → (if b then m + 1 else m) ≤ m + 1
after_by true m = omega arith
after_by false m = omega arith

pub meant_low : (m : ℕ) (x : Arrival) → meant_after m x ≤ m + 1
meant_low m x = after_by (is_meant x) m

-- # At most 40

few_heard : (t : Bool) (m : ℕ) (x : Arrival) (rest : ℕ → List BlockOption) → ((k : ℕ) → length (rest k) ≤ 40 - k) → nat_lt m 40 ≡ t
    → length ((if t then arrival_notes x else []) ++ rest (m + 1)) ≤ 40 - m
few_heard true m x rest h e = let l = ltb-true m 40 e in let r = h (m + 1) in omega (arith, l, r)
few_heard false m x rest h e = let r = h (m + 1) in omega (arith, r)

few_by : (b : Bool) (m : ℕ) (x : Arrival) (rest : ℕ → List BlockOption) → ((k : ℕ) → length (rest k) ≤ 40 - k)
    → length ((if b && nat_lt m 40 then arrival_notes x else []) ++ rest (if b then m + 1 else m)) ≤ 40 - m
few_by false m x rest h = h m
few_by true m x rest h = few_heard (nat_lt m 40) m x rest h refl

pub few_arrivals : (m : ℕ) (xs : List Arrival) → length (arrivals_notes m xs) ≤ 40 - m
few_arrivals m [] = omega arith
few_arrivals m (x ∷ xs) = few_by (is_meant x) m x (λ k. arrivals_notes k xs) (λ k. few_arrivals k xs)

-- # What was noted, with one arrival more

pub arrival_noted : (old middle total : List ℕ) (m n : ℕ) (xs : List Arrival) (i : ℕ) (d : Arrival) → i < length xs
    → middle ≡ old ++ options_spelling (heard_notes m (get_or xs i d)) → n ≡ meant_after m (get_or xs i d)
    → old ++ options_spelling (arrivals_notes m (drop i xs)) ≡ total → middle ++ options_spelling (arrivals_notes n (drop (i + 1) xs)) ≡ total
arrival_noted old middle total m n xs i d l e f g =
    let x : Arrival = get_or xs i d in
    options_then old middle (middle ++ options_spelling (arrivals_notes n (drop (i + 1) xs))) (heard_notes m x) (arrivals_notes n (drop (i + 1) xs)) e refl
    ∙ ap (λ (k : ℕ). old ++ options_spelling (heard_notes m x ++ arrivals_notes k (drop (i + 1) xs))) f
    ∙ ap (λ (os : List BlockOption). old ++ options_spelling os) (sym (notes_at m xs i d l)) ∙ g

pub arrival_counted : (total m n : ℕ) (xs : List Arrival) (i : ℕ) (d : Arrival) → i < length xs → n ≡ meant_after m (get_or xs i d)
    → meant_from m (drop i xs) ≡ total → meant_from n (drop (i + 1) xs) ≡ total
arrival_counted total m n xs i d l f g = ap (λ (k : ℕ). meant_from k (drop (i + 1) xs)) f ∙ sym (meant_at m xs i d l) ∙ g

pub arrival_bound : (m n : ℕ) (xs : List Arrival) (i : ℕ) (d : Arrival) → n ≡ meant_after m (get_or xs i d) → m ≤ i → n ≤ i + 1
arrival_bound m n xs i d e h = let a = meant_low m (get_or xs i d) in omega (arith, a, e, h)

pub arrival_small : (all : List BlockOption) (m n : ℕ) (xs : List Arrival) (i : ℕ) (d : Arrival) → i < length xs → n ≡ meant_after m (get_or xs i d)
    → AreFew 1 (heard_notes m (get_or xs i d)) → (All IsSmall (arrivals_notes m (drop i xs)) → All IsSmall all)
    → All IsSmall (arrivals_notes n (drop (i + 1) xs)) → All IsSmall all
arrival_small all m n xs i d l f few h s =
    let x : Arrival = get_or xs i d in
    h
    (All-same IsSmall (arrivals_notes m (drop i xs)) (heard_notes m x ++ arrivals_notes n (drop (i + 1) xs))
    (notes_at m xs i d l ∙ ap (λ (k : ℕ). heard_notes m x ++ arrivals_notes k (drop (i + 1) xs)) (sym f))
    (All-append IsSmall (heard_notes m x) (arrivals_notes n (drop (i + 1) xs)) few.each s))

-- # With none left

pub arrivals_noted : (old total : List ℕ) (m : ℕ) (xs : List Arrival) (i : ℕ) → length xs ≤ i
    → old ++ options_spelling (arrivals_notes m (drop i xs)) ≡ total → old ≡ total
arrivals_noted old total m xs i l g =
    sym (append-nil old) ∙ ap (λ (t : List Arrival). old ++ options_spelling (arrivals_notes m t)) (sym (past xs i l)) ∙ g

pub arrivals_counted : (total m : ℕ) (xs : List Arrival) (i : ℕ) → length xs ≤ i → meant_from m (drop i xs) ≡ total → m ≡ total
arrivals_counted total m xs i l g = ap (λ (t : List Arrival). meant_from m t) (sym (past xs i l)) ∙ g

pub arrivals_small : (all : List BlockOption) (m : ℕ) (xs : List Arrival) (i : ℕ) → length xs ≤ i
    → (All IsSmall (arrivals_notes m (drop i xs)) → All IsSmall all) → All IsSmall all
arrivals_small all m xs i l h =
    h (All-same IsSmall (arrivals_notes m (drop i xs)) [] (ap (λ (t : List Arrival). arrivals_notes m t) (past xs i l)) (All-nil IsSmall))

-- # What became of a flight

-- by its arrivals, how many of them are meant, and the event at which it was lost
abbrev parts_of : List Arrival → ℕ → ℕ → List BlockOption
parts_of xs meant lost = arrivals_notes 0 xs ++ (more_notes meant ++ (others_notes (length xs - meant) ++ end_notes lost (length xs)))

same_parts : (fate : FateValue) (xs : List Arrival) (meant lost : ℕ) → xs ≡ fate.arrivals → meant ≡ meant_from 0 xs → lost ≡ fate.lost
    → parts_of xs meant lost ≡ fate_notes fate
same_parts fate xs meant lost e f g =
    ap (λ (k : ℕ). parts_of xs k lost) f ∙ ap (λ (ys : List Arrival). parts_of ys (meant_from 0 ys) lost) e
    ∙ ap (λ (k : ℕ). parts_of fate.arrivals (meant_from 0 fate.arrivals) k) g

pub fate_noted : (old a b c new : List ℕ) (fate : FateValue) (xs : List Arrival) (meant lost : ℕ) → xs ≡ fate.arrivals → meant ≡ meant_from 0 xs
    → lost ≡ fate.lost → a ≡ old ++ options_spelling (arrivals_notes 0 xs) → b ≡ a ++ options_spelling (more_notes meant)
    → c ≡ b ++ options_spelling (others_notes (length xs - meant)) → new ≡ c ++ options_spelling (end_notes lost (length xs))
    → new ≡ old ++ options_spelling (fate_notes fate)
fate_noted old a b c new fate xs meant lost e f g h i j k =
    options_four old a b c new (arrivals_notes 0 xs) (more_notes meant) (others_notes (length xs - meant)) (end_notes lost (length xs)) h i j k
    ∙ ap (λ (os : List BlockOption). old ++ options_spelling os) (same_parts fate xs meant lost e f g)

pub few_of_fate : (fate : FateValue) (xs : List Arrival) (meant lost : ℕ) → xs ≡ fate.arrivals → meant ≡ meant_from 0 xs → lost ≡ fate.lost
    → All IsSmall (arrivals_notes 0 xs) → AreFew 1 (more_notes meant) → AreFew 1 (others_notes (length xs - meant)) → AreFew 1 (end_notes lost (length xs))
    → AreFew 50 (fate_notes fate)
few_of_fate fate xs meant lost e f g h m o n =
    let most = few_arrivals 0 xs in
    let recorded : AreFew 40 (arrivals_notes 0 xs) = record { count = omega (arith, most); each = h } in
    subst (λ (os : List BlockOption). AreFew 50 os) (same_parts fate xs meant lost e f g)
    (few_then 40 10 50 (arrivals_notes 0 xs) (more_notes meant ++ (others_notes (length xs - meant) ++ end_notes lost (length xs))) recorded
    (few_then 1 9 10 (more_notes meant) (others_notes (length xs - meant) ++ end_notes lost (length xs)) m
    (few_then 1 1 9 (others_notes (length xs - meant)) (end_notes lost (length xs)) o n (omega arith)) (omega arith)) (omega arith))
