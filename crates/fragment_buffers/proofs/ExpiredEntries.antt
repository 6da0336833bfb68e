-- Dropping what has expired, one after another.
use Rattle.std.proofs.Common.{◌≡◌, ℕ, zero, suc, ◌+◌, ◌<◌, ◌≤◌, List, [], ◌∷◌, ◌++◌, length, get_or, take, drop, refl, sym, ap, ◌∙◌, arith, append_assoc}
use Rattle.std.proofs.Common.{add-one}
use Rattle.std.proofs.lemmas.Bool.{cond-true, cond-false, lt-ltb, le-ltb}
use Rattle.std.proofs.lemmas.List.{take_more, drop_more, take_all}
use Rattle.std.specs.List.{remove}
use Rattle.fragment_buffers.specs.Reassembly.{Reassembly}
use Rattle.fragment_buffers.specs.PieceIntake.{unexpired}
use Rattle.fragment_buffers.specs.Answers.{nothing}
use Rattle.fragment_buffers.specs.declared.times.TheConstants.{REASSEMBLY_TIME}

take_remove : (xs : List Reassembly) (i : ℕ) → take i (remove xs i) ≡ take i xs
take_remove [] zero = refl
take_remove [] (suc i) = refl
take_remove (x ∷ xs) zero = refl
take_remove (x ∷ xs) (suc i) = ap (λ ys. x ∷ ys) (take_remove xs i)

drop_remove : (xs : List Reassembly) (i : ℕ) → i < length xs → drop i (remove xs i) ≡ drop (suc i) xs
drop_remove [] i lt = absurd (omega arith)
drop_remove (x ∷ xs) zero lt = refl
drop_remove (x ∷ xs) (suc i) lt = drop_remove xs i (omega arith)

-- what is kept: the first i of them, and of the rest those that have not expired
abbrev pub kept_so_far : List Reassembly → ℕ → ℕ → List Reassembly
kept_so_far held i now = take i held ++ unexpired (drop i held) now

pub expired_at : (held : List Reassembly) (i now : ℕ) → i < length held → (get_or held i nothing).since + REASSEMBLY_TIME ≤ now
    → kept_so_far held i now ≡ kept_so_far (remove held i) i now
unfolding unexpired
expired_at held i now lt old =
    ap (λ rs. take i held ++ unexpired rs now) (drop_more held i nothing lt)
    ∙ ap (λ rs. take i held ++ rs) (cond-false _ _ _ (le-ltb now ((get_or held i nothing).since + REASSEMBLY_TIME) old))
    ∙ ap (λ rs. take i held ++ unexpired rs now) (ap (λ n. drop n held) (add-one i) ∙ sym (drop_remove held i lt))
    ∙ ap (λ rs. rs ++ unexpired (drop i (remove held i)) now) (sym (take_remove held i))

pub unexpired_at : (held : List Reassembly) (i now : ℕ) → i < length held → now < (get_or held i nothing).since + REASSEMBLY_TIME
    → kept_so_far held i now ≡ kept_so_far held (i + 1) now
unfolding unexpired
unexpired_at held i now lt young =
    ap (λ rs. take i held ++ unexpired rs now) (drop_more held i nothing lt)
    ∙ ap (λ rs. take i held ++ rs) (cond-true _ _ _ (lt-ltb now ((get_or held i nothing).since + REASSEMBLY_TIME) young))
    ∙ sym (append_assoc (take i held) (get_or held i nothing ∷ []) (unexpired (drop (i + 1) held) now))
    ∙ ap (λ rs. rs ++ unexpired (drop (i + 1) held) now) (sym (take_more held i nothing lt))

append_nil : (xs : List Reassembly) → xs ++ [] ≡ xs
append_nil [] = refl
append_nil (x ∷ xs) = ap (λ ys. x ∷ ys) (append_nil xs)

drop_all : (i : ℕ) (xs : List Reassembly) → length xs ≤ i → drop i xs ≡ []
drop_all zero [] le = refl
drop_all (suc i) [] le = refl
drop_all zero (x ∷ xs) le = absurd (omega arith)
drop_all (suc i) (x ∷ xs) le = drop_all i xs (omega arith)

pub all_kept : (held : List Reassembly) (i now : ℕ) → length held ≤ i → kept_so_far held i now ≡ held
unfolding unexpired
all_kept held i now le =
    ap (λ rs. take i held ++ unexpired rs now) (drop_all i held le) ∙ append_nil (take i held) ∙ take_all i held le
