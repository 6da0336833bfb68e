-- A text that is masked from its front on, and read behind that.
use Rattle.std.proofs.Common.{◌≡◌, ℕ, ◌+◌, ◌*◌, ◌<◌, ◌≤◌, List, length, drop, get_or, take, sym, ◌∙◌, arith}
use Rattle.std.proofs.lemmas.List.{get_or-drop, get_or-take, length-take-le, ext_get_or, length-drop}
use Rattle.std.proofs.lemmas.Bool.{cond-true, cond-false, eq-eqb, ne_eqb}
use Rattle.std.proofs.Common.{eqb}
use Rattle.aes_modes.specs.Pairs.{following}
use Rattle.aes_modes.specs.KeyStream.{masked}
use Rattle.aes_modes.proofs.Streams.{MaskedTo, get_or-masked, length-masked}

pub same_rest : (old new : List ℕ) (n : ℕ) → length new ≡ length old → ((k : ℕ) → n ≤ k → get_or new k 0 ≡ get_or old k 0) → drop n new ≡ drop n old
same_rest old new n len same =
    ext_get_or 0 (drop n new) (drop n old) (omega (arith, len, length-drop n new, length-drop n old))
    (λ k low. get_or-drop n new k 0 ∙ same (n + k) (omega arith) ∙ sym (get_or-drop n old k 0))

-- a block of a text that is masked up to its end, as a block of the text that is masked whole
pub masked_block : (f : ℕ → List ℕ) → ((i : ℕ) → length (f i) ≡ 16) → (old new : List ℕ) (i : ℕ) → length new ≡ length old → 16 * i + 16 ≤ length old
    → MaskedTo f old new (16 * (i + 1)) → take 16 (drop (16 * i) new) ≡ take 16 (drop (16 * i) (masked f old))
masked_block f blocks old new i len fits held =
    let lm : length (masked f old) ≡ length old = length-masked f blocks old in
    let la : length (take 16 (drop (16 * i) new)) ≡ 16 = length-take-le 16 (drop (16 * i) new) (omega (arith, len, length-drop (16 * i) new)) in
    let lb : length (take 16 (drop (16 * i) (masked f old))) ≡ 16 = length-take-le 16 (drop (16 * i) (masked f old)) (omega (
      arith,
      lm,
      length-drop
          (16 * i) (masked f old),
    )) in
    ext_get_or 0 (take 16 (drop (16 * i) new)) (take 16 (drop (16 * i) (masked f old))) (la ∙ sym lb)
    (λ k low.
    let small : k < 16 = omega (arith, la) in
    get_or-take 16 (drop (16 * i) new) k 0 small ∙ get_or-drop (16 * i) new k 0
    ∙ held.0 (16 * i + k) (omega arith) ∙ sym (get_or-masked f blocks old (16 * i + k) (omega arith))
    ∙ sym (get_or-take 16 (drop (16 * i) (masked f old)) k 0 small ∙ get_or-drop (16 * i) (masked f old) k 0))

-- # The stream block beside a block of the chain

pub following_some : (i blocks : ℕ) → i < blocks → following i blocks ≡ i + 1
following_some i blocks low = cond-false (eqb i blocks) 0 (i + 1) (ne_eqb i blocks (λ e. omega (arith, low, e)))

pub following_last : (i blocks : ℕ) → i ≡ blocks → following i blocks ≡ 0
following_last i blocks e = cond-true (eqb i blocks) 0 (i + 1) (eq-eqb i blocks e)
