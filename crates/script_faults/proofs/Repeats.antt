-- A sign, again and again.
use Rattle.std.proofs.Common.{◌≡◌, ℕ, suc, ◌+◌, List, ◌++◌, sym, ◌∙◌, append_assoc, arith}
use Rattle.std.proofs.lemmas.List.{append-nil}
use Rattle.script_faults.specs.Texts.{repeated}

pub repeated_none : (sign old : List ℕ) → old ≡ old ++ repeated sign 0
unfolding repeated
repeated_none sign old = sym (append-nil old)

pub repeated_more : (sign old new : List ℕ) (n : ℕ) → new ≡ (old ++ repeated sign n) ++ sign → new ≡ old ++ repeated sign (n + 1)
unfolding repeated
repeated_more sign old new n is = let more : n + 1 ≡ suc n = omega arith in rw more (is ∙ append_assoc old (repeated sign n) sign)
