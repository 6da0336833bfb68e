-- The lines of keys.
use Rattle.std.proofs.Common.{◌≡◌, ◌<◌, ℕ, zero, suc, ◌+◌, List, [], ◌∷◌, ◌++◌, length, drop, refl, ap, ◌∙◌, arith, slice_get}
use Rattle.line_capture.specs.Profiles.{key_at, keys_text}
use Rattle.line_capture.proofs.Lists.{next}

step : (keys : List (List ℕ)) (i : ℕ) → i < length keys → keys_text (drop i keys) ≡ key_at (slice_get keys i) ++ keys_text (drop (suc i) keys)
step [] i h = absurd (omega (arith, h))
step (x ∷ keys) zero h = refl
step (x ∷ keys) (suc i) h = step keys i (omega (arith, h))

-- the lines from a place on are that of its key and those after it
pub key_step : (keys : List (List ℕ)) (i : ℕ) → i < length keys → keys_text (drop i keys) ≡ key_at (slice_get keys i) ++ keys_text (drop (i + 1) keys)
key_step keys i h = step keys i h ∙ ap (λ (j : ℕ). key_at (slice_get keys i) ++ keys_text (drop j keys)) (next i)
