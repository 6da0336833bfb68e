-- The octets of a chain, once a piece is written over a part of them.
use Rattle.std.proofs.Common.{◌≡◌, ℕ, ◌+◌, ◌-◌, ◌<◌, ◌≤◌, List, ◌++◌, length, get_or, take, drop, refl, ap, ◌∙◌, arith, length-append, length-take, length-drop}
use Rattle.std.proofs.lemmas.List.{get_or_append_left, get_or-append_right, get_or-take, get_or-drop}
use Rattle.block_pool.specs.Pool.{overwrite}

pub overwrite_before : (os : List ℕ) (at p : ℕ) (piece : List ℕ) (d : ℕ) → p < at → at ≤ length os → get_or (overwrite os at piece) p d ≡ get_or os p d
overwrite_before os at p piece d lt le = get_or_append_left (take at os) _ d p (omega (arith, length-take at os)) ∙ get_or-take at os p d lt

pub overwrite_within : (os : List ℕ) (at k : ℕ) (piece : List ℕ) (d : ℕ) → k < length piece → at ≤ length os
    → get_or (overwrite os at piece) (at + k) d ≡ get_or piece k d
overwrite_within os at k piece d lt le =
    let i : at + k - at ≡ k = omega arith in
    get_or-append_right (take at os) _ at (at + k) d (omega (arith, length-take at os)) (omega arith)
    ∙ ap (λ j. get_or (piece ++ drop (at + length piece) os) j d) i ∙ get_or_append_left piece _ d k lt

pub overwrite_after : (os : List ℕ) (at p : ℕ) (piece : List ℕ) (d : ℕ) → at + length piece ≤ p → at ≤ length os
    → get_or (overwrite os at piece) p d ≡ get_or os p d
overwrite_after os at p piece d le fits =
    let i : at + length piece + (p - at - length piece) ≡ p = omega arith in
    get_or-append_right (take at os) _ at p d (omega (arith, length-take at os)) (omega arith)
    ∙ get_or-append_right piece _ (length piece) (p - at) d refl (omega arith)
    ∙ get_or-drop (at + length piece) os (p - at - length piece) d ∙ ap (λ j. get_or os j d) i

-- a piece that lies within the octets leaves their length
pub length-overwrite : (os : List ℕ) (at : ℕ) (piece : List ℕ) → at + length piece ≤ length os → length (overwrite os at piece) ≡ length os
length-overwrite os at piece le =
    omega (
      arith,
      length-append (take at os) (piece ++ drop (at + length piece) os),
      length-append piece (drop (at + length piece) os),
      length-take at os,
      length-drop (at + length piece) os,
    )
