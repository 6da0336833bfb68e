-- The front of octets, by its length.
use Rattle.std.proofs.Common.{◌≡◌, ℕ, List, ◌++◌, length, take, sym, ap, ◌∙◌}
use Rattle.std.proofs.Math.Seq.{take-append_seam}
use Rattle.plc_base.specs.Fields.{after, part}

pub part_front : (n : ℕ) (packet front : List ℕ) → packet ≡ front ++ after n packet → length front ≡ n → part 0 n packet ≡ front
unfolding part
part_front n packet front is len =
    ap (λ (k : ℕ). take k packet) (sym len) ∙ ap (λ (xs : List ℕ). take (length front) xs) is ∙ take-append_seam front (after n packet)
