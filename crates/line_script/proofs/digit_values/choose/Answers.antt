use Rattle.std.proofs.Common.{ℕ, ◌/◌, bit_and, refl, w8}
use Rattle.std.proofs.lemmas.Simd.{below_from_Fits, zip2_of_maps}
use Rattle.aes_modes.proofs.LookUps.{places, via_map}
use Rattle.line_script.specs.Digits.{entry}
use Rattle.line_script.proofs.digit_values.choose.Goals as goal

pub look-column-requires : goal.look-column-requires
look-column-requires c = places (λ (b : ℕ). bit_and b 15) refl c.args.x _ c.low.ensures (below_from_Fits w8 c.args.x c.fits-x.1)

pub look-row-requires : goal.look-row-requires
look-row-requires c = places (λ (b : ℕ). b / 16) refl c.args.x _ c.high.ensures (below_from_Fits w8 c.args.x c.fits-x.1)

pub returns : goal.returns
returns c =
    zip2_of_maps bit_and (λ (b : ℕ). entry c.args.columns (bit_and b 15)) (λ (b : ℕ). entry c.args.rows (b / 16)) c.args.x
    (via_map (entry c.args.columns) (λ (b : ℕ). bit_and b 15) c.args.x _ _ c.low.ensures c.look-column.ensures)
    (via_map (entry c.args.rows) (λ (b : ℕ). b / 16) c.args.x _ _ c.high.ensures c.look-row.ensures)
