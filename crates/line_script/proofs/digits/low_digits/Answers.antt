use Rattle.std.proofs.Common.{ℕ, bit_and, refl, w8}
use Rattle.std.proofs.lemmas.Simd.{below_from_Fits}
use Rattle.hex.specs.Hex.{lower_digits}
use Rattle.aes_modes.proofs.LookUps.{via_map, places}
use Rattle.line_script.specs.Digits.{entry}
use Rattle.line_script.proofs.digits.low_digits.Goals as goal

pub look-requires : goal.look-requires
look-requires c = places (λ (b : ℕ). bit_and b 15) refl c.args.x _ c.low-at.ensures (below_from_Fits w8 c.args.x c.fits-x.1)

pub returns : goal.returns
returns c = via_map (entry lower_digits) (λ (b : ℕ). bit_and b 15) c.args.x _ _ c.low-at.ensures c.look.ensures
