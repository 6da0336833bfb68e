use Rattle.std.proofs.Common.{ℕ, ◌/◌, refl, w8}
use Rattle.std.proofs.lemmas.Simd.{below_from_Fits}
use Rattle.hex.specs.Hex.{lower_digits}
use Rattle.aes_modes.proofs.LookUps.{via_map, places}
use Rattle.line_script.specs.Digits.{entry}
use Rattle.line_script.proofs.digits.high_digits.Goals as goal

pub look-requires : goal.look-requires
look-requires c = places (λ (b : ℕ). b / 16) refl c.args.x _ c.high-at.ensures (below_from_Fits w8 c.args.x c.fits-x.1)

pub returns : goal.returns
returns c = via_map (entry lower_digits) (λ (b : ℕ). b / 16) c.args.x _ _ c.high-at.ensures c.look.ensures
