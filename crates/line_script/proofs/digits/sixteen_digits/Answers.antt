use Rattle.std.proofs.Common.{ℕ, ◌<◌, arith}
use Rattle.std.proofs.lemmas.Simd.{Each1-from_get_or}
use Rattle.line_script.proofs.HexLanes.{lanes_encode}
use Rattle.line_script.proofs.digits.sixteen_digits.Goals as goal

pub returns : goal.returns
returns c =
    lanes_encode c.args.octets.now _ _ (omega arith)
    (Each1-from_get_or (λ (b : ℕ). b < 256) c.args.octets.now 0 (λ k low. c.fits-octets k))
    c.high_digits-first.ensures c.low_digits-second.ensures
