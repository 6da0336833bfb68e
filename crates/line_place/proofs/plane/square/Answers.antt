use Rattle.std.proofs.Common.{ℕ, ◌+◌, ◌*◌, ◌^◌, ◌<◌, ◌≤◌, arith}
use Rattle.std.proofs.Math.Nat.{mul-le-mul_left}
use Rattle.line_place.proofs.plane.square.Goals as goal

-- two squares of numbers of 32 bits
small_squares : (a b : ℕ) → a ≤ 4294967295 → b ≤ 4294967295 → a * a + b * b < 2 ^ 65
small_squares a b h k = omega (arith, mul-le-mul_left a h, mul-le-mul_left b k)

pub returns-clause-small : goal.returns-clause-small
returns-clause-small c = small_squares _ _ (omega arith) (omega arith)
