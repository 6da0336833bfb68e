-- A quotient by a number that is at least so large.
use Rattle.std.proofs.Common.{ℕ, ◌*◌, ◌/◌, ◌≤◌, ◌<◌, arith}
use Rattle.std.proofs.Math.Nat.{mul-le-mul_left}

pub quotient_low : (n d low : ℕ) → 0 < low → low ≤ d → (n / d) * low ≤ n
quotient_low n d low some h = omega (arith, mul-le-mul_left (n / d) h)

pub product_low : (a b m n : ℕ) → a ≤ m → b ≤ n → a * b ≤ m * n
product_low a b m n h k = omega (arith, mul-le-mul_left a k, mul-le-mul_left n h)

pub quotient_nine : (n d : ℕ) → 9 ≤ d → (n / d) * 9 ≤ n
quotient_nine n d h = quotient_low n d 9 (omega arith) h

pub quotient_long : (n d : ℕ) → 133 ≤ d → (n / d) * 133 ≤ n
quotient_long n d h = quotient_low n d 133 (omega arith) h

-- the time of this many segments
pub product_short : (a b : ℕ) → a ≤ 493 → b < 524288 → a * b < 268435456
product_short a b h k = omega (arith, product_low a b 493 524287 h (omega arith))

-- the time of a frame whose segments are acknowledged one by one
pub product_long : (a b : ℕ) → a < 1073741824 → b < 1024 → a * b < 1099511627776
product_long a b h k = omega (arith, product_low a b 1073741823 1023 (omega arith) (omega arith))

pub ruleset quotients = (quotient_nine, quotient_long, product_short)
