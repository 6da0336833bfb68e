-- Octets as elements of GF(2^8) (FIPS 197, section 4), and the S-box (section 5.1.1). An octet is a
-- number below 256, whose bit i is the coefficient of x^i. The sum of two elements is `bit_xor`.
use Rattle.std.specs.Prelude.{ℕ, zero, suc, ◌+◌, ◌*◌, ◌/◌, ◌%◌, ◌^◌, ◌==◌, nat_lt, true, false, bit_xor, if◌then◌else◌}

-- a times x, modulo x^8 + x^4 + x^3 + x + 1 (section 4.2)
abbrev pub times_x : ℕ → ℕ
times_x a = if nat_lt a 128 then 2 * a else bit_xor (2 * a) 0x11b

-- the sum of a x^i over those of the lowest n bits of b that are 1
abbrev pub product_of_bits : ℕ → ℕ → ℕ → ℕ
product_of_bits zero a b = 0
product_of_bits (suc n) a b = bit_xor (b % 2 * a) (product_of_bits n (times_x a) (b / 2))

-- the product of two elements (section 4.2)
unfoldable pub product : ℕ → ℕ → ℕ
product a b = product_of_bits 8 a b

-- the element below n whose product with a is 1, or 0 if there is none
abbrev pub inverse_below : ℕ → ℕ → ℕ
inverse_below zero a = 0
inverse_below (suc n) a = elim (product a n == 1) [ true ↦ n | false ↦ inverse_below n a ]

-- the multiplicative inverse of an element, and 0 for 0 (section 5.1.1)
unfoldable pub inverse : ℕ → ℕ
inverse a = inverse_below 256 a

-- bit i of an octet
abbrev pub bit_of : ℕ → ℕ → ℕ
bit_of b i = b / 2 ^ i % 2

-- bit i of the affine transformation of b, whose constant is 63 (section 5.1.1)
abbrev pub affine_bit : ℕ → ℕ → ℕ
affine_bit b i =
    (bit_of b i + bit_of b ((i + 4) % 8) + bit_of b ((i + 5) % 8) + bit_of b ((i + 6) % 8)
    + bit_of b ((i + 7) % 8) + bit_of 0x63 i) % 2

-- the lowest n bits of the affine transformation of b
abbrev pub affine_bits : ℕ → ℕ → ℕ
affine_bits zero b = 0
affine_bits (suc n) b = affine_bits n b + affine_bit b n * 2 ^ n

-- the S-box: the inverse, and its affine transformation (section 5.1.1)
unfoldable pub s_box : ℕ → ℕ
s_box b = affine_bits 8 (inverse b)
