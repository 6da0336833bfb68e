-- How the code replaces octets: by look-ups in lists of 16 octets (M. Hamburg: Accelerating AES with
-- Vector Permute Instructions, 2009), for the clauses of its private functions. No public clause names
-- what stands here.
use Rattle.std.specs.Prelude.{ℕ, ◌/◌, ◌%◌, List, [], ◌∷◌, get_or, bit_and, bit_xor}
use lib.Dec.{leb}
use mathlib.Core.Bool.{cond}

-- entry i of a list of 16; 0 where i is not below 128
abbrev pub entry : List ℕ → ℕ → ℕ
entry t i = cond (leb 128 i) 0 (get_or t i 0)

-- inverses of four bits, where 128 is for infinity
abbrev pub inverses : List ℕ
inverses = 128 ∷ 1 ∷ 8 ∷ 13 ∷ 15 ∷ 6 ∷ 5 ∷ 14 ∷ 2 ∷ 12 ∷ 11 ∷ 10 ∷ 9 ∷ 3 ∷ 7 ∷ 4 ∷ []

-- the same times a constant
abbrev pub scaled_inverses : List ℕ
scaled_inverses = 128 ∷ 7 ∷ 11 ∷ 15 ∷ 6 ∷ 10 ∷ 4 ∷ 1 ∷ 9 ∷ 8 ∷ 5 ∷ 2 ∷ 12 ∷ 14 ∷ 13 ∷ 3 ∷ []

-- an octet in the basis of the subfield, from its low and its high four bits
abbrev pub turned_low : List ℕ
turned_low = 0 ∷ 112 ∷ 42 ∷ 90 ∷ 152 ∷ 232 ∷ 178 ∷ 194 ∷ 8 ∷ 120 ∷ 34 ∷ 82 ∷ 144 ∷ 224 ∷ 186 ∷ 202 ∷ []

abbrev pub turned_high : List ℕ
turned_high = 0 ∷ 77 ∷ 124 ∷ 49 ∷ 125 ∷ 48 ∷ 1 ∷ 76 ∷ 129 ∷ 204 ∷ 253 ∷ 176 ∷ 252 ∷ 177 ∷ 128 ∷ 205 ∷ []

abbrev pub turned : ℕ → ℕ
turned b = bit_xor (entry turned_low (bit_and b 15)) (entry turned_high (b / 16))

-- an octet from that basis back
abbrev pub unturned_low : List ℕ
unturned_low = 0 ∷ 96 ∷ 182 ∷ 214 ∷ 41 ∷ 73 ∷ 159 ∷ 255 ∷ 8 ∷ 104 ∷ 190 ∷ 222 ∷ 33 ∷ 65 ∷ 151 ∷ 247 ∷ []

abbrev pub unturned_high : List ℕ
unturned_high = 0 ∷ 236 ∷ 188 ∷ 80 ∷ 81 ∷ 189 ∷ 237 ∷ 1 ∷ 224 ∷ 12 ∷ 92 ∷ 176 ∷ 177 ∷ 93 ∷ 13 ∷ 225 ∷ []

abbrev pub unturned : ℕ → ℕ
unturned b = bit_xor (entry unturned_low (b % 16)) (entry unturned_high (b / 16))

-- an octet of a round key, from how it is kept: turned, with the constant of the S-box added
abbrev pub unhidden : ℕ → ℕ
unhidden b = bit_xor (unturned b) 99

-- the halves of an inverse, from the halves of an octet in that basis
abbrev pub first_half : ℕ → ℕ → ℕ
first_half i k = bit_xor (entry inverses (bit_xor (entry inverses i) (entry scaled_inverses k))) (bit_xor i k)

abbrev pub second_half : ℕ → ℕ → ℕ
second_half i k = bit_xor (entry inverses (bit_xor (entry inverses (bit_xor i k)) (entry scaled_inverses k))) i

abbrev pub half_g : ℕ → ℕ
half_g b = first_half (b / 16) (bit_and b 15)

abbrev pub half_h : ℕ → ℕ
half_h b = second_half (b / 16) (bit_and b 15)

-- the affine transformation of those halves, without its constant
abbrev pub plain_first : List ℕ
plain_first = 0 ∷ 199 ∷ 189 ∷ 111 ∷ 23 ∷ 109 ∷ 210 ∷ 208 ∷ 120 ∷ 168 ∷ 2 ∷ 197 ∷ 122 ∷ 191 ∷ 170 ∷ 21 ∷ []

abbrev pub plain_second : List ℕ
plain_second = 0 ∷ 106 ∷ 187 ∷ 95 ∷ 165 ∷ 116 ∷ 228 ∷ 207 ∷ 250 ∷ 53 ∷ 43 ∷ 65 ∷ 209 ∷ 144 ∷ 30 ∷ 142 ∷ []

-- the same turned, and twice it turned
abbrev pub once_first : List ℕ
once_first = 0 ∷ 62 ∷ 80 ∷ 203 ∷ 143 ∷ 225 ∷ 155 ∷ 177 ∷ 68 ∷ 245 ∷ 42 ∷ 20 ∷ 110 ∷ 122 ∷ 223 ∷ 165 ∷ []

abbrev pub once_second : List ℕ
once_second = 0 ∷ 35 ∷ 226 ∷ 250 ∷ 21 ∷ 212 ∷ 24 ∷ 54 ∷ 239 ∷ 217 ∷ 46 ∷ 13 ∷ 193 ∷ 204 ∷ 247 ∷ 59 ∷ []

abbrev pub twice_first : List ℕ
twice_first = 0 ∷ 36 ∷ 113 ∷ 11 ∷ 198 ∷ 147 ∷ 122 ∷ 226 ∷ 205 ∷ 47 ∷ 152 ∷ 188 ∷ 85 ∷ 233 ∷ 183 ∷ 94 ∷ []

abbrev pub twice_second : List ℕ
twice_second = 0 ∷ 41 ∷ 225 ∷ 10 ∷ 64 ∷ 136 ∷ 235 ∷ 105 ∷ 74 ∷ 35 ∷ 130 ∷ 171 ∷ 200 ∷ 99 ∷ 161 ∷ 194 ∷ []

-- what they make of a turned octet
abbrev pub plain : ℕ → ℕ
plain b = bit_xor (entry plain_first (half_g b)) (entry plain_second (half_h b))

abbrev pub once : ℕ → ℕ
once b = bit_xor (entry once_first (half_g b)) (entry once_second (half_h b))

abbrev pub twice : ℕ → ℕ
twice b = bit_xor (entry twice_first (half_g b)) (entry twice_second (half_h b))
