-- ShiftRows and MixColumns as look-ups, for the clauses of private functions. No public clause names
-- what stands here.
use Rattle.std.specs.Prelude.{ℕ, List, [], ◌∷◌, map, bit_xor}
use lib.Lanes.{zip2}
use Rattle.aes_modes.specs.LookUps.{entry}

-- where the octets of a column come from: its own row, and those after it
abbrev pub own : List ℕ
own = 0 ∷ 5 ∷ 10 ∷ 15 ∷ 4 ∷ 9 ∷ 14 ∷ 3 ∷ 8 ∷ 13 ∷ 2 ∷ 7 ∷ 12 ∷ 1 ∷ 6 ∷ 11 ∷ []

abbrev pub next : List ℕ
next = 5 ∷ 10 ∷ 15 ∷ 0 ∷ 9 ∷ 14 ∷ 3 ∷ 4 ∷ 13 ∷ 2 ∷ 7 ∷ 8 ∷ 1 ∷ 6 ∷ 11 ∷ 12 ∷ []

abbrev pub third : List ℕ
third = 10 ∷ 15 ∷ 0 ∷ 5 ∷ 14 ∷ 3 ∷ 4 ∷ 9 ∷ 2 ∷ 7 ∷ 8 ∷ 13 ∷ 6 ∷ 11 ∷ 12 ∷ 1 ∷ []

abbrev pub last : List ℕ
last = 15 ∷ 0 ∷ 5 ∷ 10 ∷ 3 ∷ 4 ∷ 9 ∷ 14 ∷ 7 ∷ 8 ∷ 13 ∷ 2 ∷ 11 ∷ 12 ∷ 1 ∷ 6 ∷ []

-- the sums, from octets and twice those octets
abbrev pub mixed : List ℕ → List ℕ → List ℕ
mixed once twice =
    zip2 bit_xor (zip2 bit_xor (map (entry twice) own) (map (entry (zip2 bit_xor twice once)) next))
    (zip2 bit_xor (map (entry once) third) (map (entry once) last))
