-- The check of a cell: a residue, which shows each change within one octet.
use Rattle.std.specs.Prelude.{◌≡◌, ℕ, ◌+◌, ◌*◌, ◌%◌, ◌<◌, List, ◌++◌, ◌∷◌}
use Rattle.std.specs.List.{fold}
use Rattle.flash_keeper.specs.declared.check.TheConstants.{MODULUS}

abbrev pub next_residue : ℕ → ℕ → ℕ
next_residue residue octet = (residue * 256 + octet) % MODULUS

-- the residue of octets as the digits of a number, after what stands before them
abbrev pub residue_of : ℕ → List ℕ → ℕ
residue_of before octets = fold next_residue before octets

-- The check of 65 times the slot and the length, and of octets: that number times 2^32, modulo a prime. Before its own check it makes a multiple
-- of the prime, as a cyclic redundancy check makes a multiple of its polynomial.
unfoldable pub check_of : ℕ → List ℕ → ℕ
check_of low octets = (residue_of low octets * 0x100000000) % MODULUS

-- octets of which one is another have another check, whatever it is: so each change within one octet is seen
abbrev pub ChangedOctetIsSeen : Type 0
ChangedOctetIsSeen =
    (low : ℕ) (front back : List ℕ) (octet other : ℕ) → octet < 256 → other < 256 → check_of low (front ++ octet ∷ back) ≡ check_of low (front ++ other ∷ back)
    → octet ≡ other

-- and so is each change of the slot and the length
abbrev pub ChangedSlotIsSeen : Type 0
ChangedSlotIsSeen =
    (low other octet : ℕ) (octets : List ℕ) → low < MODULUS → other < MODULUS → check_of low (octet ∷ octets) ≡ check_of other (octet ∷ octets) → low ≡ other
