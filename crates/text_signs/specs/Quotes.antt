-- Octets as messages quote them.
use Rattle.std.specs.Prelude.{ℕ, ◌&&◌, ◌≡◌, ◌≤◌, nat_le, nat_lt, All, List, [], ◌∷◌, ◌++◌, length, min, take, codes, Bool, true, if◌then◌else◌}
use Rattle.hex.specs.Hex.{encode_lower}
use Rattle.text_signs.specs.declared.quotes.TheConstants.{MOST_QUOTED}

-- whether an octet is a printable character of ASCII
abbrev pub is_printable : ℕ → Bool
is_printable octet = nat_le 32 octet && nat_lt octet 127

-- an octet, by its number in hexadecimal where it is no printable character
abbrev pub octet_text : ℕ → List ℕ
octet_text octet = if is_printable octet then octet ∷ [] else codes "\\x" ++ encode_lower (octet ∷ [])

abbrev pub octets_text : List ℕ → List ℕ
octets_text [] = []
octets_text (octet ∷ octets) = octet_text octet ++ octets_text octets

abbrev pub dots : Bool → List ℕ
dots is_cut = if is_cut then codes ".." else []

-- the first of them, and two points where there are more
abbrev pub quoted_text : List ℕ → List ℕ
quoted_text octets = octets_text (take (min (length octets) MOST_QUOTED) octets) ++ dots (nat_lt MOST_QUOTED (length octets))

-- what a terminal prints as it is, in no more than 258 octets
abbrev pub IsPlainAndShort : List ℕ → Type 0
IsPlainAndShort text = All (λ octet. is_printable octet ≡ true) text × (length text ≤ 258)
