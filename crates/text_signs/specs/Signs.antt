-- Characters that are shown, and what stands for others.
use Rattle.std.specs.Prelude.{ℕ, ◌==◌, ◌%◌, ◌&&◌, ◌||◌, ◌≡◌, nat_lt, nat_le, All, List, Bool, false, chars, encode_utf8, flat_map, if◌then◌else◌}
use Rattle.std.specs.Str.Lossy.{utf8_lossy}

-- Whether a character is a control character of ASCII or of ISO 8859 (C0, DEL, C1), ends a line or a paragraph (2028, 2029), or says which way a text runs
-- (061C, 200E, 200F, 202A to 202E, 2066 to 2069).
abbrev pub is_control : ℕ → Bool
is_control c =
    nat_lt c 32 || (nat_le 127 c && nat_lt c 160) || c == 1564 || (nat_le 8206 c && nat_lt c 8208)
    || (nat_le 8232 c && nat_lt c 8239) || (nat_le 8294 c && nat_lt c 8298)

-- whether a code is kept from ever being a character (FDD0 to FDEF, and the last two of each plane)
abbrev pub is_nonsign : ℕ → Bool
is_nonsign c = (nat_le 64976 c && nat_lt c 65008) || nat_le 65534 (c % 65536)

-- a blank for a tab, FFFD for what is not shown
abbrev pub shown_sign : ℕ → ℕ
shown_sign c = if c == 9 then 32 else (if is_control c || is_nonsign c then 65533 else c)

abbrev pub sign_text : ℕ → List ℕ
sign_text c = encode_utf8 (shown_sign c)

-- what octets show
unfoldable pub shown_text : List ℕ → List ℕ
shown_text octets = flat_map sign_text (chars (utf8_lossy octets))

-- a text with no character that hides, ends a line, acts on a terminal or turns the text round
abbrev pub HidesNothing : List ℕ → Type 0
HidesNothing text = All (λ c. is_control c ≡ false) (chars text)
