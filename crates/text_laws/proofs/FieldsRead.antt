-- The words of fields: none has a space or a line feed, and each is read back.
use Rattle.std.proofs.Common.{◌≡◌, ℕ, zero, suc, ◌/◌, ◌%◌, ◌==◌, ◌&&◌, Bool, true, false, not, List, [], ◌∷◌, map, get_or, slice_index}
use Rattle.std.proofs.Common.{Option, Some, None, refl, ap, ◌∙◌, arith}
use Rattle.std.specs.Prelude.{All, IfSome, nat_lt, if◌then◌else◌}
use Rattle.std.specs.Fmt.{decimal}
use Rattle.std.specs.Int.{IsInRange}
use Rattle.std.specs.List.{list_all}
use Rattle.std.specs.Option.{unwrap_or}
use Rattle.std.specs.Result.{result_ok}
use Rattle.std.specs.Str.Parse.{AllDigits, digits_value}
use Rattle.std.proofs.lemmas.Bool.{and_parts, not-true, ne_eqb, lt-ltb}
use Rattle.std.proofs.lemmas.Fmt.{decimal_nonempty, digits_decimal, digits_value-decimal}
use Rattle.std.proofs.lemmas.List.Elements.{All-head, All-tail}
use Rattle.std.proofs.lemmas.Str.Parse.{digit_at, digit_from_value, numerals_by_value, tells_digits}
use Rattle.byteorder.specs.Endian.{big_bytes, big_number}
use Rattle.plc_base.specs.Fields.{AreOctets}
use Rattle.plc_base.proofs.OctetLists.{big_octets}
use Rattle.hex.specs.Hex.{decode_of, encode_lower, encode_with, lower_digits}
use Rattle.line_events.specs.Events.{IsNumber}
use Rattle.line_script.specs.NodeTexts.{address_word, index_word, next_word, short_word}
use Rattle.line_script.proofs.WordsRead.{octets_read}
use Rattle.text_laws.specs.ReportLines.{IsShort}
use Rattle.text_laws.proofs.WordLists.{ArePlain, IsPlain, is_plain}

-- # Digits

-- neither a dash, nor a space, nor a line feed
abbrev is_no_sign : ℕ → Bool
is_no_sign c = not (c == 45) && is_plain c

abbrev HasNoSign : List ℕ → Type 0
HasNoSign word = list_all is_no_sign word ≡ true

plain : (word : List ℕ) → HasNoSign word → IsPlain word
plain [] has = refl
plain (c ∷ cs) has =
    let parts = and_parts (is_no_sign c) (list_all is_no_sign cs) has in
    λ i. (and_parts (not (c == 45)) (is_plain c) parts.0).1 i && plain cs parts.1 i

no_dash : (word : List ℕ) → HasNoSign word → (get_or word 0 0 == 45) ≡ false
no_dash [] has = refl
no_dash (c ∷ cs) has =
    let parts = and_parts (is_no_sign c) (list_all is_no_sign cs) has in
    not-true (c == 45) (and_parts (not (c == 45)) (is_plain c) parts.0).0

-- # Numbers

digit_sign : (c : ℕ) → IsInRange 48 57 c → is_no_sign c ≡ true
digit_sign c is = rw (ne_eqb c 45 (λ e. omega (arith, e, is)), ne_eqb c 32 (λ e. omega (arith, e, is)), ne_eqb c 10 (λ e. omega (arith, e, is))) refl

no_signs : (ds : List ℕ) → AllDigits 10 ds → HasNoSign ds
no_signs [] are = refl
no_signs (c ∷ cs) are = λ i. digit_sign c (digit_from_value c are.0) i && no_signs cs are.1 i

decimal_digits : (n : ℕ) → IsNumber n → AllDigits 10 (decimal n)
decimal_digits n is = digits_decimal (numerals_by_value (AllDigits 10) tells_digits) n (omega (arith, is))

decimal_no_sign : (n : ℕ) → IsNumber n → HasNoSign (decimal n)
decimal_no_sign n is = no_signs (decimal n) (decimal_digits n is)

pub decimal_plain : (n : ℕ) → IsNumber n → IsPlain (decimal n)
decimal_plain n is = plain (decimal n) (decimal_no_sign n is)

-- a number in decimal begins with a numeral
pub decimal_first : (n : ℕ) → IsNumber n → nat_lt (get_or (decimal n) 0 0) 58 ≡ true
decimal_first n is =
    let first = digit_at (decimal n) 0 (decimal_digits n is) (decimal_nonempty n (omega (arith, is))) in
    lt-ltb (get_or (decimal n) 0 0) 58 (omega (arith, first))

unfoldable pub number_in : List ℕ → ℕ
number_in word = digits_value 10 word

pub number_back : (n : ℕ) → IsNumber n → number_in (decimal n) ≡ n
unfolding number_in
number_back n is = digits_value-decimal (numerals_by_value (AllDigits 10) tells_digits) n (omega (arith, is))

-- # Octets

digit_no_sign : (t : List ℕ) (i : ℕ) → HasNoSign t → is_no_sign (slice_index t i) ≡ true
digit_no_sign [] i has = refl
digit_no_sign (c ∷ cs) zero has = (and_parts (is_no_sign c) (list_all is_no_sign cs) has).0
digit_no_sign (c ∷ cs) (suc i) has = digit_no_sign cs i (and_parts (is_no_sign c) (list_all is_no_sign cs) has).1

hex_no_sign : (octets : List ℕ) → HasNoSign (encode_lower octets)
unfolding encode_with
hex_no_sign [] = refl
hex_no_sign (x ∷ xs) =
    λ i. digit_no_sign lower_digits (x / 16) refl i && (digit_no_sign lower_digits (x % 16) refl i && hex_no_sign xs i)

pub hex_plain : (octets : List ℕ) → IsPlain (encode_lower octets)
hex_plain octets = plain (encode_lower octets) (hex_no_sign octets)

unfoldable pub octets_in : List ℕ → List ℕ
octets_in word = unwrap_or (result_ok (decode_of word)) []

pub octets_back : (octets : List ℕ) → AreOctets octets → octets_in (encode_lower octets) ≡ octets
unfolding octets_in
octets_back octets are = ap (λ (o : Option (List ℕ)). unwrap_or o []) (octets_read octets are)

-- # Addresses

pub short_plain : (address : ℕ) → IsPlain (short_word address)
short_plain address = hex_plain (big_bytes 2 address)

unfoldable pub short_in : List ℕ → ℕ
short_in word = big_number 2 (octets_in word)

short_number : (address : ℕ) → IsShort address → big_number 2 (big_bytes 2 address) ≡ address
short_number address is = omega (arith, is)

pub short_back : (address : ℕ) → IsShort address → short_in (short_word address) ≡ address
unfolding short_in
short_back address is = ap (big_number 2) (octets_back (big_bytes 2 address) (big_octets 2 address)) ∙ short_number address is

pub walk_plain : (walk : List ℕ) → ArePlain (map short_word walk)
walk_plain [] = tt
walk_plain (address ∷ walk) = (short_plain address, walk_plain walk)

pub walk_back : (walk : List ℕ) → All IsShort walk → map short_in (map short_word walk) ≡ walk
walk_back [] are = refl
walk_back (address ∷ walk) are =
    λ i. short_back address (All-head IsShort address walk are) i ∷ walk_back walk (All-tail IsShort address walk are) i

-- # What may be missing

-- None for a dash
abbrev optional_in : (List ℕ → ℕ) → List ℕ → Option ℕ
optional_in read word = if get_or word 0 0 == 45 then None else Some (read word)

optional_back : (read : List ℕ → ℕ) (word : List ℕ) (n : ℕ) → HasNoSign word → read word ≡ n → optional_in read word ≡ Some n
optional_back read word n has is = rw (no_dash word has) (ap Some is)

unfoldable pub address_in : List ℕ → Option ℕ
address_in word = optional_in short_in word

pub address_plain : (o : Option ℕ) → IsPlain (address_word o)
address_plain None = refl
address_plain (Some address) = short_plain address

pub address_back : (o : Option ℕ) → IfSome o IsShort → address_in (address_word o) ≡ o
unfolding address_in
address_back None is = refl
address_back (Some address) is = optional_back short_in (short_word address) address (hex_no_sign (big_bytes 2 address)) (short_back address is)

same_word : (o : Option ℕ) → next_word o ≡ address_word o
same_word None = refl
same_word (Some next) = refl

pub next_plain : (o : Option ℕ) → IsPlain (next_word o)
next_plain o = rw (same_word o) (address_plain o)

pub next_back : (o : Option ℕ) → IfSome o IsShort → address_in (next_word o) ≡ o
next_back o is = ap address_in (same_word o) ∙ address_back o is

unfoldable pub index_in : List ℕ → Option ℕ
index_in word = optional_in number_in word

pub index_plain : (o : Option ℕ) → IfSome o IsNumber → IsPlain (index_word o)
index_plain None is = refl
index_plain (Some index) is = decimal_plain index is

pub index_back : (o : Option ℕ) → IfSome o IsNumber → index_in (index_word o) ≡ o
unfolding index_in
index_back None is = refl
index_back (Some index) is = optional_back number_in (decimal index) index (decimal_no_sign index is) (number_back index is)
