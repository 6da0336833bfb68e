-- What the words of a line are read as.
use Rattle.std.proofs.Common.{◌≡◌, ℕ, zero, suc, ◌+◌, ◌*◌, ◌-◌, ◌/◌, ◌%◌, ◌<◌, ◌≤◌, ◌==◌, Bool, true, false, List, [], ◌∷◌, ◌++◌, length, take, drop, get_or}
use Rattle.std.proofs.Common.{slice_index, Option, Some, None, refl, ap, ◌∙◌, arith}
use Rattle.std.specs.Prelude.{position, All}
use Rattle.std.specs.List.{position_or_len}
use Rattle.std.specs.Fmt.{decimal}
use Rattle.std.specs.Result.{result_ok}
use Rattle.std.proofs.lemmas.List.Elements.{All-head, All-tail}
use Rattle.std.proofs.lemmas.Fmt.{decimal_by_steps, decimal_digit, decimal_nonempty, first_decimal}
use Rattle.std.proofs.lemmas.Bool.{lt-ltb, le-ltb, lt-leb, eqb-true, ne_eqb}
use Rattle.std.proofs.Math.Seq.{take-append_seam, drop-append-add}
use Rattle.std.proofs.lemmas.List.{length-append}
use Rattle.hex.specs.Hex.{IsBytes, decode_of, encode_lower, encode_with, lower_digits}
use Rattle.hex.proofs.HexLemmas.{decode_of-encode_lower, length-encode_with}
use Rattle.line_script.specs.Words.{◌>>=◌, Field, field, digit_more, number_from, number}
use Rattle.line_script.specs.Lines.{spaced}

-- # Words without a space

abbrev pub IsWord : List ℕ → Type 0
IsWord [] = Unit {0}
IsWord (c ∷ cs) = ((c == 32) ≡ false) × IsWord cs

joined_word : (v w : List ℕ) → IsWord v → IsWord w → IsWord (v ++ w)
joined_word [] w iv iw = iw
joined_word (c ∷ cs) w iv iw = (iv.0, joined_word cs w iv.1 iw)

ahead : (w rest : List ℕ) → IsWord w → position_or_len (λ c. c == 32) (w ++ (32 ∷ rest)) ≡ length w
ahead [] rest is = refl
ahead (c ∷ cs) rest is = let more = ahead cs rest is.1 in rw is.0 (omega (arith, more))

space_found : (w rest : List ℕ) → IsWord w → position (λ c. c == 32) (w ++ (32 ∷ rest)) ≡ Some (length w)
space_found w rest is =
    let here = ahead w rest is in
    let whole : length (w ++ (32 ∷ rest)) ≡ length w + suc (length rest) = length-append w (32 ∷ rest) in
    let within : length w < length (w ++ (32 ∷ rest)) = omega (arith, whole) in
    rw (here, lt-ltb (length w) (length (w ++ (32 ∷ rest))) within) refl

abbrev one_field : List ℕ → List ℕ → Field
one_field w rest = record { word = w; rest = rest }

-- a word is read up to its space
pub field_read : (w rest : List ℕ) → IsWord w → field (spaced w rest) ≡ Some (one_field w rest)
unfolding field
field_read w rest is = rw (space_found w rest is, take-append_seam w (32 ∷ rest), drop-append-add w (32 ∷ rest) 1) refl

-- # Numbers

one_more : (o : Option ℕ) (ds : List ℕ) (c : ℕ) → ((m : ℕ) → number_from m (ds ++ (c ∷ [])) ≡ (number_from m ds >>= λ k. digit_more k c))
    → (o >>= λ m. number_from m (ds ++ (c ∷ []))) ≡ ((o >>= λ m. number_from m ds) >>= λ k. digit_more k c)
one_more (Some m) ds c all = all m
one_more None ds c all = refl

alone : (o : Option ℕ) → (o >>= λ m. Some m) ≡ o
alone (Some m) = refl
alone None = refl

digit_after : (n : ℕ) (ds : List ℕ) (c : ℕ) → number_from n (ds ++ (c ∷ [])) ≡ (number_from n ds >>= λ k. digit_more k c)
digit_after n [] c = alone (digit_more n c)
digit_after n (d ∷ ds) c = one_more (digit_more n d) ds c (λ m. digit_after m ds c)

digit_read : (n d : ℕ) → d < 10 → n * 10 + d < 4294967296 → digit_more n (48 + d) ≡ Some (n * 10 + d)
digit_read n d digit room =
    let value : (48 + d) - 48 ≡ d = omega arith in
    rw (le-ltb (48 + d) 48 (omega arith), le-ltb 57 (48 + d) (omega arith), value, lt-leb 4294967296 (n * 10 + d) room) refl

abbrev Reads : ℕ → List ℕ → Type 0
Reads n ds = n < 4294967296 → number_from 0 ds ≡ Some n

one_digit : (n : ℕ) → n < 10 → Reads n ((48 + n) ∷ [])
one_digit n digit room =
    let value : 0 * 10 + n ≡ n = omega arith in
    alone (digit_more 0 (48 + n)) ∙ digit_read 0 n digit (omega arith) ∙ ap Some value

more_digits : (n : ℕ) (ds : List ℕ) → 10 ≤ n → Reads (n / 10) ds → Reads n (ds ++ ((48 + n % 10) ∷ []))
more_digits n ds high front room =
    let value : n / 10 * 10 + n % 10 ≡ n = omega arith in
    let is : number_from 0 ds ≡ Some (n / 10) = front (omega arith) in
    digit_after 0 ds (48 + n % 10) ∙ (rw is (digit_read (n / 10) (n % 10) (omega arith) (omega arith) ∙ ap Some value))

digits_read : (n : ℕ) → n < 4294967296 → number_from 0 (decimal n) ≡ Some n
digits_read n room = decimal_by_steps Reads one_digit more_digits n (omega arith) room

plain_by : (c : ℕ) (cs : List ℕ) (b : Bool) → (c == 48) ≡ b → (c ≡ 48 → length (c ∷ cs) ≡ 1) → number (c ∷ cs) ≡ number_from 0 (c ∷ cs)
unfolding number
plain_by c cs true is lone = let one = lone (eqb-true c 48 is) in rw (is, le-ltb 0 (length cs) (omega (arith, one))) refl
plain_by c cs false is lone = rw is refl

plain_number : (ds : List ℕ) → 0 < length ds → (get_or ds 0 0 ≡ 48 → length ds ≡ 1) → number ds ≡ number_from 0 ds
plain_number [] some lone = absurd (omega (arith, some))
plain_number (c ∷ cs) some lone = plain_by c cs (c == 48) refl lone

first_by : (n : ℕ) → n < 4294967296 → get_or (decimal n) 0 0 ≡ 48 → length (decimal n) ≡ 1
first_by zero room is = ap length (decimal_digit 0 (omega arith))
first_by (suc n) room is = let high = first_decimal (suc n) (omega arith) (omega arith) in absurd (omega (arith, high, is))

-- a number is read from its decimal digits
pub number_read : (n : ℕ) → n < 4294967296 → number (decimal n) ≡ Some n
number_read n room = plain_number (decimal n) (decimal_nonempty n (omega arith)) (first_by n room) ∙ digits_read n room

digit_word : (n : ℕ) → n < 10 → IsWord ((48 + n) ∷ [])
digit_word n digit = (ne_eqb (48 + n) 32 (λ is. omega (arith, is)), tt)

pub decimal_word : (n : ℕ) → n < 4294967296 → IsWord (decimal n)
decimal_word n room =
    decimal_by_steps (λ m ds. IsWord ds) digit_word (λ m ds high front. joined_word ds ((48 + m % 10) ∷ []) front (digit_word (m % 10) (omega arith))) n
    (omega arith)

-- # Octets in hexadecimal

digit_at : (t : List ℕ) (i : ℕ) → IsWord t → (slice_index t i == 32) ≡ false
digit_at [] i is = refl
digit_at (c ∷ cs) zero is = is.0
digit_at (c ∷ cs) (suc i) is = digit_at cs i is.1

lower_word : IsWord lower_digits
lower_word = (refl, (refl, (refl, (refl, (refl, (refl, (refl, (refl, (refl, (refl, (refl, (refl, (refl, (refl, (refl, (refl, tt))))))))))))))))

pub hex_word : (octets : List ℕ) → IsWord (encode_lower octets)
unfolding encode_with
hex_word [] = tt
hex_word (x ∷ xs) = (digit_at lower_digits (x / 16) lower_word, (digit_at lower_digits (x % 16) lower_word, hex_word xs))

bytes_from : (xs : List ℕ) → All (λ x. x < 256) xs → IsBytes xs
bytes_from [] all i = omega arith
bytes_from (x ∷ xs) all zero = All-head (λ y. y < 256) x xs all
bytes_from (x ∷ xs) all (suc i) = bytes_from xs (All-tail (λ y. y < 256) x xs all) i

-- octets are read from their digits
pub octets_read : (octets : List ℕ) → All (λ x. x < 256) octets → result_ok (decode_of (encode_lower octets)) ≡ Some octets
octets_read octets all = ap result_ok (decode_of-encode_lower octets (bytes_from octets all))

pub digits_long : (octets : List ℕ) → length (encode_lower octets) ≡ 2 * length octets
digits_long octets = length-encode_with lower_digits octets
