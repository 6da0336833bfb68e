-- Words of their kinds are those that the readers of lines take.
use Rattle.std.proofs.Common.{◌≡◌, ℕ, ◌+◌, ◌*◌, ◌-◌, ◌<◌, ◌==◌, Bool, true, false, ◌&&◌, List, [], ◌∷◌, length, Option, Some, None, refl, arith}
use Rattle.std.specs.Prelude.{IfSome, is_some, nat_lt, nat_le, if◌then◌else◌}
use Rattle.std.specs.Result.{result_ok}
use Rattle.std.proofs.lemmas.Bool.{leb-false, le-ltb, eqb-true}
use Rattle.hex.specs.Hex.{decode_of}
use Rattle.plc_base.specs.declared.address.Eui.{Eui}
use Rattle.line_script.specs.Words.{◌>>=◌, digit_more, number_from, number, number_within, cost, eui, sixteen_octets, hex_octets}
use Rattle.script_faults.specs.Forms.{is_digits}

-- # Numbers have 32 bits

abbrev Small : ℕ → Type 0
Small n = n < 4294967296

small_by : (m : ℕ) (low high large : Bool) → nat_le 4294967296 m ≡ large
    → IfSome (if low then None else if high then None else if large then None else Some m) Small
small_by m true high large is = tt
small_by m false true large is = tt
small_by m false false true is = tt
small_by m false false false is = leb-false 4294967296 m is

small_digit : (n c : ℕ) → IfSome (digit_more n c) Small
small_digit n c = small_by (n * 10 + (c - 48)) (nat_lt c 48) (nat_lt 57 c) (nat_le 4294967296 (n * 10 + (c - 48))) refl

small_then : (o : Option ℕ) (f : ℕ → Option ℕ) → IfSome o Small → ((m : ℕ) → Small m → IfSome (f m) Small) → IfSome (o >>= f) Small
small_then (Some m) f is all = all m is
small_then None f is all = tt

small_digits : (n : ℕ) (ds : List ℕ) → Small n → IfSome (number_from n ds) Small
small_digits n [] is = is
small_digits n (c ∷ cs) is = small_then (digit_more n c) (λ m. number_from m cs) (small_digit n c) (λ m im. small_digits m cs im)

small_if : (b : Bool) (o : Option ℕ) → IfSome o Small → IfSome (if b then None else o) Small
small_if true o is = tt
small_if false o is = is

small_number : (word : List ℕ) → IfSome (number word) Small
unfolding number
small_number [] = tt
small_number (c ∷ cs) = small_if (c == 48 && nat_lt 0 (length cs)) (number_from 0 (c ∷ cs)) (small_digits 0 (c ∷ cs) (omega arith))

-- # A number in the widest range is a number

in_range : (n : ℕ) → Small n → nat_lt 4294967295 n ≡ false
in_range n is = grind arith

widest_by : (o : Option ℕ) → IfSome o Small
    → is_some (o >>= λ n. if nat_lt n 0 then None else if nat_lt 4294967295 n then None else Some n) ≡ is_some o
widest_by None is = refl
widest_by (Some n) is = rw (le-ltb n 0 (omega arith), in_range n is) refl

pub any_number : (word : List ℕ) → is_some (number_within 0 4294967295 word) ≡ is_some (number word)
unfolding number_within
any_number word = widest_by (number word) (small_number word)

-- # Octets

pub some_then : {A B : Type 0} (o : Option A) (f : A → B) → is_some (o >>= λ a. Some (f a)) ≡ is_some o
some_then None f = refl
some_then (Some a) f = refl

abbrev an_eui : List ℕ → Eui
an_eui octets = record { 0 = octets }

eui_by : (test : Bool) (n : ℕ) (o : Option (List ℕ)) → (n == 16) ≡ test
    → is_some ((if test then o else None) >>= λ octets. Some (an_eui octets)) ≡ (test && is_some (if nat_lt 0 n && nat_le n 4096 then o else None))
eui_by false n o is = refl
eui_by true n o is = rw (eqb-true n 16 is) (some_then o an_eui)

pub eui_is : (word : List ℕ) → is_some (eui word) ≡ is_digits 16 word
unfolding eui hex_octets
eui_is word = eui_by (length word == 16) (length word) (result_ok (decode_of word)) refl

sixteen_by : (test : Bool) (n : ℕ) (o : Option (List ℕ)) → (n == 32) ≡ test
    → is_some (if test then o else None) ≡ (test && is_some (if nat_lt 0 n && nat_le n 4096 then o else None))
sixteen_by false n o is = refl
sixteen_by true n o is = rw (eqb-true n 32 is) refl

pub sixteen_is : (word : List ℕ) → is_some (sixteen_octets word) ≡ is_digits 32 word
unfolding sixteen_octets hex_octets
sixteen_is word = sixteen_by (length word == 32) (length word) (result_ok (decode_of word)) refl

pub cost_is : (word : List ℕ) → is_some (cost word) ≡ is_some (number_within 1 255 word)
unfolding cost
cost_is word = refl
