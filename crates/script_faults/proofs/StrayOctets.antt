-- No word has a space in it, or a line feed.
use Rattle.std.proofs.Common.{◌≡◌, ℕ, ◌==◌, Bool, true, false, ◌&&◌, not, List, [], ◌∷◌, ◌++◌, length, Option, Some, None, Result, Ok, Err, refl, ap, ◌∙◌, sym}
use Rattle.std.proofs.Common.{arith}
use Rattle.std.specs.Prelude.{is_some, unwrap_or, nat_lt, nat_le, codes, ◌||◌, if◌then◌else◌}
use Rattle.std.specs.List.{All, AllPass}
use Rattle.std.specs.Result.{result_ok}
use Rattle.std.specs.Str.{bytes_eq}
use Rattle.std.proofs.lemmas.Bool.{and_parts}
use Rattle.std.proofs.lemmas.List.Elements.{All-head, All-tail}
use Rattle.hex.specs.Hex.{decode_of, is_hex_digit}
use Rattle.hex.specs.declared.error.FromHexError.{FromHexError}
use Rattle.hex.proofs.HexLemmas.{decode_of-ok}
use Rattle.line_script.specs.declared.kind.EventKind.{EventKind}
use Rattle.line_script.specs.declared.kind.EventKind.TheVariants as kinds
use Rattle.line_script.specs.Kinds.{kind_word, kind_among, kind_named}
use Rattle.line_script.specs.Words.{◌>>=◌, digit_more, number_from, number, number_within, hex_octets, keeps_new}
use Rattle.script_faults.specs.declared.form.WordKind.{WordKind}
use Rattle.script_faults.specs.declared.form.WordKind.TheVariants as words
use Rattle.script_faults.specs.Forms.{is_digits, is_word}

-- a space, or a line feed
abbrev pub stray : Bool → ℕ
stray true = 32
stray false = 10

-- # Numbers

then_none : {A B : Type 0} (o : Option A) (f : A → Option B) → ((a : A) → f a ≡ None) → (o >>= f) ≡ None
then_none None f all = refl
then_none (Some a) f all = all a

either_none : {A : Type 0} (test : Bool) (o : Option A) → o ≡ None → (if test then None else o) ≡ None
either_none true o is = refl
either_none false o is = is

stray_digits : (n : ℕ) (w next : List ℕ) (b : Bool) → number_from n (w ++ (stray b ∷ next)) ≡ None
stray_digits n [] next true = refl
stray_digits n [] next false = refl
stray_digits n (d ∷ ds) next b =
    then_none (digit_more n d) (λ m. number_from m (ds ++ (stray b ∷ next))) (λ m. stray_digits m ds next b)

stray_number : (w next : List ℕ) (b : Bool) → number (w ++ (stray b ∷ next)) ≡ None
unfolding number
stray_number [] next b = either_none (stray b == 48 && nat_lt 0 (length next)) (number_from 0 (stray b ∷ next)) (stray_digits 0 [] next b)
stray_number (d ∷ ds) next b =
    either_none (d == 48 && nat_lt 0 (length (ds ++ (stray b ∷ next)))) (number_from 0 (d ∷ (ds ++ (stray b ∷ next)))) (stray_digits 0 (d ∷ ds) next b)

stray_within : (low high : ℕ) (w next : List ℕ) (b : Bool) → is_some (number_within low high (w ++ (stray b ∷ next))) ≡ false
unfolding number_within
stray_within low high w next b = rw (stray_number w next b) refl

-- # Octets

at_stray : (P : ℕ → Type 0) (w next : List ℕ) (c : ℕ) → All P (w ++ (c ∷ next)) → P c
at_stray P [] next c all = All-head P c next all
at_stray P (d ∷ ds) next c all = at_stray P ds next c (All-tail P d (ds ++ (c ∷ next)) all)

no_digit : (b : Bool) → is_hex_digit (stray b) ≡ false
no_digit true = refl
no_digit false = refl

unread_by : (s w next : List ℕ) (b : Bool) → s ≡ w ++ (stray b ∷ next) → (r : Result (List ℕ) FromHexError) → decode_of s ≡ r → result_ok r ≡ None
unread_by s w next b same (Err e) is = refl
unread_by s w next b same (Ok bytes) is =
    let digits : AllPass is_hex_digit s = (decode_of-ok s bytes is).1 in
    let one : is_hex_digit (stray b) ≡ true = at_stray (λ c. is_hex_digit c ≡ true) w next (stray b) (rw same at digits) in
    cc (sym (no_digit b) ∙ one)

unless_none : {A : Type 0} (test : Bool) (o : Option A) → o ≡ None → is_some (if test then o else None) ≡ false
unless_none true o is = rw is refl
unless_none false o is = refl

stray_octets : (w next : List ℕ) (b : Bool) → is_some (hex_octets (w ++ (stray b ∷ next))) ≡ false
unfolding hex_octets
stray_octets w next b =
    let s = w ++ (stray b ∷ next) in
    unless_none (nat_lt 0 (length s) && nat_le (length s) 4096) (result_ok (decode_of s)) (unread_by s w next b refl (decode_of s) refl)

and_false : (a b : Bool) → b ≡ false → (a && b) ≡ false
and_false true b is = is
and_false false b is = refl

stray_pairs : (count : ℕ) (w next : List ℕ) (b : Bool) → is_digits count (w ++ (stray b ∷ next)) ≡ false
stray_pairs count w next b =
    and_false (length (w ++ (stray b ∷ next)) == count) (is_some (hex_octets (w ++ (stray b ∷ next)))) (stray_octets w next b)

-- # Texts

-- whether a text has no space and no line feed
abbrev pub is_clean : List ℕ → Bool
is_clean [] = true
is_clean (c ∷ cs) = not (c == 32 || c == 10) && is_clean cs

unlike : (c x : ℕ) (b : Bool) → not (x == 32 || x == 10) ≡ true → (stray b == x) ≡ false
unlike c x true is = grind (arith)
unlike c x false is = grind (arith)

pub stray_text : (w v next : List ℕ) (b : Bool) → is_clean v ≡ true → bytes_eq (w ++ (stray b ∷ next)) v ≡ false
stray_text [] [] next b is = refl
stray_text (d ∷ ds) [] next b is = refl
stray_text [] (x ∷ xs) next b is = let parts = and_parts (not (x == 32 || x == 10)) (is_clean xs) is in rw (unlike 0 x b parts.0) refl
stray_text (d ∷ ds) (x ∷ xs) next b is =
    let parts = and_parts (not (x == 32 || x == 10)) (is_clean xs) is in
    and_false (d == x) (bytes_eq (ds ++ (stray b ∷ next)) xs) (stray_text ds xs next b parts.1)

stray_record : (w next : List ℕ) (b : Bool) → is_some (keeps_new (w ++ (stray b ∷ next))) ≡ false
unfolding keeps_new
stray_record w next b = rw (stray_text w (codes "new") next b refl, stray_text w (codes "old") next b refl) refl

-- # Words

-- what has a space or a line feed in it is a word of no kind
pub stray_word : (kind : WordKind) (w next : List ℕ) (b : Bool) → is_word kind (w ++ (stray b ∷ next)) ≡ false
stray_word words.Node w next b = rw (stray_number w next b) refl
stray_word words.Flight w next b = rw (stray_number w next b) refl
stray_word words.Counter w next b = rw (stray_number w next b) refl
stray_word words.Own w next b = stray_within 1 65535 w next b
stray_word words.Cost w next b = stray_within 1 255 w next b
stray_word words.Index w next b = stray_within 0 1 w next b
stray_word words.Seconds w next b = stray_within 1 86400 w next b
stray_word words.Write w next b = stray_within 1 1000 w next b
stray_word words.Choice w next b = stray_within 1 16 w next b
stray_word words.Eui w next b = stray_pairs 16 w next b
stray_word words.Key w next b = stray_pairs 32 w next b
stray_word words.Random w next b = stray_pairs 32 w next b
stray_word words.Octets w next b = stray_octets w next b
stray_word words.Record w next b = stray_record w next b

-- # First words

-- in the order of the list that `kind_named` goes through
abbrev all_kinds : List EventKind
all_kinds =
    kinds.Send ∷ kinds.Deliver ∷ kinds.Tick ∷ kinds.Inject ∷ kinds.Lose ∷ kinds.Coordinator ∷ kinds.Meter ∷ kinds.Depot ∷ kinds.Near ∷ kinds.Counter
    ∷ kinds.Number ∷ kinds.Allow ∷ kinds.RandomOctets ∷ kinds.Join ∷ kinds.Leave ∷ kinds.Break ∷ kinds.Restart ∷ kinds.Cut ∷ kinds.Rekey ∷ kinds.Challenge
    ∷ kinds.Activate ∷ kinds.Kick ∷ kinds.Show ∷ kinds.Checks ∷ kinds.Bcast ∷ kinds.Scan ∷ kinds.Choose ∷ kinds.Path ∷ []

pub clean_kind : (kind : EventKind) → is_clean (kind_word kind) ≡ true
clean_kind kinds.Coordinator = refl
clean_kind kinds.Meter = refl
clean_kind kinds.Depot = refl
clean_kind kinds.Near = refl
clean_kind kinds.Counter = refl
clean_kind kinds.Number = refl
clean_kind kinds.Allow = refl
clean_kind kinds.RandomOctets = refl
clean_kind kinds.Join = refl
clean_kind kinds.Leave = refl
clean_kind kinds.Send = refl
clean_kind kinds.Deliver = refl
clean_kind kinds.Inject = refl
clean_kind kinds.Lose = refl
clean_kind kinds.Break = refl
clean_kind kinds.Tick = refl
clean_kind kinds.Restart = refl
clean_kind kinds.Cut = refl
clean_kind kinds.Rekey = refl
clean_kind kinds.Challenge = refl
clean_kind kinds.Activate = refl
clean_kind kinds.Kick = refl
clean_kind kinds.Show = refl
clean_kind kinds.Checks = refl
clean_kind kinds.Bcast = refl
clean_kind kinds.Scan = refl
clean_kind kinds.Choose = refl
clean_kind kinds.Path = refl

among_none : (word : List ℕ) (all : List EventKind) → ((kind : EventKind) → bytes_eq word (kind_word kind) ≡ false) → kind_among word all ≡ None
among_none word [] none = refl
among_none word (kind ∷ more) none = rw (none kind) (among_none word more none)

pub stray_kind : (w next : List ℕ) (b : Bool) → kind_named (w ++ (stray b ∷ next)) ≡ None
unfolding kind_named
stray_kind w next b = among_none (w ++ (stray b ∷ next)) all_kinds (λ kind. stray_text w (kind_word kind) next b (clean_kind kind))

among_by : (word : List ℕ) (first kind : EventKind) (more : List EventKind) (test : Bool) → bytes_eq word (kind_word first) ≡ test
    → (kind_among word more ≡ Some kind → bytes_eq word (kind_word kind) ≡ true) → (if test then Some first else kind_among word more) ≡ Some kind
    → bytes_eq word (kind_word kind) ≡ true
among_by word first kind more true same rest is =
    ap (λ k. bytes_eq word (kind_word k)) (sym (ap (λ (o : Option EventKind). unwrap_or o first) is)) ∙ same
among_by word first kind more false same rest is = rest is

among_is : (word : List ℕ) (all : List EventKind) (kind : EventKind) → kind_among word all ≡ Some kind → bytes_eq word (kind_word kind) ≡ true
among_is word [] kind is = cc is
among_is word (first ∷ more) kind is = among_by word first kind more (bytes_eq word (kind_word first)) refl (λ e. among_is word more kind e) is

-- a kind is named by its word
pub named_is : (word : List ℕ) (kind : EventKind) → kind_named word ≡ Some kind → bytes_eq word (kind_word kind) ≡ true
unfolding kind_named
named_is word kind is = among_is word all_kinds kind is
