-- The event of a line: the line is the event's, and the case of digits is not read.
use Rattle.std.proofs.Common.{◌≡◌, ℕ, Bool, true, false, not, List, [], ◌∷◌, map, Option, Some, None, refl, sym, ap, ◌∙◌}
use Rattle.std.specs.Prelude.{IfSome, if◌then◌else◌}
use Rattle.std.specs.Char.{to_ascii_lowercase}
use Rattle.std.specs.List.{list_all}
use Rattle.std.specs.Option.{option_map}
use Rattle.std.specs.Str.{bytes_eq}
use Rattle.std.proofs.lemmas.Bool.{and_parts, not-true}
use Rattle.std.proofs.lemmas.Option.{IfSome_then}
use Rattle.hex.specs.Hex.{is_hex_digit}
use Rattle.line_events.specs.declared.event.Event.{Event}
use Rattle.line_events.specs.declared.event.Event.TheVariants.{Checks}
use Rattle.line_script.specs.declared.kind.EventKind.{EventKind}
use Rattle.line_script.specs.declared.kind.EventKind.TheVariants as kinds
use Rattle.line_script.specs.Kinds.{kind_among, kind_named, kind_word}
use Rattle.line_script.specs.Words.{◌>>=◌, Field, field}
use Rattle.line_script.specs.LineReader.{event_alone, event_by, event_of, event_with}
use Rattle.line_script.specs.Lines.{line_of, spaced}
use Rattle.text_laws.specs.LowerCase.{lower_word, lower_line}
use Rattle.text_laws.proofs.Letters.{same_if}
use Rattle.text_laws.proofs.Words.{IsDivided, IsSplit, divided, field_splits, if_then, last_word, lower_field, lower_fields, not_hex, same_word}
use Rattle.text_laws.proofs.Hexadecimal.{lower_digits_are}
use Rattle.text_laws.proofs.KindWords.{by_kind}

-- the line of an event, but for the case of digits
abbrev pub IsLine : List ℕ → Event → Type 0
IsLine octets event = lower_line octets ≡ line_of event

-- # Kinds

abbrev IsNamed : List ℕ → EventKind → Type 0
IsNamed word kind = word ≡ kind_word kind

named_by : (word : List ℕ) (kind : EventKind) (o : Option EventKind) (b : Bool) → bytes_eq word (kind_word kind) ≡ b → IfSome o (IsNamed word)
    → IfSome (if b then Some kind else o) (IsNamed word)
named_by word kind o true is more = same_word word (kind_word kind) true is refl
named_by word kind o false is more = more

named_among : (word : List ℕ) (ks : List EventKind) → IfSome (kind_among word ks) (IsNamed word)
named_among word [] = tt
named_among word (kind ∷ ks) = named_by word kind (kind_among word ks) (bytes_eq word (kind_word kind)) refl (named_among word ks)

abbrev has_others : EventKind → Bool
has_others kind = not (list_all is_hex_digit (kind_word kind))

none_among : (word : List ℕ) (ks : List EventKind) → list_all is_hex_digit word ≡ true → list_all has_others ks ≡ true → kind_among word ks ≡ None
none_among word [] are others = refl
none_among word (kind ∷ ks) are others =
    let parts = and_parts (has_others kind) (list_all has_others ks) others in
    rw (not_hex word (kind_word kind) are (not-true (list_all is_hex_digit (kind_word kind)) parts.0)) (none_among word ks are parts.1)

-- in the order in which a word is compared with them
abbrev all_kinds : List EventKind
all_kinds = kinds.Send ∷ kinds.Deliver ∷ kinds.Tick ∷ kinds.Inject ∷ kinds.Lose ∷ kinds.Coordinator ∷ kinds.Meter ∷ kinds.Depot ∷ kinds.Near ∷ kinds.Counter
    ∷ kinds.Number ∷ kinds.Allow ∷ kinds.RandomOctets ∷ kinds.Join ∷ kinds.Leave ∷ kinds.Break ∷ kinds.Restart ∷ kinds.Cut ∷ kinds.Rekey ∷ kinds.Challenge
    ∷ kinds.Activate ∷ kinds.Kick ∷ kinds.Show ∷ kinds.Checks ∷ kinds.Bcast ∷ kinds.Scan ∷ kinds.Choose ∷ kinds.Path ∷ []

named : (word : List ℕ) → IfSome (kind_named word) (IsNamed word)
unfolding kind_named
named word = named_among word all_kinds

no_kind : (word : List ℕ) → list_all is_hex_digit word ≡ true → kind_named word ≡ None
unfolding kind_named
no_kind word are = none_among word all_kinds are refl

same_kind : (word : List ℕ) → kind_named (lower_word word) ≡ kind_named word
unfolding lower_word
same_kind word =
    same_if kind_named _ (map to_ascii_lowercase word) word
    (λ are. no_kind (map to_ascii_lowercase word) (lower_digits_are word are) ∙ sym (no_kind word are))

-- # A line of one word

checks_line : IsLine (kind_word kinds.Checks) Checks
unfolding lower_line lower_word
checks_line = refl

alone_by : (octets : List ℕ) (b : Bool) → bytes_eq octets (kind_word kinds.Checks) ≡ b → IfSome (if b then Some Checks else None) (IsLine octets)
alone_by octets true is = ap lower_line (same_word octets (kind_word kinds.Checks) true is refl) ∙ checks_line
alone_by octets false is = tt

alone : (octets : List ℕ) → IfSome (event_alone octets) (IsLine octets)
unfolding event_alone
alone octets = alone_by octets (bytes_eq octets (kind_word kinds.Checks)) refl

none_alone : (word : List ℕ) → list_all is_hex_digit word ≡ true → event_alone word ≡ None
unfolding event_alone
none_alone word are = rw (not_hex word (kind_word kinds.Checks) are refl) refl

same_alone : (word : List ℕ) → event_alone (lower_word word) ≡ event_alone word
unfolding lower_word
same_alone word =
    same_if event_alone _ (map to_ascii_lowercase word) word
    (λ are. none_alone (map to_ascii_lowercase word) (lower_digits_are word are) ∙ sym (none_alone word are))

-- # Lines

with_kind : (octets : List ℕ) (first : Field) (kind : EventKind) → IsSplit octets first → IsNamed first.word kind
    → IfSome (event_by kind first.rest) (IsLine octets)
with_kind octets first kind split is =
    IfSome_then (event_by kind first.rest) (by_kind kind first.rest).0
    (λ event by. split.1 ∙ ap (λ (w : List ℕ). spaced (lower_word w) (lower_line first.rest)) is ∙ by)

with_first : (octets : List ℕ) (o : Option Field) → IfSome o (IsSplit octets) → IfSome (event_with octets o) (IsLine octets)
with_first octets None split = alone octets
with_first octets (Some first) split =
    if_then (IsNamed first.word) (IsLine octets) (kind_named first.word) _ (named first.word) (λ kind is. with_kind octets first kind split is)

-- the line of an event that is read
pub event_line : (octets : List ℕ) → IfSome (event_of octets) (IsLine octets)
unfolding event_of
event_line octets = with_first octets (field octets) (field_splits octets)

same_with : (octets : List ℕ) (o : Option Field) → IsDivided octets o → event_with (lower_line octets) (option_map lower_field o) ≡ event_with octets o
same_with octets None is = ap event_alone (last_word octets is) ∙ same_alone octets
same_with octets (Some first) is = λ i. same_kind first.word i >>= λ kind. (by_kind kind first.rest).1 i

-- the event of the line in lower case
pub event_same : (octets : List ℕ) → event_of (lower_line octets) ≡ event_of octets
unfolding event_of
event_same octets = ap (event_with (lower_line octets)) (lower_fields octets) ∙ same_with octets (field octets) (divided octets)
