-- What is read as an event is its line, but for the case of digits.
use Rattle.std.proofs.Common.{◌≡◌, ℕ, ◌<◌, ◌==◌, Bool, true, false, List, [], ◌∷◌, ◌++◌, length, map, Option, Some, None, refl, sym, ap, subst, ◌∙◌, arith}
use Rattle.std.specs.Prelude.{IfSome, if◌then◌else◌}
use Rattle.std.specs.Char.{to_ascii_lowercase}
use Rattle.std.specs.List.{join_with_byte, onto_first, slice_split}
use Rattle.std.proofs.lemmas.Bool.{eqb-true, ne_eqb}
use Rattle.std.proofs.lemmas.List.{append-nil}
use Rattle.std.proofs.lemmas.List.Splits.{slice_split-cons_yes, slice_split-cons_no, length-slice_split}
use Rattle.line_events.specs.declared.event.Event.{Event}
use Rattle.line_script.specs.declared.reading.Reading.{Reading}
use Rattle.line_script.specs.declared.reading.Reading.TheVariants.{Quiet, NoForm, Reads}
use Rattle.line_script.specs.LineReader.{event_of, reading, reads}
use Rattle.line_script.specs.Lines.{IsInRange}
use Rattle.line_script.proofs.Ranges.{reading_fits}
use Rattle.line_script.proofs.RoundTrip.{read_back}
use Rattle.text_laws.specs.LowerCase.{lower_word, lower_line}
use Rattle.text_laws.specs.ScriptLaws.{CaseIsNotRead, OnlyLinesAreRead, OneLineForAnEvent}
use Rattle.text_laws.proofs.Letters.{same_if, same_sign}
use Rattle.text_laws.proofs.Words.{joined, space}
use Rattle.text_laws.proofs.EventLines.{IsLine, event_line, event_same}

-- # Lines that say nothing

abbrev is_quiet : List ℕ → Bool
is_quiet [] = true
is_quiet (c ∷ cs) = c == 35

reading_by : (octets : List ℕ) → reading octets ≡ (if is_quiet octets then Quiet else reads (event_of octets))
unfolding reading
reading_by [] = refl
reading_by (c ∷ cs) = refl

-- the first octet of a word in lower case, and of what comes after the word
quiet_word : (c : ℕ) (part more : List ℕ) → is_quiet (lower_word (c ∷ part) ++ more) ≡ (c == 35)
unfolding lower_word
quiet_word c part more =
    same_if (λ (w : List ℕ). is_quiet (w ++ more)) _ (map to_ascii_lowercase (c ∷ part)) (c ∷ part) (λ are. same_sign 35 c (omega arith))

quiet_parts : (c : ℕ) (parts : List (List ℕ)) → 0 < length parts → is_quiet (join_with_byte 32 (map lower_word (onto_first c parts))) ≡ (c == 35)
quiet_parts c [] some = absurd (omega arith)
quiet_parts c (part ∷ []) some = ap is_quiet (sym (append-nil (lower_word (c ∷ part)))) ∙ quiet_word c part []
quiet_parts c (part ∷ next ∷ parts) some = quiet_word c part (32 ∷ join_with_byte 32 (map lower_word (next ∷ parts)))

quiet_by : (c : ℕ) (cs : List ℕ) (b : Bool) → (c == 32) ≡ b → is_quiet (lower_line (c ∷ cs)) ≡ (c == 35)
unfolding lower_line lower_word
quiet_by c cs true is =
    let long = length-slice_split space cs in
    let blank : c ≡ 32 = eqb-true c 32 is in
    ap (λ (parts : List (List ℕ)). is_quiet (join_with_byte 32 (map lower_word parts))) (slice_split-cons_yes space c cs is)
    ∙ ap is_quiet (joined [] (slice_split space cs) (omega (arith, long))) ∙ sym (ne_eqb c 35 (λ e. omega (arith, e, blank)))
quiet_by c cs false is =
    let long = length-slice_split space cs in
    ap (λ (parts : List (List ℕ)). is_quiet (join_with_byte 32 (map lower_word parts))) (slice_split-cons_no space c cs is)
    ∙ quiet_parts c (slice_split space cs) (omega (arith, long))

quiet_same : (octets : List ℕ) → is_quiet (lower_line octets) ≡ is_quiet octets
unfolding lower_line lower_word
quiet_same [] = refl
quiet_same (c ∷ cs) = quiet_by c cs (c == 32) refl

-- # Lines that are read

abbrev IsLineRead : List ℕ → Reading → Type 0
IsLineRead octets Quiet = Unit {0}
IsLineRead octets NoForm = Unit {0}
IsLineRead octets (Reads event) = IsLine octets event

reads_line : (octets : List ℕ) (o : Option Event) → IfSome o (IsLine octets) → IsLineRead octets (reads o)
reads_line octets (Some event) is = is
reads_line octets None is = tt

line_by : (octets : List ℕ) (quiet : Bool) (o : Option Event) → IfSome o (IsLine octets) → IsLineRead octets (if quiet then Quiet else reads o)
line_by octets true o is = tt
line_by octets false o is = reads_line octets o is

line_read : (octets : List ℕ) → IsLineRead octets (reading octets)
line_read octets = subst (IsLineRead octets) (sym (reading_by octets)) (line_by octets (is_quiet octets) (event_of octets) (event_line octets))

-- # Laws

pub case_not_read : CaseIsNotRead
case_not_read octets =
    reading_by (lower_line octets) ∙ (λ i. if quiet_same octets i then Quiet else reads (event_same octets i)) ∙ sym (reading_by octets)

pub only_lines : OnlyLinesAreRead
only_lines octets event = (
  λ is. (subst IsInRange is (reading_fits octets), subst (IsLineRead octets) is (line_read octets)),
  λ is. sym (case_not_read octets) ∙ ap reading is.1 ∙ read_back event is.0,
)

pub one_line : OneLineForAnEvent
one_line v w event of_v of_w = ((only_lines v event).0 of_v).1 ∙ sym ((only_lines w event).0 of_w).1
