-- The words of each kind of line, and the fault of a line that has no reading.
use Rattle.std.specs.Prelude.{ℕ, ◌+◌, ◌-◌, ◌==◌, ◌&&◌, Bool, true, false, List, [], ◌∷◌, length, max, Option, None, Some, is_some, if◌then◌else◌}
use Rattle.std.specs.Str.{bytes_eq}
use Rattle.line_script.specs.declared.kind.EventKind.{EventKind}
use Rattle.line_script.specs.declared.kind.EventKind.TheVariants as kinds
use Rattle.line_script.specs.declared.reading.Reading.{Reading}
use Rattle.line_script.specs.declared.reading.Reading.TheVariants.{Quiet, NoForm, Reads}
use Rattle.line_script.specs.Kinds.{kind_named, kind_word}
use Rattle.line_script.specs.Words.{Field, field, number, number_within, hex_octets, keeps_new}
use Rattle.script_faults.specs.declared.form.WordKind.{WordKind}
use Rattle.script_faults.specs.declared.form.WordKind.TheVariants as words
use Rattle.script_faults.specs.declared.form.Form.{Form}
use Rattle.script_faults.specs.declared.form.Form.TheVariants.{Alone, One, Two, Three}
use Rattle.script_faults.specs.declared.fault.Cause.{Cause}
use Rattle.script_faults.specs.declared.fault.Cause.TheVariants.{Unknown, Missing, Wrong, Surplus}
use Rattle.script_faults.specs.declared.fault.Fault.{Fault}

-- # Words

-- the words after the first
abbrev pub form_of : EventKind → Form
form_of kinds.Coordinator = Two words.Eui words.Key
form_of kinds.Meter = Two words.Eui words.Key
form_of kinds.Depot = One words.Node
form_of kinds.Near = Three words.Node words.Node words.Cost
form_of kinds.Counter = Two words.Node words.Counter
form_of kinds.Number = Two words.Node words.Own
form_of kinds.Allow = One words.Node
form_of kinds.RandomOctets = Two words.Node words.Random
form_of kinds.Join = Two words.Node words.Node
form_of kinds.Leave = One words.Node
form_of kinds.Send = Three words.Node words.Node words.Octets
form_of kinds.Deliver = Three words.Flight words.Node words.Cost
form_of kinds.Inject = Three words.Node words.Cost words.Octets
form_of kinds.Lose = One words.Flight
form_of kinds.Break = Two words.Node words.Node
form_of kinds.Tick = One words.Seconds
form_of kinds.Restart = One words.Node
form_of kinds.Cut = Three words.Node words.Write words.Record
form_of kinds.Rekey = Two words.Index words.Key
form_of kinds.Challenge = One words.Node
form_of kinds.Activate = Two words.Node words.Index
form_of kinds.Kick = One words.Node
form_of kinds.Show = One words.Node
form_of kinds.Checks = Alone
form_of kinds.Bcast = Two words.Node words.Octets
form_of kinds.Scan = One words.Node
form_of kinds.Choose = Two words.Node words.Choice
form_of kinds.Path = Two words.Node words.Node

-- whether a word is of this many digits in hexadecimal
abbrev pub is_digits : ℕ → List ℕ → Bool
is_digits count word = (length word == count) && is_some (hex_octets word)

-- whether a word is of a kind
abbrev pub is_word : WordKind → List ℕ → Bool
is_word words.Node word = is_some (number word)
is_word words.Flight word = is_some (number word)
is_word words.Counter word = is_some (number word)
is_word words.Own word = is_some (number_within 1 65535 word)
is_word words.Cost word = is_some (number_within 1 255 word)
is_word words.Index word = is_some (number_within 0 1 word)
is_word words.Seconds word = is_some (number_within 1 86400 word)
is_word words.Write word = is_some (number_within 1 1000 word)
is_word words.Choice word = is_some (number_within 1 16 word)
is_word words.Eui word = is_digits 16 word
is_word words.Key word = is_digits 32 word
is_word words.Random word = is_digits 32 word
is_word words.Octets word = is_some (hex_octets word)
is_word words.Record word = is_some (keeps_new word)

-- # Faults

abbrev pub fault : Cause → ℕ → ℕ → Fault
fault cause start end = record { cause = cause; start = start; end = end }

-- the place after a word; an empty one is marked by the octet that stands where it should be, or by the end of the line
abbrev pub word_end : ℕ → List ℕ → ℕ
word_end at word = at + max (length word) 1

-- the octets from a place on are not of this kind, unless they are
abbrev pub wrong_unless : Bool → WordKind → ℕ → List ℕ → Option Fault → Option Fault
wrong_unless true kind at word rest = rest
wrong_unless false kind at word rest = Some (fault (Wrong kind) at (word_end at word))

-- a last word with a space in it: what stands before the space is wrong, or the space and all after it is too much
abbrev pub split_fault : Option Field → WordKind → ℕ → List ℕ → Option Fault
split_fault None kind at rest = Some (fault (Wrong kind) at (word_end at rest))
split_fault (Some first) kind at rest =
    wrong_unless (is_word kind first.word) kind at first.word (Some (fault Surplus (at + length first.word) (at + length rest)))

abbrev pub last_fault : WordKind → ℕ → List ℕ → Option Fault
last_fault kind at rest = if is_word kind rest then None else split_fault (field rest) kind at rest

-- a line that ends where a word is expected
abbrev pub missing : WordKind → ℕ → Fault
missing kind at = fault (Missing kind) at (at + 1)

-- a line that ends with a word that is not its last one
abbrev pub short_fault : WordKind → WordKind → ℕ → List ℕ → Option Fault
short_fault kind next at rest = wrong_unless (is_word kind rest) kind at rest (Some (missing next (at + length rest)))

-- the fault of two words from a place on
abbrev pub two_fault : WordKind → WordKind → ℕ → List ℕ → Option Fault
two_fault kind last at rest =
    elim (field rest) [
      | None ↦ short_fault kind last at rest
      | Some first ↦ wrong_unless (is_word kind first.word) kind at first.word (last_fault last (at + length first.word + 1) first.rest)
    ]

-- that of three words
abbrev pub three_fault : WordKind → WordKind → WordKind → ℕ → List ℕ → Option Fault
three_fault kind next last at rest =
    elim (field rest) [
      | None ↦ short_fault kind next at rest
      | Some first ↦ wrong_unless (is_word kind first.word) kind at first.word (two_fault next last (at + length first.word + 1) first.rest)
    ]

-- the fault of the words from a place on; the octet before it is a space
abbrev pub words_fault : Form → ℕ → List ℕ → Option Fault
words_fault Alone at rest = Some (fault Surplus (at - 1) (at + length rest))
words_fault (One first) at rest = last_fault first at rest
words_fault (Two first second) at rest = two_fault first second at rest
words_fault (Three first second third) at rest = three_fault first second third at rest

-- the fault of a line that ends after its first word
abbrev pub ended_fault : Form → ℕ → Fault
ended_fault Alone at = fault Unknown 0 at
ended_fault (One first) at = missing first at
ended_fault (Two first _) at = missing first at
ended_fault (Three first _ _) at = missing first at

-- the fault of a line of one word, but for the line that has no other
abbrev pub alone_fault : Bool → Option EventKind → List ℕ → Option Fault
alone_fault true kind octets = None
alone_fault false None octets = Some (fault Unknown 0 (word_end 0 octets))
alone_fault false (Some kind) octets = Some (ended_fault (form_of kind) (length octets))

-- the fault of a line with a space
abbrev pub spaced_fault : Option EventKind → Field → Option Fault
spaced_fault None first = Some (fault Unknown 0 (word_end 0 first.word))
spaced_fault (Some kind) first = words_fault (form_of kind) (length first.word + 1) first.rest

abbrev pub event_fault_by : Option Field → List ℕ → Option Fault
event_fault_by None octets = alone_fault (bytes_eq octets (kind_word kinds.Checks)) (kind_named octets) octets
event_fault_by (Some first) octets = spaced_fault (kind_named first.word) first

abbrev pub event_fault : List ℕ → Option Fault
event_fault octets = event_fault_by (field octets) octets

-- the fault of a line; an empty one and one that begins with # have none
unfoldable pub fault_of : List ℕ → Option Fault
fault_of [] = None
fault_of (c ∷ cs) = if c == 35 then None else event_fault (c ∷ cs)

-- # Readings

-- whether a line is an event, a comment or empty
abbrev pub has_reading : Reading → Bool
has_reading Quiet = true
has_reading NoForm = false
has_reading (Reads event) = true
