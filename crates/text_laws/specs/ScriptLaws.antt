-- The laws of the language of scripts.
use Rattle.std.specs.Prelude.{◌≡◌, ◌↔◌, ℕ, List}
use Rattle.line_events.specs.declared.event.Event.{Event}
use Rattle.line_events.specs.Events.{IsEvent}
use Rattle.line_script.specs.declared.reading.Reading.TheVariants.{Reads}
use Rattle.line_script.specs.LineReader.{reading}
use Rattle.line_script.specs.Lines.{line_of}
use Rattle.text_laws.specs.LowerCase.{lower_line}

-- a line is read as an event exactly where the event is in its ranges and the line is the event's, but for the case of hexadecimal digits
abbrev pub OnlyLinesAreRead : Type 0
OnlyLinesAreRead = (octets : List ℕ) (event : Event) → (reading octets ≡ Reads event) ↔ (IsEvent event × (lower_line octets ≡ line_of event))

-- the case of hexadecimal digits makes no difference to what is read
abbrev pub CaseIsNotRead : Type 0
CaseIsNotRead = (octets : List ℕ) → reading (lower_line octets) ≡ reading octets

-- two lines that are read as one event differ in the case of hexadecimal digits alone
abbrev pub OneLineForAnEvent : Type 0
OneLineForAnEvent = (v w : List ℕ) (event : Event) → reading v ≡ Reads event → reading w ≡ Reads event → lower_line v ≡ lower_line w
