-- The law of all lines.
use Rattle.std.specs.Prelude.{◌≡◌}
use Rattle.line_events.specs.declared.event.Event.{Event}
use Rattle.line_events.specs.Events.{IsEvent}
use Rattle.line_script.specs.declared.reading.Reading.TheVariants.{Reads}
use Rattle.line_script.specs.LineReader.{reading}
use Rattle.line_script.specs.Lines.{line_of}

-- the line of each event that a line can say is read as that event
abbrev pub LinesAreReadBack : Type 0
LinesAreReadBack = (event : Event) → IsEvent event → reading (line_of event) ≡ Reads event
