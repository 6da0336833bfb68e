use Rattle.std.proofs.Common.{◌≡◌, take}
use Rattle.std.specs.Prelude.{All}
use Rattle.line_capture.specs.Captures.{IsFrame}
use Rattle.line_view.proofs.capture.strings_of.Given as goal

abbrev pub invariant-loop-place : goal.invariant-loop-place
invariant-loop-place l = record { octets : l.list.items ≡ take l.place l.log.strings; frames : All IsFrame l.list.items }
