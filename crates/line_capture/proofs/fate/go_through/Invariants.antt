use Rattle.std.proofs.Common.{◌≡◌, ◌+◌, drop}
use Rattle.line_capture.specs.Fates.{fates_from}
use Rattle.line_capture.proofs.fate.go_through.Given as goal

-- what comes of the events to come
abbrev pub invariant-loop-i : goal.invariant-loop-i
invariant-loop-i l = fates_from (l.i + 1) (drop l.i l.events) l.fates ≡ fates_from 1 l.events l.fn.fates
