use Rattle.std.proofs.Common.{◌≡◌, ◌+◌, drop}
use Rattle.line_record.specs.Verdicts.{ends_from}
use Rattle.line_record.proofs.ends.add_flights.Given as goal

-- what comes of the flights to come
abbrev pub invariant-loop-i : goal.invariant-loop-i
invariant-loop-i l = ends_from (l.i + 1) (drop l.i l.courses) l.ends ≡ ends_from 1 l.courses l.fn.ends
