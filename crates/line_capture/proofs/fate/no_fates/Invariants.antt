use Rattle.std.proofs.Common.{◌≡◌, replicate}
use Rattle.line_capture.specs.Fates.{no_fate}
use Rattle.line_capture.proofs.fate.no_fates.Given as goal

abbrev pub invariant-loop : goal.invariant-loop
invariant-loop l = l.fates.items ≡ replicate l.counter no_fate
