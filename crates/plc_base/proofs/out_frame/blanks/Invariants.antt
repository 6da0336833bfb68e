use Rattle.std.proofs.Common.{◌≡◌, length}
use Rattle.plc_base.proofs.out_frame.blanks.Given as goal

abbrev pub invariant-loop : goal.invariant-loop
invariant-loop l = length l.frames.items ≡ l.counter
