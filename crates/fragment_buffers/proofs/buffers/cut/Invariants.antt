use Rattle.std.proofs.Common.{◌≡◌, ◌+◌, ◌++◌, take, drop}
use Rattle.fragment_buffers.proofs.buffers.cut.Given as goal

abbrev pub invariant-loop : goal.invariant-loop
invariant-loop l = l.places ≡ take l.start l.fn.places ++ drop (l.start + l.counter) l.fn.places
