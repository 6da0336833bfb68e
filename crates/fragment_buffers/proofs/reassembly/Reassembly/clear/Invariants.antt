use Rattle.std.proofs.Common.{length}
use Rattle.fragment_buffers.specs.Entries.{Keeps, Moves}
use Rattle.fragment_buffers.proofs.reassembly.Reassembly.clear.Given as goal

abbrev pub invariant-loop-self : goal.invariant-loop-self
invariant-loop-self l = record { keeps : Keeps l.pool l.self; moves : Moves l.fn.pool l.pool l.fn.self l.self }

abbrev pub decreases-loop-self : goal.decreases-loop-self
decreases-loop-self l = length l.self
