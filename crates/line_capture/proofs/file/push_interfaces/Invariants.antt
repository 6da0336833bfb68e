use Rattle.std.proofs.Common.{ℕ, List, drop}
use Rattle.line_capture.specs.Captures.{Adds, interfaces_from}
use Rattle.line_capture.proofs.file.push_interfaces.Given as goal

-- whatever the rest of the nodes adds, all of them add from the beginning on
abbrev pub invariant-loop-node : goal.invariant-loop-node
invariant-loop-node l =
    (new : List ℕ) → Adds l.out.items new (interfaces_from l.tap l.node (drop l.node l.euis)) → Adds l.fn.out.items new (interfaces_from l.tap 0 l.euis)
