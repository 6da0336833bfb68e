use Rattle.std.proofs.Common.{◌≡◌}
use Rattle.line_view.specs.PageRuns.{looked_at_all}
use Rattle.line_view.proofs.page.Page.look_at_all.Given as goal

-- the nodes so far
abbrev pub invariant-loop-node : goal.invariant-loop-node
invariant-loop-node l = l.self ≡ looked_at_all l.event l.node l.fn.self
