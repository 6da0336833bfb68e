use Rattle.std.proofs.Common.{◌≡◌}
use Rattle.line_view.specs.Sentences.{look_at_all}
use Rattle.line_view.proofs.run_sentences.look_at_all.Given as goal

-- the nodes so far, and the world as it was
abbrev pub invariant-loop-node : goal.invariant-loop-node
invariant-loop-node l =
    record {
      looked : l.watches.items ≡ look_at_all l.event l.fn.world l.node l.fn.watches.items;
      same : l.world ≡ l.fn.world;
    }
