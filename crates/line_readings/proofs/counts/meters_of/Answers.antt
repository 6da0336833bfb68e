use Rattle.std.proofs.Common.{◌∙◌, ◌+◌, sym}
use Rattle.line_readings.specs.Readings.{with_node}
use Rattle.line_readings.proofs.Counting.{one_node_more}
use Rattle.line_readings.proofs.counts.meters_of.Goals as goal

pub loop-i-preserved : goal.loop-i-preserved
loop-i-preserved c =
    c.in_ok-push_node.ensures
    ∙ (λ k. with_node (c.is_spare.ensures k) (c.loop-i.i + 1) (c.loop-i.invariant k))
    ∙ sym (one_node_more c.args.spares.now c.loop-i.i)
