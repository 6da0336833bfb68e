use Rattle.std.proofs.Common.{false, arith}
use Rattle.line_air.specs.declared.node.Ear.{Ear}
use Rattle.line_air.proofs.MappedLists.{one_more_at}
use Rattle.line_air.proofs.node.disturb_all.Goals as goal

pub loop-ear-preserved : goal.loop-ear-preserved
loop-ear-preserved c =
    let default : Ear = record { from = 0; clean = false } in
    one_more_at (λ (e : Ear). record e { clean = false }) c.loop-ear.ear-index c.args.heard.now c.loop-ear.heard default c.loop-ear.invariant
    (omega arith)
