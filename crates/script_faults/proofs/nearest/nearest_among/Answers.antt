use Rattle.std.proofs.Common.{◌<◌, length, ap, arith}
use Rattle.line_script.specs.declared.kind.EventKind.TheVariants as kinds
use Rattle.script_faults.proofs.Nearer.{nearer_of, next_nearest}
use Rattle.script_faults.proofs.nearest.nearest_among.Goals as goal

pub loop-kind-preserved : goal.loop-kind-preserved
loop-kind-preserved c =
    let loop = c.loop-kind in
    let nearest = c.nearer-best in
    let away = c.in_ok-distance_to.ensures in
    let within : loop.kind-index < length c.args.kinds.now = omega (arith, c.loop-kind-test.true, loop.auto.kind-index-end) in
    record {
      among = nearer_of c.args.word.now c.args.first kinds.Coordinator c.args.kinds.now loop.kind-index loop.best c.in_ok-distance_to.field-0 nearest.result
          within loop.invariant.among (ap (λ n. n.kind) away, ap (λ n. n.steps) away) nearest.ensures.least.0
          nearest.ensures.least.1 nearest.ensures.one;
      value = next_nearest c.args.word.now kinds.Coordinator c.args.kinds.now loop.kind-index loop.best c.in_ok-distance_to.field-0 nearest.result
          within away nearest.ensures.value loop.invariant.value;
    }
