use Rattle.std.proofs.Common.{arith}
use Rattle.script_faults.proofs.EachKind.{each}
use Rattle.script_faults.proofs.Nearer.{meant_near, none_meant}
use Rattle.script_faults.proofs.nearest.nearest_kind.Goals as goal

pub returns-then-near-max-clause-nearest : goal.returns-then-near-max-clause-nearest
returns-then-near-max-clause-nearest c =
    let near = c.in_ok-near.near in
    let among = c.in_ok-near.ensures.among in
    record {
      near = omega (arith, among.steps, c.if-near-max.true, c.max.ensures);
      nearest = λ other. let least = each c.args.word.now near.steps among.least other in omega (arith, among.steps, least);
    }

pub returns-else-near-max-clause-nearest : goal.returns-else-near-max-clause-nearest
returns-else-near-max-clause-nearest c kind within =
    let near = c.in_ok-near.near in
    let least = each c.args.word.now near.steps c.in_ok-near.ensures.among.least kind in
    omega (arith, least, within, c.if-near-max.false, c.max.ensures)

pub returns-then-near-max-clause-value : goal.returns-then-near-max-clause-value
returns-then-near-max-clause-value c =
    meant_near c.args.word.now c.in_ok-near.near c.in_ok-near.ensures.value (omega (arith, c.if-near-max.true, c.max.ensures))

pub returns-else-near-max-clause-value : goal.returns-else-near-max-clause-value
returns-else-near-max-clause-value c =
    none_meant c.args.word.now c.in_ok-near.near c.in_ok-near.ensures.value (omega (arith, c.if-near-max.false, c.max.ensures))
