use Rattle.std.proofs.Common.{arith}
use Rattle.line_sim.proofs.Orders.{last_rises}
use Rattle.line_sim.proofs.order.Order.bring.Goals as goal

pub returns-in-Ok-clause-grows : goal.returns-in-Ok-clause-grows
returns-in-Ok-clause-grows c = record {
  last = last_rises c.args.self.now.last c.insert.new.self c.args.from c.args.coming.node c.args.coming.flight c.in-Ok.ensures.updates.0
      (rw (← c.last_of.ensures) (omega arith));
  second = omega arith;
  remarked = omega arith;
}
