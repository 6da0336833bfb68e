use Rattle.std.proofs.Common.{Ok, Err, refl}
use Rattle.plc_station.proofs.CarriedPlans.{if_some, at_some}
use Rattle.plc_station.proofs.station.Station.receive.Goals as goal

pub returns-in-Ok-clause-received : goal.returns-in-Ok-clause-received
returns-in-Ok-clause-received g c =
    if_some c.args.self.now.memory _ (λ l m. record {
      answer = Ok c.in-Ok.got;
      mid = c.accept.new.self;
      accepted = at_some c.args.self.now.memory _ l m c.in-Ok.ensures.carries;
      follows = record {
        running = c.in-Ok.ensures.running;
        heard = c.hear.result;
        result_is = c.heard_or_why.ensures;
        carries = c.hear.ensures.carries;
      };
    })

pub returns-in-Err-clause-received : goal.returns-in-Err-clause-received
returns-in-Err-clause-received g c =
    if_some c.args.self.now.memory _ (λ l m. record {
      answer = Err c.in-Err.reason;
      mid = c.accept.new.self;
      accepted = at_some c.args.self.now.memory _ l m c.in-Err.ensures.carries;
      follows = ((λ i. Err (c.from.ensures i)), c.clear.ensures, refl);
    })
