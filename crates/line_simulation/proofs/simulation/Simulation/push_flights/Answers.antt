use Rattle.std.proofs.Common.{arith}
use Rattle.line_simulation.proofs.Walks.{flights_more, flights_all}
use Rattle.line_simulation.proofs.simulation.Simulation.push_flights.Goals as goal

pub loop-nth-preserved : goal.loop-nth-preserved
loop-nth-preserved g c =
    flights_more c.args.first c.args.count c.loop-nth.nth c.args.hops _ _ _ _ c.loop-nth-test.true c.loop-nth.invariant c.saturating_add-flight.ensures
    c.in_ok-push.ensures

pub returns : goal.returns
returns g c = flights_all c.args.first c.args.count c.loop-nth.nth c.args.hops _ _ (omega (arith, c.loop-nth-test.false)) c.loop-nth.invariant
