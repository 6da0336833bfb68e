use Rattle.std.proofs.Common.{◌<◌, ◌∙◌, refl, arith}
use Rattle.line_capture.specs.Captures.{run_of}
use Rattle.line_capture.proofs.Steps.{all_flights, flight_added, no_flight}
use Rattle.line_capture.proofs.packets.Packets.push_flights.Goals as goal

pub loop-nth-init : goal.loop-nth-init
loop-nth-init c =
    record {
      adds = λ new h. all_flights c.args.self.now.out.items new c.args.self.now.tap (run_of c.args.run.now) c.args.fates.now c.args.place.now
          c.args.recorded.now c.args.recorded.now.flights h;
      tap = refl;
    }

pub loop-nth-preserved : goal.loop-nth-preserved
loop-nth-preserved c =
    let loop = c.loop-nth in
    let flown = c.in_ok-push_flown.ensures in
    let within : loop.nth < c.args.recorded.now.flights = omega (arith, c.loop-nth-test.true) in
    record {
      adds = λ new h. loop.invariant.adds new
          (flight_added loop.self.out.items c.push_flown.new.self.out.items new loop.self.tap c.push_flown.new.self.tap (run_of c.args.run.now)
          c.args.fates.now c.args.place.now c.args.recorded.now loop.nth c.args.recorded.now.flights within flown.tap flown.adds h);
      tap = flown.tap ∙ loop.invariant.tap;
    }

pub returns-clause-adds : goal.returns-clause-adds
returns-clause-adds c =
    let loop = c.loop-nth in
    loop.invariant.adds loop.self.out.items
    (no_flight loop.self.out.items loop.self.tap (run_of c.args.run.now) c.args.fates.now c.args.place.now c.args.recorded.now loop.nth
    c.args.recorded.now.flights (omega (arith, c.loop-nth-test.false)))
