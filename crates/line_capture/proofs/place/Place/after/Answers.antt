use Rattle.std.proofs.Common.{arith}
use Rattle.line_capture.proofs.Walks.{clock_low, injected_low, since_low}
use Rattle.line_capture.proofs.place.Place.after.Goals as goal

pub returns-clause-place : goal.returns-clause-place
returns-clause-place c =
    λ n.
    let place = c.requires.place in
    let clock = clock_low c.args.recorded.now.act c.args.self.now.clock c.requires.act in
    let since = since_low c.args.recorded.now.act c.args.self.now.since in
    let injected = injected_low c.args.recorded.now.act c.args.self.now.injected in
    record {
      begun = omega arith;
      number = omega (arith, n);
      clock = omega (arith, place.clock, c.clock_after.ensures, clock);
      since = omega (arith, place.since, c.since_after.ensures, since);
      flight = omega (arith, place.flight, c.from.ensures);
      injected = omega (arith, place.injected, c.injected_after.ensures, injected);
    }
