use Rattle.std.proofs.Common.{arith}
use Rattle.line_capture.proofs.Walks.{time_low}
use Rattle.line_capture.proofs.place.Place.time.Goals as goal

pub returns-clause-bound : goal.returns-clause-bound
returns-clause-bound c =
    let low = time_low c.args.self.now c.args.act.now c.requires.place c.requires.act in
    omega (arith, low, c.clock_after.ensures, c.since_after.ensures)
