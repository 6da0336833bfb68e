use Rattle.std.proofs.Common.{◌<◌, length, arith}
use Rattle.line_capture.specs.Comments.{arrivals_notes}
use Rattle.line_capture.proofs.Arrivals.{arrival_bound, arrival_counted, arrival_noted, arrival_small, arrivals_counted, arrivals_noted, arrivals_small}
use Rattle.line_capture.proofs.comments.note_arrivals.Goals as goal

pub loop-arrival-preserved : goal.loop-arrival-preserved
loop-arrival-preserved c =
    let loop = c.loop-arrival in
    let recorded = c.in_ok-meant.ensures in
    let xs = c.args.arrivals.now in
    let within : loop.arrival-index < length xs = omega (arith, c.loop-arrival-test.true, loop.auto.arrival-index-end) in
    record {
      options = arrival_noted loop.notes.options c.note_heard.new.notes.options _ loop.meant c.in_ok-meant.meant xs loop.arrival-index _ within
          recorded.options recorded.count loop.invariant.options;
      count = arrival_counted _ loop.meant c.in_ok-meant.meant xs loop.arrival-index _ within recorded.count loop.invariant.count;
      bound = arrival_bound loop.meant c.in_ok-meant.meant xs loop.arrival-index _ recorded.count loop.invariant.bound;
      small =
          arrival_small (arrivals_notes 0 xs) loop.meant c.in_ok-meant.meant xs loop.arrival-index _ within recorded.count recorded.few loop.invariant.small;
    }

pub returns-clause-options : goal.returns-clause-options
returns-clause-options c =
    let loop = c.loop-arrival in
    arrivals_noted loop.notes.options _ loop.meant c.args.arrivals.now loop.arrival-index (omega (arith, c.loop-arrival-test.false)) loop.invariant.options

pub returns-clause-count : goal.returns-clause-count
returns-clause-count c =
    let loop = c.loop-arrival in
    arrivals_counted _ loop.meant c.args.arrivals.now loop.arrival-index (omega (arith, c.loop-arrival-test.false)) loop.invariant.count

pub returns-clause-bound : goal.returns-clause-bound
returns-clause-bound c = omega (arith, c.loop-arrival.invariant.bound, c.loop-arrival.auto.arrival-index-end)

pub returns-clause-few : goal.returns-clause-few
returns-clause-few c =
    let loop = c.loop-arrival in
    arrivals_small (arrivals_notes 0 c.args.arrivals.now) loop.meant c.args.arrivals.now loop.arrival-index (omega (arith, c.loop-arrival-test.false))
    loop.invariant.small
