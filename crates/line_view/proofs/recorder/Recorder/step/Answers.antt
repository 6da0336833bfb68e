use Rattle.std.proofs.Common.{arith}
use Rattle.line_view.specs.Recordings.{Recording}
use Rattle.line_view.proofs.Recorded.{event_kept}
use Rattle.line_view.proofs.recorder.Recorder.step.Goals as goal

pub returns : goal.returns
returns c =
    let r : Recording = record {
      world = c.self.inside.world;
      events = c.self.inside.run_record.events.items;
      flights = c.self.inside.run_record.flights.items;
      more = c.self.inside.more.items;
      counters = c.self.inside.counters;
      euis = c.self.inside.euis.items;
    } in
    rw (← c.self.view_is) (event_kept c.args.row c.counts-counts.result.flights r c.record.new.self c.step.new.self c.args.event.now c.in-Ok.happenings
    (omega (arith, c.counts-counts.ensures.events)) c.in-Ok.ensures.step c.counts-counts.ensures.flights c.in_ok-record.ensures)
