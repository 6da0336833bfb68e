use Rattle.line_capture.specs.Captures.{run_of}
use Rattle.line_capture.proofs.Steps.{event_whole}
use Rattle.line_capture.proofs.packets.Packets.push_event.Goals as goal

pub returns-clause-adds : goal.returns-clause-adds
returns-clause-adds c =
    event_whole c.args.self.now.out.items c.push_heard.new.self.out.items c.push_flights.new.self.out.items c.args.self.now.tap
    c.push_heard.new.self.tap (run_of c.args.run.now) c.args.fates.now c.args.place.now c.args.recorded.now c.in_ok-push_heard.ensures.tap
    c.in_ok-push_heard.ensures.adds c.in_ok-push_flights.ensures.adds
