use Rattle.std.proofs.Common.{List, subst, sym}
use Rattle.std.specs.Prelude.{OnOk}
use Rattle.line_record.specs.declared.recorded.RecordedEvent.{RecordedEvent}
use Rattle.line_capture.specs.Captures.{Adds, packets_from, run_of}
use Rattle.line_capture.specs.Places.{AreEvents, start}
use Rattle.line_capture.proofs.packets.Packets.push_events.Goals as goal

pub push_each-requires-clause-events : goal.push_each-requires-clause-events
push_each-requires-clause-events c = subst (λ (es : List RecordedEvent). AreEvents es) (sym c.as_slice.ensures.value) c.requires.events

pub returns-clause-adds : goal.returns-clause-adds
returns-clause-adds c =
    subst (λ (es : List RecordedEvent). OnOk c.push_each.result (Adds c.args.self.now.out.items c.push_each.new.self.out.items
    (packets_from c.args.self.now.tap (run_of c.args.run.now) c.args.fates.now start es))) c.as_slice.ensures.value c.push_each.ensures.adds
