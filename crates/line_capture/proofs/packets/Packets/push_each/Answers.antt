use Rattle.std.proofs.Common.{◌<◌, ◌+◌, ◌∙◌, ℕ, length, ap, refl, arith}
use Rattle.line_capture.specs.declared.place.Place.{Place}
use Rattle.line_capture.specs.Captures.{run_of}
use Rattle.line_capture.proofs.Steps.{event_added, no_event}
use Rattle.line_capture.proofs.Walks.{start_is}
use Rattle.line_capture.proofs.packets.Packets.push_each.Goals as goal

pub loop-recorded-init : goal.loop-recorded-init
loop-recorded-init c = rw c.start-place.ensures (record { adds = λ new h. h; tap = refl; place = start_is; number = omega arith })

pub loop-recorded-preserved : goal.loop-recorded-preserved
loop-recorded-preserved c =
    let loop = c.loop-recorded in
    let event = c.in_ok-push_event.ensures in
    let after = c.after-place.ensures in
    let within : loop.recorded-index < length c.args.events.now = omega (arith, c.loop-recorded-test.true, loop.auto.recorded-index-end) in
    record {
      adds = λ new h. loop.invariant.adds new
          (event_added loop.self.out.items c.push_event.new.self.out.items new loop.self.tap c.push_event.new.self.tap (run_of c.args.run.now)
          c.args.fates.now loop.place c.after-place.result c.args.events.now loop.recorded-index _ within event.tap after.after event.adds h);
      tap = event.tap ∙ loop.invariant.tap;
      place = after.place (omega (arith, within, loop.invariant.number, c.requires.events.count));
      number = ap (λ (p : Place). p.number) after.after ∙ ap (λ (n : ℕ). n + 1) loop.invariant.number;
    }

pub returns-clause-adds : goal.returns-clause-adds
returns-clause-adds c =
    let loop = c.loop-recorded in
    loop.invariant.adds loop.self.out.items
    (no_event loop.self.out.items loop.self.tap (run_of c.args.run.now) c.args.fates.now loop.place c.args.events.now loop.recorded-index
    (omega (arith, c.loop-recorded-test.false)))
