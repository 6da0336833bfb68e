use Rattle.std.proofs.Common.{◌∙◌, sym, ap, arith}
use Rattle.line_replay.specs.Drills.{Drilling, world_by}
use Rattle.line_replay.proofs.DrillLoops.{not_after, is_after}
use Rattle.line_replay.proofs.drill.Drill.take.Goals as goal

pub returns-then-counts-ge-MAX_EVENTS : goal.returns-then-counts-ge-MAX_EVENTS
returns-then-counts-ge-MAX_EVENTS c =
    let d : Drilling = record { world = c.self.inside.world; drained = c.self.inside.drained } in
    rw (← c.self.view_is) (not_after c.args.event.now d (omega (arith, c.counts.ensures.events, c.if-counts-ge-MAX_EVENTS.true)))

pub returns-in-Ok : goal.returns-in-Ok
returns-in-Ok c =
    let d : Drilling = record { world = c.self.inside.world; drained = c.self.inside.drained } in
    rw (← c.self.view_is) (is_after c.args.event.now d c.step.new.self (omega (arith, c.counts.ensures.events, c.if-counts-ge-MAX_EVENTS.false))
    (ap (world_by c.self.inside.world) c.in-Ok.ensures.step.taken))

pub returns-in-Err-Setup : goal.returns-in-Err-Setup
returns-in-Err-Setup c =
    let d : Drilling = record { world = c.self.inside.world; drained = c.self.inside.drained } in
    let reported = rw c.in-Err-Setup.field-0-is at c.in-Err-Setup.ensures.step in
    rw (← c.self.view_is) (is_after c.args.event.now d c.step.new.self (omega (arith, c.counts.ensures.events, c.if-counts-ge-MAX_EVENTS.false))
    (ap (world_by c.self.inside.world) reported.0 ∙ sym reported.1))

pub returns-in-Err-Node : goal.returns-in-Err-Node
returns-in-Err-Node c =
    let d : Drilling = record { world = c.self.inside.world; drained = c.self.inside.drained } in
    let reported = rw c.in-Err-Node.field-0-is at c.in-Err-Node.ensures.step in
    rw (← c.self.view_is) (is_after c.args.event.now d c.step.new.self (omega (arith, c.counts.ensures.events, c.if-counts-ge-MAX_EVENTS.false))
    (ap (world_by c.self.inside.world) reported.0 ∙ sym reported.1))

pub returns-in-Err-Flight : goal.returns-in-Err-Flight
returns-in-Err-Flight c =
    let d : Drilling = record { world = c.self.inside.world; drained = c.self.inside.drained } in
    let reported = rw c.in-Err-Flight.field-0-is at c.in-Err-Flight.ensures.step in
    rw (← c.self.view_is) (is_after c.args.event.now d c.step.new.self (omega (arith, c.counts.ensures.events, c.if-counts-ge-MAX_EVENTS.false))
    (ap (world_by c.self.inside.world) reported.0 ∙ sym reported.1))
