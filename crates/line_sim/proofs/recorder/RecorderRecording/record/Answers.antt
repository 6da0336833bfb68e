use Rattle.std.proofs.Common.{nat_lt, ◌∙◌, refl, sym, ap, arith}
use Rattle.std.proofs.lemmas.Result.{err_from_is_err_and}
use Rattle.line_events.specs.declared.happenings.Happenings.{Happenings}
use Rattle.line_simulation.specs.Facts.{facts_of}
use Rattle.line_simulation.specs.Recorders.{Taken}
use Rattle.line_simulation.specs.declared.facts.Facts.{Facts}
use Rattle.line_sim.specs.Recorders.{ordered_of}
use Rattle.line_sim.proofs.Recordings.{recorder_of, full_is, untaken_is, not_next, no_room, taken_is, not_taken, cut_back, world_stays}
use Rattle.line_sim.proofs.Scripts.{event_more, script_grows}
use Rattle.line_sim.proofs.recorder.RecorderRecording.record.Goals as goal

pub returns-then-counts-ge-MAX_EVENTS : goal.returns-then-counts-ge-MAX_EVENTS
returns-then-counts-ge-MAX_EVENTS g c =
    rw (← c.self.view_is)
    (full_is (nat_lt 0 g.row.INJECTS) c.args.event.now
    (recorder_of c.self.inside.script.items c.self.inside.world (ordered_of c.self.inside.order)) (omega arith))

pub returns-then-not-may_take : goal.returns-then-not-may_take
returns-then-not-may_take g c =
    rw (← c.self.view_is)
    (untaken_is (nat_lt 0 g.row.INJECTS) c.args.event.now
    (recorder_of c.self.inside.script.items c.self.inside.world (ordered_of c.self.inside.order)) (omega arith)
    (sym c.if-not-may_take.ensures.exact))

pub returns-in_err-take : goal.returns-in_err-take
returns-in_err-take g c =
    let p = err_from_is_err_and c.from_residual.result c.from_residual.ensures.1 in
    rw (p.1, p.2, ← c.self.view_is)
    (not_next (nat_lt 0 g.row.INJECTS) c.args.event.now c.self.inside.script.items c.self.inside.world (ordered_of c.self.inside.order)
    (ordered_of c.take.new.self) _ (record { room = omega arith; takes = sym c.if-not-may_take.ensures.exact }) c.in_err-take.ensures.exact)

pub returns-in_err-append_event : goal.returns-in_err-append_event
returns-in_err-append_event g c =
    let p = err_from_is_err_and c.from_residual-in_err-append_event.result c.from_residual-in_err-append_event.ensures.1 in
    rw (p.1, p.2, ← c.self.view_is)
    (no_room (nat_lt 0 g.row.INJECTS) c.args.event.now c.self.inside.script.items c.append_event.new.script.items c.self.inside.world
    (ordered_of c.self.inside.order) (ordered_of c.take.new.self) _
    (record { room = omega arith; takes = sym c.if-not-may_take.ensures.exact })
    c.in_ok-take.ensures.exact c.in_err-append_event.ensures.exact c.in_err-append_event.ensures.err)

pub returns-in-Ok : goal.returns-in-Ok
returns-in-Ok g c =
    rw (← c.self.view_is)
    (taken_is (nat_lt 0 g.row.INJECTS) c.args.event.now c.self.inside.script.items c.append_event.new.script.items c.self.inside.world c.step.new.self
    (ordered_of c.self.inside.order) (ordered_of c.take.new.self) c.in-Ok.ensures.step.trace
    (record { room = omega arith; takes = sym c.if-not-may_take.ensures.exact })
    c.in_ok-take.ensures.exact c.in_ok-append_event.ensures.exact c.in-Ok.ensures.step.taken
    ∙ ap (λ (h : Happenings). Taken (recorder_of c.append_event.new.script.items c.step.new.self (ordered_of c.take.new.self)) (facts_of h))
    (sym c.in-Ok.ensures.step.reported)
    ∙ ap (λ (f : Facts). Taken (recorder_of c.append_event.new.script.items c.step.new.self (ordered_of c.take.new.self)) f) (sym c.of.ensures))

pub returns-in-Err : goal.returns-in-Err
returns-in-Err g c =
    rw (
      ← c.self.view_is,
      c.fault_of.ensures,
      cut_back c.in_ok-append_event.ensures.ok (c.len-before.ensures ∙ c.self.inside.script.ok.0) c.truncate.ensures.items,
    )
    (not_taken (nat_lt 0 g.row.INJECTS) c.args.event.now c.self.inside.script.items c.append_event.new.script.items c.self.inside.world c.step.new.self
    (ordered_of c.self.inside.order) (ordered_of c.take.new.self) c.in-Err.fault
    (record { room = omega arith; takes = sym c.if-not-may_take.ensures.exact })
    c.in_ok-take.ensures.exact c.in_ok-append_event.ensures.exact c.in-Err.ensures.step)

pub invariant_of-self-in-Ok : goal.invariant_of-self-in-Ok
invariant_of-self-in-Ok g c =
    event_more c.args.event.now c.in-Ok.ensures.step.trace c.lines_are_read_back.ensures c.self.invariant c.in_ok-append_event.ensures.ok
    (c.if-not-may_take.ensures.event refl) (c.if-not-may_take.ensures.quiet refl) (omega arith) c.in-Ok.ensures.step.taken
    c.in_ok-take.ensures.grows c.in_ok-take.ensures.follows

pub invariant_of-self-in-Err : goal.invariant_of-self-in-Err
invariant_of-self-in-Err g c =
    rw (world_stays c.self.inside.world c.step.new.self c.in-Err.fault _ c.in-Err.ensures.step)
    (script_grows c.in_ok-take.ensures.grows
    (cut_back c.in_ok-append_event.ensures.ok (c.len-before.ensures ∙ c.self.inside.script.ok.0) c.truncate.ensures.items) c.self.invariant)
