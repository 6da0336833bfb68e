-- The clock goes on.
use Rattle.std.proofs.Common.{◌≡◌, ℕ, ◌+◌, Ok, false, map, refl, sym, ap, subst, ◌∙◌, arith}
use Rattle.reach_rules.specs.ReachingNodes.{tick_beside}
use Rattle.line_events.specs.declared.event.StepFault.TheVariants as faults
use Rattle.line_events.specs.declared.event.Answer.TheVariants as answers
use Rattle.line_rules.specs.Worlds.{World, Trace}
use Rattle.line_rules.specs.Further.{after_ok, ticks}
use Rattle.line_rules.specs.Steps.{happenings, running_world, tick, ticked, trace_of}
use Rattle.line_world.specs.Bounds.{IsBounded}
use Rattle.line_world.specs.Lines.{world_of}
use Rattle.line_world.proofs.SetupSteps.{bounded_beside}
use Rattle.line_world.proofs.EventSteps.{steps_as, unbegun, begun, is_taken_so, bounded_by, many_given, refused}
use Rattle.line_world.proofs.line.Line.tick.Goals as goal

pub returns-then-not-has_begun : goal.returns-then-not-has_begun
unfolding ticks tick
returns-then-not-has_begun c =
    let w = world_of c.args.self.now in
    refused faults.Setup refl _ _ _ c.requires.bounds
    (ap (after_ok (λ r. (record r.0 { beside = map (tick_beside (w.clock + c.args.seconds)) w.beside }, r.1))) (unbegun w _ c.if-not-has_begun.ensures))

pub overflow_add-self : goal.overflow_add-self
overflow_add-self c = omega (arith, c.requires.bounds.clock, c.requires.events, c.from.ensures, c.ranges.seconds)

pub returns : goal.returns
unfolding ticks tick
returns c =
    let w = world_of c.args.self.now in
    let trace : Trace = trace_of (happenings w answers.Ticked) in
    let clock : ℕ = w.clock + c.args.seconds in
    let nodes : c.tick.new.self ≡ map (ticked clock) w.nodes = c.tick.ensures ∙ ap (λ s. map (ticked (w.clock + s)) w.nodes) c.from.ensures in
    let set : World = record (running_world w) { clock = clock; nodes = map (ticked clock) w.nodes } in
    let left : World = record set { beside = map (tick_beside clock) w.beside } in
    let new : world_of c.answered.new.self ≡ left =
    ap world_of c.answered.ensures.line ∙ ap (λ (v : World). running_world v) c.tick_beside.ensures
    ∙ (λ i. record (running_world w)
    { clock = w.clock + c.from.ensures i; nodes = nodes i; beside = map (tick_beside (w.clock + c.from.ensures i)) w.beside }) in
    let reported = c.answered.ensures.reported ∙ ap (λ (v : World). happenings v answers.Ticked) c.tick_beside.ensures in
    steps_as _ _ (ap (after_ok (λ r. (record r.0 { beside = map (tick_beside clock) w.beside }, r.1))) (begun w _ c.if-not-has_begun.ensures))
    (is_taken_so false w _ (Ok (left, trace)) trace _ (λ i. Ok (sym new i, trace)) reported
    (subst IsBounded (sym new)
    (bounded_beside set (map (tick_beside clock) w.beside)
    (bounded_by w clock (map (ticked clock) w.nodes) w.flights c.requires.bounds c.requires.events (omega (arith, c.ranges.seconds))
    (many_given (ticked clock) w.nodes) refl))))
