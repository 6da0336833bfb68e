-- Neighbours are checked from now on.
use Rattle.std.proofs.Common.{◌≡◌, ◌∙◌, Bool, Ok, Err, false, true, ap, sym, refl, subst}
use Rattle.std.specs.Prelude.{if◌then◌else◌}
use Rattle.line_events.specs.declared.event.StepFault.TheVariants as faults
use Rattle.line_events.specs.declared.event.Answer.TheVariants as answers
use Rattle.line_rules.specs.Further.{checks}
use Rattle.line_rules.specs.Steps.{happenings, set_up, trace_of}
use Rattle.line_rules.specs.Worlds.{World}
use Rattle.line_world.specs.Bounds.{IsBounded}
use Rattle.line_world.specs.Lines.{world_of}
use Rattle.line_world.specs.declared.line.Line.{Line}
use Rattle.line_world.proofs.SetupSteps.{in_setup_is, bounded_setup}
use Rattle.line_world.proofs.EventSteps.{refused, is_taken_so}
use Rattle.line_world.proofs.line.Line.checks.Goals as goal

pub returns-then-not-takes_setup : goal.returns-then-not-takes_setup
unfolding checks
returns-then-not-takes_setup c =
    let w = world_of c.args.self.now in
    refused faults.Setup refl _ _ _ c.requires.bounds
    (ap (λ (b : Bool). if b then (if w.checks_on then Err faults.Setup else Ok (record (set_up w) { checks_on = true }, trace_of (happenings w answers.Set)))
    else Err faults.Setup) (sym c.if-not-takes_setup.ensures))

pub returns-then-self : goal.returns-then-self
unfolding checks
returns-then-self c =
    let w = world_of c.args.self.now in
    refused faults.Setup refl _ _ _ c.requires.bounds
    (in_setup_is w _ c.if-not-takes_setup.ensures
    ∙ ap (λ (b : Bool). if b then Err faults.Setup else Ok (record (set_up w) { checks_on = true }, trace_of (happenings w answers.Set))) c.if-self.true)

pub returns : goal.returns
unfolding checks
returns c =
    let w = world_of c.args.self.now in
    let new : World = record (set_up w) { checks_on = true } in
    let is : world_of (record c.set_up.new.self { checks_on = true }) ≡ new = ap (λ (l : Line). world_of (record l { checks_on = true })) c.set_up.ensures in
    let b = bounded_setup w w.nodes c.requires.bounds c.requires.events c.requires.bounds.nodes c.requires.bounds.uncut in
    is_taken_so false w _ _ (trace_of (happenings w answers.Set)) _
    (in_setup_is w _ c.if-not-takes_setup.ensures
    ∙ ap (λ (b : Bool). if b then Err faults.Setup else Ok (record (set_up w) { checks_on = true }, trace_of (happenings w answers.Set))) c.if-self.false
    ∙ ap (λ (v : World). Ok (v, trace_of (happenings w answers.Set))) (sym is))
    (c.happenings.ensures ∙ ap (λ (l : Line). happenings (world_of (record l { checks_on = true })) answers.Set) c.set_up.ensures)
    (subst IsBounded (sym is) (record {
      events = b.events;
      clock = b.clock;
      nodes = b.nodes;
      flights = b.flights;
      made = b.made;
      sends = b.sends;
      ups = b.ups;
      forged = b.forged;
      done = b.done;
      uncut = b.uncut;
    }))
