-- A flight is lost.
use Rattle.std.proofs.Common.{◌≡◌, ℕ, ◌+◌, ◌-◌, Ok, Err, true, false, slice_set, length, refl, sym, ap, subst, ◌∙◌, arith}
use Rattle.std.proofs.lemmas.List.{length-set}
use Rattle.line_flights.specs.Flown.{Flown, flight_in, not_lost}
use Rattle.line_events.specs.declared.event.Answer.TheVariants as answers
use Rattle.line_events.specs.declared.event.StepFault.TheVariants as faults
use Rattle.line_rules.specs.Worlds.{World, Flight, Trace}
use Rattle.line_rules.specs.Steps.{happenings, lose, running_world, trace_of}
use Rattle.line_world.specs.Bounds.{IsBounded}
use Rattle.line_world.specs.Lines.{world_of}
use Rattle.line_world.specs.Steps.{Steps}
use Rattle.line_world.proofs.EventSteps.{steps_as, unbegun, begun, is_taken_so, bounded_by, refused}
use Rattle.line_world.proofs.Arrivals.{flying, lost_now, not_flying, not_lost_now}
use Rattle.line_world.proofs.line.Line.lose.Goals as goal

abbrev without : Flown → ℕ → Flight → Flown
without old number f = record old { flights = slice_set old.flights (number - 1) (record f { lost = true }) }

pub returns-then-not-has_begun : goal.returns-then-not-has_begun
unfolding lose
returns-then-not-has_begun c = refused faults.Setup refl _ _ _ c.requires.bounds (unbegun (world_of c.args.self.now) _ c.if-not-has_begun.ensures)

pub returns-then-not-lose : goal.returns-then-not-lose
unfolding lose
returns-then-not-lose c =
    let w = world_of c.args.self.now in
    let old : Flown = c.args.self.now.flights in
    let none = not_lost_now (not_lost (flight_in old.flights c.args.flight)) old c.lose.new.self (without old c.args.flight) c.if-not-lose.ensures in
    subst (λ (n : Flown). Steps false w (Err faults.Flight) (record w { flights = n.flights }) (lose w c.args.flight)) (sym none.1)
    (refused faults.Flight refl false w _ c.requires.bounds (begun w _ c.if-not-has_begun.ensures ∙ not_flying w c.args.flight _ none.0))

pub returns : goal.returns
unfolding lose
returns c =
    let w = world_of c.args.self.now in
    let old : Flown = c.args.self.now.flights in
    let lost = lost_now (not_lost (flight_in old.flights c.args.flight)) old c.lose.new.self (without old c.args.flight) c.if-not-lose.ensures in
    let trace : Trace = trace_of (happenings w answers.Lost) in
    let flights = (without old c.args.flight lost.flight).flights in
    let left : World = record (running_world w) { flights = flights } in
    let many : length flights ≡ length w.flights = length-set w.flights (c.args.flight - 1) (record lost.flight { lost = true }) in
    let new : world_of c.answered.new.self ≡ left = ap world_of c.answered.ensures.line ∙ (λ i. record (running_world w) { flights = (lost.left i).flights }) in
    steps_as _ _ (begun w _ c.if-not-has_begun.ensures ∙ flying w c.args.flight _ lost.flight lost.flew)
    (is_taken_so false w _ (Ok (left, trace)) trace _ (λ i. Ok (sym new i, trace))
    (c.answered.ensures.reported ∙ (λ i. record (happenings w answers.Lost) { first_flight = length (lost.left i).flights + 1 })
    ∙ (λ i. record (happenings w answers.Lost) { first_flight = many i + 1 }))
    (subst IsBounded (sym new) (bounded_by w w.clock w.nodes flights c.requires.bounds c.requires.events (omega arith) refl many)))
