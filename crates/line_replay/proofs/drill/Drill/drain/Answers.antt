use Rattle.std.proofs.Common.{◌+◌, ◌-◌, ◌∙◌, sym, ap, arith}
use Rattle.line_events.specs.declared.event.TheConstants.{MAX_EVENTS}
use Rattle.line_replay.specs.Drills.{Drilling, bring_round, drain}
use Rattle.line_replay.proofs.DrillLoops.{all_drained, none_next, one_more, no_turns}
use Rattle.line_replay.proofs.drill.Drill.drain.Goals as goal

pub returns-then-self-counts : goal.returns-then-self-counts
unfolding drain
returns-then-self-counts c =
    let d : Drilling = record { world = c.self.inside.world; drained = c.self.inside.drained } in
    let so = rw (← c.self.view_is) at c.loop-turn.invariant in
    rw (← c.self.view_is) (sym (all_drained (MAX_EVENTS - c.loop-turn.turn) c.args.meters d (omega (arith, c.counts.ensures.flights, c.if-self-counts.true)))
    ∙ so)

pub returns-in_default : goal.returns-in_default
unfolding drain
returns-in_default c =
    let d : Drilling = record { world = c.self.inside.world; drained = c.self.inside.drained } in
    let so = rw (← c.self.view_is) at c.loop-turn.invariant in
    rw (← c.self.view_is) (sym (none_next (MAX_EVENTS - c.loop-turn.turn) c.args.meters d c.in_default.ensures) ∙ so)

pub loop-turn-preserved : goal.loop-turn-preserved
loop-turn-preserved c =
    let d : Drilling = record { world = c.self.inside.world; drained = c.self.inside.drained } in
    let new : Drilling = record { world = c.self-in-loop-turn.inside.world; drained = c.self.inside.drained + 1 } in
    let so = rw (← c.self.view_is) at c.loop-turn.invariant in
    let brought = rw (← c.self.view_is) at c.in_ok-bring_round.ensures in
    let here = rw (← c.self-in-loop-turn.view_is) at brought in
    sym (one_more MAX_EVENTS c.loop-turn.turn c.args.meters d new c.in-Some.from c.loop-turn-test.true c.in-Some.ensures
    (ap (λ (x : Drilling). record x { drained = c.self.inside.drained + 1 }) here)) ∙ so

pub returns : goal.returns
unfolding drain
returns c = sym (no_turns MAX_EVENTS c.loop-turn.turn c.args.meters c.loop-turn.self c.loop-turn-test.false) ∙ c.loop-turn.invariant
