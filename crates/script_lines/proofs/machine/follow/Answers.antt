use Rattle.std.proofs.Common.{None, Some, sym, subst, arith}
use Rattle.std.proofs.lemmas.Bool.{both_ways}
use Rattle.script_lines.specs.Clauses.{Drives}
use Rattle.script_lines.proofs.Follow.{so_far_none, next_at, so_far_more, advanced, ends_at_line, ends_fine, ends_short, ends_unread}
use Rattle.script_lines.proofs.machine.follow.Goals as goal

pub loop-machine-init : goal.loop-machine-init
loop-machine-init g c = record {
  so_far = so_far_none _ _ _ _ _ _ _ _ _ c.requires.seen c.requires.count c.requires.window;
  over = λ ended. absurd (both_ways _ c.requires.going ended);
  within = omega arith;
}

pub returns-in-Err-clause-drives : goal.returns-in-Err-clause-drives
returns-in-Err-clause-drives g c =
    let read = c.in-Err.ensures.faults in
    ends_unread _ _ _ g.met.M.LineMachine.stops c.loop-machine.invariant.so_far c.in-Err.ensures.next read.faults read.failed

pub returns-in-Ok-clause-drives : goal.returns-in-Ok-clause-drives
returns-in-Ok-clause-drives g c =
    ends_fine
    _
    _
    _
    g.met.M.LineMachine.stops
    c.loop-machine.invariant.so_far
    (next_at c.in-Ok-None.ensures.next None c.in-Ok-None.field-0-is)
    (λ ended. (c.in-Ok-None.ensures.over c.loop-machine.invariant.over ended).0)
    c.in-Ok-None.ensures.faults.faults
    c.in-Ok.ensures

pub returns-in-Err-finish-clause-drives : goal.returns-in-Err-finish-clause-drives
returns-in-Err-finish-clause-drives g c =
    subst (Drives _ _ _ _ _ _) (sym c.from.ensures) (ends_short
    _
    _
    _
    g.met.M.LineMachine.stops
    c.loop-machine.invariant.so_far
    (next_at c.in-Ok-None.ensures.next None c.in-Ok-None.field-0-is)
    (λ ended. (c.in-Ok-None.ensures.over c.loop-machine.invariant.over ended).0)
    c.in-Ok-None.ensures.faults.faults
    c.in-Err-finish.reason
    c.in-Err-finish.ensures)

pub loop-machine-smaller : goal.loop-machine-smaller
loop-machine-smaller g c =
    let more = advanced _ _ _ g.met.M.LineMachine.stops c.loop-machine.invariant.so_far
    (next_at c.in-Ok-Some.ensures.next (Some c.in-Ok-Some.kind) c.in-Ok-Some.field-0-is) c.in-Ok-take_line.ensures in omega (arith, more.0, more.1)

pub loop-machine-preserved : goal.loop-machine-preserved
loop-machine-preserved g c =
    let n = next_at c.in-Ok-Some.ensures.next (Some c.in-Ok-Some.kind) c.in-Ok-Some.field-0-is in record {
      so_far = so_far_more _ _ _ g.met.M.LineMachine.stops c.loop-machine.invariant.so_far n c.in-Ok-Some.ensures.faults.faults c.in-Ok-take_line.ensures;
      over = c.in-Ok-Some.ensures.over c.loop-machine.invariant.over;
      within = (advanced _ _ _ g.met.M.LineMachine.stops c.loop-machine.invariant.so_far n c.in-Ok-take_line.ensures).1;
    }

pub returns-in-Err-take_line-clause-drives : goal.returns-in-Err-take_line-clause-drives
returns-in-Err-take_line-clause-drives g c =
    subst (Drives _ _ _ _ _ _) (sym c.from-in-Err-take_line.ensures) (ends_at_line
    _
    _
    _
    g.met.M.LineMachine.stops
    c.loop-machine.invariant.so_far
    (next_at c.in-Ok-Some.ensures.next (Some c.in-Ok-Some.kind) c.in-Ok-Some.field-0-is)
    (λ ended. (c.in-Ok-Some.ensures.over c.loop-machine.invariant.over ended).0)
    c.in-Err-take_line.reason
    c.next_line.new.self.bounded
    c.in-Ok-Some.ensures.faults.faults
    c.in-Err-take_line.ensures)
