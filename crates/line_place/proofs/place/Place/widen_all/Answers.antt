use Rattle.std.proofs.Common.{arith}
use Rattle.line_place.proofs.SearchRounds.{next_round, last_round, some_left, none_left}
use Rattle.line_place.proofs.place.Place.widen_all.Goals as goal

pub overflow_add-round : goal.overflow_add-round
overflow_add-round c =
    omega (arith, c.rounds.invariant.room, c.rounds.invariant.size, some_left _ c.rounds-test.ensures, c.rounds.hops.ok, c.rounds.hops.small)

pub rounds-preserved : goal.rounds-preserved
rounds-preserved c =
    next_round (omega (arith, some_left _ c.rounds-test.ensures, c.rounds.front.ok)) c.rounds.invariant
    (rw (c.as_slice.ensures.value, c.new-next.ensures.items) at c.in_ok-widen.ensures)

pub rounds-smaller : goal.rounds-smaller
rounds-smaller c =
    let wider = rw (c.as_slice.ensures.value, c.new-next.ensures.items) at c.in_ok-widen.ensures in
    omega (arith, wider.count, some_left _ c.rounds-test.ensures)

pub returns : goal.returns
returns c = last_round (omega (arith, none_left _ c.rounds-test.ensures, c.rounds.front.ok)) c.rounds.invariant
