use Rattle.std.proofs.Common.{get_or}
use Rattle.std.proofs.lemmas.Option.{slice_get-get_or}
use Rattle.line_place.proofs.SearchRounds.{none_reached, front_begins, front_goes_on, front_ends}
use Rattle.line_place.proofs.place.Place.widen.Goals as goal

pub loop-a-init : goal.loop-a-init
loop-a-init c = none_reached _ _ _ _ (front_begins c.args.self.now c.args.front.now)

pub loop-a-preserved : goal.loop-a-preserved
loop-a-preserved c =
    front_goes_on c.args.self.now c.args.front.now c.loop-a.a-index (get_or c.args.front.now c.loop-a.a-index 0)
    (slice_get-get_or c.args.front.now c.loop-a.a-index 0 c.loop-a-test.true) c.loop-a.invariant
    (rw c.hearers.ensures at c.in_ok-reach_all.ensures)

pub returns : goal.returns
returns c = front_ends c.args.self.now c.args.front.now c.loop-a.a-index c.loop-a-test.false c.loop-a.invariant
