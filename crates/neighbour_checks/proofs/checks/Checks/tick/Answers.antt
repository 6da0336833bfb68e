use Rattle.std.proofs.Common.{rules}
use Rattle.neighbour_checks.specs.History.{Tick}
use Rattle.neighbour_checks.proofs.Histories.{leads_on, tick_fits, tick_room}
use Rattle.neighbour_checks.proofs.checks.Checks.tick.Goals as goal

pub list-requires : goal.list-requires
list-requires c = rw (c.expire.ensures, c.as_slice.ensures) (tick_room _ _ _ c.self.invariant)

pub invariant_of-self : goal.invariant_of-self
invariant_of-self c = rw (c.expire-2.ensures, c.list.ensures, c.expire.ensures, c.as_slice.ensures) (tick_fits _ _ _ c.self.invariant)

pub returns-clause-history : goal.returns-clause-history
returns-clause-history c = leads_on _ _ (Tick c.args.now) (search rules)
