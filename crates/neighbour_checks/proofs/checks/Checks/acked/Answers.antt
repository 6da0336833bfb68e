use Rattle.std.proofs.Common.{◌≤◌, length, rules, arith}
use Rattle.neighbour_checks.specs.History.{Acknowledgement}
use Rattle.neighbour_checks.proofs.Histories.{leads_on, length-kept, not_awaited}
use Rattle.neighbour_checks.proofs.checks.Checks.acked.Goals as goal

pub returns-then-not-awaits-clause-value : goal.returns-then-not-awaits-clause-value
returns-then-not-awaits-clause-value c = not_awaited _ _ _ _ (search rules)

pub returns-then-not-awaits-clause-history : goal.returns-then-not-awaits-clause-history
returns-then-not-awaits-clause-history c =
    leads_on _ _ (Acknowledgement c.args.neighbour c.args.number c.args.origin) (not_awaited _ _ _ _ (search rules))

pub invariant_of-self : goal.invariant_of-self
invariant_of-self c =
    let fewer : length c.end.new.self ≤ length c.self.inside.checks = rw c.end.ensures (length-kept _ c.self.inside.checks) in
    omega (arith, c.self.invariant, fewer)

pub returns-clause-history : goal.returns-clause-history
returns-clause-history c = leads_on _ _ (Acknowledgement c.args.neighbour c.args.number c.args.origin) (search rules)
