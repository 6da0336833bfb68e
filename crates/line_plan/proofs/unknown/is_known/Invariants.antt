use Rattle.std.proofs.Common.{◌≡◌, drop}
use Rattle.line_plan.specs.Unknowns.{is_known}
use Rattle.line_plan.proofs.unknown.is_known.Given as goal

-- none of those before is the key
abbrev pub invariant-loop-one : goal.invariant-loop-one
invariant-loop-one l = is_known (drop l.one-index l.known) l.key ≡ is_known l.known l.key
