use Rattle.std.proofs.Common.{◌≡◌, drop}
use Rattle.line_plan.specs.Unknowns.{nearest_in}
use Rattle.line_plan.proofs.unknown.nearest_in.Given as goal

-- the nearest key so far and those to come give the nearest of all
abbrev pub invariant-loop-key : goal.invariant-loop-key
invariant-loop-key l = nearest_in l.word l.known l.nearest (drop l.key-index l.keys) ≡ nearest_in l.word l.known l.fn.before l.keys
