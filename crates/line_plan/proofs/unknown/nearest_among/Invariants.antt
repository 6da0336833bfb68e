use Rattle.std.proofs.Common.{◌≡◌, drop}
use Rattle.line_plan.specs.Unknowns.{nearest_among}
use Rattle.line_plan.proofs.unknown.nearest_among.Given as goal

-- the nearest key so far and those of the tables to come give the nearest of all
abbrev pub invariant-loop-known : goal.invariant-loop-known
invariant-loop-known l = nearest_among l.word l.nearest (drop l.known-index l.tables) ≡ nearest_among l.word l.fn.before l.tables
