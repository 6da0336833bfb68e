use Rattle.std.proofs.Common.{◌≡◌, ◌<◌, drop}
use Rattle.plan_tables.specs.Values.{number_from}
use Rattle.plan_tables.proofs.values.number_from.Given as goal

-- the digits so far and those to come make the number
abbrev pub invariant-loop-digit : goal.invariant-loop-digit
invariant-loop-digit l = (number_from l.value (drop l.digit-index l.digits) ≡ number_from 0 l.digits) × (l.value < 1000000000)
