use Rattle.std.proofs.Common.{◌≡◌, drop}
use Rattle.line_script.specs.Words.{number_from}
use Rattle.line_script.proofs.word.number_of.Given as goal

-- the digits so far and those to come make the number
abbrev pub invariant-loop-digit : goal.invariant-loop-digit
invariant-loop-digit l = number_from l.value (drop l.digit-index l.digits) ≡ number_from 0 l.digits
