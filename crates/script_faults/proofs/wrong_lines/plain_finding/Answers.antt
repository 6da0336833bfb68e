use Rattle.std.proofs.Common.{arith}
use Rattle.script_faults.proofs.wrong_lines.plain_finding.Goals as goal

pub bad-requires : goal.bad-requires
bad-requires c = let place = c.in-Some.ensures.marks in omega (arith, place.some, place.within, c.requires.place)
