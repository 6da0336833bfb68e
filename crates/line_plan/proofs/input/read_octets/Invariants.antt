use Rattle.std.proofs.Common.{◌≤◌, length}
use Rattle.std.specs.Io.KnownBytes.{Consumes}
use Rattle.line_plan.proofs.input.read_octets.Given as goal

-- what was read so far, at least one octet a turn, and that the count of faults did not fall
abbrev pub invariant-loop-turn : goal.invariant-loop-turn
invariant-loop-turn g l = record {
  gave : Consumes (g.S.Source.state l.fn.source).left (g.S.Source.state l.source).left l.octets.items;
  turns : l.turn ≤ length l.octets.items;
  later : (g.S.Source.state l.fn.source).faults ≤ (g.S.Source.state l.source).faults;
}
