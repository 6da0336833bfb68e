use Rattle.std.proofs.Common.{◌≡◌, length}
use Rattle.std.specs.Io.KnownBytes.{Consumes}
use Rattle.plc_base.specs.Streams.{SourceFaults}
use Rattle.host_calls.proofs.items.fill.Given as goal

-- what was read so far, and what the reads left of the faults
abbrev pub invariant-loop-turn : goal.invariant-loop-turn
invariant-loop-turn g l = record {
  read : Consumes (g.S.Source.state l.fn.source).left (g.S.Source.state l.source).left l.octets;
  long : length l.octets ≡ l.turn;
  faults : SourceFaults (g.S.Source.state l.fn.source) (g.S.Source.state l.source);
}
