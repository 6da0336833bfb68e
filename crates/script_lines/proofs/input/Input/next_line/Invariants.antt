use Rattle.std.proofs.Common.{◌≡◌, ◌+◌, ◌-◌, ◌≤◌, length, take, if◌then◌else◌}
use Rattle.plc_base.specs.Streams.{SourceFaults}
use Rattle.script_lines.specs.Lines.{NoFeed}
use Rattle.script_lines.specs.Next.{StaysOver}
use Rattle.script_lines.proofs.TakenOctets.{Taking}
use Rattle.script_lines.proofs.input.Input.next_line.Given as goal

abbrev pub invariant-loop-at : goal.invariant-loop-at
invariant-loop-at g l = record {
  taking : Taking (g.S.Source.state l.fn.source) (g.S.Source.state l.source) l.fn.self.seen l.fn.self.count l.fn.self.window.ahead l.fn.self.ended l.self.seen
      l.self.window.ahead l.self.ended l.long;
  begin : l.begin ≡ l.fn.self.seen;
  count : l.self.count ≡ l.fn.self.count;
  later : l.begin ≤ l.self.seen;
  inside : l.clear ≤ length l.self.window.ahead;
  within : l.self.seen + l.clear ≤ 67108864;
  none : NoFeed (take l.clear l.self.window.ahead);
  over : StaysOver l.fn.self.ended l.self.ended (g.S.Source.state l.fn.source) (g.S.Source.state l.source);
  faults : SourceFaults (g.S.Source.state l.fn.source) (g.S.Source.state l.source);
}

abbrev pub decreases-loop-at : goal.decreases-loop-at
decreases-loop-at g l = (67117057 - (l.self.seen + length l.self.window.ahead)) + (if l.self.ended then 0 else 1)
