use Rattle.std.proofs.Common.{◌≡◌, ◌≤◌, ◌+◌, ◌-◌, ◌++◌, length, string_bytes}
use Rattle.line_replay.specs.Texts.{flies_text}
use Rattle.line_replay.proofs.report.push_flies.Given as goal

abbrev pub invariant-loop-number : goal.invariant-loop-number
invariant-loop-number l = record {
  text : string_bytes l.text ≡ string_bytes l.fn.text ++ flies_text l.world l.first (l.number - l.first);
  from : l.first ≤ l.number;
  until : l.number - l.first ≤ (length l.world.flights + 1) - l.first;
}
