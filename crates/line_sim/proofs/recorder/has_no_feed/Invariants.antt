use Rattle.std.proofs.Common.{◌≡◌, drop}
use Rattle.script_lines.specs.Lines.{NoFeed}
use Rattle.line_sim.specs.WorldRecorder.{has_feed}
use Rattle.line_sim.proofs.recorder.has_no_feed.Given as goal

-- no line feed before
abbrev pub invariant-loop-octet : goal.invariant-loop-octet
invariant-loop-octet l = (NoFeed (drop l.octet-index l.octets) → NoFeed l.octets) × (has_feed l.octets ≡ has_feed (drop l.octet-index l.octets))
