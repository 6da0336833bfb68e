use Rattle.std.proofs.Common.{◌≡◌, ◌++◌, drop, string_bytes}
use Rattle.line_script.specs.NodeTexts.{peers_text}
use Rattle.line_script.proofs.node_report.push_peers.Given as goal

-- the lines so far and those to come
abbrev pub invariant-loop-peer : goal.invariant-loop-peer
invariant-loop-peer l = string_bytes l.text ++ peers_text (drop l.peer-index l.peers) ≡ string_bytes l.fn.text ++ peers_text l.peers
