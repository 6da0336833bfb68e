use Rattle.std.proofs.Common.{◌≡◌, map, take}
use Rattle.frame_counters.specs.PeerMarks.{PeerMark}
use Rattle.node_rules.specs.ShownNodes.{ordered_by, shown_peer}
use Rattle.plc_station.proofs.showing.show_sorted_peers.Given as goal

abbrev pub invariant-loop-from : goal.invariant-loop-from
invariant-loop-from l = l.out ≡ map shown_peer (take l.from-index (ordered_by (λ (p : PeerMark). p.address) l.marks))
