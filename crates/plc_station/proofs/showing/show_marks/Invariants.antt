use Rattle.std.proofs.Common.{◌≡◌, map, take}
use Rattle.node_rules.specs.ShownNodes.{shown_peer}
use Rattle.plc_station.proofs.showing.show_marks.Given as goal

abbrev pub invariant-loop-peer : goal.invariant-loop-peer
invariant-loop-peer l = l.out ≡ map shown_peer (take l.peer-index l.marks)
