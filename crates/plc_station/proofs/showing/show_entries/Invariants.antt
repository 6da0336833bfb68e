use Rattle.std.proofs.Common.{◌≡◌, map, take}
use Rattle.node_rules.specs.ShownNodes.{shown_route}
use Rattle.plc_station.proofs.showing.show_entries.Given as goal

abbrev pub invariant-loop-entry : goal.invariant-loop-entry
invariant-loop-entry l = l.out ≡ map shown_route (take l.entry-index l.entries)
