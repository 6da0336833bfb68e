use Rattle.std.proofs.Common.{◌≡◌, drop}
use Rattle.run_pages.specs.NodeCounts.{addresses_added}
use Rattle.run_pages.proofs.node_counts.add_addresses.Given as goal

-- what the addresses to come add
abbrev pub invariant-loop-i : goal.invariant-loop-i
invariant-loop-i l =
    addresses_added l.i (drop l.i l.homes) l.counts.items ≡ addresses_added 0 l.homes l.fn.counts.items
