use Rattle.std.proofs.Common.{◌≡◌, drop}
use Rattle.run_pages.specs.NodeCounts.{events_added}
use Rattle.run_pages.proofs.node_counts.add_events.Given as goal

-- what the events to come add
abbrev pub invariant-loop-recorded : goal.invariant-loop-recorded
invariant-loop-recorded l =
    events_added (drop l.recorded-index l.events) l.counts.items ≡ events_added l.events l.fn.counts.items
