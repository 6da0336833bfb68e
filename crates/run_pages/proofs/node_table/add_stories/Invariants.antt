use Rattle.std.proofs.Common.{◌≡◌, drop}
use Rattle.run_pages.specs.NodeTables.{stories_added}
use Rattle.run_pages.proofs.node_table.add_stories.Given as goal

-- what the stories to come add
abbrev pub invariant-loop-i : goal.invariant-loop-i
invariant-loop-i l =
    stories_added l.account l.i (drop l.i l.stories) l.counts.items ≡ stories_added l.account 0 l.stories l.fn.counts.items
