use Rattle.std.proofs.Common.{◌≡◌, ◌++◌, drop}
use Rattle.line_record.specs.NodeItems.{others_kept}
use Rattle.line_record.proofs.keeping.others_kept.Given as goal

-- those so far, and of those to come
abbrev pub invariant-loop-kept : goal.invariant-loop-kept
invariant-loop-kept l =
    l.list.items ++ others_kept l.gathered l.story l.node (drop l.kept-index l.keeping) ≡ others_kept l.gathered l.story l.node l.keeping
