use Rattle.std.proofs.Common.{◌≡◌, ◌++◌, drop}
use Rattle.line_record.specs.NodeItems.{still_kept}
use Rattle.line_record.proofs.keeping.still_kept.Given as goal

-- what is kept so far, and of those to come
abbrev pub invariant-loop-kept : goal.invariant-loop-kept
invariant-loop-kept l = l.list.items ++ still_kept l.number l.recorded (drop l.kept-index l.keeping) ≡ still_kept l.number l.recorded l.keeping
