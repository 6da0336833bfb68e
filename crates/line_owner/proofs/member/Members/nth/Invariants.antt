use Rattle.std.proofs.Common.{◌≡◌, drop}
use Rattle.line_owner.specs.Members.{nth_of}
use Rattle.line_owner.proofs.member.Members.nth.Given as goal

-- the one that is looked for is among the nodes to come
abbrev pub invariant-loop-member : goal.invariant-loop-member
invariant-loop-member l = nth_of l.choice l.left l.node (drop l.member-index l.member-items) ≡ nth_of l.choice l.before 0 l.member-items
