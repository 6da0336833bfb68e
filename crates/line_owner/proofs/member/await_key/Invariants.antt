use Rattle.std.proofs.Common.{◌≡◌, ◌++◌, take, drop, map}
use Rattle.line_owner.specs.Members.{waits_for_key}
use Rattle.line_owner.proofs.member.await_key.Given as goal

abbrev pub invariant-loop-member : goal.invariant-loop-member
invariant-loop-member l = l.members ≡ map waits_for_key (take l.member-index l.initial.members) ++ drop l.member-index l.initial.members
