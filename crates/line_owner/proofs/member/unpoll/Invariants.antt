use Rattle.std.proofs.Common.{◌≡◌, ◌++◌, take, drop, map}
use Rattle.line_owner.specs.Members.{unpolled}
use Rattle.line_owner.proofs.member.unpoll.Given as goal

abbrev pub invariant-loop-member : goal.invariant-loop-member
invariant-loop-member l = l.members ≡ map unpolled (take l.member-index l.initial.members) ++ drop l.member-index l.initial.members
