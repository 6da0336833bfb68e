use Rattle.std.proofs.Common.{◌≡◌, take, map}
use Rattle.line_owner.specs.Members.{new_member}
use Rattle.line_owner.proofs.member.Members.new.Given as goal

abbrev pub invariant-loop-depth : goal.invariant-loop-depth
invariant-loop-depth l = l.members.items ≡ map new_member (take l.depth-index l.depths)
