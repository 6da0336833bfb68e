use Rattle.std.proofs.Common.{◌<◌, length, get_or, arith}
use Rattle.std.proofs.lemmas.List.{get_or_default}
use Rattle.std.proofs.lemmas.List.Edits.{map_over_more}
use Rattle.line_owner.specs.Members.{no_member, waits_for_key}
use Rattle.line_owner.proofs.member.await_key.Goals as goal

pub loop-member-preserved : goal.loop-member-preserved
loop-member-preserved c =
    let i = c.loop-member.member-index in
    let here : i < length c.loop-member.members = omega arith in
    let there : i < length c.args.members.now = omega arith in
    rw c.phase_before-member.ensures
    (map_over_more waits_for_key c.args.members.now c.loop-member.members i (get_or c.loop-member.members i no_member) there c.loop-member.invariant
    (get_or_default c.loop-member.members i no_member (get_or c.loop-member.members i no_member) here))
