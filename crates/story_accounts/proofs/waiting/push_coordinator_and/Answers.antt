use Rattle.std.proofs.Common.{codes, string_bytes}
use Rattle.story_accounts.specs.Waits.{coordinator_and, other_meters}
use Rattle.story_accounts.proofs.MadeTexts.{follows}
use Rattle.story_accounts.proofs.waiting.push_coordinator_and.Goals as goal

pub returns : goal.returns
unfolding coordinator_and
returns c =
    follows c.push_other_meters.result (string_bytes c.args.text.now) (string_bytes c.push_str.new.self)
    (string_bytes c.push_other_meters.new.text) (codes "the coordinator") (other_meters c.args.meters.now)
    c.in_ok-push_str.ensures.bytes c.push_other_meters.ensures
