use Rattle.line_owner.proofs.MessageSenders.{only_members_send}
use Rattle.line_owner.proofs.laws.only_members_send.Goals as goal

pub returns : goal.returns
returns c = only_members_send
