use Rattle.line_owner.proofs.Written.{written_is_read}
use Rattle.line_owner.proofs.messages.written_messages_are_read.Goals as goal

pub returns : goal.returns
returns c = written_is_read
