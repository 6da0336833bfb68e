use Rattle.loadng_messages.proofs.Readings.{message_read}
use Rattle.loadng_messages.proofs.laws.messages_are_read.Goals as goal

pub returns : goal.returns
returns c = message_read
