use Rattle.loadng_messages.proofs.Readings.{message_spelled}
use Rattle.loadng_messages.proofs.laws.read_messages_are_spelled.Goals as goal

pub returns : goal.returns
returns c = message_spelled
