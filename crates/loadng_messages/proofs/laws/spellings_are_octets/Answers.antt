use Rattle.loadng_messages.proofs.MessageOctets.{message_octets}
use Rattle.loadng_messages.proofs.laws.spellings_are_octets.Goals as goal

pub returns : goal.returns
returns c = message_octets
