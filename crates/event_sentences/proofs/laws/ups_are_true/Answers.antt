use Rattle.event_sentences.proofs.TrueOnce.{ups_are_true as proved}
use Rattle.event_sentences.proofs.laws.ups_are_true.Goals as goal

pub returns : goal.returns
returns c = proved
