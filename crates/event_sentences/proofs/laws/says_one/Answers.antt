use Rattle.event_sentences.proofs.TrueOnce.{says_one as proved}
use Rattle.event_sentences.proofs.laws.says_one.Goals as goal

pub returns : goal.returns
returns c = proved
