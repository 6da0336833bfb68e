use Rattle.aes_modes.proofs.Texts.{eax_text-twice}
use Rattle.aes_modes.proofs.laws.eax_texts_come_back.Goals as goal

pub returns : goal.returns
returns c = eax_text-twice
