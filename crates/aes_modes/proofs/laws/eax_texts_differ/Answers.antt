use Rattle.aes_modes.proofs.Texts.{eax_text-differs}
use Rattle.aes_modes.proofs.laws.eax_texts_differ.Goals as goal

pub returns : goal.returns
returns c = eax_text-differs
