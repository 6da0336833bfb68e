use Rattle.aes_modes.proofs.Texts.{ccm_text-differs}
use Rattle.aes_modes.proofs.laws.ccm_texts_differ.Goals as goal

pub returns : goal.returns
returns c = ccm_text-differs
