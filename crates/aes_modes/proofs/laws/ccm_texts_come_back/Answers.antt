use Rattle.aes_modes.proofs.Texts.{ccm_text-twice}
use Rattle.aes_modes.proofs.laws.ccm_texts_come_back.Goals as goal

pub returns : goal.returns
returns c = ccm_text-twice
