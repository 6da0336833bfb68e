use Rattle.aes_modes.proofs.Texts.{length-ccm_tag, length-ccm_text}
use Rattle.aes_modes.proofs.laws.ccm_lengths.Goals as goal

pub returns : goal.returns
returns c = λ n key nonce header m h. (length-ccm_text key nonce m, length-ccm_tag n key nonce header m h)
