use Rattle.aes_modes.proofs.Texts.{length-eax_tag, length-eax_text}
use Rattle.aes_modes.proofs.laws.eax_lengths.Goals as goal

pub returns : goal.returns
returns c = λ key nonce header m. (length-eax_text key nonce m, length-eax_tag key nonce header m)
