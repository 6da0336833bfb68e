use Rattle.std.proofs.Common.{ap, ◌∙◌}
use Rattle.aes_modes.specs.Eax.{eax_text}
use Rattle.aes_modes.proofs.Opened.{at_ok}
use Rattle.aes_modes.proofs.Texts.{eax_text-twice}
use Rattle.aes_modes.proofs.laws.eax_seal_and_open.Goals as goal

pub returns-clause-same : goal.returns-clause-same
returns-clause-same c =
    let key = c.args.aes.now in
    let nonce = c.args.nonce.now in
    at_ok c.eax_open.result (c.eax_open.ensures.tag.1 c.eax_seal.ensures.tag) c.eax_open.ensures.opened
    ∙ ap (eax_text key nonce) c.eax_seal.ensures.text ∙ eax_text-twice key nonce c.args.text.now
