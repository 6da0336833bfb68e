use Rattle.std.proofs.Common.{ap, ◌∙◌}
use Rattle.aes_modes.specs.Ccm.{ccm_text}
use Rattle.aes_modes.proofs.Texts.{ccm_text-twice}
use Rattle.aes_modes.proofs.ccm.ccm_open.Goals as goal

pub returns-then-not-is_tag-clause-unchanged : goal.returns-then-not-is_tag-clause-unchanged
returns-then-not-is_tag-clause-unchanged c =
    let key = c.args.aes.now in
    let nonce = c.args.nonce.now in
    c.ccm_mask.ensures ∙ ap (ccm_text key nonce) c.opened_tag-whole.ensures.text ∙ ccm_text-twice key nonce c.args.text.now
