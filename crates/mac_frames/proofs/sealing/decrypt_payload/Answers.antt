use Rattle.std.proofs.Common.{◌++◌, ◌-◌, length, sym, ◌∙◌, arith}
use Rattle.std.proofs.lemmas.List.{take-append-drop}
use Rattle.aes_modes.specs.Ccm.{ccm_text}
use Rattle.mac_frames.specs.SealedFrames.{payload_in}
use Rattle.mac_frames.proofs.SealedBodies.{opened, tag_fits}
use Rattle.mac_frames.proofs.sealing.decrypt_payload.Goals as goal

pub returns-clause-payload : goal.returns-clause-payload
unfolding payload_in
returns-clause-payload c = c.decrypt_text.ensures.text ∙ (λ i. ccm_text c.args.aes.now (c.nonce_of.ensures i) (c.split_at.ensures.front i))

pub returns-clause-only : goal.returns-clause-only
returns-clause-only c = λ payload sealed.
    let head = c.args.raw.now.head in
    let parts = sym (take-append-drop (length c.args.raw.now.body.now - 4) c.args.raw.now.body.now)
    ∙ (λ i. sym c.split_at.ensures.front i ++ sym c.split_at.ensures.back i) in
    c.decrypt_text.ensures.text ∙ (λ i. ccm_text c.args.aes.now (c.nonce_of.ensures i) c.split_at.result.0.now)
    ∙ sym (opened head c.args.aes.now c.args.raw.now.header.now c.args.raw.now.body.now c.split_at.result.0.now c.split_at.result.1.now payload
    c.requires.frame parts (omega (arith, tag_fits head c.args.raw.now.body.now c.requires.sealed c.requires.frame.rest)) sealed).0
