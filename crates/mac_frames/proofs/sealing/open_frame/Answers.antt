use Rattle.std.proofs.Common.{◌≡◌, ◌++◌, ◌-◌, length, sym, ◌∙◌, arith}
use Rattle.std.proofs.lemmas.List.{take-append-drop}
use Rattle.std.proofs.lemmas.Result.{on_ok_weaker}
use Rattle.aes_modes.specs.Ccm.{ccm_tag, ccm_text}
use Rattle.mac_frames.specs.SealedFrames.{HasTag, nonce_of, payload_in}
use Rattle.mac_frames.proofs.SealedBodies.{opens_exactly, opens_only, opens_so, tag_fits}
use Rattle.mac_frames.proofs.sealing.open_frame.Goals as goal
use Rattle.mac_frames.proofs.sealing.open_frame.Goals.{After-open_text}

-- the body is the encrypted payload and the tag
parts : (c : After-open_text) → c.args.raw.now.body.now ≡ c.split_at.result.0.now ++ c.split_at.result.1.now
parts c =
    sym (take-append-drop (length c.args.raw.now.body.now - 4) c.args.raw.now.body.now)
    ∙ (λ i. sym c.split_at.ensures.front i ++ sym c.split_at.ensures.back i)

pub returns-clause-opened : goal.returns-clause-opened
returns-clause-opened c =
    opens_so c.open_text.result c.args.raw.now.head c.args.aes.now c.nonce_of.result c.args.raw.now.header.now
    c.args.raw.now.body.now c.split_at.result.0.now c.split_at.result.1.now c.open_text.new.out c.requires.sealed
    c.requires.frame (parts c) c.nonce_of.ensures c.open_text.ensures.tag.0 c.open_text.ensures.opened

pub returns-clause-only : goal.returns-clause-only
returns-clause-only c = λ payload sealed.
    opens_only c.open_text.result c.args.raw.now.head c.args.aes.now c.nonce_of.result c.args.raw.now.header.now
    c.args.raw.now.body.now c.split_at.result.0.now c.split_at.result.1.now c.open_text.new.out payload
    c.requires.frame (parts c)
    (omega (arith, tag_fits c.args.raw.now.head c.args.raw.now.body.now c.requires.sealed c.requires.frame.rest)) c.nonce_of.ensures c.open_text.ensures.tag.1
    c.open_text.ensures.opened sealed

-- the tag that opening wants, of the body's parts
wanted : (c : After-open_text)
    → ccm_tag 4 c.args.aes.now c.nonce_of.result c.args.raw.now.header.now (ccm_text c.args.aes.now c.nonce_of.result c.split_at.result.0.now)
    ≡ ccm_tag 4 c.args.aes.now (nonce_of c.args.raw.now.head) c.args.raw.now.header.now (payload_in c.args.aes.now c.args.raw.now.head c.args.raw.now.body.now)
unfolding payload_in
wanted c = λ i.
    ccm_tag 4 c.args.aes.now (c.nonce_of.ensures i) c.args.raw.now.header.now
    (ccm_text c.args.aes.now (c.nonce_of.ensures i) (c.split_at.ensures.front i))

pub returns-clause-exact : goal.returns-clause-exact
unfolding payload_in HasTag
returns-clause-exact c =
    opens_exactly c.open_text.result c.args.aes.now c.args.raw.now.head c.args.raw.now.header.now c.args.raw.now.body.now c.open_text.new.out
    (λ ok. sym c.split_at.ensures.back ∙ c.open_text.ensures.tag.0 ok ∙ wanted c)
    (λ right. c.open_text.ensures.tag.1 (c.split_at.ensures.back ∙ right ∙ sym (wanted c)))
    (on_ok_weaker c.open_text.result
    (λ is. is ∙ (λ i. ccm_text c.args.aes.now (c.nonce_of.ensures i) (c.split_at.ensures.front i))) c.open_text.ensures.opened)

pub returns-clause-tag : goal.returns-clause-tag
unfolding HasTag
returns-clause-tag c = (
  λ ok. sym c.split_at.ensures.back ∙ c.open_text.ensures.tag.0 ok ∙ wanted c,
  λ right. c.open_text.ensures.tag.1 (c.split_at.ensures.back ∙ right ∙ sym (wanted c)),
)

pub returns-clause-payload : goal.returns-clause-payload
unfolding payload_in
returns-clause-payload c =
    on_ok_weaker c.open_text.result
    (λ is. is ∙ (λ i. ccm_text c.args.aes.now (c.nonce_of.ensures i) (c.split_at.ensures.front i))) c.open_text.ensures.opened
