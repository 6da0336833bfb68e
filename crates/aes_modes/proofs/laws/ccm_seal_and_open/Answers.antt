use Rattle.std.proofs.Common.{◌≡◌, length, IsOk, sym, ap, ◌∙◌, arith}
use Rattle.aes_modes.specs.Ccm.{ccm_text, ccm_tag}
use Rattle.aes_modes.proofs.Opened.{at_ok}
use Rattle.aes_modes.proofs.Texts.{ccm_text-twice}
use Rattle.aes_modes.proofs.laws.ccm_seal_and_open.Goals as goal
use Rattle.aes_modes.proofs.laws.ccm_seal_and_open.Goals.{After-ccm_open}

-- the text as it was, unmasked from what sealing left
back : (c : After-ccm_open) → ccm_text c.args.aes.now c.args.nonce.now c.ccm_seal.new.text ≡ c.args.text.now
back c =
    ap (ccm_text c.args.aes.now c.args.nonce.now) c.ccm_seal.ensures.text
    ∙ ccm_text-twice c.args.aes.now c.args.nonce.now c.args.text.now

-- so the tag is the one that opening wants
opens : (c : After-ccm_open) → IsOk c.ccm_open.result
opens c =
    let len : length c.ccm_seal.new.tag ≡ length c.args.tag.now = omega arith in
    c.ccm_open.ensures.tag.1
    (c.ccm_seal.ensures.tag
    ∙ sym (λ i. ccm_tag (len i) c.args.aes.now c.args.nonce.now c.args.header.now (back c i)))

pub returns-clause-opened : goal.returns-clause-opened
returns-clause-opened c = opens (goal.at.returns-clause-opened c).After-ccm_open

pub returns-clause-same : goal.returns-clause-same
returns-clause-same c =
    let d = (goal.at.returns-clause-same c).After-ccm_open in
    at_ok d.ccm_open.result (opens d) d.ccm_open.ensures.opened ∙ back d
