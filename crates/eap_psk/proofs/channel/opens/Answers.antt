use Rattle.std.proofs.Common.{◌∙◌}
use Rattle.std.specs.Prelude.{is_ok}
use Rattle.eap_psk.specs.Keys.{channel_tag}
use Rattle.eap_psk.proofs.Same.{same_from}
use Rattle.eap_psk.proofs.channel.opens.Goals as goal

pub returns-clause-tag : goal.returns-clause-tag
returns-clause-tag c =
    let right = rw c.nonce_block.ensures at c.eax_open.ensures.tag in
    c.is_ok.ensures.value ∙ same_from (is_ok c.eax_open.result) c.args.tag.now (channel_tag c.args.tek.now c.args.nonce c.args.header.now c.args.text.now) right
