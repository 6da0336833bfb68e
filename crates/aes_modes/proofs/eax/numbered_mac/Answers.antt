use Rattle.std.proofs.Common.{◌<◌, length, sym, ◌∙◌, arith}
use Rattle.std.specs.Int.{w128, to_be_bytes}
use Rattle.std.proofs.lemmas.Bool.{eqb-true, eqb-false}
use Rattle.std.proofs.lemmas.List.{nil_from_length}
use Rattle.aes_modes.specs.Cipher.{encrypted}
use Rattle.aes_modes.specs.Chains.{zero_block}
use Rattle.aes_modes.specs.Resumed.{mac_from}
use Rattle.aes_modes.proofs.Chains.{numbered_mac_none, numbered_mac_some}
use Rattle.aes_modes.proofs.eax.numbered_mac.Goals as goal

pub returns-then-is_empty : goal.returns-then-is_empty
returns-then-is_empty c =
    let m = c.args.text.now in
    c.mac_from.ensures
    ∙ (λ i. mac_from c.args.aes.now zero_block ((c.to_be_bytes-block.ensures ∙ (λ j. to_be_bytes w128 (c.from.ensures j))) i))
    ∙ numbered_mac_none c.args.aes.now m c.args.number (nil_from_length m (eqb-true (length m) 0 (sym c.if-is_empty.ensures)))

pub returns-else-is_empty : goal.returns-else-is_empty
returns-else-is_empty c =
    let m = c.args.text.now in
    let ne = eqb-false (length m) 0 (sym c.if-is_empty.ensures) in
    let some : 0 < length m = omega arith in
    c.mac_from-else-is_empty.ensures
    ∙ (λ i. mac_from c.args.aes.now
    ((c.encrypt_block-x.ensures ∙ (λ j. encrypted c.args.aes.now ((c.to_be_bytes-block.ensures ∙ (λ k. to_be_bytes w128 (c.from.ensures k))) j))) i) m)
    ∙ numbered_mac_some c.args.aes.now m c.args.number some
