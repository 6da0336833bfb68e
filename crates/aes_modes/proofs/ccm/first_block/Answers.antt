use Rattle.std.proofs.Common.{[], ◌∷◌, ◌++◌, ◌+◌, length, get_or, ◌∙◌, arith}
use Rattle.std.specs.Int.{w16, to_be_bytes}
use Rattle.aes_modes.proofs.Written.{spelled, gets}
use Rattle.aes_modes.proofs.ccm.first_block.Goals as goal

pub returns : goal.returns
returns c =
    (λ j. (c.header_flag.ensures j + c.tag_flag.ensures.value j + 1)
    ∷ gets 13 0 0 c.args.nonce.now ++ get_or (c.to_be_bytes.ensures j) 0 0 ∷ get_or (c.to_be_bytes.ensures j) 1 0 ∷ [])
    ∙ (λ j. (c.header_flag.ensures 1 + c.tag_flag.ensures.value 1 + 1)
    ∷ spelled 13 c.args.nonce.now (omega arith) j ++ to_be_bytes w16 (length c.args.text.now))
