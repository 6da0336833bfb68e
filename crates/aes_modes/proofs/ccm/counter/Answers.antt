use Rattle.std.proofs.Common.{[], ◌∷◌, ◌++◌, get_or, ◌∙◌, arith}
use Rattle.std.specs.Int.{w16, to_be_bytes}
use Rattle.aes_modes.proofs.Written.{spelled, gets}
use Rattle.aes_modes.proofs.ccm.counter.Goals as goal

pub returns : goal.returns
returns c =
    (λ j. 1 ∷ gets 13 0 0 c.args.nonce.now ++ get_or (c.to_be_bytes.ensures j) 0 0 ∷ get_or (c.to_be_bytes.ensures j) 1 0 ∷ [])
    ∙ (λ j. 1 ∷ spelled 13 c.args.nonce.now (omega arith) j ++ to_be_bytes w16 c.args.i)
