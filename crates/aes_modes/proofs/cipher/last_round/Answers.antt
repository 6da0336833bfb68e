use Rattle.std.proofs.Common.{ap, ◌∙◌}
use Rattle.aes_modes.specs.Cipher.{xor_bytes, shift_rows, last_round}
use Rattle.aes_modes.proofs.Rounds.{shifted}
use Rattle.aes_modes.proofs.cipher.last_round.Goals as goal

pub returns : goal.returns
unfolding last_round
returns c =
    c.add_round_key.ensures
    ∙ (λ i. xor_bytes ((c.look.ensures ∙ shifted c.sub_turned-once.result ∙ ap shift_rows c.sub_turned-once.ensures) i) c.args.k)
