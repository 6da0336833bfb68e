use Rattle.std.proofs.Common.{ap, ◌∙◌}
use Rattle.aes_modes.specs.Cipher.{sub_bytes}
use Rattle.aes_modes.proofs.Rounds.{next_of}
use Rattle.aes_modes.proofs.cipher.step.Goals as goal

pub returns-clause-next : goal.returns-clause-next
returns-clause-next c =
    next_of c.args.k _ _ _ _ _ _ _ _ _ _ c.args.constant c.fits-k.0
    (c.sub_turned-boxes.ensures ∙ ap sub_bytes c.turn-turned.ensures) c.look-word.ensures c.add-temp.ensures
    c.look-one.ensures c.look-two.ensures c.look-three.ensures c.add.ensures c.add-2.ensures c.add-3.ensures c.add-4.ensures

pub returns-clause-hidden : goal.returns-clause-hidden
returns-clause-hidden c = c.hide.ensures ∙ c.turn-turned.ensures
