use Rattle.std.proofs.Common.{◌≡◌, map, bit_xor, ◌∙◌}
use lib.Lanes.{zip2}
use Rattle.aes_modes.specs.LookUps.{entry}
use Rattle.aes_modes.specs.Rounds.{own, next}
use Rattle.aes_modes.specs.declared.cipher.TheConstants.{ROW_AFTER}
use Rattle.aes_modes.proofs.MixedColumns.{mixed_is}
use Rattle.aes_modes.proofs.cipher.mix.Goals as goal

pub returns : goal.returns
returns c =
    let pair : c.add-pair.result ≡ zip2 bit_xor (map (entry c.args.twice) own) (map (entry c.args.once) next) =
    c.add-pair.ensures ∙ (λ i. zip2 bit_xor (c.look-own.ensures i) (c.look-next.ensures i)) in
    c.add.ensures
    ∙ (λ i. zip2 bit_xor ((c.add-front.ensures ∙ (λ j. zip2 bit_xor (pair j) (c.look-last.ensures j))) i)
    ((c.look-back.ensures ∙ (λ j. map (entry (pair j)) ROW_AFTER)) i))
    ∙ mixed_is c.args.once c.args.twice c.fits-once.0 c.fits-twice.0
