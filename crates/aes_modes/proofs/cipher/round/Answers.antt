use Rattle.std.proofs.Common.{map, bit_xor, ap, ◌∙◌, w8}
use Rattle.std.proofs.lemmas.Simd.{below_from_Fits}
use lib.Lanes.{zip2}
use Rattle.aes_modes.specs.LookUps.{unturned}
use Rattle.aes_modes.specs.Rounds.{mixed}
use Rattle.aes_modes.proofs.Rounds.{round_is}
use Rattle.aes_modes.proofs.cipher.round.Goals as goal

pub returns : goal.returns
returns c =
    ap (map unturned)
    (c.add.ensures
    ∙ (λ i. zip2 bit_xor ((c.mix.ensures ∙ (λ j. mixed (c.once_and_twice.ensures.once j) (c.once_and_twice.ensures.twice j))) i) c.args.k))
    ∙ round_is c.args.s c.args.k c.fits-s.0 (below_from_Fits w8 c.args.s c.fits-s.1) c.fits-k.0 (below_from_Fits w8 c.args.k c.fits-k.1)
