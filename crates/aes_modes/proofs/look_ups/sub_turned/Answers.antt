use Rattle.std.proofs.Common.{w8}
use Rattle.std.proofs.lemmas.Simd.{below_from_Fits}
use Rattle.aes_modes.specs.LookUps.{plain_first, plain_second}
use Rattle.aes_modes.proofs.LookUps.{looked, boxed}
use Rattle.aes_modes.proofs.look_ups.sub_turned.Goals as goal

pub returns : goal.returns
returns c =
    boxed c.args.x _ _ c.fits-x.0 (below_from_Fits w8 c.args.x c.fits-x.1)
    (looked c.args.x c.halves.result.0 c.halves.result.1 _ _ _ plain_first plain_second c.halves.ensures.first c.halves.ensures.second c.look-u.ensures
    c.look-v.ensures c.add-w.ensures)
    c.add.ensures
