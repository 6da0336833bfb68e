use Rattle.std.proofs.Common.{w8}
use Rattle.std.proofs.lemmas.Simd.{below_from_Fits}
use Rattle.aes_modes.proofs.LookUps.{hidden_back}
use Rattle.aes_modes.proofs.look_ups.hide.Goals as goal

pub returns : goal.returns
returns c = hidden_back c.args.k _ c.fits-k.0 (below_from_Fits w8 c.args.k c.fits-k.1) c.add.ensures
