use Rattle.std.proofs.Common.{◌∙◌}
use Rattle.aes_modes.proofs.Chains.{cmac_is}
use Rattle.aes_modes.proofs.mac.cmac.Goals as goal

pub returns : goal.returns
returns c = c.mac_from.ensures ∙ cmac_is c.args.aes.now c.args.text.now
