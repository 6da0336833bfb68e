use Rattle.std.proofs.Common.{◌≡◌}
use Rattle.aes_modes.specs.Chains.{chained}
use Rattle.aes_modes.proofs.mac.chain.Given as goal

abbrev pub invariant-whole : goal.invariant-whole
invariant-whole l = l.x ≡ chained l.aes l.fn.x l.text l.i
