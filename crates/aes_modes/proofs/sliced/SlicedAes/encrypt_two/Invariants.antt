use Rattle.std.proofs.Common.{◌≡◌}
use Rattle.aes_modes.specs.Cipher.{state_after}
use Rattle.aes_modes.specs.Sliced.{state}
use Rattle.aes_modes.proofs.sliced.SlicedAes.encrypt_two.Given as goal

abbrev pub invariant-rounds : goal.invariant-rounds
invariant-rounds l = (state 0 l.q ≡ state_after l.self l.x l.i) × (state 1 l.q ≡ state_after l.self l.y l.i)
