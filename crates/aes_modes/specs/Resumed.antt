-- A CMAC that goes on after whole blocks, for the clauses of the private functions that share the
-- block before EAX's texts. No public clause names what stands here.
use Rattle.std.specs.Prelude.{ℕ, ◌*◌, List, drop}
use Rattle.aes_modes.specs.Cipher.{xor_bytes, encrypted}
use Rattle.aes_modes.specs.Chains.{chained}
use Rattle.aes_modes.specs.Cmac.{last_block, blocks_before}

-- CMAC of some blocks and m, where those blocks gave x
unfoldable pub mac_from : List ℕ → List ℕ → List ℕ → List ℕ
mac_from key x m =
    encrypted key
    (xor_bytes (chained key x m (blocks_before m)) (last_block key (drop (16 * blocks_before m) m)))
