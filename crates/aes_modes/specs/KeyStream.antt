-- A text and a key stream of blocks, as in counter mode (NIST SP 800-38A, section 6.5).
use Rattle.std.specs.Prelude.{ℕ, zero, suc, ◌+◌, ◌/◌, List, [], ◌++◌, length}
use Rattle.aes_modes.specs.Cipher.{xor_bytes}

-- the first n blocks of a key stream
unfoldable pub stream_blocks : (ℕ → List ℕ) → ℕ → List ℕ
stream_blocks f zero = []
stream_blocks f (suc n) = stream_blocks f n ++ f n

-- a text with the key stream added to it
unfoldable pub masked : (ℕ → List ℕ) → List ℕ → List ℕ
masked f m = xor_bytes m (stream_blocks f (length m / 16 + 1))
