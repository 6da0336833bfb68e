use Rattle.std.proofs.Common.{◌≡◌, ℕ, ◌+◌, ◌<◌, ◌≤◌, get_or, bit_xor}
use Rattle.aes_modes.proofs.blocks.mask_block.Given as goal

abbrev pub invariant-loop-i : goal.invariant-loop-i
invariant-loop-i l =
    ((k : ℕ) → k < l.i → get_or l.text (l.at + k) 0 ≡ bit_xor (get_or l.fn.text (l.at + k) 0) (get_or l.stream k 0))
    × ((k : ℕ) → k < l.at → get_or l.text k 0 ≡ get_or l.fn.text k 0)
    × ((k : ℕ) → l.at + l.i ≤ k → get_or l.text k 0 ≡ get_or l.fn.text k 0)
