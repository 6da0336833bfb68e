-- Blocks of a key stream that are made beside those of a chain.
use Rattle.std.specs.Prelude.{ℕ, ◌+◌, ◌==◌}
use mathlib.Core.Bool.{cond}

-- the number of the stream block beside block i of a chain of this many blocks: the next one, and S_0 after the last
abbrev pub following : ℕ → ℕ → ℕ
following i blocks = cond (i == blocks) 0 (i + 1)
