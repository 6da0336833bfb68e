-- What holds of all draws.
use Rattle.std.specs.Prelude.{ℕ, ◌≡◌, ◌+◌}
use Rattle.air_draws.specs.declared.draws.Purpose.{Purpose}
use Rattle.air_draws.specs.Draws.{stream_of, first, drawn, after, after_key}

-- The draw after k draws of a purpose is one more, whatever was drawn for the others: so each draw is a function of the seed, the
-- purpose and how many came before it.
abbrev pub DrawsAreCounted : Type 0
DrawsAreCounted =
    (seed : ℕ) (purpose : Purpose) (k : ℕ) → after (drawn seed purpose k) ≡ drawn seed purpose (k + 1)

-- A key is four draws.
abbrev pub KeysAreCounted : Type 0
KeysAreCounted =
    (seed : ℕ) (purpose : Purpose) (k : ℕ) → after_key (drawn seed purpose k) ≡ drawn seed purpose (k + 4)

-- No draw has been made at the start.
abbrev pub NothingIsDrawnAtFirst : Type 0
NothingIsDrawnAtFirst = (seed : ℕ) (purpose : Purpose) → drawn seed purpose 0 ≡ first seed purpose

-- No two purposes share a stream.
abbrev pub StreamsAreApart : Type 0
StreamsAreApart = (a b : Purpose) → stream_of a ≡ stream_of b → a ≡ b
