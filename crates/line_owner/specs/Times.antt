-- Times of the owner, in microseconds of 64 bits.
use Rattle.std.specs.Prelude.{ℕ, ◌+◌, ◌-◌, ◌*◌, ◌^◌, min}

-- seconds in microseconds
unfoldable pub micros : ℕ → ℕ
micros seconds = min (seconds * 1000000) (2 ^ 64 - 1)

-- a time this many microseconds on
unfoldable pub later : ℕ → ℕ → ℕ
later now more = min (now + more) (2 ^ 64 - 1)
