-- Times, in seconds of one clock.
use Rattle.std.specs.Prelude.{ℕ, ◌+◌, Bool, nat_lt, min}

-- whether fewer than this many seconds have passed since a time
abbrev pub is_within : (seconds now since : ℕ) → Bool
is_within seconds now since = nat_lt now (since + seconds)

-- the earlier of a time and of this many seconds after another one
abbrev pub earlier_end : (seconds time since : ℕ) → ℕ
earlier_end seconds time since = min time (since + seconds)
