-- When a node has to be told the time again.
use Rattle.std.specs.Prelude.{◌≡◌, ℕ, ◌<◌, ◌==◌, if◌then◌else◌, Option, Some, None}

-- the last second of a clock of 64 bits
abbrev pub last_second : ℕ
last_second = 18446744073709551615

-- before a time that is given; where none is given, any time before the last second of the clock
abbrev pub IsBefore : ℕ → Option ℕ → Type 0
IsBefore time (Some end) = time < end
IsBefore time None = time < last_second

-- an end, none where it is the last second of the clock
abbrev pub end_given : ℕ → Option ℕ
end_given end = if end == last_second then None else Some end

-- A tick changes nothing before this end, and something from then on.
pub record IsFirstEnd {M : Type 0} (tick : ℕ → M → M) (m : M) (end : Option ℕ) : Type 0 where
  pub waits : (time : ℕ) → IsBefore time end → tick time m ≡ m
  pub ends : (time : ℕ) → time < last_second → tick time m ≡ m → IsBefore time end
