-- The octets that a reader of lines holds.
use Rattle.std.specs.Prelude.{◌≡◌, ◌+◌, ◌≤◌, ℕ, List, length, take, drop, slice_range, min}

-- the line that was found last, and the octets that were read and are not used yet
pub record Window : Type 0 where
  pub line : List ℕ
  pub ahead : List ℕ

-- a buffer for twice 8,192 octets, a range of it where the line stands, and one where what is ahead stands
pub record IsHeld (octets : List ℕ) (line line_end first end : ℕ) : Type 0 where
  pub room : length octets ≡ 16384
  pub line_order : line ≤ line_end
  pub line_within : line_end ≤ 16384
  pub order : first ≤ end
  pub within : end ≤ 16384
  pub bounded : end ≤ first + 8192

abbrev pub window_of : List ℕ → ℕ → ℕ → ℕ → ℕ → Window
window_of octets line line_end first end = record { line = slice_range octets line line_end; ahead = slice_range octets first end }

-- the first `n` octets are the line, or the first 4,096 of them, and `used` octets are used
abbrev pub window_after : Window → ℕ → ℕ → Window
window_after w n used = record { line = take (min n 4096) w.ahead; ahead = drop used w.ahead }
