-- Where a line stops being one that can be read.
use Rattle.std.specs.Prelude.{ℕ, ◌≡◌, ◌+◌, ◌<◌, ◌≤◌, Bool, true, false, List, [], ◌∷◌, ◌++◌, length, take}
use Rattle.line_script.specs.LineReader.{reading}
use Rattle.script_faults.specs.Forms.{has_reading}

-- whether a line is an event, a comment or empty
abbrev pub is_readable : List ℕ → Bool
is_readable line = has_reading (reading line)

-- a line with the line feed that ends it
abbrev pub ended : List ℕ → List ℕ
ended line = line ++ (10 ∷ [])

-- The place of a fault: what stands before it begins a line that can be read. With it, and the octet that ends it, no line begins that can be read.
pub record IsPlace (line : List ℕ) (start end : ℕ) : Type 0 where
  pub some : start < end
  pub within : end ≤ length line + 1
  pub before : (more : List ℕ) × (is_readable (take start line ++ more) ≡ true)
  pub none : (other more : List ℕ) → ended other ≡ take (end + 1) (ended line) ++ more → is_readable other ≡ false
