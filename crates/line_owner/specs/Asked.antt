-- The readings, by their meter and round.
use Rattle.std.specs.Prelude.{ℕ, List, false}
use Rattle.std.specs.declared.cmp.Ordering.{Ordering}
use Rattle.std.specs.Ordering.{nat_cmp, ordering_then}
use Rattle.std.specs.Option.{unwrap_or}
use Rattle.std.specs.BTreeMap.{insert_entry, is_at}
use Rattle.std.specs.Map.{lookup}
use Rattle.line_owner.specs.declared.asked.Reading.{Reading}

-- by the meter, and then by the round
abbrev pub reading_cmp : ℕ × ℕ → ℕ × ℕ → Ordering
reading_cmp x y = ordering_then (nat_cmp x.0 y.0) (nat_cmp x.1 y.1)

-- a reading that was never tried
abbrev pub no_reading : Reading
no_reading = record { tries = 0; known = false }

-- the reading of a meter and a round
unfoldable pub reading_at : ℕ → ℕ → List ((ℕ × ℕ) × Reading) → Reading
reading_at node round readings = unwrap_or (lookup (is_at (reading_cmp (node, round))) readings) no_reading

-- the readings with this one in place of what was there
unfoldable pub with_reading : ℕ → ℕ → Reading → List ((ℕ × ℕ) × Reading) → List ((ℕ × ℕ) × Reading)
with_reading node round reading readings =
    insert_entry reading_cmp readings (node, round) reading
