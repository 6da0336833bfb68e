-- Which flight was sealed with which counter, by the address of its sender and the counter.
use Rattle.std.specs.Prelude.{ℕ, ◌==◌, List, if◌then◌else◌}
use Rattle.std.specs.declared.cmp.Ordering.{Ordering}
use Rattle.std.specs.Ordering.{nat_cmp, ordering_then}
use Rattle.std.specs.Option.{unwrap_or}
use Rattle.std.specs.BTreeMap.{insert_entry, is_at}
use Rattle.std.specs.Map.{lookup}
use Rattle.frame_facts.specs.declared.detail.FlightMore.{FlightMore}

abbrev pub seal_cmp : ℕ × ℕ → ℕ × ℕ → Ordering
seal_cmp x y = ordering_then (nat_cmp x.0 y.0) (nat_cmp x.1 y.1)

-- the first flight of a sender with a counter, 0 if there is none
unfoldable pub flight_with : ℕ → ℕ → List ((ℕ × ℕ) × ℕ) → ℕ
flight_with from counter flights = unwrap_or (lookup (is_at (seal_cmp (from, counter))) flights) 0

-- one more flight; a frame that is not sealed has no counter
unfoldable pub counters_with : ℕ → FlightMore → List ((ℕ × ℕ) × ℕ) → List ((ℕ × ℕ) × ℕ)
counters_with flight more flights =
    if more.sealed
    then (if flight_with more.from more.counter flights == 0 then insert_entry seal_cmp flights (more.from, more.counter) flight else flights)
    else flights
