-- When the first reassembly expires.
use Rattle.std.specs.Prelude.{ℕ, ◌+◌, ◌≤◌, List, fold}
use Rattle.std.specs.List.{All}
use Rattle.plc_base.specs.Times.{earlier_end}
use Rattle.fragment_buffers.specs.Reassembly.{Reassembly}
use Rattle.fragment_buffers.specs.Entries.{Entry}
use Rattle.fragment_buffers.specs.declared.times.TheConstants.{REASSEMBLY_TIME}

-- the earlier of a time and of when a reassembly expires
abbrev pub end_by : ℕ → Entry → ℕ
end_by time e = earlier_end REASSEMBLY_TIME time e.since

-- when the first one expires, 2^64 - 1 where none is there or none expires before
unfoldable pub first_end : List Entry → ℕ
first_end entries = fold end_by 18446744073709551615 entries

-- no reassembly expires before a time
abbrev pub IsStill : ℕ → List Reassembly → Type 0
IsStill time held = All (λ r. time ≤ r.since + REASSEMBLY_TIME) held
