-- How a keeper in memory lays out its slots: one cell for each. The peers' marks and the ranks alternate, so that few of both take few cells.
use Rattle.std.specs.Prelude.{ℕ, suc, ◌+◌, ◌-◌, ◌*◌, ◌/◌, ◌%◌, ◌==◌, List, [], ◌∷◌, Option, Some, None, nat_lt, if◌then◌else◌}
use Rattle.std.specs.FinMap.{from_entries}
use Rattle.plc_base.specs.Keeper.{Records}

-- the place of a slot among all slots
abbrev pub place_of : ℕ → ℕ
place_of slot =
    if nat_lt slot 0x0100 then slot - 1
    else (if nat_lt slot 0x0200 then 2 * (slot - 0x0100) + 6
    else (if nat_lt slot 0x0300 then 2 * (slot - 0x0200) + 7
    else (if nat_lt slot 0x1000 then slot - 0x0300 + 134
    else slot - 0x1000 + 166)))

-- the slot at a place
unfoldable pub slot_at : ℕ → ℕ
slot_at place =
    if nat_lt place 6 then place + 1
    else (if nat_lt place 134 then (if place % 2 == 0 then (place - 6) / 2 + 0x0100 else (place - 7) / 2 + 0x0200)
    else (if nat_lt place 166 then place - 134 + 0x0300
    else place - 166 + 0x1000))

-- what stands in the cells from a place on, with its slot
abbrev pub entries_from : ℕ → List (Option (List ℕ)) → List (ℕ × List ℕ)
entries_from place [] = []
entries_from place (None ∷ cells) = entries_from (suc place) cells
entries_from place (Some octets ∷ cells) = (slot_at place, octets) ∷ entries_from (suc place) cells

-- the records that stand in all cells
unfoldable pub records_in : List (Option (List ℕ)) → Records
records_in cells = from_entries (entries_from 0 cells)
