use Rattle.std.proofs.Common.{◌≡◌, None, drop}
use Rattle.plc_station.specs.RisingLists.{is_rising_after}
use Rattle.plc_station.proofs.showing.is_rising.Given as goal

-- whether the rest rises from here decides it
abbrev pub invariant-loop-entry : goal.invariant-loop-entry
invariant-loop-entry g l =
    is_rising_after g.E.SlotEntry.layout.key l.last (drop l.entry-index l.entries) ≡ is_rising_after g.E.SlotEntry.layout.key None l.entries
