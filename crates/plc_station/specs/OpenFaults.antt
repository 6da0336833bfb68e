-- Why a station is not opened.
use Rattle.std.specs.Prelude.{◌≡◌, Result, Err, ⊤}
use Rattle.plc_base.specs.declared.keeper.BadStore as keeper
use Rattle.node_rules.specs.Memory.{StationMemory}
use Rattle.store_tables.specs.declared.open_fault.OpenFault as tables
use Rattle.store_tables.specs.declared.open_fault.OpenFault.TheVariants as tables_variants
use Rattle.plc_station.specs.declared.station.OpenFault.{OpenFault}
use Rattle.plc_station.specs.declared.station.OpenFault.TheVariants.{Memory, BadStore, Store}

-- the fault of the tables of a station says why: a record has no reading, or there was no memory
abbrev pub IsOpeningFault : Result StationMemory keeper.BadStore → tables.OpenFault → Type 0
IsOpeningFault read tables_variants.Memory = ⊤
IsOpeningFault read (tables_variants.BadStore bad) = read ≡ Err bad

-- the fault says why: a record has no reading, or there was no memory
abbrev pub IsOpenFault : Result StationMemory keeper.BadStore → OpenFault → Type 0
IsOpenFault read Memory = ⊤
IsOpenFault read (BadStore bad) = read ≡ Err bad
IsOpenFault read Store = ⊥
