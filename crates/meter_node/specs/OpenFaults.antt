-- What a meter answers where its store is read.
use Rattle.std.specs.Prelude.{◌≡◌, Result, Ok, Err, ⊤}
use Rattle.plc_base.specs.declared.keeper.BadStore as keeper
use Rattle.plc_station.specs.declared.station.OpenFault.{OpenFault}
use Rattle.plc_station.specs.declared.station.OpenFault.TheVariants.{Memory, BadStore, Store}
use Rattle.node_rules.specs.Memory as memory

-- the answer that a reading gives
abbrev pub read_answer : Result memory.Memory keeper.BadStore → Result (Unit {0}) keeper.BadStore
read_answer (Ok m) = Ok tt
read_answer (Err bad) = Err bad

-- the fault says why: a record has no reading, or there was no memory
abbrev pub IsOpenFault : Result memory.Memory keeper.BadStore → OpenFault → Type 0
IsOpenFault read Memory = ⊤
IsOpenFault read (BadStore bad) = read ≡ Err bad
IsOpenFault read Store = ⊥
