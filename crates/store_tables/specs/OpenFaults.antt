-- What opening answers, where there may be no memory for what the records give.
use Rattle.std.specs.Prelude.{◌≡◌, ℕ, Result, Ok, Err, ⊤}
use Rattle.plc_base.specs.declared.keeper.BadStore as keeper
use Rattle.store_tables.specs.declared.open_fault.OpenFault.{OpenFault}
use Rattle.store_tables.specs.declared.open_fault.OpenFault.TheVariants.{Memory, BadStore}

-- the answer is what the records give, or there was no memory
abbrev pub IsOpened : {A : Type 0} → Result A OpenFault → Result A keeper.BadStore → Type 0
IsOpened (Ok value) read = Ok value ≡ read
IsOpened (Err Memory) read = ⊤
IsOpened (Err (BadStore bad)) read = Err bad ≡ read

-- the fault names a slot of which P holds, or there was no memory
abbrev pub IsFault : (ℕ → Type 0) → OpenFault → Type 0
IsFault P Memory = ⊤
IsFault P (BadStore bad) = P bad.slot
