-- What the coordinator holds and answers where its store is read.
use Rattle.std.specs.Prelude.{Option, Some, None, Result, Ok, Err}
use Rattle.plc_base.specs.declared.keeper.BadStore.{BadStore}
use Rattle.node_rules.specs.Memory.{Memory}

-- the memory that a reading gives, none where there is no reading
abbrev pub if_read : Result Memory BadStore → Option Memory
if_read (Ok m) = Some m
if_read (Err bad) = None

-- the answer that a reading gives
abbrev pub read_answer : Result Memory BadStore → Result (Unit {0}) BadStore
read_answer (Ok m) = Ok tt
read_answer (Err bad) = Err bad
