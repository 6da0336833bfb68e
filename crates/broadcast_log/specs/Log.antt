-- What a node keeps of broadcasts: the number of its next one and the marks of their origins; and what the calls do to it.
use Rattle.std.specs.Prelude.{◌≡◌, ◌⊎◌, ℕ, Bool, true, false, if◌then◌else◌, [], map, Option, None, Result, Ok, Err, refl}
use Rattle.std.specs.Coded.{Coded, code_by, coded×}
use Rattle.std.specs.FinMap.{get}
use Rattle.plc_base.specs.Keeper.{Records, Write}
use Rattle.store_tables.specs.SlotTables as slots
use Rattle.store_tables.specs.declared.open_fault.OpenFault.{OpenFault}
use Rattle.store_tables.specs.OpenFaults.{IsOpened}
use Rattle.plc_base.specs.declared.keeper.BadStore.{BadStore}
use Rattle.store_tables.specs.Numberings.{counting_code, counting_at}
use Rattle.store_tables.specs.Marks.{table_code, admission_answer, where_room}
use Rattle.broadcast_log.specs.declared.fault.LogFault.{LogFault}
use Rattle.broadcast_log.specs.declared.fault.LogFault.TheVariants.{NumberSpent, Store, Old, OriginsFull}
use Rattle.broadcast_log.specs.NextNumber.{Numbering, numbering_in, LimitAgrees, limit_in, limit_slot, number_put, numbered, is_spent}
use Rattle.broadcast_log.specs.OriginMarks.{Marks, marks, at_rest, MarksAgree, room_for, keep_write, kept_after}

-- The number of the next own broadcast, and the marks of the origins in the order of their slots.
pub record Log : Type 0 where
  pub numbering : Numbering
  pub marks : Marks

-- the log of an empty store
abbrev pub empty_log : Log
empty_log = record { numbering = counting_at 0; marks = [] }

-- a log is kept as the pair of its fields
abbrev pub log_code : Coded Log
log_code =
    code_by (Numbering × Marks) (coded× counting_code (table_code 0x0300 32))
    (λ l. (l.numbering, l.marks)) (λ p. record { numbering = p.0; marks = p.1 }) (λ _. refl)

-- What the log holds as stored is what the records give.
pub record AgreesWith (log : Log) (records : Records) : Type 0 where
  pub numbering : LimitAgrees log.numbering records
  pub marks : MarksAgree log.marks records

-- # Opening

-- the limit comes first, then the marks
abbrev pub log_of : Result Numbering BadStore → Result Marks BadStore → Result Log BadStore
log_of (Err bad) table = Err bad
log_of (Ok numbering) (Err bad) = Err bad
log_of (Ok numbering) (Ok table) = Ok (record { numbering = numbering; marks = table })

-- the log that the records give
abbrev pub opened : Records → Result Log BadStore
opened records = log_of (numbering_in records) (slots.opened marks records)

-- The record of the limit has no reading, or one of the marks is bad.
abbrev pub IsBad : Records → ℕ → Type 0
IsBad records slot =
    ((slot ≡ limit_slot) × (limit_in (get records limit_slot) ≡ None)) ⊎ slots.IsBad marks records slot

-- a log as a new start finds it: at its limit, each mark the stored one
abbrev pub log_at_rest : Log → Log
log_at_rest log = record { numbering = counting_at log.numbering.limit; marks = map at_rest log.marks }

-- a log that was kept is opened again, at rest, unless there is no memory for it
abbrev pub Reopens : Records → Result Log OpenFault → Type 0
Reopens records result =
    (log : Log) → slots.IsTable marks log.marks → AgreesWith log records → IsOpened result (Ok (log_at_rest log))

-- # Calls: what each answers, which put it makes and what the log is afterwards; done says that no put failed

-- the log after its next number was given out
abbrev pub numbered_log : Log → Log
numbered_log log = record log { numbering = numbered log.numbering }

abbrev pub next_result : Log → Bool → Result ℕ LogFault
next_result log done =
    if is_spent log.numbering then Err NumberSpent else (if done then Ok log.numbering.next else Err Store)

abbrev pub next_write : Log → Option Write
next_write log = if is_spent log.numbering then None else number_put log.numbering

abbrev pub next_after : Log → Bool → Log
next_after log done = if is_spent log.numbering then log else (if done then numbered_log log else log)

-- the log after a number of an origin was admitted
abbrev pub admitted_log : Log → ℕ → ℕ → Log
admitted_log log origin number = record log { marks = kept_after log.marks origin number }

abbrev pub admit_result : Log → ℕ → ℕ → Bool → Result (Unit {0}) LogFault
admit_result log origin number done = admission_answer Store done (room_for log.marks origin number)

abbrev pub admit_write : Log → ℕ → ℕ → Option Write
admit_write log origin number =
    where_room (room_for log.marks origin number) (keep_write log.marks origin number) None

abbrev pub admit_after : Log → ℕ → ℕ → Bool → Log
admit_after log origin number done =
    where_room (room_for log.marks origin number) (if done then admitted_log log origin number else log) log

-- whether no put of a call failed
abbrev pub is_stored : {A : Type 0} → Result A LogFault → Bool
is_stored (Ok value) = true
is_stored (Err NumberSpent) = true
is_stored (Err Store) = false
is_stored (Err Old) = true
is_stored (Err OriginsFull) = true
