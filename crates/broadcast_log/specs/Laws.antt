-- What holds of broadcasts and of the log, whatever becomes of its puts.
use Rattle.std.specs.Prelude.{◌≡◌, ◌<◌, ◌^◌, ℕ, List, Option, Some, Ok, false}
use Rattle.plc_base.specs.Fields.{AreOctets}
use Rattle.plc_base.specs.Keeper.{Records}
use Rattle.store_tables.specs.Writes.{puts_of}
use Rattle.store_tables.specs.SlotTables as slots
use Rattle.store_tables.specs.LeadingPuts.{PutsLead}
use Rattle.store_tables.specs.Numberings.{EachAbove}
use Rattle.store_tables.specs.AdmittedNumbers.{Admitted, EachOnce}
use Rattle.broadcast_log.specs.declared.broadcast.Broadcast.{Broadcast}
use Rattle.broadcast_log.specs.Grammar.{Spells}
use Rattle.broadcast_log.specs.Reader.{broadcast_in}
use Rattle.broadcast_log.specs.NextNumber.{is_spent, number_put}
use Rattle.broadcast_log.specs.OriginMarks.{marks, room_for, keep_write}
use Rattle.broadcast_log.specs.Log.{Log, AgreesWith, numbered_log, admitted_log}
use Rattle.broadcast_log.specs.Runs.{Runs}

-- the broadcast that octets spell is read out of them
abbrev pub BroadcastsAreRead : Type 0
BroadcastsAreRead = (b : Broadcast) (octets : List ℕ) → Spells b octets → broadcast_in octets ≡ Some b

-- the broadcast that is read out of octets is the one that they spell
abbrev pub ReadBroadcastsAreSpelled : Type 0
ReadBroadcastsAreSpelled =
    (b : Broadcast) (octets : List ℕ) → AreOctets octets → broadcast_in octets ≡ Some b → Spells b octets

-- Over any calls, failed puts and new starts an origin and number is admitted at most once.
abbrev pub EachIsAdmittedOnce : Type 0
EachIsAdmittedOnce =
    (given : List ℕ) (before : List Admitted) (was : Option Log) (records : Records) → Runs given before was records
    → EachOnce before

-- So is a number given out at most once, and each above all before it.
abbrev pub EachIsGivenOnce : Type 0
EachIsGivenOnce =
    (given : List ℕ) (before : List Admitted) (was : Option Log) (records : Records) → Runs given before was records
    → EachAbove given

-- A log is what the records give, its limit has a record, and each origin has one place.
pub record IsLogIn (log : Log) (records : Records) : Type 0 where
  pub kept : AgreesWith log records
  pub fits : log.numbering.limit < 2 ^ 32
  pub sound : slots.IsTable marks log.marks

-- Whatever becomes of the put for a number, some log is what the records give.
abbrev pub NumbersLead : Type 0
NumbersLead =
    (log : Log) → is_spent log.numbering ≡ false
    → PutsLead IsLogIn log (puts_of (number_put log.numbering)) (numbered_log log)

-- Whatever becomes of the put for an admitted broadcast, some log is what the records give.
abbrev pub AdmissionsLead : Type 0
AdmissionsLead =
    (log : Log) (origin number : ℕ) → room_for log.marks origin number ≡ Ok tt
    → origin < 0xFFFE → number < 2 ^ 32
    → PutsLead IsLogIn log (puts_of (keep_write log.marks origin number)) (admitted_log log origin number)
