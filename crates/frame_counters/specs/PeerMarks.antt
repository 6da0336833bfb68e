-- The marks of the senders, and what the calls on them do: a table of marks (`Marks` of `store_tables`) at the slots 0100 to 013F.
use Rattle.std.specs.Prelude.{ℕ, Bool, true, false, if◌then◌else◌, List, Option, None, Result, Ok, Err}
use Rattle.std.specs.Coded.{Coded}
use Rattle.plc_base.specs.Keeper.{Records, Write}
use Rattle.store_tables.specs.SlotTables as slots
use Rattle.store_tables.specs.Marks as marks
use Rattle.store_tables.specs.declared.marks.Mark.{Mark}
use Rattle.frame_counters.specs.declared.fault.PeerFault.{PeerFault}
use Rattle.frame_counters.specs.declared.fault.PeerFault.TheVariants.{Replayed, PeersFull, Store}

-- a sender: its address, the counter that was last admitted of it, and the mark that is stored
abbrev pub PeerMark : Type 0
PeerMark = Mark 0x0100 64

-- the senders in the order of their slots
abbrev pub Table : Type 0
Table = marks.Table 0x0100 64

-- a table is kept as the list of its senders' fields
abbrev pub table_code : Coded Table
table_code = marks.table_code 0x0100 64

-- the sender that a record gives: an address in 2 octets and the stored mark in 4
abbrev pub peer_in : List ℕ → Option PeerMark
peer_in octets = marks.mark_in 0x0100 64 octets

-- the record of a sender
abbrev pub octets_of : PeerMark → List ℕ
octets_of peer = marks.octets_of 0x0100 64 peer

-- a sender as a new start finds it
abbrev pub at_rest : PeerMark → PeerMark
at_rest peer = marks.at_rest 0x0100 64 peer

-- how the senders are stored
abbrev pub peers : slots.Layout PeerMark
peers = marks.layout 0x0100 64

-- no mark is above the stored one
abbrev pub IsCovered : Table → Type 0
IsCovered table = marks.IsCovered 0x0100 64 table

-- What the table holds as stored is what the records give, and no record stands after them.
abbrev pub AgreesWith : Table → Records → Type 0
AgreesWith table records = marks.AgreesWith 0x0100 64 table records

-- the place of a sender in the table
abbrev pub place_of : Table → ℕ → Option ℕ
place_of table address = marks.place_of 0x0100 64 table address

-- the sender at a place of the table
abbrev pub peer_at : Table → ℕ → PeerMark
peer_at table place = marks.mark_at 0x0100 64 table place

-- the mark of a sender, if it is held
abbrev pub mark_of : Table → ℕ → Option ℕ
mark_of table from = marks.mark_of 0x0100 64 table from

-- whether a counter is admitted, and why not: of a held sender it is to be above the mark, and a new one needs a slot
abbrev pub room_for : Table → ℕ → ℕ → Result (Unit {0}) PeerFault
room_for table from counter = marks.room_for 0x0100 64 Replayed PeersFull table from counter

-- a sender whose mark is stored anew, ahead of the counter
abbrev pub peer_ahead : ℕ → ℕ → PeerMark
peer_ahead from counter = marks.mark_ahead 0x0100 64 from counter

-- the sender at a place with a higher mark
abbrev pub advanced : PeerMark → ℕ → ℕ → PeerMark
advanced peer from counter = marks.advanced 0x0100 64 peer from counter

-- what is stored before a counter is kept: nothing, where it is not above the stored mark
abbrev pub keep_write : Table → ℕ → ℕ → Option Write
keep_write table from counter = marks.keep_write 0x0100 64 table from counter

-- the table after a counter was kept
abbrev pub kept_after : Table → ℕ → ℕ → Table
kept_after table from counter = marks.kept_after 0x0100 64 table from counter

-- `admit` is described in three functions: what it answers, which put it makes and what the table is afterwards; done
-- says that no put failed
abbrev pub admit_result : Table → ℕ → ℕ → Bool → Result (Unit {0}) PeerFault
admit_result table from counter done = marks.admission_answer Store done (room_for table from counter)

abbrev pub admit_write : Table → ℕ → ℕ → Option Write
admit_write table from counter = marks.where_room (room_for table from counter) (keep_write table from counter) None

abbrev pub admit_after : Table → ℕ → ℕ → Bool → Table
admit_after table from counter done =
    marks.where_room (room_for table from counter) (if done then kept_after table from counter else table) table

-- whether no put of an `admit` failed
abbrev pub is_stored : Result (Unit {0}) PeerFault → Bool
is_stored (Ok u) = true
is_stored (Err Replayed) = true
is_stored (Err PeersFull) = true
is_stored (Err Store) = false
