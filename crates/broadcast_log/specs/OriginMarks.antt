-- The marks of the origins, and what the calls on them do: a table of marks (`Marks` of `store_tables`) at the slots 0300 to 031F.
use Rattle.std.specs.Prelude.{ℕ, Option, Result}
use Rattle.plc_base.specs.Keeper.{Records, Write}
use Rattle.store_tables.specs.SlotTables as slots
use Rattle.store_tables.specs.Marks as tables
use Rattle.store_tables.specs.declared.marks.Mark.{Mark}
use Rattle.broadcast_log.specs.declared.fault.LogFault.{LogFault}
use Rattle.broadcast_log.specs.declared.fault.LogFault.TheVariants.{Old, OriginsFull}

-- an origin: its address, the number that was last admitted of it, and the stored mark
abbrev pub OriginMark : Type 0
OriginMark = Mark 0x0300 32

-- the origins in the order of their slots
abbrev pub Marks : Type 0
Marks = tables.Table 0x0300 32

-- an origin as a new start finds it
abbrev pub at_rest : OriginMark → OriginMark
at_rest entry = tables.at_rest 0x0300 32 entry

-- how the origins are stored
abbrev pub marks : slots.Layout OriginMark
marks = tables.layout 0x0300 32

-- no mark is above the stored one
abbrev pub IsCovered : Marks → Type 0
IsCovered table = tables.IsCovered 0x0300 32 table

-- What the table holds as stored is what the records give, and no record stands after them.
abbrev pub MarksAgree : Marks → Records → Type 0
MarksAgree table records = tables.AgreesWith 0x0300 32 table records

-- the place of an origin in the table
abbrev pub place_of : Marks → ℕ → Option ℕ
place_of table origin = tables.place_of 0x0300 32 table origin

-- the entry at a place of the table
abbrev pub mark_at : Marks → ℕ → OriginMark
mark_at table place = tables.mark_at 0x0300 32 table place

-- an entry whose stored mark is ahead of its number
abbrev pub mark_ahead : ℕ → ℕ → OriginMark
mark_ahead origin number = tables.mark_ahead 0x0300 32 origin number

-- an entry with a later number: its stored mark stays where it covers the number, and goes ahead of it where not
abbrev pub advanced : OriginMark → ℕ → ℕ → OriginMark
advanced entry origin number = tables.advanced 0x0300 32 entry origin number

-- the mark of an origin, if it is held
abbrev pub mark_of : Marks → ℕ → Option ℕ
mark_of table origin = tables.mark_of 0x0300 32 table origin

-- whether a number is admitted, and why not: of a held origin it is to be above the mark, and a new one needs a slot
abbrev pub room_for : Marks → ℕ → ℕ → Result (Unit {0}) LogFault
room_for table origin number = tables.room_for 0x0300 32 Old OriginsFull table origin number

-- what is stored before a number is kept: nothing, where it is not above the stored mark
abbrev pub keep_write : Marks → ℕ → ℕ → Option Write
keep_write table origin number = tables.keep_write 0x0300 32 table origin number

-- the table after a number was kept
abbrev pub kept_after : Marks → ℕ → ℕ → Marks
kept_after table origin number = tables.kept_after 0x0300 32 table origin number
