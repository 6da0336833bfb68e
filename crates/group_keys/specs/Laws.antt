-- What holds of rings and books, whatever becomes of their puts.
use Rattle.std.specs.Prelude.{◌≡◌, ◌≢◌, ℕ, ◌+◌, ◌<◌, true, All, Option, Some, None, IfSome, length}
use Rattle.plc_base.specs.Grant.{Granted, IsGrant}
use Rattle.plc_base.specs.Keeper.{Records}
use Rattle.store_tables.specs.Writes.{puts_of}
use Rattle.store_tables.specs.LeadingPuts.{PutsLead}
use Rattle.store_tables.specs.SlotTables as slots
use Rattle.plc_base.specs.declared.address.Eui.{Eui}
use Rattle.plc_base.specs.declared.key.Key.{Key}
use Rattle.group_keys.specs.Fields.{held_octets}
use Rattle.group_keys.specs.declared.key_book.BookEntry.{BookEntry}
use Rattle.group_keys.specs.KeyRing as rings
use Rattle.group_keys.specs.KeyBook as books

-- # Records that are read back

-- a key that may be held takes 17 octets
abbrev pub IsHeld : Option Key → Type 0
IsHeld key = length (held_octets key) ≡ 17

-- A grant whose record is read back.
pub record IsReadable (granted : Granted) : Type 0 where
  pub grant : IsGrant granted
  pub address : granted.address < 0xFFFE
  pub key0 : IsHeld granted.key0
  pub key1 : IsHeld granted.key1

-- An entry whose record is read back.
pub record IsReadableEntry (entry : BookEntry) : Type 0 where
  pub eui : length entry.eui.0 ≡ 8
  pub psk : length entry.psk.0 ≡ 16
  pub key0 : IsHeld entry.issued0
  pub key1 : IsHeld entry.issued1

-- # The ring

-- Whatever becomes of the put of a ring, some ring is what the records give.
abbrev pub RingsLead : Type 0
RingsLead =
    (before after : rings.Ring) → IfSome after IsReadable
    → PutsLead rings.AgreesWith before (puts_of (rings.ring_write after)) after

-- # The book

-- An entry that the book has is no change of it, and puts nothing.
pub record IsNoChange (book : books.Book) (entry : BookEntry) : Type 0 where
  pub same : books.with_entry book entry ≡ book
  pub write : books.change_write book entry ≡ None

abbrev pub AHeldEntryChangesNothing : Type 0
AHeldEntryChangesNothing =
    (book : books.Book) (entry : BookEntry) → books.holds book entry ≡ true → IsNoChange book entry

-- What is looked up after an entry was written: the entry of its meter, at the place that the meter had or that is the next, and
-- for another meter what was there before.
pub record HasEntry (book : books.Book) (entry : BookEntry) : Type 0 where
  pub here : books.entry_for (books.with_entry book entry) entry.eui ≡ Some entry
  pub address : books.address_of (books.with_entry book entry) entry.eui ≡ Some (books.place_for book entry.eui + 1)
  pub others : (meter : Eui) → books.eui_number meter ≢ books.eui_number entry.eui
      → books.entry_for (books.with_entry book entry) meter ≡ books.entry_for book meter
  pub addresses : (meter : Eui) (address : ℕ) → books.address_of book meter ≡ Some address
      → books.address_of (books.with_entry book entry) meter ≡ Some address

abbrev pub AnEntryIsFound : Type 0
AnEntryIsFound = (book : books.Book) (entry : BookEntry) → HasEntry book entry

-- A book is what the records give: no two entries of one meter, and each with a record.
pub record IsBookIn (book : books.Book) (records : Records) : Type 0 where
  pub sound : slots.IsTable books.entries book
  pub each : All IsReadableEntry book
  pub kept : books.AgreesWith book records

-- Whatever becomes of the put of an entry, some book is what the records give.
abbrev pub ChangesLead : Type 0
ChangesLead =
    (book : books.Book) (entry : BookEntry) → IsReadableEntry entry → books.has_room book entry.eui ≡ true
    → PutsLead IsBookIn book (puts_of (books.change_write book entry)) (books.with_entry book entry)
