-- A meter is shut out where the coordinator's book does not allow it.
use Rattle.std.specs.Prelude.{◌≡◌, ℕ, false, Some, slice_get}
use Rattle.plc_base.specs.declared.address.Eui.{Eui}
use Rattle.group_keys.specs.KeyBook as books
use Rattle.group_keys.specs.declared.key_book.BookEntry.{BookEntry}
use Rattle.node_rules.specs.Memory.{Node}
use Rattle.line_rules.specs.Worlds.{World, node_at}
use Rattle.line_laws.specs.Stores.{IsBookKept}

-- no entry of this meter is allowed
abbrev pub Shut : Eui → books.Book → Type 0
Shut eui b =
    (place : ℕ) (e : BookEntry) → slice_get b place ≡ Some e → books.eui_number e.eui ≡ books.eui_number eui → e.allowed ≡ false

-- the book that the records of a node give does not allow the meter
abbrev pub BookShut : Eui → Node → Type 0
BookShut eui y = (b : books.Book) → IsBookKept b y.store.records → Shut eui b

-- the coordinator's book does not allow the meter
abbrev pub ShutAt : Eui → World → Type 0
ShutAt eui v = (c : Node) → node_at v 0 ≡ Some c → BookShut eui c
