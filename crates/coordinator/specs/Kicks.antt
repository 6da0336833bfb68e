-- A meter that is shut out, before a command says so.
use Rattle.group_keys.specs.declared.key_book.BookEntry.{BookEntry}
use Rattle.group_keys.specs.KeyBook.{kicked_entry}
use Rattle.node_rules.specs.Memory.{Memory}
use Rattle.node_rules.specs.MemoryDrafts.{in_memory, with_memory_by}
use Rattle.node_rules.specs.Drafts.{Draft, empty_draft, sealing}
use Rattle.node_rules.specs.Coordinators.{Ordering, orders, with_book_entry, without_session}

-- its entry is stored as kicked, and its session ends
abbrev pub shut_out : Memory → BookEntry → Draft Memory
shut_out m e =
    with_memory_by (without_session e.eui) (with_book_entry (kicked_entry e.eui e) (empty_draft m))

-- no command says so
abbrev pub silently : Memory → BookEntry → Ordering (Unit {0})
silently m e = sealing in_memory orders (shut_out m e) tt
