-- What the coordinator does about the packets of a meter, once they are read.
use Rattle.std.specs.Prelude.{◌≡◌, ℕ, true, false, [], IsSome}
use Rattle.plc_base.specs.declared.address.Eui.{Eui}
use Rattle.plc_base.specs.declared.tags.TagList.{TagList}
use Rattle.plc_base.specs.Grant.{Granted}
use Rattle.store_tables.specs.Writes.{puts_of}
use Rattle.group_keys.specs.declared.key_book.BookEntry.{BookEntry}
use Rattle.group_keys.specs.KeyBook as book
use Rattle.eap_psk.specs.declared.server.Agreed.{Agreed}
use Rattle.joining_messages.specs.declared.message.JoinMessage.{JoinMessage}
use Rattle.joining_messages.specs.declared.message.JoinBody.TheVariants.{Accept}
use Rattle.node_rules.specs.declared.heard.CoordinatorHeard.TheVariants.{Keyed, Done}
use Rattle.node_rules.specs.Memory.{Memory, CoordinatorSession}
use Rattle.node_rules.specs.Drafts.{Draft, empty_draft}
use Rattle.node_rules.specs.JoiningPackets.{message}
use Rattle.node_rules.specs.Coordinators.{Hearing, sessions_full, grant_for, with_session, without_session, with_book_entry}
use Rattle.coordinator.specs.JoiningReplies.{done_by, said_after}

-- A meter whose session is open: its next state and its entry have a place, and there is a grant for it.
pub record IsServed (m : Memory) (eui : Eui) : Type 0 where
  pub session : sessions_full m eui ≡ false
  pub entry : book.has_room m.book eui ≡ true
  pub grant : IsSome (grant_for m eui)

-- the session goes on, and the entry of its meter is another one
abbrev pub noting : Memory → CoordinatorSession → BookEntry → Draft Memory
noting m s e = with_book_entry e (empty_draft (with_session s m))

-- the memory that is left then
abbrev pub noted : Memory → CoordinatorSession → BookEntry → Memory
noted m s e = record (with_session s m) { book = book.with_entry m.book e }

-- and the third packet goes out
abbrev pub keying : Memory → CoordinatorSession → BookEntry → JoinMessage → Granted → TagList → ℕ → Hearing
keying m s e join granted tags now =
    said_after m s.way join now (done_by (puts_of (book.change_write m.book e)) (noted m s e) tags)
    (Keyed s.server.eui granted)

-- the session ends, and the acceptance goes out
abbrev pub accepting : Memory → CoordinatorSession → Agreed → TagList → ℕ → Hearing
accepting m s agreed tags now =
    said_after m s.way (message s.server.eui (Accept 2)) now (done_by [] (without_session s.server.eui m) tags)
    (Done s.server.eui agreed)
