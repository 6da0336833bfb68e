-- How what a meter or the coordinator does is made: the words of the line, and those over all of the memory.
use Rattle.std.proofs.Common.{◌≡◌, ℕ, true, false, List, [], ◌∷◌, ◌++◌, Some, None, length}
use Rattle.std.specs.Prelude.{nat_lt}
use Rattle.plc_base.specs.declared.address.Eui.{Eui}
use Rattle.plc_base.specs.declared.key.Key.{Key}
use Rattle.plc_base.specs.declared.key.RandomOctets.{RandomOctets}
use Rattle.plc_base.specs.declared.tags.PairTag.{PairTag}
use Rattle.plc_base.specs.Grant.{Granted}
use Rattle.group_keys.specs.declared.key_book.BookEntry.{BookEntry}
use Rattle.group_keys.specs.KeyBook as book
use Rattle.joining_messages.specs.declared.message.JoinMessage.{JoinMessage}
use Rattle.node_rules.specs.Memory.{StationMemory, Memory, MeterSession, CoordinatorSession}
use Rattle.node_rules.specs.Drafts.{Draft, empty_draft}
use Rattle.node_rules.specs.MemoryDrafts.{on_station, station_part, with_memory_by, with_pair_tags, goes_up, goes_down, oldest, without_oldest}
use Rattle.node_rules.specs.Meters as meters
use Rattle.node_rules.specs.Coordinators as coordinators
use Rattle.node_rules.proofs.MemoryDraftShapes.{whole}
use Rattle.line_laws.proofs.Made.{RingWord, Given, Made}

-- what changes of a memory beside its line and its book, of which nothing is stored
pub data Beside (E : Eui → Type 0) (m : Memory) : Memory → Type 0 where
  Ends : Beside E m (meters.with_session None m)
  Asks : (s : MeterSession) → Beside E m (meters.with_session (Some s) m)
  Replies : (s : MeterSession) (value : RandomOctets) → oldest m ≡ Some value → Beside E m (meters.with_session (Some s) (without_oldest m))
  Opens : (s : CoordinatorSession) (value : RandomOctets) → oldest m ≡ Some value → coordinators.sessions_full m s.server.eui ≡ false → E s.server.eui
      → Beside E m (coordinators.with_session s (without_oldest m))
  Answers : (s t : CoordinatorSession) (eui : Eui) → coordinators.session_of m eui ≡ Some t → s.server.eui ≡ t.server.eui
      → Beside E m (coordinators.with_session s m)
  Closes : (eui : Eui) → Beside E m (coordinators.without_session eui m)
  Gives : (value : RandomOctets) → nat_lt 7 (length m.randoms) ≡ false → Beside E m (record m { randoms = m.randoms ++ value ∷ [] })

-- an EUI that a call is given, or that of a session
pub data EuiFrom (E : Eui → Type 0) (m : Memory) : Eui → Type 0 where
  Known : (eui : Eui) → E eui → EuiFrom E m eui
  OfSession : (eui : Eui) (s : CoordinatorSession) → coordinators.session_of m eui ≡ Some s → EuiFrom E m s.server.eui

-- what becomes of the entry of a meter: L holds of a grant whose keys are noted as issued, P of a pair key that is given
pub data EntryChange (L : Granted → Type 0) (P : Eui → Key → Type 0) (E : Eui → Type 0) (m : Memory) (b : book.Book) : BookEntry → Type 0 where
  Allows : (eui : Eui) (psk : Key) → E eui → P eui psk → book.has_room b eui ≡ true → EntryChange L P E m b (book.allowed_entry eui psk (book.entry_for b eui))
  Issues : (eui : Eui) (granted : Granted) (e : BookEntry) → EuiFrom E m eui → L granted → book.allowed_one b eui ≡ Some e
      → EntryChange L P E m b (book.issued_entry eui granted e)
  Kicks : (eui : Eui) (e : BookEntry) → E eui → book.allowed_one b eui ≡ Some e → EntryChange L P E m b (book.kicked_entry e.eui e)

-- the same call without what came: no later word of a joining carries on what was heard
abbrev pub unheard : Given → Given
unheard g = record { got = None; cost = g.cost; note = 0; now = g.now; near = None }

-- The doing is made of words.
pub data MadeIn (W : RingWord → Type 0) (L : Granted → Type 0) (P : Eui → Key → Type 0) (E : Eui → Type 0) (g : Given) (m : Memory) : Draft Memory
    → Type 0 where
  Begins : MadeIn W L P E g m (empty_draft m)
  Station : (d : Draft StationMemory) → Made W g (empty_draft m.station) d → MadeIn W L P E g m (whole m d)
  OnStation : (word : Draft StationMemory → Draft StationMemory) (d : Draft Memory) → MadeIn W L P E g m d
      → Made W (unheard g) (station_part d) (word (station_part d)) → MadeIn W L P E g m (on_station word d)
  Remembers : (change : Memory → Memory) (d : Draft Memory) → MadeIn W L P E g m d → Beside E d.memory (change d.memory)
      → MadeIn W L P E g m (with_memory_by change d)
  Tags : (made opened : List PairTag) (d : Draft Memory) → MadeIn W L P E g m d → MadeIn W L P E g m (with_pair_tags made opened d)
  Enters : (e : BookEntry) (d : Draft Memory) → MadeIn W L P E g m d → EntryChange L P E m d.memory.book e
      → MadeIn W L P E g m (coordinators.with_book_entry e d)
  Up : (agent : ℕ) (own : Eui) (message : JoinMessage) (d : Draft Memory) → MadeIn W L P E g m d → MadeIn W L P E g m (goes_up agent own message d)
  Down : (own : ℕ) (message : JoinMessage) (d : Draft Memory) → MadeIn W L P E g m d → MadeIn W L P E g m (goes_down own message d)
