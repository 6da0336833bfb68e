-- What the coordinator does: letting meters in, answering their messages, and handing out keys.
use Rattle.std.specs.Prelude.{ℕ, ◌+◌, Bool, true, false, not, ◌==◌, ◌&&◌, nat_lt, List, [], ◌∷◌, ◌++◌, length, set, position, slice_get, is_some, Option, Some}
use Rattle.std.specs.Prelude.{None, Result, Ok, Err, if◌then◌else◌}
use Rattle.std.specs.List.{filter}
use Rattle.std.specs.Option.{option_map, option_map_or, option_and_then}
use Rattle.plc_base.specs.Faults.{◌then◌, ◌when◌}
use Rattle.plc_base.specs.declared.address.Eui.{Eui}
use Rattle.plc_base.specs.declared.key.Key.{Key}
use Rattle.plc_base.specs.declared.key.RandomOctets.{RandomOctets}
use Rattle.plc_base.specs.Grant.{Granted}
use Rattle.store_tables.specs.Writes.{puts_of}
use Rattle.node_rules.specs.declared.refusal.RingRefusal.{RingRefusal}
use Rattle.node_rules.specs.declared.refusal.RingRefusal.TheVariants.{Store}
use Rattle.group_keys.specs.declared.key_book.BookEntry.{BookEntry}
use Rattle.group_keys.specs.KeyRing as ring
use Rattle.group_keys.specs.KeyBook as book
use Rattle.joining_messages.specs.declared.message.JoinMessage.{JoinMessage}
use Rattle.joining_messages.specs.declared.message.JoinBody.{JoinBody}
use Rattle.joining_messages.specs.declared.message.JoinBody.TheVariants as body
use Rattle.joining_messages.specs.Reader.{join_in}
use Rattle.eap_psk.specs.Messages.{granting_text}
use Rattle.eap_psk.specs.Tags.{mac_p_tag, mac_s_tag, granting_tag, success_tag}
use Rattle.eap_psk.specs.declared.server.Server.{Server}
use Rattle.node_rules.specs.Accepted.{Accepted}
use Rattle.node_rules.specs.declared.heard.Heard.{Heard}
use Rattle.node_rules.specs.declared.heard.CoordinatorHeard.{CoordinatorHeard}
use Rattle.node_rules.specs.declared.heard.CoordinatorHeard.TheVariants as heard
use Rattle.node_rules.specs.declared.heard.Way.{Way}
use Rattle.node_rules.specs.declared.heard.Way.TheVariants.{Air, Near, Mesh}
use Rattle.node_rules.specs.declared.refusal.Dropped.{Dropped}
use Rattle.node_rules.specs.declared.refusal.Dropped.TheVariants as drops
use Rattle.node_rules.specs.declared.refusal.CoordinatorRefusal.{CoordinatorRefusal}
use Rattle.node_rules.specs.declared.refusal.CoordinatorRefusal.TheVariants as refusal
use Rattle.node_rules.specs.Ciphers.{Ciphers}
use Rattle.node_rules.specs.Memory.{StationMemory, Memory, CoordinatorSession, next_hop}
use Rattle.node_rules.specs.Plans.{Plan, resting, within}
use Rattle.node_rules.specs.Acceptance.{same_eui}
use Rattle.node_rules.specs.Drafts.{Draft, Ends, Lack, OfRoom, OfNumbers, empty_draft, counters_left, refused, sealing, sealed, checked, choose}
use Rattle.node_rules.specs.HearingRules.{dropped, hear}
use Rattle.node_rules.specs.Calls as calls
use Rattle.node_rules.specs.JoiningPackets.{first_packet, server_for, server_agrees, message, command_of}
use Rattle.eap_psk.specs.Sessions.{rand_p_in}
use Rattle.node_rules.specs.MemoryDrafts.{with_station, in_memory, on_station, with_memory_by, with_pair_tags, goes_down, is_commanded, command_lack, oldest}
use Rattle.node_rules.specs.MemoryDrafts.{without_oldest, Unread, unread, packet_fault}
use Rattle.node_rules.specs.Drafts as drafts
use Rattle.node_rules.specs.declared.session_time.TheConstants.{SESSION_TIME}

-- what the coordinator does about a frame that was accepted
abbrev pub Hearing : Type 0
Hearing = Plan Memory (Result CoordinatorHeard Dropped)

-- The coordinator: its identity, and what its packets are made with.
pub record CoordinatorIdentity : Type 0 where
  pub eui : Eui
  pub ciphers : Ciphers

-- nothing has changed
abbrev pub drop_it : Memory → Dropped → Hearing
drop_it m reason = refused dropped m reason

-- the doing is carried to its end
abbrev pub ends : Memory → Draft Memory → CoordinatorHeard → Hearing
ends m d answer = sealed in_memory dropped m d answer

-- # Sessions

-- whether a session is that of a meter
abbrev pub is_of : Eui → CoordinatorSession → Bool
is_of eui s = same_eui s.server.eui eui

-- the session of a meter, where one is open
abbrev pub session_of : Memory → Eui → Option CoordinatorSession
session_of m eui = option_and_then (slice_get m.sessions) (position (is_of eui) m.sessions)

-- the session of a meter ends
abbrev pub without_session : Eui → Memory → Memory
without_session eui m = record m { sessions = filter (λ s. not (is_of eui s)) m.sessions }

-- a session stands in the place of that of its meter, or after the others
abbrev pub with_session : CoordinatorSession → Memory → Memory
with_session s m = record m {
  sessions =
      option_map_or (λ place. set m.sessions place s) (position (is_of s.server.eui) m.sessions) (m.sessions ++ s ∷ []);
}

-- whether a session more can't be opened for a meter: it has none, and 8 are open
abbrev pub sessions_full : Memory → Eui → Bool
sessions_full m eui = if is_some (session_of m eui) then false else nat_lt 7 (length m.sessions)

-- # The book

-- the entry of a meter is another one: it is stored where it has changed
unfoldable pub with_book_entry : BookEntry → Draft Memory → Draft Memory
with_book_entry e d = record d {
  puts = d.puts ++ puts_of (book.change_write d.memory.book e);
  memory = record d.memory { book = book.with_entry d.memory.book e };
}

-- the entry of a meter that is allowed
abbrev pub allowed_entry : Memory → Eui → Option BookEntry
allowed_entry m eui = book.allowed_one m.book eui

-- what the coordinator grants a meter: its address in the book, and the keys of the ring
abbrev pub grant_for : Memory → Eui → Option Granted
grant_for m eui =
    option_and_then (λ address. option_map (λ (g : Granted). record g { address = address }) m.station.ring)
    (book.address_of m.book eui)

-- # What is said to a meter

-- it goes the way of a session: in a plain frame, or in a command
abbrev pub says : Way → JoinMessage → ℕ → Draft Memory → Draft Memory
says (Air eui) join now d = goes_down 0 join d
says (Near agent) join now d = d
says (Mesh origin) join now d = is_commanded origin join now d

-- what the message lacks: only a command lacks anything
abbrev pub say_lack : Memory → Way → JoinMessage → Option Dropped
say_lack m (Air eui) join = None
say_lack m (Near agent) join = None
say_lack m (Mesh origin) join = command_lack m origin join

-- # JOIN without a packet

-- a meter that is not allowed is declined
abbrev pub declines : Memory → Way → JoinMessage → ℕ → Hearing
declines m way join now =
    checked dropped m (say_lack m way join) (ends m (says way join now (empty_draft m)) heard.Declined)

-- what stands in the way of a session
abbrev pub session_fault : Memory → Eui → Option Dropped
session_fault m eui = Some drops.SessionsFull when sessions_full m eui

-- the oldest random value is taken, and a session of the meter begins
abbrev pub opens : CoordinatorSession → Draft Memory → Draft Memory
opens s d = with_memory_by (λ n. with_session s (without_oldest n)) d

-- the first packet goes to the meter
abbrev pub challenges : Memory → Way → Server → ℕ → Hearing
challenges m way server now =
    let join = message server.eui (body.Challenge (first_packet server)) in
    checked dropped m (say_lack m way join)
    (ends m (says way join now
    (opens (record { server = server; way = way; since = now }) (empty_draft m))) heard.Challenged)

-- a session is opened where there is room for it and a random value is left
abbrev pub open_session : CoordinatorIdentity → Memory → Way → Eui → ℕ → Hearing
open_session own m way eui now =
    checked dropped m (session_fault m eui)
    (option_map_or (λ value. challenges m way (server_for eui own.eui value) now) (oldest m) (drop_it m drops.NoRandom))

-- a meter asks: the allowed one is challenged, the other one declined
abbrev pub join_without_packet : CoordinatorIdentity → Memory → Way → Eui → ℕ → Hearing
join_without_packet own m way eui now =
    choose (book.is_allowed m.book eui) (open_session own m way eui now) (declines m way (message eui body.Decline) now)

-- # JOIN with a packet

-- the second packet: the grant's keys are noted as issued, and the third packet goes the session's way
abbrev pub keys_for : CoordinatorIdentity → Memory → CoordinatorSession → BookEntry → RandomOctets → Granted → ℕ → Hearing
keys_for own m s e rand_p granted now =
    let join = message s.server.eui (body.Challenge (own.ciphers.third e.psk s.server rand_p granted)) in
    checked dropped m (say_lack m s.way join)
    (ends m
    (says s.way join now
    (with_pair_tags (mac_s_tag s.server.eui s.server.id_s rand_p
    ∷ granting_tag s.server.eui 2 s.server.rand_s rand_p (granting_text granted) ∷ [])
    (mac_p_tag s.server.eui s.server.id_s s.server.rand_s rand_p ∷ [])
    (with_book_entry (book.issued_entry s.server.eui granted e)
    (with_memory_by (with_session (record s { server = record s.server { rand_p = Some rand_p } })) (empty_draft m)))))
    (heard.Keyed s.server.eui granted))

-- the second packet is refused by its first fault, and answered with the keys else
abbrev pub take_second : CoordinatorIdentity → Memory → CoordinatorSession → BookEntry → List ℕ → ℕ → Hearing
take_second own m s e packet now =
    checked dropped m (option_map packet_fault (own.ciphers.second_fault e.psk s.server packet))
    (option_map_or (λ granted. keys_for own m s e (rand_p_in packet) granted now) (grant_for m s.server.eui)
    (drop_it m drops.NotAllowed))

-- the fourth packet: the session ends, and the acceptance goes its way
abbrev pub accepts : Memory → CoordinatorSession → RandomOctets → ℕ → Hearing
accepts m s rand_p now =
    let join = message s.server.eui (body.Accept 2) in
    checked dropped m (say_lack m s.way join)
    (ends m
    (says s.way join now
    (with_pair_tags [] (success_tag s.server.eui 2 s.server.rand_s rand_p ∷ [])
    (with_memory_by (without_session s.server.eui) (empty_draft m))))
    (heard.Done s.server.eui (server_agrees s.server rand_p)))

-- the fourth packet is refused by its first fault, and accepted else
abbrev pub take_fourth : CoordinatorIdentity → Memory → CoordinatorSession → BookEntry → List ℕ → RandomOctets → ℕ → Hearing
take_fourth own m s e packet rand_p now =
    checked dropped m (option_map packet_fault (own.ciphers.fourth_fault e.psk s.server rand_p packet))
    (accepts m s rand_p now)

-- a session that has RAND_P waits for the fourth packet, another one for the second
abbrev pub take_packet : CoordinatorIdentity → Memory → BookEntry → List ℕ → ℕ → CoordinatorSession → Hearing
take_packet own m e packet now s =
    option_map_or (λ rand_p. take_fourth own m s e packet rand_p now) s.server.rand_p (take_second own m s e packet now)

-- a packet comes from a meter that is allowed and has a session
abbrev pub join_with_packet : CoordinatorIdentity → Memory → Eui → List ℕ → ℕ → Hearing
join_with_packet own m eui packet now =
    option_map_or (λ e. option_map_or (take_packet own m e packet now) (session_of m eui) (drop_it m drops.NoSession))
    (allowed_entry m eui) (drop_it m drops.NotAllowed)

-- # A joining message

-- a JOIN comes in a command from any origin, or in a plain frame up from its own meter
abbrev pub may_come : Way → Eui → Bool
may_come (Air from) eui = same_eui from eui
may_come (Near agent) eui = false
may_come (Mesh origin) eui = true

-- a JOIN asks or answers, and the coordinator hears no other message
abbrev pub hear_join : CoordinatorIdentity → Memory → Way → Eui → JoinBody → ℕ → Hearing
hear_join own m way eui (body.Join []) now = join_without_packet own m way eui now
hear_join own m way eui (body.Join (x ∷ packet)) now = join_with_packet own m eui (x ∷ packet) now
hear_join own m way eui _ now = drop_it m drops.BadUnit

-- octets that spell no joining message are dropped
abbrev pub hear_join_in : CoordinatorIdentity → Memory → Way → Option JoinMessage → ℕ → Hearing
hear_join_in own m way None now = drop_it m drops.BadUnit
hear_join_in own m way (Some join) now =
    choose (may_come way join.eui) (hear_join own m way join.eui join.body now) (drop_it m drops.BadUnit)

-- # A frame that was accepted

-- what the line made of a frame, as the coordinator says it
abbrev pub heard_by_station : Result Heard Dropped → Result CoordinatorHeard Dropped
heard_by_station (Ok h) = Ok (heard.Station h)
heard_by_station (Err reason) = Err reason

-- a joining command is for the coordinator, all else is what the line made of it
abbrev pub heard_by : CoordinatorIdentity → Memory → ℕ → Plan StationMemory (Result Heard Dropped) → Option Unread
    → Hearing
heard_by own m now p None = within (λ l. with_station l m) heard_by_station p
heard_by own m now p (Some u) = hear_join_in own m u.way (join_in u.body) now

-- what the coordinator makes of an accepted frame, which came over a link of this cost under this note
abbrev pub hear_coordinator : CoordinatorIdentity → Memory → Accepted → (cost note now : ℕ) → Hearing
hear_coordinator own m got cost note now =
    let p = hear m.station got cost note now in heard_by own m now p (unread p.answer)

-- # Beginning

-- a coordinator without a ring installs this grant
abbrev pub begin : Memory → Granted → Plan Memory (Result (Unit {0}) RingRefusal)
begin m granted =
    choose (is_some m.station.ring) (resting m (Ok tt) (Err Store))
    (within (λ l. with_station l m) (λ r. r) (calls.install m.station granted))

-- # Orders of the operator

-- what the coordinator does about an order
abbrev pub Ordering : Type 0 → Type 0
Ordering A = Plan Memory (Result A CoordinatorRefusal)

-- how the words of an order say that counters are spent, and that a store write failed
abbrev pub orders : Ends CoordinatorRefusal
orders = record { spent = refusal.CounterSpent; store = refusal.Store }

-- how they say what a body lacks
abbrev pub lacking : Lack → CoordinatorRefusal
lacking OfRoom = refusal.WaitingFull
lacking OfNumbers = refusal.SeqSpent

-- what a command to a meter of this address lacks
abbrev pub order_lack : Memory → ℕ → JoinMessage → Option CoordinatorRefusal
order_lack m to join = option_map lacking (drafts.lack m.station to (length (command_of join)))

-- whether an entry is another one than the book has
abbrev pub changes : Memory → BookEntry → Bool
changes m e = not (book.holds m.book e)

-- the entry changes, and where it does the session of its meter ends
abbrev pub changed : Memory → BookEntry → Draft Memory
changed m e =
    if changes m e then with_memory_by (without_session e.eui) (with_book_entry e (empty_draft m)) else empty_draft m

-- a meter is allowed, and has its address
abbrev pub allow : Memory → Eui → Key → Ordering ℕ
allow m eui psk =
    choose (book.has_room m.book eui)
    (sealing in_memory orders (changed m (book.allowed_entry eui psk (book.entry_for m.book eui)))
    (book.place_for m.book eui + 1))
    (refused orders m refusal.MetersFull)

-- a meter is joined in the workshop: it is allowed, and then the keys of its grant are noted as issued
abbrev pub depot_by : Memory → Eui → Key → Draft Memory → Ordering Granted
depot_by m eui psk d =
    option_map_or (λ granted. option_map_or
    (λ e. sealing in_memory orders (with_book_entry (book.issued_entry eui granted e) d) granted)
    (book.allowed_one d.memory.book eui) (refused orders m refusal.MetersFull))
    (grant_for d.memory eui) (refused orders m refusal.MetersFull)

-- there has to be room in the book
abbrev pub depot : Memory → Eui → Key → Ordering Granted
depot m eui psk =
    choose (book.has_room m.book eui)
    (depot_by m eui psk (changed m (book.allowed_entry eui psk (book.entry_for m.book eui))))
    (refused orders m refusal.MetersFull)

-- a key of the ring is drawn for an index
abbrev pub rekey : Memory → ℕ → Key → Ordering (Unit {0})
rekey m index key =
    choose (option_map_or (λ (g : Granted). g.active == index) m.station.ring false)
    (refused orders m refusal.IndexActive)
    (sealing in_memory orders (on_station (calls.with_key_at m.station index key) (empty_draft m)) tt)

-- another key of the ring seals from now on
abbrev pub activate_self : Memory → ℕ → Ordering (Unit {0})
activate_self m index =
    choose (calls.has_key m.station index)
    (sealing in_memory orders (on_station (calls.with_active m.station index) (empty_draft m)) tt)
    (refused orders m refusal.NotHeld)

-- a session with a meter is opened over the mesh
abbrev pub challenge_by : Eui → Memory → ℕ → ℕ → Server → Ordering (Unit {0})
challenge_by own m to now server =
    let join = message server.eui (body.Challenge (first_packet server)) in
    checked orders m (order_lack m to join)
    (sealed in_memory orders m
    (is_commanded to join now (opens (record { server = server; way = Mesh to; since = now }) (empty_draft m))) tt)

-- a session is opened where there is room for it and a random value is left
abbrev pub challenge_at : Eui → Memory → Eui → ℕ → ℕ → Ordering (Unit {0})
challenge_at own m eui now to =
    checked orders m (Some refusal.SessionsFull when sessions_full m eui)
    (option_map_or (λ value. challenge_by own m to now (server_for eui own value)) (oldest m)
    (refused orders m refusal.NoRandom))

-- the address of a meter that is allowed
abbrev pub allowed_address : Memory → Eui → Option ℕ
allowed_address m eui = if book.is_allowed m.book eui then book.address_of m.book eui else None

-- the meter has to be allowed
abbrev pub challenge : Eui → Memory → Eui → ℕ → Ordering (Unit {0})
challenge own m eui now =
    option_map_or (challenge_at own m eui now) (allowed_address m eui) (refused orders m refusal.NotAllowed)

-- whether the ring's key at an index was issued to a meter
abbrev pub same_as_issued : Option Key → Option Key → Bool
same_as_issued None issued = false
same_as_issued (Some key) None = false
same_as_issued (Some key) (Some issued) = book.same_key key issued

-- whether the ring's key at an index is the one that was issued to a meter
abbrev pub was_issued : Memory → BookEntry → ℕ → Bool
was_issued m e index = same_as_issued (ring.key_in_ring m.station.ring index) (book.issued_at e index)

-- a meter is ordered to seal with another key
abbrev pub activate_at : Memory → ℕ → JoinMessage → ℕ → Ordering (Unit {0})
activate_at m to join now =
    checked orders m (order_lack m to join) (sealed in_memory orders m (is_commanded to join now (empty_draft m)) tt)

-- the key has to be issued to the meter
abbrev pub activate_by : Memory → BookEntry → ℕ → ℕ → ℕ → Ordering (Unit {0})
activate_by m e index now to =
    choose (was_issued m e index) (activate_at m to (message e.eui (body.Activate index)) now)
    (refused orders m refusal.NotIssued)

-- the meter has to be allowed
abbrev pub activate : Memory → Eui → ℕ → ℕ → Ordering (Unit {0})
activate m eui index now =
    option_map_or (λ e. option_map_or (activate_by m e index now) (book.address_of m.book eui)
    (refused orders m refusal.NotAllowed))
    (allowed_entry m eui) (refused orders m refusal.NotAllowed)

-- a meter is shut out, its session ends, and a command goes where there is a route and a counter for it; so the command never waits,
-- and the time that it would wait from is no matter
abbrev pub kick_goes : Memory → ℕ → JoinMessage → Draft Memory → Draft Memory
kick_goes m to join d =
    if is_some (next_hop m.station to) && nat_lt 0 (counters_left m.station) then is_commanded to join 0 d else d

-- the entry is stored as kicked, the session ends, and the word goes out
abbrev pub kick_by : Memory → BookEntry → ℕ → Ordering (Unit {0})
kick_by m e to =
    sealing in_memory orders
    (kick_goes m to (message e.eui body.Kick)
    (with_memory_by (without_session e.eui) (with_book_entry (book.kicked_entry e.eui e) (empty_draft m)))) tt

-- the meter has to be allowed
abbrev pub kick : Memory → Eui → Ordering (Unit {0})
kick m eui =
    option_map_or (λ e. option_map_or (kick_by m e) (book.address_of m.book eui) (refused orders m refusal.NotAllowed))
    (allowed_entry m eui) (refused orders m refusal.NotAllowed)

-- # Time

-- the clock goes on: what is too old ends
abbrev pub tick : ℕ → Memory → Memory
tick now m =
    record m {
      station = calls.tick now m.station;
      sessions = filter (λ (s : CoordinatorSession). calls.is_within SESSION_TIME now s.since) m.sessions;
    }
