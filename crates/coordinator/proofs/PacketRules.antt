-- What the packets of a meter come to.
use Rattle.std.proofs.Common.{arith, ◌≡◌, ℕ, ◌+◌, ◌<◌, Bool, true, false, List, [], get_or, Option, Some, None, Result, Err, refl, sym, ap, subst, ◌∙◌}
use Rattle.std.specs.Prelude.{if◌then◌else◌, ◌||◌, ◌==◌, nat_lt, length, is_some, IfSome, IsSome, slice_get, position}
use Rattle.std.specs.Option.{option_map, option_map_or, option_and_then}
use Rattle.std.proofs.lemmas.Option.{slice_get-get_or}
use Rattle.plc_base.specs.Addresses.{eui_number}
use Rattle.plc_base.specs.Keeper.{Store}
use Rattle.store_tables.specs.Writes.{Wrote, puts_of}
use Rattle.store_tables.specs.SlotTables as slots
use Rattle.plc_base.specs.Grant.{Granted}
use Rattle.plc_base.specs.declared.address.Eui.{Eui}
use Rattle.plc_base.specs.declared.key.RandomOctets.{RandomOctets}
use Rattle.plc_base.specs.declared.out_frame.Out.{Out}
use Rattle.plc_base.specs.declared.tags.TagList.{TagList}
use Rattle.store_tables.proofs.SlotTables.{found}
use Rattle.store_tables.proofs.WritesLemmas.{wrote_none}
use Rattle.group_keys.specs.declared.key_book.BookEntry.{BookEntry}
use Rattle.group_keys.specs.KeyBook as book
use Rattle.eap_psk.specs.Keys.{PairKeys, keys_of}
use Rattle.eap_psk.specs.Faults.{second_fault, fourth_fault}
use Rattle.eap_psk.specs.Sessions.{peer_of, rand_p_in, server_after, third_packet}
use Rattle.eap_psk.specs.Tags.{second_tags, fourth_tags}
use Rattle.eap_psk.specs.declared.fault.EapFault.{EapFault}
use Rattle.eap_psk.specs.declared.server.Agreed.{Agreed}
use Rattle.eap_psk.specs.declared.server.Server.{Server}
use Rattle.joining_messages.specs.declared.message.JoinMessage.{JoinMessage}
use Rattle.joining_messages.specs.declared.message.JoinBody.TheVariants.{Challenge, Accept}
use Rattle.node_rules.specs.declared.heard.CoordinatorHeard.{CoordinatorHeard}
use Rattle.node_rules.specs.declared.heard.CoordinatorHeard.TheVariants.{Keyed, Done}
use Rattle.node_rules.specs.declared.refusal.Dropped.{Dropped}
use Rattle.node_rules.specs.declared.refusal.Dropped.TheVariants.{NotAllowed, NoSession}
use Rattle.node_rules.specs.Ciphers.{network}
use Rattle.node_rules.specs.Memory.{StationMemory, Memory, CoordinatorSession, address_of}
use Rattle.node_rules.specs.MemoryDrafts.{with_memory_by, with_pair_tags, packet_fault}
use Rattle.node_rules.specs.JoiningPackets.{message, server_agrees}
use Rattle.node_rules.specs.Drafts.{empty_draft, refused, checked}
use Rattle.node_rules.specs.HearingRules.{dropped}
use Rattle.node_rules.specs.Coordinators.{CoordinatorIdentity, Hearing, session_of, is_of, allowed_entry, grant_for, with_session, without_session}
use Rattle.node_rules.specs.Coordinators.{with_book_entry, keys_for, take_second, accepts, take_fourth, take_packet, join_with_packet}
use Rattle.node_rules.specs.States.{State}
use Rattle.node_rules.specs.CarriedPlans.{Carries}
use Rattle.plc_station.proofs.CarriedPlans.{at_some}
use Rattle.coordinator.specs.CoordinatorAgreement.{CoordinatorAgreesWith}
use Rattle.coordinator.specs.CoordinatorStates.{memory_in, state_in}
use Rattle.coordinator.specs.DraftsCarriedOut.{Does}
use Rattle.coordinator.specs.Tables.{placed}
use Rattle.coordinator.specs.JoiningReplies.{RoomToSay, say_fault, done_by, saying, said_after}
use Rattle.coordinator.specs.Packets.{IsServed, noting, noted, keying, accepting}
use Rattle.coordinator.proofs.StoredChanges.{carried_by}
use Rattle.coordinator.proofs.DepotJoins.{no_grant}
use Rattle.coordinator.proofs.ReplyRules as sayings

-- # A session and an entry that are found

-- the sessions as a table by the numbers of their meters
by_number : slots.Layout CoordinatorSession
by_number = record {
  first = 0;
  slots = 8;
  read = λ _ _. None;
  octets = λ _ _. [];
  storable = λ _. true;
  rest = λ s. s;
  key = λ s. eui_number s.server.eui;
}

some_same : {A : Type 0} (x y : A) → ◌≡◌ {A = Option A} (Some x) (Some y) → x ≡ y
some_same x y h = cc

-- the session that is found is that of the meter
session_number : (sessions : List CoordinatorSession) (eui : Eui) (s : CoordinatorSession)
    → Some s ≡ option_and_then (slice_get sessions) (position (is_of eui) sessions)
    → eui_number s.server.eui ≡ eui_number eui
unfolding by_number
session_number sessions eui s is = by_place (position (is_of eui) sessions) refl is
  where
    by_place : (o : Option ℕ) → position (is_of eui) sessions ≡ o → Some s ≡ option_and_then (slice_get sessions) o → eui_number s.server.eui ≡ eui_number eui
    by_place None at got = absurd (cc)
    by_place (Some place) at got =
        let f = found by_number sessions (eui_number eui) place s at in
        ap (λ (x : CoordinatorSession). eui_number x.server.eui) (some_same s (get_or sessions place s) (got ∙ slice_get-get_or sessions place s f.0)) ∙ f.1

-- an entry that is found has a place
has_place : (b : book.Book) (eui : Eui) (e : BookEntry) → Some e ≡ book.allowed_one b eui → is_some (book.place_of b eui) ≡ true
has_place b eui e may = by_place (book.place_of b eui) may
  where
    by_place : (o : Option ℕ) → Some e ≡ option_map_or (λ (x : BookEntry). if x.allowed then Some x else None) (option_and_then (slice_get b) o) None
        → is_some o ≡ true
    by_place None h = absurd (cc)
    by_place (Some place) h = refl

is_there : {A : Type 0} (o : Option A) → (None ≡ o → ⊥) → IsSome o
is_there None h = absurd (h refl)
is_there (Some x) h = refl

-- what is looked up by the number of a meter
room_by : Memory → ℕ → Bool
room_by m n = is_some (slots.place_of book.entries m.book n) || nat_lt (length m.book) 999

grant_by : Memory → ℕ → Option Granted
grant_by m n =
    option_and_then (λ address. option_map (λ (g : Granted). record g { address = address }) m.station.ring)
    (option_map (λ place. place + 1) (slots.place_of book.entries m.book n))

session_by : Memory → ℕ → Option CoordinatorSession
session_by m n = option_and_then (slice_get m.sessions) (position (λ (s : CoordinatorSession). eui_number s.server.eui == n) m.sessions)

full_by : Memory → Option CoordinatorSession → Bool
full_by m o = if is_some o then false else nat_lt 7 (length m.sessions)

-- the meter of a session that is found, and that is allowed, is served
pub served : (m : Memory) (eui : Eui) (e : BookEntry) (s : CoordinatorSession) → address_of m.station ≡ Some 0 → Some e ≡ allowed_entry m eui
    → Some s ≡ session_of m eui → IsServed m s.server.eui
unfolding room_by grant_by session_by full_by
served m eui e s home may is =
    let same : eui_number s.server.eui ≡ eui_number eui = session_number m.sessions eui s is in
    record {
      session = ap (full_by m) (ap (session_by m) same ∙ sym is);
      entry = ap (room_by m) same ∙ ap (λ (b : Bool). b || nat_lt (length m.book) 999) (has_place m.book eui e may);
      grant = subst (λ (o : Option Granted). IsSome o) (sym (ap (grant_by m) same))
          (is_there (grant_for m eui) (λ none. no_grant m eui (subst (λ (o : Option BookEntry). IsSome o) may refl) home none));
    }

-- # The plan, by what is tested

module _ (own : CoordinatorIdentity) (m : Memory) (eui : Eui) (packet : List ℕ) (now : ℕ) where
  pub not_allowed : None ≡ allowed_entry m eui → refused {H = CoordinatorHeard} dropped m NotAllowed ≡ join_with_packet own m eui packet now
  not_allowed e = rw (← e) refl

  pub no_session : (entry : BookEntry) → Some entry ≡ allowed_entry m eui → None ≡ session_of m eui
      → refused {H = CoordinatorHeard} dropped m NoSession ≡ join_with_packet own m eui packet now
  no_session entry e s = rw (← e, ← s) refl

  pub answers : (entry : BookEntry) (session : CoordinatorSession) → Some entry ≡ allowed_entry m eui → Some session ≡ session_of m eui
      → take_packet own m entry packet now session ≡ join_with_packet own m eui packet now
  answers entry session e s = rw (← e, ← s) refl

module _ (own : CoordinatorIdentity) (m : Memory) (e : BookEntry) (packet : List ℕ) (now : ℕ) (s : CoordinatorSession) where
  by_rand : Option RandomOctets → Hearing
  by_rand o = option_map_or (λ rand_p. take_fourth own m s e packet rand_p now) o (take_second own m s e packet now)

  pub second_awaited : None ≡ s.server.rand_p → take_second own m s e packet now ≡ take_packet own m e packet now s
  unfolding by_rand
  second_awaited r = ap by_rand r

  pub fourth_awaited : (rand_p : RandomOctets) → Some rand_p ≡ s.server.rand_p → take_fourth own m s e packet rand_p now ≡ take_packet own m e packet now s
  unfolding by_rand
  fourth_awaited rand_p r = ap by_rand r

-- what has no reason has no fault
pub none_mapped : (o : Option EapFault) → option_map packet_fault o ≡ None → o ≡ None
none_mapped None h = refl
none_mapped (Some fault) h = absurd (cc)

-- # The second packet

module _ (own : Eui) (m : Memory) (s : CoordinatorSession) (e : BookEntry) (packet : List ℕ) (now : ℕ) where
  coordinator : CoordinatorIdentity
  coordinator = record { eui = own; ciphers = network }

  second_by : Option EapFault → Option Granted → Hearing
  second_by fault grant =
      checked dropped m (option_map packet_fault fault)
      (option_map_or (λ granted. keys_for (record { eui = own; ciphers = network }) m s e (rand_p_in packet) granted now) grant (refused dropped m NotAllowed))

  pub second_refused : (reason : Dropped) → option_map packet_fault (second_fault (keys_of e.psk.0) s.server packet) ≡ Some reason
      → refused {H = CoordinatorHeard} dropped m reason ≡ take_second (record { eui = own; ciphers = network }) m s e packet now
  unfolding checked
  second_refused reason is =
      ap (λ o. checked dropped m o
      (option_map_or (λ granted. keys_for (record { eui = own; ciphers = network }) m s e (rand_p_in packet) granted now) (grant_for m s.server.eui)
      (refused dropped m NotAllowed))) (sym is)

  pub second_taken : (granted : Granted) → second_fault (keys_of e.psk.0) s.server packet ≡ None → Some granted ≡ grant_for m s.server.eui
      → keys_for (record { eui = own; ciphers = network }) m s e (rand_p_in packet) granted now
      ≡ take_second (record { eui = own; ciphers = network }) m s e packet now
  unfolding checked second_by
  second_taken granted is grant = λ i. second_by (sym is i) (grant i)

  -- what the coordinator does about it
  pub keys_plan : (next : Server) (entry : BookEntry) (join : JoinMessage) (eap : List ℕ) (granted : Granted) (tags : TagList)
      → next ≡ server_after s.server packet → entry ≡ book.issued_entry s.server.eui granted e
      → join ≡ message s.server.eui (Challenge eap) → eap ≡ third_packet (keys_of e.psk.0) 2 (peer_of s.server (rand_p_in packet)) granted
      → tags ≡ second_tags (peer_of s.server (rand_p_in packet)) granted
      → keying m (record { server = next; way = s.way; since = s.since }) entry join granted tags now
      ≡ keys_for (record { eui = own; ciphers = network }) m s e (rand_p_in packet) granted now
  unfolding with_pair_tags with_book_entry with_memory_by empty_draft
  keys_plan next entry join eap granted tags server issued same written made =
      λ i. keying m (record { server = server i; way = s.way; since = s.since }) (issued i) ((same ∙ ap (λ p. message s.server.eui (Challenge p)) written) i)
      granted (made i) now

-- # What is noted

module _ (s : State Memory) (m : Memory) (session : CoordinatorSession) (e : BookEntry) where
  noted_by : (mid t : State Memory) (done : Bool) → mid ≡ record s { memory = Some (with_session session m) }
      → IfSome mid.memory (λ n. Does mid (with_book_entry e (empty_draft n)) done t)
      → Does s (noting m session e) done t
  noted_by mid t done is does =
      let d = at_some mid.memory (λ n. Does mid (with_book_entry e (empty_draft n)) done t) (with_session session m) (ap (λ (x : State Memory). x.memory) is)
      does in
      record {
        wrote = subst (λ (k : Store). Wrote k (noting m session e).puts done t.store) (ap (λ (x : State Memory). x.store) is) d.wrote;
        state = d.state ∙ (λ i. record t { eui = (is i).eui; memory = if done then Some (noting m session e).memory else None });
      }

  -- the same of an entry that is this one
  pub noted_as : (f : BookEntry) → e ≡ f → (mid t : State Memory) (done : Bool) → mid ≡ record s { memory = Some (with_session session m) }
      → IfSome mid.memory (λ n. Does mid (with_book_entry e (empty_draft n)) done t)
      → Does s (noting m session f) done t
  noted_as f same mid t done is does = subst (λ (x : BookEntry). Does s (noting m session x) done t) same (noted_by mid t done is does)

  pub entry_room : (mid : State Memory) → mid ≡ record s { memory = Some (with_session session m) } → book.has_room m.book e.eui ≡ true
      → IfSome mid.memory (λ n. book.has_room n.book e.eui ≡ true)
  entry_room mid is room = subst (λ (o : Option Memory). IfSome o (λ n. book.has_room n.book e.eui ≡ true)) (sym (ap (λ (x : State Memory). x.memory) is)) room

  module _ (join : JoinMessage) (granted : Granted) (tags : TagList) (now : ℕ) (h : CoordinatorAgreesWith m s.store.records) where
    pub keys_lack : (reason : Dropped) → say_fault m session.way join ≡ Some reason
        → refused {H = CoordinatorHeard} dropped m reason ≡ keying m session e join granted tags now
    keys_lack reason fault =
        sayings.lacks_plan m (noted m session e) (puts_of (book.change_write m.book e)) tags join now (Keyed session.server.eui granted) refl h.home session.way
        reason fault

    pub keys_stopped : (t : State Memory) (out : Out) → RoomToSay m session.way join → Does s (noting m session e) false t
        → out ≡ record { frames = []; tags = record { made = []; opened = tags.opened } }
        → Carries s (keying m session e join granted tags now) (Err dropped.store) out t
    unfolding with_book_entry empty_draft
    keys_stopped t out room does is =
        sayings.unsaid m (noted m session e) (puts_of (book.change_write m.book e)) tags join now (Keyed session.server.eui granted) refl h.home session.way s t
        out room does.wrote
        (ap (λ (x : State Memory). x.eui) does.state) (ap (λ (x : State Memory). x.memory) does.state) is

    pub keys_room : (mid : State Memory) → Does s (noting m session e) true mid → RoomToSay m session.way join
        → IfSome mid.memory (λ k. RoomToSay k session.way join)
    unfolding with_book_entry empty_draft
    keys_room mid does room = sayings.room_held mid m (noted m session e) session.way join (ap (λ (x : State Memory). x.memory) does.state) refl room

    pub keys_given : (mid t : State Memory) (r : Result (Unit {0}) Dropped) (out : Out) → RoomToSay m session.way join → Does s (noting m session e) true mid
        → IfSome mid.memory (λ k. Carries mid (saying k session.way join tags now) r out t)
        → Carries s (keying m session e join granted tags now) (sayings.answered (Keyed session.server.eui granted) r) out t
    unfolding with_book_entry empty_draft
    keys_given mid t r out room does c =
        sayings.said m (noted m session e) (puts_of (book.change_write m.book e)) tags join now (Keyed session.server.eui granted) refl h.home session.way s mid
        t r out room does.wrote
        (ap (λ (x : State Memory). x.eui) does.state) (ap (λ (x : State Memory). x.memory) does.state) c

-- # The fourth packet

module _ (own : Eui) (m : Memory) (s : CoordinatorSession) (e : BookEntry) (packet : List ℕ) (rand_p : RandomOctets) (now : ℕ) where
  fourth_by : Option EapFault → Hearing
  fourth_by fault = checked dropped m (option_map packet_fault fault) (accepts m s rand_p now)

  pub fourth_refused : (reason : Dropped) → option_map packet_fault (fourth_fault (keys_of e.psk.0) s.server rand_p.0 packet) ≡ Some reason
      → refused {H = CoordinatorHeard} dropped m reason ≡ take_fourth (record { eui = own; ciphers = network }) m s e packet rand_p now
  unfolding checked
  fourth_refused reason is = ap (λ o. checked dropped m o (accepts m s rand_p now)) (sym is)

  accept_plan : (agreed : Agreed) (tags : TagList) → agreed ≡ server_agrees s.server rand_p → tags ≡ fourth_tags (peer_of s.server rand_p)
      → accepting m s agreed tags now ≡ accepts m s rand_p now
  unfolding with_pair_tags with_memory_by empty_draft
  accept_plan agreed tags is made = λ i. accepting m s (is i) (made i) now

  pub fourth_taken : (agreed : Agreed) (tags : TagList) → fourth_fault (keys_of e.psk.0) s.server rand_p.0 packet ≡ None
      → agreed ≡ server_agrees s.server rand_p → tags ≡ fourth_tags (peer_of s.server rand_p)
      → accepting m s agreed tags now ≡ take_fourth (record { eui = own; ciphers = network }) m s e packet rand_p now
  unfolding checked fourth_by
  fourth_taken agreed tags none is made = accept_plan agreed tags is made ∙ ap fourth_by (sym none)

-- the values of a session that were agreed on
pub agreed_is : (agreed : Agreed) (server : Server) (rand_p : RandomOctets) → agreed.rand_s ≡ server.rand_s → Some agreed.rand_p ≡ server.rand_p
    → server.rand_p ≡ Some rand_p → agreed ≡ server_agrees server rand_p
agreed_is agreed server rand_p mine theirs awaits = λ i. record { rand_s = mine i; rand_p = some_same agreed.rand_p rand_p (theirs ∙ awaits) i }

pub agreed_tags : (agreed : Agreed) (server : Server) (rand_p : RandomOctets) (tags : TagList) → Some agreed.rand_p ≡ server.rand_p
    → server.rand_p ≡ Some rand_p
    → tags ≡ fourth_tags (peer_of server agreed.rand_p)
    → tags ≡ fourth_tags (peer_of server rand_p)
agreed_tags agreed server rand_p tags theirs awaits is =
    is ∙ ap (λ (r : RandomOctets). fourth_tags (peer_of server r)) (some_same agreed.rand_p rand_p (theirs ∙ awaits))

-- # The acceptance

module _ (m : Memory) (session : CoordinatorSession) (agreed : Agreed) (tags : TagList) (now : ℕ) (s : State Memory)
    (h : CoordinatorAgreesWith m s.store.records) where
  -- the plan with this message
  accepting_with : JoinMessage → Hearing
  accepting_with join = said_after m session.way join now (done_by [] (without_session session.server.eui m) tags) (Done session.server.eui agreed)

  pub accept_lacks : (join : JoinMessage) (reason : Dropped) → join ≡ message session.server.eui (Accept 2) → say_fault m session.way join ≡ Some reason
      → refused {H = CoordinatorHeard} dropped m reason ≡ accepting m session agreed tags now
  unfolding accepting_with
  accept_lacks join reason same fault =
      sayings.lacks_plan m (without_session session.server.eui m) [] tags join now (Done session.server.eui agreed) refl h.home session.way reason fault
      ∙ ap accepting_with same

  pub ended_runs : (mid : State Memory) → mid ≡ record s { memory = Some (without_session session.server.eui m) } → IsSome mid.memory
  ended_runs mid is = subst (λ (o : Option Memory). IsSome o) (sym (ap (λ (x : State Memory). x.memory) is)) refl

  pub ended_room : (mid : State Memory) (join : JoinMessage) → mid ≡ record s { memory = Some (without_session session.server.eui m) }
      → RoomToSay m session.way join → IfSome mid.memory (λ k. RoomToSay k session.way join)
  ended_room mid join is room =
      sayings.room_held mid m (without_session session.server.eui m) session.way join (ap (λ (x : State Memory). x.memory) is) refl room

  pub accepted : (mid t : State Memory) (join : JoinMessage) (r : Result (Unit {0}) Dropped) (out : Out) → join ≡ message session.server.eui (Accept 2)
      → RoomToSay m session.way join
      → mid ≡ record s { memory = Some (without_session session.server.eui m) }
      → IfSome mid.memory (λ k. Carries mid (saying k session.way join tags now) r out t)
      → Carries s (accepting m session agreed tags now) (sayings.answered (Done session.server.eui agreed) r) out t
  unfolding accepting_with
  accepted mid t join r out same room is c =
      carried_by s t (accepting_with join) (accepting m session agreed tags now) (sayings.answered (Done session.server.eui agreed) r) out
      (ap accepting_with same)
      (sayings.said m (without_session session.server.eui m) [] tags join now (Done session.server.eui agreed) refl h.home session.way s mid t r out room
      (subst (λ (k : Store). Wrote s.store [] true k) (sym (ap (λ (x : State Memory). x.store) is)) (wrote_none s.store))
      (ap (λ (x : State Memory). x.eui) is) (ap (λ (x : State Memory). x.memory) is) c)

-- # The session in the memory

pub went_on : (s : State StationMemory) (randoms : List RandomOctets) (sessions next : List CoordinatorSession) (b : book.Book) (session : CoordinatorSession)
    (l : StationMemory) → s.memory ≡ Some l → next ≡ placed session sessions
    → state_in s randoms next b ≡ record (state_in s randoms sessions b) { memory = Some (with_session session (memory_in randoms sessions b l)) }
went_on s randoms sessions next b session l running put =
    λ i. record { store = s.store; eui = s.eui; memory = option_map (memory_in randoms (put i) b) (running i); replied = s.replied }

-- a third packet has octets
pub third_some : (eap : List ℕ) (keys : PairKeys) (server : Server) (rand_p : RandomOctets) (granted : Granted)
    → eap ≡ third_packet keys 2 (peer_of server rand_p) granted → 0 < length eap
third_some eap keys server rand_p granted is = subst (λ (k : List ℕ). 0 < length k) (sym is) (omega arith)
