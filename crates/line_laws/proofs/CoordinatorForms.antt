-- How the plan of each rule and each order of the coordinator is made.
use Rattle.node_rules.specs.declared.heard.CoordinatorHeard.{CoordinatorHeard}
use Rattle.std.proofs.Common.{◌≡◌, ℕ, ◌<◌, Bool, true, false, List, [], ◌∷◌, Option, Some, None, Result, length, refl, sym, ap, ◌∙◌, arith}
use Rattle.std.specs.Prelude.{◌&&◌, ◌≤◌, if◌then◌else◌, is_some, nat_lt, position, slice_get, get_or}
use Rattle.std.specs.Option.{option_map, option_map_or, option_and_then}
use Rattle.std.proofs.lemmas.Bool.{ltb-true, and_parts, eqb-true}
use Rattle.std.proofs.lemmas.List.Quantifiers.{position-Some}
use Rattle.std.proofs.lemmas.Option.{slice_get-get_or, same_Some}
use Rattle.store_tables.specs.SlotTables as slots
use Rattle.plc_base.specs.Faults.{◌when◌}
use Rattle.plc_base.specs.declared.address.Eui.{Eui}
use Rattle.plc_base.specs.declared.key.Key.{Key}
use Rattle.plc_base.specs.declared.key.RandomOctets.{RandomOctets}
use Rattle.plc_base.specs.Grant.{Granted}
use Rattle.group_keys.specs.declared.key_book.BookEntry.{BookEntry}
use Rattle.group_keys.specs.KeyRing as ring
use Rattle.group_keys.specs.KeyBook as book
use Rattle.joining_messages.specs.declared.message.JoinMessage.{JoinMessage}
use Rattle.joining_messages.specs.declared.message.JoinBody.{JoinBody}
use Rattle.joining_messages.specs.declared.message.JoinBody.TheVariants as body
use Rattle.joining_messages.specs.Reader.{join_in}
use Rattle.eap_psk.specs.Messages.{granting_text}
use Rattle.eap_psk.specs.Tags.{mac_p_tag, mac_s_tag, granting_tag, success_tag}
use Rattle.eap_psk.specs.declared.server.Server.{Server}
use Rattle.node_rules.specs.Accepted.{Accepted}
use Rattle.node_rules.specs.declared.heard.Heard.{Heard}
use Rattle.node_rules.specs.declared.heard.CoordinatorHeard.TheVariants as heard
use Rattle.node_rules.specs.declared.heard.Way.{Way}
use Rattle.node_rules.specs.declared.heard.Way.TheVariants.{Air, Near, Mesh}
use Rattle.node_rules.specs.declared.refusal.Dropped.{Dropped}
use Rattle.node_rules.specs.declared.refusal.Dropped.TheVariants as drops
use Rattle.node_rules.specs.declared.refusal.CoordinatorRefusal.TheVariants as refusal
use Rattle.node_rules.specs.Memory.{StationMemory, Memory, Command, CoordinatorSession, address_of, next_hop}
use Rattle.node_rules.specs.Plans.{Plan}
use Rattle.node_rules.specs.Drafts.{Draft, Lack, alone, empty_draft, with_ring, lack, counters_left, sealing, refused, sets_out}
use Rattle.node_rules.specs.HearingRules as station_rules
use Rattle.node_rules.specs.Drafts as drafts
use Rattle.node_rules.specs.HearingRules.{dropped}
use Rattle.node_rules.specs.JoiningPackets.{message, first_packet, server_for, command_of}
use Rattle.eap_psk.specs.Sessions.{rand_p_in}
use Rattle.node_rules.specs.MemoryDrafts.{in_memory, on_station, station_part, with_memory_by, with_pair_tags, is_commanded, oldest, without_oldest, Unread}
use Rattle.node_rules.specs.MemoryDrafts.{unread}
use Rattle.node_rules.specs.Coordinators.{Hearing, CoordinatorIdentity, drop_it, is_of, session_of, sessions_full, session_fault, with_session, without_session}
use Rattle.node_rules.specs.Coordinators.{grant_for, says, say_lack, with_book_entry, declines, opens, challenges, open_session, join_without_packet, keys_for}
use Rattle.node_rules.specs.Coordinators.{take_second}
use Rattle.node_rules.specs.Coordinators.{accepts, take_fourth, take_packet, join_with_packet, hear_join, hear_join_in, heard_by, hear_coordinator, Ordering}
use Rattle.node_rules.specs.Coordinators.{orders}
use Rattle.node_rules.specs.Coordinators.{allowed_entry, order_lack, lacking, changes, changed, allow, depot_by, depot, rekey, activate_self, challenge_by}
use Rattle.node_rules.specs.Coordinators.{challenge_at, challenge, allowed_address, activate_by, activate, kick_goes, kick_by, kick}
use Rattle.node_rules.proofs.Words.{IsDone, Fits, looser, sets_out_fits, begun_fits, on_ring, remembered_fits, entered_fits, down_done, commanded_done}
use Rattle.node_rules.proofs.Words.{quiet_done, quiet}
use Rattle.line_laws.proofs.Planned.{Planned, Refuses, checked_planned, choose_planned, sealed_planned, option_planned, sealing_planned}
use Rattle.line_laws.proofs.Made.{RingWord, Carry, Draw, Activate, Given, Starts, Rings, RingChange, Draws, Activates}
use Rattle.line_laws.proofs.MadeIn.{EntryChange, MadeIn, Begins, OnStation, Remembers, Tags, Enters, Down, Opens, Answers, Closes, Known, OfSession, Allows}
use Rattle.line_laws.proofs.MadeIn.{Issues, Kicks}
use Rattle.line_laws.proofs.HearingForms.{IsNoUp, Handed, MadeOf, hear_is}
use Rattle.line_laws.proofs.SetsOut.{LacksNothing, lacks_nothing, commanded_made}
use Rattle.line_laws.proofs.MemoryDraftForms.{HandedIn, commands_well, AnyAnswer, MadeBy, within_planned}

-- where the coordinator sends a command: back over the mesh as it heard or as a session runs, or to an address of the book
pub data IsReached (g : Given) (m : Memory) : ℕ → Type 0 where
  AsHeard : (origin : ℕ) (got : Accepted) (u : Unread) → g.got ≡ Some got → unread (station_rules.hear m.station got g.cost g.note g.now).answer ≡ Some u
      → u.way ≡ Mesh origin → IsReached g m origin
  AsSession : (origin : ℕ) (eui : Eui) (s : CoordinatorSession) → session_of m eui ≡ Some s → s.way ≡ Mesh origin → IsReached g m origin
  AsBooked : (eui : Eui) (to : ℕ) → book.address_of m.book eui ≡ Some to → IsReached g m to

-- a way leads there
abbrev pub WayIsReached : Given → Memory → Way → Type 0
WayIsReached g m way = (origin : ℕ) → way ≡ Mesh origin → IsReached g m origin

-- what the coordinator says to a meter
pub data IsSaidDown (E : Eui → Type 0) (own : CoordinatorIdentity) (m : Memory) : JoinMessage → Type 0 where
  SaysDecline : (eui : Eui) → E eui → IsSaidDown E own m (message eui body.Decline)
  SaysChallenge : (eui : Eui) (value : RandomOctets) → E eui → oldest m ≡ Some value
      → IsSaidDown E own m (message eui (body.Challenge (first_packet (server_for eui own.eui value))))
  SaysGrant : (s : CoordinatorSession) (e : BookEntry) (eui : Eui) (rand_p : RandomOctets) (granted : Granted) → session_of m eui ≡ Some s
      → book.allowed_one m.book s.server.eui ≡ Some e → grant_for m s.server.eui ≡ Some granted
      → IsSaidDown E own m (message s.server.eui (body.Challenge (own.ciphers.third e.psk s.server rand_p granted)))
  SaysAccept : (s : CoordinatorSession) (eui : Eui) → session_of m eui ≡ Some s → IsSaidDown E own m (message s.server.eui (body.Accept 2))
  SaysActivate : (e : BookEntry) (eui : Eui) (index : ℕ) → book.allowed_one m.book eui ≡ Some e → IsSaidDown E own m (message e.eui (body.Activate index))
  SaysKick : (e : BookEntry) (eui : Eui) → book.allowed_one m.book eui ≡ Some e → IsSaidDown E own m (message e.eui body.Kick)

-- the coordinator hands no datagram up
abbrev pub HandsNothingUp : CoordinatorHeard → Type 0
HandsNothingUp (heard.Station h) = IsNoUp h
HandsNothingUp _ = Unit {0}

-- A grant that the coordinator has for a meter.
pub record IsGranted (m : Memory) (granted : Granted) : Type 0 where
  pub eui : Eui
  pub book : book.Book
  pub is : grant_for (record m { book = book }) eui ≡ Some granted

no_session_fault : (m : Memory) (eui : Eui) → session_fault m eui ≡ None → sessions_full m eui ≡ false
no_session_fault m eui = by_full (sessions_full m eui)
  where
    by_full : (b : Bool) → (Some drops.SessionsFull when b) ≡ None → b ≡ false
    by_full true e = absurd (cc)
    by_full false e = refl

no_full_fault : (m : Memory) (eui : Eui) → (Some refusal.SessionsFull when sessions_full m eui) ≡ None → sessions_full m eui ≡ false
no_full_fault m eui = by_full (sessions_full m eui)
  where
    by_full : (b : Bool) → (Some refusal.SessionsFull when b) ≡ None → b ≡ false
    by_full true e = absurd (cc)
    by_full false e = refl

orders_well : (m : Memory) (to : ℕ) (join : JoinMessage) → order_lack m to join ≡ None → LacksNothing m.station to (length (command_of join))
orders_well m to join e = by_lack (lack m.station to (length (command_of join))) refl e
  where
    by_lack : (o : Option Lack) → lack m.station to (length (command_of join)) ≡ o → option_map lacking o ≡ None
        → LacksNothing m.station to (length (command_of join))
    by_lack None is e = lacks_nothing m.station to (length (command_of join)) is
    by_lack (Some x) is e = absurd (cc)

no_route : (o : Option ℕ) → o ≡ None → is_some o ≡ true → ⊥
no_route None e t = cc
no_route (Some hop) e t = cc

module _ (W : RingWord → Type 0) (P : Eui → Key → Type 0) (E : Eui → Type 0) (g : Given) (own : CoordinatorIdentity) (m : Memory)
    (says_to : (to : ℕ) → IsReached g m to → (join : JoinMessage) → IsSaidDown E own m join → W (Carry to 0 (Command (command_of join)))) where
  abbrev pub L : Granted → Type 0
  L granted = IsGranted m granted

  abbrev MadeHere : Draft Memory → Type 0
  MadeHere d = MadeIn W L P E g m d

  abbrev Done : Draft Memory → Type 0
  Done d = IsDone m.station d

  abbrev pub Is : Hearing → Type 0
  Is p = Planned in_memory dropped m (HandedIn heard.Station g m) (MadeBy W L P E g m HandsNothingUp) p

  -- # What is heard

  opens_made : (s : CoordinatorSession) (value : RandomOctets) → oldest m ≡ Some value → sessions_full m s.server.eui ≡ false → E s.server.eui
      → MadeHere (opens s (empty_draft m))
  unfolding empty_draft
  opens_made s value here room known = Remembers (λ n. with_session s (without_oldest n)) (empty_draft m) Begins (Opens s value here room known)

  opens_lacks : (s : CoordinatorSession) (to octets : ℕ) → LacksNothing m.station to octets → LacksNothing (opens s (empty_draft m)).memory.station to octets
  unfolding empty_draft with_memory_by
  opens_lacks s to octets f = f

  begun_lacks : (to octets : ℕ) → LacksNothing m.station to octets → LacksNothing (empty_draft m).memory.station to octets
  unfolding empty_draft
  begun_lacks to octets f = f

  -- what is said goes the session's way
  says_made : (way : Way) (join : JoinMessage) (d : Draft Memory) → WayIsReached g m way → IsSaidDown E own m join → MadeHere d → say_lack m way join ≡ None
      → ((to octets : ℕ) → LacksNothing m.station to octets → LacksNothing d.memory.station to octets)
      → MadeHere (says way join g.now d)
  says_made (Air eui) join d there said made lacks same = Down 0 join d made
  says_made (Near agent) join d there said made lacks same = made
  says_made (Mesh origin) join d there said made lacks same = commanded_made origin join g.now d made
      (same origin (length (command_of join)) (commands_well m origin join lacks)) (says_to origin (there origin refl) join said)

  says_done : (way : Way) (join : JoinMessage) (d : Draft Memory) → Fits m.station 0 1 d → Done (says way join g.now d)
  says_done (Air eui) join d f = down_done m.station 0 join d f
  says_done (Near agent) join d f = quiet_done m.station d f
  says_done (Mesh origin) join d f = commanded_done m.station origin join g.now d f

  declines_is : (way : Way) (join : JoinMessage) → WayIsReached g m way → IsSaidDown E own m join → Is (declines m way join g.now)
  declines_is way join there said = checked_planned (λ lacks. sealed_planned _ _
      (says_made way join (empty_draft m) there said Begins lacks begun_lacks, says_done way join (empty_draft m) (begun_fits m.station 1 m), tt))

  abbrev asking : Way → Server → CoordinatorSession
  asking way server = record { server = server; way = way; since = g.now }

  opens_fits : (s : CoordinatorSession) → Fits m.station 0 1 (opens s (empty_draft m))
  opens_fits s = remembered_fits m.station _ _ (begun_fits m.station 1 m)

  challenges_is : (way : Way) (server : Server) (value : RandomOctets) → WayIsReached g m way
      → IsSaidDown E own m (message server.eui (body.Challenge (first_packet server))) → oldest m ≡ Some value → sessions_full m server.eui ≡ false
      → E server.eui → Is (challenges m way server g.now)
  challenges_is way server value there said here room known =
      let join = message server.eui (body.Challenge (first_packet server)) in
      checked_planned (λ lacks. sealed_planned _ _ (
        says_made way join (opens (asking way server) (empty_draft m)) there said
            (opens_made (asking way server) value here room known) lacks (opens_lacks (asking way server)),
        says_done way join _ (opens_fits (asking way server)),
        tt,
      ))

  open_is : (way : Way) (eui : Eui) → WayIsReached g m way → E eui → Is (open_session own m way eui g.now)
  open_is way eui there known = checked_planned (λ e.
      option_planned (λ value. challenges m way (server_for eui own.eui value) g.now) (oldest m) (drop_it m drops.NoRandom)
      (λ value here. challenges_is way (server_for eui own.eui value) value there (SaysChallenge eui value known here) here (no_session_fault m eui e) known)
      (λ none. Refuses _))

  asked_is : (way : Way) (eui : Eui) → WayIsReached g m way → E eui → Is (join_without_packet own m way eui g.now)
  asked_is way eui there known = choose_planned (λ allowed. open_is way eui there known) (λ other. declines_is way _ there (SaysDecline eui known))

  -- the keys of a grant go to a meter whose session is there and which is allowed
  abbrev noted : CoordinatorSession → BookEntry → RandomOctets → Granted → Draft Memory
  noted s e rand_p granted =
      with_pair_tags (mac_s_tag s.server.eui s.server.id_s rand_p ∷ granting_tag s.server.eui 2 s.server.rand_s rand_p (granting_text granted) ∷ [])
      (mac_p_tag s.server.eui s.server.id_s s.server.rand_s rand_p ∷ [])
      (with_book_entry (book.issued_entry s.server.eui granted e)
      (with_memory_by (with_session (record s { server = record s.server { rand_p = Some rand_p } })) (empty_draft m)))

  answered_made : (s : CoordinatorSession) (eui : Eui) (rand_p : RandomOctets) → session_of m eui ≡ Some s
      → MadeHere (with_memory_by (with_session (record s { server = record s.server { rand_p = Some rand_p } })) (empty_draft m))
  unfolding empty_draft
  answered_made s eui rand_p there = Remembers (with_session (record s { server = record s.server { rand_p = Some rand_p } })) (empty_draft m) Begins
      (Answers (record s { server = record s.server { rand_p = Some rand_p } }) s eui there refl)

  issues : (s : CoordinatorSession) (e : BookEntry) (eui : Eui) (rand_p : RandomOctets) (granted : Granted) → session_of m eui ≡ Some s
      → book.allowed_one m.book s.server.eui ≡ Some e → grant_for m s.server.eui ≡ Some granted
      → EntryChange L P E m (with_memory_by (with_session (record s { server = record s.server { rand_p = Some rand_p } })) (empty_draft m)).memory.book
      (book.issued_entry s.server.eui granted e)
  unfolding empty_draft with_memory_by
  issues s e eui rand_p granted there allowed is =
      Issues s.server.eui granted e (OfSession eui s there) (record { eui = s.server.eui; book = m.book; is = is }) allowed

  noted_made : (s : CoordinatorSession) (e : BookEntry) (eui : Eui) (rand_p : RandomOctets) (granted : Granted) → session_of m eui ≡ Some s
      → book.allowed_one m.book s.server.eui ≡ Some e → grant_for m s.server.eui ≡ Some granted
      → MadeHere (noted s e rand_p granted)
  noted_made s e eui rand_p granted there allowed is =
      Tags _ _ _ (Enters _ _ (answered_made s eui rand_p there) (issues s e eui rand_p granted there allowed is))

  noted_lacks : (s : CoordinatorSession) (e : BookEntry) (rand_p : RandomOctets) (granted : Granted) (to octets : ℕ) → LacksNothing m.station to octets
      → LacksNothing (noted s e rand_p granted).memory.station to octets
  unfolding empty_draft with_memory_by with_book_entry with_pair_tags
  noted_lacks s e rand_p granted to octets f = f

  keys_is : (s : CoordinatorSession) (e : BookEntry) (eui : Eui) (rand_p : RandomOctets) (granted : Granted) → session_of m eui ≡ Some s
      → book.allowed_one m.book s.server.eui ≡ Some e → grant_for m s.server.eui ≡ Some granted
      → Is (keys_for own m s e rand_p granted g.now)
  keys_is s e eui rand_p granted there allowed is =
      let join = message s.server.eui (body.Challenge (own.ciphers.third e.psk s.server rand_p granted)) in
      checked_planned (λ lacks. sealed_planned _ _ (
        says_made s.way join (noted s e rand_p granted) (λ origin way. AsSession origin eui s there way) (SaysGrant s e eui rand_p granted there allowed is)
            (noted_made s e eui rand_p granted there allowed is) lacks (noted_lacks s e rand_p granted),
        says_done s.way join (noted s e rand_p granted) (search quiet depth 16),
        tt,
      ))

  second_is : (s : CoordinatorSession) (e : BookEntry) (eui : Eui) (packet : List ℕ) → session_of m eui ≡ Some s → book.allowed_one m.book s.server.eui ≡ Some e
      → Is (take_second own m s e packet g.now)
  second_is s e eui packet there allowed = checked_planned (λ right.
      option_planned (λ granted. keys_for own m s e (rand_p_in packet) granted g.now) (grant_for m s.server.eui) (drop_it m drops.NotAllowed)
      (λ granted is. keys_is s e eui _ granted there allowed is) (λ none. Refuses _))

  abbrev closed : CoordinatorSession → RandomOctets → Draft Memory
  closed s rand_p = with_pair_tags [] (success_tag s.server.eui 2 s.server.rand_s rand_p ∷ []) (with_memory_by (without_session s.server.eui) (empty_draft m))

  closed_made : (s : CoordinatorSession) (rand_p : RandomOctets) → MadeHere (closed s rand_p)
  unfolding empty_draft
  closed_made s rand_p = Tags _ _ _ (Remembers (without_session s.server.eui) (empty_draft m) Begins (Closes s.server.eui))

  closed_lacks : (s : CoordinatorSession) (rand_p : RandomOctets) (to octets : ℕ) → LacksNothing m.station to octets
      → LacksNothing (closed s rand_p).memory.station to octets
  unfolding empty_draft with_memory_by with_pair_tags
  closed_lacks s rand_p to octets f = f

  accepts_is : (s : CoordinatorSession) (rand_p : RandomOctets) (eui : Eui) → session_of m eui ≡ Some s → Is (accepts m s rand_p g.now)
  accepts_is s rand_p eui there =
      let join = message s.server.eui (body.Accept 2) in
      checked_planned (λ lacks. sealed_planned _ _ (
        says_made s.way join (closed s rand_p) (λ origin way. AsSession origin eui s there way)
            (SaysAccept s eui there) (closed_made s rand_p) lacks (closed_lacks s rand_p),
        says_done s.way join (closed s rand_p) (search quiet depth 16),
        tt,
      ))

  fourth_is : (s : CoordinatorSession) (e : BookEntry) (packet : List ℕ) (rand_p : RandomOctets) (eui : Eui) → session_of m eui ≡ Some s
      → Is (take_fourth own m s e packet rand_p g.now)
  fourth_is s e packet rand_p eui there = checked_planned (λ right. accepts_is s rand_p eui there)

  packet_is : (e : BookEntry) (eui : Eui) (packet : List ℕ) (s : CoordinatorSession) → session_of m eui ≡ Some s → book.allowed_one m.book s.server.eui ≡ Some e
      → Is (take_packet own m e packet g.now s)
  packet_is e eui packet s there allowed =
      option_planned (λ rand_p. take_fourth own m s e packet rand_p g.now) s.server.rand_p (take_second own m s e packet g.now)
      (λ rand_p here. fourth_is s e packet rand_p eui there) (λ none. second_is s e eui packet there allowed)

  -- the session of a meter is the one of its number
  session_is : (eui : Eui) (s : CoordinatorSession) → session_of m eui ≡ Some s → book.eui_number s.server.eui ≡ book.eui_number eui
  session_is eui s = by_place (position (is_of eui) m.sessions) refl
    where
      by_place : (o : Option ℕ) → position (is_of eui) m.sessions ≡ o → option_and_then (slice_get m.sessions) o ≡ Some s
          → book.eui_number s.server.eui ≡ book.eui_number eui
      by_place None is e = absurd (cc)
      by_place (Some k) is e =
          let at = position-Some (is_of eui) m.sessions k s is in
          let here : get_or m.sessions k s ≡ s = same_Some _ _ (sym (slice_get-get_or m.sessions k s at.0) ∙ e) in
          eqb-true _ _ (ap (is_of eui) (sym here) ∙ at.1)

  by_number : (a b : Eui) → book.eui_number a ≡ book.eui_number b → book.allowed_one m.book a ≡ book.allowed_one m.book b
  by_number a b same = ap (λ k. option_map_or (λ (e : BookEntry). if e.allowed then Some e else None) (slots.entry_of book.entries m.book k) None) same

  answered_is : (eui : Eui) (packet : List ℕ) → Is (join_with_packet own m eui packet g.now)
  answered_is eui packet = option_planned (λ e. option_map_or (take_packet own m e packet g.now) (session_of m eui) (drop_it m drops.NoSession))
      (allowed_entry m eui) (drop_it m drops.NotAllowed)
      (λ e allowed. option_planned (take_packet own m e packet g.now) (session_of m eui) (drop_it m drops.NoSession)
      (λ s there. packet_is e eui packet s there (by_number s.server.eui eui (session_is eui s there) ∙ allowed)) (λ none. Refuses _)) (λ none. Refuses _)

  join_is : (way : Way) (eui : Eui) (b : JoinBody) → WayIsReached g m way → E eui → Is (hear_join own m way eui b g.now)
  join_is way eui (body.Join []) there known = asked_is way eui there known
  join_is way eui (body.Join (x ∷ packet)) there known = answered_is eui (x ∷ packet)
  join_is way eui _ there known = Refuses _

  join_in_is : (octets : List ℕ) (way : Way) (join : Option JoinMessage) → WayIsReached g m way
      → ((message : JoinMessage) → join_in octets ≡ Some message → E message.eui) → join_in octets ≡ join → Is (hear_join_in own m way join g.now)
  join_in_is octets way None there known read = Refuses _
  join_in_is octets way (Some join) there known read = choose_planned (λ may. join_is way join.eui join.body there (known join read)) (λ other. Refuses _)

  heard_by_is : (p : Plan StationMemory (Result Heard Dropped)) (u : Option Unread) → ((x : Unread) → u ≡ Some x → WayIsReached g m x.way)
      → ((x : Unread) (join : JoinMessage) → u ≡ Some x → join_in x.body ≡ Some join → E join.eui)
      → Planned alone dropped m.station (Handed g m.station) (MadeOf W g m.station) p → Is (heard_by own m g.now p u)
  heard_by_is p None there known s = within_planned W L P E g m HandsNothingUp heard.Station p (λ h k. k) s
  heard_by_is p (Some u) there known s = join_in_is u.body u.way (join_in u.body) (there u refl) (λ join read. known u join refl read) refl

  pub coordinator_is : (got : Accepted) → g.got ≡ Some got
      → ((u : Unread) (join : JoinMessage) → unread (station_rules.hear m.station got g.cost g.note g.now).answer ≡ Some u → join_in u.body ≡ Some join
      → E join.eui) → Is (hear_coordinator own m got g.cost g.note g.now)
  coordinator_is got is known =
      let p = station_rules.hear m.station got g.cost g.note g.now in
      heard_by_is p (unread p.answer) (λ u e origin way. AsHeard origin got u is e way) known (hear_is W g m.station got is)

  -- # Orders

  abbrev pub Nothing : {H : Type 0} → Memory → H → Type 0
  Nothing n answer = ⊥

  abbrev pub IsOrder : {A : Type 0} → Ordering A → Type 0
  IsOrder p = Planned in_memory orders m Nothing (MadeBy W L P E g m AnyAnswer) p

  allows : (eui : Eui) (psk : Key) → E eui → P eui psk → book.has_room m.book eui ≡ true
      → EntryChange L P E m (empty_draft m).memory.book (book.allowed_entry eui psk (book.entry_for m.book eui))
  unfolding empty_draft
  allows eui psk is known room = Allows eui psk is known room

  changed_made : (eui : Eui) (psk : Key) → E eui → P eui psk → book.has_room m.book eui ≡ true
      → MadeHere (changed m (book.allowed_entry eui psk (book.entry_for m.book eui)))
  changed_made eui psk is known room = by_change (changes m (book.allowed_entry eui psk (book.entry_for m.book eui)))
    where
      entry : BookEntry
      entry = book.allowed_entry eui psk (book.entry_for m.book eui)

      by_change : (b : Bool) → MadeHere (if b then with_memory_by (without_session entry.eui) (with_book_entry entry (empty_draft m)) else empty_draft m)
      by_change true = Remembers (without_session entry.eui) _ (Enters _ (empty_draft m) Begins (allows eui psk is known room)) (Closes entry.eui)
      by_change false = Begins

  changed_fits : (e : BookEntry) → Fits m.station 0 1 (changed m e)
  changed_fits e = by_change (changes m e)
    where
      by_change : (b : Bool) → Fits m.station 0 1 (if b then with_memory_by (without_session e.eui) (with_book_entry e (empty_draft m)) else empty_draft m)
      by_change true = remembered_fits m.station _ _ (entered_fits m.station e _ (begun_fits m.station 1 m))
      by_change false = begun_fits m.station 1 m

  -- nothing is sent
  changed_units : (e : BookEntry) → (changed m e).units ≡ []
  unfolding empty_draft with_book_entry with_memory_by
  changed_units e = by_change (changes m e)
    where
      by_change : (b : Bool) → (if b then with_memory_by (without_session e.eui) (with_book_entry e (empty_draft m)) else empty_draft m).units ≡ []
      by_change true = refl
      by_change false = refl

  no_units : (units : List drafts.UnsealedUnit) (n : ℕ) → units ≡ [] → length units ≤ n
  no_units units n e = rw e (omega arith)

  abbrev entry_after : Eui → Key → BookEntry
  entry_after eui psk = book.allowed_entry eui psk (book.entry_for m.book eui)

  pub allow_is : (eui : Eui) (psk : Key) → E eui → P eui psk → IsOrder (allow m eui psk)
  allow_is eui psk is known = choose_planned
      (λ room. sealing_planned (changed m (entry_after eui psk)) _
      (changed_made eui psk is known room, quiet_done m.station (changed m (entry_after eui psk)) (changed_fits (entry_after eui psk)), tt)
      (no_units (changed m (entry_after eui psk)).units _ (changed_units (entry_after eui psk))))
      (λ full. Refuses _)

  rung_made : (r : ring.Ring) → RingChange W m.station.ring r → MadeHere (on_station (with_ring r) (empty_draft m))
  unfolding empty_draft
  rung_made r change = OnStation (with_ring r) (empty_draft m) Begins (Rings r (station_part (empty_draft m)) Starts change)

  rung_units : (r : ring.Ring) → (on_station (with_ring r) (empty_draft m)).units ≡ []
  unfolding empty_draft on_station with_ring
  rung_units r = refl

  rung_is : {A : Type 0} (r : ring.Ring) (answer : A) → RingChange W m.station.ring r
      → IsOrder (sealing in_memory orders (on_station (with_ring r) (empty_draft m)) answer)
  rung_is r answer change = sealing_planned (on_station (with_ring r) (empty_draft m)) answer
      (rung_made r change, quiet_done m.station (on_station (with_ring r) (empty_draft m)) (on_ring m.station r (empty_draft m) (begun_fits m.station 1 m)), tt)
      (no_units (on_station (with_ring r) (empty_draft m)).units _ (rung_units r))

  pub rekey_is : (index : ℕ) (key : Key) → W (Draw index key) → IsOrder (rekey m index key)
  rekey_is index key drawn = choose_planned (λ active. Refuses _) (λ other. rung_is (ring.with_key m.station.ring index key) tt (Draws index key drawn))

  pub activate_self_is : (index : ℕ) → W (Activate index) → IsOrder (activate_self m index)
  activate_self_is index order = choose_planned (λ held. rung_is (ring.with_active m.station.ring index) tt (Activates index order held)) (λ none. Refuses _)

  challenge_at_is : (eui : Eui) (to : ℕ) → book.address_of m.book eui ≡ Some to → E eui → IsOrder (challenge_at own.eui m eui g.now to)
  challenge_at_is eui to booked known = checked_planned (λ full.
      option_planned (λ value. challenge_by own.eui m to g.now (server_for eui own.eui value)) (oldest m) (refused orders m refusal.NoRandom)
      (λ value here. checked_planned (λ e. sealed_planned _ _ (
        commanded_made to (asking_for value) g.now _
            (opens_made (asked_by value) value here (no_full_fault m eui full) known)
            (opens_lacks (asked_by value) to _ (orders_well m to (asking_for value) e))
            (says_to to (AsBooked eui to booked) (asking_for value) (SaysChallenge eui value known here)),
        commanded_done m.station to (asking_for value) g.now _ (opens_fits (asked_by value)),
        tt,
      ))) (λ none. Refuses _))
    where
      asked_by : RandomOctets → CoordinatorSession
      asked_by value = asking (Mesh to) (server_for eui own.eui value)

      asking_for : RandomOctets → JoinMessage
      asking_for value = message eui (body.Challenge (first_packet (server_for eui own.eui value)))

  -- an allowed meter's address is the book's
  is_booked : (eui : Eui) (to : ℕ) → allowed_address m eui ≡ Some to → book.address_of m.book eui ≡ Some to
  is_booked eui to e = by_allowed (book.is_allowed m.book eui) e
    where
      by_allowed : (b : Bool) → (if b then book.address_of m.book eui else None) ≡ Some to → book.address_of m.book eui ≡ Some to
      by_allowed true e = e
      by_allowed false e = absurd (cc)

  pub challenge_is : (eui : Eui) → E eui → IsOrder (challenge own.eui m eui g.now)
  challenge_is eui known = option_planned (challenge_at own.eui m eui g.now) (allowed_address m eui) (refused orders m refusal.NotAllowed)
      (λ to here. challenge_at_is eui to (is_booked eui to here) known) (λ none. Refuses _)

  activate_by_is : (eui : Eui) (e : BookEntry) (index to : ℕ) → book.allowed_one m.book eui ≡ Some e → book.address_of m.book eui ≡ Some to
      → IsOrder (activate_by m e index g.now to)
  activate_by_is eui e index to allowed booked = choose_planned
      (λ issued. checked_planned (λ lacks. sealed_planned _ _ (
        commanded_made to (message e.eui (body.Activate index)) g.now _ Begins
            (begun_lacks to _ (orders_well m to (message e.eui (body.Activate index)) lacks))
            (says_to to (AsBooked eui to booked) (message e.eui (body.Activate index)) (SaysActivate e eui index allowed)),
        commanded_done m.station to (message e.eui (body.Activate index)) g.now _ (begun_fits m.station 1 m),
        tt,
      ))) (λ none. Refuses _)

  pub activate_is : (eui : Eui) (index : ℕ) → IsOrder (activate m eui index g.now)
  activate_is eui index = option_planned (λ e. option_map_or (activate_by m e index g.now) (book.address_of m.book eui) (refused orders m refusal.NotAllowed))
      (allowed_entry m eui) (refused orders m refusal.NotAllowed)
      (λ e allowed. option_planned (activate_by m e index g.now) (book.address_of m.book eui) (refused orders m refusal.NotAllowed)
      (λ to here. activate_by_is eui e index to allowed here) (λ none. Refuses _)) (λ none. Refuses _)

  -- # Kicking, and the workshop

  kicked_made : (e : BookEntry) (eui : Eui) → E eui → book.allowed_one m.book eui ≡ Some e
      → MadeHere (with_memory_by (without_session e.eui) (with_book_entry (book.kicked_entry e.eui e) (empty_draft m)))
  unfolding empty_draft
  kicked_made e eui known allowed =
      Remembers (without_session e.eui) _ (Enters (book.kicked_entry e.eui e) (empty_draft m) Begins (Kicks eui e known allowed)) (Closes e.eui)

  kicked_lacks : (e : BookEntry) (to : ℕ) → is_some (next_hop m.station to) ≡ true → (octets : ℕ)
      → LacksNothing (with_memory_by (without_session e.eui) (with_book_entry (book.kicked_entry e.eui e) (empty_draft m))).memory.station to octets
  unfolding empty_draft with_memory_by with_book_entry
  kicked_lacks e to there octets =
      record { room = λ none. absurd (no_route (next_hop m.station to) none there); number = λ none. absurd (no_route (next_hop m.station to) none there) }

  -- one unit goes where there is a route
  kick_goes_made : (eui : Eui) (e : BookEntry) (to : ℕ) (join : JoinMessage) → book.address_of m.book eui ≡ Some to → IsSaidDown E own m join
      → MadeHere (with_memory_by (without_session e.eui) (with_book_entry (book.kicked_entry e.eui e) (empty_draft m)))
      → MadeHere (kick_goes m to join (with_memory_by (without_session e.eui) (with_book_entry (book.kicked_entry e.eui e) (empty_draft m))))
  kick_goes_made eui e to join booked said made = by_route (is_some (next_hop m.station to) && nat_lt 0 (counters_left m.station)) refl
    where
      by_route : (b : Bool) → (is_some (next_hop m.station to) && nat_lt 0 (counters_left m.station)) ≡ b
          → MadeHere (if b then is_commanded to join 0 (with_memory_by (without_session e.eui) (with_book_entry (book.kicked_entry e.eui e) (empty_draft m)))
          else with_memory_by (without_session e.eui) (with_book_entry (book.kicked_entry e.eui e) (empty_draft m)))
      by_route false t = made
      by_route true t =
          commanded_made to join 0 _ made (kicked_lacks e to (and_parts _ _ t).0 (length (command_of join))) (says_to to (AsBooked eui to booked) join said)

  abbrev kicked : BookEntry → Draft Memory
  kicked e = with_memory_by (without_session e.eui) (with_book_entry (book.kicked_entry e.eui e) (empty_draft m))

  kicked_fits : (e : BookEntry) → Fits m.station 0 1 (kicked e)
  kicked_fits e = remembered_fits m.station _ _ (entered_fits m.station _ _ (begun_fits m.station 1 m))

  kicked_sends : (e : BookEntry) → (kicked e).units ≡ []
  unfolding empty_draft with_memory_by with_book_entry
  kicked_sends e = refl

  -- a command is one unit at most
  commanded_units : (to : ℕ) (join : JoinMessage) (now : ℕ) (d : Draft Memory) → Fits (record m.station { waiting = [] }) 0 2 d
      → length (is_commanded to join now d).units ≤ 1
  unfolding is_commanded on_station
  commanded_units to join now d f = by_address (address_of d.memory.station)
    where
      by_address : (own : Option ℕ) → length (option_map_or (λ own. on_station (sets_out own to 0 (Command (command_of join)) now) d) own d).units ≤ 1
      by_address None = let n = f.count in omega arith
      by_address (Some own) =
          let x = sets_out_fits (record m.station { waiting = [] }) 1 own to 0 (Command (command_of join)) now (station_part d) (omega arith) (omega arith)
          (record { count = f.count; turns = f.turns }) in
          let n = x.count in omega arith

  kicked_alone : (e : BookEntry) → Fits (record m.station { waiting = [] }) 0 2 (kicked e)
  kicked_alone e = looser (record m.station { waiting = [] }) 0 1 0 2 (kicked e) (omega arith) (omega arith)
      (remembered_fits (record m.station { waiting = [] }) _ _
      (entered_fits (record m.station { waiting = [] }) _ _ (begun_fits (record m.station { waiting = [] }) 1 m)))

  kick_goes_is : (e : BookEntry) (to : ℕ) (join : JoinMessage)
      → Done (kick_goes m to join (kicked e)) × (length (kick_goes m to join (kicked e)).units ≤ counters_left m.station)
  kick_goes_is e to join = by_route (is_some (next_hop m.station to) && nat_lt 0 (counters_left m.station)) refl
    where
      by_route : (b : Bool) → (is_some (next_hop m.station to) && nat_lt 0 (counters_left m.station)) ≡ b
          → let d : Draft Memory = (if b then is_commanded to join 0 (kicked e) else kicked e) in Done d × (length d.units ≤ counters_left m.station)
      by_route false t = (quiet_done m.station (kicked e) (kicked_fits e), no_units (kicked e).units _ (kicked_sends e))
      by_route true t =
          let left : 0 < counters_left m.station = ltb-true _ _ (and_parts _ _ t).1 in
          let one = commanded_units to join 0 (kicked e) (kicked_alone e) in
          (commanded_done m.station to join 0 (kicked e) (kicked_fits e), omega arith)

  kick_by_is : (e : BookEntry) (eui : Eui) (to : ℕ) → book.address_of m.book eui ≡ Some to → E eui → book.allowed_one m.book eui ≡ Some e
      → IsOrder (kick_by m e to)
  kick_by_is e eui to booked known allowed =
      let join = message e.eui body.Kick in
      let goes = kick_goes_is e to join in
      sealing_planned (kick_goes m to join (kicked e)) tt
      (kick_goes_made eui e to join booked (SaysKick e eui allowed) (kicked_made e eui known allowed), goes.0, tt) goes.1

  pub kick_is : (eui : Eui) → E eui → IsOrder (kick m eui)
  kick_is eui known = option_planned (λ e. option_map_or (kick_by m e) (book.address_of m.book eui) (refused orders m refusal.NotAllowed)) (allowed_entry m eui)
      (refused orders m refusal.NotAllowed)
      (λ e allowed. option_planned (kick_by m e) (book.address_of m.book eui) (refused orders m refusal.NotAllowed)
      (λ to here. kick_by_is e eui to here known allowed) (λ none. Refuses _)) (λ none. Refuses _)

  -- a meter is allowed, and then the keys of its grant are noted as issued
  entered_sends : (e : BookEntry) (d : Draft Memory) → d.units ≡ [] → (with_book_entry e d).units ≡ []
  unfolding with_book_entry
  entered_sends e d none = none

  depot_by_is : (eui : Eui) (psk : Key) (d : Draft Memory) → E eui → MadeHere d → Fits m.station 0 1 d → d.units ≡ []
      → ((granted : Granted) → grant_for d.memory eui ≡ Some granted → L granted) → IsOrder (depot_by m eui psk d)
  depot_by_is eui psk d known made fits none granting = option_planned
      (λ granted. option_map_or (λ e. sealing in_memory orders (with_book_entry (book.issued_entry eui granted e) d) granted)
      (book.allowed_one d.memory.book eui) (refused orders m refusal.MetersFull)) (grant_for d.memory eui) (refused orders m refusal.MetersFull)
      (λ granted is. option_planned (λ e. sealing in_memory orders (with_book_entry (book.issued_entry eui granted e) d) granted)
      (book.allowed_one d.memory.book eui) (refused orders m refusal.MetersFull)
      (λ e allowed. sealing_planned (with_book_entry (book.issued_entry eui granted e) d) granted (
        Enters (book.issued_entry eui granted e) d made (Issues eui granted e (Known eui known) (granting granted is) allowed),
        quiet_done m.station _ (entered_fits m.station (book.issued_entry eui granted e) d fits),
        tt,
      )
      (no_units _ _ (entered_sends (book.issued_entry eui granted e) d none))) (λ other. Refuses _)) (λ other. Refuses _)

  changed_grants : (e : BookEntry) (eui : Eui) (granted : Granted) → grant_for (changed m e).memory eui ≡ Some granted → IsGranted m granted
  unfolding empty_draft with_book_entry with_memory_by
  changed_grants e eui granted = by_change (changes m e)
    where
      by_change : (b : Bool) → grant_for (if b then with_memory_by (without_session e.eui) (with_book_entry e (empty_draft m)) else empty_draft m).memory eui
          ≡ Some granted → IsGranted m granted
      by_change true is = record { eui = eui; book = book.with_entry m.book e; is = is }
      by_change false is = record { eui = eui; book = m.book; is = is }

  pub depot_is : (eui : Eui) (psk : Key) → E eui → P eui psk → IsOrder (depot m eui psk)
  depot_is eui psk known pair = choose_planned
      (λ room. depot_by_is eui psk (changed m (entry_after eui psk)) known (changed_made eui psk known pair room) (changed_fits (entry_after eui psk))
      (changed_units (entry_after eui psk)) (changed_grants (entry_after eui psk) eui))
      (λ full. Refuses _)
