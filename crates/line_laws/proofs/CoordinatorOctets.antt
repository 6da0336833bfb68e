-- What each rule and each order of the coordinator keeps and sends is octets.
use Rattle.std.proofs.Common.{◌≡◌, ℕ, ◌≤◌, ◌<◌, Bool, true, false, not, set, List, [], ◌∷◌, ◌++◌, length, Option, Some, None, Result, refl, subst, arith}
use Rattle.std.specs.Prelude.{IfSome, All, ◌&&◌, nat_lt, is_some, if◌then◌else◌, position}
use Rattle.std.specs.Option.{option_map, option_map_or, option_and_then}
use Rattle.std.proofs.lemmas.Option.{same_Some}
use Rattle.std.proofs.lemmas.List.Elements.{All-nil, All-tail, All-push, All-set, All-drop, All-filter}
use Rattle.plc_base.specs.Fields.{AreOctets}
use Rattle.plc_base.specs.declared.address.Eui.{Eui}
use Rattle.plc_base.specs.declared.key.Key.{Key}
use Rattle.plc_base.specs.declared.key.RandomOctets.{RandomOctets}
use Rattle.plc_base.specs.Grant.{Granted}
use Rattle.group_keys.specs.declared.key_book.BookEntry.{BookEntry}
use Rattle.group_keys.specs.Fields.{held_octets}
use Rattle.group_keys.specs.KeyRing as ring
use Rattle.group_keys.specs.KeyBook as book
use Rattle.joining_messages.specs.declared.message.JoinMessage.{JoinMessage}
use Rattle.joining_messages.specs.declared.message.JoinBody.{JoinBody}
use Rattle.joining_messages.specs.declared.message.JoinBody.TheVariants as body
use Rattle.joining_messages.specs.Reader.{join_in}
use Rattle.eap_psk.specs.Sessions.{rand_p_in, peer_of}
use Rattle.mesh_header.specs.declared.unit.Unit.{Unit as MeshUnit}
use Rattle.node_rules.specs.Accepted.{Accepted}
use Rattle.node_rules.specs.declared.heard.Heard.{Heard}
use Rattle.node_rules.specs.declared.heard.CoordinatorHeard.TheVariants as heard
use Rattle.node_rules.specs.declared.heard.Way.{Way}
use Rattle.node_rules.specs.declared.heard.Way.TheVariants.{Air, Near, Mesh}
use Rattle.node_rules.specs.declared.refusal.Dropped.{Dropped}
use Rattle.node_rules.specs.declared.refusal.Dropped.TheVariants as drops
use Rattle.node_rules.specs.declared.refusal.CoordinatorRefusal.TheVariants as refusal
use Rattle.node_rules.specs.Ciphers.{network}
use Rattle.node_rules.specs.Memory.{StationMemory, Memory, CoordinatorSession, next_hop}
use Rattle.node_rules.specs.Plans.{Plan}
use Rattle.node_rules.specs.Drafts.{Draft, alone, empty_draft, counters_left, refused, sealing}
use Rattle.node_rules.specs.HearingRules as station_rules
use Rattle.node_rules.specs.HearingRules.{dropped}
use Rattle.node_rules.specs.JoiningPackets.{message, first_packet, server_for}
use Rattle.node_rules.specs.MemoryDrafts.{in_memory, with_memory_by, is_commanded, oldest, without_oldest, Unread, unread}
use Rattle.node_rules.specs.Coordinators.{CoordinatorIdentity, drop_it, is_of, session_of, with_session, without_session, grant_for, says, with_book_entry}
use Rattle.node_rules.specs.Coordinators.{declines, opens, challenges, open_session, join_without_packet, keys_for, take_second, accepts, take_fourth}
use Rattle.node_rules.specs.Coordinators.{take_packet, join_with_packet}
use Rattle.node_rules.specs.Coordinators.{hear_join, hear_join_in, heard_by, hear_coordinator, orders, allowed_entry, changes, changed, allow, depot_by, depot}
use Rattle.node_rules.specs.Coordinators.{rekey, activate_self, challenge_by, challenge_at, challenge, allowed_address, activate_by, activate, kick_goes}
use Rattle.node_rules.specs.Coordinators.{kick_by, kick}
use Rattle.line_laws.specs.Stores.{IsHeld, IsReadable, HasEui}
use Rattle.line_laws.proofs.Answered.{booked_low}
use Rattle.plc_base.proofs.OctetLists.{front}
use Rattle.joining_messages.specs.Laws.{GrantHasOctets}
use Rattle.joining_messages.proofs.JoinOctets.{read_octets}
use Rattle.eap_psk.specs.Keys.{keys_of}
use Rattle.eap_psk.proofs.PacketOctets.{first_octets, third_octets}
use Rattle.eap_psk.proofs.PacketSizes.{first_fits, third_fits}
use Rattle.joining_messages.specs.Grants.{IsPlace}
use Rattle.joining_messages.proofs.JoinRanges.{read_fits}
use Rattle.node_rules.specs.OctetLaws.{WayFits, UnreadFits}
use Rattle.node_rules.proofs.HeardOctets.{unreads_fit}
use Rattle.line_laws.proofs.HearingForms.{Handed, MadeOf, hear_is}
use Rattle.line_laws.proofs.IssueNodes.{place_is}
use Rattle.line_laws.proofs.Made.{Given, IsCome, Draws, Activates}
use Rattle.line_laws.proofs.MeterOctets.{comes_speaking, oldest_speaks}
use Rattle.line_laws.proofs.NodeCalls.{NoWord, heard_given}
use Rattle.line_laws.proofs.OctetDrafts.{JoinSpeaks, join_speaks, RandSpeaks, ServerSpeaks, MemorySpeaks, DraftSpeaksIn, PlanSpeaks, UnitSpeaks, choose_speaks}
use Rattle.line_laws.proofs.OctetDrafts.{option_speaks, refuses, checked_speaks, sealed_speaks, sealing_speaks, line_speaks, begun_speaks, remembers_speaks}
use Rattle.line_laws.proofs.OctetDrafts.{tagged_speaks, entered_speaks, down_speaks, ringed_speaks, commanded_speaks}
use Rattle.line_laws.proofs.Planned.{Planned}
use Rattle.line_laws.proofs.StoreBook.{looked_up, stands}
use Rattle.line_laws.proofs.StoreFold.{WordFits, ring_fits}

-- the book names meters, and has their pair keys
abbrev pub EntrySpeaks : BookEntry → Type 0
EntrySpeaks e = HasEui e.eui × AreOctets e.psk.0

-- a key that is held is octets where its record is
key_held : (key : Option Key) → AreOctets (held_octets key) → IfSome key (λ k. AreOctets k.0)
key_held None held = tt
key_held (Some key) held = All-tail (λ n. n < 256) 1 key.0 held

-- the grant of a meter has the keys of the ring
abbrev GrantSpeaks : Granted → Type 0
GrantSpeaks granted = GrantHasOctets granted × IsPlace granted.key0 × IsPlace granted.key1

grant_speaks : (r : ring.Ring) (address : Option ℕ) (granted : Granted) → IfSome r IsReadable
    → option_and_then (λ a. option_map (λ (g : Granted). record g { address = a }) r) address ≡ Some granted → GrantSpeaks granted
grant_speaks r None granted reads e = absurd (cc)
grant_speaks None (Some a) granted reads e = absurd (cc)
grant_speaks (Some g) (Some a) granted reads e = subst GrantSpeaks (same_Some (record g { address = a }) granted e) (
  record { active = let low = reads.grant.index in omega arith; key0 = key_held g.key0 reads.key0.1; key1 = key_held g.key1 reads.key1.1 },
  place_is g.key0 reads.key0,
  place_is g.key1 reads.key1,
)

module _ (eui : Eui) (own : HasEui eui) (m : Memory) (h : MemorySpeaks m) (reads : IfSome m.station.ring IsReadable) (booked : All EntrySpeaks m.book)
    (now : ℕ) where
  abbrev self : CoordinatorIdentity
  self = record { eui = eui; ciphers = network }

  begun : DraftSpeaksIn (empty_draft m)
  begun = begun_speaks m h reads

  -- # Sessions and entries

  session_placed : (s : CoordinatorSession) (place : Option ℕ) → ServerSpeaks s
      → All ServerSpeaks (option_map_or (λ k. set m.sessions k s) place (m.sessions ++ s ∷ []))
  session_placed s None k = All-push ServerSpeaks m.sessions s h.sessions k
  session_placed s (Some place) k = All-set ServerSpeaks m.sessions place s k h.sessions

  session_speaks : (meter : Eui) (s : CoordinatorSession) → session_of m meter ≡ Some s → ServerSpeaks s
  session_speaks meter s there = looked_up ServerSpeaks m.sessions (position (is_of meter) m.sessions) s there h.sessions

  entry_speaks : (meter : Eui) (e : BookEntry) → book.allowed_one m.book meter ≡ Some e → EntrySpeaks e
  entry_speaks meter e allowed = looked_up EntrySpeaks m.book (book.place_of m.book meter) e (stands m.book meter e allowed) booked

  opened_speaks : (s : CoordinatorSession) → ServerSpeaks s → DraftSpeaksIn (opens s (empty_draft m))
  unfolding empty_draft
  opened_speaks s k = remembers_speaks (λ n. with_session s (without_oldest n)) (empty_draft m) begun reads
      (record {
        waiting = h.waiting;
        randoms = All-drop RandSpeaks 1 m.randoms h.randoms;
        session = h.session;
        sessions = session_placed s (position (is_of s.server.eui) m.sessions) k;
      })

  answered_speaks : (s : CoordinatorSession) → ServerSpeaks s → DraftSpeaksIn (with_memory_by (with_session s) (empty_draft m))
  unfolding empty_draft
  answered_speaks s k = remembers_speaks (with_session s) (empty_draft m) begun reads
      (record { waiting = h.waiting; randoms = h.randoms; session = h.session; sessions = session_placed s (position (is_of s.server.eui) m.sessions) k })

  closed_speaks : (meter : Eui) → DraftSpeaksIn (with_memory_by (without_session meter) (empty_draft m))
  unfolding empty_draft
  closed_speaks meter = remembers_speaks (without_session meter) (empty_draft m) begun reads
      (record {
        waiting = h.waiting;
        randoms = h.randoms;
        session = h.session;
        sessions = All-filter (λ s. not (is_of meter s)) ServerSpeaks m.sessions h.sessions;
      })

  -- an entry changes, and the session of its meter ends
  noted_speaks : (e : BookEntry) (meter : Eui) → DraftSpeaksIn (with_memory_by (without_session meter) (with_book_entry e (empty_draft m)))
  unfolding empty_draft with_book_entry
  noted_speaks e meter = remembers_speaks (without_session meter) (with_book_entry e (empty_draft m)) (entered_speaks e (empty_draft m) begun) reads
      (record {
        waiting = h.waiting;
        randoms = h.randoms;
        session = h.session;
        sessions = All-filter (λ s. not (is_of meter s)) ServerSpeaks m.sessions h.sessions;
      })

  -- # What is said

  says_speaks : (way : Way) (join : JoinMessage) (d : Draft Memory) → JoinSpeaks join → DraftSpeaksIn d → DraftSpeaksIn (says way join now d)
  says_speaks (Air meter) join d said s = down_speaks 0 join d s said
  says_speaks (Near agent) join d said s = s
  says_speaks (Mesh origin) join d said s = commanded_speaks origin join now d said s

  none : AreOctets []
  none = All-nil (λ n. n < 256)

  -- the first packet
  first_speaks : (meter : Eui) (value : RandomOctets) → HasEui meter → RandSpeaks value
      → JoinSpeaks (message meter (body.Challenge (first_packet (server_for meter eui value))))
  first_speaks meter value named is =
      join_speaks meter (body.Challenge (first_packet (server_for meter eui value))) named (first_octets 1 value.0 eui.0 (omega arith) is.0 own.1)
      (let fits = first_fits 1 value.0 eui.0 is.1 own.0 in omega arith)

  declines_is : (way : Way) (meter : Eui) → HasEui meter → PlanSpeaks (declines m way (message meter body.Decline) now)
  declines_is way meter named = checked_speaks m h _ (λ e. sealed_speaks m h _ _ _
      (says_speaks way (message meter body.Decline) (empty_draft m) (join_speaks meter body.Decline named none (omega arith)) begun))

  open_is : (way : Way) (meter : Eui) → HasEui meter → WayFits way → PlanSpeaks (open_session self m way meter now)
  open_is way meter named near = checked_speaks m h _ (λ e.
      option_speaks (λ value. challenges m way (server_for meter eui value) now) (oldest m) (drop_it m drops.NoRandom)
      (λ value here. checked_speaks m h _ (λ lacks.
      let is : RandSpeaks value = oldest_speaks m value h here in
      let said : JoinSpeaks (message meter (body.Challenge (first_packet (server_for meter eui value)))) = first_speaks meter value named is in
      let s : CoordinatorSession = record { server = server_for meter eui value; way = way; since = now } in
      sealed_speaks m h _ _ _ (says_speaks way (message meter (body.Challenge (first_packet (server_for meter eui value)))) (opens s (empty_draft m)) said
      (opened_speaks s (named, is.0, is.1, near)))))
      (refuses m h _ _))

  asked_is : (way : Way) (meter : Eui) → HasEui meter → WayFits way → PlanSpeaks (join_without_packet self m way meter now)
  asked_is way meter named near = choose_speaks (λ allowed. open_is way meter named near) (λ other. declines_is way meter named)

  -- # Packets

  keys_is : (s : CoordinatorSession) (e : BookEntry) (rand_p : RandomOctets) (granted : Granted) → ServerSpeaks s → EntrySpeaks e → GrantSpeaks granted
      → PlanSpeaks (keys_for self m s e rand_p granted now)
  keys_is s e rand_p granted k pair g = checked_speaks m h _ (λ lacks.
      let t : CoordinatorSession = record s { server = record s.server { rand_p = Some rand_p } } in
      let said : JoinSpeaks (message s.server.eui (body.Challenge (network.third e.psk s.server rand_p granted)))
      = join_speaks s.server.eui (body.Challenge (network.third e.psk s.server rand_p granted)) k.0
      (third_octets e.psk.0 2 (peer_of s.server rand_p) granted pair.1 (omega arith) k.1 g.0)
      (let fits = third_fits (keys_of e.psk.0) 2 (peer_of s.server rand_p) granted k.2 g.1 g.2 in omega arith) in
      sealed_speaks m h _ _ _ (says_speaks s.way (message s.server.eui (body.Challenge (network.third e.psk s.server rand_p granted))) _ said
      (tagged_speaks _ _ (with_book_entry (book.issued_entry s.server.eui granted e) (with_memory_by (with_session t) (empty_draft m)))
      (entered_speaks (book.issued_entry s.server.eui granted e) (with_memory_by (with_session t) (empty_draft m)) (answered_speaks t (k.0, k.1, k.2, k.3))))))

  second_is : (s : CoordinatorSession) (e : BookEntry) (packet : List ℕ) → ServerSpeaks s → EntrySpeaks e → PlanSpeaks (take_second self m s e packet now)
  second_is s e packet k pair = checked_speaks m h _ (λ right.
      option_speaks (λ granted. keys_for self m s e (rand_p_in packet) granted now) (grant_for m s.server.eui) (drop_it m drops.NotAllowed)
      (λ granted is. keys_is s e (rand_p_in packet) granted k pair (grant_speaks m.station.ring (book.address_of m.book s.server.eui) granted reads is))
      (refuses m h _ _))

  accepts_is : (s : CoordinatorSession) (rand_p : RandomOctets) → ServerSpeaks s → PlanSpeaks (accepts m s rand_p now)
  accepts_is s rand_p k = checked_speaks m h _ (λ lacks.
      sealed_speaks m h _ _ _ (says_speaks s.way (message s.server.eui (body.Accept 2)) _
      (join_speaks s.server.eui (body.Accept 2) k.0 (front 3 (2 ∷ 0 ∷ 4 ∷ []) (omega arith)
      (front 2 (0 ∷ 4 ∷ []) (omega arith) (front 0 (4 ∷ []) (omega arith) (front 4 [] (omega arith) none)))) (omega arith))
      (tagged_speaks _ _ (with_memory_by (without_session s.server.eui) (empty_draft m)) (closed_speaks s.server.eui))))

  packet_is : (e : BookEntry) (packet : List ℕ) (s : CoordinatorSession) → ServerSpeaks s → EntrySpeaks e → PlanSpeaks (take_packet self m e packet now s)
  packet_is e packet s k pair = option_speaks (λ rand_p. take_fourth self m s e packet rand_p now) s.server.rand_p (take_second self m s e packet now)
      (λ rand_p here. checked_speaks m h _ (λ right. accepts_is s rand_p k)) (second_is s e packet k pair)

  answered_is : (meter : Eui) (packet : List ℕ) → PlanSpeaks (join_with_packet self m meter packet now)
  answered_is meter packet = option_speaks (λ e. option_map_or (take_packet self m e packet now) (session_of m meter) (drop_it m drops.NoSession))
      (allowed_entry m meter) (drop_it m drops.NotAllowed)
      (λ e allowed. option_speaks (take_packet self m e packet now) (session_of m meter) (drop_it m drops.NoSession)
      (λ s there. packet_is e packet s (session_speaks meter s there) (entry_speaks meter e allowed)) (refuses m h _ _)) (refuses m h _ _)

  -- # What is heard

  join_is : (way : Way) (meter : Eui) (b : JoinBody) → HasEui meter → WayFits way → PlanSpeaks (hear_join self m way meter b now)
  join_is way meter (body.Join []) named near = asked_is way meter named near
  join_is way meter (body.Join (x ∷ packet)) named near = answered_is meter (x ∷ packet)
  join_is way meter _ named near = refuses m h _ _

  join_in_is : (octets : List ℕ) (way : Way) (join : Option JoinMessage) → AreOctets octets → WayFits way → join_in octets ≡ join
      → PlanSpeaks (hear_join_in self m way join now)
  join_in_is octets way None are near read = refuses m h _ _
  join_in_is octets way (Some join) are near read = choose_speaks
      (λ may. join_is way join.eui join.body ((read_fits join octets read).eui, (read_octets join octets are read).eui) near) (λ other. refuses m h _ _)

  heard_by_is : (g : Given) → ((by : ℕ) (all : Bool) (u : MeshUnit) → IsCome g by all u → UnitSpeaks u)
      → (p : Plan StationMemory (Result Heard Dropped)) (u : Option Unread) → IfSome u UnreadFits
      → Planned alone dropped m.station (Handed g m.station) (MadeOf NoWord g m.station) p → PlanSpeaks (heard_by self m now p u)
  heard_by_is g comes p None b s = line_speaks g comes m h reads heard.Station p s
  heard_by_is g comes p (Some u) b s = join_in_is u.body u.way (join_in u.body) b.0 b.1 refl

  pub coordinator_speaks : (got : Accepted) (cost note : ℕ) → AreOctets got.payload → PlanSpeaks (hear_coordinator self m got cost note now)
  coordinator_speaks got cost note are =
      let p = station_rules.hear m.station got cost note now in
      heard_by_is (heard_given got cost note now) (comes_speaking got cost note now are) p (unread p.answer) (unreads_fit m.station got cost note now are)
      (hear_is NoWord (heard_given got cost note now) m.station got refl)

  -- # Orders

  changed_speaks : (e : BookEntry) → DraftSpeaksIn (changed m e)
  changed_speaks e = by_change (changes m e)
    where
      by_change : (b : Bool) → DraftSpeaksIn (if b then with_memory_by (without_session e.eui) (with_book_entry e (empty_draft m)) else empty_draft m)
      by_change true = noted_speaks e e.eui
      by_change false = begun

  pub allow_speaks : (meter : Eui) (psk : Key) → PlanSpeaks (allow m meter psk)
  allow_speaks meter psk =
      choose_speaks (λ room. sealing_speaks orders _ _ (changed_speaks (book.allowed_entry meter psk (book.entry_for m.book meter)))) (λ full. refuses m h _ _)

  depot_by_speaks : (meter : Eui) (psk : Key) (d : Draft Memory) → DraftSpeaksIn d → PlanSpeaks (depot_by m meter psk d)
  depot_by_speaks meter psk d s = option_speaks
      (λ granted. option_map_or (λ e. sealing in_memory orders (with_book_entry (book.issued_entry meter granted e) d) granted)
      (book.allowed_one d.memory.book meter) (refused orders m refusal.MetersFull)) (grant_for d.memory meter) (refused orders m refusal.MetersFull)
      (λ granted is. option_speaks (λ e. sealing in_memory orders (with_book_entry (book.issued_entry meter granted e) d) granted)
      (book.allowed_one d.memory.book meter) (refused orders m refusal.MetersFull)
      (λ e allowed. sealing_speaks orders _ granted (entered_speaks (book.issued_entry meter granted e) d s)) (refuses m h _ _)) (refuses m h _ _)

  pub depot_speaks : (meter : Eui) (psk : Key) → PlanSpeaks (depot m meter psk)
  depot_speaks meter psk = choose_speaks (λ room. depot_by_speaks meter psk _ (changed_speaks (book.allowed_entry meter psk (book.entry_for m.book meter))))
      (λ full. refuses m h _ _)

  pub rekey_speaks : (index : ℕ) (key : Key) → IsHeld (Some key) → PlanSpeaks (rekey m index key)
  rekey_speaks index key held = choose_speaks (λ active. refuses m h _ _)
      (λ other. sealing_speaks orders _ tt (ringed_speaks (ring.with_key m.station.ring index key) (empty_draft m) begun
      (ring_fits WordFits (λ w k. k) m.station.ring (ring.with_key m.station.ring index key) (Draws index key held) reads)))

  pub turn_speaks : (index : ℕ) → index ≤ 1 → PlanSpeaks (activate_self m index)
  turn_speaks index low = choose_speaks
      (λ held. sealing_speaks orders _ tt (ringed_speaks (ring.with_active m.station.ring index) (empty_draft m) begun
      (ring_fits WordFits (λ w k. k) m.station.ring (ring.with_active m.station.ring index) (Activates index low held) reads)))
      (λ none. refuses m h _ _)

  challenge_at_speaks : (meter : Eui) (to : ℕ) → HasEui meter → to < 0xFFFE → PlanSpeaks (challenge_at eui m meter now to)
  challenge_at_speaks meter to named near = checked_speaks m h _ (λ full.
      option_speaks (λ value. challenge_by eui m to now (server_for meter eui value)) (oldest m) (refused orders m refusal.NoRandom)
      (λ value here. checked_speaks m h _ (λ lacks.
      let s : CoordinatorSession = record { server = server_for meter eui value; way = Mesh to; since = now } in
      let is : RandSpeaks value = oldest_speaks m value h here in
      sealed_speaks m h _ _ _ (commanded_speaks to (message meter (body.Challenge (first_packet (server_for meter eui value)))) now (opens s (empty_draft m))
      (first_speaks meter value named is) (opened_speaks s (named, is.0, is.1, near)))))
      (refuses m h _ _))

  -- the address of a meter that is allowed
  allowed_low : (meter : Eui) (to : ℕ) → length m.book ≤ 999 → allowed_address m meter ≡ Some to → to < 0xFFFE
  allowed_low meter to short e = by_allowed (book.is_allowed m.book meter) e
    where
      by_allowed : (b : Bool) → (if b then book.address_of m.book meter else None) ≡ Some to → to < 0xFFFE
      by_allowed true e = booked_low m.book meter to short e
      by_allowed false e = absurd (cc)

  pub challenge_speaks : (meter : Eui) → HasEui meter → length m.book ≤ 999 → PlanSpeaks (challenge eui m meter now)
  challenge_speaks meter named short = option_speaks (challenge_at eui m meter now) (allowed_address m meter) (refused orders m refusal.NotAllowed)
      (λ to here. challenge_at_speaks meter to named (allowed_low meter to short here)) (refuses m h _ _)

  activate_by_speaks : (e : BookEntry) (index to : ℕ) → index ≤ 1 → EntrySpeaks e → PlanSpeaks (activate_by m e index now to)
  activate_by_speaks e index to low k = choose_speaks
      (λ issued. checked_speaks m h _ (λ lacks. sealed_speaks m h _ _ _
      (commanded_speaks to (message e.eui (body.Activate index)) now (empty_draft m)
      (join_speaks e.eui (body.Activate index) k.0 (front index [] (omega arith) none) (omega arith)) begun)))
      (λ none. refuses m h _ _)

  pub activate_speaks : (meter : Eui) (index : ℕ) → index ≤ 1 → PlanSpeaks (activate m meter index now)
  activate_speaks meter index low = option_speaks (λ e. option_map_or (activate_by m e index now) (book.address_of m.book meter)
      (refused orders m refusal.NotAllowed)) (allowed_entry m meter) (refused orders m refusal.NotAllowed)
      (λ e allowed. option_speaks (activate_by m e index now) (book.address_of m.book meter) (refused orders m refusal.NotAllowed)
      (λ to here. activate_by_speaks e index to low (entry_speaks meter e allowed)) (refuses m h _ _))
      (refuses m h _ _)

  kick_goes_speaks : (to : ℕ) (join : JoinMessage) (d : Draft Memory) → JoinSpeaks join → DraftSpeaksIn d → DraftSpeaksIn (kick_goes m to join d)
  kick_goes_speaks to join d said s = by_route (is_some (next_hop m.station to) && nat_lt 0 (counters_left m.station))
    where
      by_route : (b : Bool) → DraftSpeaksIn (if b then is_commanded to join 0 d else d)
      by_route true = commanded_speaks to join 0 d said s
      by_route false = s

  kick_by_speaks : (e : BookEntry) (to : ℕ) → EntrySpeaks e → PlanSpeaks (kick_by m e to)
  kick_by_speaks e to k = sealing_speaks orders _ tt
      (kick_goes_speaks to (message e.eui body.Kick) _ (join_speaks e.eui body.Kick k.0 none (omega arith)) (noted_speaks (book.kicked_entry e.eui e) e.eui))

  pub kick_speaks : (meter : Eui) → PlanSpeaks (kick m meter)
  kick_speaks meter = option_speaks (λ e. option_map_or (kick_by m e) (book.address_of m.book meter) (refused orders m refusal.NotAllowed))
      (allowed_entry m meter) (refused orders m refusal.NotAllowed)
      (λ e allowed. option_speaks (kick_by m e) (book.address_of m.book meter) (refused orders m refusal.NotAllowed)
      (λ to here. kick_by_speaks e to (entry_speaks meter e allowed)) (refuses m h _ _))
      (refuses m h _ _)
