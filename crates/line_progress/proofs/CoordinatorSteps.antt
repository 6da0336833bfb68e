-- What the coordinator does in a joining, whichever way its messages go: it challenges, answers with the grant, and accepts.
use Rattle.std.proofs.Common.{◌≡◌, ◌<◌, ℕ, Bool, true, false, cond, List, [], ◌∷◌, length, Option, Some, None, Ok, Err, refl, sym, ap, ◌∙◌, arith}
use Rattle.std.specs.Prelude.{if◌then◌else◌, position, set, ◌++◌, not}
use Rattle.std.specs.List.{filter, find}
use Rattle.std.specs.Option.{option_map, option_map_or}
use Rattle.plc_base.specs.Faults.{◌when◌}
use Rattle.plc_base.specs.declared.address.Eui.{Eui}
use Rattle.plc_base.specs.declared.key.RandomOctets.{RandomOctets}
use Rattle.plc_base.specs.Grant.{Granted}
use Rattle.store_tables.specs.SlotTables.{Layout}
use Rattle.store_tables.proofs.LookUps.{entry_of-find, entry_set, entry_push}
use Rattle.group_keys.specs.declared.key_book.BookEntry.{BookEntry}
use Rattle.group_keys.specs.KeyBook as book
use Rattle.group_keys.proofs.EntryPuts.{has_entry}
use Rattle.joining_messages.specs.declared.message.JoinMessage.{JoinMessage}
use Rattle.joining_messages.specs.declared.message.JoinBody.TheVariants as body
use Rattle.joining_messages.specs.Messages as joining
use Rattle.eap_psk.specs.Messages.{granting_text}
use Rattle.eap_psk.specs.Sessions.{rand_p_in}
use Rattle.eap_psk.specs.Tags.{granting_tag, mac_p_tag, mac_s_tag, success_tag}
use Rattle.eap_psk.specs.declared.server.Server.{Server}
use Rattle.node_rules.specs.declared.heard.CoordinatorHeard.TheVariants as heard
use Rattle.node_rules.specs.declared.heard.Heard.TheVariants as station_heard
use Rattle.node_rules.specs.declared.heard.Path.TheVariants as paths
use Rattle.node_rules.specs.declared.heard.Way.{Way}
use Rattle.node_rules.specs.declared.heard.Way.TheVariants.{Air}
use Rattle.node_rules.specs.declared.refusal.Dropped.TheVariants as drops
use Rattle.node_rules.specs.Acceptance.{same_eui}
use Rattle.node_rules.specs.Coordinators.{CoordinatorIdentity, accepts, allowed_entry, challenges, declines, drop_it, ends, grant_for, hear_coordinator}
use Rattle.node_rules.specs.Coordinators.{hear_join, hear_join_in, heard_by, is_of, keys_for, open_session, opens, say_lack, says, session_of}
use Rattle.node_rules.specs.Coordinators.{sessions_full, take_fourth, take_packet, take_second, with_book_entry, with_session, without_session}
use Rattle.node_rules.specs.Drafts.{Draft, checked, choose, empty_draft}
use Rattle.node_rules.specs.Frames.{Down}
use Rattle.node_rules.specs.HearingRules.{dropped, hear, hear_unit_in}
use Rattle.node_rules.specs.JoiningPackets.{first_packet, message, server_agrees, server_for}
use Rattle.node_rules.specs.Memory.{CoordinatorSession, Memory}
use Rattle.node_rules.specs.MemoryDrafts.{goes_down, oldest, packet_fault, unread, with_memory_by, with_pair_tags, without_oldest}
use Rattle.node_rules.specs.Plans.{resting}
use Rattle.line_progress.proofs.PlainFrames.{got_by, message_is, unit_is}
use Rattle.line_progress.proofs.PlainPlans.{Gives, gives_so, unsealed}

-- # What it hears

module _ (own : CoordinatorIdentity) (m : Memory) (said : JoinMessage) (fits : joining.IsMessage said) (mine : same_eui said.eui said.eui ≡ true)
    (cost note now : ℕ) where
  is_read : hear m.station (got_by said fits (paths.Up said.eui)) cost note now
      ≡ resting m.station (Ok (station_heard.Joining (Air said.eui) (joining.spelling said))) (Err drops.Store)
  is_read = λ i. hear_unit_in m.station (paths.Up said.eui) (unit_is said fits i) cost note now

  -- a message over the air from its own meter is heard as such
  pub hears_air : hear_coordinator own m (got_by said fits (paths.Up said.eui)) cost note now ≡ hear_join own m (Air said.eui) said.eui said.body now
  unfolding resting choose
  hears_air =
      (λ i. heard_by own m now (is_read i) (unread (is_read i).answer))
      ∙ (λ i. hear_join_in own m (Air said.eui) (message_is said fits i) now)
      ∙ (λ i. choose (mine i) (hear_join own m (Air said.eui) said.eui said.body now) (drop_it m drops.BadUnit))

-- # Looking up

-- sessions by their meters, as a table
abbrev by_meter : Layout CoordinatorSession
by_meter = record {
  first = 0;
  slots = 0;
  read = λ place octets. None;
  octets = λ place s. [];
  storable = λ s. true;
  rest = λ s. s;
  key = λ s. book.eui_number s.server.eui;
}

-- a session that was put in is found
pub session_is : (m : Memory) (s : CoordinatorSession) → session_of (with_session s m) s.server.eui ≡ Some s
session_is m s = by_place (position (λ (t : CoordinatorSession). same_eui t.server.eui s.server.eui) m.sessions) refl
  where
    by_place : (o : Option ℕ) → position (λ (t : CoordinatorSession). same_eui t.server.eui s.server.eui) m.sessions ≡ o
        → session_of (record m { sessions = option_map_or (λ place. set m.sessions place s) o (m.sessions ++ s ∷ []) }) s.server.eui ≡ Some s
    by_place None e = entry_push by_meter m.sessions s e
    by_place (Some place) e = entry_set by_meter m.sessions place s e

-- so is the entry of an allowed meter
pub entry_is : (b : book.Book) (e : BookEntry) → e.allowed ≡ true → book.allowed_one (book.with_entry b e) e.eui ≡ Some e
entry_is b e allowed =
    (λ i. option_map_or (λ (x : BookEntry). if x.allowed then Some x else None) ((has_entry b e).here i) None)
    ∙ (λ i. if allowed i then Some e else None)

-- an entry that is found allowed is allowed
pub allowed_so : (b : book.Book) (eui : Eui) (e : BookEntry) → book.allowed_one b eui ≡ Some e → (book.is_allowed b eui ≡ true) × (e.allowed ≡ true)
allowed_so b eui e = by_entry (book.entry_for b eui)
  where
    by_flag : (x : BookEntry) (flag : Bool) → x.allowed ≡ flag → (if flag then Some x else None) ≡ Some e → (flag ≡ true) × (e.allowed ≡ true)
    by_flag x true is same = (refl, ap (λ (o : Option BookEntry). option_map_or (λ (y : BookEntry). y.allowed) o true) (sym same) ∙ is)
    by_flag x false is same = absurd (cc)

    by_entry : (o : Option BookEntry) → option_map_or (λ (x : BookEntry). if x.allowed then Some x else None) o None ≡ Some e
        → (option_map_or (λ (x : BookEntry). x.allowed) o false ≡ true) × (e.allowed ≡ true)
    by_entry None same = absurd (cc)
    by_entry (Some x) same = by_flag x x.allowed refl same

-- # What it does

module _ (own : CoordinatorIdentity) (m : Memory) (way : Way) (eui : Eui) (now : ℕ) where
  -- a session of a meter, which goes this way
  abbrev pub session_with : Server → ℕ → CoordinatorSession
  session_with server since = record { server = server; way = way; since = since }

  -- it challenges a meter that is allowed
  module _ (e : BookEntry) (allows : allowed_entry m eui ≡ Some e) (room : sessions_full m eui ≡ false) (value : RandomOctets)
      (given : oldest m ≡ Some value) where
    abbrev pub asked_by : Server
    asked_by = server_for eui own.eui value

    abbrev pub first : JoinMessage
    first = message eui (body.Challenge (first_packet asked_by))

    abbrev pub challenging : Draft Memory
    challenging = says way first now (opens (session_with asked_by now) (empty_draft m))

    pub challenges_it : say_lack m way first ≡ None → hear_join own m way eui (body.Join []) now ≡ ends m challenging heard.Challenged
    unfolding choose checked
    challenges_it free =
        (λ i. choose ((allowed_so m.book eui e allows).0 i) (open_session own m way eui now) (declines m way (message eui body.Decline) now))
        ∙ (λ i. checked dropped m (Some drops.SessionsFull when room i)
        (option_map_or (λ value. challenges m way (server_for eui own.eui value) now) (oldest m) (drop_it m drops.NoRandom)))
        ∙ (λ i. option_map_or (λ value. challenges m way (server_for eui own.eui value) now) (given i) (drop_it m drops.NoRandom))
        ∙ (λ i. checked dropped m (free i) (ends m challenging heard.Challenged))

  -- a packet comes in a session
  module _ (e : BookEntry) (allows : allowed_entry m eui ≡ Some e) (server : Server) (since : ℕ)
      (runs : session_of m eui ≡ Some (session_with server since)) where
    by_session : (packet : List ℕ) → 0 < length packet
        → hear_join own m way eui (body.Join packet) now ≡ take_packet own m e packet now (session_with server since)
    by_session [] some = absurd (omega arith)
    by_session (octet ∷ packet) some =
        (λ i. option_map_or (λ e. option_map_or (take_packet own m e (octet ∷ packet) now) (session_of m eui) (drop_it m drops.NoSession))
        (allows i) (drop_it m drops.NotAllowed))
        ∙ (λ i. option_map_or (take_packet own m e (octet ∷ packet) now) (runs i) (drop_it m drops.NoSession))

    -- the second: it answers with the grant
    module _ (packet : List ℕ) (some : 0 < length packet) (new : server.rand_p ≡ None) (fault : own.ciphers.second_fault e.psk server packet ≡ None)
        (rand_p : RandomOctets) (names : rand_p_in packet ≡ rand_p) (grant : Granted) (grants : grant_for m server.eui ≡ Some grant) where
      abbrev pub third : JoinMessage
      third = message server.eui (body.Challenge (own.ciphers.third e.psk server rand_p grant))

      abbrev pub granting : Draft Memory
      granting =
          says way third now
          (with_pair_tags (mac_s_tag server.eui server.id_s rand_p ∷ granting_tag server.eui 2 server.rand_s rand_p (granting_text grant) ∷ [])
          (mac_p_tag server.eui server.id_s server.rand_s rand_p ∷ [])
          (with_book_entry (book.issued_entry server.eui grant e)
          (with_memory_by (with_session (session_with (record server { rand_p = Some rand_p }) since)) (empty_draft m))))

      pub grants_it : say_lack m way third ≡ None → hear_join own m way eui (body.Join packet) now ≡ ends m granting (heard.Keyed server.eui grant)
      unfolding checked
      grants_it free =
          by_session packet some
          ∙ (λ i. option_map_or (λ rand_p. take_fourth own m (session_with server since) e packet rand_p now) (new i)
          (take_second own m (session_with server since) e packet now))
          ∙ (λ i. checked dropped m (option_map packet_fault (fault i))
          (option_map_or (λ granted. keys_for own m (session_with server since) e (rand_p_in packet) granted now) (grant_for m server.eui)
          (drop_it m drops.NotAllowed)))
          ∙ (λ i. option_map_or (λ granted. keys_for own m (session_with server since) e (names i) granted now) (grants i) (drop_it m drops.NotAllowed))
          ∙ (λ i. checked dropped m (free i) (ends m granting (heard.Keyed server.eui grant)))

    -- the fourth: it accepts
    module _ (packet : List ℕ) (some : 0 < length packet) (rand_p : RandomOctets) (old : server.rand_p ≡ Some rand_p)
        (fault : own.ciphers.fourth_fault e.psk server rand_p packet ≡ None) where
      abbrev pub accepted : JoinMessage
      accepted = message server.eui (body.Accept 2)

      abbrev pub accepting : Draft Memory
      accepting =
          says way accepted now
          (with_pair_tags [] (success_tag server.eui 2 server.rand_s rand_p ∷ []) (with_memory_by (without_session server.eui) (empty_draft m)))

      pub accepts_it : say_lack m way accepted ≡ None
          → hear_join own m way eui (body.Join packet) now ≡ ends m accepting (heard.Done server.eui (server_agrees server rand_p))
      unfolding checked
      accepts_it free =
          by_session packet some
          ∙ (λ i. option_map_or (λ rand_p. take_fourth own m (session_with server since) e packet rand_p now) (old i)
          (take_second own m (session_with server since) e packet now))
          ∙ (λ i. checked dropped m (option_map packet_fault (fault i)) (accepts m (session_with server since) rand_p now))
          ∙ (λ i. checked dropped m (free i) (ends m accepting (heard.Done server.eui (server_agrees server rand_p))))

-- a session that ended is found no more
pub session_gone : (m : Memory) (eui : Eui) → session_of (without_session eui m) eui ≡ None
session_gone m eui = entry_of-find by_meter (filter (λ s. not (is_of eui s)) m.sessions) (book.eui_number eui) ∙ none m.sessions
  where
    by_test : (s : CoordinatorSession) (rest : List CoordinatorSession) (b : Bool) → is_of eui s ≡ b → find (is_of eui) rest ≡ None
        → find (is_of eui) (cond (not b) (s ∷ rest) rest) ≡ None
    by_test s rest true is none = none
    by_test s rest false is none = (λ i. cond (is i) (Some s) (find (is_of eui) rest)) ∙ none

    none : (sessions : List CoordinatorSession) → find (is_of eui) (filter (λ s. not (is_of eui s)) sessions) ≡ None
    none [] = refl
    none (s ∷ sessions) = by_test s (filter (λ s. not (is_of eui s)) sessions) (is_of eui s) refl (none sessions)

-- # Over the air

-- what it holds when it has challenged, when it has granted, and when it has accepted
abbrev pub challenged : Memory → CoordinatorSession → Memory
challenged m s = unsealed (with_session s (without_oldest m))

abbrev pub granted : Memory → CoordinatorSession → BookEntry → Memory
granted m s e = unsealed (record (with_session s m) { book = book.with_entry m.book e })

abbrev pub closed : Memory → Eui → Memory
closed m eui = unsealed (without_session eui m)

module _ (own : CoordinatorIdentity) (m : Memory) (eui : Eui) (now : ℕ) (e : BookEntry) (allows : allowed_entry m eui ≡ Some e) where
  pub air_challenges : sessions_full m eui ≡ false → (value : RandomOctets) → oldest m ≡ Some value
      → Gives (hear_join own m (Air eui) eui (body.Join []) now) heard.Challenged
      (Down 0 (message eui (body.Challenge (first_packet (server_for eui own.eui value)))) ∷ [])
      (challenged m (session_with own m (Air eui) eui now (server_for eui own.eui value) now))
  unfolding goes_down with_memory_by empty_draft
  air_challenges room value given =
      gives_so dropped (challenging own m (Air eui) eui now e allows room value given) heard.Challenged refl m
      (hear_join own m (Air eui) eui (body.Join []) now)
      (challenges_it own m (Air eui) eui now e allows room value given refl)

  module _ (server : Server) (since : ℕ) (runs : session_of m eui ≡ Some (session_with own m (Air eui) eui now server since)) (packet : List ℕ)
      (some : 0 < length packet) where
    pub air_grants : server.rand_p ≡ None → own.ciphers.second_fault e.psk server packet ≡ None → (rand_p : RandomOctets) → rand_p_in packet ≡ rand_p
        → (grant : Granted) → grant_for m server.eui ≡ Some grant
        → Gives (hear_join own m (Air eui) eui (body.Join packet) now) (heard.Keyed server.eui grant)
        (Down 0 (message server.eui (body.Challenge (own.ciphers.third e.psk server rand_p grant))) ∷ [])
        (granted m (session_with own m (Air eui) eui now (record server { rand_p = Some rand_p }) since) (book.issued_entry server.eui grant e))
    unfolding goes_down with_pair_tags with_book_entry with_memory_by empty_draft
    air_grants new fault rand_p names grant grants =
        gives_so dropped (granting own m (Air eui) eui now e allows server since runs packet some new fault rand_p names grant grants)
        (heard.Keyed server.eui grant) refl m (hear_join own m (Air eui) eui (body.Join packet) now)
        (grants_it own m (Air eui) eui now e allows server since runs packet some new fault rand_p names grant grants refl)

    pub air_accepts : (rand_p : RandomOctets) → server.rand_p ≡ Some rand_p → own.ciphers.fourth_fault e.psk server rand_p packet ≡ None
        → Gives (hear_join own m (Air eui) eui (body.Join packet) now) (heard.Done server.eui (server_agrees server rand_p))
        (Down 0 (message server.eui (body.Accept 2)) ∷ []) (closed m server.eui)
    unfolding goes_down with_pair_tags with_memory_by empty_draft
    air_accepts rand_p old fault =
        gives_so dropped (accepting own m (Air eui) eui now e allows server since runs packet some rand_p old fault)
        (heard.Done server.eui (server_agrees server rand_p)) refl m (hear_join own m (Air eui) eui (body.Join packet) now)
        (accepts_it own m (Air eui) eui now e allows server since runs packet some rand_p old fault refl)
