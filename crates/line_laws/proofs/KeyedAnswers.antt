-- Where the coordinator answers that keys went out, they are those of its ring, for a meter that it allows.
use Rattle.std.proofs.Common.{◌≡◌, ℕ, true, List, [], ◌∷◌, Option, Some, None, Result, Ok, refl, sym, ap, ◌∙◌, subst}
use Rattle.std.specs.Prelude.{if◌then◌else◌, IfSome, is_some}
use Rattle.std.specs.Option.{option_map_or}
use Rattle.store_tables.specs.SlotTables as slots
use Rattle.plc_base.specs.declared.address.Eui.{Eui}
use Rattle.plc_base.specs.declared.key.RandomOctets.{RandomOctets}
use Rattle.plc_base.specs.Grant.{Granted}
use Rattle.eap_psk.specs.declared.server.Server.{Server}
use Rattle.group_keys.specs.declared.key_book.BookEntry.{BookEntry}
use Rattle.group_keys.specs.KeyBook as book
use Rattle.joining_messages.specs.declared.message.JoinMessage.{JoinMessage}
use Rattle.joining_messages.specs.declared.message.JoinBody.{JoinBody}
use Rattle.joining_messages.specs.declared.message.JoinBody.TheVariants as body
use Rattle.joining_messages.specs.Reader.{join_in}
use Rattle.node_rules.specs.Accepted.{Accepted}
use Rattle.node_rules.specs.declared.heard.CoordinatorHeard.{CoordinatorHeard}
use Rattle.node_rules.specs.declared.heard.CoordinatorHeard.TheVariants as heard
use Rattle.node_rules.specs.declared.heard.Heard.{Heard}
use Rattle.node_rules.specs.declared.heard.Way.{Way}
use Rattle.node_rules.specs.declared.refusal.Dropped.{Dropped}
use Rattle.node_rules.specs.declared.refusal.Dropped.TheVariants as drops
use Rattle.node_rules.specs.Memory.{StationMemory, Memory, CoordinatorSession}
use Rattle.node_rules.specs.Plans.{Plan, resting}
use Rattle.node_rules.specs.Drafts.{Draft, alone}
use Rattle.node_rules.specs.HearingRules as station_rules
use Rattle.node_rules.specs.HearingRules.{dropped}
use Rattle.node_rules.specs.JoiningPackets.{server_for}
use Rattle.eap_psk.specs.Sessions.{rand_p_in}
use Rattle.node_rules.specs.MemoryDrafts.{in_memory, with_station, oldest, Unread, unread}
use Rattle.node_rules.specs.Coordinators.{Hearing, CoordinatorIdentity, drop_it, session_of, grant_for, declines, challenges, open_session, join_without_packet}
use Rattle.node_rules.specs.Coordinators.{keys_for}
use Rattle.node_rules.specs.Coordinators.{take_second, accepts, take_fourth, take_packet, join_with_packet, hear_join, hear_join_in, heard_by, hear_coordinator}
use Rattle.node_rules.specs.Coordinators.{allowed_entry}
use Rattle.node_rules.proofs.MemoryDraftShapes.{whole}
use Rattle.line_laws.proofs.Planned.{Planned, Refuses, Keeps, Ended, checked_planned, choose_planned, sealed_planned, option_planned}
use Rattle.line_laws.proofs.Made.{RingWord, Given}
use Rattle.line_laws.proofs.SizeFold.{session_number}
use Rattle.line_laws.proofs.HearingForms.{Handed, MadeOf, hear_is}
use Rattle.line_laws.proofs.IssueCoordinator.{keyed_in}

-- The keys are those of the ring, under the book's address of a meter that is allowed, and whose session runs.
pub record IsGrantedTo (m : Memory) (eui : Eui) (granted : Granted) : Type 0 where
  pub grant : grant_for m eui ≡ Some granted
  pub allowed : is_some (allowed_entry m eui) ≡ true
  pub asked : Eui
  pub session : CoordinatorSession
  pub there : session_of m asked ≡ Some session
  pub named : eui ≡ session.server.eui

abbrev NoWord : RingWord → Type 0
NoWord w = ⊥

-- who has the number of an EUI that is allowed is allowed
allowed_same : (m : Memory) (a b : Eui) → book.eui_number a ≡ book.eui_number b → is_some (allowed_entry m b) ≡ true → is_some (allowed_entry m a) ≡ true
allowed_same m a b same h =
    (λ i. is_some (option_map_or (λ (e : BookEntry). if e.allowed then Some e else None) (slots.entry_of book.entries m.book (same i)) None)) ∙ h

module _ (own : CoordinatorIdentity) (m : Memory) (g : Given) where
  abbrev Says : Draft Memory → CoordinatorHeard → Type 0
  Says d a = IfSome (keyed_in a) (λ k. IsGrantedTo m k.eui k.granted)

  abbrev Any : Memory → CoordinatorHeard → Type 0
  Any n a = keyed_in a ≡ None

  abbrev Is : Hearing → Type 0
  Is p = Planned in_memory dropped m Any Says p

  declines_is : (way : Way) (join : JoinMessage) → Is (declines m way join g.now)
  declines_is way join = checked_planned (λ lacks. sealed_planned _ _ tt)

  challenges_is : (way : Way) (server : Server) → Is (challenges m way server g.now)
  challenges_is way server = checked_planned (λ lacks. sealed_planned _ _ tt)

  open_is : (way : Way) (eui : Eui) → Is (open_session own m way eui g.now)
  open_is way eui = checked_planned (λ e. option_planned (λ value. challenges m way (server_for eui own.eui value) g.now) (oldest m) (drop_it m drops.NoRandom)
      (λ value here. challenges_is way (server_for eui own.eui value)) (λ none. Refuses _))

  asked_is : (way : Way) (eui : Eui) → Is (join_without_packet own m way eui g.now)
  asked_is way eui = choose_planned (λ allowed. open_is way eui) (λ other. declines_is way _)

  keys_is : (s : CoordinatorSession) (e : BookEntry) (rand_p : RandomOctets) (granted : Granted) → IsGrantedTo m s.server.eui granted
      → Is (keys_for own m s e rand_p granted g.now)
  keys_is s e rand_p granted is = checked_planned (λ lacks. sealed_planned _ _ is)

  second_is : (asked : Eui) (s : CoordinatorSession) (e : BookEntry) (packet : List ℕ) → session_of m asked ≡ Some s
      → is_some (allowed_entry m s.server.eui) ≡ true → Is (take_second own m s e packet g.now)
  second_is asked s e packet there allowed = checked_planned (λ right.
      option_planned (λ granted. keys_for own m s e (rand_p_in packet) granted g.now) (grant_for m s.server.eui) (drop_it m drops.NotAllowed)
      (λ granted is. keys_is s e _ granted (record { grant = is; allowed = allowed; asked = asked; session = s; there = there; named = refl }))
      (λ none. Refuses _))

  accepts_is : (s : CoordinatorSession) (rand_p : RandomOctets) → Is (accepts m s rand_p g.now)
  accepts_is s rand_p = checked_planned (λ lacks. sealed_planned _ _ tt)

  packet_is : (asked : Eui) (e : BookEntry) (packet : List ℕ) (s : CoordinatorSession) → session_of m asked ≡ Some s
      → is_some (allowed_entry m s.server.eui) ≡ true → Is (take_packet own m e packet g.now s)
  packet_is asked e packet s there allowed = option_planned (λ rand_p. take_fourth own m s e packet rand_p g.now) s.server.rand_p
      (take_second own m s e packet g.now) (λ rand_p here. checked_planned (λ right. accepts_is s rand_p)) (λ none. second_is asked s e packet there allowed)

  answered_is : (eui : Eui) (packet : List ℕ) → Is (join_with_packet own m eui packet g.now)
  answered_is eui packet = option_planned (λ e. option_map_or (take_packet own m e packet g.now) (session_of m eui) (drop_it m drops.NoSession))
      (allowed_entry m eui) (drop_it m drops.NotAllowed)
      (λ e allowed. option_planned (take_packet own m e packet g.now) (session_of m eui) (drop_it m drops.NoSession)
      (λ s there. packet_is eui e packet s there (allowed_same m s.server.eui eui (session_number m eui s there) (ap is_some allowed))) (λ none. Refuses _))
      (λ none. Refuses _)

  join_is : (way : Way) (eui : Eui) (b : JoinBody) → Is (hear_join own m way eui b g.now)
  join_is way eui (body.Join []) = asked_is way eui
  join_is way eui (body.Join (x ∷ packet)) = answered_is eui (x ∷ packet)
  join_is way eui _ = Refuses _

  join_in_is : (way : Way) (join : Option JoinMessage) → Is (hear_join_in own m way join g.now)
  join_in_is way None = Refuses _
  join_in_is way (Some join) = choose_planned (λ may. join_is way join.eui join.body) (λ other. Refuses _)

  heard_by_is : (p : Plan StationMemory (Result Heard Dropped)) (u : Option Unread)
      → Planned alone dropped m.station (Handed g m.station) (MadeOf NoWord g m.station) p → Is (heard_by own m g.now p u)
  unfolding resting
  heard_by_is p None (Refuses reason) = Refuses reason
  heard_by_is p None (Keeps n answer k) = Keeps (with_station n m) (heard.Station answer) refl
  heard_by_is p None (Ended d answer done left) = Ended (whole m d) (heard.Station answer) tt left
  heard_by_is p (Some u) s = join_in_is u.way (join_in u.body)

  pub hears_keyed : (got : Accepted) → g.got ≡ Some got → Is (hear_coordinator own m got g.cost g.note g.now)
  hears_keyed got is = let p = station_rules.hear m.station got g.cost g.note g.now in heard_by_is p (unread p.answer) (hear_is NoWord g m.station got is)

  answer_keyed : (p : Plan Memory (Result CoordinatorHeard Dropped)) (eui : Eui) (granted : Granted) → Is p → p.answer ≡ Ok (heard.Keyed eui granted)
      → IsGrantedTo m eui granted
  unfolding resting
  answer_keyed p eui granted (Refuses reason) e = absurd (cc)
  answer_keyed p eui granted (Keeps n answer k) e = absurd (kept answer k e)
    where
      some : (a : CoordinatorHeard) → a ≡ heard.Keyed eui granted → keyed_in a ≡ None → ⊥
      some a e k = let two : keyed_in (heard.Keyed eui granted) ≡ None = ap keyed_in (sym e) ∙ k in cc (two)

      kept : (answer : CoordinatorHeard) → keyed_in answer ≡ None → (let r : Result CoordinatorHeard Dropped = Ok answer in r ≡ Ok (heard.Keyed eui granted))
          → ⊥
      kept answer k e = let same : answer ≡ heard.Keyed eui granted = cc (e) in some answer same k
  answer_keyed p eui granted (Ended d answer says left) e =
      subst (λ (a : CoordinatorHeard). IfSome (keyed_in a) (λ k. IsGrantedTo m k.eui k.granted)) (same answer e) says
    where
      same : (answer : CoordinatorHeard) → (let r : Result CoordinatorHeard Dropped = Ok answer in r ≡ Ok (heard.Keyed eui granted))
          → answer ≡ heard.Keyed eui granted
      same answer e = cc (e)

  -- the keys that go out are those of the ring, for a meter that is allowed
  pub keyed_granted : (got : Accepted) (eui : Eui) (granted : Granted) → g.got ≡ Some got
      → (hear_coordinator own m got g.cost g.note g.now).answer ≡ Ok (heard.Keyed eui granted) → IsGrantedTo m eui granted
  keyed_granted got eui granted is e = answer_keyed (hear_coordinator own m got g.cost g.note g.now) eui granted (hears_keyed got is) e
