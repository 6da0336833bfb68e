-- The account of keys of the coordinator: its ring, and which pair tags it makes and opens.
use Rattle.std.proofs.Common.{◌≡◌, ℕ, List, [], ◌∷◌, length, Option, Some, None, Result, Ok, Err, refl, sym, ap, ◌∙◌, subst}
use Rattle.std.specs.Prelude.{⊤, IfSome}
use Rattle.std.specs.Option.{option_map_or}
use Rattle.plc_base.specs.declared.address.Eui.{Eui}
use Rattle.plc_base.specs.declared.key.Key.{Key}
use Rattle.plc_base.specs.declared.key.RandomOctets.{RandomOctets}
use Rattle.plc_base.specs.declared.tags.PairTag.{PairTag}
use Rattle.plc_base.specs.declared.tags.PairTag.TheVariants as tags
use Rattle.plc_base.specs.Grant.{Granted}
use Rattle.group_keys.specs.KeyRing as ring
use Rattle.group_keys.specs.KeyBook as book
use Rattle.group_keys.specs.declared.key_book.BookEntry.{BookEntry}
use Rattle.joining_messages.specs.declared.message.JoinMessage.{JoinMessage}
use Rattle.joining_messages.specs.declared.message.JoinBody.{JoinBody}
use Rattle.joining_messages.specs.declared.message.JoinBody.TheVariants as body
use Rattle.joining_messages.specs.Reader.{join_in}
use Rattle.eap_psk.specs.Messages.{granting_text}
use Rattle.eap_psk.specs.Tags.{mac_p_tag, mac_s_tag, granting_tag, success_tag}
use Rattle.eap_psk.specs.declared.server.Server.{Server}
use Rattle.node_rules.specs.Accepted.{Accepted}
use Rattle.node_rules.specs.declared.heard.Heard.{Heard}
use Rattle.node_rules.specs.declared.heard.CoordinatorHeard.{CoordinatorHeard}
use Rattle.node_rules.specs.declared.heard.CoordinatorHeard.TheVariants as heard
use Rattle.node_rules.specs.declared.heard.Way.{Way}
use Rattle.node_rules.specs.declared.heard.Way.TheVariants.{Air, Near, Mesh}
use Rattle.node_rules.specs.declared.refusal.Dropped.{Dropped}
use Rattle.node_rules.specs.declared.refusal.Dropped.TheVariants as drops
use Rattle.line_rules.specs.Answers.{SentGrant, CompletedJoining}
use Rattle.node_rules.specs.Memory.{StationMemory, Memory, CoordinatorSession}
use Rattle.node_rules.specs.Plans.{Plan, resting}
use Rattle.node_rules.specs.Drafts.{Draft, Ends, alone, empty_draft}
use Rattle.node_rules.specs.HearingRules as station_rules
use Rattle.node_rules.specs.HearingRules.{dropped}
use Rattle.node_rules.specs.JoiningPackets.{message, server_for, server_agrees}
use Rattle.eap_psk.specs.Sessions.{rand_p_in}
use Rattle.node_rules.specs.MemoryDrafts.{in_memory, with_station, goes_up, goes_down, oldest, without_oldest, Unread, unread, with_memory_by, with_pair_tags}
use Rattle.node_rules.specs.MemoryDrafts.{on_station, station_part}
use Rattle.node_rules.specs.Coordinators.{Hearing, CoordinatorIdentity, drop_it, ends, session_of, with_session, without_session, grant_for, says}
use Rattle.node_rules.specs.Coordinators.{with_book_entry, declines, challenges, open_session, join_without_packet, keys_for, take_second, accepts, take_fourth}
use Rattle.node_rules.specs.Coordinators.{take_packet}
use Rattle.node_rules.specs.Coordinators.{join_with_packet, hear_join, hear_join_in, heard_by, hear_coordinator, allowed_entry}
use Rattle.node_rules.proofs.MemoryDraftShapes.{whole}
use Rattle.line_laws.specs.Stores.{IsReadable}
use Rattle.line_laws.proofs.Planned.{Planned, Refuses, Keeps, Ended, checked_planned, choose_planned, sealed_planned, option_planned}
use Rattle.line_laws.proofs.Made.{RingWord, RingChange, Given, Made}
use Rattle.line_laws.proofs.MadeIn.{unheard, MadeIn, Begins, Station, OnStation, Remembers, Tags as TagsIn, Enters, Up, Down, Beside, Ends as EndsIn, Asks}
use Rattle.line_laws.proofs.MadeIn.{Replies, Opens, Answers, Closes, Gives}
use Rattle.line_laws.proofs.HearingForms.{Handed, MadeOf, hear_is}
use Rattle.line_laws.proofs.AddressPuts.{RingWrites, writes_append, entry_away, counter_away, made_rung}
use Rattle.line_laws.proofs.IssueWords.{Among, Here, Each, commanded_leaves, made_tags}

-- # Rings, over the words of the memory

pub record RungIn (S : ring.Ring → Type 0) (d : Draft Memory) : Type 0 where
  pub puts : RingWrites S d.puts
  pub ring : S d.memory.station.ring
  pub reads : IfSome d.memory.station.ring IsReadable

beside_ring : (E : Eui → Type 0) (n k : Memory) → Beside E n k → k.station ≡ n.station
beside_ring E n k EndsIn = refl
beside_ring E n k (Asks s) = refl
beside_ring E n k (Replies s value here) = refl
beside_ring E n k (Opens s value here room is) = refl
beside_ring E n k (Answers s t eui there same) = refl
beside_ring E n k (Closes eui) = refl
beside_ring E n k (Gives value room) = refl

module _ (S : ring.Ring → Type 0) (W : RingWord → Type 0) (L : Granted → Type 0) (P : Eui → Key → Type 0) (E : Eui → Type 0) (g : Given) (m : Memory)
    (changes : (r x : ring.Ring) → RingChange W r x → IfSome r IsReadable → S r → S x × IfSome x IsReadable) (here : S m.station.ring)
    (reads : IfSome m.station.ring IsReadable) where
  made_in_rung : (d : Draft Memory) → MadeIn W L P E g m d → RungIn S d
  unfolding empty_draft on_station with_memory_by with_pair_tags with_book_entry goes_up goes_down
  made_in_rung d Begins = record { puts = tt; ring = here; reads = reads }
  made_in_rung d (Station e made) = let x = made_rung S W g changes (empty_draft m.station) e made (record { puts = tt; ring = here; reads = reads }) in
      record { puts = x.puts; ring = x.ring; reads = x.reads }
  made_in_rung d (OnStation word e made step) =
      let h = made_in_rung e made in
      let x = made_rung S W (unheard g) changes (station_part e) (word (station_part e)) step (record { puts = h.puts; ring = h.ring; reads = h.reads }) in
      record { puts = x.puts; ring = x.ring; reads = x.reads }
  made_in_rung d (Remembers change e made beside) =
      let h = made_in_rung e made in
      let same : (change e.memory).station.ring
      ≡ e.memory.station.ring = ap (λ (l : StationMemory). l.ring) (beside_ring E e.memory (change e.memory) beside) in
      record { puts = h.puts; ring = subst S (sym same) h.ring; reads = subst (λ r. IfSome r IsReadable) (sym same) h.reads }
  made_in_rung d (TagsIn made opened e x) = let h = made_in_rung e x in record { puts = h.puts; ring = h.ring; reads = h.reads }
  made_in_rung d (Enters x e made change) =
      let h = made_in_rung e made in record { puts = writes_append S e.puts _ h.puts (entry_away S e.memory.book x); ring = h.ring; reads = h.reads }
  made_in_rung d (Up agent own message e made) = let h = made_in_rung e made in record { puts = h.puts; ring = h.ring; reads = h.reads }
  made_in_rung d (Down own message e made) = let h = made_in_rung e made in record { puts = h.puts; ring = h.ring; reads = h.reads }

  pub plan_rung : {H F : Type 0} (ends : Ends F) (K : Memory → H → Type 0) (D : Draft Memory → H → Type 0)
      → ((d : Draft Memory) (a : H) → D d a → MadeIn W L P E g m d)
      → (p : Plan Memory (Result H F)) → Planned in_memory ends m K D p → RingWrites S p.puts
  unfolding resting
  plan_rung ends K D made p (Refuses reason) = tt
  plan_rung ends K D made p (Keeps n answer k) = tt
  plan_rung ends K D made p (Ended d answer done left) =
      writes_append S d.puts _ (made_in_rung d (made d answer done)).puts (counter_away S d.memory.station.counter (length d.units))

-- # Tags

-- which tags the coordinator makes: the third packet's for a meter whose keys it says to have sent
pub data CoordinatorTag (m : Memory) (keyed : Option SentGrant) : PairTag → Type 0 where
  ServerMac : (eui : Eui) (octets : List ℕ) → CoordinatorTag m keyed (tags.MacS eui octets)
  Third : (eui : Eui) (i : ℕ) (s p : RandomOctets) (granted : Granted) → keyed ≡ Some (record { eui = eui; granted = granted }) → grant_for m eui ≡ Some granted
      → CoordinatorTag m keyed (granting_tag eui i s p (granting_text granted))

-- a joining that is done was found right
abbrev pub IsDoneBy : List PairTag → CompletedJoining → Type 0
IsDoneBy opened c = Among (success_tag c.eui 2 c.agreed.rand_s c.agreed.rand_p) opened

pub record CoordinatorSays (m : Memory) (keyed : Option SentGrant) (done : Option CompletedJoining) (d : Draft Memory) : Type 0 where
  pub made : Each (CoordinatorTag m keyed) d.made
  pub right : IfSome done (IsDoneBy d.opened)

abbrev pub keyed_in : CoordinatorHeard → Option SentGrant
keyed_in (heard.Keyed eui granted) = Some (record { eui = eui; granted = granted })
keyed_in _ = None

abbrev pub done_in : CoordinatorHeard → Option CompletedJoining
done_in (heard.Done eui agreed) = Some (record { eui = eui; agreed = agreed })
done_in _ = None

abbrev NoWord : RingWord → Type 0
NoWord w = ⊥

module _ (m : Memory) (keyed : Option SentGrant) (done : Option CompletedJoining) where
  said : (way : Way) (join : JoinMessage) (now : ℕ) (d : Draft Memory) → CoordinatorSays m keyed done d → CoordinatorSays m keyed done (says way join now d)
  unfolding goes_down
  said (Air eui) join now d h = record { made = h.made; right = h.right }
  said (Near agent) join now d h = h
  said (Mesh origin) join now d h =
      let l = commanded_leaves (λ r. ⊤) origin join now d in
      record { made = subst (Each (CoordinatorTag m keyed)) (sym l.made) h.made; right = subst (λ o. IfSome done (IsDoneBy o)) (sym l.opened) h.right }

none_says : (m : Memory) → CoordinatorSays m None None (empty_draft m)
unfolding empty_draft
none_says m = record { made = tt; right = tt }

changed_says : (m : Memory) (change : Memory → Memory) → CoordinatorSays m None None (with_memory_by change (empty_draft m))
unfolding empty_draft with_memory_by
changed_says m change = record { made = tt; right = tt }

noted_says : (m : Memory) (s : CoordinatorSession) (e : BookEntry) (rand_p : RandomOctets) (granted : Granted) (change : Memory → Memory)
    → grant_for m s.server.eui ≡ Some granted
    → CoordinatorSays m (Some (record { eui = s.server.eui; granted = granted })) None
    (with_pair_tags (mac_s_tag s.server.eui s.server.id_s rand_p ∷ granting_tag s.server.eui 2 s.server.rand_s rand_p (granting_text granted) ∷ [])
    (mac_p_tag s.server.eui s.server.id_s s.server.rand_s rand_p ∷ [])
    (with_book_entry (book.issued_entry s.server.eui granted e) (with_memory_by change (empty_draft m))))
unfolding empty_draft with_memory_by with_book_entry with_pair_tags
noted_says m s e rand_p granted change is =
    record { made = (ServerMac s.server.eui _, (Third s.server.eui 2 s.server.rand_s rand_p granted refl is, tt)); right = tt }

closed_says : (m : Memory) (s : CoordinatorSession) (rand_p : RandomOctets) (change : Memory → Memory)
    → CoordinatorSays m None (Some (record { eui = s.server.eui; agreed = server_agrees s.server rand_p }))
    (with_pair_tags [] (success_tag s.server.eui 2 s.server.rand_s rand_p ∷ []) (with_memory_by change (empty_draft m)))
unfolding empty_draft with_memory_by with_pair_tags
closed_says m s rand_p change = record { made = tt; right = Here [] }

module _ (own : CoordinatorIdentity) (m : Memory) (g : Given) where
  abbrev pub SaysBy : Draft Memory → CoordinatorHeard → Type 0
  SaysBy d a = CoordinatorSays m (keyed_in a) (done_in a) d

  abbrev pub Any : Memory → CoordinatorHeard → Type 0
  Any n a = done_in a ≡ None

  abbrev pub Is : Hearing → Type 0
  Is p = Planned in_memory dropped m Any SaysBy p

  declines_is : (way : Way) (join : JoinMessage) → Is (declines m way join g.now)
  declines_is way join = checked_planned (λ lacks. sealed_planned _ _ (said m None None way join g.now _ (none_says m)))

  challenges_is : (way : Way) (server : Server) → Is (challenges m way server g.now)
  challenges_is way server = checked_planned (λ lacks. sealed_planned _ _
      (said m None None way _ g.now _ (changed_says m (λ n. with_session (record { server = server; way = way; since = g.now }) (without_oldest n)))))

  open_is : (way : Way) (eui : Eui) → Is (open_session own m way eui g.now)
  open_is way eui = checked_planned (λ e. option_planned (λ value. challenges m way (server_for eui own.eui value) g.now) (oldest m) (drop_it m drops.NoRandom)
      (λ value here. challenges_is way (server_for eui own.eui value)) (λ none. Refuses _))

  asked_is : (way : Way) (eui : Eui) → Is (join_without_packet own m way eui g.now)
  asked_is way eui = choose_planned (λ allowed. open_is way eui) (λ other. declines_is way _)

  keys_is : (s : CoordinatorSession) (e : BookEntry) (rand_p : RandomOctets) (granted : Granted) → grant_for m s.server.eui ≡ Some granted
      → Is (keys_for own m s e rand_p granted g.now)
  keys_is s e rand_p granted is = checked_planned (λ lacks.
      sealed_planned _ _ (said m _ None s.way _ g.now _
      (noted_says m s e rand_p granted (with_session (record s { server = record s.server { rand_p = Some rand_p } })) is)))

  second_is : (s : CoordinatorSession) (e : BookEntry) (packet : List ℕ) → Is (take_second own m s e packet g.now)
  second_is s e packet = checked_planned (λ right.
      option_planned (λ granted. keys_for own m s e (rand_p_in packet) granted g.now) (grant_for m s.server.eui) (drop_it m drops.NotAllowed)
      (λ granted is. keys_is s e _ granted is) (λ none. Refuses _))

  accepts_is : (s : CoordinatorSession) (rand_p : RandomOctets) → Is (accepts m s rand_p g.now)
  accepts_is s rand_p = checked_planned (λ lacks. sealed_planned _ _ (said m None _ s.way _ g.now _ (closed_says m s rand_p (without_session s.server.eui))))

  packet_is : (e : BookEntry) (packet : List ℕ) (s : CoordinatorSession) → Is (take_packet own m e packet g.now s)
  packet_is e packet s = option_planned (λ rand_p. take_fourth own m s e packet rand_p g.now) s.server.rand_p (take_second own m s e packet g.now)
      (λ rand_p here. checked_planned (λ right. accepts_is s rand_p)) (λ none. second_is s e packet)

  answered_is : (eui : Eui) (packet : List ℕ) → Is (join_with_packet own m eui packet g.now)
  answered_is eui packet = option_planned (λ e. option_map_or (take_packet own m e packet g.now) (session_of m eui) (drop_it m drops.NoSession))
      (allowed_entry m eui) (drop_it m drops.NotAllowed)
      (λ e allowed. option_planned (take_packet own m e packet g.now) (session_of m eui) (drop_it m drops.NoSession) (λ s there. packet_is e packet s)
      (λ none. Refuses _)) (λ none. Refuses _)

  join_is : (way : Way) (eui : Eui) (b : JoinBody) → Is (hear_join own m way eui b g.now)
  join_is way eui (body.Join []) = asked_is way eui
  join_is way eui (body.Join (x ∷ packet)) = answered_is eui (x ∷ packet)
  join_is way eui _ = Refuses _

  join_in_is : (way : Way) (join : Option JoinMessage) → Is (hear_join_in own m way join g.now)
  join_in_is way None = Refuses _
  join_in_is way (Some join) = choose_planned (λ may. join_is way join.eui join.body) (λ other. Refuses _)

  station_says : (d : Draft StationMemory) → Made NoWord g (empty_draft m.station) d → CoordinatorSays m None None (whole m d)
  unfolding empty_draft
  station_says d made =
      let t = made_tags NoWord g (empty_draft m.station) d made in record { made = subst (Each (CoordinatorTag m None)) (sym t.0) tt; right = tt }

  heard_by_is : (p : Plan StationMemory (Result Heard Dropped)) (u : Option Unread)
      → Planned alone dropped m.station (Handed g m.station) (MadeOf NoWord g m.station) p → Is (heard_by own m g.now p u)
  unfolding resting
  heard_by_is p None (Refuses reason) = Refuses reason
  heard_by_is p None (Keeps n answer k) = Keeps (with_station n m) (heard.Station answer) refl
  heard_by_is p None (Ended d answer done left) = Ended (whole m d) (heard.Station answer) (station_says d done.0) left
  heard_by_is p (Some u) s = join_in_is u.way (join_in u.body)

  pub coordinator_hears : (got : Accepted) → g.got ≡ Some got → Is (hear_coordinator own m got g.cost g.note g.now)
  coordinator_hears got is = let p = station_rules.hear m.station got g.cost g.note g.now in heard_by_is p (unread p.answer) (hear_is NoWord g m.station got is)

-- What a plan of the coordinator says of its tags.
pub record CoordinatorTags (m : Memory) (keyed : Option SentGrant) (done : Option CompletedJoining) {A : Type 0} (p : Plan Memory A) : Type 0 where
  pub made : Each (CoordinatorTag m keyed) p.made
  pub right : IfSome done (IsDoneBy p.opened)

pub says_tags : {F : Type 0} (m : Memory) (ends : Ends F) (K : Memory → CoordinatorHeard → Type 0) (keyed : Result CoordinatorHeard F → Option SentGrant)
    (done : Result CoordinatorHeard F → Option CompletedJoining)
    → ((a : CoordinatorHeard) → keyed (Ok a) ≡ keyed_in a) → ((a : CoordinatorHeard) → done (Ok a) ≡ done_in a) → ((f : F) → done (Err f) ≡ None)
    → ((a : CoordinatorHeard) (n : Memory) → K n a → done_in a ≡ None)
    → (p : Plan Memory (Result CoordinatorHeard F)) → Planned in_memory ends m K (λ d a. CoordinatorSays m (keyed_in a) (done_in a) d) p
    → CoordinatorTags m (keyed p.answer) (done p.answer) p
unfolding resting
says_tags m ends K keyed done same finished failed quiet p (Refuses reason) =
    record { made = tt; right = subst (λ o. IfSome o (IsDoneBy [])) (sym (failed reason)) tt }
says_tags m ends K keyed done same finished failed quiet p (Keeps n answer k) =
    record { made = tt; right = subst (λ o. IfSome o (IsDoneBy [])) (sym (finished answer ∙ quiet answer n k)) tt }
says_tags m ends K keyed done same finished failed quiet p (Ended d answer says left) = record {
  made = subst (λ o. Each (CoordinatorTag m o) d.made) (sym (same answer)) says.made;
  right = subst (λ o. IfSome o (IsDoneBy d.opened)) (sym (finished answer)) says.right;
}
