-- The account of keys of a meter: where its ring comes from, which pair tags it makes, and whose its session is.
use Rattle.std.proofs.Common.{◌≡◌, ℕ, ◌≤◌, Bool, true, false, List, [], ◌∷◌, ◌++◌, length, Option, Some, None, Result, Ok, refl, sym, subst, arith}
use Rattle.std.specs.Prelude.{if◌then◌else◌, IfSome, is_some}
use Rattle.std.specs.Option.{option_map}
use Rattle.plc_base.specs.declared.address.Eui.{Eui}
use Rattle.plc_base.specs.declared.key.RandomOctets.{RandomOctets}
use Rattle.plc_base.specs.declared.tags.PairTag.{PairTag}
use Rattle.plc_base.specs.declared.tags.PairTag.TheVariants as tags
use Rattle.plc_base.specs.Grant.{Granted}
use Rattle.group_keys.specs.KeyRing as ring
use Rattle.joining_messages.specs.declared.message.JoinMessage.{JoinMessage}
use Rattle.joining_messages.specs.declared.message.JoinBody.{JoinBody}
use Rattle.joining_messages.specs.declared.message.JoinBody.TheVariants as body
use Rattle.joining_messages.specs.Reader.{join_in}
use Rattle.eap_psk.specs.Faults.{first_fault}
use Rattle.eap_psk.specs.Messages.{granting_text}
use Rattle.eap_psk.specs.Tags.{mac_p_tag, mac_s_tag, granting_tag, success_tag}
use Rattle.eap_psk.specs.declared.peer.Peer.{Peer}
use Rattle.eap_psk.specs.declared.server.Agreed.{Agreed}
use Rattle.node_rules.specs.Accepted.{Accepted}
use Rattle.node_rules.specs.declared.heard.Heard.{Heard}
use Rattle.node_rules.specs.declared.heard.MeterHeard.{MeterHeard}
use Rattle.node_rules.specs.declared.heard.MeterHeard.TheVariants as heard
use Rattle.node_rules.specs.declared.heard.Way.{Way}
use Rattle.node_rules.specs.declared.heard.Way.TheVariants.{Air, Near, Mesh}
use Rattle.node_rules.specs.declared.refusal.Dropped.{Dropped}
use Rattle.node_rules.specs.declared.refusal.JoinRefusal.{JoinRefusal}
use Rattle.node_rules.specs.declared.refusal.JoinRefusal.TheVariants.{AlreadyJoined}
use Rattle.node_rules.specs.declared.refusal.LeaveRefusal.{LeaveRefusal}
use Rattle.node_rules.specs.declared.refusal.LeaveRefusal.TheVariants as leaving
use Rattle.node_rules.specs.declared.refusal.Dropped.TheVariants.{BadUnit, NoSession, NoRandom}
use Rattle.node_rules.specs.Memory.{StationMemory, Memory, MeterSession, SessionWay, ByAgent, ByCommand, address_of}
use Rattle.node_rules.specs.Plans.{Plan, resting}
use Rattle.node_rules.specs.Drafts.{Draft, Ends, alone, empty_draft, checked, choose, with_ring, sealing, refused}
use Rattle.node_rules.specs.HearingRules as station_rules
use Rattle.node_rules.specs.HearingRules.{dropped}
use Rattle.node_rules.specs.JoiningPackets.{message}
use Rattle.eap_psk.specs.Sessions.{peer_for, agreed_by, identifier_of}
use Rattle.node_rules.specs.MemoryDrafts.{in_memory, with_station, goes_up, goes_down, is_commanded, oldest, without_oldest, Unread, unread, packet_fault}
use Rattle.node_rules.specs.MemoryDrafts.{with_memory_by, with_pair_tags, on_station}
use Rattle.node_rules.specs.Meters.{Hearing, Identity, with_session, drop_it, ends, says, leaves, carry_up, carries_down, carry_down, reply_with, reply}
use Rattle.node_rules.specs.Meters.{take_with, take_by, take, takes, replies, challenged, declined, kicked, activated, hear_near, hear_order, hear_join}
use Rattle.node_rules.specs.Meters.{hear_join_in, heard_by, hear_meter, joining_ends, join, leaving_ends, leave}
use Rattle.node_rules.proofs.MemoryDraftShapes.{whole}
use Rattle.line_laws.specs.Stores.{IsReadable}
use Rattle.line_laws.specs.Owed.{AreOctets}
use Rattle.joining_messages.specs.Messages.{rest_of}
use Rattle.joining_messages.proofs.JoinOctets.{read_octets}
use Rattle.line_laws.proofs.HeardOctets.{heard_octets}
use Rattle.line_laws.proofs.Planned.{Planned, Refuses, Keeps, Ended, checked_planned, choose_planned, sealed_planned, option_planned, sealing_planned}
use Rattle.line_laws.proofs.Made.{RingWord, RingChange, Drops, Installs, Draws, Activates, Given, Made}
use Rattle.line_laws.proofs.HearingForms.{Handed, HandsUp, HandsOn, Gathers, Completes, MadeOf, hear_is}
use Rattle.line_laws.proofs.AddressPuts.{Puts, RingWrites, writes_append, counter_away, made_rung}
use Rattle.line_laws.proofs.IssueWords.{Among, Here, Later, Each, commanded_leaves, made_tags}
pub use Rattle.line_laws.specs.Keyed.{PeerIs}

-- the same address and the same keys
pub record IsSame (g r : Granted) : Type 0 where
  pub address : g.address ≡ r.address
  pub key0 : g.key0 ≡ r.key0
  pub key1 : g.key1 ≡ r.key1

pub same_here : (g : Granted) → IsSame g g
same_here g = record { address = refl; key0 = refl; key1 = refl }

-- a grant was there, or came under a tag that was opened
pub data CameBy (eui : Eui) (old : ring.Ring) (opened : List PairTag) (g : Granted) : Type 0 where
  Held : (r : Granted) → old ≡ Some r → IsSame g r → CameBy eui old opened g
  Opened : (i : ℕ) (s p : RandomOctets) (r : Granted) → Among (granting_tag eui i s p (granting_text r)) opened → IsReadable r → IsSame g r
      → CameBy eui old opened g

abbrev pub From : Eui → ring.Ring → List PairTag → ring.Ring → Type 0
From eui old opened x = IfSome x (CameBy eui old opened)

-- which tags a meter makes: the fourth packet's where it took its grant
pub data MeterTag (eui : Eui) (took : Option Agreed) : PairTag → Type 0 where
  Second : (octets : List ℕ) → MeterTag eui took (tags.MacP eui octets)
  Fourth : (i : ℕ) (s p : RandomOctets) → took ≡ Some (record { rand_s = s; rand_p = p }) → MeterTag eui took (success_tag eui i s p)

-- what a meter took
abbrev pub took_in : MeterHeard → Option Agreed
took_in (heard.Took agreed) = Some agreed
took_in _ = None

pub record MeterDone (eui : Eui) (old : ring.Ring) (took : Option Agreed) (d : Draft Memory) : Type 0 where
  pub puts : RingWrites (From eui old d.opened) d.puts
  pub ring : From eui old d.opened d.memory.station.ring
  pub reads : IfSome d.memory.station.ring IsReadable
  pub session : PeerIs eui d.memory.session
  pub made : Each (MeterTag eui took) d.made

-- # Words

module _ (eui : Eui) (old : ring.Ring) (took : Option Agreed) where
  abbrev Done : Draft Memory → Type 0
  Done d = MeterDone eui old took d

  commanded : (to : ℕ) (join : JoinMessage) (now : ℕ) (d : Draft Memory) → Done d → Done (is_commanded to join now d)
  commanded to join now d h =
      let l = commanded_leaves (From eui old d.opened) to join now d in
      record {
        puts = subst (λ o. RingWrites (From eui old o) (is_commanded to join now d).puts) (sym l.opened) (l.puts h.puts h.reads h.ring);
        ring = subst (λ o. From eui old o (is_commanded to join now d).memory.station.ring) (sym l.opened) (subst (From eui old d.opened) (sym l.ring) h.ring);
        reads = subst (λ r. IfSome r IsReadable) (sym l.ring) h.reads;
        session = subst (PeerIs eui) (sym l.session) h.session;
        made = subst (Each (MeterTag eui took)) (sym l.made) h.made;
      }

  up : (agent : ℕ) (own : Eui) (join : JoinMessage) (d : Draft Memory) → Done d → Done (goes_up agent own join d)
  unfolding goes_up
  up agent own join d h = record { puts = h.puts; ring = h.ring; reads = h.reads; session = h.session; made = h.made }

  down : (own : ℕ) (join : JoinMessage) (d : Draft Memory) → Done d → Done (goes_down own join d)
  unfolding goes_down
  down own join d h = record { puts = h.puts; ring = h.ring; reads = h.reads; session = h.session; made = h.made }

  pub said : (session_way : SessionWay) (own : Eui) (join : JoinMessage) (now : ℕ) (d : Draft Memory) → Done d → Done (says session_way own join now d)
  said (ByAgent agent) own join now d h = up agent own join d h
  said ByCommand own join now d h = commanded 0 join now d h

held_from : (eui : Eui) (x : ring.Ring) → From eui x [] x
held_from eui None = tt
held_from eui (Some g) = Held g refl (same_here g)

begun_done : (eui : Eui) (took : Option Agreed) (m : Memory) → IfSome m.station.ring IsReadable → PeerIs eui m.session
    → MeterDone eui m.station.ring took (empty_draft m)
unfolding empty_draft
begun_done eui took m reads session = record { puts = tt; ring = held_from eui m.station.ring; reads = reads; session = session; made = tt }

-- another session
with_done : (eui : Eui) (took : Option Agreed) (m : Memory) (change : Memory → Memory) → IfSome m.station.ring IsReadable
    → (change m).station.ring ≡ m.station.ring → PeerIs eui (change m).session → MeterDone eui m.station.ring took (with_memory_by change (empty_draft m))
unfolding empty_draft with_memory_by
with_done eui took m change reads same session = record {
  puts = tt;
  ring = subst (From eui m.station.ring []) (sym same) (held_from eui m.station.ring);
  reads = subst (λ r. IfSome r IsReadable) (sym same) reads;
  session = session;
  made = tt;
}

-- the ring is dropped
left_done : (eui : Eui) (took : Option Agreed) (m : Memory) → MeterDone eui m.station.ring took (leaves m)
unfolding empty_draft with_memory_by on_station with_ring
left_done eui took m = record { puts = (Puts None tt tt, tt); ring = tt; reads = tt; session = tt; made = tt }

-- another key seals
turned_done : (eui : Eui) (took : Option Agreed) (m : Memory) (index : ℕ) → index ≤ 1 → is_some (ring.key_in_ring m.station.ring index) ≡ true
    → IfSome m.station.ring IsReadable → PeerIs eui m.session
    → MeterDone eui m.station.ring took (on_station (with_ring (ring.with_active m.station.ring index)) (empty_draft m))
unfolding empty_draft on_station with_ring
turned_done eui took m index low held reads session = record {
  puts = (Puts (ring.with_active m.station.ring index) (fits m.station.ring held reads) (from m.station.ring), tt);
  ring = from m.station.ring;
  reads = fits m.station.ring held reads;
  session = session;
  made = tt;
}
  where
    from : (x : ring.Ring) → From eui x [] (ring.with_active x index)
    from None = tt
    from (Some g) = Held g refl (record { address = refl; key0 = refl; key1 = refl })

    fits : (x : ring.Ring) → is_some (ring.key_in_ring x index) ≡ true → IfSome x IsReadable → IfSome (ring.with_active x index) IsReadable
    fits None e h = tt
    fits (Some g) e h = record { grant = record { index = low; held = e }; address = h.address; key0 = h.key0; key1 = h.key1 }

-- the second packet
replied_done : (x : Identity) (took : Option Agreed) (m : Memory) (session_way : SessionWay) (peer : Peer) (now : ℕ) → peer.eui ≡ x.eui
    → IfSome m.station.ring IsReadable
    → MeterDone x.eui m.station.ring took (with_pair_tags (mac_p_tag peer.eui peer.id_s peer.rand_s peer.rand_p ∷ []) []
    (with_memory_by (λ n. with_session (Some (record { session_way = session_way; peer = Some peer; since = now })) (without_oldest n)) (empty_draft m)))
unfolding empty_draft with_memory_by with_pair_tags
replied_done x took m session_way peer now own reads = record {
  puts = tt;
  ring = held_from x.eui m.station.ring;
  reads = reads;
  session = own;
  made = (subst (λ e. MeterTag x.eui took (tags.MacP e (mac_octets))) (sym own) (Second mac_octets), tt);
}
  where
    mac_octets : List ℕ
    mac_octets = peer.eui.0 ++ (peer.id_s.0 ++ (peer.rand_s.0 ++ peer.rand_p.0))

-- the fourth packet, and the ring of the third
took_done : (eui : Eui) (m : Memory) (peer : Peer) (identifier : ℕ) (granted : Granted) → peer.eui ≡ eui → IsReadable granted
    → MeterDone eui m.station.ring (Some (agreed_by peer)) (with_pair_tags (success_tag peer.eui identifier peer.rand_s peer.rand_p ∷ [])
    (mac_s_tag peer.eui peer.id_s peer.rand_p ∷ granting_tag peer.eui identifier peer.rand_s peer.rand_p (granting_text granted) ∷ [])
    (on_station (with_ring (Some granted)) (with_memory_by (with_session None) (empty_draft m))))
unfolding empty_draft with_memory_by with_pair_tags on_station with_ring
took_done eui m peer identifier granted own readable = record {
  puts = (Puts (Some granted) readable came, tt);
  ring = came;
  reads = readable;
  session = tt;
  made = (
    subst (λ e. MeterTag eui (Some (agreed_by peer)) (success_tag e identifier peer.rand_s peer.rand_p)) (sym own)
        (Fourth identifier peer.rand_s peer.rand_p refl),
    tt,
  );
}
  where
    came : CameBy eui m.station.ring
        (mac_s_tag peer.eui peer.id_s peer.rand_p ∷ granting_tag peer.eui identifier peer.rand_s peer.rand_p (granting_text granted) ∷ []) granted
    came = Opened identifier peer.rand_s peer.rand_p granted
        (subst (λ e. Among (granting_tag e identifier peer.rand_s peer.rand_p (granting_text granted))
        (mac_s_tag peer.eui peer.id_s peer.rand_p ∷ granting_tag peer.eui identifier peer.rand_s peer.rand_p (granting_text granted) ∷ [])) own
        (Later _ _ (Here []))) readable (same_here granted)

-- # The rules

-- the ring and the session stay
pub record Stays (m n : Memory) : Type 0 where
  pub ring : n.station.ring ≡ m.station.ring
  pub session : n.session ≡ m.session
  pub book : n.book ≡ m.book

abbrev NoWord : RingWord → Type 0
NoWord w = ⊥

module _ (x : Identity) (m : Memory) (now : ℕ) (reads : IfSome m.station.ring IsReadable) (peer_is : PeerIs x.eui m.session)
    (granted_fits : (peer : Peer) (packet : List ℕ) (granted : Granted) → AreOctets packet → x.ciphers.third_fault x.psk peer packet ≡ None
    → x.ciphers.granted x.psk peer packet ≡ Some granted → IsReadable granted)
    (index_fits : (octets : List ℕ) (join : JoinMessage) (index : ℕ) → join_in octets ≡ Some join → join.body ≡ body.Activate index → index ≤ 1) where
  abbrev pub DoneBy : Draft Memory → MeterHeard → Type 0
  DoneBy d a = MeterDone x.eui m.station.ring (took_in a) d

  abbrev pub Is : Hearing → Type 0
  Is p = Planned in_memory dropped m (λ n (a : MeterHeard). Stays m n) DoneBy p

  start : (took : Option Agreed) → MeterDone x.eui m.station.ring took (empty_draft m)
  start took = begun_done x.eui took m reads peer_is

  carry_up_is : (from : Eui) (join : JoinMessage) (b : JoinBody) → Is (carry_up m from join b now)
  carry_up_is from join (body.Join eap) = choose_planned
      (λ own. checked_planned (λ e. sealed_planned _ _ (commanded x.eui m.station.ring None 0 join now (empty_draft m) (start None)))) (λ other. Refuses _)
  carry_up_is from join _ = Refuses _

  carries_down_is : (join : JoinMessage) → Is (carries_down m join)
  carries_down_is join = option_planned (λ own. ends m (goes_down own join (empty_draft m)) heard.Carried) (address_of m.station) (drop_it m BadUnit)
      (λ own e. sealed_planned _ _ (down x.eui m.station.ring None own join _ (start None))) (λ e. Refuses _)

  carry_down_is : (join : JoinMessage) (b : JoinBody) → Is (carry_down m join b)
  carry_down_is join (body.Challenge eap) = carries_down_is join
  carry_down_is join (body.Accept identifier) = carries_down_is join
  carry_down_is join body.Decline = carries_down_is join
  carry_down_is join _ = Refuses _

  replies_is : (session_way : SessionWay) (peer : Peer) (join : JoinMessage) → peer.eui ≡ x.eui → Is (replies m session_way peer join now)
  replies_is session_way peer join own =
      checked_planned (λ e. sealed_planned _ _
      (said x.eui m.station.ring None session_way peer.eui join now _ (replied_done x None m session_way peer now own reads)))

  reply_is : (session_way : SessionWay) (packet : List ℕ) → Is (reply x m session_way packet now)
  reply_is session_way packet = checked_planned (λ e.
      option_planned (λ value. checked dropped m (option_map packet_fault (first_fault packet)) (reply_with x m session_way packet now value)) (oldest m)
      (drop_it m NoRandom)
      (λ value here. checked_planned (λ right. replies_is session_way (peer_for x.eui value packet)
      (message x.eui (body.Join (x.ciphers.second x.psk (identifier_of packet) (peer_for x.eui value packet)))) refl))
      (λ none. Refuses _))

  takes_is : (session_way : SessionWay) (peer : Peer) (identifier : ℕ) (granted : Granted) (join : JoinMessage) → peer.eui ≡ x.eui → IsReadable granted
      → Is (takes m session_way peer identifier granted join now)
  takes_is session_way peer identifier granted join own readable = checked_planned (λ e.
      sealed_planned _ _ (said x.eui m.station.ring (Some (agreed_by peer)) session_way peer.eui join now _
      (took_done x.eui m peer identifier granted own readable)))

  no_fault : {A B : Type 0} (f : A → B) (o : Option A) → option_map f o ≡ None → o ≡ None
  no_fault f None e = refl
  no_fault f (Some a) e = absurd (cc)

  take_with_is : (session_way : SessionWay) (packet : List ℕ) (peer : Peer) (granted : Option Granted) → peer.eui ≡ x.eui
      → x.ciphers.third_fault x.psk peer packet ≡ None → x.ciphers.granted x.psk peer packet ≡ granted → AreOctets packet
      → Is (take_with x m session_way packet now peer granted)
  take_with_is session_way packet peer None own right is are = Refuses _
  take_with_is session_way packet peer (Some granted) own right is are =
      takes_is session_way peer _ granted _ own (granted_fits peer packet granted are right is)

  take_by_is : (session_way : SessionWay) (packet : List ℕ) (peer : Option Peer) → AreOctets packet → IfSome peer (λ p. p.eui ≡ x.eui)
      → Is (take_by x m session_way packet now peer)
  take_by_is session_way packet None are own = Refuses _
  take_by_is session_way packet (Some peer) are own = checked_planned (λ e.
      take_with_is session_way packet peer (x.ciphers.granted x.psk peer packet) own (no_fault packet_fault (x.ciphers.third_fault x.psk peer packet) e) refl
      are)

  take_is : (session_way : SessionWay) (packet : List ℕ) → AreOctets packet → Is (take x m session_way packet now)
  take_is session_way packet are = checked_planned (λ e.
      option_planned (λ (s : MeterSession). take_by x m session_way packet now s.peer) m.session (drop_it m NoSession)
      (λ s here. take_by_is session_way packet s.peer are (subst (PeerIs x.eui) here peer_is)) (λ none. Refuses _))

  challenged_is : (session_way : SessionWay) (packet : List ℕ) → AreOctets packet → Is (challenged x m session_way packet now)
  challenged_is session_way packet are = choose_planned (λ first. reply_is session_way packet) (λ third. take_is session_way packet are)

  declined_is : (agent : ℕ) → Is (declined m agent)
  declined_is agent = choose_planned (λ joined. Refuses _)
      (λ outside. choose_planned (λ runs. sealed_planned _ _ (with_done x.eui None m (with_session None) reads refl tt)) (λ none. Refuses _))

  kicked_is : Is (kicked m)
  kicked_is = sealed_planned _ _ (left_done x.eui None m)

  activated_is : (index : ℕ) → index ≤ 1 → Is (activated m index)
  activated_is index low = choose_planned (λ held. sealed_planned _ _ (turned_done x.eui None m index low held reads peer_is)) (λ none. Refuses _)

  noted_is : Is (ends m (empty_draft m) heard.Noted)
  noted_is = sealed_planned _ _ (start None)

  near_is : (agent : ℕ) (b : JoinBody) → AreOctets (rest_of b) → Is (hear_near x m agent b now)
  near_is agent (body.Challenge eap) are = challenged_is (ByAgent agent) eap are
  near_is agent (body.Accept identifier) are = noted_is
  near_is agent body.Decline are = declined_is agent
  near_is agent _ are = Refuses _

  order_is : (b : JoinBody) → AreOctets (rest_of b) → ((index : ℕ) → b ≡ body.Activate index → index ≤ 1) → Is (hear_order x m b now)
  order_is (body.Challenge eap) are order = challenged_is ByCommand eap are
  order_is (body.Accept identifier) are order = noted_is
  order_is body.Kick are order = kicked_is
  order_is (body.Activate index) are order = activated_is index (order index refl)
  order_is _ are order = Refuses _

  join_is : (octets : List ℕ) (way : Way) (join : JoinMessage) → AreOctets (rest_of join.body) → join_in octets ≡ Some join → Is (hear_join x m way join now)
  join_is octets (Air from) join are read = carry_up_is from join join.body
  join_is octets (Near agent) join are read = choose_planned (λ mine. near_is agent join.body are) (λ other. Refuses _)
  join_is octets (Mesh origin) join are read = choose_planned (λ coordinator. choose_planned
      (λ mine. order_is join.body are (λ index e. index_fits octets join index read e)) (λ other. carry_down_is join join.body)) (λ other. Refuses _)

  join_in_is : (octets : List ℕ) (way : Way) (join : Option JoinMessage) → AreOctets octets → join_in octets ≡ join → Is (hear_join_in x m way join now)
  join_in_is octets way None are read = Refuses _
  join_in_is octets way (Some join) are read = join_is octets way join (read_octets join octets are read).rest read

-- # The station

module _ (eui : Eui) (old : ring.Ring) where
  no_changes : (r y : ring.Ring) → RingChange NoWord r y → IfSome r IsReadable → From eui old [] r → From eui old [] y × IfSome y IsReadable
  no_changes r y Drops h k = (tt, tt)
  no_changes r y (Installs granted w) h k = absurd w
  no_changes r y (Draws index key w) h k = absurd w
  no_changes r y (Activates index w held) h k = absurd w

  pub station_done : (took : Option Agreed) (g : Given) (m : Memory) (d : Draft StationMemory) → old ≡ m.station.ring → IfSome m.station.ring IsReadable
      → PeerIs eui m.session → Made NoWord g (empty_draft m.station) d → MeterDone eui old took (whole m d)
  unfolding empty_draft
  station_done took g m d same reads session made =
      let t = made_tags NoWord g (empty_draft m.station) d made in
      let x = made_rung (From eui old []) NoWord g no_changes (empty_draft m.station) d made
      (record { puts = tt; ring = subst (λ o. From eui o [] m.station.ring) (sym same) (held_from eui m.station.ring); reads = reads }) in
      record {
        puts = subst (λ o. RingWrites (From eui old o) d.puts) (sym t.1) x.puts;
        ring = subst (λ o. From eui old o d.memory.ring) (sym t.1) x.ring;
        reads = x.reads;
        session = session;
        made = subst (Each (MeterTag eui took)) (sym t.0) tt;
      }

handed_ring : (g : Given) (l n : StationMemory) (a : Heard) → Handed g l n a → n.ring ≡ l.ring
handed_ring g l n a (HandsUp by own mesh octets came here mine) = refl
handed_ring g l n a (HandsOn x none) = refl
handed_ring g l n a (Gathers by own mesh piece came here mine e) = refl
handed_ring g l n a (Completes by own mesh piece note octets came here mine e) = refl

pub handed_stays : (g : Given) (m : Memory) (n : StationMemory) (a : Heard) → Handed g m.station n a → Stays m (with_station n m)
handed_stays g m n a k = record { ring = handed_ring g m.station n a k; session = refl; book = refl }

module _ (x : Identity) (m : Memory) (g : Given) (reads : IfSome m.station.ring IsReadable) (peer_is : PeerIs x.eui m.session)
    (granted_fits : (peer : Peer) (packet : List ℕ) (granted : Granted) → AreOctets packet → x.ciphers.third_fault x.psk peer packet ≡ None
    → x.ciphers.granted x.psk peer packet ≡ Some granted → IsReadable granted)
    (index_fits : (octets : List ℕ) (join : JoinMessage) (index : ℕ) → join_in octets ≡ Some join → join.body ≡ body.Activate index → index ≤ 1) where
  heard_by_is : (p : Plan StationMemory (Result Heard Dropped)) (u : Option Unread) → IfSome u (λ (a : Unread). AreOctets a.body)
      → Planned alone dropped m.station (Handed g m.station) (MadeOf NoWord g m.station) p
      → Is x m g.now reads peer_is granted_fits index_fits (heard_by x m g.now p u)
  unfolding resting
  heard_by_is p None are (Refuses reason) = Refuses reason
  heard_by_is p None are (Keeps n answer k) = Keeps (with_station n m) (heard.Station answer) (handed_stays g m n answer k)
  heard_by_is p None are (Ended d answer done left) =
      Ended (whole m d) (heard.Station answer) (station_done x.eui m.station.ring None g m d refl reads peer_is done.0) left
  heard_by_is p (Some u) are s = join_in_is x m g.now reads peer_is granted_fits index_fits u.body u.way (join_in u.body) are refl

  pub meter_hears : (got : Accepted) → AreOctets got.payload → g.got ≡ Some got
      → Is x m g.now reads peer_is granted_fits index_fits (hear_meter x m got g.cost g.note g.now)
  meter_hears got are is = let p = station_rules.hear m.station got g.cost g.note g.now in
      heard_by_is p (unread p.answer) (heard_octets m.station got g.cost g.note g.now are) (hear_is NoWord g m.station got is)

-- # Plans

-- What a plan of a meter does to its ring, makes, and leaves of a session.
pub record MeterPlan (eui : Eui) (old : ring.Ring) {A : Type 0} (took : Option Agreed) (p : Plan Memory A) : Type 0 where
  pub puts : RingWrites (From eui old p.opened) p.puts
  pub session : PeerIs eui p.memory.session
  pub made : Each (MeterTag eui took) p.made

pub meter_plan : {H F : Type 0} (eui : Eui) (m : Memory) (ends : Ends F) (took : H → Option Agreed) (answered : Result H F → Option Agreed)
    → ((a : H) → answered (Ok a) ≡ took a) → IfSome m.station.ring IsReadable → PeerIs eui m.session
    → (p : Plan Memory (Result H F)) → Planned in_memory ends m (λ n (a : H). Stays m n) (λ d (a : H). MeterDone eui m.station.ring (took a) d) p
    → MeterPlan eui m.station.ring (answered p.answer) p
unfolding resting
meter_plan eui m ends took answered same reads session p (Refuses reason) = record { puts = tt; session = session; made = tt }
meter_plan eui m ends took answered same reads session p (Keeps n answer k) =
    record { puts = tt; session = subst (PeerIs eui) (sym k.session) session; made = tt }
meter_plan eui m ends took answered same reads session p (Ended d answer done left) = record {
  puts = writes_append (From eui m.station.ring d.opened) d.puts _ done.puts
      (counter_away (From eui m.station.ring d.opened) d.memory.station.counter (length d.units));
  session = done.session;
  made = subst (λ t. Each (MeterTag eui t) d.made) (sym (same answer)) done.made;
}

-- # What a meter does by itself

asked_done : (eui : Eui) (m : Memory) (agent : ℕ) (own : Eui) (join : JoinMessage) (s : MeterSession) → s.peer ≡ None → IfSome m.station.ring IsReadable
    → MeterDone eui m.station.ring None (goes_up agent own join (with_memory_by (with_session (Some s)) (empty_draft m)))
asked_done eui m agent own join s none reads = up eui m.station.ring None agent own join _
    (with_done eui None m (with_session (Some s)) reads refl (subst (λ o. IfSome o (λ p. p.eui ≡ eui)) (sym none) tt))

asked_none : (m : Memory) (agent : ℕ) (own : Eui) (join : JoinMessage) (change : Memory → Memory)
    → (goes_up agent own join (with_memory_by change (empty_draft m))).units ≡ []
unfolding empty_draft with_memory_by goes_up
asked_none m agent own join change = refl

left_none : (m : Memory) → (leaves m).units ≡ []
unfolding empty_draft with_memory_by on_station with_ring
left_none m = refl

few_units : {A : Type 0} (units : List A) (n : ℕ) → units ≡ [] → length units ≤ n
few_units units n e = rw e (omega arith)

pub joins_plan : (x : Identity) (m : Memory) (agent now : ℕ) → IfSome m.station.ring IsReadable → PeerIs x.eui m.session
    → MeterPlan x.eui m.station.ring None (join x m agent now)
joins_plan x m agent now reads session = meter_plan x.eui m joining_ends (λ a. None) (λ a. None) (λ a. refl) reads session _
    (choose_planned (λ joined. Refuses _) (λ outside. sealing_planned _ tt
    (asked_done x.eui m agent x.eui _ (record { session_way = ByAgent agent; peer = None; since = now }) refl reads)
    (few_units _ _ (asked_none m agent x.eui _ _))))

pub leaves_plan : (eui : Eui) (m : Memory) → IfSome m.station.ring IsReadable → PeerIs eui m.session → MeterPlan eui m.station.ring None (leave m)
leaves_plan eui m reads session = meter_plan eui m leaving_ends (λ a. None) (λ a. None) (λ a. refl) reads session _
    (choose_planned (λ joined. sealing_planned (leaves m) tt (left_done eui None m) (few_units _ _ (left_none m))) (λ outside. Refuses _))

pub joins_opened : (x : Identity) (m : Memory) (agent now : ℕ) → (join x m agent now).opened ≡ []
unfolding choose empty_draft with_memory_by goes_up resting
joins_opened x m agent now = by_joined (is_some m.station.ring)
  where
    by_joined : (b : Bool) → let p : Plan Memory (Result (Unit {0}) JoinRefusal) =
        (if b then refused joining_ends m AlreadyJoined
        else sealing in_memory joining_ends (goes_up agent x.eui (message x.eui (body.Join []))
        (with_memory_by (with_session (Some (record { session_way = ByAgent agent; peer = None; since = now }))) (empty_draft m))) tt) in p.opened ≡ []
    by_joined true = refl
    by_joined false = refl

pub leaves_opened : (m : Memory) → (leave m).opened ≡ []
unfolding choose empty_draft with_memory_by on_station with_ring resting
leaves_opened m = by_joined (is_some m.station.ring)
  where
    by_joined : (b : Bool) → let p : Plan Memory (Result (Unit {0}) LeaveRefusal) =
        (if b then sealing in_memory leaving_ends (leaves m) tt else refused leaving_ends m leaving.NotJoined) in p.opened ≡ []
    by_joined true = refl
    by_joined false = refl

pub joins_made : (x : Identity) (m : Memory) (agent now : ℕ) → (join x m agent now).made ≡ []
unfolding choose empty_draft with_memory_by goes_up resting
joins_made x m agent now = by_joined (is_some m.station.ring)
  where
    by_joined : (b : Bool) → let p : Plan Memory (Result (Unit {0}) JoinRefusal) =
        (if b then refused joining_ends m AlreadyJoined
        else sealing in_memory joining_ends (goes_up agent x.eui (message x.eui (body.Join []))
        (with_memory_by (with_session (Some (record { session_way = ByAgent agent; peer = None; since = now }))) (empty_draft m))) tt) in p.made ≡ []
    by_joined true = refl
    by_joined false = refl

pub leaves_made : (m : Memory) → (leave m).made ≡ []
unfolding choose empty_draft with_memory_by on_station with_ring resting
leaves_made m = by_joined (is_some m.station.ring)
  where
    by_joined : (b : Bool) → let p : Plan Memory (Result (Unit {0}) LeaveRefusal) =
        (if b then sealing in_memory leaving_ends (leaves m) tt else refused leaving_ends m leaving.NotJoined) in p.made ≡ []
    by_joined true = refl
    by_joined false = refl
