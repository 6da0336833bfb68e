-- How the plan of each rule of a meter is made.
use Rattle.node_rules.specs.declared.heard.MeterHeard.{MeterHeard}
use Rattle.node_rules.specs.JoiningPackets.{command_of}
use Rattle.std.proofs.Common.{◌≡◌, ℕ, List, [], ◌∷◌, ◌≤◌, Option, Some, None, Result, length, refl, arith}
use Rattle.std.specs.Option.{option_map}
use Rattle.plc_base.specs.declared.address.Eui.{Eui}
use Rattle.plc_base.specs.declared.key.Key.{Key}
use Rattle.plc_base.specs.declared.key.RandomOctets.{RandomOctets}
use Rattle.plc_base.specs.Grant.{Granted}
use Rattle.joining_messages.specs.declared.message.JoinMessage.{JoinMessage}
use Rattle.joining_messages.specs.declared.message.JoinBody.{JoinBody}
use Rattle.joining_messages.specs.declared.message.JoinBody.TheVariants as body
use Rattle.joining_messages.specs.Reader.{join_in}
use Rattle.eap_psk.specs.Faults.{first_fault}
use Rattle.eap_psk.specs.Messages.{granting_text}
use Rattle.eap_psk.specs.Tags.{mac_p_tag, mac_s_tag, granting_tag, success_tag}
use Rattle.eap_psk.specs.declared.peer.Peer.{Peer}
use Rattle.node_rules.specs.Accepted.{Accepted}
use Rattle.node_rules.specs.declared.heard.Heard.{Heard}
use Rattle.node_rules.specs.declared.heard.MeterHeard.TheVariants as heard
use Rattle.node_rules.specs.declared.heard.Way.{Way}
use Rattle.node_rules.specs.declared.heard.Way.TheVariants.{Air, Near, Mesh}
use Rattle.node_rules.specs.declared.refusal.Dropped.{Dropped}
use Rattle.node_rules.specs.declared.refusal.Dropped.TheVariants.{BadUnit, NoSession, NoRandom}
use Rattle.node_rules.specs.Memory.{StationMemory, Memory, Command, MeterSession, SessionWay, ByAgent, ByCommand, address_of, next_hop}
use Rattle.node_rules.specs.Plans.{Plan}
use Rattle.node_rules.specs.Drafts.{Draft, UnsealedUnit, alone, empty_draft, checked, with_ring}
use Rattle.node_rules.specs.HearingRules as station_rules
use Rattle.node_rules.specs.HearingRules.{dropped}
use Rattle.node_rules.specs.JoiningPackets.{message}
use Rattle.eap_psk.specs.Sessions.{peer_for, identifier_of}
use Rattle.node_rules.specs.MemoryDrafts.{in_memory, goes_up, goes_down, oldest, without_oldest, Unread, unread, packet_fault, with_memory_by, with_pair_tags}
use Rattle.node_rules.specs.MemoryDrafts.{on_station}
use Rattle.node_rules.specs.Meters.{Hearing, Identity, with_session, drop_it, ends, leaves, carry_up, carries_down, carry_down, reply_with, reply, take_with}
use Rattle.node_rules.specs.Meters.{take_by, take, takes, replies, challenged, declined, kicked, activated, hear_near, hear_order, hear_join, hear_join_in}
use Rattle.node_rules.specs.Meters.{heard_by, hear_meter, joining_ends, join, leaving_ends, leave}
use Rattle.node_rules.proofs.Words.{IsDone, Fits, memory_leaves, up_done, down_done, begun_fits, remembered_fits}
use Rattle.line_laws.proofs.Planned.{Planned, Refuses, checked_planned, choose_planned, sealed_planned, option_planned, sealing_planned}
use Rattle.line_laws.proofs.Made.{RingWord, Carry, Install, Activate, Given, Starts, Rings, Idles, Drops, Installs, Activates}
use Rattle.line_laws.proofs.MadeIn.{MadeIn, Begins, OnStation, Remembers, Tags, Up, Down, Ends, Asks, Replies}
use Rattle.line_laws.proofs.HearingForms.{IsNoUp, Handed, MadeOf, hear_is}
use Rattle.line_laws.proofs.SetsOut.{LacksNothing, commanded_made}
use Rattle.line_laws.proofs.MemoryDraftForms.{HandedIn, commands_well, AnyAnswer, MadeBy, within_planned}

-- These octets are those of a joining message that a frame brought.
pub record IsBrought (g : Given) (m : Memory) (octets : List ℕ) : Type 0 where
  pub got : Accepted
  pub is : g.got ≡ Some got
  pub handed : Unread
  pub on : unread (station_rules.hear m.station got g.cost g.note g.now).answer ≡ Some handed
  pub body : handed.body ≡ octets

-- A packet that a challenge brought.
pub record IsPacket (g : Given) (m : Memory) (packet : List ℕ) : Type 0 where
  pub octets : List ℕ
  pub brought : IsBrought g m octets
  pub join : JoinMessage
  pub read : join_in octets ≡ Some join
  pub challenge : join.body ≡ body.Challenge packet

-- A grant that stands in a third packet without a fault, which came, for the peer of the session.
pub record IsTaken (g : Given) (x : Identity) (m : Memory) (granted : Granted) : Type 0 where
  pub session : MeterSession
  pub there : m.session ≡ Some session
  pub peer : Peer
  pub has : session.peer ≡ Some peer
  pub packet : List ℕ
  pub came : IsPacket g m packet
  pub right : x.ciphers.third_fault x.psk peer packet ≡ None
  pub is : x.ciphers.granted x.psk peer packet ≡ Some granted

-- a meter is told to seal with another key
pub record IsOrdered (index : ℕ) : Type 0 where
  pub octets : List ℕ
  pub join : JoinMessage
  pub read : join_in octets ≡ Some join
  pub body : join.body ≡ body.Activate index

-- what a meter says to the coordinator: a message that it carries for another one, its second packet, and its fourth
pub data IsSaidUp (x : Identity) (m : Memory) : JoinMessage → Type 0 where
  OfOther : (octets : List ℕ) (join : JoinMessage) → join_in octets ≡ Some join → IsSaidUp x m join
  Second : (packet : List ℕ) (value : RandomOctets) → oldest m ≡ Some value
      → IsSaidUp x m (message x.eui (body.Join (x.ciphers.second x.psk (identifier_of packet) (peer_for x.eui value packet))))
  Fourth : (packet : List ℕ) (s : MeterSession) (peer : Peer) → m.session ≡ Some s → s.peer ≡ Some peer
      → IsSaidUp x m (message x.eui (body.Join (x.ciphers.fourth x.psk (identifier_of packet) peer)))

-- why a meter's ring changes, and what it says
pub data RingCause (g : Given) (x : Identity) (m : Memory) : RingWord → Type 0 where
  ToCoordinator : (join : JoinMessage) → IsSaidUp x m join → RingCause g x m (Carry 0 0 (Command (command_of join)))
  ByPacket : (granted : Granted) → IsTaken g x m granted → RingCause g x m (Install granted)
  ByOrder : (index : ℕ) → IsOrdered index → RingCause g x m (Activate index)

pub no_fault : {A B : Type 0} (f : A → B) (o : Option A) → option_map f o ≡ None → o ≡ None
no_fault f None e = refl
no_fault f (Some a) e = absurd (cc)

-- a meter hands no datagram up
abbrev pub HandsNothingUp : MeterHeard → Type 0
HandsNothingUp (heard.Station h) = IsNoUp h
HandsNothingUp _ = Unit {0}

module _ (L : Granted → Type 0) (P : Eui → Key → Type 0) (E : Eui → Type 0) (g : Given) (x : Identity) (m : Memory) where
  abbrev pub W : RingWord → Type 0
  W word = RingCause g x m word

  abbrev MadeHere : Draft Memory → Type 0
  MadeHere d = MadeIn W L P E g m d

  abbrev pub Is : Hearing → Type 0
  Is p = Planned in_memory dropped m (HandedIn heard.Station g m) (MadeBy W L P E g m HandsNothingUp) p

  -- # Carrying the messages of others

  carry_up_is : (from : Eui) (octets : List ℕ) (join : JoinMessage) (b : JoinBody) → join_in octets ≡ Some join → Is (carry_up m from join b g.now)
  unfolding empty_draft
  carry_up_is from octets join (body.Join eap) read = choose_planned
      (λ own. checked_planned (λ e. sealed_planned _ _ (
        commanded_made 0 join g.now (empty_draft m) Begins (commands_well m 0 join e)
            (ToCoordinator join (OfOther octets join read)),
        search memory_leaves depth 16,
        tt,
      )))
      (λ other. Refuses _)
  carry_up_is from octets join _ read = Refuses _

  carries_down_is : (join : JoinMessage) → Is (carries_down m join)
  carries_down_is join = option_planned (λ own. ends m (goes_down own join (empty_draft m)) heard.Carried) (address_of m.station) (drop_it m BadUnit)
      (λ own e. sealed_planned _ _ (Down own join _ Begins, down_done m.station own join (empty_draft m) (begun_fits m.station 1 m), tt)) (λ e. Refuses _)

  carry_down_is : (join : JoinMessage) (b : JoinBody) → Is (carry_down m join b)
  carry_down_is join (body.Challenge eap) = carries_down_is join
  carry_down_is join (body.Accept identifier) = carries_down_is join
  carry_down_is join body.Decline = carries_down_is join
  carry_down_is join _ = Refuses _

  -- # Challenges

  abbrev replied : SessionWay → Peer → Draft Memory
  replied session_way peer = with_pair_tags (mac_p_tag peer.eui peer.id_s peer.rand_s peer.rand_p ∷ []) []
      (with_memory_by (λ n. with_session (Some (record { session_way = session_way; peer = Some peer; since = g.now })) (without_oldest n)) (empty_draft m))

  replied_made : (session_way : SessionWay) (peer : Peer) (value : RandomOctets) → oldest m ≡ Some value → MadeHere (replied session_way peer)
  unfolding empty_draft
  replied_made session_way peer value here = Tags _ _ _
      (Remembers (λ n. with_session (Some (record { session_way = session_way; peer = Some peer; since = g.now })) (without_oldest n)) (empty_draft m) Begins
      (Replies (record { session_way = session_way; peer = Some peer; since = g.now }) value here))

  replied_lacks : (session_way : SessionWay) (peer : Peer) (octets : ℕ) → LacksNothing m.station 0 octets
      → LacksNothing (replied session_way peer).memory.station 0 octets
  unfolding empty_draft with_memory_by with_pair_tags
  replied_lacks session_way peer octets f = f

  replies_is : (session_way : SessionWay) (peer : Peer) (join : JoinMessage) (value : RandomOctets) → IsSaidUp x m join → oldest m ≡ Some value
      → Is (replies m session_way peer join g.now)
  replies_is (ByAgent agent) peer join value said here =
      checked_planned (λ e. sealed_planned _ _ (Up _ _ _ _ (replied_made (ByAgent agent) peer value here), search memory_leaves depth 16, tt))
  replies_is ByCommand peer join value said here = checked_planned (λ e.
      sealed_planned _ _ (
        commanded_made 0 join g.now (replied ByCommand peer) (replied_made ByCommand peer value here)
            (replied_lacks ByCommand peer _ (commands_well m 0 join e)) (ToCoordinator join said),
        search memory_leaves depth 16,
        tt,
      ))

  reply_is : (session_way : SessionWay) (packet : List ℕ) → Is (reply x m session_way packet g.now)
  reply_is session_way packet = checked_planned (λ e.
      option_planned (λ value. checked dropped m (option_map packet_fault (first_fault packet)) (reply_with x m session_way packet g.now value)) (oldest m)
      (drop_it m NoRandom)
      (λ value here. checked_planned (λ right. replies_is session_way (peer_for x.eui value packet)
      (message x.eui (body.Join (x.ciphers.second x.psk (identifier_of packet) (peer_for x.eui value packet)))) value (Second packet value here) here))
      (λ none. Refuses _))

  abbrev took : Peer → ℕ → Granted → Draft Memory
  took peer identifier granted = with_pair_tags (success_tag peer.eui identifier peer.rand_s peer.rand_p ∷ [])
      (mac_s_tag peer.eui peer.id_s peer.rand_p ∷ granting_tag peer.eui identifier peer.rand_s peer.rand_p (granting_text granted) ∷ [])
      (on_station (with_ring (Some granted)) (with_memory_by (with_session None) (empty_draft m)))

  took_made : (peer : Peer) (identifier : ℕ) (granted : Granted) → IsTaken g x m granted → MadeHere (took peer identifier granted)
  unfolding empty_draft
  took_made peer identifier granted taken = Tags _ _ _
      (OnStation (with_ring (Some granted)) (with_memory_by (with_session None) (empty_draft m)) (Remembers (with_session None) (empty_draft m) Begins Ends)
      (Rings (Some granted) _ Starts (Installs granted (ByPacket granted taken))))

  -- the ring does not matter to what a command lacks
  took_lacks : (peer : Peer) (identifier : ℕ) (granted : Granted) (octets : ℕ) → LacksNothing m.station 0 octets
      → LacksNothing (took peer identifier granted).memory.station 0 octets
  unfolding empty_draft with_memory_by with_pair_tags on_station with_ring next_hop
  took_lacks peer identifier granted octets f = record { room = f.room; number = f.number }

  takes_is : (session_way : SessionWay) (peer : Peer) (identifier : ℕ) (granted : Granted) (join : JoinMessage) → IsSaidUp x m join → IsTaken g x m granted
      → Is (takes m session_way peer identifier granted join g.now)
  takes_is (ByAgent agent) peer identifier granted join said taken =
      checked_planned (λ e. sealed_planned _ _ (Up _ _ _ _ (took_made peer identifier granted taken), search memory_leaves depth 16, tt))
  takes_is ByCommand peer identifier granted join said taken = checked_planned (λ e.
      sealed_planned _ _ (
        commanded_made 0 join g.now (took peer identifier granted) (took_made peer identifier granted taken)
            (took_lacks peer identifier granted _ (commands_well m 0 join e)) (ToCoordinator join said),
        search memory_leaves depth 16,
        tt,
      ))

  take_with_is : (session_way : SessionWay) (packet : List ℕ) → IsPacket g m packet → (s : MeterSession) (peer : Peer) (granted : Option Granted)
      → m.session ≡ Some s
      → s.peer ≡ Some peer → x.ciphers.third_fault x.psk peer packet ≡ None → x.ciphers.granted x.psk peer packet ≡ granted
      → Is (take_with x m session_way packet g.now peer granted)
  take_with_is session_way packet c s peer None there has right is = Refuses _
  take_with_is session_way packet c s peer (Some granted) there has right is = takes_is session_way peer _ granted _ (Fourth packet s peer there has)
      (record { session = s; there = there; has = has; peer = peer; packet = packet; came = c; right = right; is = is })

  take_by_is : (session_way : SessionWay) (packet : List ℕ) → IsPacket g m packet → (s : MeterSession) (peer : Option Peer) → m.session ≡ Some s → s.peer ≡ peer
      → Is (take_by x m session_way packet g.now peer)
  take_by_is session_way packet c s None there has = Refuses _
  take_by_is session_way packet c s (Some peer) there has = checked_planned (λ e.
      take_with_is session_way packet c s peer (x.ciphers.granted x.psk peer packet) there has
      (no_fault packet_fault (x.ciphers.third_fault x.psk peer packet) e)
      refl)

  take_is : (session_way : SessionWay) (packet : List ℕ) → IsPacket g m packet → Is (take x m session_way packet g.now)
  take_is session_way packet c = checked_planned (λ e.
      option_planned (λ (s : MeterSession). take_by x m session_way packet g.now s.peer) m.session (drop_it m NoSession)
      (λ s here. take_by_is session_way packet c s s.peer here refl) (λ none. Refuses _))

  challenged_is : (session_way : SessionWay) (packet : List ℕ) → IsPacket g m packet → Is (challenged x m session_way packet g.now)
  challenged_is session_way packet c = choose_planned (λ first. reply_is session_way packet) (λ third. take_is session_way packet c)

  -- # What else the coordinator says

  declined_is : (agent : ℕ) → Is (declined m agent)
  declined_is agent = choose_planned (λ joined. Refuses _)
      (λ outside. choose_planned (λ runs. sealed_planned _ _ (Remembers _ _ Begins Ends, search memory_leaves depth 16, tt)) (λ none. Refuses _))

  leaves_made : MadeHere (leaves m)
  unfolding empty_draft
  leaves_made = Remembers _ _ (OnStation _ _ Begins (Rings _ _ (Idles _ Starts) Drops)) Ends

  kicked_is : Is (kicked m)
  kicked_is = sealed_planned _ _ (leaves_made, search memory_leaves depth 16, tt)

  activated_is : (index : ℕ) → IsOrdered index → Is (activated m index)
  unfolding empty_draft
  activated_is index order = choose_planned (λ held. sealed_planned _ _
      (OnStation _ _ Begins (Rings _ _ Starts (Activates index (ByOrder index order) held)), search memory_leaves depth 16, tt)) (λ none. Refuses _)

  noted_is : Is (ends m (empty_draft m) heard.Noted)
  noted_is = sealed_planned _ _ (Begins, search memory_leaves depth 16, tt)

  -- # A joining message

  near_is : (agent : ℕ) (b : JoinBody) → ((packet : List ℕ) → b ≡ body.Challenge packet → IsPacket g m packet) → Is (hear_near x m agent b g.now)
  near_is agent (body.Challenge eap) c = challenged_is (ByAgent agent) eap (c eap refl)
  near_is agent (body.Accept identifier) c = noted_is
  near_is agent body.Decline c = declined_is agent
  near_is agent _ c = Refuses _

  order_is : (b : JoinBody) → ((packet : List ℕ) → b ≡ body.Challenge packet → IsPacket g m packet) → ((index : ℕ) → b ≡ body.Activate index → IsOrdered index)
      → Is (hear_order x m b g.now)
  order_is (body.Challenge eap) c order = challenged_is ByCommand eap (c eap refl)
  order_is (body.Accept identifier) c order = noted_is
  order_is body.Kick c order = kicked_is
  order_is (body.Activate index) c order = activated_is index (order index refl)
  order_is _ c order = Refuses _

  join_is : (octets : List ℕ) → IsBrought g m octets → (way : Way) (join : JoinMessage) → join_in octets ≡ Some join → Is (hear_join x m way join g.now)
  join_is octets brought (Air from) join read = carry_up_is from octets join join.body read
  join_is octets brought (Near agent) join read = choose_planned (λ mine. near_is agent join.body
      (λ packet e. record { octets = octets; brought = brought; join = join; read = read; challenge = e })) (λ other. Refuses _)
  join_is octets brought (Mesh origin) join read = choose_planned
      (λ coordinator. choose_planned (λ mine. order_is join.body (λ packet
      e. record { octets = octets; brought = brought; join = join; read = read; challenge = e })
      (λ index e. record { octets = octets; join = join; read = read; body = e })) (λ other. carry_down_is join join.body)) (λ other. Refuses _)

  join_in_is : (octets : List ℕ) → IsBrought g m octets → (way : Way) (join : Option JoinMessage) → join_in octets ≡ join → Is (hear_join_in x m way join g.now)
  join_in_is octets brought way None read = Refuses _
  join_in_is octets brought way (Some join) read = join_is octets brought way join read

  heard_by_is : (p : Plan StationMemory (Result Heard Dropped)) (u : Option Unread) → ((v : Unread) → u ≡ Some v → IsBrought g m v.body)
      → Planned alone dropped m.station (Handed g m.station) (MadeOf W g m.station) p → Is (heard_by x m g.now p u)
  heard_by_is p None b s = within_planned W L P E g m HandsNothingUp heard.Station p (λ h k. k) s
  heard_by_is p (Some u) b s = join_in_is u.body (b u refl) u.way (join_in u.body) refl

  pub meter_is : (got : Accepted) → g.got ≡ Some got → Is (hear_meter x m got g.cost g.note g.now)
  meter_is got is =
      let p = station_rules.hear m.station got g.cost g.note g.now in
      heard_by_is p (unread p.answer) (λ u e. record { got = got; is = is; handed = u; on = e; body = refl }) (hear_is W g m.station got is)

  -- # What a meter does by itself

  abbrev pub Nothing : {H : Type 0} → Memory → H → Type 0
  Nothing n answer = ⊥

  no_units : (units : List UnsealedUnit) (n : ℕ) → units ≡ [] → length units ≤ n
  no_units units n e = rw e (omega arith)

  abbrev asks : ℕ → Draft Memory
  asks agent = goes_up agent x.eui (message x.eui (body.Join []))
      (with_memory_by (with_session (Some (record { session_way = ByAgent agent; peer = None; since = g.now }))) (empty_draft m))

  asks_units : (agent : ℕ) → (asks agent).units ≡ []
  unfolding empty_draft with_memory_by goes_up
  asks_units agent = refl

  asks_fits : (agent : ℕ) → Fits m.station 0 1
      (with_memory_by (with_session (Some (record { session_way = ByAgent agent; peer = None; since = g.now }))) (empty_draft m))
  asks_fits agent = remembered_fits m.station _ _ (begun_fits m.station 1 m)

  pub joins_is : (agent : ℕ) → Planned in_memory joining_ends m Nothing (MadeBy W L P E g m AnyAnswer) (join x m agent g.now)
  joins_is agent = choose_planned (λ joined. Refuses _) (λ outside. sealing_planned (asks agent) tt (
    Up agent x.eui _ _ (Remembers (with_session (Some (record { session_way = ByAgent agent; peer = None; since = g.now }))) (empty_draft m) Begins (Asks _)),
    up_done m.station agent x.eui _ _ (asks_fits agent),
    tt,
  )
      (no_units (asks agent).units _ (asks_units agent)))

  leaves_units : (leaves m).units ≡ []
  unfolding empty_draft with_memory_by on_station with_ring
  leaves_units = refl

  leaves_done : IsDone m.station (leaves m)
  leaves_done = search memory_leaves depth 16

  pub leaves_is : Planned in_memory leaving_ends m Nothing (MadeBy W L P E g m AnyAnswer) (leave m)
  leaves_is =
      choose_planned (λ joined. sealing_planned (leaves m) tt (leaves_made, leaves_done, tt) (no_units (leaves m).units _ leaves_units)) (λ outside. Refuses _)
