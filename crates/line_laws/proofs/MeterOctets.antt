-- What each rule of a meter keeps and sends is octets.
use Rattle.std.proofs.Common.{◌≡◌, ℕ, ◌≤◌, ◌<◌, Bool, List, [], ◌∷◌, length, drop, Option, Some, None, Result, refl, subst, arith}
use Rattle.std.specs.Prelude.{IfSome}
use Rattle.std.specs.Option.{option_map}
use Rattle.std.proofs.lemmas.Option.{same_Some}
use Rattle.std.proofs.lemmas.List.{length-take}
use Rattle.std.proofs.lemmas.List.Elements.{All-nil, All-drop}
use Rattle.plc_base.specs.Fields.{AreOctets, part}
use Rattle.plc_base.proofs.Places.{octet_low}
use Rattle.plc_base.specs.declared.address.Eui.{Eui}
use Rattle.plc_base.specs.declared.key.Key.{Key}
use Rattle.plc_base.specs.declared.key.RandomOctets.{RandomOctets}
use Rattle.plc_base.specs.Grant.{Granted}
use Rattle.group_keys.specs.KeyRing as ring
use Rattle.joining_messages.specs.declared.message.JoinMessage.{JoinMessage}
use Rattle.joining_messages.specs.declared.message.JoinBody.{JoinBody}
use Rattle.joining_messages.specs.declared.message.JoinBody.TheVariants as body
use Rattle.joining_messages.specs.Reader.{join_in}
use Rattle.eap_psk.specs.Faults.{first_fault}
use Rattle.eap_psk.specs.Messages.{granting_text}
use Rattle.eap_psk.specs.Tags.{mac_p_tag, mac_s_tag, granting_tag, success_tag}
use Rattle.eap_psk.specs.Sessions.{peer_for, identifier_of}
use Rattle.eap_psk.specs.declared.peer.Peer.{Peer}
use Rattle.mesh_header.specs.declared.unit.Unit.{Unit as MeshUnit}
use Rattle.node_rules.specs.Accepted.{Accepted}
use Rattle.node_rules.specs.declared.heard.Heard.{Heard}
use Rattle.node_rules.specs.declared.heard.MeterHeard.TheVariants as heard
use Rattle.node_rules.specs.declared.heard.Way.{Way}
use Rattle.node_rules.specs.declared.heard.Way.TheVariants.{Air, Near, Mesh}
use Rattle.node_rules.specs.declared.refusal.Dropped.{Dropped}
use Rattle.node_rules.specs.declared.refusal.Dropped.TheVariants.{BadUnit, NoSession, NoRandom}
use Rattle.node_rules.specs.Ciphers.{network}
use Rattle.node_rules.specs.Memory.{StationMemory, Memory, MeterSession, SessionWay, ByAgent, ByCommand, address_of}
use Rattle.node_rules.specs.Plans.{Plan}
use Rattle.node_rules.specs.Drafts.{Draft, alone, empty_draft, checked, with_ring}
use Rattle.node_rules.specs.HearingRules as station_rules
use Rattle.node_rules.specs.HearingRules.{dropped}
use Rattle.node_rules.specs.JoiningPackets.{message}
use Rattle.node_rules.specs.MemoryDrafts.{goes_down, oldest, without_oldest, Unread, unread, packet_fault, with_memory_by, with_pair_tags, on_station}
use Rattle.node_rules.specs.Meters.{Identity, with_session, drop_it, ends, leaves, carry_up, carries_down, carry_down, reply_with, reply, replies, take_with}
use Rattle.node_rules.specs.Meters.{take_by, take, takes, challenged, declined, kicked, activated, hear_near, hear_order, hear_join, hear_join_in, heard_by}
use Rattle.node_rules.specs.Meters.{hear_meter, joining_ends, join, leaving_ends, leave}
use Rattle.line_laws.specs.Stores.{IsReadable, HasEui}
use Rattle.plc_base.proofs.OctetLists.{part_octets}
use Rattle.eap_psk.specs.Keys.{keys_of}
use Rattle.eap_psk.proofs.PacketOctets.{second_octets, fourth_octets}
use Rattle.eap_psk.proofs.PacketSizes.{second_fits, fourth_fits}
use Rattle.joining_messages.specs.Messages.{rest_of}
use Rattle.joining_messages.proofs.JoinOctets.{read_octets}
use Rattle.line_laws.proofs.HeardOctets.{heard_octets}
use Rattle.line_laws.proofs.HearingForms.{Handed, MadeOf, hear_is}
use Rattle.line_laws.proofs.Made.{Given, IsCome, Activates}
use Rattle.line_laws.proofs.MeterForms.{no_fault}
use Rattle.line_laws.proofs.NodeCalls.{NoWord, heard_given}
use Rattle.line_laws.proofs.OctetDrafts.{JoinSpeaks, command_short, join_speaks, BodySpeaks, RandSpeaks, PeerSpeaks, SessionSpeaks, MemorySpeaks, DraftSpeaksIn}
use Rattle.line_laws.proofs.OctetDrafts.{PlanSpeaks, OutSpeaks, PlainSpeaks, UnitSpeaks, unit_speaks, choose_speaks, option_speaks, refuses, checked_speaks}
use Rattle.line_laws.proofs.OctetDrafts.{sealed_speaks, sealing_speaks, line_speaks, begun_speaks, remembers_speaks, tagged_speaks, up_speaks, down_speaks}
use Rattle.line_laws.proofs.OctetDrafts.{ringed_speaks, commanded_speaks}
use Rattle.line_laws.proofs.Planned.{Planned}
use Rattle.joining_messages.proofs.JoinRanges.{read_fits}
use Rattle.line_laws.proofs.StorableGrants.{network_ranges}
use Rattle.line_laws.proofs.StoreFold.{WordFits, ring_fits}
use Rattle.line_laws.proofs.Worlds.{at_place}

-- # What comes

-- a joining message that was read in octets
pub read_speaks : (octets : List ℕ) (join : JoinMessage) → AreOctets octets → join_in octets ≡ Some join → JoinSpeaks join
read_speaks octets join are read =
    let fits = read_fits join octets read in
    record { octets = read_octets join octets are read; short = command_short join fits.eui (let rest = fits.rest in omega arith) }

-- the units of a frame that was accepted
pub comes_speaking : (got : Accepted) (cost note now : ℕ) → AreOctets got.payload → (by : ℕ) (all : Bool) (u : MeshUnit)
    → IsCome (heard_given got cost note now) by all u → UnitSpeaks u
comes_speaking got cost note now are by all u c =
    unit_speaks c.got.payload u (subst (λ (x : Accepted). AreOctets x.payload) (same_Some got c.got c.is) are) c.unit

-- a part is no longer than it may be
pub part_short : (at n : ℕ) (octets : List ℕ) → length (part at n octets) ≤ n
unfolding part
part_short at n octets = omega (arith, length-take n (drop at octets))

-- the oldest random value
pub oldest_speaks : (m : Memory) (value : RandomOctets) → MemorySpeaks m → oldest m ≡ Some value → RandSpeaks value
oldest_speaks m value h e = at_place RandSpeaks m.randoms 0 value e h.randoms

module _ (eui : Eui) (psk : Key) (own : HasEui eui) (pair : AreOctets psk.0) (m : Memory) (h : MemorySpeaks m) (reads : IfSome m.station.ring IsReadable)
    (now : ℕ) where
  abbrev x : Identity
  x = record { eui = eui; psk = psk; ciphers = network }

  begun : DraftSpeaksIn (empty_draft m)
  begun = begun_speaks m h reads

  -- # Carrying the messages of others

  carry_up_is : (from : Eui) (join : JoinMessage) (b : JoinBody) → JoinSpeaks join → PlanSpeaks (carry_up m from join b now)
  carry_up_is from join (body.Join eap) says = choose_speaks
      (λ mine. checked_speaks m h _ (λ e. sealed_speaks m h _ _ _ (commanded_speaks 0 join now (empty_draft m) says begun))) (λ other. refuses m h _ _)
  carry_up_is from join _ says = refuses m h _ _

  carries_down_is : (join : JoinMessage) → JoinSpeaks join → PlanSpeaks (carries_down m join)
  carries_down_is join says = option_speaks (λ a. ends m (goes_down a join (empty_draft m)) heard.Carried) (address_of m.station) (drop_it m BadUnit)
      (λ a e. sealed_speaks m h _ _ _ (down_speaks a join (empty_draft m) begun says)) (refuses m h _ _)

  carry_down_is : (join : JoinMessage) (b : JoinBody) → JoinSpeaks join → PlanSpeaks (carry_down m join b)
  carry_down_is join (body.Challenge eap) says = carries_down_is join says
  carry_down_is join (body.Accept identifier) says = carries_down_is join says
  carry_down_is join body.Decline says = carries_down_is join says
  carry_down_is join _ says = refuses m h _ _

  -- # Challenges

  abbrev replied : SessionWay → Peer → Draft Memory
  replied session_way peer = with_pair_tags (mac_p_tag peer.eui peer.id_s peer.rand_s peer.rand_p ∷ []) []
      (with_memory_by (λ n. with_session (Some (record { session_way = session_way; peer = Some peer; since = now })) (without_oldest n)) (empty_draft m))

  replied_speaks : (session_way : SessionWay) (peer : Peer) → PeerSpeaks peer → DraftSpeaksIn (replied session_way peer)
  unfolding empty_draft
  replied_speaks session_way peer p = tagged_speaks (mac_p_tag peer.eui peer.id_s peer.rand_s peer.rand_p ∷ []) [] _
      (remembers_speaks (λ n. with_session (Some (record { session_way = session_way; peer = Some peer; since = now })) (without_oldest n)) (empty_draft m)
      begun reads
      (record { waiting = h.waiting; randoms = All-drop RandSpeaks 1 m.randoms h.randoms; session = p; sessions = h.sessions }))

  replies_is : (session_way : SessionWay) (peer : Peer) (join : JoinMessage) → PeerSpeaks peer → JoinSpeaks join
      → PlanSpeaks (replies m session_way peer join now)
  replies_is (ByAgent agent) peer join p says = checked_speaks m h _
      (λ e. sealed_speaks m h _ _ _ (up_speaks agent peer.eui join (replied (ByAgent agent) peer) (replied_speaks (ByAgent agent) peer p) p.0 says))
  replies_is ByCommand peer join p says =
      checked_speaks m h _ (λ e. sealed_speaks m h _ _ _ (commanded_speaks 0 join now (replied ByCommand peer) says (replied_speaks ByCommand peer p)))

  reply_is : (session_way : SessionWay) (packet : List ℕ) → AreOctets packet → PlanSpeaks (reply x m session_way packet now)
  reply_is session_way packet are = checked_speaks m h _ (λ e.
      option_speaks (λ value. checked dropped m (option_map packet_fault (first_fault packet)) (reply_with x m session_way packet now value)) (oldest m)
      (drop_it m NoRandom)
      (λ value here. checked_speaks m h _ (λ right.
      let peer : Peer = peer_for eui value packet in
      let rand_s : AreOctets peer.rand_s.0 = part_octets 6 16 packet are in
      let is : RandSpeaks value = oldest_speaks m value h here in
      let fits = second_fits (keys_of psk.0) (identifier_of packet) peer (part_short 6 16 packet) is.1 own.0 in
      replies_is session_way peer (message eui (body.Join (network.second psk (identifier_of packet) peer))) (own.1, rand_s, part_short 6 16 packet)
      (join_speaks eui (body.Join (network.second psk (identifier_of packet) peer)) own
      (second_octets psk.0 (identifier_of packet) peer pair (octet_low 1 packet are) own.1 rand_s is.0) (omega arith))))
      (refuses m h _ _))

  abbrev took : Peer → ℕ → Granted → Draft Memory
  took peer identifier granted = with_pair_tags (success_tag peer.eui identifier peer.rand_s peer.rand_p ∷ [])
      (mac_s_tag peer.eui peer.id_s peer.rand_p ∷ granting_tag peer.eui identifier peer.rand_s peer.rand_p (granting_text granted) ∷ [])
      (on_station (with_ring (Some granted)) (with_memory_by (with_session None) (empty_draft m)))

  ended_speaks : DraftSpeaksIn (with_memory_by (with_session None) (empty_draft m))
  unfolding empty_draft
  ended_speaks = remembers_speaks (with_session None) (empty_draft m) begun reads
      (record { waiting = h.waiting; randoms = h.randoms; session = tt; sessions = h.sessions })

  took_speaks : (peer : Peer) (identifier : ℕ) (granted : Granted) → IsReadable granted → DraftSpeaksIn (took peer identifier granted)
  took_speaks peer identifier granted r = tagged_speaks _ _ (on_station (with_ring (Some granted)) (with_memory_by (with_session None) (empty_draft m)))
      (ringed_speaks (Some granted) (with_memory_by (with_session None) (empty_draft m)) ended_speaks r)

  takes_is : (session_way : SessionWay) (peer : Peer) (identifier : ℕ) (granted : Granted) (join : JoinMessage) → PeerSpeaks peer → IsReadable granted
      → JoinSpeaks join
      → PlanSpeaks (takes m session_way peer identifier granted join now)
  takes_is (ByAgent agent) peer identifier granted join p r says = checked_speaks m h _
      (λ e. sealed_speaks m h _ _ _ (up_speaks agent peer.eui join (took peer identifier granted) (took_speaks peer identifier granted r) p.0 says))
  takes_is ByCommand peer identifier granted join p r says = checked_speaks m h _
      (λ e. sealed_speaks m h _ _ _ (commanded_speaks 0 join now (took peer identifier granted) says (took_speaks peer identifier granted r)))

  take_with_is : (session_way : SessionWay) (packet : List ℕ) (peer : Peer) (granted : Option Granted) → AreOctets packet → PeerSpeaks peer
      → network.third_fault psk peer packet ≡ None → network.granted psk peer packet ≡ granted → PlanSpeaks (take_with x m session_way packet now peer granted)
  take_with_is session_way packet peer None are p right is = refuses m h _ _
  take_with_is session_way packet peer (Some granted) are p right is =
      takes_is session_way peer (identifier_of packet) granted (message eui (body.Join (network.fourth psk (identifier_of packet) peer))) p
      (network_ranges.granted psk peer packet granted pair are right is)
      (join_speaks eui (body.Join (network.fourth psk (identifier_of packet) peer)) own
      (fourth_octets psk.0 (identifier_of packet) peer pair (octet_low 1 packet are) p.1)
      (let fits = fourth_fits (keys_of psk.0) (identifier_of packet) peer p.2 in omega arith))

  take_by_is : (session_way : SessionWay) (packet : List ℕ) (peer : Option Peer) → AreOctets packet → IfSome peer PeerSpeaks
      → PlanSpeaks (take_by x m session_way packet now peer)
  take_by_is session_way packet None are p = refuses m h _ _
  take_by_is session_way packet (Some peer) are p = checked_speaks m h _ (λ e.
      take_with_is session_way packet peer (network.granted psk peer packet) are p (no_fault packet_fault (network.third_fault psk peer packet) e) refl)

  take_is : (session_way : SessionWay) (packet : List ℕ) → AreOctets packet → PlanSpeaks (take x m session_way packet now)
  take_is session_way packet are = checked_speaks m h _ (λ e.
      option_speaks (λ (s : MeterSession). take_by x m session_way packet now s.peer) m.session (drop_it m NoSession)
      (λ s here. take_by_is session_way packet s.peer are (subst (λ o. IfSome o SessionSpeaks) here h.session)) (refuses m h _ _))

  challenged_is : (session_way : SessionWay) (packet : List ℕ) → AreOctets packet → PlanSpeaks (challenged x m session_way packet now)
  challenged_is session_way packet are = choose_speaks (λ first. reply_is session_way packet are) (λ third. take_is session_way packet are)

  -- # What else the coordinator says

  declined_is : (agent : ℕ) → PlanSpeaks (declined m agent)
  declined_is agent =
      choose_speaks (λ joined. refuses m h _ _) (λ outside. choose_speaks (λ runs. sealed_speaks m h _ _ _ ended_speaks) (λ none. refuses m h _ _))

  leaves_speaks : DraftSpeaksIn (leaves m)
  unfolding empty_draft with_memory_by on_station with_ring
  leaves_speaks = record {
    ring = tt;
    memory = record { waiting = All-nil BodySpeaks; randoms = h.randoms; session = tt; sessions = h.sessions };
    units = All-nil OutSpeaks;
    plain = All-nil PlainSpeaks;
  }

  kicked_is : PlanSpeaks (kicked m)
  kicked_is = sealed_speaks m h _ _ (leaves m) leaves_speaks

  activated_is : (index : ℕ) → index ≤ 1 → PlanSpeaks (activated m index)
  activated_is index low = choose_speaks
      (λ held. sealed_speaks m h _ _ _ (ringed_speaks (ring.with_active m.station.ring index) (empty_draft m) begun
      (ring_fits WordFits (λ w k. k) m.station.ring (ring.with_active m.station.ring index) (Activates index low held) reads)))
      (λ none. refuses m h _ _)

  noted_is : PlanSpeaks (ends m (empty_draft m) heard.Noted)
  noted_is = sealed_speaks m h _ _ (empty_draft m) begun

  -- # A joining message

  near_is : (agent : ℕ) (b : JoinBody) → AreOctets (rest_of b) → PlanSpeaks (hear_near x m agent b now)
  near_is agent (body.Challenge eap) are = challenged_is (ByAgent agent) eap are
  near_is agent (body.Accept identifier) are = noted_is
  near_is agent body.Decline are = declined_is agent
  near_is agent _ are = refuses m h _ _

  order_is : (b : JoinBody) → AreOctets (rest_of b) → ((index : ℕ) → b ≡ body.Activate index → index ≤ 1) → PlanSpeaks (hear_order x m b now)
  order_is (body.Challenge eap) are low = challenged_is ByCommand eap are
  order_is (body.Accept identifier) are low = noted_is
  order_is body.Kick are low = kicked_is
  order_is (body.Activate index) are low = activated_is index (low index refl)
  order_is _ are low = refuses m h _ _

  join_is : (octets : List ℕ) (way : Way) (join : JoinMessage) → AreOctets octets → join_in octets ≡ Some join → PlanSpeaks (hear_join x m way join now)
  join_is octets (Air from) join are read = carry_up_is from join join.body (read_speaks octets join are read)
  join_is octets (Near agent) join are read = choose_speaks (λ mine. near_is agent join.body (read_octets join octets are read).rest) (λ other. refuses m h _ _)
  join_is octets (Mesh origin) join are read = choose_speaks
      (λ coordinator. choose_speaks (λ mine. order_is join.body (read_octets join octets are read).rest (read_fits join octets read).index)
      (λ other. carry_down_is join join.body (read_speaks octets join are read)))
      (λ other. refuses m h _ _)

  join_in_is : (octets : List ℕ) (way : Way) (join : Option JoinMessage) → AreOctets octets → join_in octets ≡ join → PlanSpeaks (hear_join_in x m way join now)
  join_in_is octets way None are read = refuses m h _ _
  join_in_is octets way (Some join) are read = join_is octets way join are read

  heard_by_is : (g : Given) → ((by : ℕ) (all : Bool) (u : MeshUnit) → IsCome g by all u → UnitSpeaks u)
      → (p : Plan StationMemory (Result Heard Dropped)) (u : Option Unread) → IfSome u (λ (v : Unread). AreOctets v.body)
      → Planned alone dropped m.station (Handed g m.station) (MadeOf NoWord g m.station) p → PlanSpeaks (heard_by x m now p u)
  heard_by_is g comes p None b s = line_speaks g comes m h reads heard.Station p s
  heard_by_is g comes p (Some u) b s = join_in_is u.body u.way (join_in u.body) b refl

  pub meter_speaks : (got : Accepted) (cost note : ℕ) → AreOctets got.payload → PlanSpeaks (hear_meter x m got cost note now)
  meter_speaks got cost note are =
      let p = station_rules.hear m.station got cost note now in
      heard_by_is (heard_given got cost note now) (comes_speaking got cost note now are) p (unread p.answer) (heard_octets m.station got cost note now are)
      (hear_is NoWord (heard_given got cost note now) m.station got refl)

  -- # What a meter does by itself

  asks_speaks : (agent : ℕ) → DraftSpeaksIn
      (with_memory_by (with_session (Some (record { session_way = ByAgent agent; peer = None; since = now }))) (empty_draft m))
  unfolding empty_draft
  asks_speaks agent = remembers_speaks (with_session (Some (record { session_way = ByAgent agent; peer = None; since = now }))) (empty_draft m) begun reads
      (record { waiting = h.waiting; randoms = h.randoms; session = tt; sessions = h.sessions })

  pub joins_speaks : (agent : ℕ) → PlanSpeaks (join x m agent now)
  joins_speaks agent = choose_speaks (λ joined. refuses m h _ _)
      (λ outside. sealing_speaks joining_ends _ tt (up_speaks agent eui (message eui (body.Join [])) _ (asks_speaks agent) own.1
      (join_speaks eui (body.Join []) own (All-nil (λ n. n < 256)) (omega arith))))

  pub leave_speaks : PlanSpeaks (leave m)
  leave_speaks = choose_speaks (λ joined. sealing_speaks leaving_ends (leaves m) tt leaves_speaks) (λ outside. refuses m h _ _)
