-- What a node makes of a frame, as far as grants go: which one a meter takes, and of which ones the coordinator makes tags.
use Rattle.std.proofs.Common.{◌≡◌, ⊎_elim, ℕ, ◌≤◌, List, [], ◌∷◌, length, Option, Some, None, Result, Ok, Err, refl, sym, subst, ◌∙◌}
use Rattle.std.specs.Prelude.{IfSome, ⊤}
use Rattle.std.specs.Option.{option_map, option_map_or}
use Rattle.plc_base.specs.Grant.{Granted}
use Rattle.plc_base.specs.declared.address.Eui.{Eui}
use Rattle.plc_base.specs.declared.key.Key.{Key}
use Rattle.plc_base.specs.declared.tags.PairTag.{PairTag}
use Rattle.plc_base.specs.declared.tags.PairTag.TheVariants as tags
use Rattle.eap_psk.specs.Faults.{first_fault}
use Rattle.eap_psk.specs.Messages.{granting_text}
use Rattle.eap_psk.specs.Sessions.{agreed_by, identifier_of, peer_for}
use Rattle.eap_psk.specs.Tags.{granting_tag, mac_p_tag, mac_s_tag, success_tag}
use Rattle.eap_psk.specs.declared.peer.Peer.{Peer}
use Rattle.eap_psk.specs.declared.server.Agreed.{Agreed}
use Rattle.group_keys.specs.KeyRing as ring
use Rattle.joining_messages.specs.Reader.{join_in}
use Rattle.joining_messages.specs.declared.message.JoinBody.{JoinBody}
use Rattle.joining_messages.specs.declared.message.JoinBody.TheVariants as body
use Rattle.joining_messages.specs.declared.message.JoinMessage.{JoinMessage}
use Rattle.line_events.specs.declared.event.Answer.TheVariants as answers
use Rattle.node_rules.specs.Accepted.{Accepted}
use Rattle.node_rules.specs.Calls as calls
use Rattle.node_rules.specs.Ciphers.{Ciphers}
use Rattle.node_rules.specs.Coordinators as coordinator_rules
use Rattle.node_rules.specs.Drafts.{Draft, alone, checked, counted, empty_draft, with_ring}
use Rattle.node_rules.specs.HearingRules as station_rules
use Rattle.node_rules.specs.HearingRules.{dropped}
use Rattle.node_rules.specs.JoiningPackets.{message}
use Rattle.node_rules.specs.Laws.{IsCutOff, IsWhole}
use Rattle.node_rules.specs.Memory.{StationMemory, Memory, MeterSession, SessionWay, ByAgent, ByCommand, Role, Coordinator, Meter, Node, address_of}
use Rattle.node_rules.specs.MemoryDrafts.{Unread, goes_down, goes_up, in_memory, is_commanded, oldest, on_station, packet_fault, unread, with_memory_by}
use Rattle.node_rules.specs.MemoryDrafts.{with_pair_tags, with_station, without_oldest}
use Rattle.node_rules.specs.Meters as meters
use Rattle.node_rules.specs.Meters.{Hearing, Identity, activated, carries_down, carry_down, carry_up, challenged, declined, drop_it, ends, hear_join}
use Rattle.node_rules.specs.Meters.{hear_join_in}
use Rattle.node_rules.specs.Meters.{hear_near, hear_order, heard_by, hear_meter, leaves, replies, reply, reply_with, says, take, take_by, take_with, takes}
use Rattle.node_rules.specs.Meters.{with_session}
use Rattle.node_rules.specs.NodeSteps.{NodeStep, acts, answering, left_by, stays}
use Rattle.node_rules.specs.Plans.{Plan, carry_out, resting}
use Rattle.node_rules.specs.declared.heard.CoordinatorHeard.{CoordinatorHeard}
use Rattle.node_rules.specs.declared.heard.CoordinatorHeard.TheVariants as coordinator_heard
use Rattle.node_rules.specs.declared.heard.Heard.{Heard}
use Rattle.node_rules.specs.declared.heard.MeterHeard.{MeterHeard}
use Rattle.node_rules.specs.declared.heard.MeterHeard.TheVariants as heard
use Rattle.node_rules.specs.declared.heard.Way.{Way}
use Rattle.node_rules.specs.declared.heard.Way.TheVariants.{Air, Near, Mesh}
use Rattle.node_rules.specs.declared.refusal.Dropped.{Dropped}
use Rattle.node_rules.specs.declared.refusal.Dropped.TheVariants as drops
use Rattle.node_rules.specs.declared.refusal.Dropped.TheVariants.{BadUnit, NoSession, NoRandom}
use Rattle.node_rules.proofs.FailedWrites.{clean}
use Rattle.node_rules.proofs.MemoryDraftShapes.{whole}
use Rattle.line_rules.specs.Answers.{Reception, SentGrant, coordinator_reception, meter_reception}
use Rattle.line_rules.specs.Steps.{hearing_step, identity}
use Rattle.line_laws.specs.Keyed.{Among, Each, Here, Later, PeerIs}
use Rattle.line_laws.specs.Lines.{NodeOk}
use Rattle.line_laws.specs.Stores.{IsKept, IsReadable}
use Rattle.line_laws.proofs.AgreeSteps.{acts_eui}
use Rattle.line_laws.proofs.Answered.{granted_readable}
use Rattle.line_laws.proofs.HearingForms.{Handed, MadeOf, hear_is}
use Rattle.line_laws.proofs.IssueCoordinator.{CoordinatorTag, CoordinatorTags, ServerMac, Third, coordinator_hears, done_in, says_tags}
use Rattle.line_laws.proofs.IssueMeters.{took_in}
use Rattle.line_laws.proofs.IssueWords.{commanded_leaves, each_weaker, made_tags}
use Rattle.line_laws.proofs.Made.{Given, Made, RingWord}
use Rattle.line_laws.proofs.NodeCalls.{heard_given}
use Rattle.line_laws.proofs.Nodes.{node_kept, ring_readable}
use Rattle.line_laws.proofs.Planned.{Ended, Keeps, Planned, Refuses, checked_planned, choose_planned, option_planned, planned_failed, sealed_planned}
use Rattle.line_laws.proofs.ReceivedKeys.{keyed_same, station_took, took_same}

-- # What a meter makes of a frame

-- a grant that is held, and the tag of the third message that was found right over it
pub record Grants (eui : Eui) (opened : List PairTag) (r : ring.Ring) (agreed : Agreed) : Type 0 where
  pub granted : Granted
  pub held : r ≡ Some granted
  pub identifier : ℕ
  pub tag : Among (granting_tag eui identifier agreed.rand_s agreed.rand_p (granting_text granted)) opened

-- a tag that is not of a third message's channel
abbrev pub IsOfNoGrant : PairTag → Type 0
IsOfNoGrant (tags.MacP eui octets) = ⊤
IsOfNoGrant (tags.MacS eui octets) = ⊤
IsOfNoGrant (tags.Channel eui rand_p nonce header text) = nonce ≡ 0 → ⊥

record Tells (eui : Eui) (took : Option Agreed) (d : Draft Memory) : Type 0 where
  held : IfSome took (Grants eui d.opened d.memory.station.ring)
  tags_made : Each IsOfNoGrant d.made

abbrev NoWord : RingWord → Type 0
NoWord w = ⊥

bare : (eui : Eui) (d : Draft Memory) → d.made ≡ [] → Tells eui None d
bare eui d none = record { held = tt; tags_made = subst (Each IsOfNoGrant) (sym none) tt }

module _ (eui : Eui) (took : Option Agreed) where
  commanded : (to : ℕ) (join : JoinMessage) (now : ℕ) (d : Draft Memory) → Tells eui took d → Tells eui took (is_commanded to join now d)
  commanded to join now d h =
      let l = commanded_leaves (λ r. ⊤) to join now d in
      let e = is_commanded to join now d in
      record {
        held = subst (λ (o : List PairTag). IfSome took (Grants eui o e.memory.station.ring)) (sym l.opened)
            (subst (λ (r : ring.Ring). IfSome took (Grants eui d.opened r)) (sym l.ring) h.held);
        tags_made = subst (Each IsOfNoGrant) (sym l.made) h.tags_made;
      }

  up : (agent : ℕ) (own : Eui) (join : JoinMessage) (d : Draft Memory) → Tells eui took d → Tells eui took (goes_up agent own join d)
  unfolding goes_up
  up agent own join d h = record { held = h.held; tags_made = h.tags_made }

  down : (own : ℕ) (join : JoinMessage) (d : Draft Memory) → Tells eui took d → Tells eui took (goes_down own join d)
  unfolding goes_down
  down own join d h = record { held = h.held; tags_made = h.tags_made }

  said : (session_way : SessionWay) (own : Eui) (join : JoinMessage) (now : ℕ) (d : Draft Memory) → Tells eui took d
      → Tells eui took (says session_way own join now d)
  said (ByAgent agent) own join now d h = up agent own join d h
  said ByCommand own join now d h = commanded 0 join now d h

-- # Drafts

begun : (eui : Eui) (m : Memory) → Tells eui None (empty_draft m)
unfolding empty_draft
begun eui m = bare eui (empty_draft m) refl

ended : (eui : Eui) (m : Memory) → Tells eui None (with_memory_by (with_session None) (empty_draft m))
unfolding empty_draft with_memory_by
ended eui m = bare eui (with_memory_by (with_session None) (empty_draft m)) refl

left : (eui : Eui) (m : Memory) → Tells eui None (leaves m)
unfolding empty_draft with_memory_by on_station with_ring
left eui m = bare eui (leaves m) refl

turned : (eui : Eui) (m : Memory) (index : ℕ) → Tells eui None (on_station (calls.with_active m.station index) (empty_draft m))
unfolding empty_draft on_station with_ring
turned eui m index = bare eui (on_station (calls.with_active m.station index) (empty_draft m)) refl

replied : (eui : Eui) (m : Memory) (session_way : SessionWay) (peer : Peer) (now : ℕ)
    → Tells eui None (with_pair_tags (mac_p_tag peer.eui peer.id_s peer.rand_s peer.rand_p ∷ []) []
    (with_memory_by (λ n. with_session (Some (record { session_way = session_way; peer = Some peer; since = now })) (without_oldest n)) (empty_draft m)))
unfolding empty_draft with_memory_by with_pair_tags
replied eui m session_way peer now = record { held = tt; tags_made = (tt, tt) }

-- the tags of a grant that is taken, which is held from then on
taken : (eui : Eui) (m : Memory) (peer : Peer) (identifier : ℕ) (granted : Granted) → peer.eui ≡ eui
    → Tells eui (Some (agreed_by peer)) (with_pair_tags (success_tag peer.eui identifier peer.rand_s peer.rand_p ∷ [])
    (mac_s_tag peer.eui peer.id_s peer.rand_p ∷ granting_tag peer.eui identifier peer.rand_s peer.rand_p (granting_text granted) ∷ [])
    (on_station (with_ring (Some granted)) (with_memory_by (with_session None) (empty_draft m))))
unfolding empty_draft with_memory_by with_pair_tags on_station with_ring
taken eui m peer identifier granted own = record {
  held = record {
    granted = granted;
    held = refl;
    identifier = identifier;
    tag = subst (λ (e : Eui). Among (granting_tag e identifier peer.rand_s peer.rand_p (granting_text granted))
        (mac_s_tag peer.eui peer.id_s peer.rand_p ∷ granting_tag peer.eui identifier peer.rand_s peer.rand_p (granting_text granted) ∷ [])) own
        (Later _ _ (Here []));
  };
  tags_made = ((λ e. absurd (cc (e))), tt);
}

-- # The rules of a meter

module _ (x : Identity) (m : Memory) (g : Given) (peer_is : PeerIs x.eui m.session) where
  abbrev Says : Draft Memory → MeterHeard → Type 0
  Says d a = Tells x.eui (took_in a) d

  abbrev Still : Memory → MeterHeard → Type 0
  Still n a = took_in a ≡ None

  abbrev Is : Hearing → Type 0
  Is p = Planned in_memory dropped m Still Says p

  carries_down_is : (join : JoinMessage) → Is (carries_down m join)
  carries_down_is join = option_planned (λ own. ends m (goes_down own join (empty_draft m)) heard.Carried) (address_of m.station) (drop_it m BadUnit)
      (λ own e. sealed_planned _ _ (down x.eui None own join _ (begun x.eui m))) (λ e. Refuses _)

  carry_up_is : (from : Eui) (join : JoinMessage) (b : JoinBody) → Is (carry_up m from join b g.now)
  carry_up_is from join (body.Join eap) = choose_planned
      (λ own. checked_planned (λ e. sealed_planned _ _ (commanded x.eui None 0 join g.now _ (begun x.eui m)))) (λ other. Refuses _)
  carry_up_is from join _ = Refuses _

  carry_down_is : (join : JoinMessage) (b : JoinBody) → Is (carry_down m join b)
  carry_down_is join (body.Challenge eap) = carries_down_is join
  carry_down_is join (body.Accept identifier) = carries_down_is join
  carry_down_is join body.Decline = carries_down_is join
  carry_down_is join _ = Refuses _

  replies_is : (session_way : SessionWay) (peer : Peer) (join : JoinMessage) → Is (replies m session_way peer join g.now)
  replies_is session_way peer join =
      checked_planned (λ e. sealed_planned _ _ (said x.eui None session_way peer.eui join g.now _ (replied x.eui m session_way peer g.now)))

  reply_is : (session_way : SessionWay) (packet : List ℕ) → Is (reply x m session_way packet g.now)
  reply_is session_way packet = checked_planned (λ e.
      option_planned (λ value. checked dropped m (option_map packet_fault (first_fault packet)) (reply_with x m session_way packet g.now value)) (oldest m)
      (drop_it m NoRandom)
      (λ value here. checked_planned (λ right. replies_is session_way (peer_for x.eui value packet)
      (message x.eui (body.Join (x.ciphers.second x.psk (identifier_of packet) (peer_for x.eui value packet))))))
      (λ none. Refuses _))

  takes_is : (session_way : SessionWay) (peer : Peer) (identifier : ℕ) (granted : Granted) (join : JoinMessage) → peer.eui ≡ x.eui
      → Is (takes m session_way peer identifier granted join g.now)
  takes_is session_way peer identifier granted join own = checked_planned (λ e.
      sealed_planned _ _ (said x.eui (Some (agreed_by peer)) session_way peer.eui join g.now _ (taken x.eui m peer identifier granted own)))

  take_with_is : (session_way : SessionWay) (packet : List ℕ) (peer : Peer) (granted : Option Granted) → peer.eui ≡ x.eui
      → Is (take_with x m session_way packet g.now peer granted)
  take_with_is session_way packet peer None own = Refuses _
  take_with_is session_way packet peer (Some granted) own = takes_is session_way peer _ granted _ own

  take_by_is : (session_way : SessionWay) (packet : List ℕ) (peer : Option Peer) → IfSome peer (λ (p : Peer). p.eui ≡ x.eui)
      → Is (take_by x m session_way packet g.now peer)
  take_by_is session_way packet None own = Refuses _
  take_by_is session_way packet (Some peer) own =
      checked_planned (λ e. take_with_is session_way packet peer (x.ciphers.granted x.psk peer packet) own)

  take_is : (session_way : SessionWay) (packet : List ℕ) → Is (take x m session_way packet g.now)
  take_is session_way packet = checked_planned (λ e.
      option_planned (λ (s : MeterSession). take_by x m session_way packet g.now s.peer) m.session (drop_it m NoSession)
      (λ s here. take_by_is session_way packet s.peer (subst (PeerIs x.eui) here peer_is)) (λ none. Refuses _))

  challenged_is : (session_way : SessionWay) (packet : List ℕ) → Is (challenged x m session_way packet g.now)
  challenged_is session_way packet = choose_planned (λ first. reply_is session_way packet) (λ third. take_is session_way packet)

  declined_is : (agent : ℕ) → Is (declined m agent)
  declined_is agent = choose_planned (λ joined. Refuses _)
      (λ outside. choose_planned (λ runs. sealed_planned _ _ (ended x.eui m)) (λ none. Refuses _))

  activated_is : (index : ℕ) → Is (activated m index)
  activated_is index = choose_planned (λ held. sealed_planned _ _ (turned x.eui m index)) (λ none. Refuses _)

  near_is : (agent : ℕ) (b : JoinBody) → Is (hear_near x m agent b g.now)
  near_is agent (body.Challenge eap) = challenged_is (ByAgent agent) eap
  near_is agent (body.Accept identifier) = sealed_planned _ _ (begun x.eui m)
  near_is agent body.Decline = declined_is agent
  near_is agent _ = Refuses _

  order_is : (b : JoinBody) → Is (hear_order x m b g.now)
  order_is (body.Challenge eap) = challenged_is ByCommand eap
  order_is (body.Accept identifier) = sealed_planned _ _ (begun x.eui m)
  order_is body.Kick = sealed_planned _ _ (left x.eui m)
  order_is (body.Activate index) = activated_is index
  order_is _ = Refuses _

  join_is : (way : Way) (join : JoinMessage) → Is (hear_join x m way join g.now)
  join_is (Air from) join = carry_up_is from join join.body
  join_is (Near agent) join = choose_planned (λ own. near_is agent join.body) (λ other. Refuses _)
  join_is (Mesh origin) join = choose_planned
      (λ home. choose_planned (λ own. order_is join.body) (λ other. carry_down_is join join.body)) (λ away. Refuses _)

  join_in_is : (way : Way) (join : Option JoinMessage) → Is (hear_join_in x m way join g.now)
  join_in_is way None = Refuses _
  join_in_is way (Some join) = join_is way join

  station_tells : (d : Draft StationMemory) → Made NoWord g (empty_draft m.station) d → Tells x.eui None (whole m d)
  unfolding empty_draft
  station_tells d made = bare x.eui (whole m d) (made_tags NoWord g (empty_draft m.station) d made).0

  heard_by_is : (p : Plan StationMemory (Result Heard Dropped)) (u : Option Unread)
      → Planned alone dropped m.station (Handed g m.station) (MadeOf NoWord g m.station) p → Is (heard_by x m g.now p u)
  unfolding resting
  heard_by_is p None (Refuses reason) = Refuses reason
  heard_by_is p None (Keeps n answer k) = Keeps (with_station n m) (heard.Station answer) refl
  heard_by_is p None (Ended d answer done left) = Ended (whole m d) (heard.Station answer) (station_tells d done.0) left
  heard_by_is p (Some u) s = join_in_is u.way (join_in u.body)

  meter_is : (got : Accepted) → g.got ≡ Some got → Is (hear_meter x m got g.cost g.note g.now)
  meter_is got is = let p = station_rules.hear m.station got g.cost g.note g.now in heard_by_is p (unread p.answer) (hear_is NoWord g m.station got is)

-- # What a node made of it

-- A grant that a node holds which runs.
pub record Takes (eui : Eui) (opened : List PairTag) (held : Option Memory) (agreed : Agreed) : Type 0 where
  pub memory : Memory
  pub runs : held ≡ Some memory
  pub grants : Grants eui opened memory.station.ring agreed

-- The text of a third message's channel is that of a grant that went out.
pub record SentOut (r : Reception) (eui : Eui) (text : List ℕ) : Type 0 where
  pub granted : Granted
  pub is : text ≡ granting_text granted
  pub readable : IsReadable granted
  pub keyed : r.keyed ≡ Some (record { eui = eui; granted = granted })
  pub answer : r.answer ≡ answers.Keyed

abbrev pub IsSentWith : Reception → PairTag → Type 0
IsSentWith r (tags.MacP eui octets) = ⊤
IsSentWith r (tags.MacS eui octets) = ⊤
IsSentWith r (tags.Channel eui rand_p nonce header text) = nonce ≡ 0 → SentOut r eui text

-- What a node says of grants that heard a frame.
pub record HearingTells (eui : Eui) (r : Reception) (opened made : List PairTag) (held : Option Memory) : Type 0 where
  pub takes_so : IfSome r.took (Takes eui opened held)
  pub made_so : Each (IsSentWith r) made

acts_tell : {A : Type 0} (P : A → List PairTag → List PairTag → Option Memory → Type 0) (y : Node) (halted : A) (plan : Memory → Plan Memory A)
    → P halted [] [] y.memory → ((m : Memory) → y.memory ≡ Some m → (opened : List PairTag) → P (plan m).failed opened [] None)
    → ((m : Memory) → y.memory ≡ Some m → P (plan m).answer (plan m).opened (plan m).made (Some (plan m).memory))
    → P (acts y halted plan).answer (acts y halted plan).opened (acts y halted plan).made (acts y halted plan).node.memory
unfolding acts
acts_tell {A = A} P y halted plan rests fails f = by_memory y.memory refl
  where
    by_memory : (o : Option Memory) → y.memory ≡ o
        → let d : NodeStep A = option_map_or (λ m. left_by y (carry_out y.store.records y.store.cut (plan m))) o (stays y halted) in
        P d.answer d.opened d.made d.node.memory
    by_memory None there = rests
    by_memory (Some m) there = ⊎_elim
        (λ (w : IsWhole y.store.records y.store.cut (plan m) (carry_out y.store.records y.store.cut (plan m))).
        rw (w.answer, w.opened, w.made, w.memory) (f m there))
        (λ (c : IsCutOff y.store.records y.store.cut (plan m) (carry_out y.store.records y.store.cut (plan m))).
        rw (c.answer, c.made, c.memory) (fails m there _))
        (clean y.store.records y.store.cut (plan m))

none_sent : (r : Reception) (t : PairTag) → IsOfNoGrant t → IsSentWith r t
none_sent r (tags.MacP eui octets) h = tt
none_sent r (tags.MacS eui octets) h = tt
none_sent r (tags.Channel eui rand_p nonce header text) h = λ e. absurd (h e)

meter_tells : (eui : Eui) (m : Memory) (p : Plan Memory (Result MeterHeard Dropped))
    → Planned in_memory dropped m (λ n (a : MeterHeard). took_in a ≡ None) (λ d a. Tells eui (took_in a) d) p
    → HearingTells eui (meter_reception p.answer) p.opened p.made (Some p.memory)
unfolding resting
meter_tells eui m p (Refuses reason) = record { takes_so = tt; made_so = tt }
meter_tells eui m p (Keeps n answer none) =
    record { takes_so = subst (λ o. IfSome o (Takes eui [] (Some n))) (sym (took_same answer ∙ none)) tt; made_so = tt }
meter_tells eui m p (Ended d answer tells left) =
    let n : Memory = counted in_memory (length d.units) d.memory in
    record {
      takes_so = subst (λ o. IfSome o (Takes eui d.opened (Some n))) (sym (took_same answer)) (by_took (took_in answer) tells.held);
      made_so = each_weaker IsOfNoGrant (IsSentWith (meter_reception (Ok answer))) (none_sent (meter_reception (Ok answer))) d.made tells.tags_made;
    }
  where
    by_took : (o : Option Agreed) → IfSome o (Grants eui d.opened d.memory.station.ring)
        → IfSome o (Takes eui d.opened (Some (counted in_memory (length d.units) d.memory)))
    by_took None h = tt
    by_took (Some agreed) h = record {
      memory = counted in_memory (length d.units) d.memory;
      runs = refl;
      grants = record { granted = h.granted; held = h.held; identifier = h.identifier; tag = h.tag };
    }

none_some : (k : SentGrant) → ◌≡◌ {A = Option SentGrant} None (Some k) → ⊥
none_some k e = cc (e)

-- where keys went out, the word says so
keyed_word : (r : Result CoordinatorHeard Dropped) (k : SentGrant) → (coordinator_reception r).keyed ≡ Some k → (coordinator_reception r).answer ≡ answers.Keyed
keyed_word (Ok (coordinator_heard.Station h)) k e = absurd (none_some k (sym (station_took h).1 ∙ e))
keyed_word (Ok coordinator_heard.Challenged) k e = absurd (none_some k e)
keyed_word (Ok (coordinator_heard.Keyed eui granted)) k e = refl
keyed_word (Ok (coordinator_heard.Done eui agreed)) k e = absurd (none_some k e)
keyed_word (Ok coordinator_heard.Declined) k e = absurd (none_some k e)
keyed_word (Err reason) k e = absurd (none_some k e)

untaken : (r : Result CoordinatorHeard Dropped) → (coordinator_reception r).took ≡ None
untaken (Ok (coordinator_heard.Station h)) = (station_took h).0
untaken (Ok coordinator_heard.Challenged) = refl
untaken (Ok (coordinator_heard.Keyed eui granted)) = refl
untaken (Ok (coordinator_heard.Done eui agreed)) = refl
untaken (Ok coordinator_heard.Declined) = refl
untaken (Err reason) = refl

third_sent : (m : Memory) (r : Result CoordinatorHeard Dropped) → IfSome m.station.ring IsReadable → length m.book ≤ 999 → (t : PairTag)
    → CoordinatorTag m (coordinator_reception r).keyed t → IsSentWith (coordinator_reception r) t
third_sent m r reads short t (ServerMac eui octets) = tt
third_sent m r reads short t (Third eui i s p granted is grant) = λ e. record {
  granted = granted;
  is = refl;
  readable = granted_readable m.station.ring m.book eui granted reads short grant;
  keyed = is;
  answer = keyed_word r (record { eui = eui; granted = granted }) is;
}

module _ (ciphers : Ciphers) (y : Node) (got : Accepted) (cost note now : ℕ) (ok : NodeOk y) where
  abbrev own : coordinator_rules.CoordinatorIdentity
  own = record { eui = y.eui; ciphers = ciphers }

  abbrev plan : Memory → Plan Memory (Result CoordinatorHeard Dropped)
  plan m = coordinator_rules.hear_coordinator own m got cost note now

  coordinator_tells : (m : Memory) → y.memory ≡ Some m → y.role ≡ Coordinator
      → HearingTells y.eui (coordinator_reception (plan m).answer) (plan m).opened (plan m).made (Some (plan m).memory)
  coordinator_tells m there role = record {
    takes_so = subst (λ o. IfSome o (Takes y.eui (plan m).opened (Some (plan m).memory))) (sym (untaken (plan m).answer)) tt;
    made_so = each_weaker (CoordinatorTag m (coordinator_reception (plan m).answer).keyed) (IsSentWith (coordinator_reception (plan m).answer))
        (third_sent m (plan m).answer (ring_readable y m ok there) kept.book.table.short) (plan m).made says.made;
  }
    where
      kept : IsKept Coordinator m y.store.records
      kept = subst (λ role. IsKept role m y.store.records) role (node_kept y m ok there)

      says : CoordinatorTags m (coordinator_reception (plan m).answer).keyed (coordinator_reception (plan m).answer).done (plan m)
      says = says_tags m dropped (λ n a. done_in a ≡ None) (λ r. (coordinator_reception r).keyed) (λ r. (coordinator_reception r).done)
          (λ a. (keyed_same a).0) (λ a. (keyed_same a).1) (λ f. refl) (λ a n h. h) (plan m) (coordinator_hears own m (heard_given got cost note now) got refl)

  abbrev hears_as : Role → NodeStep Reception
  hears_as Coordinator = answering coordinator_reception (acts y (Err drops.Store) plan)
  hears_as (Meter psk) = answering meter_reception (acts y (Err drops.Store) (λ m. meters.hear_meter (identity ciphers y psk) m got cost note now))

  -- what it says of grants, where a meter's session is its own
  pub hearing_tells : ((psk : Key) → y.role ≡ Meter psk → IfSome y.memory (λ (m : Memory). PeerIs y.eui m.session))
      → let d = hearing_step ciphers y got cost note now in HearingTells y.eui d.answer d.opened d.made d.node.memory
  hearing_tells peer = by_role y.role refl
    where
      by_role : (role : Role) → y.role ≡ role
          → HearingTells y.eui (hears_as role).answer (hears_as role).opened (hears_as role).made (hears_as role).node.memory
      by_role Coordinator is =
          acts_tell (λ (r : Result CoordinatorHeard Dropped) opened made held. HearingTells y.eui (coordinator_reception r) opened made held)
          y (Err drops.Store) plan (record { takes_so = tt; made_so = tt })
          (λ m there opened. subst (λ (r : Result CoordinatorHeard Dropped). HearingTells y.eui (coordinator_reception r) opened [] None)
          (sym (planned_failed _ (coordinator_hears own m (heard_given got cost note now) got refl))) (record { takes_so = tt; made_so = tt }))
          (λ m there. coordinator_tells m there is)
      by_role (Meter psk) is = acts_tell (λ (r : Result MeterHeard Dropped) opened made held. HearingTells y.eui (meter_reception r) opened made held)
          y (Err drops.Store) (λ m. meters.hear_meter x m got cost note now) (record { takes_so = tt; made_so = tt })
          (λ m there opened. subst (λ (r : Result MeterHeard Dropped). HearingTells y.eui (meter_reception r) opened [] None)
          (sym (planned_failed _ (hears m there))) (record { takes_so = tt; made_so = tt }))
          (λ m there. meter_tells y.eui m _ (hears m there))
        where
          x : Identity
          x = identity ciphers y psk

          hears : (m : Memory) → y.memory ≡ Some m
              → Planned in_memory dropped m (λ n (a : MeterHeard). took_in a ≡ None) (λ d a. Tells y.eui (took_in a) d)
              (meters.hear_meter x m got cost note now)
          hears m there =
              meter_is x m (heard_given got cost note now) (subst (λ o. IfSome o (λ (n : Memory). PeerIs y.eui n.session)) there (peer psk is)) got refl

  -- the node keeps its EUI
  pub hearing_eui : (hearing_step ciphers y got cost note now).node.eui ≡ y.eui
  hearing_eui = by_role y.role
    where
      by_role : (role : Role) → (hears_as role).node.eui ≡ y.eui
      by_role Coordinator = acts_eui y (Err drops.Store) plan
      by_role (Meter psk) = acts_eui y (Err drops.Store) (λ m. meters.hear_meter (identity ciphers y psk) m got cost note now)
