-- How a meter's answers to the packets of a challenge are carried out.
use Rattle.std.proofs.Common.{◌≡◌, ℕ, true, false, List, [], ◌∷◌, drop, map, Option, Some, None, Result, Ok, Err, refl, sym, ap, subst, ◌∙◌}
use Rattle.std.specs.Prelude.{slice_get, is_some, IfSome}
use Rattle.std.specs.Option.{option_map, option_map_or}
use Rattle.std.proofs.lemmas.List.{append-nil}
use Rattle.plc_base.specs.Faults.{◌then◌}
use Rattle.plc_base.specs.Grant.{Granted}
use Rattle.store_tables.specs.Writes.{Wrote, puts_of}
use Rattle.plc_base.specs.declared.key.RandomOctets.{RandomOctets}
use Rattle.plc_base.specs.declared.tags.PairTag.{PairTag}
use Rattle.plc_base.specs.declared.out_frame.Out.{Out}
use Rattle.store_tables.proofs.WritesLemmas.{wrote_none}
use Rattle.group_keys.specs.KeyRing.{ring_write}
use Rattle.node_rules.specs.declared.refusal.RingRefusal.{RingRefusal}
use Rattle.joining_messages.specs.declared.message.JoinMessage.{JoinMessage}
use Rattle.joining_messages.specs.declared.message.JoinBody.TheVariants as body
use Rattle.eap_psk.specs.Keys.{keys_of}
use Rattle.eap_psk.specs.Messages.{granting_text}
use Rattle.eap_psk.specs.Faults.{first_fault, third_fault}
use Rattle.eap_psk.specs.Sessions.{peer_for, identifier_of, agreed_by, second_packet, fourth_packet, granted_by}
use Rattle.eap_psk.specs.Tags.{mac_p_tag, mac_s_tag, granting_tag, success_tag}
use Rattle.eap_psk.specs.declared.fault.EapFault.{EapFault}
use Rattle.eap_psk.specs.declared.peer.Peer.{Peer}
use Rattle.node_rules.specs.declared.heard.MeterHeard.{MeterHeard}
use Rattle.node_rules.specs.declared.heard.MeterHeard.TheVariants as heard
use Rattle.node_rules.specs.declared.refusal.Dropped.{Dropped}
use Rattle.node_rules.specs.declared.refusal.Dropped.TheVariants.{NoSession, NoRandom, Form}
use Rattle.node_rules.specs.Ciphers.{network}
use Rattle.node_rules.specs.Frames.{Sent, Up, spelled}
use Rattle.node_rules.specs.Memory.{StationMemory, Memory, MeterSession, SessionWay, ByAgent, ByCommand}
use Rattle.node_rules.specs.Plans.{Plan}
use Rattle.node_rules.specs.Drafts.{Ends, empty_draft, with_ring, refused, sealing, checked, choose}
use Rattle.node_rules.specs.HearingRules.{dropped}
use Rattle.node_rules.specs.Calls as calls
use Rattle.node_rules.specs.JoiningPackets.{is_first, message}
use Rattle.node_rules.specs.MemoryDrafts.{in_memory, on_station, with_memory_by, with_pair_tags, goes_up, packet_fault}
use Rattle.node_rules.specs.Meters as meters
use Rattle.node_rules.specs.States.{State}
use Rattle.node_rules.specs.Agreement.{Agrees, AgreesWith}
use Rattle.node_rules.specs.CarriedPlans.{Carries, nothing}
use Rattle.node_rules.specs.ComposedPlans.{begun}
use Rattle.node_rules.proofs.ComposedPlans.{carries_quiet, carries_unsealed, sealed_quiet, installed, not_installed, Whole, CutOff, ring_alone}
use Rattle.plc_station.proofs.CarriedPlans.{at_some}
use Rattle.meter_node.specs.MeterStates.{MeterState, memory_with, node_of, identity_of}
use Rattle.meter_node.specs.MeterAnswers.{first_refusal, peer_in, third_refusal_of, third_refusal}
use Rattle.meter_node.proofs.CommandRules.{InCommand}

-- # What is given out beside a change

-- what is kept beside the station changes, and plain frames and tags go out
pub changes_with : {H E : Type 0} (ends : Ends E) (x y : MeterState) (l : StationMemory) (plain : List Sent) (made opened : List PairTag) (answer : H)
    (p : Plan Memory (Result H E)) (out : Out)
    → x.station.memory ≡ Some l → Agrees x.station → y.station ≡ x.station → sealing in_memory ends (begun [] (memory_with y l) plain made opened) answer ≡ p
    → out ≡ record { frames = map (spelled network) plain; tags = record { made = made; opened = opened } } → Carries (node_of x) p (Ok answer) out (node_of y)
changes_with {H} {E} ends x y l plain made opened answer p out running agrees same plan is =
    let known : AgreesWith l x.station.store.records = at_some x.station.memory (λ k. AgreesWith k x.station.store.records) l running agrees in
    subst (λ (q : Plan Memory (Result H E)). Carries (node_of x) q (Ok answer) out (node_of y)) plan
    (carries_quiet ends (node_of x) (node_of y) [] (memory_with y l) plain made opened answer out known.counter.below
    (subst (λ (s : State StationMemory). Wrote x.station.store [] true s.store) (sym same) (wrote_none x.station.store)) is
    (ap (λ (s : State StationMemory). s.eui) same)
    (ap (λ (s : State StationMemory). option_map (memory_with y) s.memory) same ∙ ap (option_map (memory_with y)) running))

-- a ring comes with it
module _ (x y : MeterState) (l : StationMemory) (granted : Granted) (plain : List Sent) (made opened : List PairTag) (answer : MeterHeard)
    (p : Plan Memory (Result MeterHeard Dropped)) (out : Out) where
  abbrev pub WithRing : Plan Memory (Result MeterHeard Dropped)
  WithRing = sealing in_memory dropped (begun (puts_of (ring_write (Some granted))) (memory_with y (record l { ring = Some granted })) plain made opened) answer

  pub ring_changes : (u : Unit {0}) → x.station.memory ≡ Some l → Agrees x.station → Carries x.station (calls.install l granted) (Ok u) nothing y.station
      → WithRing ≡ p
      → out ≡ record { frames = map (spelled network) plain; tags = record { made = made; opened = opened } }
      → Carries (node_of x) p (Ok answer) out (node_of y)
  ring_changes u running agrees c plan is =
      let known : AgreesWith l x.station.store.records = at_some x.station.memory (λ k. AgreesWith k x.station.store.records) l running agrees in
      let w : Whole x.station (ring_alone l (Some granted)) (Ok u) nothing y.station = installed x.station y.station l granted u nothing known.counter.below
      c in
      subst (λ (q : Plan Memory (Result MeterHeard Dropped)). Carries (node_of x) q (Ok answer) out (node_of y)) plan
      (carries_quiet dropped (node_of x) (node_of y) (puts_of (ring_write (Some granted))) (memory_with y (record l { ring = Some granted })) plain made opened
      answer out known.counter.below
      w.wrote is w.eui (ap (option_map (memory_with y)) w.memory))

  pub ring_fails : (reason : RingRefusal) → x.station.memory ≡ Some l → Agrees x.station
      → Carries x.station (calls.install l granted) (Err reason) nothing y.station → WithRing ≡ p
      → out ≡ record { frames = []; tags = record { made = []; opened = opened } } → Carries (node_of x) p (Err dropped.store) out (node_of y)
  ring_fails reason running agrees c plan is =
      let known : AgreesWith l x.station.store.records = at_some x.station.memory (λ k. AgreesWith k x.station.store.records) l running agrees in
      let w : CutOff x.station (ring_alone l (Some granted)) nothing y.station = not_installed x.station y.station l granted reason nothing known.counter.below
      c in
      subst (λ (q : Plan Memory (Result MeterHeard Dropped)). Carries (node_of x) q (Err dropped.store) out (node_of y)) plan
      (carries_unsealed dropped (node_of x) (node_of y)
      (begun (puts_of (ring_write (Some granted))) (memory_with y (record l { ring = Some granted })) plain made opened)
      (puts_of (ring_write (Some granted))) [] answer out w.wrote (sym (append-nil (puts_of (ring_write (Some granted))))) is w.eui
      (ap (option_map (memory_with y)) w.memory))

-- # What stands in the way by agent

pub on_some : {M : Type 0} (o : Option M) (P : M → Type 0) → ((m : M) → o ≡ Some m → P m) → IfSome o P
on_some None P h = tt
on_some (Some m) P h = h m refl

pub no_session : (x : MeterState) (l : StationMemory) (agent : ℕ) → is_some l.ring ≡ false → meters.has_session (memory_with x l) (ByAgent agent) ≡ false
    → meters.air_fault (memory_with x l) (ByAgent agent) ≡ Some NoSession
no_session x l agent free has = rw (free, has) refl

pub awaited : (x : MeterState) (l : StationMemory) (agent : ℕ) → is_some l.ring ≡ false → meters.has_session (memory_with x l) (ByAgent agent) ≡ true
    → meters.air_fault (memory_with x l) (ByAgent agent) ≡ None
awaited x l agent free has = rw (free, has) refl

-- # The first fault

same_reason : (a b : Dropped) → ◌≡◌ {A = Option Dropped} (Some a) (Some b) → a ≡ b
same_reason a b h = cc

none_some : (b : Dropped) → ◌≡◌ {A = Option Dropped} None (Some b) → ⊥
none_some b h = cc

some_none : (b : Dropped) → ◌≡◌ {A = Option Dropped} (Some b) None → ⊥
some_none b h = cc

checked_refused : (m : Memory) (f : Option Dropped) (q : meters.Hearing) (reason : Dropped) → f ≡ Some reason
    → refused {H = MeterHeard} dropped m reason ≡ checked dropped m f q
unfolding checked
checked_refused m f q reason e = λ i. checked dropped m (sym e i) q

-- # Replies

module _ (x : MeterState) (l : StationMemory) (session_way : SessionWay) (packet : List ℕ) (now : ℕ) where
  -- what is left beside the station
  abbrev pub replying : Peer → MeterState
  replying peer = record x { randoms = drop 1 x.randoms; session = Some (record { session_way = session_way; peer = Some peer; since = now }) }

  abbrev Replies : Option Dropped → Option RandomOctets → Option EapFault → meters.Hearing
  Replies f o k =
      checked dropped (memory_with x l) f
      (option_map_or (λ value. checked dropped (memory_with x l) (option_map packet_fault k)
      (meters.reply_with (identity_of x) (memory_with x l) session_way packet now value)) o
      (meters.drop_it (memory_with x l) NoRandom))

  reply_refused_by : (f : Option Dropped) (o : Option RandomOctets) (k : Option EapFault) (reason : Dropped)
      → (f then option_map_or (λ (value : RandomOctets). option_map packet_fault k) o (Some NoRandom)) ≡ Some reason
      → refused {H = MeterHeard} dropped (memory_with x l) reason ≡ Replies f o k
  unfolding checked
  reply_refused_by (Some r) o k reason h = ap (λ q. refused {H = MeterHeard} dropped (memory_with x l) q) (sym (same_reason r reason h))
  reply_refused_by None None k reason h = ap (λ q. refused {H = MeterHeard} dropped (memory_with x l) q) (sym (same_reason NoRandom reason h))
  reply_refused_by None (Some v) (Some fault) reason h =
      ap (λ q. refused {H = MeterHeard} dropped (memory_with x l) q) (sym (same_reason (packet_fault fault) reason h))
  reply_refused_by None (Some v) None reason h = absurd (none_some reason h)

  pub reply_refused : (reason : Dropped) → (meters.first_way_fault (memory_with x l) session_way then first_refusal x.randoms packet) ≡ Some reason
      → refused {H = MeterHeard} dropped (memory_with x l) reason ≡ meters.reply (identity_of x) (memory_with x l) session_way packet now
  reply_refused reason h = reply_refused_by (meters.first_way_fault (memory_with x l) session_way) (slice_get x.randoms 0) (first_fault packet) reason h

  no_fault : (o : Option RandomOctets) (k : Option EapFault) (v : RandomOctets) → o ≡ Some v
      → option_map_or (λ (value : RandomOctets). option_map packet_fault k) o (Some NoRandom) ≡ None → k ≡ None
  no_fault (Some w) None v e h = refl
  no_fault (Some w) (Some fault) v e h = absurd (some_none (packet_fault fault) h)
  no_fault None k v e h = absurd (some_none NoRandom h)

  -- a first packet without a fault is answered
  pub reply_goes : (peer : Peer) → meters.first_way_fault (memory_with x l) session_way ≡ None → first_refusal x.randoms packet ≡ None
      → slice_get x.randoms 0 ≡ Some peer.rand_p
      → peer ≡ peer_for x.station.eui peer.rand_p packet
      → meters.replies (memory_with x l) session_way peer (message x.station.eui (body.Join (second_packet (keys_of x.psk.0) (identifier_of packet) peer))) now
      ≡ meters.reply (identity_of x) (memory_with x l) session_way packet now
  unfolding checked
  reply_goes peer free fine value is =
      ap (λ (p : Peer). meters.replies (memory_with x l) session_way p
      (message x.station.eui (body.Join (second_packet (keys_of x.psk.0) (identifier_of packet) p)))
      now) is
      ∙ (λ i. Replies (sym free i) (sym value i) (sym (no_fault (slice_get x.randoms 0) (first_fault packet) peer.rand_p value fine) i))

-- by agent a plain frame goes up
pub replies_by_agent : (x : MeterState) (l : StationMemory) (agent : ℕ) (packet : List ℕ) (now : ℕ) (peer : Peer) (join : JoinMessage)
    → sealing in_memory dropped (begun [] (memory_with (replying x l (ByAgent agent) packet now peer) l) (Up agent peer.eui join ∷ [])
    (mac_p_tag peer.eui peer.id_s peer.rand_s peer.rand_p ∷ []) []) heard.Replied
    ≡ meters.replies (memory_with x l) (ByAgent agent) peer join now
unfolding checked with_pair_tags with_memory_by empty_draft goes_up
replies_by_agent x l agent packet now peer join =
    sealed_quiet dropped (memory_with x l)
    (begun [] (memory_with (replying x l (ByAgent agent) packet now peer) l) (Up agent peer.eui join ∷ [])
    (mac_p_tag peer.eui peer.id_s peer.rand_s peer.rand_p ∷ []) []) heard.Replied refl

-- by command a command goes
pub replies_in_command : (x : MeterState) (l : StationMemory) (packet : List ℕ) (now own : ℕ) (peer : Peer) (join : JoinMessage)
    → InCommand (memory_with x l) (memory_with (replying x l ByCommand packet now peer) l) join now own heard.Replied []
    (mac_p_tag peer.eui peer.id_s peer.rand_s peer.rand_p ∷ []) []
    ≡ meters.replies (memory_with x l) ByCommand peer join now
unfolding with_pair_tags with_memory_by empty_draft
replies_in_command x l packet now own peer join = refl

-- # Third packets

module _ (x : MeterState) (l : StationMemory) (session_way : SessionWay) (packet : List ℕ) (now : ℕ) where
  abbrev Takes : Option Dropped → Option MeterSession → meters.Hearing
  Takes f o =
      checked dropped (memory_with x l) f
      (option_map_or (λ (s : MeterSession). meters.take_by (identity_of x) (memory_with x l) session_way packet now s.peer) o
      (meters.drop_it (memory_with x l) NoSession))

  peer_refused : (p : Option Peer) (reason : Dropped) → third_refusal_of (keys_of x.psk.0) p packet ≡ Some reason
      → refused {H = MeterHeard} dropped (memory_with x l) reason ≡ meters.take_by (identity_of x) (memory_with x l) session_way packet now p
  peer_refused None reason h = ap (λ q. refused {H = MeterHeard} dropped (memory_with x l) q) (sym (same_reason Form reason h))
  peer_refused (Some peer) reason h =
      checked_refused (memory_with x l) (option_map packet_fault (third_fault (keys_of x.psk.0) peer packet))
      (meters.take_with (identity_of x) (memory_with x l) session_way packet now peer (granted_by (keys_of x.psk.0) peer packet)) reason h

  take_refused_by : (f : Option Dropped) (o : Option MeterSession) (reason : Dropped) → (f then third_refusal (keys_of x.psk.0) o packet) ≡ Some reason
      → refused {H = MeterHeard} dropped (memory_with x l) reason ≡ Takes f o
  unfolding checked
  take_refused_by (Some r) o reason h = ap (λ q. refused {H = MeterHeard} dropped (memory_with x l) q) (sym (same_reason r reason h))
  take_refused_by None None reason h = ap (λ q. refused {H = MeterHeard} dropped (memory_with x l) q) (sym (same_reason NoSession reason h))
  take_refused_by None (Some s) reason h = peer_refused s.peer reason h

  pub take_refused : (reason : Dropped)
      → (meters.third_way_fault (memory_with x l) session_way then third_refusal (keys_of x.psk.0) x.session packet) ≡ Some reason
      → refused {H = MeterHeard} dropped (memory_with x l) reason ≡ meters.take (identity_of x) (memory_with x l) session_way packet now
  take_refused reason h = take_refused_by (meters.third_way_fault (memory_with x l) session_way) x.session reason h

  module _ (peer : Peer) (granted : Granted) (is : granted_by (keys_of x.psk.0) peer packet ≡ Some granted) where
    abbrev pub Taken : meters.Hearing
    Taken = meters.takes (memory_with x l) session_way peer (identifier_of packet) granted
        (message x.station.eui (body.Join (fourth_packet (keys_of x.psk.0) (identifier_of packet) peer))) now

    at_peer : option_map packet_fault (third_fault (keys_of x.psk.0) peer packet) ≡ None
        → Taken ≡ meters.take_by (identity_of x) (memory_with x l) session_way packet now (Some peer)
    unfolding checked
    at_peer h = λ i. checked dropped (memory_with x l) (sym h i) (meters.take_with (identity_of x) (memory_with x l) session_way packet now peer (sym is i))

    by_peer : (p : Option Peer) → p ≡ Some peer → third_refusal_of (keys_of x.psk.0) p packet ≡ None
        → Taken ≡ meters.take_by (identity_of x) (memory_with x l) session_way packet now p
    by_peer p e h =
        at_peer (ap (λ q. third_refusal_of (keys_of x.psk.0) q packet) (sym e) ∙ h)
        ∙ ap (λ q. meters.take_by (identity_of x) (memory_with x l) session_way packet now q) (sym e)

    goes_by : (o : Option MeterSession) → peer_in o ≡ Some peer → third_refusal (keys_of x.psk.0) o packet ≡ None → Taken ≡ Takes None o
    unfolding checked
    goes_by None e h = absurd (some_none NoSession h)
    goes_by (Some s) e h = by_peer s.peer e h

    -- a third packet without a fault is taken
    pub take_goes : meters.third_way_fault (memory_with x l) session_way ≡ None → peer_in x.session ≡ Some peer
        → third_refusal (keys_of x.psk.0) x.session packet ≡ None
        → Taken ≡ meters.take (identity_of x) (memory_with x l) session_way packet now
    take_goes free e h = goes_by x.session e h ∙ (λ i. Takes (sym free i) x.session)

module _ (x : MeterState) (l : StationMemory) (now : ℕ) (peer : Peer) (identifier : ℕ) (granted : Granted) (join : JoinMessage) where
  abbrev pub taking : MeterState
  taking = record x { session = None }

  abbrev pub taken_made : List PairTag
  taken_made = success_tag peer.eui identifier peer.rand_s peer.rand_p ∷ []

  abbrev pub taken_opened : List PairTag
  taken_opened =
      mac_s_tag peer.eui peer.id_s peer.rand_p ∷ granting_tag peer.eui identifier peer.rand_s peer.rand_p (granting_text granted) ∷ []

  -- by agent a plain frame goes up
  pub takes_by_agent : (agent : ℕ)
      → sealing in_memory dropped (begun (puts_of (ring_write (Some granted))) (memory_with taking (record l { ring = Some granted }))
      (Up agent peer.eui join ∷ []) taken_made taken_opened) (heard.Took (agreed_by peer))
      ≡ meters.takes (memory_with x l) (ByAgent agent) peer identifier granted join now
  unfolding checked with_pair_tags with_memory_by empty_draft goes_up on_station with_ring
  takes_by_agent agent =
      sealed_quiet dropped (memory_with x l)
      (begun (puts_of (ring_write (Some granted))) (memory_with taking (record l { ring = Some granted })) (Up agent peer.eui join ∷ []) taken_made
      taken_opened) (heard.Took (agreed_by peer)) refl

  -- by command a command goes, under the new ring
  pub takes_in_command :
      InCommand (memory_with x l) (memory_with taking (record l { ring = Some granted })) join now granted.address (heard.Took (agreed_by peer))
      (puts_of (ring_write (Some granted))) taken_made taken_opened
      ≡ meters.takes (memory_with x l) ByCommand peer identifier granted join now
  unfolding with_pair_tags with_memory_by empty_draft on_station with_ring
  takes_in_command = refl

-- # Which packet it is

pub first_challenge : (x : MeterState) (l : StationMemory) (session_way : SessionWay) (packet : List ℕ) (now : ℕ) → is_first packet ≡ true
    → meters.reply (identity_of x) (memory_with x l) session_way packet now ≡ meters.challenged (identity_of x) (memory_with x l) session_way packet now
unfolding choose
first_challenge x l session_way packet now e =
    λ i. choose (sym e i) (meters.reply (identity_of x) (memory_with x l) session_way packet now)
    (meters.take (identity_of x) (memory_with x l) session_way packet now)

pub other_challenge : (x : MeterState) (l : StationMemory) (session_way : SessionWay) (packet : List ℕ) (now : ℕ) → is_first packet ≡ false
    → meters.take (identity_of x) (memory_with x l) session_way packet now ≡ meters.challenged (identity_of x) (memory_with x l) session_way packet now
unfolding choose
other_challenge x l session_way packet now e =
    λ i. choose (sym e i) (meters.reply (identity_of x) (memory_with x l) session_way packet now)
    (meters.take (identity_of x) (memory_with x l) session_way packet now)
