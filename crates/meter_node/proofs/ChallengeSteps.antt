-- What a meter did about the packets of a challenge, by what its calls did.
use Rattle.std.proofs.Common.{◌≡◌, ℕ, List, [], ◌∷◌, drop, map, length, Some, None, Result, Ok, Err, refl, sym, ap, subst, ◌∙◌}
use Rattle.std.specs.Prelude.{slice_get, IfSome, IsSome}
use Rattle.plc_base.specs.Grant.{Granted}
use Rattle.store_tables.specs.Writes.{puts_of}
use Rattle.plc_base.specs.declared.key.RandomOctets.{RandomOctets}
use Rattle.plc_base.specs.declared.out_frame.Out.{Out}
use Rattle.store_tables.proofs.WritesLemmas.{wrote_none}
use Rattle.group_keys.specs.KeyRing.{ring_write}
use Rattle.node_rules.specs.declared.refusal.RingRefusal.{RingRefusal}
use Rattle.joining_messages.specs.declared.message.JoinMessage.{JoinMessage}
use Rattle.joining_messages.specs.declared.message.JoinBody.TheVariants as body
use Rattle.eap_psk.specs.Keys.{keys_of}
use Rattle.eap_psk.specs.Sessions.{peer_for, identifier_of, agreed_by, second_packet, fourth_packet, granted_by}
use Rattle.eap_psk.specs.Tags.{first_tags, third_tags}
use Rattle.eap_psk.specs.declared.peer.Peer.{Peer}
use Rattle.eap_psk.specs.declared.server.Agreed.{Agreed}
use Rattle.node_rules.specs.declared.heard.MeterHeard.{MeterHeard}
use Rattle.node_rules.specs.declared.heard.MeterHeard.TheVariants as heard
use Rattle.node_rules.specs.declared.heard.SentHow.{SentHow}
use Rattle.node_rules.specs.declared.refusal.Dropped.{Dropped}
use Rattle.node_rules.specs.declared.refusal.SendRefusal.{SendRefusal}
use Rattle.node_rules.specs.Ciphers.{network}
use Rattle.node_rules.specs.Frames.{Up, spelled}
use Rattle.node_rules.specs.Memory.{StationMemory, Memory, SessionWay, ByAgent, ByCommand, address_of}
use Rattle.node_rules.specs.Plans.{Plan}
use Rattle.node_rules.specs.Drafts.{refused}
use Rattle.node_rules.specs.HearingRules.{dropped, dropped_for}
use Rattle.node_rules.specs.Calls as calls
use Rattle.node_rules.specs.JoiningPackets.{message, command_of}
use Rattle.node_rules.specs.Meters as meters
use Rattle.node_rules.specs.States.{State}
use Rattle.node_rules.specs.Agreement.{Agrees, AgreesWith}
use Rattle.node_rules.specs.CarriedPlans.{Carries, nothing}
use Rattle.node_rules.specs.Calls.{command_fault}
use Rattle.node_rules.specs.ComposedPlans.{HasRoom}
use Rattle.node_rules.proofs.ComposedPlans.{installed, not_installed, Whole, CutOff, ring_alone, room_kept}
use Rattle.plc_station.proofs.CarriedPlans.{at_some}
use Rattle.meter_node.specs.MeterStates.{MeterState, memory_with, node_of, identity_of}
use Rattle.meter_node.specs.MeterAnswers.{first_refusal, peer_in, third_refusal}
use Rattle.meter_node.proofs.CommandRules.{Commands, commanded, not_commanded, stopped_before, goes_in_command, lacks_in_command, address_at}
use Rattle.meter_node.proofs.CommandRules.{same_frames}
use Rattle.meter_node.proofs.ChallengeRules.{changes_with, ring_changes, ring_fails, replying, reply_goes, replies_by_agent, replies_in_command, take_goes}
use Rattle.meter_node.proofs.ChallengeRules.{takes_by_agent, takes_in_command}

-- # Replies

module _ (x : MeterState) (l : StationMemory) (packet : List ℕ) (now : ℕ) (peer : Peer) where
  abbrev pub Second : JoinMessage
  Second = message x.station.eui (body.Join (second_packet (keys_of x.psk.0) (identifier_of packet) peer))

  -- the meter that replied
  abbrev pub Replied : SessionWay → State StationMemory → List RandomOctets → MeterState
  Replied session_way u r = record x { station = u; randoms = r; session = Some (record { session_way = session_way; peer = Some peer; since = now }) }

  module _ (fine : first_refusal x.randoms packet ≡ None) (value : slice_get x.randoms 0 ≡ Some peer.rand_p)
      (is : peer ≡ peer_for x.station.eui peer.rand_p packet) where
    pub agent_replied : (agent : ℕ) (r : List RandomOctets) (out : Out) → x.station.memory ≡ Some l → Agrees x.station
        → meters.air_fault (memory_with x l) (ByAgent agent) ≡ None → r ≡ drop 1 x.randoms
        → out ≡ record { frames = map (spelled network) (Up agent x.station.eui Second ∷ []); tags = first_tags peer }
        → Carries (node_of x) (meters.reply (identity_of x) (memory_with x l) (ByAgent agent) packet now) (Ok heard.Replied) out
        (node_of (Replied (ByAgent agent) x.station r))
    agent_replied agent r out running agrees free left is_out =
        subst (λ (k : List RandomOctets). Carries (node_of x) (meters.reply (identity_of x) (memory_with x l) (ByAgent agent) packet now) (Ok heard.Replied) out
        (node_of (Replied (ByAgent agent) x.station k))) (sym left)
        (changes_with dropped x (Replied (ByAgent agent) x.station (drop 1 x.randoms)) l (Up agent peer.eui Second ∷ []) (first_tags peer).made [] heard.Replied
        (meters.reply (identity_of x) (memory_with x l) (ByAgent agent) packet now) out running agrees refl
        (replies_by_agent x l agent packet now peer Second ∙ reply_goes x l (ByAgent agent) packet now peer free fine value is)
        (is_out ∙ ap (λ e. record { frames = map (spelled network) (Up agent e Second ∷ []); tags = first_tags peer }) (sym (ap (λ (p : Peer). p.eui) is))))

    module _ (u : State StationMemory) (r : List RandomOctets) (left : r ≡ drop 1 x.randoms) (out : Out) (joined : IsSome l.ring)
        (room : HasRoom l 0 (length (command_of Second))) where
      -- what the rule plans
      plan_reply : (own : ℕ) → address_of l ≡ Some own
          → Commands x (Replied ByCommand u (drop 1 x.randoms)) x.station l [] (first_tags peer).made [] own 0 (command_of Second) now heard.Replied out out
          ≡ meters.reply (identity_of x) (memory_with x l) ByCommand packet now
      plan_reply own address =
          goes_in_command (memory_with x l) (memory_with (replying x l ByCommand packet now peer) l) Second now own heard.Replied [] (first_tags peer).made []
          address refl room
          ∙ replies_in_command x l packet now own peer Second ∙ reply_goes x l ByCommand packet now peer refl fine value is

      pub command_replied : (h : SentHow) (more : Out) → Carries x.station (calls.send_command l 0 (command_of Second) now) (Ok h) out u
          → more ≡ record out { tags = first_tags peer }
          → Carries (node_of x) (meters.reply (identity_of x) (memory_with x l) ByCommand packet now) (Ok heard.Replied) more (node_of (Replied ByCommand u r))
      command_replied h more c is_more =
          let own = address_at l joined in
          subst (λ (k : List RandomOctets). Carries (node_of x) (meters.reply (identity_of x) (memory_with x l) ByCommand packet now) (Ok heard.Replied) more
          (node_of (Replied ByCommand u k))) (sym left)
          (subst (λ (p : Plan Memory (Result MeterHeard Dropped)). Carries (node_of x) p (Ok heard.Replied) more
          (node_of (Replied ByCommand u (drop 1 x.randoms)))) (plan_reply own.0 own.1)
          (commanded x (Replied ByCommand u (drop 1 x.randoms)) x.station l [] (first_tags peer).made [] own.0 0 (command_of Second) now heard.Replied out more
          h
          (wrote_none x.station.store) refl own.1 room c is_more))

      pub command_failed : (e : SendRefusal) (more : Out) → Carries x.station (calls.send_command l 0 (command_of Second) now) (Err e) out u
          → more ≡ record out { tags = record { made = []; opened = [] } }
          → Carries (node_of x) (meters.reply (identity_of x) (memory_with x l) ByCommand packet now) (Err dropped.store) more (node_of (Replied ByCommand u r))
      command_failed e more c is_more =
          let own = address_at l joined in
          subst (λ (k : List RandomOctets). Carries (node_of x) (meters.reply (identity_of x) (memory_with x l) ByCommand packet now) (Err dropped.store) more
          (node_of (Replied ByCommand u k))) (sym left)
          (subst (λ (p : Plan Memory (Result MeterHeard Dropped)). Carries (node_of x) p (Err dropped.store) more
          (node_of (Replied ByCommand u (drop 1 x.randoms)))) (plan_reply own.0 own.1)
          (not_commanded x (Replied ByCommand u (drop 1 x.randoms)) x.station l [] (first_tags peer).made [] own.0 0 (command_of Second) now heard.Replied out
          more e
          (wrote_none x.station.store) refl own.1 room c is_more))

    pub reply_lacks : (reason : Dropped) → IsSome l.ring → command_fault dropped dropped_for l 0 (length (command_of Second)) ≡ Some reason
        → refused {H = MeterHeard} dropped (memory_with x l) reason ≡ meters.reply (identity_of x) (memory_with x l) ByCommand packet now
    reply_lacks reason joined fault =
        let own = address_at l joined in
        lacks_in_command (memory_with x l) (memory_with (replying x l ByCommand packet now peer) l) Second now own.0 heard.Replied [] (first_tags peer).made []
        reason own.1 refl fault
        ∙ replies_in_command x l packet now own.0 peer Second ∙ reply_goes x l ByCommand packet now peer refl fine value is

-- # Third packets

module _ (x : MeterState) (l : StationMemory) (packet : List ℕ) (now : ℕ) (peer : Peer) (granted : Granted) where
  abbrev pub Fourth : JoinMessage
  Fourth = message x.station.eui (body.Join (fourth_packet (keys_of x.psk.0) (identifier_of packet) peer))

  -- the meter that took it
  abbrev pub Taker : State StationMemory → MeterState
  Taker u = record x { station = u; session = None }

  -- the station with the new ring
  abbrev pub Ringed : StationMemory
  Ringed = record l { ring = Some granted }

  module _ (is : granted_by (keys_of x.psk.0) peer packet ≡ Some granted) (held : peer_in x.session ≡ Some peer)
      (fine : third_refusal (keys_of x.psk.0) x.session packet ≡ None) where
    module _ (agent : ℕ) (u : State StationMemory) (out : Out) (running : x.station.memory ≡ Some l) (agrees : Agrees x.station)
        (free : meters.air_fault (memory_with x l) (ByAgent agent) ≡ None) where
      pub agent_took : (a : Agreed) (done : Unit {0}) → a ≡ agreed_by peer → Carries x.station (calls.install l granted) (Ok done) nothing u
          → out ≡ record { frames = map (spelled network) (Up agent peer.eui Fourth ∷ []); tags = third_tags peer (identifier_of packet) granted }
          → Carries (node_of x) (meters.take (identity_of x) (memory_with x l) (ByAgent agent) packet now) (Ok (heard.Took a)) out (node_of (Taker u))
      agent_took a done agreed c is_out =
          subst (λ (k : Agreed). Carries (node_of x) (meters.take (identity_of x) (memory_with x l) (ByAgent agent) packet now) (Ok (heard.Took k)) out
          (node_of (Taker u))) (sym agreed)
          (ring_changes x (Taker u) l granted (Up agent peer.eui Fourth ∷ []) (third_tags peer (identifier_of packet) granted).made
          (third_tags peer (identifier_of packet) granted).opened
          (heard.Took (agreed_by peer)) (meters.take (identity_of x) (memory_with x l) (ByAgent agent) packet now) out done running agrees c
          (takes_by_agent x l now peer (identifier_of packet) granted Fourth agent ∙ take_goes x l (ByAgent agent) packet now peer granted is free held fine)
          is_out)

      pub agent_cut : (reason : RingRefusal) → Carries x.station (calls.install l granted) (Err reason) nothing u
          → out ≡ record { frames = []; tags = record { made = []; opened = (third_tags peer (identifier_of packet) granted).opened } }
          → Carries (node_of x) (meters.take (identity_of x) (memory_with x l) (ByAgent agent) packet now) (Err dropped.store) out (node_of (Taker u))
      agent_cut reason c is_out =
          ring_fails x (Taker u) l granted (Up agent peer.eui Fourth ∷ []) (third_tags peer (identifier_of packet) granted).made
          (third_tags peer (identifier_of packet) granted).opened
          (heard.Took (agreed_by peer)) (meters.take (identity_of x) (memory_with x l) (ByAgent agent) packet now) out reason running agrees c
          (takes_by_agent x l now peer (identifier_of packet) granted Fourth agent ∙ take_goes x l (ByAgent agent) packet now peer granted is free held fine)
          is_out

    module _ (t u : State StationMemory) (out more : Out) (running : x.station.memory ≡ Some l) (agrees : Agrees x.station)
        (free : meters.third_way_fault (memory_with x l) ByCommand ≡ None)
        (room : HasRoom l 0 (length (command_of Fourth))) where
      known : AgreesWith l x.station.store.records
      known = at_some x.station.memory (λ k. AgreesWith k x.station.store.records) l running agrees

      room_then : HasRoom Ringed 0 (length (command_of Fourth))
      room_then = room_kept l (Some granted) 0 (length (command_of Fourth)) room

      plan_take : Commands x (Taker u) t Ringed (puts_of (ring_write (Some granted))) (third_tags peer (identifier_of packet) granted).made
          (third_tags peer (identifier_of packet) granted).opened
          granted.address 0 (command_of Fourth) now (heard.Took (agreed_by peer)) out more
          ≡ meters.take (identity_of x) (memory_with x l) ByCommand packet now
      plan_take =
          goes_in_command (memory_with x l) (memory_with (Taker u) Ringed) Fourth now granted.address (heard.Took (agreed_by peer))
          (puts_of (ring_write (Some granted)))
          (third_tags peer (identifier_of packet) granted).made (third_tags peer (identifier_of packet) granted).opened refl (same_frames l (Some granted) 0)
          room
          ∙ takes_in_command x l now peer (identifier_of packet) granted Fourth ∙ take_goes x l ByCommand packet now peer granted is free held fine

      pub command_took : (a : Agreed) (done : Unit {0}) (h : SentHow) → a ≡ agreed_by peer → Carries x.station (calls.install l granted) (Ok done) nothing t
          → IfSome t.memory (λ k. Carries t (calls.send_command k 0 (command_of Fourth) now) (Ok h) out u)
          → more ≡ record out { tags = third_tags peer (identifier_of packet) granted }
          → Carries (node_of x) (meters.take (identity_of x) (memory_with x l) ByCommand packet now) (Ok (heard.Took a)) more (node_of (Taker u))
      command_took a done h agreed c sent is_more =
          let w : Whole x.station (ring_alone l (Some granted)) (Ok done) nothing t = installed x.station t l granted done nothing known.counter.below c in
          subst (λ (k : Agreed). Carries (node_of x) (meters.take (identity_of x) (memory_with x l) ByCommand packet now) (Ok (heard.Took k)) more
          (node_of (Taker u))) (sym agreed)
          (subst (λ (p : Plan Memory (Result MeterHeard Dropped)). Carries (node_of x) p (Ok (heard.Took (agreed_by peer))) more (node_of (Taker u))) plan_take
          (commanded x (Taker u) t Ringed (puts_of (ring_write (Some granted))) (third_tags peer (identifier_of packet) granted).made
          (third_tags peer (identifier_of packet) granted).opened
          granted.address 0 (command_of Fourth) now (heard.Took (agreed_by peer)) out more h w.wrote (sym w.eui) refl room_then
          (at_some t.memory (λ k. Carries t (calls.send_command k 0 (command_of Fourth) now) (Ok h) out u) Ringed w.memory sent) is_more))

      pub command_cut : (done : Unit {0}) (e : SendRefusal) → Carries x.station (calls.install l granted) (Ok done) nothing t
          → IfSome t.memory (λ k. Carries t (calls.send_command k 0 (command_of Fourth) now) (Err e) out u)
          → more ≡ record out { tags = record { made = []; opened = (third_tags peer (identifier_of packet) granted).opened } }
          → Carries (node_of x) (meters.take (identity_of x) (memory_with x l) ByCommand packet now) (Err dropped.store) more (node_of (Taker u))
      command_cut done e c sent is_more =
          let w : Whole x.station (ring_alone l (Some granted)) (Ok done) nothing t = installed x.station t l granted done nothing known.counter.below c in
          subst (λ (p : Plan Memory (Result MeterHeard Dropped)). Carries (node_of x) p (Err dropped.store) more (node_of (Taker u))) plan_take
          (not_commanded x (Taker u) t Ringed (puts_of (ring_write (Some granted))) (third_tags peer (identifier_of packet) granted).made
          (third_tags peer (identifier_of packet) granted).opened
          granted.address 0 (command_of Fourth) now (heard.Took (agreed_by peer)) out more e w.wrote (sym w.eui) refl room_then
          (at_some t.memory (λ k. Carries t (calls.send_command k 0 (command_of Fourth) now) (Err e) out u) Ringed w.memory sent) is_more)

      pub ring_cut : (reason : RingRefusal) → Carries x.station (calls.install l granted) (Err reason) nothing u
          → more ≡ record { frames = []; tags = record { made = []; opened = (third_tags peer (identifier_of packet) granted).opened } }
          → Carries (node_of x) (meters.take (identity_of x) (memory_with x l) ByCommand packet now) (Err dropped.store) more (node_of (Taker u))
      ring_cut reason c is_more =
          let w : CutOff x.station (ring_alone l (Some granted)) nothing u = not_installed x.station u l granted reason nothing known.counter.below c in
          subst (λ (p : Plan Memory (Result MeterHeard Dropped)). Carries (node_of x) p (Err dropped.store) more (node_of (Taker u))) plan_take
          (stopped_before x (Taker u) t Ringed (puts_of (ring_write (Some granted))) (third_tags peer (identifier_of packet) granted).made
          (third_tags peer (identifier_of packet) granted).opened
          granted.address 0 (command_of Fourth) now (heard.Took (agreed_by peer)) out more w.wrote w.eui w.memory is_more)

    pub take_lacks : (reason : Dropped) → meters.third_way_fault (memory_with x l) ByCommand ≡ None
        → command_fault dropped dropped_for l 0 (length (command_of Fourth)) ≡ Some reason
        → refused {H = MeterHeard} dropped (memory_with x l) reason ≡ meters.take (identity_of x) (memory_with x l) ByCommand packet now
    take_lacks reason free fault =
        lacks_in_command (memory_with x l) (memory_with (Taker x.station) Ringed) Fourth now granted.address (heard.Took (agreed_by peer))
        (puts_of (ring_write (Some granted)))
        (third_tags peer (identifier_of packet) granted).made (third_tags peer (identifier_of packet) granted).opened reason refl
        (same_frames l (Some granted) 0) fault
        ∙ takes_in_command x l now peer (identifier_of packet) granted Fourth ∙ take_goes x l ByCommand packet now peer granted is free held fine
