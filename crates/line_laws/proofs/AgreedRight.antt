-- The random values that a joining agreed on are those that the tags of its third and fourth message say, at every event.
use Rattle.std.proofs.Common.{◌≡◌, ⊎_elim, ℕ, Bool, true, false, List, [], ◌∷◌, Option, Some, None, Result, Ok, Err, refl, sym, subst, ◌∙◌, ◌+◌}
use Rattle.std.specs.Prelude.{All, IfSome, ⊤}
use Rattle.std.specs.Option.{option_map, option_map_or}
use Rattle.std.proofs.lemmas.List.Elements.{All-cons, All-nil}
use Rattle.plc_base.specs.Grant.{Granted}
use Rattle.plc_base.specs.declared.address.Eui.{Eui}
use Rattle.plc_base.specs.declared.tags.PairTag.{PairTag}
use Rattle.eap_psk.specs.Faults.{first_fault}
use Rattle.eap_psk.specs.Messages.{granting_text}
use Rattle.eap_psk.specs.Sessions.{agreed_by}
use Rattle.eap_psk.specs.Tags.{granting_tag, mac_s_tag, success_tag}
use Rattle.eap_psk.specs.declared.peer.Peer.{Peer}
use Rattle.eap_psk.specs.declared.server.Agreed.{Agreed}
use Rattle.joining_messages.specs.Reader.{join_in}
use Rattle.joining_messages.specs.declared.message.JoinBody.{JoinBody}
use Rattle.joining_messages.specs.declared.message.JoinBody.TheVariants as body
use Rattle.joining_messages.specs.declared.message.JoinMessage.{JoinMessage}
use Rattle.node_rules.specs.Calls as calls
use Rattle.node_rules.specs.Ciphers.{Ciphers}
use Rattle.node_rules.specs.Coordinators as coordinator_rules
use Rattle.node_rules.specs.Drafts.{Draft, alone, checked, empty_draft, with_ring}
use Rattle.node_rules.specs.HearingRules as station_rules
use Rattle.node_rules.specs.HearingRules.{dropped}
use Rattle.node_rules.specs.Laws.{IsCutOff, IsWhole}
use Rattle.node_rules.specs.Memory.{StationMemory, Memory, MeterSession, SessionWay, ByAgent, ByCommand, Role, Coordinator, Meter, Node, address_of}
use Rattle.node_rules.specs.MemoryDrafts.{Unread, goes_down, goes_up, in_memory, oldest, on_station, packet_fault, unread, with_memory_by, with_pair_tags}
use Rattle.node_rules.specs.MemoryDrafts.{with_station}
use Rattle.node_rules.specs.Meters as meters
use Rattle.node_rules.specs.Meters.{Hearing, Identity, activated, carries_down, carry_down, carry_up, challenged, declined, drop_it, ends, hear_join}
use Rattle.node_rules.specs.Meters.{hear_join_in}
use Rattle.node_rules.specs.Meters.{hear_near, hear_order, heard_by, hear_meter, reply, reply_with, says, take, take_by, take_with, takes}
use Rattle.node_rules.specs.Meters.{with_session}
use Rattle.node_rules.specs.NodeSteps.{NodeStep, acts, answering, left_by, of_station, stays}
use Rattle.node_rules.specs.Plans.{Plan, carry_out, resting}
use Rattle.node_rules.specs.Accepted.{Accepted}
use Rattle.node_rules.specs.declared.heard.CoordinatorHeard.{CoordinatorHeard}
use Rattle.node_rules.specs.declared.heard.CoordinatorHeard.TheVariants as coordinator_heard
use Rattle.node_rules.specs.declared.heard.Heard.{Heard}
use Rattle.node_rules.specs.declared.heard.Heard.TheVariants as station_heard
use Rattle.node_rules.specs.declared.heard.MeterHeard.{MeterHeard}
use Rattle.node_rules.specs.declared.heard.MeterHeard.TheVariants as heard
use Rattle.node_rules.specs.declared.heard.Way.{Way}
use Rattle.node_rules.specs.declared.heard.Way.TheVariants.{Air, Near, Mesh}
use Rattle.node_rules.specs.declared.refusal.Dropped.{Dropped}
use Rattle.node_rules.specs.declared.refusal.Dropped.TheVariants as drops
use Rattle.node_rules.specs.declared.refusal.Dropped.TheVariants.{BadUnit, NoSession, NoRandom}
use Rattle.node_rules.specs.declared.refusal.SendRefusal.TheVariants as sends
use Rattle.node_rules.proofs.MemoryDraftShapes.{whole}
use Rattle.node_rules.proofs.FailedWrites.{clean}
use Rattle.line_events.specs.declared.event.Event.{Event}
use Rattle.line_rules.specs.Answers.{CompletedJoining, Reception, coordinator_reception, meter_reception, sent_word, station_reception}
use Rattle.line_rules.specs.Forgery.{accepting}
use Rattle.line_rules.specs.Runs.{Entry}
use Rattle.line_rules.specs.Steps.{Step, node_outcome, done_by, hearing_step, identity, is_taken, note_by, sent_if, tag_of}
use Rattle.line_rules.specs.Worlds.{Pairing, Trace, World, start}
use Rattle.line_laws.specs.AgreedRight.{EveryAgreementIsSaid, Fourth, IsAgreedRight, IsDoneUnder, IsTakenUnder, Third}
use Rattle.line_laws.specs.Keyed.{Here, Later}
use Rattle.line_laws.specs.Owed.{KeepsRanges}
use Rattle.node_rules.specs.Drafts.{UnsealedUnit}
use Rattle.pan_discovery.specs.declared.message.Discovery.{Discovery}
use Rattle.line_laws.proofs.FurtherForms.{AnyUnits}
use Rattle.line_laws.proofs.FurtherSame.{AnyDiscovery, OldStep, line_step_any}
use Rattle.line_laws.proofs.FurtherStepKinds.{After, Anew, Chooses, IsLineStepBy, Known, Opens, Unbelieves, Unsends}
use Rattle.line_laws.proofs.HearingForms.{Handed, MadeOf, hear_is}
use Rattle.line_laws.proofs.IssueCoordinator.{CoordinatorTags, IsDoneBy, coordinator_hears, done_in, says_tags}
use Rattle.line_laws.proofs.IssueMeters.{took_in}
use Rattle.line_laws.proofs.IssueWords.{commanded_leaves}
use Rattle.line_laws.proofs.LineRuns.{AreLawful, Lawful, lawful}
use Rattle.line_laws.proofs.Made.{Given, RingWord}
use Rattle.line_laws.proofs.NodeCalls.{heard_given}
use Rattle.line_laws.proofs.Planned.{Ended, Keeps, Planned, Refuses, checked_planned, choose_planned, option_planned, planned_failed, sealed_planned}
use Rattle.line_laws.proofs.ReceivedKeys.{keyed_same, took_same}
use Rattle.line_laws.proofs.StepKinds.{IsStep, Fails, Makes, Rests, Shows, Acts, BreaksLink, SendsFrom, AllowsMeter, Sets, SetsTwo, Provides, TurnsDown, Hears}
use Rattle.line_laws.proofs.StepKinds.{Loses, Ticks, Restarts, Cuts}

-- # What a meter makes of a frame

abbrev NoWord : RingWord → Type 0
NoWord w = ⊥

module _ (took : Option Agreed) where
  abbrev Under : Draft Memory → Type 0
  Under d = IfSome took (IsTakenUnder d.opened)

  said : (session_way : SessionWay) (own : Eui) (join : JoinMessage) (now : ℕ) (d : Draft Memory) → Under d → Under (says session_way own join now d)
  unfolding goes_up
  said (ByAgent agent) own join now d h = h
  said ByCommand own join now d h =
      let l = commanded_leaves (λ r. ⊤) 0 join now d in subst (λ opened. IfSome took (IsTakenUnder opened)) (sym l.opened) h

-- the tags of a grant that is taken
taken_under : (m : Memory) (peer : Peer) (identifier : ℕ) (granted : Granted)
    → Under (Some (agreed_by peer)) (with_pair_tags (success_tag peer.eui identifier peer.rand_s peer.rand_p ∷ [])
    (mac_s_tag peer.eui peer.id_s peer.rand_p ∷ granting_tag peer.eui identifier peer.rand_s peer.rand_p (granting_text granted) ∷ [])
    (on_station (with_ring (Some granted)) (with_memory_by (with_session None) (empty_draft m))))
unfolding empty_draft with_memory_by with_pair_tags on_station with_ring
taken_under m peer identifier granted = record {
  tag = granting_tag peer.eui identifier peer.rand_s peer.rand_p (granting_text granted);
  among = Later _ _ (Here []);
  is = Third peer.eui identifier (granting_text granted);
}

module _ (x : Identity) (m : Memory) (g : Given) where
  abbrev Says : Draft Memory → MeterHeard → Type 0
  Says d a = Under (took_in a) d

  abbrev Still : Memory → MeterHeard → Type 0
  Still n a = took_in a ≡ None

  abbrev Is : Hearing → Type 0
  Is p = Planned in_memory dropped m Still Says p

  carries_down_is : (join : JoinMessage) → Is (carries_down m join)
  carries_down_is join = option_planned (λ own. ends m (goes_down own join (empty_draft m)) heard.Carried) (address_of m.station) (drop_it m BadUnit)
      (λ own e. sealed_planned _ _ tt) (λ e. Refuses _)

  carry_up_is : (from : Eui) (join : JoinMessage) (b : JoinBody) → Is (carry_up m from join b g.now)
  carry_up_is from join (body.Join eap) = choose_planned (λ own. checked_planned (λ e. sealed_planned _ _ tt)) (λ other. Refuses _)
  carry_up_is from join _ = Refuses _

  carry_down_is : (join : JoinMessage) (b : JoinBody) → Is (carry_down m join b)
  carry_down_is join (body.Challenge eap) = carries_down_is join
  carry_down_is join (body.Accept identifier) = carries_down_is join
  carry_down_is join body.Decline = carries_down_is join
  carry_down_is join _ = Refuses _

  reply_is : (session_way : SessionWay) (packet : List ℕ) → Is (reply x m session_way packet g.now)
  reply_is session_way packet = checked_planned (λ e.
      option_planned (λ value. checked dropped m (option_map packet_fault (first_fault packet)) (reply_with x m session_way packet g.now value)) (oldest m)
      (drop_it m NoRandom) (λ value here. checked_planned (λ right. checked_planned (λ lacks. sealed_planned _ _ tt))) (λ none. Refuses _))

  takes_is : (session_way : SessionWay) (peer : Peer) (identifier : ℕ) (granted : Granted) (join : JoinMessage)
      → Is (takes m session_way peer identifier granted join g.now)
  takes_is session_way peer identifier granted join = checked_planned (λ e.
      sealed_planned _ _ (said (Some (agreed_by peer)) session_way peer.eui join g.now _ (taken_under m peer identifier granted)))

  take_with_is : (session_way : SessionWay) (packet : List ℕ) (peer : Peer) (granted : Option Granted)
      → Is (take_with x m session_way packet g.now peer granted)
  take_with_is session_way packet peer None = Refuses _
  take_with_is session_way packet peer (Some granted) = takes_is session_way peer _ granted _

  take_by_is : (session_way : SessionWay) (packet : List ℕ) (peer : Option Peer) → Is (take_by x m session_way packet g.now peer)
  take_by_is session_way packet None = Refuses _
  take_by_is session_way packet (Some peer) = checked_planned (λ e. take_with_is session_way packet peer (x.ciphers.granted x.psk peer packet))

  take_is : (session_way : SessionWay) (packet : List ℕ) → Is (take x m session_way packet g.now)
  take_is session_way packet = checked_planned (λ e.
      option_planned (λ (s : MeterSession). take_by x m session_way packet g.now s.peer) m.session (drop_it m NoSession)
      (λ s here. take_by_is session_way packet s.peer) (λ none. Refuses _))

  challenged_is : (session_way : SessionWay) (packet : List ℕ) → Is (challenged x m session_way packet g.now)
  challenged_is session_way packet = choose_planned (λ first. reply_is session_way packet) (λ third. take_is session_way packet)

  declined_is : (agent : ℕ) → Is (declined m agent)
  declined_is agent = choose_planned (λ joined. Refuses _) (λ outside. choose_planned (λ runs. sealed_planned _ _ tt) (λ none. Refuses _))

  activated_is : (index : ℕ) → Is (activated m index)
  activated_is index = choose_planned (λ held. sealed_planned _ _ tt) (λ none. Refuses _)

  near_is : (agent : ℕ) (b : JoinBody) → Is (hear_near x m agent b g.now)
  near_is agent (body.Challenge eap) = challenged_is (ByAgent agent) eap
  near_is agent (body.Accept identifier) = sealed_planned _ _ tt
  near_is agent body.Decline = declined_is agent
  near_is agent _ = Refuses _

  order_is : (b : JoinBody) → Is (hear_order x m b g.now)
  order_is (body.Challenge eap) = challenged_is ByCommand eap
  order_is (body.Accept identifier) = sealed_planned _ _ tt
  order_is body.Kick = sealed_planned _ _ tt
  order_is (body.Activate index) = activated_is index
  order_is _ = Refuses _

  join_is : (way : Way) (join : JoinMessage) → Is (hear_join x m way join g.now)
  join_is (Air from) join = carry_up_is from join join.body
  join_is (Near agent) join = choose_planned (λ own. near_is agent join.body) (λ other. Refuses _)
  join_is (Mesh origin) join = choose_planned
      (λ home. choose_planned (λ own. order_is join.body) (λ other. carry_down_is join join.body)) (λ away. Refuses _)

  join_in_is : (way : Way) (join : Option JoinMessage) → Is (hear_join_in x m way join g.now)
  join_in_is way None = Refuses _
  join_in_is way (Some join) = join_is way join

  heard_by_is : (p : Plan StationMemory (Result Heard Dropped)) (u : Option Unread)
      → Planned alone dropped m.station (Handed g m.station) (MadeOf NoWord g m.station) p → Is (heard_by x m g.now p u)
  unfolding resting
  heard_by_is p None (Refuses reason) = Refuses reason
  heard_by_is p None (Keeps n answer k) = Keeps (with_station n m) (heard.Station answer) refl
  heard_by_is p None (Ended d answer done left) = Ended (whole m d) (heard.Station answer) tt left
  heard_by_is p (Some u) s = join_in_is u.way (join_in u.body)

  meter_is : (got : Accepted) → g.got ≡ Some got → Is (hear_meter x m got g.cost g.note g.now)
  meter_is got is = let p = station_rules.hear m.station got g.cost g.note g.now in heard_by_is p (unread p.answer) (hear_is NoWord g m.station got is)

-- # What a node made of it

-- what is agreed is said by tags
abbrev AgreedUnder : List PairTag → Reception → Type 0
AgreedUnder opened r = IfSome r.took (IsTakenUnder opened) × IfSome r.done (λ (d : CompletedJoining). IsDoneUnder opened d.agreed)

acts_say : {A : Type 0} (P : A → List PairTag → Type 0) (y : Node) (halted : A) (plan : Memory → Plan Memory A) → P halted []
    → ((m : Memory) (opened : List PairTag) → P (plan m).failed opened) → ((m : Memory) → P (plan m).answer (plan m).opened)
    → P (acts y halted plan).answer (acts y halted plan).opened
unfolding acts
acts_say {A = A} P y halted plan rests fails f = by_memory y.memory
  where
    by_memory : (o : Option Memory)
        → let d : NodeStep A = option_map_or (λ m. left_by y (carry_out y.store.records y.store.cut (plan m))) o (stays y halted) in P d.answer d.opened
    by_memory None = rests
    by_memory (Some m) = ⊎_elim
        (λ (w : IsWhole y.store.records y.store.cut (plan m) (carry_out y.store.records y.store.cut (plan m))). rw (w.answer, w.opened) (f m))
        (λ (c : IsCutOff y.store.records y.store.cut (plan m) (carry_out y.store.records y.store.cut (plan m))). rw c.answer (fails m _))
        (clean y.store.records y.store.cut (plan m))

station_undone : (h : Heard) → ((station_reception h).done ≡ None) × ((station_reception h).took ≡ None)
station_undone (station_heard.Up from note octets) = (refl, refl)
station_undone station_heard.Held = (refl, refl)
station_undone station_heard.Relayed = (refl, refl)
station_undone station_heard.Answered = (refl, refl)
station_undone station_heard.Learned = (refl, refl)
station_undone station_heard.Broken = (refl, refl)
station_undone station_heard.Reported = (refl, refl)
station_undone (station_heard.Joining way body) = (refl, refl)
station_undone (station_heard.Local from all code body) = (refl, refl)

meter_undone : (a : MeterHeard) → (meter_reception (Ok a)).done ≡ None
meter_undone (heard.Station h) = (station_undone h).0
meter_undone heard.Carried = refl
meter_undone heard.Replied = refl
meter_undone (heard.Took agreed) = refl
meter_undone heard.Noted = refl
meter_undone heard.Declined = refl
meter_undone heard.Left = refl
meter_undone heard.Activated = refl

coordinator_untaken : (a : CoordinatorHeard) → (coordinator_reception (Ok a)).took ≡ None
coordinator_untaken (coordinator_heard.Station h) = (station_undone h).1
coordinator_untaken coordinator_heard.Challenged = refl
coordinator_untaken (coordinator_heard.Keyed eui granted) = refl
coordinator_untaken (coordinator_heard.Done eui agreed) = refl
coordinator_untaken coordinator_heard.Declined = refl

meter_says : (m : Memory) (p : Plan Memory (Result MeterHeard Dropped))
    → Planned in_memory dropped m (λ n (a : MeterHeard). took_in a ≡ None) (λ d a. Under (took_in a) d) p
    → AgreedUnder p.opened (meter_reception p.answer)
unfolding resting
meter_says m p (Refuses reason) = (tt, tt)
meter_says m p (Keeps n answer none) = (
  subst (λ o. IfSome o (IsTakenUnder [])) (sym (took_same answer ∙ none)) tt,
  subst (λ o. IfSome o (λ (d : CompletedJoining). IsDoneUnder [] d.agreed)) (sym (meter_undone answer)) tt,
)
meter_says m p (Ended d answer under left) = (
  subst (λ o. IfSome o (IsTakenUnder d.opened)) (sym (took_same answer)) under,
  subst (λ o. IfSome o (λ (c : CompletedJoining). IsDoneUnder d.opened c.agreed)) (sym (meter_undone answer)) tt,
)

module _ (ciphers : Ciphers) (y : Node) (got : Accepted) (cost note now : ℕ) where
  coordinator_says : (m : Memory)
      → let p = coordinator_rules.hear_coordinator (record { eui = y.eui; ciphers = ciphers }) m got cost note now in
      AgreedUnder p.opened (coordinator_reception p.answer)
  coordinator_says m = (none p.answer, done_is (coordinator_reception p.answer).done tags.right)
    where
      p : Plan Memory (Result CoordinatorHeard Dropped)
      p = coordinator_rules.hear_coordinator (record { eui = y.eui; ciphers = ciphers }) m got cost note now

      tags : CoordinatorTags m (coordinator_reception p.answer).keyed (coordinator_reception p.answer).done p
      tags = says_tags m dropped (λ n a. done_in a ≡ None) (λ r. (coordinator_reception r).keyed) (λ r. (coordinator_reception r).done)
          (λ a. (keyed_same a).0) (λ a. (keyed_same a).1) (λ f. refl) (λ a n h. h) p
          (coordinator_hears (record { eui = y.eui; ciphers = ciphers }) m (heard_given got cost note now) got refl)

      none : (r : Result CoordinatorHeard Dropped) → IfSome (coordinator_reception r).took (IsTakenUnder p.opened)
      none (Ok a) = subst (λ o. IfSome o (IsTakenUnder p.opened)) (sym (coordinator_untaken a)) tt
      none (Err reason) = tt

      done_is : (o : Option CompletedJoining) → IfSome o (IsDoneBy p.opened) → IfSome o (λ (d : CompletedJoining). IsDoneUnder p.opened d.agreed)
      done_is None h = tt
      done_is (Some d) h = record { tag = success_tag d.eui 2 d.agreed.rand_s d.agreed.rand_p; among = h; is = Fourth d.eui 2 }

  heard_says : AgreedUnder (hearing_step ciphers y got cost note now).opened (hearing_step ciphers y got cost note now).answer
  heard_says = by_role y.role
    where
      hears_as : Role → NodeStep Reception
      hears_as Coordinator = answering coordinator_reception
          (acts y (Err drops.Store) (λ m. coordinator_rules.hear_coordinator (record { eui = y.eui; ciphers = ciphers }) m got cost note now))
      hears_as (Meter psk) = answering meter_reception (acts y (Err drops.Store) (λ m. meters.hear_meter (identity ciphers y psk) m got cost note now))

      by_role : (role : Role) → AgreedUnder (hears_as role).opened (hears_as role).answer
      by_role Coordinator = acts_say (λ (r : Result CoordinatorHeard Dropped) opened. AgreedUnder opened (coordinator_reception r)) y (Err drops.Store)
          (λ m. coordinator_rules.hear_coordinator (record { eui = y.eui; ciphers = ciphers }) m got cost note now) (tt, tt)
          (λ m opened. subst (λ (r : Result CoordinatorHeard Dropped). AgreedUnder opened (coordinator_reception r)) (sym (coordinator_fails m)) (tt, tt))
          coordinator_says
        where
          coordinator_fails : (m : Memory)
              → (coordinator_rules.hear_coordinator (record { eui = y.eui; ciphers = ciphers }) m got cost note now).failed ≡ Err drops.Store
          coordinator_fails m = planned_failed _
              (coordinator_hears (record { eui = y.eui; ciphers = ciphers }) m (heard_given got cost note now) got refl)
      by_role (Meter psk) = acts_say (λ (r : Result MeterHeard Dropped) opened. AgreedUnder opened (meter_reception r)) y (Err drops.Store)
          (λ m. meters.hear_meter (identity ciphers y psk) m got cost note now) (tt, tt)
          (λ m opened. subst (λ (r : Result MeterHeard Dropped). AgreedUnder opened (meter_reception r)) (sym (meter_fails m)) (tt, tt))
          (λ m. meter_says m _ (meter_is (identity ciphers y psk) m (heard_given got cost note now) got refl))
        where
          meter_fails : (m : Memory) → (meters.hear_meter (identity ciphers y psk) m got cost note now).failed ≡ Err drops.Store
          meter_fails m = planned_failed _ (meter_is (identity ciphers y psk) m (heard_given got cost note now) got refl)

-- # Events

-- what the history has of an event is so
pub record TraceSays (t : Trace) : Type 0 where
  pub taken : IfSome t.taken (λ (p : Pairing). IsTakenUnder t.opened p.agreed)
  pub done : IfSome t.done (λ (p : Pairing). IsDoneUnder t.opened p.agreed)

abbrev pub SaysIn : Step → Type 0
SaysIn (Ok r) = TraceSays r.1
SaysIn (Err fault) = Unit {0}

taken_says : (number : ℕ) (opened : List PairTag) (o : Option Agreed) → IfSome o (IsTakenUnder opened)
    → IfSome (option_map (λ (a : Agreed). record { node = number; agreed = a }) o) (λ (p : Pairing). IsTakenUnder opened p.agreed)
taken_says number opened None h = tt
taken_says number opened (Some a) h = h

done_says : (w : World) (opened : List PairTag) (o : Option CompletedJoining) → IfSome o (λ (d : CompletedJoining). IsDoneUnder opened d.agreed)
    → IfSome (done_by w o) (λ (p : Pairing). IsDoneUnder opened p.agreed)
done_says w opened None h = tt
done_says w opened (Some d) h = h

module _ (ciphers : Ciphers) (w : World) where
  step_says : (event : Event) (s : Step) → IsStep ciphers w event s → SaysIn s
  step_says event s (Fails e fault) = tt
  step_says event s (Makes e x is) = record { taken = tt; done = tt }
  step_says event s (Rests e quiet) = record { taken = tt; done = tt }
  step_says event s (Shows number x) = record { taken = tt; done = tt }
  step_says event s (Acts e number x A halted plan reads there call word asked) = record { taken = tt; done = tt }
  step_says event s (BreaksLink number next x a there call) = record { taken = tt; done = tt }
  step_says event s (SendsFrom from to datagram x a there call target) =
      let d = answering sent_word (acts x (Err sends.Halted) (λ m. of_station m (calls.send m.station a datagram (w.sends + 1) w.clock))) in
      sent_says from to datagram (tag_of x) (is_taken d.answer) (node_outcome ciphers w from d) (record { taken = tt; done = tt })
    where
      sent_says : (from to : ℕ) (datagram : List ℕ) (tag : ℕ) (b : Bool) (r : World × Trace) → TraceSays r.1
          → TraceSays (sent_if w from to datagram tag b r).1
      sent_says from to datagram tag true r h = record { taken = h.taken; done = h.done }
      sent_says from to datagram tag false r h = h
  step_says event s (AllowsMeter number y c psk there call meter) = record { taken = tt; done = tt }
  step_says event s (Sets e quiet number x plan there open_is is) = record { taken = tt; done = tt }
  step_says event s (SetsTwo e quiet a b cost x y p q hx hy apart open_is first second fresh near) = record { taken = tt; done = tt }
  step_says event s (Provides number x c psk g d ne open_is hx hc pair same is) = record { taken = tt; done = tt }
  step_says event s (TurnsDown e number x octets reason d there says comes same is) = record { taken = tt; done = tt }
  step_says event s (Hears e number x octets cost got there says comes low is) =
      let y = (accepting ciphers x octets).node in
      let d = hearing_step ciphers y got cost (note_by w octets got.path) w.clock in
      let h = heard_says ciphers y got cost (note_by w octets got.path) w.clock in
      record { taken = taken_says number d.opened d.answer.took h.0; done = done_says w d.opened d.answer.done h.1 }
  step_says event s (Loses number f there) = record { taken = tt; done = tt }
  step_says event s (Ticks seconds) = record { taken = tt; done = tt }
  step_says event s (Restarts number x there) = record { taken = tt; done = tt }
  step_says event s (Cuts number nth keeps_new x there) = record { taken = tt; done = tt }

  of_none : (t : Trace) → t.taken ≡ None → t.done ≡ None → TraceSays t
  of_none t none undone = record {
    taken = subst (λ o. IfSome o (λ (p : Pairing). IsTakenUnder t.opened p.agreed)) (sym none) tt;
    done = subst (λ o. IfSome o (λ (p : Pairing). IsDoneUnder t.opened p.agreed)) (sym undone) tt;
  }

  of_same : (s t : Trace) → t.taken ≡ s.taken → t.done ≡ s.done → t.opened ≡ s.opened → TraceSays s → TraceSays t
  of_same s t taken done opened h = record {
    taken = rw (taken, opened) h.taken;
    done = rw (done, opened) h.done;
  }

  line_says : (U : List UnsealedUnit → Type 0) (D : Discovery → Type 0) (event : Event) (s : Step) → IsLineStepBy (OldStep ciphers w) U D ciphers w event s
      → SaysIn s
  line_says U D event s (Known e z old) = step_says event s old.is
  line_says U D event s (Opens begun) = of_none _ refl refl
  line_says U D event s (Anew e v t moves silent) = of_none t silent.taken silent.done
  line_says U D event s (After e r v t old good runs moves same_words) =
      of_same r.1 t same_words.taken same_words.done same_words.opened (step_says event (Ok r) old.is)
  line_says U D event s (Unsends e r v t old good runs moves same_words) =
      let h = of_same r.1 t same_words.taken same_words.done same_words.opened (step_says event (Ok r) old.is) in record { taken = h.taken; done = h.done }
  line_says U D event s (Unbelieves e number x octets got there known comes is) = of_none _ refl refl
  line_says U D event s (Chooses number count x psk ne there pair) = of_none _ refl refl

-- # Runs

module _ (ciphers : Ciphers) (fits : KeepsRanges ciphers) where
  entry_says : (w : World) (x : Entry) → Lawful ciphers w x → IsAgreedRight x
  entry_says w x l =
      let b = l.before in
      let h : SaysIn (Ok (x.after, x.trace)) = subst SaysIn l.step
      (line_says ciphers w AnyUnits AnyDiscovery x.event _ (line_step_any ciphers fits w b.ok b.flown b.logs x.event l.says)) in
      record { taken = h.taken; done = h.done }

  says_from : (w : World) (entries : List Entry) → AreLawful ciphers w entries → All IsAgreedRight entries
  says_from w [] l = All-nil IsAgreedRight
  says_from w (x ∷ xs) l = All-cons IsAgreedRight x xs (entry_says w x l.0) (says_from x.after xs l.1)

pub every_agreement : EveryAgreementIsSaid
every_agreement ciphers fits entries r fly = says_from ciphers fits start entries (lawful ciphers fits entries r fly)
