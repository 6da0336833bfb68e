-- The new flights of a line with further reach have the address that their node has after the event that sent them.
use Rattle.std.proofs.Common.{◌≡◌, ℕ, ◌≤◌, true, ⊎_elim, List, [], ◌∷◌, ◌++◌, length, map, drop, Option, Some, None, Result, Ok, Err, refl, sym, ap, ◌∙◌}
use Rattle.std.proofs.Common.{subst, append-nil}
use Rattle.std.specs.Prelude.{All, IfSome, if◌then◌else◌, is_some}
use Rattle.std.specs.Option.{option_and_then, option_map_or}
use Rattle.std.proofs.Math.Seq.{drop-append_seam}
use Rattle.std.proofs.lemmas.List.{append_assoc, map-append}
use Rattle.std.proofs.lemmas.List.Elements.{All-nil, All-cons}
use Rattle.store_tables.proofs.SlotTables.{slice_get-set}
use Rattle.plc_base.specs.declared.key.Key.{Key}
use Rattle.pan_discovery.specs.declared.message.Discovery.{Discovery}
use Rattle.node_rules.specs.Accepted.{Accepted}
use Rattle.node_rules.specs.declared.heard.Reply.{Reply}
use Rattle.node_rules.specs.declared.refusal.Dropped.TheVariants as drops
use Rattle.node_rules.specs.declared.refusal.FrameRefusal.{FrameRefusal}
use Rattle.node_rules.specs.declared.refusal.FrameRefusal.TheVariants as frames
use Rattle.node_rules.specs.declared.refusal.LocalRefusal.{LocalRefusal}
use Rattle.node_rules.specs.declared.refusal.LocalRefusal.TheVariants as locals
use Rattle.node_rules.specs.Acceptance.{accept}
use Rattle.node_rules.specs.Ciphers.{Ciphers}
use Rattle.node_rules.specs.Frames.{Sent, arrived, spelled}
use Rattle.node_rules.specs.Laws.{IsCutOff, IsWhole}
use Rattle.node_rules.specs.Memory.{Memory, Node}
use Rattle.node_rules.specs.MemoryDrafts.{in_memory}
use Rattle.node_rules.specs.NodeSteps.{NodeStep, acts, left_by, of_station, stays}
use Rattle.node_rules.specs.Plans.{Plan, carry_out, resting}
use Rattle.node_rules.proofs.FailedWrites.{clean}
use Rattle.reach_rules.specs.declared.heard.CommandHeard.{CommandHeard}
use Rattle.reach_rules.specs.declared.refusal.ReachDropped.{ReachDropped}
use Rattle.reach_rules.specs.declared.refusal.ReachDropped.TheVariants as reach_drops
use Rattle.reach_rules.specs.declared.refusal.AskRefusal.TheVariants as asks
use Rattle.reach_rules.specs.declared.refusal.BroadcastRefusal.TheVariants as broadcasts
use Rattle.reach_rules.specs.declared.refusal.ChooseRefusal.{ChooseRefusal}
use Rattle.reach_rules.specs.declared.refusal.ChooseRefusal.TheVariants as choices
use Rattle.reach_rules.specs.Beacons.{ChosenAgent, begin_scan, choose_agent, hear_discovery}
use Rattle.reach_rules.specs.Broadcasts.{broadcast}
use Rattle.reach_rules.specs.CheckedReplies.{acknowledges}
use Rattle.reach_rules.specs.PathRequests.{ask_path}
use Rattle.reach_rules.specs.ReachingNodes.{Beside}
use Rattle.reach_rules.specs.FurtherReceptions.{NeighbourCommand, command_of, hear_command}
use Rattle.line_events.specs.declared.event.Answer.TheVariants as answers
use Rattle.line_events.specs.declared.event.Event.{Event}
use Rattle.line_rules.specs.Answers.{Reception, only}
use Rattle.line_events.specs.Events.{IsEvent}
use Rattle.line_rules.specs.Forgery.{Comes, accepting}
use Rattle.line_rules.specs.Further.{line_step, broadcasts_by, asks_by, scans_by, chooses_by, discovers_by, discovery_flight, discovery_flights, commanded}
use Rattle.line_rules.specs.Further.{acknowledged, acknowledging, adds_frames, sends_nothing, unbelieved, beside_at, reaches, with_beside}
use Rattle.line_rules.specs.Logs.{LogsKept}
use Rattle.line_rules.specs.SafeRuns.{HasAddress}
use Rattle.line_rules.specs.Steps.{Step, running_world, set_up, world_after, flights_of, flight_by, identity, note_by}
use Rattle.line_rules.specs.Worlds.{World, Trace, node_at}
use Rattle.line_laws.specs.LineAccounts.{LineSendersAreRight, SendersIn}
use Rattle.line_laws.specs.Lines.{FlightFits, NodeOk, WorldOk}
use Rattle.line_laws.specs.Owed.{AreOctets, KeepsRanges}
use Rattle.line_laws.proofs.Answered.{acts_answered}
use Rattle.line_laws.proofs.CoordinatorCalls.{accept_failed, accept_ok, accepted_routes}
use Rattle.line_laws.proofs.FlightFolds.{NewSenders, address_low, all_senders, came_octets, none_new, one_after, senders, speaks, after_silent}
use Rattle.line_laws.proofs.FlightFolds.{SendersIn as SendersBefore}
use Rattle.line_laws.proofs.FurtherEvents.{IsFurtherStep, IsHeard, checks_so, further_step_is, outcome_of_command, hearing, taker}
use Rattle.line_laws.proofs.FurtherEvents.{Old, TurnsOn, Spreads, Seeks, Looks, Picks, Finds, Takes, Puts, Unread, IsUnbelieved, IsPlain, IsCommand, IsChecked}
use Rattle.line_laws.proofs.FurtherEvents.{IsAnswered}
use Rattle.line_laws.proofs.FurtherForms.{AnyUnits, IsFurther, Goes, Rests, further_ok, ask_is, broadcast_is}
use Rattle.line_laws.proofs.FurtherSteps.{ack_did, ack_is, choice_ok, command_silent, restarts_read}
use Rattle.line_laws.proofs.FurtherStepKinds.{Speaks, any_speaks}
use Rattle.line_laws.proofs.LaterMoves.{discovery_nonce}
use Rattle.line_laws.proofs.Nodes.{DidOk, acts_ok, ring_readable}
use Rattle.line_laws.specs.OwnKeys.{HasOwn}
use Rattle.line_laws.proofs.Senders.{AreFrom, from_append, node_ring}
use Rattle.line_laws.proofs.StepsOk.{hears_ok}
use Rattle.line_laws.proofs.StoreMarks.{accept_is}
use Rattle.line_laws.proofs.StepKinds.{Hears}
use Rattle.line_laws.proofs.Worlds.{at_place, within as place_within}

-- # A node that goes on keeps its ring

planned_ring : {A : Type 0} (m : Memory) (p : Plan Memory A) → IsFurther AnyUnits m p → p.memory.station.ring ≡ m.station.ring
unfolding resting
planned_ring m p (Rests answer failed) = refl
planned_ring m p (Goes answer failed ps us logs says few left) = refl

ring_kept : {A : Type 0} (x : Node) (halted : A) (does : Memory → Plan Memory A) → ((m : Memory) → IsFurther AnyUnits m (does m)) → (n : Memory)
    → (acts x halted does).node.memory ≡ Some n → node_ring (acts x halted does).node ≡ node_ring x
unfolding acts
ring_kept {A = A} x halted does is n e = by_memory x.memory refl e
  where
    by_outcome : (m : Memory) → x.memory ≡ Some m → (carry_out x.store.records x.store.cut (does m)).memory ≡ Some n
        → option_and_then (λ (k : Memory). k.station.ring) (carry_out x.store.records x.store.cut (does m)).memory ≡ node_ring x
    by_outcome m there left = ⊎_elim
        (λ (w : IsWhole x.store.records x.store.cut (does m) (carry_out x.store.records x.store.cut (does m))).
        ap (λ o. option_and_then (λ (k : Memory). k.station.ring) o) w.memory ∙ planned_ring m (does m) (is m) ∙ sym
        (ap (λ o. option_and_then (λ (k : Memory). k.station.ring) o) there))
        (λ (c : IsCutOff x.store.records x.store.cut (does m) (carry_out x.store.records x.store.cut (does m))). let gone = c.memory in absurd
        (cc (gone, left)))
        (clean x.store.records x.store.cut (does m))

    by_memory : (o : Option Memory) → x.memory ≡ o
        → let d : NodeStep A = option_map_or (λ m. left_by x (carry_out x.store.records x.store.cut (does m))) o (stays x halted) in d.node.memory ≡ Some n
        → node_ring d.node ≡ node_ring x
    by_memory None there left = refl
    by_memory (Some m) there left = by_outcome m there left

-- # Of one event

found_sender : (v : World) (number : ℕ) (frame : Discovery) → HasOwn v (discovery_flight number frame)
found_sender v number frame = (subst (λ o. IfSome o (λ p. HasAddress v number p.from)) (sym (discovery_nonce frame)) tt, tt)

pub AnyFrame : Discovery → Type 0
AnyFrame frame = Unit {0}

module _ (ciphers : Ciphers) (fits : KeepsRanges ciphers) (w : World) (ok : WorldOk w) (flown : All FlightFits w.flights) (logs : LogsKept w) where
  good_at : (number : ℕ) (x : Node) → node_at w number ≡ Some x → NodeOk x
  good_at number x there = at_place NodeOk w.nodes number x there ok.nodes

  pub further_did : {A : Type 0} (x : Node) (halted : A) (does : Memory → Plan Memory A) → NodeOk x
      → ((m : Memory) → x.memory ≡ Some m → IsFurther AnyUnits m (does m)) → DidOk x (acts x halted does)
  further_did x halted does good is = acts_ok x halted does good (λ m here kept sized. further_ok AnyUnits x.role m sized (does m) (is m here))

  pub known : Speaks AnyUnits AnyFrame ciphers w
  unfolding AnyFrame
  known = any_speaks AnyFrame ciphers w logs tt (λ number x m octets link frame there here e. tt)

  -- these frames fly, and the node of the number is this one
  sent_now : (v : World) (number : ℕ) (y : Node) (fs : List Sent) → v.flights ≡ w.flights ++ map (λ frame. flight_by number (spelled ciphers frame)) fs
      → node_at v number ≡ Some y → NodeOk y → AreFrom (node_ring y) fs → NewSenders w v
  sent_now v number y fs flights here good from =
      subst (λ xs. All (HasOwn v) (drop (length w.flights) xs)) (sym flights)
      (subst (All (HasOwn v)) (sym (drop-append_seam w.flights (map (λ frame. flight_by number (spelled ciphers frame)) fs)))
      (all_senders ciphers v number y here fs from (λ a e. address_low y a good e)))

  discovered : (number : ℕ) (o : Option Discovery) (bs : List Beside)
      → NewSenders w (record (running_world w) { flights = w.flights ++ discovery_flights number o; beside = bs })
  discovered number None bs = none_new w (record (running_world w) { flights = w.flights ++ []; beside = bs }) (ap length (append-nil w.flights))
  discovered number (Some frame) bs =
      let v : World = record (running_world w) { flights = w.flights ++ discovery_flights number (Some frame); beside = bs } in
      subst (All (HasOwn v)) (sym (drop-append_seam w.flights (discovery_flight number frame ∷ [])))
      (All-cons (HasOwn v) (discovery_flight number frame) [] (found_sender v number frame) (All-nil (HasOwn v)))

  scans_senders : (number : ℕ) (o : Option Memory) → NewSenders w (scans_by w number o).0
  scans_senders number None = none_new w (running_world w) refl
  scans_senders number (Some m) = discovered number (begin_scan m (beside_at w number).scan).sent (scans_by w number (Some m)).0.beside

  finds_senders : (number : ℕ) (x : Node) (octets : List ℕ) (link : ℕ) (o : Option Memory) → NewSenders w (discovers_by w number x octets link o).0
  finds_senders number x octets link None = none_new w (running_world w) refl
  finds_senders number x octets link (Some m) = discovered number (hear_discovery x.role m.station (beside_at w number).scan octets link).sent
      (discovers_by w number x octets link (Some m)).0.beside

  asks_senders : (number : ℕ) (x : Node) → node_at w number ≡ Some x → (target : Option ℕ) → NewSenders w (asks_by ciphers w number x target).0
  asks_senders number x there None = none_new w (running_world w) refl
  asks_senders number x there (Some target) =
      let d = reaches x (beside_at w number) (Err asks.Halted) (λ z. ask_path in_memory z target) in
      let did = further_did x (Err asks.Halted) (with_beside (beside_at w number) (λ z. ask_path in_memory z target)) (good_at number x there)
      (λ m here. ask_is AnyUnits (beside_at w number) target m (λ own hop e route. tt)) in
      one_after ciphers fits w ok flown (running_world w) (asks_by ciphers w number x (Some target)).0 number x d refl refl refl refl there (speaks x d did)

  spreads_senders : (number : ℕ) (x : Node) → node_at w number ≡ Some x → (datagram : List ℕ) → NewSenders w (broadcasts_by ciphers w number x datagram).0
  spreads_senders number x there datagram =
      let d = reaches x (beside_at w number) (Err broadcasts.Halted) (λ z. broadcast in_memory z datagram) in
      let did = further_did x (Err broadcasts.Halted) (with_beside (beside_at w number) (λ z. broadcast in_memory z datagram)) (good_at number x there)
      (λ m here. broadcast_is AnyUnits (beside_at w number) datagram m (λ own e none. tt)) in
      one_after ciphers fits w ok flown (running_world w) (broadcasts_by ciphers w number x datagram).0 number x d refl refl refl refl there (speaks x d did)

  picks_senders : (number k : ℕ) (x : Node) → node_at w number ≡ Some x → (psk : Option Key) → NewSenders w (chooses_by ciphers w number x k psk).0
  picks_senders number k x there None = none_new w (running_world w) refl
  picks_senders number k x there (Some psk) =
      let d : NodeStep (Result ChosenAgent ChooseRefusal) = reaches x (beside_at w number) (Err choices.Halted)
      (λ z. choose_agent (identity ciphers x psk) z k w.clock) in
      let did : DidOk x d = acts_ok x (Err choices.Halted) (with_beside (beside_at w number) (λ z. choose_agent (identity ciphers x psk) z k w.clock))
      (good_at number x there)
      (λ m here kept sized. choice_ok x.role m sized ciphers fits (identity ciphers x psk) refl (beside_at w number) k w.clock) in
      one_after ciphers fits w ok flown (running_world w) (chooses_by ciphers w number x k (Some psk)).0 number x d refl refl refl refl there (speaks x d did)

  -- # Octets that were accepted

  module _ (event : Event) (number : ℕ) (x : Node) (octets : List ℕ) (cost : ℕ) (got : Accepted) (there : node_at w number ≡ Some x) (says : IsEvent event)
      (outcome_of_arrival : Comes w event number octets)
      (is : (accepting ciphers x octets).answer ≡ Ok got) where
    abbrev y : Node
    y = taker ciphers x octets

    abbrev d : NodeStep Reception
    d = hearing ciphers w x octets got cost

    abbrev r : World × Trace
    r = outcome_of_command ciphers w number x octets got cost

    pub heard_did : DidOk y d
    heard_did =
        let are : AreOctets octets = came_octets ciphers fits w ok flown event number octets says outcome_of_arrival in
        let plan : Memory → Plan Memory (Result Accepted FrameRefusal) = λ m. of_station m (accept m.station x.eui (arrived ciphers octets)) in
        let did = acts_ok x (Err frames.Halted) plan (good_at number x there) (λ m here kept sized. accept_ok ciphers fits octets are x.role m x.eui sized) in
        let a = acts_answered x frames.Halted frames.Store plan
        (λ m. accept_failed ciphers fits octets are m.station _ (accept_is m.station x.eui (arrived ciphers octets))) got is in
        let routes = accepted_routes ciphers fits octets are a.memory.station (ring_readable x a.memory (good_at number x there) a.there) _ got
        (accept_is a.memory.station x.eui (arrived ciphers octets)) a.is in
        hears_ok ciphers fits w ok flown y got cost (note_by w octets got.path) w.clock did.node routes

    plainly : cost ≤ 255 → NewSenders w r.0
    plainly low = senders ciphers fits w ok flown event (Ok r) (Hears event number x octets cost got there says outcome_of_arrival low is)

    now_there : node_at r.0 number ≡ Some d.node
    unfolding world_after
    now_there = slice_get-set w.nodes number d.node (place_within w.nodes number x there)

    heard_flights : r.0.flights ≡ w.flights ++ flights_of ciphers number d
    unfolding world_after
    heard_flights = refl

    commands_senders : (c : NeighbourCommand) → command_of got ≡ Some c → NewSenders w (commanded ciphers number d.node c r).0
    unfolding world_after
    commands_senders c e =
        let none : d.frames ≡ [] = command_silent ciphers y got cost (note_by w octets got.path) w.clock c e y.role in
        let halted : Result CommandHeard ReachDropped = Err (reach_drops.Known drops.Store) in
        let does = with_beside (beside_at r.0 number) (λ z. hear_command in_memory z c) in
        let a = acts d.node halted does in
        let did = further_did d.node halted does heard_did.node
        (λ m here. known.commands event number x octets got cost c m says outcome_of_arrival there is e here) in
        let same : r.0.flights ≡ w.flights = ap (λ fs. w.flights ++ map (λ frame. flight_by number (spelled ciphers frame)) fs) none ∙ append-nil w.flights in
        sent_now (commanded ciphers number d.node c r).0 number a.node a.frames (ap (λ fs. fs ++ flights_of ciphers number a) same)
        (slice_get-set r.0.nodes number a.node (place_within r.0.nodes number d.node now_there)) did.node did.from

    abbrev with_it : World × Trace
    with_it = checks_so ciphers w number x octets got cost

    answers_senders : (reply : Reply) → NewSenders w (acknowledged ciphers w number (acknowledging d.node reply) with_it).0
    unfolding world_after
    answers_senders reply = by_memory a.node.memory refl
      where
        does : Memory → Plan Memory (Result (Unit {0}) LocalRefusal)
        does m = acknowledges in_memory reply.to reply.number reply.origin m

        a : NodeStep (Result (Unit {0}) LocalRefusal)
        a = acknowledging d.node reply

        v : World
        v = world_after ciphers with_it.0 number a

        did : DidOk d.node a
        did = ack_did d.node reply heard_did.node

        flights : v.flights ≡ w.flights ++ map (λ frame. flight_by number (spelled ciphers frame)) (d.frames ++ a.frames)
        flights = append_assoc w.flights (flights_of ciphers number d) (flights_of ciphers number a) ∙ ap (λ fs. w.flights ++ fs)
            (sym (map-append (λ frame. flight_by number (spelled ciphers frame)) d.frames a.frames))

        by_memory : (o : Option Memory) → a.node.memory ≡ o → NewSenders w (if is_some o then adds_frames v with_it.1 a else sends_nothing w (v, with_it.1)).0
        by_memory None e = none_new w (sends_nothing w (v, with_it.1)).0 refl
        by_memory (Some n) e =
            let same : node_ring a.node ≡ node_ring d.node = ring_kept d.node (Err locals.Store) does (λ m. ack_is m reply) n e in
            sent_now v number a.node (d.frames ++ a.frames) flights
            (slice_get-set with_it.0.nodes number a.node (place_within with_it.0.nodes number d.node now_there)) did.node
            (from_append (node_ring a.node) d.frames a.frames (subst (λ o. AreFrom o d.frames) (sym same) heard_did.from) did.from)

    heard_senders : (t : World × Trace) → cost ≤ 255 → IsHeard ciphers w number x octets got cost t → NewSenders w t.0
    heard_senders t low IsUnbelieved = none_new w (unbelieved ciphers w number y octets got).0
        (ap length (after_silent ciphers (running_world w) number (stays y (only answers.Blacklisted)) refl))
    heard_senders t low IsPlain = plainly low
    heard_senders t low (IsCommand c e) = commands_senders c e
    heard_senders t low IsChecked = plainly low
    heard_senders t low (IsAnswered reply e) = answers_senders reply

  old_senders : (t : Step) → SendersBefore ciphers fits w ok flown t → SendersIn w t
  old_senders (Ok r) h = h
  old_senders (Err fault) h = tt

  line_senders : (event : Event) (s : Step) → IsFurtherStep ciphers w event s → SendersIn w s
  line_senders event s (Old e t is) = old_senders t (senders ciphers fits w ok flown e t is)
  line_senders event s (TurnsOn begun) = none_new w (record (set_up w) { checks_on = true }) refl
  line_senders event s (Spreads number x datagram there) = spreads_senders number x there datagram
  line_senders event s (Seeks number to x target there) = asks_senders number x there target
  line_senders event s (Looks number x there) = scans_senders number x.memory
  line_senders event s (Picks number k x psk ne there e) = picks_senders number k x there psk
  line_senders event s (Finds e number x octets link there says outcome_of_arrival is) = finds_senders number x octets link x.memory
  line_senders event s
      (Takes e number x octets cost got t there says outcome_of_arrival low is how) =
      heard_senders e number x octets cost got there says outcome_of_arrival is t low how
  line_senders event s (Puts e r bs quiet is) = senders ciphers fits w ok flown e (Ok r) is
  line_senders event s (Unread number x bad there e) = absurd (restarts_read ciphers w logs number x there bad e)

pub line_senders_right : LineSendersAreRight
line_senders_right ciphers fits w ok flown logs event says = line_senders ciphers fits w ok flown logs event (line_step ciphers w event)
    (further_step_is ciphers w event says)
