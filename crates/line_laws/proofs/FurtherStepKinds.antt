-- How an event of a line with further reach is made: of what nodes without it do, and of moves after that.
use Rattle.std.proofs.Common.{⊎_elim, inr, ◌≡◌, ◌≢◌, ℕ, ◌+◌, ◌≤◌, Bool, true, false, List, [], ◌∷◌, ◌++◌, length, Option, Some}
use Rattle.std.proofs.Common.{None, Result, Ok, Err, refl, sym, ◌∙◌, subst, arith}
use Rattle.std.specs.Prelude.{if◌then◌else◌, All, IsSome, is_some, ◌==◌, map}
use Rattle.std.specs.Option.{option_map_or}
use Rattle.std.proofs.lemmas.List.Elements.{All-append, All-cons, All-nil}
use Rattle.store_tables.proofs.SlotTables.{slice_get-set}
use Rattle.plc_base.specs.declared.keeper.BadStore.{BadStore}
use Rattle.plc_base.specs.declared.key.Key.{Key}
use Rattle.node_rules.specs.Accepted.{Accepted}
use Rattle.node_rules.specs.declared.heard.Reply.{Reply}
use Rattle.node_rules.specs.declared.refusal.Dropped.TheVariants as drops
use Rattle.node_rules.specs.declared.refusal.FrameRefusal.{FrameRefusal}
use Rattle.node_rules.specs.declared.refusal.FrameRefusal.TheVariants as frames
use Rattle.node_rules.specs.declared.refusal.LocalRefusal.{LocalRefusal}
use Rattle.node_rules.specs.declared.refusal.LocalRefusal.TheVariants as locals
use Rattle.node_rules.specs.Acceptance.{accept}
use Rattle.node_rules.specs.Ciphers.{Ciphers}
use Rattle.node_rules.specs.Meters as meters
use Rattle.node_rules.specs.Frames.{arrived}
use Rattle.node_rules.specs.Memory.{Memory, Node, node_address}
use Rattle.node_rules.specs.MemoryDrafts.{in_memory}
use Rattle.node_rules.specs.NodeSteps.{NodeStep, acts, left_by, of_station, stays}
use Rattle.node_rules.specs.Plans.{Plan, carry_out, resting}
use Rattle.node_rules.specs.Replies.{reply_among}
use Rattle.reach_rules.specs.declared.refusal.ReachDropped.TheVariants as reach_drops
use Rattle.reach_rules.specs.declared.refusal.BroadcastRefusal.TheVariants as broadcasts
use Rattle.reach_rules.specs.declared.refusal.AskRefusal.TheVariants as asks
use Rattle.reach_rules.specs.declared.refusal.ChooseRefusal.TheVariants as choices
use Rattle.reach_rules.specs.declared.refusal.ChooseRefusal.{ChooseRefusal}
use Rattle.reach_rules.specs.Beacons.{ChosenAgent, Discovering, begin_scan, choose_agent, hear_discovery, is_discovery}
use Rattle.reach_rules.specs.Broadcasts.{broadcast}
use Rattle.reach_rules.specs.CheckedReplies.{acknowledges, message_of}
use Rattle.reach_rules.specs.PathRequests.{ask_path}
use Rattle.reach_rules.specs.ReachingNodes.{Beside, restarted, tick_beside}
use Rattle.reach_rules.specs.FurtherReceptions.{NeighbourCommand, command_of, hear_command as hear_neighbours}
use Rattle.line_events.specs.declared.event.Answer.{Answer}
use Rattle.line_events.specs.declared.event.Answer.TheVariants as answers
use Rattle.line_events.specs.declared.event.Event.{Event}
use Rattle.line_events.specs.declared.event.Event.TheVariants as events
use Rattle.line_events.specs.declared.event.StepFault.{StepFault}
use Rattle.line_events.specs.declared.event.StepFault.TheVariants as faults
use Rattle.line_rules.specs.Answers.{Reception, only}
use Rattle.line_events.specs.Events.{IsEvent, IsLineOctets}
use Rattle.line_rules.specs.Further.{line_step, checks, bcast, broadcasts_by, path, asks_by, scan, scans_by, choose, chooses_by, discovers_by}
use Rattle.line_rules.specs.Further.{discovery_flights, commanded, checked, acknowledged_if, acknowledged, acknowledging, adds_frames, sends_nothing}
use Rattle.line_rules.specs.Further.{unbelieved, hearing_outcome_by, further_hearing_outcome, is_dropped, accepted_further, comes, delivers, injects, ticks}
use Rattle.line_rules.specs.Further.{after_ok, due}
use Rattle.line_rules.specs.Further.{with_check, restarts_by, restarts_further, beside_at, reaches, with_beside}
use Rattle.line_rules.specs.Logs.{LogIn, LogsKept}
use Rattle.line_rules.specs.Steps.{Step, set_up, running_world, world_after, node_outcome, ticked, happenings, trace_of, has_begun, takes_setup}
use Rattle.line_rules.specs.Steps.{once_begun, in_setup}
use Rattle.line_rules.specs.Steps.{on_node, on_meter, psk_of, identity, on_flight, hearing_step, hearing_outcome, note_by, restarts, tick}
use Rattle.line_rules.specs.Steps.{step}
use Rattle.line_rules.specs.Worlds.{World, Flight, Trace, node_at, flight_at}
use Rattle.line_rules.proofs.LogSteps.{logged_at}
use Rattle.line_laws.specs.FurtherLines.{LogFits}
use Rattle.line_laws.specs.Lines.{FlightFits, NodeOk, WorldOk}
use Rattle.line_laws.specs.Owed.{AreOctets, KeepsRanges}
use Rattle.line_laws.proofs.Answered.{acts_answered}
use Rattle.line_laws.proofs.CoordinatorCalls.{accept_failed, accept_ok, accepted_routes}
use Rattle.line_laws.proofs.FurtherForms.{AnyUnits, IsFurther, Goes, Rests, further_ok}
use Rattle.line_laws.proofs.Nodes.{DidOk, acts_ok, ring_readable}
use Rattle.node_rules.proofs.FailedWrites.{clean}
use Rattle.node_rules.specs.Laws.{IsCutOff, IsWhole}
use Rattle.line_laws.proofs.StoreMarks.{accept_is}
use Rattle.line_laws.proofs.Worlds.{at_place, counts_ok, ok_after, within as place_within}
use Rattle.pan_discovery.specs.declared.message.Discovery.{Discovery}
use Rattle.pan_discovery.specs.declared.message.Discovery.TheVariants as requests
use Rattle.node_rules.specs.Drafts.{UnsealedUnit}
use Rattle.line_rules.specs.Further.{has_discovered, scanning}
use Rattle.line_rules.specs.Answers.{discovery_word, scan_word}
use Rattle.line_rules.specs.Further.{beacon_taken}
use Rattle.pan_discovery.specs.Reader.{discovery_in}
use Rattle.std.proofs.lemmas.Option.{same_Some}
use Rattle.pan_discovery.specs.History.{Scanned, begun}
use Rattle.reach_rules.specs.Beacons.{stays as stays_scan}
use Rattle.reach_rules.specs.declared.refusal.ScanRefusal.{ScanRefusal}
use Rattle.reach_rules.specs.declared.refusal.ScanRefusal.TheVariants as scan_faults
use Rattle.line_rules.specs.Forgery.{Comes, OfFlight, OfScript, accepting}
use Rattle.line_rules.specs.Worlds.{Noticed, nothing_further}
use Rattle.std.proofs.lemmas.List.{append-nil}
use Rattle.std.proofs.lemmas.Bool.{eqb-false}
use Rattle.line_laws.specs.Later.{flown as flown_world}
use Rattle.line_laws.proofs.StepKinds.{IsStep, step_is}
use Rattle.line_laws.proofs.StepKinds.{Fails as OldFails}
use Rattle.line_laws.proofs.FlightFolds.{came_octets}
use Rattle.line_laws.proofs.StepsOk.{StepGood, Taken, tick_good}
use Rattle.line_laws.proofs.NodesOk.{restarts_ok, true_false}
use Rattle.line_laws.proofs.StepsOk.{ran_ok as steps_ran_ok}
use Rattle.line_laws.proofs.FurtherLines.{flown_ok}
use Rattle.line_laws.proofs.MarkSteps.{Follows, FollowsIn, follows, marks_rise, of_did, same_follows, after_follows, after_nodes}
use Rattle.line_laws.specs.FurtherLines.{LineStepsRise, RisesIn}
use Rattle.line_laws.proofs.FurtherSteps.{acts_down, choice_ok, did_on, heard_ok, hears_down, rests_ok, logs_fit, restarts_read}
use Rattle.line_laws.proofs.FurtherForms.{ask_is, broadcast_is, command_is}
use Rattle.line_laws.proofs.FurtherSteps.{ack_is}
use Rattle.line_laws.proofs.FlightFolds.{AllOf, every_flight, after_all, lost_spelled}
use Rattle.line_laws.proofs.HeadsSaid.{spelled_well}
use Rattle.line_laws.proofs.LaterMoves.{discovery_nonce}
use Rattle.line_laws.specs.FurtherLines.{BeaconsAreSpelled, FlightsSpelled}
use Rattle.pan_discovery.specs.Messages.{IsDiscovery}
use Rattle.node_rules.specs.Frames.{Sent, spelled}
use Rattle.line_rules.specs.Further.{discovery_flight}
use Rattle.line_rules.specs.Nonces.{IsSpelled}
use Rattle.line_rules.specs.Steps.{flight_by, accepted_by, arrives, deliver, inject, restart}

-- # Moves

-- What follows on what nodes without further reach do: a node stores records of its log and seals one command, a frame of discovery flies, or
-- something else stands beside the memories. U is what is known of what is sealed, and D
-- of what flies so.
pub data Moves (U : List UnsealedUnit → Type 0) (D : Discovery → Type 0) (ciphers : Ciphers) : World → World → Type 1 where
  Stays : (w : World) → Moves U D ciphers w w
  Carries : (w : World) (number : ℕ) (x : Node) (A : Type 0) (halted : A) (does : Memory → Plan Memory A) → node_at w number ≡ Some x
      → ((m : Memory) → x.memory ≡ Some m → IsFurther U m (does m))
      → Moves U D ciphers w (world_after ciphers w number (acts x halted does))
  Flies : (w : World) (number : ℕ) (x : Node) (frame : Discovery) → node_at w number ≡ Some x → D frame → Moves U D ciphers w (flown_world number frame w)
  Besides : (w : World) (on : Bool) (bs : List Beside) → Moves U D ciphers w (record w { checks_on = on; beside = bs })
  Turns : (w v u : World) → Moves U D ciphers w v → Moves U D ciphers v u → Moves U D ciphers w u

-- Nothing of it is forged, handed up, sent, issued or joined, and no pair tag is made or checked.
pub record IsSilent (t : Trace) : Type 0 where
  pub forged : t.happenings.forged ≡ false
  pub up : t.happenings.up ≡ None
  pub sent : t.sent ≡ None
  pub issued : t.issued ≡ []
  pub taken : t.taken ≡ None
  pub done : t.done ≡ None
  pub made : t.made ≡ []
  pub opened : t.opened ≡ []

-- The one event is reported as the other, but for its answer, its flights and what is reported of further reach.
pub record SaysTheSame (s t : Trace) : Type 0 where
  pub forged : t.happenings.forged ≡ s.happenings.forged
  pub up : t.happenings.up ≡ s.happenings.up
  pub sent : t.sent ≡ s.sent
  pub issued : t.issued ≡ s.issued
  pub taken : t.taken ≡ s.taken
  pub done : t.done ≡ s.done
  pub made : t.made ≡ s.made
  pub opened : t.opened ≡ s.opened

-- # Events

-- Old is what is known of an event as it is without further reach
pub data IsLineStepBy (Old : Event → Step → Type 1) (U : List UnsealedUnit → Type 0) (D : Discovery → Type 0) (ciphers : Ciphers) (w : World) : Event → Step
    → Type 1 where
  -- as without further reach
  Known : (event : Event) (s : Step) → Old event s → IsLineStepBy Old U D ciphers w event s
  -- neighbours are checked from now on
  Opens : takes_setup w ≡ true → IsLineStepBy Old U D ciphers w events.Checks (Ok (record (set_up w) { checks_on = true }, trace_of (happenings w answers.Set)))
  -- moves alone
  Anew : (event : Event) (v : World) (t : Trace) → Moves U D ciphers (running_world w) v → IsSilent t → IsLineStepBy Old U D ciphers w event (Ok (v, t))
  -- as without further reach, and then moves
  After : (event : Event) (r : World × Trace) (v : World) (t : Trace) → Old event (Ok r) → WorldOk r.0 → r.0.running ≡ true → Moves U D ciphers r.0 v
      → SaysTheSame r.1 t → IsLineStepBy Old U D ciphers w event (Ok (v, t))
  -- the same, and it is not sent after all
  Unsends : (event : Event) (r : World × Trace) (v : World) (t : Trace) → Old event (Ok r) → WorldOk r.0 → r.0.running ≡ true → Moves U D ciphers r.0 v
      → SaysTheSame r.1 t → IsLineStepBy Old U D ciphers w event (Ok (sends_nothing w (v, t)))
  -- a request of a listed neighbour is dropped once it is accepted
  Unbelieves : (event : Event) (number : ℕ) (x : Node) (octets : List ℕ) (got : Accepted) → node_at w number ≡ Some x → IsEvent event
      → Comes w event number octets → (accepting ciphers x octets).answer ≡ Ok got
      → IsLineStepBy Old U D ciphers w event (Ok (unbelieved ciphers w number (accepting ciphers x octets).node octets got))
  -- a meter joins by an agent that it heard
  Chooses : (number k : ℕ) (x : Node) (psk : Key) → number ≢ 0 → node_at w number ≡ Some x → psk_of x ≡ Some psk
      → IsLineStepBy Old U D ciphers w (events.Choose number k) (Ok (chooses_by ciphers w number x k (Some psk)))

-- that it is such an event
abbrev pub IsLineStep : (List UnsealedUnit → Type 0) → (Discovery → Type 0) → Ciphers → World → Event → Step → Type 1
IsLineStep U D ciphers w event s = IsLineStepBy (IsStep ciphers w) U D ciphers w event s

-- What is known of what the nodes of a world seal by further rules.
pub record Speaks (U : List UnsealedUnit → Type 0) (D : Discovery → Type 0) (ciphers : Ciphers) (w : World) : Type 0 where
  pub broadcasts : (number : ℕ) (x : Node) (m : Memory) (datagram : List ℕ) → IsLineOctets datagram → node_at w number ≡ Some x → x.memory ≡ Some m
      → IsFurther U m (with_beside (beside_at w number) (λ y. broadcast in_memory y datagram) m)
  pub asks : (number : ℕ) (x : Node) (m : Memory) (target : ℕ) → node_at w number ≡ Some x → x.memory ≡ Some m
      → IsFurther U m (with_beside (beside_at w number) (λ y. ask_path in_memory y target) m)
  -- of discovery
  pub scans : D (requests.Request 0)
  pub beacons : (number : ℕ) (x : Node) (m : Memory) (octets : List ℕ) (link : ℕ) (frame : Discovery) → node_at w number ≡ Some x → x.memory ≡ Some m
      → (hear_discovery x.role m.station (beside_at w number).scan octets link).sent ≡ Some frame → D frame
  -- of a command that it accepted, and of the acknowledgement of a reply
  pub commands : (event : Event) (number : ℕ) (x : Node) (octets : List ℕ) (got : Accepted) (cost : ℕ) (c : NeighbourCommand) (m : Memory) → IsEvent event
      → Comes w event number octets → node_at w number ≡ Some x → (accepting ciphers x octets).answer ≡ Ok got → command_of got ≡ Some c
      → (hearing_step ciphers (accepting ciphers x octets).node got cost (note_by w octets got.path) w.clock).node.memory ≡ Some m
      → IsFurther U m (with_beside (beside_at w number) (λ y. hear_neighbours in_memory y c) m)
  pub acknowledges : (event : Event) (number : ℕ) (x : Node) (octets : List ℕ) (got : Accepted) (cost : ℕ) (reply : Reply) (m : Memory) → IsEvent event
      → Comes w event number octets → node_at w number ≡ Some x → (accepting ciphers x octets).answer ≡ Ok got
      → due got.path (message_of got) (hearing_step ciphers (accepting ciphers x octets).node got cost (note_by w octets got.path) w.clock).answer.answer
      ≡ Some reply
      → (hearing_step ciphers (accepting ciphers x octets).node got cost (note_by w octets got.path) w.clock).node.memory ≡ Some m
      → IsFurther U m (acknowledges in_memory reply.to reply.number reply.origin m)

-- what a node does by such plans makes and checks no pair tag
module _ (U : List UnsealedUnit → Type 0) {A : Type 0} (x : Node) (halted : A) (does : Memory → Plan Memory A) where
  plan_makes_none : (m : Memory) (p : Plan Memory A) → IsFurther U m p → (p.made ≡ []) × (p.opened ≡ [])
  unfolding resting
  plan_makes_none m p (Rests answer failed) = (refl, refl)
  plan_makes_none m p (Goes answer failed ps us logs says few left) = (refl, refl)

  pub makes_none : ((m : Memory) → x.memory ≡ Some m → IsFurther U m (does m)) → ((acts x halted does).made ≡ []) × ((acts x halted does).opened ≡ [])
  unfolding acts
  makes_none is = by_memory x.memory refl
    where
      by_outcome : (m : Memory) → IsFurther U m (does m)
          → ((carry_out x.store.records x.store.cut (does m)).made ≡ []) × ((carry_out x.store.records x.store.cut (does m)).opened ≡ [])
      by_outcome m f = let n = plan_makes_none m (does m) f in
          ⊎_elim (λ (w : IsWhole x.store.records x.store.cut (does m) (carry_out x.store.records x.store.cut (does m))). (w.made ∙ n.0, w.opened ∙ n.1))
          (λ (c : IsCutOff x.store.records x.store.cut (does m) (carry_out x.store.records x.store.cut (does m))). (c.made, c.opened ∙ n.1))
          (clean x.store.records x.store.cut (does m))

      by_memory : (o : Option Memory) → x.memory ≡ o
          → ((option_map_or (λ m. left_by x (carry_out x.store.records x.store.cut (does m))) o (stays x halted)).made ≡ [])
          × ((option_map_or (λ m. left_by x (carry_out x.store.records x.store.cut (does m))) o (stays x halted)).opened ≡ [])
      by_memory None e = (refl, refl)
      by_memory (Some m) e = by_outcome m (is m e)

same_said_of : (s t : Trace) → t.happenings.forged ≡ s.happenings.forged → t.happenings.up ≡ s.happenings.up → t.sent ≡ s.sent → t.issued ≡ s.issued
    → t.taken ≡ s.taken
    → t.done ≡ s.done → t.made ≡ s.made → t.opened ≡ s.opened → SaysTheSame s t
same_said_of s t a b c d e f g h = record { forged = a; up = b; sent = c; issued = d; taken = e; done = f; made = g; opened = h }

module _ (U : List UnsealedUnit → Type 0) (D : Discovery → Type 0) (ciphers : Ciphers) (fits : KeepsRanges ciphers) (w : World) (ok : WorldOk w)
    (flown_are : All FlightFits w.flights) (logs : LogsKept w) (speaks : Speaks U D ciphers w)
    (Old : Event → Step → Type 1) (fails : (event : Event) (fault : StepFault) → Old event (Err fault)) (old : (event : Event) → IsEvent event
    → Old event (step ciphers w event)) where
  abbrev Is : Event → Step → Type 1
  Is event s = IsLineStepBy Old U D ciphers w event s

  failed : (event : Event) (fault : StepFault) → Is event (Err fault)
  failed event fault = Known event (Err fault) (fails event fault)

  branch : (event : Event) (b : Bool) (p q : Step) → (b ≡ true → Is event p) → (b ≡ false → Is event q) → Is event (if b then p else q)
  branch event true p q s t = s refl
  branch event false p q s t = t refl

  by_option : {X : Type 0} (event : Event) (f : X → Step) (x : Option X) (p : Step) → ((y : X) → x ≡ Some y → Is event (f y)) → Is event p
      → Is event (option_map_or f x p)
  by_option event f None p s t = t
  by_option event f (Some y) p s t = s y refl

  once : (event : Event) (s : Step) → Is event s → Is event (once_begun w s)
  once event s h = branch event (has_begun w) s (Err faults.Setup) (λ _. h) (λ _. failed event faults.Setup)

  setup : (event : Event) (s : Step) → (takes_setup w ≡ true → Is event s) → Is event (in_setup w s)
  setup event s h = branch event (takes_setup w) s (Err faults.Setup) h (λ _. failed event faults.Setup)

  at_node : (event : Event) (number : ℕ) (f : Node → Step) → ((x : Node) → node_at w number ≡ Some x → Is event (f x)) → Is event (on_node w number f)
  at_node event number f h = by_option event f (node_at w number) (Err faults.Node) h (failed event faults.Node)

  at_meter : (event : Event) (number : ℕ) (f : Node → Step) → (number ≢ 0 → (x : Node) → node_at w number ≡ Some x → Is event (f x))
      → Is event (on_meter w number f)
  at_meter event number f h =
      branch event (number == 0) (Err faults.Node) (on_node w number f) (λ _. failed event faults.Node) (λ e. at_node event number f (h (eqb-false _ _ e)))

  at_flight : (event : Event) (number : ℕ) (f : Flight → Step) → ((x : Flight) → flight_at w number ≡ Some x → Is event (f x)) → Is event (on_flight w number f)
  at_flight event number f h = by_option event (λ x. if x.lost then Err faults.Flight else f x) (flight_at w number) (Err faults.Flight)
      (λ x e. branch event x.lost (Err faults.Flight) (f x) (λ _. failed event faults.Flight) (λ _. h x e)) (failed event faults.Flight)

  -- nothing is done
  rests : (event : Event) (t : Trace) → IsSilent t → Is event (Ok (running_world w, t))
  rests event t s = Anew event (running_world w) t (Stays (running_world w)) s

  silent : (answer : Answer) → IsSilent (trace_of (happenings w answer))
  silent answer = record { forged = refl; up = refl; sent = refl; issued = refl; taken = refl; done = refl; made = refl; opened = refl }

  checks_step : Is events.Checks (checks w)
  unfolding checks
  checks_step = setup _ _ (λ begun. branch _ w.checks_on _ _ (λ _. failed _ faults.Setup) (λ _. Opens begun))

  bcast_step : (number : ℕ) (datagram : List ℕ) → IsLineOctets datagram → Is (events.Bcast number datagram) (bcast ciphers w number datagram)
  unfolding bcast
  bcast_step number datagram are = once _ _ (at_node _ number _ (λ x there.
      let is = λ (m : Memory) (e : x.memory ≡ Some m). speaks.broadcasts number x m datagram are there e in
      let n = makes_none U x (Err broadcasts.Halted) (with_beside (beside_at w number) (λ y. broadcast in_memory y datagram)) is in
      let v : World = world_after ciphers (running_world w) number
      (reaches x (beside_at w number) (Err broadcasts.Halted) (λ y. broadcast in_memory y datagram)) in
      Anew _ (broadcasts_by ciphers w number x datagram).0 (broadcasts_by ciphers w number x datagram).1
      (Turns (running_world w) v _ (Carries (running_world w) number x _ (Err broadcasts.Halted)
      (with_beside (beside_at w number) (λ y. broadcast in_memory y datagram)) there is)
      (Besides v v.checks_on (broadcasts_by ciphers w number x datagram).0.beside))
      (record { forged = refl; up = refl; sent = refl; issued = refl; taken = refl; done = refl; made = n.0; opened = n.1 })))

  asks_step : (from to : ℕ) (x : Node) → node_at w from ≡ Some x → (target : Option ℕ) → Is (events.Path from to) (Ok (asks_by ciphers w from x target))
  asks_step from to x there None = rests _ _ (silent answers.NoAddress)
  asks_step from to x there (Some target) =
      let is = λ (m : Memory) (e : x.memory ≡ Some m). speaks.asks from x m target there e in
      let n = makes_none U x (Err asks.Halted) (with_beside (beside_at w from) (λ y. ask_path in_memory y target)) is in
      let v : World = world_after ciphers (running_world w) from (reaches x (beside_at w from) (Err asks.Halted) (λ y. ask_path in_memory y target)) in
      Anew _ (asks_by ciphers w from x (Some target)).0 (asks_by ciphers w from x (Some target)).1
      (Turns (running_world w) v _ (Carries (running_world w) from x _ (Err asks.Halted) (with_beside (beside_at w from) (λ y. ask_path in_memory y target))
      there is)
      (Besides v v.checks_on (asks_by ciphers w from x (Some target)).0.beside))
      (record { forged = refl; up = refl; sent = refl; issued = refl; taken = refl; done = refl; made = n.0; opened = n.1 })

  path_step : (from to : ℕ) → Is (events.Path from to) (path ciphers w from to)
  unfolding path
  path_step from to = once _ _ (at_node _ from _ (λ x there. at_node _ to _ (λ y other. asks_step from to x there (node_address y))))

  discovered_step : {A : Type 0} (event : Event) (number : ℕ) (x : Node) → node_at w number ≡ Some x
      → (word : A → Answer) (noticed : A → Option Noticed) (d : Discovering A) → ((frame : Discovery) → d.sent ≡ Some frame → D frame)
      → Is event (Ok (has_discovered w number word noticed d))
  discovered_step event number x there word noticed d known = by_sent d.sent known (has_discovered w number word noticed d).0.beside
      (record (trace_of (record (happenings w (word d.answer)) { flights = length (discovery_flights number d.sent) }))
      { further = record nothing_further { noticed = noticed d.answer } })
      (record { forged = refl; up = refl; sent = refl; issued = refl; taken = refl; done = refl; made = refl; opened = refl })
    where
      by_sent : (o : Option Discovery) → ((frame : Discovery) → o ≡ Some frame → D frame) → (bs : List Beside) (t : Trace) → IsSilent t
          → Is event (Ok (record (running_world w) { flights = w.flights ++ discovery_flights number o; beside = bs }, t))
      by_sent None known bs t s = subst (λ fs. Is event (Ok (record (running_world w) { flights = fs; beside = bs }, t))) (sym (append-nil w.flights))
          (Anew event (record (running_world w) { beside = bs }) t (Besides (running_world w) w.checks_on bs) s)
      by_sent (Some frame) known bs t s = Anew event (record (running_world w) { flights = w.flights ++ discovery_flights number (Some frame); beside = bs }) t
          (Turns (running_world w) (flown_world number frame (running_world w)) _ (Flies (running_world w) number x frame there (known frame refl))
          (Besides (flown_world number frame (running_world w)) w.checks_on bs)) s

  request_known : (m : Memory) (frame : Discovery) (scan : Scanned) → (begin_scan m scan).sent ≡ Some frame → D frame
  request_known m frame scan e = by_joined (meters.is_joined m) scan e
    where
      by_joined : (b : Bool) (scan : Scanned)
          → (if b then stays_scan {A = Result (Unit {0}) ScanRefusal} scan (Err scan_faults.AlreadyJoined)
          else record { answer = Ok (tt {0}); scan = begun; sent = Some (requests.Request 0) }).sent ≡ Some frame → D frame
      by_joined true scan is = absurd (cc (is))
      by_joined false scan is = subst D (same_Some _ _ is) speaks.scans

  scans_step : (number : ℕ) (x : Node) → node_at w number ≡ Some x → (o : Option Memory) → Is (events.Scan number) (Ok (scans_by w number o))
  scans_step number x there None = rests _ _ (silent answers.Halted)
  scans_step number x there (Some m) = discovered_step _ number x there scan_word (scanning number) (begin_scan m (beside_at w number).scan)
      (λ frame e. request_known m frame (beside_at w number).scan e)

  scan_step : (number : ℕ) → Is (events.Scan number) (scan w number)
  unfolding scan
  scan_step number = once _ _ (at_meter _ number _ (λ ne x there. scans_step number x there x.memory))

  chooses_step : (number k : ℕ) (x : Node) → number ≢ 0 → node_at w number ≡ Some x → (psk : Option Key) → psk_of x ≡ psk
      → Is (events.Choose number k) (Ok (chooses_by ciphers w number x k psk))
  chooses_step number k x ne there None e = rests _ _ (silent answers.NoBeacon)
  chooses_step number k x ne there (Some psk) e = Chooses number k x psk ne there e

  choose_step : (number k : ℕ) → Is (events.Choose number k) (choose ciphers w number k)
  unfolding choose
  choose_step number k = once _ _ (at_meter _ number _ (λ ne x there. chooses_step number k x ne there (psk_of x) refl))

  ticks_step : (seconds : ℕ) → IsEvent (events.Tick seconds) → Is (events.Tick seconds) (ticks w seconds)
  unfolding ticks tick
  ticks_step seconds says = by_start (has_begun w) (tick_good ciphers fits w ok flown_are seconds) (old (events.Tick seconds) says)
    where
      r : World × Trace
      r = (record (running_world w) { clock = w.clock + seconds; nodes = map (ticked (w.clock + seconds)) w.nodes }, trace_of (happenings w answers.Ticked))

      as_before : Bool → Step
      as_before b = if b then Ok (
        record (running_world w) { clock = w.clock + seconds; nodes = map (ticked (w.clock + seconds)) w.nodes },
        trace_of (happenings w answers.Ticked),
      ) else Err faults.Setup

      taken : (r : World × Trace) → StepGood w (Ok r) → WorldOk r.0
      taken r (Taken q good few world_after) = good

      by_start : (b : Bool) → StepGood w (as_before b) → Old (events.Tick seconds) (as_before b)
          → Is (events.Tick seconds) (after_ok (λ r. (record r.0 { beside = map (tick_beside (w.clock + seconds)) w.beside }, r.1)) (as_before b))
      by_start false g known = failed _ faults.Setup
      by_start true g known =
          After _ r (record r.0 { beside = map (tick_beside (w.clock + seconds)) w.beside }) r.1 known (taken r g) refl
          (Besides r.0 w.checks_on (map (tick_beside (w.clock + seconds)) w.beside)) (same_said_of r.1 r.1 refl refl refl refl refl refl refl refl)

  restarts_step : (number : ℕ) (x : Node) → node_at w number ≡ Some x → Old (events.Restart number) (Ok (node_outcome ciphers w number (restarts x)))
      → (o : Result Beside BadStore) → restarted x.store.records ≡ o
      → Is (events.Restart number) (Ok (restarts_by ciphers w number x o))
  unfolding world_after
  restarts_step number x there known (Err bad) e = absurd (restarts_read ciphers w logs number x there bad e)
  restarts_step number x there known (Ok b) e =
      let r : World × Trace = node_outcome ciphers w number (restarts x) in
      After _ r (restarts_by ciphers w number x (Ok b)).0 r.1 known
      (ok_after ciphers fits (running_world w) number x (restarts x) (steps_ran_ok ciphers fits w ok flown_are) there
      (restarts_ok x (at_place NodeOk w.nodes number x there ok.nodes)) (λ e. absurd (true_false e))) refl
      (Besides r.0 r.0.checks_on (restarts_by ciphers w number x (Ok b)).0.beside) (same_said_of r.1 r.1 refl refl refl refl refl refl refl refl)

  restart_step : (number : ℕ) → IsEvent (events.Restart number) → Is (events.Restart number) (restarts_further ciphers w number)
  unfolding restarts_further restart
  restart_step number says = by_node (has_begun w) (node_at w number) refl (old (events.Restart number) says)
    where
      by_node : (b : Bool) (o : Option Node) → node_at w number ≡ o
          → Old (events.Restart number) (if b then option_map_or (λ x. Ok (node_outcome ciphers w number (restarts x))) o (Err faults.Node)
          else Err faults.Setup)
          → Is (events.Restart number) (if b then option_map_or (λ x. Ok (restarts_by ciphers w number x (restarted x.store.records))) o (Err faults.Node) else
          Err faults.Setup)
      by_node false o e known = failed _ faults.Setup
      by_node true None e known = failed _ faults.Node
      by_node true (Some x) e known = restarts_step number x e known (restarted x.store.records) refl

  -- # Octets that come

  module _ (event : Event) (number : ℕ) (x : Node) (octets : List ℕ) (cost : ℕ) (got : Accepted) (there : node_at w number ≡ Some x) (says : IsEvent event)
      (outcome_of_arrival : Comes w event number octets) (low : cost ≤ 255) (is : (accepting ciphers x octets).answer ≡ Ok got)
      (good : WorldOk (hearing_outcome ciphers w number (accepting ciphers x octets).node octets got cost).0)
      (before : Old event (Ok (hearing_outcome ciphers w number (accepting ciphers x octets).node octets got cost))) where
    abbrev y : Node
    y = (accepting ciphers x octets).node

    abbrev d : NodeStep Reception
    d = hearing_step ciphers y got cost (note_by w octets got.path) w.clock

    abbrev r : World × Trace
    r = hearing_outcome ciphers w number y octets got cost

    now_there : node_at r.0 number ≡ Some d.node
    unfolding world_after
    now_there = slice_get-set w.nodes number d.node (place_within w.nodes number x there)

    goes_on : r.0.running ≡ true
    unfolding world_after
    goes_on = refl

    commanded_step : (c : NeighbourCommand) → command_of got ≡ Some c → Is event (Ok (commanded ciphers number d.node c r))
    unfolding world_after
    commanded_step c e =
        let v : World = world_after ciphers r.0 number
        (reaches d.node (beside_at r.0 number) (Err (reach_drops.Known drops.Store)) (λ z. hear_neighbours in_memory z c)) in
        After event r (commanded ciphers number d.node c r).0 (commanded ciphers number d.node c r).1 before good goes_on
        (Turns r.0 v _ (Carries r.0 number d.node _ (Err (reach_drops.Known drops.Store))
        (with_beside (beside_at r.0 number) (λ z. hear_neighbours in_memory z c)) now_there
        (λ m here. speaks.commands event number x octets got cost c m says outcome_of_arrival there is e here))
        (Besides v v.checks_on (commanded ciphers number d.node c r).0.beside))
        (same_said_of r.1 (commanded ciphers number d.node c r).1 refl refl refl refl refl refl refl refl)

    abbrev with_it : World × Trace
    with_it = with_check w number (reply_among d.frames) r

    with_moves : Moves U D ciphers r.0 with_it.0
    with_moves = Besides r.0 r.0.checks_on with_it.0.beside

    acknowledged_step : (reply : Reply) → due got.path (message_of got) d.answer.answer ≡ Some reply
        → Is event (Ok (acknowledged ciphers w number (acknowledging d.node reply) with_it))
    acknowledged_step reply owed = by_memory (is_some a.node.memory)
      where
        a : NodeStep (Result (Unit {0}) LocalRefusal)
        a = acknowledging d.node reply

        v : World
        v = world_after ciphers with_it.0 number a

        moves : Moves U D ciphers r.0 v
        moves = Turns r.0 with_it.0 v with_moves (Carries with_it.0 number d.node _ (Err locals.Store)
            (λ m. acknowledges in_memory reply.to reply.number reply.origin m) now_there (λ m here. speaks.acknowledges event number x octets got cost reply m
            says outcome_of_arrival there is owed here))

        by_memory : (t : Bool) → Is event (Ok (if t then adds_frames v with_it.1 a else sends_nothing w (v, with_it.1)))
        by_memory true = After event r v (adds_frames v with_it.1 a).1 before good goes_on moves
            (same_said_of r.1 (adds_frames v with_it.1 a).1 refl refl refl refl refl refl refl refl)
        by_memory false = Unsends event r v with_it.1 before good goes_on moves (same_said_of r.1 with_it.1 refl refl refl refl refl refl refl refl)

    checked_step : Is event (Ok (checked ciphers w number got d r))
    checked_step = by_due (due got.path (message_of got) d.answer.answer) refl
      where
        by_due : (o : Option Reply) → due got.path (message_of got) d.answer.answer ≡ o → Is event (Ok (acknowledged_if ciphers w number d.node o with_it))
        by_due None e = After event r with_it.0 with_it.1 before good goes_on with_moves (same_said_of r.1 with_it.1 refl refl refl refl refl refl refl refl)
        by_due (Some reply) e = acknowledged_step reply e

    heard_by_step : (o : Option NeighbourCommand) → command_of got ≡ o → Is event (Ok (hearing_outcome_by ciphers w number y octets got cost o))
    heard_by_step None e = by_checks w.checks_on
      where
        by_checks : (b : Bool) → Is event (Ok (if b then checked ciphers w number got d r else r))
        by_checks true = checked_step
        by_checks false = Known event (Ok r) before
    heard_by_step (Some c) e = commanded_step c e

    further_step : Is event (Ok (further_hearing_outcome ciphers w number y octets got cost))
    further_step = by_dropped (is_dropped w number got)
      where
        by_dropped : (b : Bool) → Is event
            (Ok (if b then unbelieved ciphers w number y octets got else hearing_outcome_by ciphers w number y octets got cost (command_of got)))
        by_dropped true = Unbelieves event number x octets got there says outcome_of_arrival is
        by_dropped false = heard_by_step (command_of got) refl

  discovers_step : (event : Event) (number : ℕ) (x : Node) → node_at w number ≡ Some x → (octets : List ℕ) (link : ℕ) (o : Option Memory) → x.memory ≡ o
      → Is event (Ok (discovers_by w number x octets link o))
  discovers_step event number x there octets link None here = rests _ _ (silent answers.Halted)
  discovers_step event number x there octets link (Some m) here = discovered_step event number x there discovery_word
      (beacon_taken number (discovery_in octets) link) (hear_discovery x.role m.station (beside_at w number).scan octets link)
      (λ frame e. speaks.beacons number x m octets link frame there here e)

  comes_step : (event : Event) (number : ℕ) (x : Node) (octets : List ℕ) (cost : ℕ) → node_at w number ≡ Some x → IsEvent event → Comes w event number octets
      → cost ≤ 255 → Old event (Ok (arrives ciphers w number x octets cost)) → Is event (Ok (comes ciphers w number x octets cost))
  unfolding comes acts arrives
  comes_step event number x octets cost there says outcome_of_arrival low known = by_kind (is_discovery octets)
    where
      heard_world : (got : Accepted) → (accepting ciphers x octets).answer ≡ Ok got
          → WorldOk (hearing_outcome ciphers w number (accepting ciphers x octets).node octets got cost).0
      heard_world got e =
          let are : AreOctets octets = came_octets ciphers fits w ok flown_are event number octets says outcome_of_arrival in
          let plan : Memory → Plan Memory (Result Accepted FrameRefusal) = λ m. of_station m (accept m.station x.eui (arrived ciphers octets)) in
          let did = acts_ok x (Err frames.Halted) plan (at_place NodeOk w.nodes number x there ok.nodes)
          (λ m here kept sized. accept_ok ciphers fits octets are x.role m x.eui sized) in
          let a = acts_answered x frames.Halted frames.Store plan
          (λ m. accept_failed ciphers fits octets are m.station _ (accept_is m.station x.eui (arrived ciphers octets))) got e in
          let routes = accepted_routes ciphers fits octets are a.memory.station
          (ring_readable x a.memory (at_place NodeOk w.nodes number x there ok.nodes) a.there) _ got (accept_is a.memory.station x.eui (arrived ciphers octets))
          a.is in
          heard_ok ciphers fits w ok flown_are logs number x (accepting ciphers x octets).node there (accepting ciphers x octets) refl did
          (λ m here. acts_down x (Err frames.Halted) plan m here) octets got cost routes

      d : NodeStep (Result Accepted FrameRefusal)
      d = accepting ciphers x octets

      by_answer : (o : Result Accepted FrameRefusal) → (accepting ciphers x octets).answer ≡ o
          → Old event (Ok (accepted_by ciphers w number octets cost (record d { answer = o })))
          → Is event (Ok (accepted_further ciphers w number octets cost (record d { answer = o })))
      by_answer (Err reason) e it = Known event _ it
      by_answer (Ok got) e it = further_step event number x octets cost got there says outcome_of_arrival low e (heard_world got e) it

      by_kind : (b : Bool) → Is event
          (Ok (if b then discovers_by w number x octets cost x.memory else accepted_further ciphers w number octets cost (accepting ciphers x octets)))
      by_kind true = discovers_step event number x there octets cost x.memory refl
      by_kind false = by_answer (accepting ciphers x octets).answer refl known

  delivers_step : (flight number cost : ℕ) → IsEvent (events.Deliver flight number cost)
      → Is (events.Deliver flight number cost) (delivers ciphers w flight number cost)
  unfolding delivers deliver
  delivers_step flight number cost says = by_node (has_begun w) (node_at w number) refl (flight_at w flight) refl (old (events.Deliver flight number cost) says)
    where
      by_lost : (x : Node) (f : Flight) → node_at w number ≡ Some x → flight_at w flight ≡ Some f → (b : Bool)
          → Old (events.Deliver flight number cost) (if b then Err faults.Flight else Ok (arrives ciphers w number x f.octets cost))
          → Is (events.Deliver flight number cost) (if b then Err faults.Flight else Ok (comes ciphers w number x f.octets cost))
      by_lost x f hx hf true known = failed _ faults.Flight
      by_lost x f hx hf false known = comes_step _ number x f.octets cost hx says (OfFlight flight number cost f hf) says.2.1 known

      by_node : (b : Bool) (o : Option Node) → node_at w number ≡ o → (p : Option Flight) → flight_at w flight ≡ p
          → Old (events.Deliver flight number cost)
          (if b then option_map_or (λ x. option_map_or (λ f. if f.lost then Err faults.Flight else Ok (arrives ciphers w number x f.octets cost)) p
          (Err faults.Flight)) o (Err faults.Node) else Err faults.Setup)
          → Is (events.Deliver flight number cost) (if b then option_map_or
          (λ x. option_map_or (λ f. if f.lost then Err faults.Flight else Ok (comes ciphers w number x f.octets cost)) p (Err faults.Flight)) o
          (Err faults.Node) else Err faults.Setup)
      by_node false o ho p hp known = failed _ faults.Setup
      by_node true None ho p hp known = failed _ faults.Node
      by_node true (Some x) ho None hp known = failed _ faults.Flight
      by_node true (Some x) ho (Some f) hp known = by_lost x f ho hp f.lost known

  injects_step : (number cost : ℕ) (octets : List ℕ) → IsEvent (events.Inject number cost octets)
      → Is (events.Inject number cost octets) (injects ciphers w number cost octets)
  unfolding injects inject
  injects_step number cost octets says = by_node (has_begun w) (node_at w number) refl (old (events.Inject number cost octets) says)
    where
      by_node : (b : Bool) (o : Option Node) → node_at w number ≡ o
          → Old (events.Inject number cost octets) (if b then option_map_or (λ x. Ok (arrives ciphers w number x octets cost)) o (Err faults.Node) else Err
          faults.Setup)
          → Is (events.Inject number cost octets) (if b then option_map_or (λ x. Ok (comes ciphers w number x octets cost)) o (Err faults.Node) else Err
          faults.Setup)
      by_node false o ho known = failed _ faults.Setup
      by_node true None ho known = failed _ faults.Node
      by_node true (Some x) ho known = comes_step _ number x octets cost ho says (OfScript number cost octets) says.1.1 known

  -- every event of a line with further reach is one of them
  pub line_step_by : (event : Event) → IsEvent event → IsLineStepBy Old U D ciphers w event (line_step ciphers w event)
  line_step_by (events.Coordinator eui key) e = Known (events.Coordinator eui key) _ (old (events.Coordinator eui key) e)
  line_step_by (events.Meter eui psk) e = Known (events.Meter eui psk) _ (old (events.Meter eui psk) e)
  line_step_by (events.Depot node) e = Known (events.Depot node) _ (old (events.Depot node) e)
  line_step_by (events.Near a b cost) e = Known (events.Near a b cost) _ (old (events.Near a b cost) e)
  line_step_by (events.Counter node value) e = Known (events.Counter node value) _ (old (events.Counter node value) e)
  line_step_by (events.Number node value) e = Known (events.Number node value) _ (old (events.Number node value) e)
  line_step_by (events.Allow node) e = Known (events.Allow node) _ (old (events.Allow node) e)
  line_step_by (events.RandomOctets node value) e = Known (events.RandomOctets node value) _ (old (events.RandomOctets node value) e)
  line_step_by (events.Join node agent) e = Known (events.Join node agent) _ (old (events.Join node agent) e)
  line_step_by (events.Leave node) e = Known (events.Leave node) _ (old (events.Leave node) e)
  line_step_by (events.Send from to datagram) e = Known (events.Send from to datagram) _ (old (events.Send from to datagram) e)
  line_step_by (events.Lose flight) e = Known (events.Lose flight) _ (old (events.Lose flight) e)
  line_step_by (events.Break node next) e = Known (events.Break node next) _ (old (events.Break node next) e)
  line_step_by (events.Cut node nth keeps_new) e = Known (events.Cut node nth keeps_new) _ (old (events.Cut node nth keeps_new) e)
  line_step_by (events.Rekey index key) e = Known (events.Rekey index key) _ (old (events.Rekey index key) e)
  line_step_by (events.Challenge node) e = Known (events.Challenge node) _ (old (events.Challenge node) e)
  line_step_by (events.Activate node index) e = Known (events.Activate node index) _ (old (events.Activate node index) e)
  line_step_by (events.Kick node) e = Known (events.Kick node) _ (old (events.Kick node) e)
  line_step_by (events.Show node) e = Known (events.Show node) _ (old (events.Show node) e)
  line_step_by (events.Deliver flight node cost) e = delivers_step flight node cost e
  line_step_by (events.Inject node cost octets) e = injects_step node cost octets e
  line_step_by (events.Tick seconds) e = ticks_step seconds e
  line_step_by (events.Restart node) e = restart_step node e
  line_step_by events.Checks e = checks_step
  line_step_by (events.Bcast node datagram) e = bcast_step node datagram e.1
  line_step_by (events.Scan node) e = scan_step node
  line_step_by (events.Choose node k) e = choose_step node k
  line_step_by (events.Path from to) e = path_step from to

pub line_step_is : (U : List UnsealedUnit → Type 0) (D : Discovery → Type 0) (ciphers : Ciphers) (fits : KeepsRanges ciphers) (w : World) (ok : WorldOk w)
    (flown_are : All FlightFits w.flights) (logs : LogsKept w) (speaks : Speaks U D ciphers w)
    (event : Event) → IsEvent event → IsLineStep U D ciphers w event (line_step ciphers w event)
line_step_is U D ciphers fits w ok flown_are logs speaks event says = line_step_by U D ciphers fits w ok flown_are logs speaks (IsStep ciphers w) OldFails
    (step_is ciphers w) event says

-- # What is known of any units

-- the log of a node that has heard something fits its slots
pub fits_at : (ciphers : Ciphers) (w : World) → LogsKept w → (number : ℕ) (x : Node) (octets : List ℕ) (got : Accepted) (cost : ℕ) (m : Memory)
    → node_at w number ≡ Some x → (hearing_step ciphers (accepting ciphers x octets).node got cost (note_by w octets got.path) w.clock).node.memory ≡ Some m
    → LogFits (beside_at w number)
fits_at ciphers w logs number x octets got cost m there here = by_memory x.memory
    (from_y (accepting ciphers x octets).node.memory refl (hears_down ciphers (accepting ciphers x octets).node got cost (note_by w octets got.path) w.clock m
    (accepting ciphers x octets).node.role here)) (logged_at w.beside w.nodes number x logs there)
  where
    from_y : (o : Option Memory) → (accepting ciphers x octets).node.memory ≡ o → IsSome o → IsSome x.memory
    from_y None e s = absurd (cc (s))
    from_y (Some n) e s = acts_down x (Err frames.Halted) (λ k. of_station k (accept k.station x.eui (arrived ciphers octets))) n e

    by_memory : (o : Option Memory) → IsSome o → LogIn (beside_at w number).log x.store.records o → LogFits (beside_at w number)
    by_memory None s h = absurd (cc (s))
    by_memory (Some n) s h = logs_fit (beside_at w number) x.store.records h

pub any_speaks : (D : Discovery → Type 0) (ciphers : Ciphers) (w : World) → LogsKept w → D (requests.Request 0)
    → ((number : ℕ) (x : Node) (m : Memory) (octets : List ℕ) (link : ℕ) (frame : Discovery) → node_at w number ≡ Some x → x.memory ≡ Some m
    → (hear_discovery x.role m.station (beside_at w number).scan octets link).sent ≡ Some frame → D frame)
    → Speaks AnyUnits D ciphers w
any_speaks D ciphers w logs request beacons = record {
  broadcasts = λ number x m datagram are there here. broadcast_is AnyUnits (beside_at w number) datagram m (λ own e none. tt);
  asks = λ number x m target there here. ask_is AnyUnits (beside_at w number) target m (λ own hop e route. tt);
  scans = request;
  beacons = beacons;
  commands = λ event number x octets got cost c m says comes there is e here. command_is AnyUnits tt (beside_at w number)
      (fits_at ciphers w logs number x octets got cost m there here) m c (λ own message to next here e o. tt) (λ own d here e none. tt);
  acknowledges = λ event number x octets got cost reply m says comes there is owed here. ack_is m reply;
}

-- # What holds of each flight

module _ (U : List UnsealedUnit → Type 0) (D : Discovery → Type 0) (ciphers : Ciphers) (P : Flight → Type 0)
    (sent : (number : ℕ) (frame : Sent) → P (flight_by number (spelled ciphers frame))) (lost : (f : Flight) → P f → P (record f { lost = true }))
    (found : (number : ℕ) (frame : Discovery) → D frame → P (discovery_flight number frame)) where
  moved_all : (w v : World) → Moves U D ciphers w v → All P w.flights → All P v.flights
  moved_all w v (Stays u) all = all
  moved_all w v (Carries u number x A halted does there is) all = after_all ciphers P sent lost u number (acts x halted does) all
  moved_all w v (Flies u number x frame there known) all =
      All-append P w.flights (discovery_flight number frame ∷ []) all (All-cons P (discovery_flight number frame) [] (found number frame known) (All-nil P))
  moved_all w v (Besides u on bs) all = all
  moved_all w v (Turns u between after first rest) all = moved_all between v rest (moved_all w between first all)

  pub every_line_flight : (w : World) (event : Event) (s : Step) → IsLineStep U D ciphers w event s → All P w.flights → AllOf ciphers P sent lost s
  every_line_flight w event s (Known e t is) all = every_flight ciphers P sent lost w event s is all
  every_line_flight w event s (Opens begun) all = all
  every_line_flight w event s (Anew e v t moves silent) all = moved_all (running_world w) v moves all
  every_line_flight w event s (After e r v t is good runs moves same_words) all = moved_all r.0 v moves (every_flight ciphers P sent lost w event (Ok r) is all)
  every_line_flight w event s (Unsends e r v t is good runs moves same_words) all = all
  every_line_flight w event s (Unbelieves e number x octets got there says comes is) all =
      after_all ciphers P sent lost (running_world w) number (stays (accepting ciphers x octets).node (only answers.Blacklisted)) all
  every_line_flight w event s (Chooses number k x psk ne there e) all = after_all ciphers P sent lost (running_world w) number
      (reaches x (beside_at w number) (Err choices.Halted) (λ y. choose_agent (identity ciphers x psk) y k w.clock)) all

found_spelled : (ciphers : Ciphers) (number : ℕ) (frame : Discovery) → IsDiscovery frame → IsSpelled ciphers (discovery_flight number frame)
found_spelled ciphers number frame is = record {
  sealed = λ k e. absurd (cc (e));
  plain = λ e. (inr (record { frame = frame; spelled = (is, refl); nonce = discovery_nonce frame }), refl);
}

flights_spelled : (ciphers : Ciphers) (s : Step) → AllOf ciphers (IsSpelled ciphers) (spelled_well ciphers) (lost_spelled ciphers) s → FlightsSpelled ciphers s
flights_spelled ciphers (Ok r) h = h
flights_spelled ciphers (Err fault) h = tt

pub spelled_by : (ciphers : Ciphers) → KeepsRanges ciphers → (w : World) → WorldOk w → All FlightFits w.flights → LogsKept w → BeaconsAreSpelled w
    → All (IsSpelled ciphers) w.flights → (event : Event) → IsEvent event → FlightsSpelled ciphers (line_step ciphers w event)
spelled_by ciphers fits w ok flown logs beacons all event says =
    flights_spelled ciphers (line_step ciphers w event) (every_line_flight AnyUnits IsDiscovery ciphers (IsSpelled ciphers) (spelled_well ciphers)
    (lost_spelled ciphers) (found_spelled ciphers) w event (line_step ciphers w event)
    (line_step_is AnyUnits IsDiscovery ciphers fits w ok flown logs (any_speaks IsDiscovery ciphers w logs (omega arith) beacons) event says) all)

-- # What holds through moves

module _ (U : List UnsealedUnit → Type 0) (D : Discovery → Type 0) (ciphers : Ciphers) (fits : KeepsRanges ciphers) where
  -- what a node does by a further plan
  carried_did : {A : Type 0} (v : World) → WorldOk v → (number : ℕ) (x : Node) (halted : A) (does : Memory → Plan Memory A) → node_at v number ≡ Some x
      → ((m : Memory) → x.memory ≡ Some m → IsFurther U m (does m)) → DidOk x (acts x halted does)
  carried_did v ok number x halted does there is =
      acts_ok x halted does (at_place NodeOk v.nodes number x there ok.nodes) (λ m here kept sized. further_ok U x.role m sized (does m) (is m here))

  -- the line, which goes on running
  pub moved_ok : (v u : World) → Moves U D ciphers v u → WorldOk v → v.running ≡ true → WorldOk u × (u.running ≡ true)
  unfolding world_after
  moved_ok v u (Stays z) ok runs = (ok, runs)
  moved_ok v u (Carries z number x A halted does there is) ok runs = (
    ok_after ciphers fits v number x (acts x halted does) ok there
        (carried_did v ok number x halted does there is) (λ e. absurd (true_false (sym runs ∙ e))),
    runs,
  )
  moved_ok v u (Flies z number x frame there known) ok runs = (
    counts_ok
        (record (running_world v) { flights = v.flights ++ discovery_flight number frame ∷ []; beside = v.beside }) (flown_world number frame v)
        (flown_ok v ok number x there frame v.beside) refl refl (λ e. absurd (true_false (sym runs ∙ e))),
    runs,
  )
  moved_ok v u (Besides z on bs) ok runs = (counts_ok v (record v { checks_on = on; beside = bs }) ok refl refl (λ e. e), runs)
  moved_ok v u (Turns z between y first rest) ok runs = let m = moved_ok v between first ok runs in moved_ok between u rest m.0 m.1

  -- no mark falls
  pub moved_follows : (w v u : World) → Follows w v → Moves U D ciphers v u → WorldOk v → v.running ≡ true → Follows w u
  moved_follows w v u f (Stays z) ok runs = f
  moved_follows w v u f (Carries z number x A halted does there is) ok runs = after_follows w v (world_after ciphers v number (acts x halted does)) number x
      (acts x halted does) f there (after_nodes ciphers v number (acts x halted does))
      (of_did x (acts x halted does) (carried_did v ok number x halted does there is))
  moved_follows w v u f (Flies z number x frame there known) ok runs =
      record { at = λ n y here. let l = f.at n y here in record { node = l.node; there = l.there; role = l.role; eui = l.eui; raised = l.raised } }
  moved_follows w v u f (Besides z on bs) ok runs =
      record { at = λ n y here. let l = f.at n y here in record { node = l.node; there = l.there; role = l.role; eui = l.eui; raised = l.raised } }
  moved_follows w v u f (Turns z between y first rest) ok runs =
      let m = moved_ok v between first ok runs in moved_follows w between u (moved_follows w v between f first ok runs) rest m.0 m.1

  module _ (w : World) (ok : WorldOk w) (flown_are : All FlightFits w.flights) where
    ran_good : WorldOk (running_world w)
    ran_good = steps_ran_ok ciphers fits w ok flown_are

    -- a node that accepted octets and did nothing more
    accepted_did : (event : Event) (number : ℕ) (x : Node) (octets : List ℕ) → node_at w number ≡ Some x → IsEvent event → Comes w event number octets
        → DidOk x (accepting ciphers x octets)
    accepted_did event number x octets there says outcome_of_arrival =
        let are : AreOctets octets = came_octets ciphers fits w ok flown_are event number octets says outcome_of_arrival in
        acts_ok x (Err frames.Halted) (λ m. of_station m (accept m.station x.eui (arrived ciphers octets))) (at_place NodeOk w.nodes number x there ok.nodes)
        (λ m here kept sized. accept_ok ciphers fits octets are x.role m x.eui sized)

    pub line_follows : (event : Event) (s : Step) → IsLineStep U D ciphers w event s → FollowsIn ciphers fits w ok flown_are s
    line_follows event s (Known e t is) = follows ciphers fits w ok flown_are event s is
    line_follows event s (Opens begun) = same_follows w _ refl
    line_follows event s (Anew e v t moves silent) = moved_follows w (running_world w) v (same_follows w (running_world w) refl) moves ran_good refl
    line_follows event s (After e r v t is good runs moves same_words) =
        moved_follows w r.0 v (follows ciphers fits w ok flown_are event (Ok r) is) moves good runs
    line_follows event s (Unsends e r v t is good runs moves same_words) =
        let f = moved_follows w r.0 v (follows ciphers fits w ok flown_are event (Ok r) is) moves good runs in
        record { at = λ n y here. let l = f.at n y here in record { node = l.node; there = l.there; role = l.role; eui = l.eui; raised = l.raised } }
    line_follows event s (Unbelieves e number x octets got there says comes is) =
        let y : Node = (accepting ciphers x octets).node in
        let first = accepted_did event number x octets there says comes in
        let did : DidOk x (stays y (only answers.Blacklisted)) = did_on x (accepting ciphers x octets) (stays y (only answers.Blacklisted)) first
        (rests_ok y (only answers.Blacklisted) first.node) in
        after_follows w (running_world w) _ number x (stays y (only answers.Blacklisted)) (same_follows w (running_world w) refl) there
        (after_nodes ciphers (running_world w) number (stays y (only answers.Blacklisted))) (of_did x (stays y (only answers.Blacklisted)) did)
    line_follows event s (Chooses number k x psk ne there e) =
        let d : NodeStep (Result ChosenAgent ChooseRefusal) = reaches x (beside_at w number) (Err choices.Halted)
        (λ y. choose_agent (identity ciphers x psk) y k w.clock) in
        let did : DidOk x d = acts_ok x (Err choices.Halted) (with_beside (beside_at w number) (λ y. choose_agent (identity ciphers x psk) y k w.clock))
        (at_place NodeOk w.nodes number x there ok.nodes)
        (λ m here kept sized. choice_ok x.role m sized ciphers fits (identity ciphers x psk) refl (beside_at w number) k w.clock) in
        after_follows w (running_world w) _ number x d (same_follows w (running_world w) refl) there (after_nodes ciphers (running_world w) number d)
        (of_did x d did)

rises_in : (ciphers : Ciphers) (fits : KeepsRanges ciphers) (w : World) (ok : WorldOk w) (flown_are : All FlightFits w.flights) (s : Step)
    → FollowsIn ciphers fits w ok flown_are s → RisesIn w s
rises_in ciphers fits w ok flown_are (Ok r) f = marks_rise w r.0 f
rises_in ciphers fits w ok flown_are (Err fault) f = tt

AnyDiscovery : Discovery → Type 0
AnyDiscovery frame = Unit {0}

pub line_steps_rise : LineStepsRise
unfolding AnyDiscovery
line_steps_rise ciphers fits w ok flown_are logs event says =
    rises_in ciphers fits w ok flown_are (line_step ciphers w event)
    (line_follows AnyUnits AnyDiscovery ciphers fits w ok flown_are event (line_step ciphers w event)
    (line_step_is AnyUnits AnyDiscovery ciphers fits w ok flown_are logs
    (any_speaks AnyDiscovery ciphers w logs tt (λ number x m octets link frame there here e. tt)) event says))
