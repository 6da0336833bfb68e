-- How an event of a line with further reach is made, one case for each way, with all that is said of it.
use Rattle.std.proofs.Common.{◌≡◌, ◌≢◌, ◌⊎◌, ⊎_elim, inl, inr, ℕ, ◌+◌, ◌≤◌, Bool, true, false, not, List, length, Option, Some, None, Result, Ok, Err, refl}
use Rattle.std.proofs.Common.{sym, subst, arith}
use Rattle.std.specs.Prelude.{if◌then◌else◌, take, ◌==◌, ◌||◌, is_some, nat_lt, map}
use Rattle.std.specs.Option.{option_map_or}
use Rattle.std.proofs.lemmas.Bool.{and_parts, eqb-true, eqb-false}
use Rattle.plc_base.proofs.Faults.{then_none}
use Rattle.plc_base.specs.Faults.{◌then◌, ◌when◌, fault_at, cut_off}
use Rattle.plc_base.specs.Fields.{octet}
use Rattle.plc_base.specs.declared.fields.Fault.{Fault}
use Rattle.plc_base.specs.declared.keeper.BadStore.{BadStore}
use Rattle.plc_base.specs.declared.key.Key.{Key}
use Rattle.mac_frames.specs.declared.fault.FrameFaultKind.{FrameFaultKind}
use Rattle.mac_frames.specs.declared.fault.FrameFaultKind.TheVariants.{Short, Long, Kind}
use Rattle.mac_frames.specs.Reader.{head_in, body_in}
use Rattle.mac_frames.specs.Faults.{bits, fields_fault, frame_fault, low_fault, type_fault}
use Rattle.node_rules.specs.Accepted.{Accepted}
use Rattle.node_rules.specs.declared.heard.Reply.{Reply}
use Rattle.node_rules.specs.declared.refusal.FrameRefusal.{FrameRefusal}
use Rattle.node_rules.specs.declared.refusal.FrameRefusal.TheVariants as frames
use Rattle.node_rules.specs.Acceptance.{accept}
use Rattle.node_rules.specs.Ciphers.{Ciphers}
use Rattle.node_rules.specs.Frames.{Arrived, arrived, arrived_with}
use Rattle.node_rules.specs.Memory.{Memory, Node, node_address}
use Rattle.node_rules.specs.NodeSteps.{NodeStep, acts, of_station}
use Rattle.node_rules.specs.Plans.{Plan, resting}
use Rattle.node_rules.specs.Replies.{reply_among}
use Rattle.reach_rules.specs.Beacons.{is_discovery, frame_type}
use Rattle.reach_rules.specs.CheckedReplies.{message_of}
use Rattle.reach_rules.specs.ReachingNodes.{Beside, restarted, tick_beside}
use Rattle.reach_rules.specs.FurtherReceptions.{NeighbourCommand, command_of}
use Rattle.line_events.specs.declared.event.Event.{Event}
use Rattle.line_events.specs.declared.event.Event.TheVariants as events
use Rattle.line_events.specs.declared.event.Answer.TheVariants as answers
use Rattle.line_events.specs.declared.event.StepFault.{StepFault}
use Rattle.line_events.specs.declared.event.StepFault.TheVariants as faults
use Rattle.line_rules.specs.Answers.{Reception}
use Rattle.line_events.specs.Events.{IsEvent}
use Rattle.line_rules.specs.Forgery.{Comes, OfFlight, OfScript, accepting}
use Rattle.line_rules.specs.Further.{line_step, checks, bcast, broadcasts_by, path, asks_by, scan, scans_by, choose, chooses_by, discovers_by, commanded}
use Rattle.line_rules.specs.Further.{checked, acknowledged_if, acknowledged, acknowledging, unbelieved, hearing_outcome_by, further_hearing_outcome, is_dropped}
use Rattle.line_rules.specs.Further.{accepted_further}
use Rattle.line_rules.specs.Further.{comes, delivers, injects, ticks, after_ok, due, with_check, restarts_by, restarts_further}
use Rattle.line_rules.specs.Steps.{Step, set_up, running_world, happenings, trace_of, has_begun, takes_setup, once_begun, in_setup, on_node, on_meter}
use Rattle.line_rules.specs.Steps.{on_flight, psk_of}
use Rattle.line_rules.specs.Steps.{node_outcome, ticked, hearing_step, hearing_outcome, note_by, restarts, tick}
use Rattle.line_rules.specs.Worlds.{World, Flight, Trace, node_at, flight_at}
use Rattle.line_laws.proofs.IssueNodes.{acts_whole}
use Rattle.line_laws.proofs.TracesRight.{comes_is, is_same}
use Rattle.line_laws.proofs.StepKinds.{IsStep, IsBrought, Ticks, Restarts, TurnsDown, step_is}
use Rattle.line_laws.proofs.StepKinds.{Fails as OldFails}

-- # Octets that were accepted

-- the node that accepted them, what it then hears, and what a line without further reach makes of it
abbrev pub taker : Ciphers → Node → List ℕ → Node
taker ciphers x octets = (accepting ciphers x octets).node

abbrev pub hearing : Ciphers → World → Node → List ℕ → Accepted → ℕ → NodeStep Reception
hearing ciphers w x octets got cost = hearing_step ciphers (taker ciphers x octets) got cost (note_by w octets got.path) w.clock

abbrev pub outcome_of_command : Ciphers → World → ℕ → Node → List ℕ → Accepted → ℕ → World × Trace
outcome_of_command ciphers w number x octets got cost = hearing_outcome ciphers w number (taker ciphers x octets) octets got cost

-- and where a reply that it sent begins a check
abbrev pub checks_so : Ciphers → World → ℕ → Node → List ℕ → Accepted → ℕ → World × Trace
checks_so ciphers w number x octets got cost = with_check w number (reply_among (hearing ciphers w x octets got cost).frames)
    (outcome_of_command ciphers w number x octets got cost)

-- What is made of octets that were accepted.
pub data IsHeard (ciphers : Ciphers) (w : World) (number : ℕ) (x : Node) (octets : List ℕ) (got : Accepted) (cost : ℕ) : World × Trace → Type 0 where
  IsUnbelieved : IsHeard ciphers w number x octets got cost (unbelieved ciphers w number (taker ciphers x octets) octets got)
  IsPlain : IsHeard ciphers w number x octets got cost (outcome_of_command ciphers w number x octets got cost)
  IsCommand : (c : NeighbourCommand) → command_of got ≡ Some c
      → IsHeard ciphers w number x octets got cost
      (commanded ciphers number (hearing ciphers w x octets got cost).node c (outcome_of_command ciphers w number x octets got cost))
  IsChecked : IsHeard ciphers w number x octets got cost (checks_so ciphers w number x octets got cost)
  IsAnswered : (reply : Reply) → due got.path (message_of got) (hearing ciphers w x octets got cost).answer.answer ≡ Some reply
      → IsHeard ciphers w number x octets got cost
      (acknowledged ciphers w number (acknowledging (hearing ciphers w x octets got cost).node reply) (checks_so ciphers w number x octets got cost))

module _ (ciphers : Ciphers) (w : World) (number : ℕ) (x : Node) (octets : List ℕ) (got : Accepted) (cost : ℕ) where
  abbrev IsSo : World × Trace → Type 0
  IsSo r = IsHeard ciphers w number x octets got cost r

  abbrev y : Node
  y = taker ciphers x octets

  abbrev d : NodeStep Reception
  d = hearing ciphers w x octets got cost

  abbrev r : World × Trace
  r = outcome_of_command ciphers w number x octets got cost

  pub further_is : IsHeard ciphers w number x octets got cost (further_hearing_outcome ciphers w number (taker ciphers x octets) octets got cost)
  further_is = by_dropped (is_dropped w number got)
    where
      by_due : (o : Option Reply) → due got.path (message_of got) d.answer.answer ≡ o
          → IsSo (acknowledged_if ciphers w number d.node o (checks_so ciphers w number x octets got cost))
      by_due None e = IsChecked
      by_due (Some reply) e = IsAnswered reply e

      by_checks : (b : Bool) → IsSo (if b then checked ciphers w number got d r else r)
      by_checks true = by_due (due got.path (message_of got) d.answer.answer) refl
      by_checks false = IsPlain

      by_command : (o : Option NeighbourCommand) → command_of got ≡ o → IsSo (hearing_outcome_by ciphers w number y octets got cost o)
      by_command None e = by_checks w.checks_on
      by_command (Some c) e = IsCommand c e

      by_dropped : (b : Bool) → IsSo
          (if b then unbelieved ciphers w number y octets got else hearing_outcome_by ciphers w number y octets got cost (command_of got))
      by_dropped true = IsUnbelieved
      by_dropped false = by_command (command_of got) refl

-- # Events

pub data IsFurtherStep (ciphers : Ciphers) (w : World) : Event → Step → Type 1 where
  Old : (event : Event) (s : Step) → IsStep ciphers w event s → IsFurtherStep ciphers w event s
  TurnsOn : takes_setup w ≡ true → IsFurtherStep ciphers w events.Checks (Ok (record (set_up w) { checks_on = true }, trace_of (happenings w answers.Set)))
  Spreads : (number : ℕ) (x : Node) (datagram : List ℕ) → node_at w number ≡ Some x
      → IsFurtherStep ciphers w (events.Bcast number datagram) (Ok (broadcasts_by ciphers w number x datagram))
  Seeks : (number to : ℕ) (x : Node) (target : Option ℕ) → node_at w number ≡ Some x
      → IsFurtherStep ciphers w (events.Path number to) (Ok (asks_by ciphers w number x target))
  Looks : (number : ℕ) (x : Node) → node_at w number ≡ Some x → IsFurtherStep ciphers w (events.Scan number) (Ok (scans_by w number x.memory))
  Picks : (number k : ℕ) (x : Node) (psk : Option Key) → number ≢ 0 → node_at w number ≡ Some x → psk_of x ≡ psk
      → IsFurtherStep ciphers w (events.Choose number k) (Ok (chooses_by ciphers w number x k psk))
  -- octets of discovery come, or octets that are accepted
  Finds : (event : Event) (number : ℕ) (x : Node) (octets : List ℕ) (link : ℕ) → node_at w number ≡ Some x → IsEvent event → Comes w event number octets
      → is_discovery octets ≡ true
      → IsFurtherStep ciphers w event (Ok (discovers_by w number x octets link x.memory))
  Takes : (event : Event) (number : ℕ) (x : Node) (octets : List ℕ) (cost : ℕ) (got : Accepted) (r : World × Trace) → node_at w number ≡ Some x → IsEvent event
      → Comes w event number octets → cost ≤ 255
      → (accepting ciphers x octets).answer ≡ Ok got → IsHeard ciphers w number x octets got cost r → IsFurtherStep ciphers w event (Ok r)
  -- time and a restart: as without further reach, and something else stands beside
  Puts : (event : Event) (r : World × Trace) (bs : List Beside) → (IsBrought event → ⊥) → IsStep ciphers w event (Ok r)
      → IsFurtherStep ciphers w event (Ok (record r.0 { beside = bs }, r.1))
  -- a restart finds a record of the log that has no reading, which happens in no run
  Unread : (number : ℕ) (x : Node) (bad : BadStore) → node_at w number ≡ Some x → restarted x.store.records ≡ Err bad
      → IsFurtherStep ciphers w (events.Restart number) (Ok (restarts_by ciphers w number x (Err bad)))

module _ (ciphers : Ciphers) (w : World) where
  abbrev Is : Event → Step → Type 1
  Is event s = IsFurtherStep ciphers w event s

  failed : (event : Event) (fault : StepFault) → Is event (Err fault)
  failed event fault = Old event (Err fault) (OldFails event fault)

  branch : (event : Event) (b : Bool) (p q : Step) → (b ≡ true → Is event p) → (b ≡ false → Is event q) → Is event (if b then p else q)
  branch event true p q s t = s refl
  branch event false p q s t = t refl

  by_option : {X : Type 0} (event : Event) (f : X → Step) (x : Option X) (p : Step) → ((y : X) → x ≡ Some y → Is event (f y)) → Is event p
      → Is event (option_map_or f x p)
  by_option event f None p s t = t
  by_option event f (Some y) p s t = s y refl

  once : (event : Event) (s : Step) → Is event s → Is event (once_begun w s)
  once event s h = branch event (has_begun w) s (Err faults.Setup) (λ _. h) (λ _. failed event faults.Setup)

  setup : (event : Event) (s : Step) → (takes_setup w ≡ true → Is event s) → Is event (in_setup w s)
  setup event s h = branch event (takes_setup w) s (Err faults.Setup) h (λ _. failed event faults.Setup)

  at_node : (event : Event) (number : ℕ) (f : Node → Step) → ((x : Node) → node_at w number ≡ Some x → Is event (f x)) → Is event (on_node w number f)
  at_node event number f h = by_option event f (node_at w number) (Err faults.Node) h (failed event faults.Node)

  at_meter : (event : Event) (number : ℕ) (f : Node → Step) → (number ≢ 0 → (x : Node) → node_at w number ≡ Some x → Is event (f x))
      → Is event (on_meter w number f)
  at_meter event number f h = branch event (number == 0) (Err faults.Node) (on_node w number f) (λ _. failed event faults.Node)
      (λ e. at_node event number f (h (eqb-false _ _ e)))

  at_flight : (event : Event) (number : ℕ) (f : Flight → Step) → ((x : Flight) → flight_at w number ≡ Some x → Is event (f x)) → Is event (on_flight w number f)
  at_flight event number f h = by_option event (λ x. if x.lost then Err faults.Flight else f x) (flight_at w number) (Err faults.Flight)
      (λ x e. branch event x.lost (Err faults.Flight) (f x) (λ _. failed event faults.Flight) (λ _. h x e)) (failed event faults.Flight)

  checks_step : Is events.Checks (checks w)
  unfolding checks
  checks_step = setup _ _ (λ begun. branch _ w.checks_on _ _ (λ _. failed _ faults.Setup) (λ _. TurnsOn begun))

  bcast_step : (number : ℕ) (datagram : List ℕ) → Is (events.Bcast number datagram) (bcast ciphers w number datagram)
  unfolding bcast
  bcast_step number datagram = once _ _ (at_node _ number _ (λ x there. Spreads number x datagram there))

  path_step : (from to : ℕ) → Is (events.Path from to) (path ciphers w from to)
  unfolding path
  path_step from to = once _ _ (at_node _ from _ (λ x there. at_node _ to _ (λ z other. Seeks from to x (node_address z) there)))

  scan_step : (number : ℕ) → Is (events.Scan number) (scan w number)
  unfolding scan
  scan_step number = once _ _ (at_meter _ number _ (λ ne x there. Looks number x there))

  choose_step : (number k : ℕ) → Is (events.Choose number k) (choose ciphers w number k)
  unfolding choose
  choose_step number k = once _ _ (at_meter _ number _ (λ ne x there. Picks number k x (psk_of x) ne there refl))

  ticks_step : (seconds : ℕ) → Is (events.Tick seconds) (ticks w seconds)
  unfolding ticks tick
  ticks_step seconds = by_start (has_begun w)
    where
      by_start : (b : Bool)
          → Is (events.Tick seconds)
          (after_ok (λ r. (record r.0 { beside = map (tick_beside (w.clock + seconds)) w.beside }, r.1))
          (if b then Ok (
            record (running_world w) { clock = w.clock + seconds; nodes = map (ticked (w.clock + seconds)) w.nodes },
            trace_of
                (happenings w answers.Ticked),
          ) else Err faults.Setup))
      by_start false = failed _ faults.Setup
      by_start true = Puts _
          (record (running_world w) { clock = w.clock + seconds; nodes = map (ticked (w.clock + seconds)) w.nodes }, trace_of (happenings w answers.Ticked))
          (map (tick_beside (w.clock + seconds)) w.beside) (λ b. b) (Ticks seconds)

  restarts_step : (number : ℕ) (x : Node) → node_at w number ≡ Some x → (o : Result Beside BadStore) → restarted x.store.records ≡ o
      → Is (events.Restart number) (Ok (restarts_by ciphers w number x o))
  restarts_step number x there (Err bad) e = Unread number x bad there e
  restarts_step number x there (Ok b) e = Puts _ (node_outcome ciphers w number (restarts x)) (restarts_by ciphers w number x (Ok b)).0.beside (λ b. b)
      (Restarts number x there)

  restart_step : (number : ℕ) → Is (events.Restart number) (restarts_further ciphers w number)
  unfolding restarts_further
  restart_step number = once _ _ (at_node _ number _ (λ x there. restarts_step number x there (restarted x.store.records) refl))

  -- # Octets that come

  comes_step : (event : Event) (number : ℕ) (x : Node) (octets : List ℕ) (cost : ℕ) → node_at w number ≡ Some x → IsEvent event → Comes w event number octets
      → cost ≤ 255 → Is event (Ok (comes ciphers w number x octets cost))
  unfolding comes acts
  comes_step event number x octets cost there says outcome_of_arrival low = by_kind (is_discovery octets) refl
    where
      by_answer : (o : Result Accepted FrameRefusal) → (accepting ciphers x octets).answer ≡ o
          → Is event (Ok (accepted_further ciphers w number octets cost (accepting ciphers x octets)))
      by_answer (Err reason) e = rw e (Old event _ (TurnsDown event number x octets reason (accepting ciphers x octets) there says outcome_of_arrival refl e))
      by_answer (Ok got) e = rw e
          (Takes event number x octets cost got (further_hearing_outcome ciphers w number (taker ciphers x octets) octets got cost) there says
          outcome_of_arrival low e
          (further_is ciphers w number x octets got cost))

      by_kind : (b : Bool) → is_discovery octets ≡ b
          → Is event (Ok (if b then discovers_by w number x octets cost x.memory else accepted_further ciphers w number octets cost
          (accepting ciphers x octets)))
      by_kind true e = Finds event number x octets cost there says outcome_of_arrival e
      by_kind false e = by_answer (accepting ciphers x octets).answer refl

  delivers_step : (flight number cost : ℕ) → IsEvent (events.Deliver flight number cost)
      → Is (events.Deliver flight number cost) (delivers ciphers w flight number cost)
  unfolding delivers
  delivers_step flight number cost says = once _ _
      (at_node _ number _ (λ x hx. at_flight _ flight _ (λ f e. comes_step _ number x f.octets cost hx says (OfFlight flight number cost f e) says.2.1)))

  injects_step : (number cost : ℕ) (octets : List ℕ) → IsEvent (events.Inject number cost octets)
      → Is (events.Inject number cost octets) (injects ciphers w number cost octets)
  unfolding injects
  injects_step number cost octets says = once _ _
      (at_node _ number _ (λ x hx. comes_step _ number x octets cost hx says (OfScript number cost octets) says.1.1))

  -- every event of a line with further reach is one of them
  pub further_step_is : (event : Event) → IsEvent event → IsFurtherStep ciphers w event (line_step ciphers w event)
  further_step_is (events.Coordinator eui key) e = Old (events.Coordinator eui key) _ (step_is ciphers w (events.Coordinator eui key) e)
  further_step_is (events.Meter eui psk) e = Old (events.Meter eui psk) _ (step_is ciphers w (events.Meter eui psk) e)
  further_step_is (events.Depot node) e = Old (events.Depot node) _ (step_is ciphers w (events.Depot node) e)
  further_step_is (events.Near a b cost) e = Old (events.Near a b cost) _ (step_is ciphers w (events.Near a b cost) e)
  further_step_is (events.Counter node value) e = Old (events.Counter node value) _ (step_is ciphers w (events.Counter node value) e)
  further_step_is (events.Number node value) e = Old (events.Number node value) _ (step_is ciphers w (events.Number node value) e)
  further_step_is (events.Allow node) e = Old (events.Allow node) _ (step_is ciphers w (events.Allow node) e)
  further_step_is (events.RandomOctets node value) e = Old (events.RandomOctets node value) _ (step_is ciphers w (events.RandomOctets node value) e)
  further_step_is (events.Join node agent) e = Old (events.Join node agent) _ (step_is ciphers w (events.Join node agent) e)
  further_step_is (events.Leave node) e = Old (events.Leave node) _ (step_is ciphers w (events.Leave node) e)
  further_step_is (events.Send from to datagram) e = Old (events.Send from to datagram) _ (step_is ciphers w (events.Send from to datagram) e)
  further_step_is (events.Lose flight) e = Old (events.Lose flight) _ (step_is ciphers w (events.Lose flight) e)
  further_step_is (events.Break node next) e = Old (events.Break node next) _ (step_is ciphers w (events.Break node next) e)
  further_step_is (events.Cut node nth keeps_new) e = Old (events.Cut node nth keeps_new) _ (step_is ciphers w (events.Cut node nth keeps_new) e)
  further_step_is (events.Rekey index key) e = Old (events.Rekey index key) _ (step_is ciphers w (events.Rekey index key) e)
  further_step_is (events.Challenge node) e = Old (events.Challenge node) _ (step_is ciphers w (events.Challenge node) e)
  further_step_is (events.Activate node index) e = Old (events.Activate node index) _ (step_is ciphers w (events.Activate node index) e)
  further_step_is (events.Kick node) e = Old (events.Kick node) _ (step_is ciphers w (events.Kick node) e)
  further_step_is (events.Show node) e = Old (events.Show node) _ (step_is ciphers w (events.Show node) e)
  further_step_is (events.Deliver flight node cost) e = delivers_step flight node cost e
  further_step_is (events.Inject node cost octets) e = injects_step node cost octets e
  further_step_is (events.Tick seconds) e = ticks_step seconds
  further_step_is (events.Restart node) e = restart_step node
  further_step_is events.Checks e = checks_step
  further_step_is (events.Bcast node datagram) e = bcast_step node datagram
  further_step_is (events.Scan node) e = scan_step node
  further_step_is (events.Choose node k) e = choose_step node k
  further_step_is (events.Path from to) e = path_step from to

-- # Octets of discovery are no frame that is accepted

frame_is_type_one : (octets : List ℕ) → frame_fault octets ≡ None → bits 0 3 (octet 0 octets) ≡ 1
unfolding fields_fault low_fault
frame_is_type_one octets none =
    let whole = (then_none (fault_at Long 400 when nat_lt 400 (length octets)) (fields_fault octets) none).1 in
    let low = (then_none (low_fault octets) _ whole).0 in
    let kind = (then_none (cut_off Short 1 octets) (type_fault (octet 0 octets)) low).1 in
    let first = (then_none
    (fault_at Kind 0 when (not (bits 0 3 (octet 0 octets) == 1) || bits 4 1 (octet 0 octets) == 1 || bits 7 1 (octet 0 octets) == 1)) _ kind).0 in
    eqb-true _ _ (by_test (bits 0 3 (octet 0 octets) == 1) first)
  where
    by_test : (b : Bool) → (fault_at Kind 0 when (not b || bits 4 1 (octet 0 octets) == 1 || bits 7 1 (octet 0 octets) == 1)) ≡ None → b ≡ true
    by_test true e = refl
    by_test false e = absurd (cc (e))

either_true : (a b : Bool) → (a || b) ≡ true → (a ≡ true) ⊎ (b ≡ true)
either_true true b e = inl refl
either_true false b e = inr e

other_type : (octets : List ℕ) → is_discovery octets ≡ true → bits 0 3 (octet 0 octets) ≡ 1 → ⊥
other_type octets e one = ⊎_elim
    (λ (t : (frame_type octets == 0) ≡ true). let zero_is : frame_type octets ≡ 0 = eqb-true _ _ t in omega arith)
    (λ (t : (frame_type octets == 3) ≡ true). let three_is : frame_type octets ≡ 3 = eqb-true _ _ t in omega arith)
    (either_true _ _ (and_parts _ _ e).1)

not_arrived : (ciphers : Ciphers) (octets : List ℕ) → is_discovery octets ≡ true → arrived ciphers octets ≡ None
unfolding arrived
not_arrived ciphers octets e = by_fault (frame_fault octets) refl
  where
    by_fault : (o : Option (Fault FrameFaultKind)) → frame_fault octets ≡ o
        → (if is_some o then None else Some (arrived_with ciphers (head_in octets) (take 15 octets) (body_in octets))) ≡ None
    by_fault None none = absurd (other_type octets e (frame_is_type_one octets none))
    by_fault (Some f) some = refl

-- no node accepts them
pub none_accepts : (ciphers : Ciphers) (x : Node) (octets : List ℕ) → is_discovery octets ≡ true → (got : Accepted)
    → (accepting ciphers x octets).answer ≡ Ok got → ⊥
unfolding resting
none_accepts ciphers x octets e got is =
    let same = subst (λ o. (acts x (Err frames.Halted) (plan o)).answer ≡ Ok got) (not_arrived ciphers octets e) is in
    let a = acts_whole x frames.Halted frames.Store (plan None) (λ m. refl) got same in
    not_ok a.is
  where
    plan : Option Arrived → Memory → Plan Memory (Result Accepted FrameRefusal)
    plan o m = of_station m (accept m.station x.eui o)

    not_ok : Err frames.Malformed ≡ Ok got → ⊥
    not_ok e = cc

-- Where octets of discovery come, no octets come that are accepted.
pub found_none : (ciphers : Ciphers) (w : World) (event : Event) (number : ℕ) (x : Node) (octets : List ℕ) → node_at w number ≡ Some x
    → Comes w event number octets → is_discovery octets ≡ true
    → (n : ℕ) (z : Node) (own : List ℕ) (got : Accepted) → node_at w n ≡ Some z → Comes w event n own → (accepting ciphers z own).answer ≡ Ok got → ⊥
found_none ciphers w event number x octets there outcome_of_arrival e n z own got here comes_own is =
    let both = is_same w event n number own octets (comes_is w event n own comes_own) (comes_is w event number octets outcome_of_arrival) in
    none_accepts ciphers z own (subst (λ o. is_discovery o ≡ true) (sym both.1) e) got is
