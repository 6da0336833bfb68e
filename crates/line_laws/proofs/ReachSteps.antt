-- What an event of a line with further reach is, with all that its rule tested: one case for each way.
use Rattle.std.proofs.Common.{◌≡◌, ℕ, ◌+◌, ◌≤◌, Bool, true, false, List, Option, Some, None, Result, Ok, Err, refl, sym, ◌∙◌}
use Rattle.std.specs.Prelude.{if◌then◌else◌, ◌==◌, map}
use Rattle.std.specs.Option.{option_map_or}
use Rattle.std.proofs.lemmas.Option.{same_Some}
use Rattle.plc_base.specs.declared.keeper.BadStore.{BadStore}
use Rattle.plc_base.specs.declared.key.Key.{Key}
use Rattle.node_rules.specs.Accepted.{Accepted}
use Rattle.node_rules.specs.declared.refusal.FrameRefusal.{FrameRefusal}
use Rattle.node_rules.specs.Ciphers.{Ciphers}
use Rattle.node_rules.specs.Memory.{Memory, Node, node_address}
use Rattle.node_rules.specs.NodeSteps.{NodeStep, acts}
use Rattle.reach_rules.specs.Beacons.{is_discovery}
use Rattle.reach_rules.specs.ReachingNodes.{Beside, restarted, tick_beside}
use Rattle.reach_rules.specs.FurtherReceptions.{NeighbourCommand, command_of}
use Rattle.line_events.specs.declared.event.Answer.{Answer}
use Rattle.line_events.specs.declared.event.Answer.TheVariants as answers
use Rattle.line_events.specs.declared.event.Event.{Event}
use Rattle.line_events.specs.declared.event.Event.TheVariants as events
use Rattle.line_events.specs.declared.event.StepFault.{StepFault}
use Rattle.line_events.specs.declared.event.StepFault.TheVariants as faults
use Rattle.line_rules.specs.Answers.{Reception}
use Rattle.line_events.specs.Events.{IsEvent, IsLineOctets}
use Rattle.line_rules.specs.Forgery.{Comes, OfFlight, OfScript, accepting}
use Rattle.line_rules.specs.FurtherRuns.{is_restart_of, is_tick}
use Rattle.line_rules.specs.Further.{accepted_further, after_ok, asks_by, bcast, broadcasts_by, checked, checks, choose, chooses_by, comes, commanded, delivers}
use Rattle.line_rules.specs.Further.{discovers_by, hearing_outcome_by, further_hearing_outcome, injects, is_dropped, line_step, path, restarts_by}
use Rattle.line_rules.specs.Further.{restarts_further, scan, scans_by}
use Rattle.line_rules.specs.Further.{ticks, unbelieved}
use Rattle.line_rules.specs.Logs.{LogsKept}
use Rattle.line_rules.specs.Steps.{Step, happenings, has_begun, hearing_outcome, hearing_step, in_setup, note_by, on_flight, on_meter, on_node, once_begun}
use Rattle.line_rules.specs.Steps.{psk_of, running_world, set_up}
use Rattle.line_rules.specs.Steps.{takes_setup, tick, ticked, trace_of}
use Rattle.line_rules.specs.Worlds.{World, Flight, flight_at, node_at}
use Rattle.line_laws.specs.ReachTraces.{link_of}
use Rattle.line_laws.proofs.FurtherSteps.{restarts_read}
use Rattle.line_laws.proofs.StepKinds.{IsBrought, IsStep, TurnsDown, step_is}

-- an event that is neither time nor a restart
abbrev pub IsOther : Event → Type 0
IsOther event = (is_tick event ≡ false) × ((n : ℕ) → is_restart_of n event ≡ false)

-- Octets come to a node, which accepts them.
pub record IsAccepted (ciphers : Ciphers) (w : World) (event : Event) (number : ℕ) (x : Node) (octets : List ℕ) (got : Accepted) : Type 0 where
  pub other : IsOther event
  pub says : IsEvent event
  pub there : node_at w number ≡ Some x
  pub comes : Comes w event number octets
  pub sealed : is_discovery octets ≡ false
  pub is : (accepting ciphers x octets).answer ≡ Ok got

-- the node as it is then
abbrev pub after_accepting : Ciphers → Node → List ℕ → Node
after_accepting ciphers x octets = (accepting ciphers x octets).node

-- what it makes of them without further reach
abbrev pub heard_node : Ciphers → World → Node → List ℕ → Accepted → ℕ → NodeStep Reception
heard_node ciphers w x octets got cost = hearing_step ciphers (after_accepting ciphers x octets) got cost (note_by w octets got.path) w.clock

-- the words of a node that does nothing
abbrev pub is_idle : Answer → Bool
is_idle answers.Halted = true
is_idle answers.NoAddress = true
is_idle answers.NoBeacon = true
is_idle _ = false

pub data IsReachStep (ciphers : Ciphers) (w : World) : Event → Step → Type 1 where
  -- the event is not taken
  Fails : (event : Event) (fault : StepFault) → IsReachStep ciphers w event (Err fault)
  -- no octets are accepted in it: as without further reach
  Known : (event : Event) (s : Step) → IsOther event → IsStep ciphers w event s
      → ((number : ℕ) (x : Node) (octets : List ℕ) (got : Accepted) → Comes w event number octets → node_at w number ≡ Some x
      → (accepting ciphers x octets).answer ≡ Ok got → ⊥)
      → IsReachStep ciphers w event s
  -- nothing is done
  Rests : (event : Event) (answer : Answer) → is_idle answer ≡ true → IsOther event
      → ((number : ℕ) (octets : List ℕ) → Comes w event number octets → is_discovery octets ≡ false → ⊥)
      → IsReachStep ciphers w event (Ok (running_world w, trace_of (happenings w answer)))
  -- neighbours are checked from now on
  Opens : IsReachStep ciphers w events.Checks (Ok (record (set_up w) { checks_on = true }, trace_of (happenings w answers.Set)))
  Bcasts : (number : ℕ) (x : Node) (datagram : List ℕ) → node_at w number ≡ Some x → IsLineOctets datagram
      → IsReachStep ciphers w (events.Bcast number datagram) (Ok (broadcasts_by ciphers w number x datagram))
  Asks : (from to : ℕ) (x y : Node) (target : ℕ) → node_at w from ≡ Some x → node_at w to ≡ Some y → node_address y ≡ Some target
      → IsReachStep ciphers w (events.Path from to) (Ok (asks_by ciphers w from x (Some target)))
  Scans : (number : ℕ) (x : Node) (m : Memory) → node_at w number ≡ Some x → x.memory ≡ Some m
      → IsReachStep ciphers w (events.Scan number) (Ok (scans_by w number (Some m)))
  Chooses : (number k : ℕ) (x : Node) (psk : Key) → node_at w number ≡ Some x → psk_of x ≡ Some psk
      → IsReachStep ciphers w (events.Choose number k) (Ok (chooses_by ciphers w number x k (Some psk)))
  Discovers : (event : Event) (number : ℕ) (x : Node) (m : Memory) (octets : List ℕ) (link : ℕ) → IsOther event → node_at w number ≡ Some x → x.memory ≡ Some m
      → Comes w event number octets → link_of event ≡ link → is_discovery octets ≡ true
      → IsReachStep ciphers w event (Ok (discovers_by w number x octets link (Some m)))
  -- a request of a listed neighbour
  Unbelieves : (event : Event) (number : ℕ) (x : Node) (octets : List ℕ) (got : Accepted) → IsAccepted ciphers w event number x octets got
      → is_dropped w number got ≡ true
      → IsReachStep ciphers w event (Ok (unbelieved ciphers w number (after_accepting ciphers x octets) octets got))
  -- a command for the neighbours
  Commands : (event : Event) (number : ℕ) (x : Node) (octets : List ℕ) (cost : ℕ) (got : Accepted) (c : NeighbourCommand)
      → IsAccepted ciphers w event number x octets got → cost ≤ 255 → is_dropped w number got ≡ false → command_of got ≡ Some c
      → IsReachStep ciphers w event (Ok (commanded ciphers number (heard_node ciphers w x octets got cost).node c
      (hearing_outcome ciphers w number (after_accepting ciphers x octets) octets got cost)))
  -- another frame, where neighbours are checked, and where they are not
  Checked : (event : Event) (number : ℕ) (x : Node) (octets : List ℕ) (cost : ℕ) (got : Accepted) → IsAccepted ciphers w event number x octets got → cost ≤ 255
      → is_dropped w number got ≡ false → command_of got ≡ None → w.checks_on ≡ true
      → IsReachStep ciphers w event (Ok (checked ciphers w number got (heard_node ciphers w x octets got cost)
      (hearing_outcome ciphers w number (after_accepting ciphers x octets) octets got cost)))
  Hears : (event : Event) (number : ℕ) (x : Node) (octets : List ℕ) (cost : ℕ) (got : Accepted) → IsAccepted ciphers w event number x octets got → cost ≤ 255
      → is_dropped w number got ≡ false → command_of got ≡ None → w.checks_on ≡ false
      → IsReachStep ciphers w event (Ok (hearing_outcome ciphers w number (after_accepting ciphers x octets) octets got cost))
  -- time and a restart
  Ticks : (seconds : ℕ) → IsReachStep ciphers w (events.Tick seconds)
      (Ok (
        record (running_world w) {
          clock = w.clock + seconds;
          nodes = map (ticked (w.clock + seconds)) w.nodes;
          beside = map (tick_beside (w.clock + seconds))
              w.beside;
        },
        trace_of (happenings w answers.Ticked),
      ))
  Restarts : (number : ℕ) (x : Node) (b : Beside) → node_at w number ≡ Some x → restarted x.store.records ≡ Ok b
      → IsReachStep ciphers w (events.Restart number) (Ok (restarts_by ciphers w number x (Ok b)))

-- # Every event is one of them

-- octets come in an event that brings them
brought : {w : World} {event : Event} {number : ℕ} {octets : List ℕ} → Comes w event number octets → IsBrought event
brought (OfFlight flight number cost f e) = tt
brought (OfScript number cost octets) = tt

-- they come to one node
pub same_comes : (w : World) (event : Event) (m n : ℕ) (xs ys : List ℕ) → Comes w event m xs → Comes w event n ys → (m ≡ n) × (xs ≡ ys)
same_comes w event m n xs ys (OfFlight flight number cost f e) (OfFlight flight2 number2 cost2 g h) = (refl, (λ i. (same_flight i).octets))
  where
    same_flight : f ≡ g
    same_flight = same_Some f g (sym e ∙ h)
same_comes w event m n xs ys (OfScript number cost octets) (OfScript number2 cost2 octets2) = (refl, refl)

module _ (ciphers : Ciphers) (w : World) (logs : LogsKept w) where
  abbrev Is : Event → Step → Type 1
  Is event s = IsReachStep ciphers w event s

  branch : (event : Event) (b : Bool) (p q : Step) → (b ≡ true → Is event p) → (b ≡ false → Is event q) → Is event (if b then p else q)
  branch event true p q s t = s refl
  branch event false p q s t = t refl

  by_option : {X : Type 0} (event : Event) (f : X → Step) (x : Option X) (p : Step) → ((y : X) → x ≡ Some y → Is event (f y)) → Is event p
      → Is event (option_map_or f x p)
  by_option event f None p s t = t
  by_option event f (Some y) p s t = s y refl

  once : (event : Event) (s : Step) → Is event s → Is event (once_begun w s)
  once event s h = branch event (has_begun w) s (Err faults.Setup) (λ _. h) (λ _. Fails event faults.Setup)

  setup : (event : Event) (s : Step) → Is event s → Is event (in_setup w s)
  setup event s h = branch event (takes_setup w) s (Err faults.Setup) (λ _. h) (λ _. Fails event faults.Setup)

  at_node : (event : Event) (number : ℕ) (f : Node → Step) → ((x : Node) → node_at w number ≡ Some x → Is event (f x)) → Is event (on_node w number f)
  at_node event number f h = by_option event f (node_at w number) (Err faults.Node) h (Fails event faults.Node)

  at_meter : (event : Event) (number : ℕ) (f : Node → Step) → ((x : Node) → node_at w number ≡ Some x → Is event (f x)) → Is event (on_meter w number f)
  at_meter event number f h = branch event (number == 0) (Err faults.Node) (on_node w number f) (λ _. Fails event faults.Node) (λ e. at_node event number f h)

  at_flight : (event : Event) (number : ℕ) (f : Flight → Step) → ((x : Flight) → flight_at w number ≡ Some x → Is event (f x)) → Is event (on_flight w number f)
  at_flight event number f h = by_option event (λ x. if x.lost then Err faults.Flight else f x) (flight_at w number) (Err faults.Flight)
      (λ x e. branch event x.lost (Err faults.Flight) (f x) (λ _. Fails event faults.Flight) (λ _. h x e)) (Fails event faults.Flight)

  -- # Events of further reach

  bcast_step : (number : ℕ) (datagram : List ℕ) → IsLineOctets datagram → Is (events.Bcast number datagram) (bcast ciphers w number datagram)
  unfolding bcast
  bcast_step number datagram are = once _ _ (at_node _ number _ (λ x there. Bcasts number x datagram there are))

  path_step : (from to : ℕ) → Is (events.Path from to) (path ciphers w from to)
  unfolding path
  path_step from to = once _ _ (at_node _ from _ (λ x there. at_node _ to _ (λ y other. by_address x y there other (node_address y) refl)))
    where
      by_address : (x y : Node) → node_at w from ≡ Some x → node_at w to ≡ Some y → (o : Option ℕ) → node_address y ≡ o
          → Is (events.Path from to) (Ok (asks_by ciphers w from x o))
      by_address x y there other None e = Rests _ answers.NoAddress refl (refl, λ n. refl) (λ n ys c s. brought c)
      by_address x y there other (Some target) e = Asks from to x y target there other e

  scan_step : (number : ℕ) → Is (events.Scan number) (scan w number)
  unfolding scan
  scan_step number = once _ _ (at_meter _ number _ (λ x there. by_memory x there x.memory refl))
    where
      by_memory : (x : Node) → node_at w number ≡ Some x → (o : Option Memory) → x.memory ≡ o → Is (events.Scan number) (Ok (scans_by w number o))
      by_memory x there None e = Rests _ answers.Halted refl (refl, λ n. refl) (λ n ys c s. brought c)
      by_memory x there (Some m) e = Scans number x m there e

  choose_step : (number k : ℕ) → Is (events.Choose number k) (choose ciphers w number k)
  unfolding choose
  choose_step number k = once _ _ (at_meter _ number _ (λ x there. by_key x there (psk_of x) refl))
    where
      by_key : (x : Node) → node_at w number ≡ Some x → (o : Option Key) → psk_of x ≡ o → Is (events.Choose number k) (Ok (chooses_by ciphers w number x k o))
      by_key x there None e = Rests _ answers.NoBeacon refl (refl, λ n. refl) (λ n ys c s. brought c)
      by_key x there (Some psk) e = Chooses number k x psk there e

  checks_step : Is events.Checks (checks w)
  unfolding checks
  checks_step = setup _ _ (branch _ w.checks_on _ _ (λ _. Fails _ faults.Setup) (λ _. Opens))

  ticks_step : (seconds : ℕ) → Is (events.Tick seconds) (ticks w seconds)
  unfolding ticks tick
  ticks_step seconds = by_start (has_begun w)
    where
      by_start : (b : Bool) → Is (events.Tick seconds) (after_ok (λ r. (record r.0 { beside = map (tick_beside (w.clock + seconds)) w.beside }, r.1))
          (if b then Ok (
            record (running_world w) { clock = w.clock + seconds; nodes = map (ticked (w.clock + seconds)) w.nodes },
            trace_of (happenings w answers.Ticked),
          ) else
          Err faults.Setup))
      by_start true = Ticks seconds
      by_start false = Fails _ faults.Setup

  restart_step : (number : ℕ) → Is (events.Restart number) (restarts_further ciphers w number)
  unfolding restarts_further
  restart_step number = once _ _ (at_node _ number _ (λ x there. by_reading x there (restarted x.store.records) refl))
    where
      by_reading : (x : Node) → node_at w number ≡ Some x → (o : Result Beside BadStore) → restarted x.store.records ≡ o
          → Is (events.Restart number) (Ok (restarts_by ciphers w number x o))
      by_reading x there (Ok b) e = Restarts number x b there e
      by_reading x there (Err bad) e = absurd (restarts_read ciphers w logs number x there bad e)

  -- # Octets that come

  module _ (event : Event) (number : ℕ) (x : Node) (octets : List ℕ) (cost : ℕ) (other : IsOther event) (there : node_at w number ≡ Some x)
      (says : IsEvent event) (outcome_of_arrival : Comes w event number octets) (low : cost ≤ 255) (over : link_of event ≡ cost) where
    discovers_step : is_discovery octets ≡ true → (o : Option Memory) → x.memory ≡ o → Is event (Ok (discovers_by w number x octets cost o))
    discovers_step is None e = Rests event answers.Halted refl other (λ n ys c s. cc (is, s, (same_comes w event number n octets ys outcome_of_arrival c).1))
    discovers_step is (Some m) e = Discovers event number x m octets cost other there e outcome_of_arrival over is

    accepted_step : is_discovery octets ≡ false → (got : Accepted) → (accepting ciphers x octets).answer ≡ Ok got
        → Is event (Ok (further_hearing_outcome ciphers w number (after_accepting ciphers x octets) octets got cost))
    accepted_step sealed got is = by_dropped (is_dropped w number got) refl
      where
        accepted : IsAccepted ciphers w event number x octets got
        accepted = record { other = other; says = says; there = there; comes = outcome_of_arrival; sealed = sealed; is = is }

        by_command : is_dropped w number got ≡ false → (o : Option NeighbourCommand) → command_of got ≡ o
            → Is event (Ok (hearing_outcome_by ciphers w number (after_accepting ciphers x octets) octets got cost o))
        by_command passes (Some c) e = Commands event number x octets cost got c accepted low passes e
        by_command passes None e = by_checks w.checks_on refl
          where
            by_checks : (b : Bool) → w.checks_on ≡ b → Is event (Ok (if b then checked ciphers w number got (heard_node ciphers w x octets got cost)
                (hearing_outcome ciphers w number (after_accepting ciphers x octets) octets got cost)
                else hearing_outcome ciphers w number (after_accepting ciphers x octets)
                octets got cost))
            by_checks true on = Checked event number x octets cost got accepted low passes e on
            by_checks false off = Hears event number x octets cost got accepted low passes e off

        by_dropped : (b : Bool) → is_dropped w number got ≡ b → Is event
            (Ok (if b then unbelieved ciphers w number (after_accepting ciphers x octets) octets got else hearing_outcome_by ciphers w number
            (after_accepting ciphers x octets) octets got cost (command_of got)))
        by_dropped true e = Unbelieves event number x octets got accepted e
        by_dropped false e = by_command e (command_of got) refl

    comes_step : Is event (Ok (comes ciphers w number x octets cost))
    unfolding comes acts
    comes_step = by_kind (is_discovery octets) refl
      where
        by_answer : is_discovery octets ≡ false → (o : Result Accepted FrameRefusal) → (accepting ciphers x octets).answer ≡ o
            → Is event (Ok (accepted_further ciphers w number octets cost (accepting ciphers x octets)))
        by_answer sealed (Err reason) e =
            rw e (Known event _ other (TurnsDown event number x octets reason (accepting ciphers x octets) there says outcome_of_arrival
            refl e)
            (λ n y ys got c here is. not_both n y ys got (same_comes w event number n octets ys outcome_of_arrival c) here is))
          where
            not_both : (n : ℕ) (y : Node) (ys : List ℕ) (got : Accepted) → (number ≡ n) × (octets ≡ ys) → node_at w n ≡ Some y
                → (accepting ciphers y ys).answer ≡ Ok got → ⊥
            not_both n y ys got same here is = cc (same.0, same.1, here, is, there, e)
        by_answer sealed (Ok got) e = rw e (accepted_step sealed got e)

        by_kind : (b : Bool) → is_discovery octets ≡ b → Is event (Ok (if b then discovers_by w number x octets cost x.memory else accepted_further ciphers w
            number octets cost (accepting ciphers x octets)))
        by_kind true e = discovers_step e x.memory refl
        by_kind false e = by_answer e (accepting ciphers x octets).answer refl

  delivers_step : (flight number cost : ℕ) → IsEvent (events.Deliver flight number cost)
      → Is (events.Deliver flight number cost) (delivers ciphers w flight number cost)
  unfolding delivers
  delivers_step flight number cost says = once _ _ (at_node _ number _
      (λ x hx. at_flight _ flight _ (λ f e. comes_step _ number x f.octets cost (refl, λ n. refl) hx says (OfFlight flight number cost f e) says.2.1 refl)))

  injects_step : (number cost : ℕ) (octets : List ℕ) → IsEvent (events.Inject number cost octets)
      → Is (events.Inject number cost octets) (injects ciphers w number cost octets)
  unfolding injects
  injects_step number cost octets says = once _ _ (at_node _ number _ (λ x hx. comes_step _ number x octets cost (refl, λ n. refl) hx says
      (OfScript number cost octets) says.1.1 refl))

  pub reach_step_is : (event : Event) → IsEvent event → IsReachStep ciphers w event (line_step ciphers w event)
  reach_step_is (events.Coordinator eui key) e = Known (events.Coordinator eui key) _ (refl, λ n. refl) (step_is ciphers w (events.Coordinator eui key) e)
      (λ n x ys got c there is. brought c)
  reach_step_is (events.Meter eui psk) e = Known (events.Meter eui psk) _ (refl, λ n. refl) (step_is ciphers w (events.Meter eui psk) e)
      (λ n x ys got c there is. brought c)
  reach_step_is (events.Depot node) e = Known (events.Depot node) _ (refl, λ n. refl) (step_is ciphers w (events.Depot node) e)
      (λ n x ys got c there is. brought c)
  reach_step_is (events.Near a b cost) e = Known (events.Near a b cost) _ (refl, λ n. refl) (step_is ciphers w (events.Near a b cost) e)
      (λ n x ys got c there is. brought c)
  reach_step_is (events.Counter node value) e = Known (events.Counter node value) _ (refl, λ n. refl) (step_is ciphers w (events.Counter node value) e)
      (λ n x ys got c there is. brought c)
  reach_step_is (events.Number node value) e = Known (events.Number node value) _ (refl, λ n. refl) (step_is ciphers w (events.Number node value) e)
      (λ n x ys got c there is. brought c)
  reach_step_is (events.Allow node) e = Known (events.Allow node) _ (refl, λ n. refl) (step_is ciphers w (events.Allow node) e)
      (λ n x ys got c there is. brought c)
  reach_step_is (events.RandomOctets node value) e =
      Known (events.RandomOctets node value) _ (refl, λ n. refl) (step_is ciphers w (events.RandomOctets node value) e)
      (λ n x ys got c there is. brought c)
  reach_step_is (events.Join node agent) e = Known (events.Join node agent) _ (refl, λ n. refl) (step_is ciphers w (events.Join node agent) e)
      (λ n x ys got c there is. brought c)
  reach_step_is (events.Leave node) e = Known (events.Leave node) _ (refl, λ n. refl) (step_is ciphers w (events.Leave node) e)
      (λ n x ys got c there is. brought c)
  reach_step_is (events.Send from to datagram) e = Known (events.Send from to datagram) _ (refl, λ n. refl) (step_is ciphers w (events.Send from to datagram) e)
      (λ n x ys got c there is. brought c)
  reach_step_is (events.Lose flight) e = Known (events.Lose flight) _ (refl, λ n. refl) (step_is ciphers w (events.Lose flight) e)
      (λ n x ys got c there is. brought c)
  reach_step_is (events.Break node next) e = Known (events.Break node next) _ (refl, λ n. refl) (step_is ciphers w (events.Break node next) e)
      (λ n x ys got c there is. brought c)
  reach_step_is (events.Cut node nth keeps_new) e = Known (events.Cut node nth keeps_new) _ (refl, λ n. refl)
      (step_is ciphers w (events.Cut node nth keeps_new) e) (λ n x ys got c there is. brought c)
  reach_step_is (events.Rekey index key) e = Known (events.Rekey index key) _ (refl, λ n. refl) (step_is ciphers w (events.Rekey index key) e)
      (λ n x ys got c there is. brought c)
  reach_step_is (events.Challenge node) e = Known (events.Challenge node) _ (refl, λ n. refl) (step_is ciphers w (events.Challenge node) e)
      (λ n x ys got c there is. brought c)
  reach_step_is (events.Activate node index) e = Known (events.Activate node index) _ (refl, λ n. refl) (step_is ciphers w (events.Activate node index) e)
      (λ n x ys got c there is. brought c)
  reach_step_is (events.Kick node) e = Known (events.Kick node) _ (refl, λ n. refl) (step_is ciphers w (events.Kick node) e)
      (λ n x ys got c there is. brought c)
  reach_step_is (events.Show node) e = Known (events.Show node) _ (refl, λ n. refl) (step_is ciphers w (events.Show node) e)
      (λ n x ys got c there is. brought c)
  reach_step_is (events.Deliver flight node cost) e = delivers_step flight node cost e
  reach_step_is (events.Inject node cost octets) e = injects_step node cost octets e
  reach_step_is (events.Tick seconds) e = ticks_step seconds
  reach_step_is (events.Restart node) e = restart_step node
  reach_step_is events.Checks e = checks_step
  reach_step_is (events.Bcast node datagram) e = bcast_step node datagram e.1
  reach_step_is (events.Scan node) e = scan_step node
  reach_step_is (events.Choose node k) e = choose_step node k
  reach_step_is (events.Path from to) e = path_step from to
