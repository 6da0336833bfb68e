-- What an event reports of datagrams: what it hands up came in it, and what it sends flies or waits.
use Rattle.std.proofs.Common.{◌≡◌, ℕ, Bool, true, false, List, Option, Some, None, Result, Ok, Err, refl, sym, ap, subst}
use Rattle.std.specs.Prelude.{if◌then◌else◌, is_some, IfSome}
use Rattle.std.specs.Option.{option_map_or}
use Rattle.node_rules.specs.Accepted.{Accepted}
use Rattle.node_rules.specs.declared.heard.Reply.{Reply}
use Rattle.node_rules.specs.declared.refusal.FrameRefusal.{FrameRefusal}
use Rattle.node_rules.specs.declared.refusal.LocalRefusal.{LocalRefusal}
use Rattle.node_rules.specs.declared.refusal.SendRefusal.TheVariants as refusals
use Rattle.node_rules.specs.Calls as calls
use Rattle.node_rules.specs.Ciphers.{Ciphers}
use Rattle.node_rules.specs.HearingRules.{hear}
use Rattle.node_rules.specs.Memory.{Memory, Node, node_address}
use Rattle.node_rules.specs.NodeSteps.{NodeStep, acts, answering, left_by, of_station, stays}
use Rattle.node_rules.specs.Plans.{carry_out}
use Rattle.reach_rules.specs.Beacons.{is_discovery}
use Rattle.reach_rules.specs.FurtherReceptions.{NeighbourCommand, command_of}
use Rattle.line_events.specs.declared.event.Answer.{Answer}
use Rattle.line_events.specs.declared.event.Event.{Event}
use Rattle.line_events.specs.declared.event.Event.TheVariants as events
use Rattle.line_events.specs.declared.happenings.Handed.{Handed}
use Rattle.line_rules.specs.Answers.{Reception, sent_word, Up}
use Rattle.line_rules.specs.Forgery.{Comes, OfFlight, OfScript, accepting}
use Rattle.line_rules.specs.Further.{accepted_further, acknowledged, acknowledged_if, comes}
use Rattle.line_rules.specs.Further.{delivers, discovers_by, further_hearing_outcome, hearing_outcome_by, injects, is_dropped, line_step}
use Rattle.line_rules.specs.Steps.{Step, handed_by}
use Rattle.line_rules.specs.Steps.{hearing_outcome, hearing_step, is_taken, node_outcome, note_by}
use Rattle.line_rules.specs.Steps.{send, sends_by, sent_if, tag_of}
use Rattle.line_rules.specs.Worlds.{World, Trace, node_at}
use Rattle.line_progress.specs.SendFates.{SendEventFate, SendFlew, SendsFly}
use Rattle.line_progress.specs.Ups.{DatagramCame, DatagramsCame}
use Rattle.line_progress.proofs.Events.{StepHas, Fails, Taken, outcome_has, once, at_node, at_flight}
use Rattle.line_progress.proofs.NodeUps.{IsUpOf, NoUp, OneUp, halted_hands_none, node_hands_up}
use Rattle.line_progress.proofs.SendEvents.{send_outcome}
use Rattle.line_progress.proofs.StationUps.{station_ups}
use Rattle.line_rules.specs.Further.{unbelieved}
use Rattle.node_rules.specs.declared.heard.SentHow.{SentHow}
use Rattle.node_rules.specs.declared.refusal.SendRefusal.{SendRefusal}
use Rattle.node_rules.specs.Plans.{Plan}
use Rattle.std.specs.Prelude.{◌+◌}
use Rattle.line_progress.proofs.MuteEvents.{IsMute, coordinator_mute, meter_mute, depot_mute, near_mute, preset_mute, checks_mute, allow_mute, rand_mute}
use Rattle.line_progress.proofs.MuteEvents.{join_mute, leave_mute, breaks_mute, lose_mute, ticks_mute, restart_mute, cut_mute, show_mute, rekey_mute}
use Rattle.line_progress.proofs.MuteEvents.{challenge_mute, activate_mute, kick_mute, bcast_mute, path_mute, scan_mute, choose_mute}

-- # What comes to a node

-- nothing of the kind, or what the node hands up that accepted octets
data IsFromNode (ciphers : Ciphers) (w : World) (number cost : ℕ) (x : Node) (octets : List ℕ) (r : World × Trace) : Type 0 where
  Nothing : IsMute r → IsFromNode ciphers w number cost x octets r
  Heard : (got : Accepted) → (accepting ciphers x octets).answer ≡ Ok got
      → r.1.happenings.up
      ≡ handed_by number (hearing_step ciphers (accepting ciphers x octets).node got cost (note_by w octets got.path) w.clock).answer.up
      → r.1.sent ≡ None → IsFromNode ciphers w number cost x octets r

module _ (ciphers : Ciphers) (w : World) (number cost : ℕ) (x : Node) (octets : List ℕ) where
  abbrev FromNode : World × Trace → Type 0
  FromNode r = IsFromNode ciphers w number cost x octets r

  discovers_so : (o : Option Memory) → IsMute (discovers_by w number x octets cost o)
  discovers_so None = (refl, refl)
  discovers_so (Some m) = (refl, refl)

  module _ (got : Accepted) (is : (accepting ciphers x octets).answer ≡ Ok got) where
    abbrev y : Node
    y = (accepting ciphers x octets).node

    abbrev heard_now : NodeStep Reception
    heard_now = hearing_step ciphers y got cost (note_by w octets got.path) w.clock

    -- the same is said of datagrams
    abbrev SaysSo : World × Trace → Type 0
    SaysSo r = (r.1.happenings.up ≡ handed_by number heard_now.answer.up) × (r.1.sent ≡ None)

    either_says : (b : Bool) (p q : World × Trace) → SaysSo p → SaysSo q → SaysSo (if b then p else q)
    either_says true p q one other = one
    either_says false p q one other = other

    heard_says : SaysSo (hearing_outcome ciphers w number y octets got cost)
    heard_says = (refl, refl)

    acknowledged_says : (a : NodeStep (Result (Unit {0}) LocalRefusal)) (r : World × Trace) → SaysSo r → SaysSo (acknowledged ciphers w number a r)
    acknowledged_says a r says = either_says (is_some a.node.memory) _ _ says says

    acknowledged_if_says : (o : Option Reply) (z : Node) (r : World × Trace) → SaysSo r → SaysSo (acknowledged_if ciphers w number z o r)
    acknowledged_if_says None z r says = says
    acknowledged_if_says (Some reply) z r says = acknowledged_says _ r says

    outcome_says : (o : Option NeighbourCommand) → SaysSo (hearing_outcome_by ciphers w number y octets got cost o)
    outcome_says (Some c) = (refl, refl)
    outcome_says None = either_says w.checks_on _ _ (acknowledged_if_says _ heard_now.node _ heard_says) heard_says

    further_so : FromNode (further_hearing_outcome ciphers w number y octets got cost)
    further_so = by_drop (is_dropped w number got)
      where
        by_drop : (b : Bool) → FromNode (if b then unbelieved ciphers w number y octets got
            else hearing_outcome_by ciphers w number y octets got cost (command_of got))
        by_drop true = Nothing (refl, refl)
        by_drop false = let says = outcome_says (command_of got) in Heard got is says.0 says.1

  accepted_so : FromNode (accepted_further ciphers w number octets cost (accepting ciphers x octets))
  accepted_so = by_answer (accepting ciphers x octets).answer refl
    where
      by_answer : (a : Result Accepted FrameRefusal) → (accepting ciphers x octets).answer ≡ a
          → FromNode (accepted_further ciphers w number octets cost (accepting ciphers x octets))
      by_answer (Ok got) e =
          subst (λ a. FromNode (accepted_further ciphers w number octets cost (record (accepting ciphers x octets) { answer = a }))) (sym e) (further_so got e)
      by_answer (Err reason) e =
          subst (λ a. FromNode (accepted_further ciphers w number octets cost (record (accepting ciphers x octets) { answer = a }))) (sym e)
          (Nothing (refl, refl))

  comes_so : FromNode (comes ciphers w number x octets cost)
  unfolding comes
  comes_so = by_kind (is_discovery octets)
    where
      by_kind : (b : Bool) → FromNode (if b then discovers_by w number x octets cost x.memory
          else accepted_further ciphers w number octets cost (accepting ciphers x octets))
      by_kind true = Nothing (discovers_so x.memory)
      by_kind false = accepted_so

-- # What is handed up

if_none : {A : Type 0} (P : A → Type 0) (o : Option A) → o ≡ None → IfSome o P
if_none P o e = subst (λ p. IfSome p P) (sym e) tt

if_some : {A : Type 0} (P : A → Type 0) (o : Option A) (a : A) → o ≡ Some a → P a → IfSome o P
if_some P o a e p = subst (λ q. IfSome q P) (sym e) p

module _ (ciphers : Ciphers) (w : World) (event : Event) (number cost : ℕ) (x : Node) (octets : List ℕ) (there : node_at w number ≡ Some x)
    (comes_here : Comes w event number octets) where
  abbrev Came : Option Handed → Type 0
  Came o = IfSome o (DatagramCame ciphers w event)

  by_up : (got : Accepted) (m : Memory) (o : Option Up) → (accepting ciphers x octets).answer ≡ Ok got → (accepting ciphers x octets).node.memory ≡ Some m
      → IsUpOf (hear m.station got cost (note_by w octets got.path) w.clock) o → Came (handed_by number o)
  by_up got m o is runs (NoUp e) = if_none (DatagramCame ciphers w event) (handed_by number o) (ap (handed_by number) e)
  by_up got m o is runs (OneUp origin n datagram a e) =
      if_some (DatagramCame ciphers w event) (handed_by number o) (record { node = number; note = n; octets = datagram }) (ap (handed_by number) e)
      (record {
        octets = octets;
        comes = comes_here;
        node = x;
        there = there;
        got = got;
        accepted = is;
        memory = m;
        runs = runs;
        origin = origin;
        came = station_ups m.station got cost (note_by w octets got.path) w.clock origin n datagram a;
      })

  by_memory : (got : Accepted) (o : Option Memory) → (accepting ciphers x octets).answer ≡ Ok got → (accepting ciphers x octets).node.memory ≡ o
      → Came (handed_by number (hearing_step ciphers (accepting ciphers x octets).node got cost (note_by w octets got.path) w.clock).answer.up)
  by_memory got None is halted =
      if_none (DatagramCame ciphers w event) _
      (ap (handed_by number) (halted_hands_none ciphers (accepting ciphers x octets).node got cost (note_by w octets got.path) w.clock halted))
  by_memory got (Some m) is runs =
      by_up got m _ is runs (node_hands_up ciphers (accepting ciphers x octets).node got cost (note_by w octets got.path) w.clock m runs)

  by_node : (r : World × Trace) → IsFromNode ciphers w number cost x octets r → Came r.1.happenings.up
  by_node r (Nothing quiet) = if_none (DatagramCame ciphers w event) r.1.happenings.up quiet.0
  by_node r (Heard got is up sent) = subst Came (sym up) (by_memory got _ is refl)

  came_here : Came (comes ciphers w number x octets cost).1.happenings.up
  came_here = by_node _ (comes_so ciphers w number cost x octets)

no_send : (ciphers : Ciphers) (w : World) (number cost : ℕ) (x : Node) (octets : List ℕ) → (comes ciphers w number x octets cost).1.sent ≡ None
no_send ciphers w number cost x octets = by_node (comes ciphers w number x octets cost) (comes_so ciphers w number cost x octets)
  where
    by_node : (r : World × Trace) → IsFromNode ciphers w number cost x octets r → r.1.sent ≡ None
    by_node r (Nothing quiet) = quiet.1
    by_node r (Heard got is up sent) = sent

-- # Each kind of event

all_have : (P Q : World × Trace → Type 0) → ((r : World × Trace) → P r → Q r) → (s : Step) → StepHas P s → StepHas Q s
all_have P Q more s (Fails fault) = Fails fault
all_have P Q more s (Taken r has) = Taken r (more r has)

-- P holds of each event that hands up nothing and sends nothing, and of `send`, `deliver` and `inject`
module _ (ciphers : Ciphers) (w : World) (P : Event → World × Trace → Type 0) (silent : (event : Event) (r : World × Trace) → IsMute r → P event r)
    (sends : (from to : ℕ) (datagram : List ℕ) → StepHas (P (events.Send from to datagram)) (line_step ciphers w (events.Send from to datagram)))
    (delivers : (flight node cost : ℕ) → StepHas (P (events.Deliver flight node cost)) (line_step ciphers w (events.Deliver flight node cost)))
    (injects : (node cost : ℕ) (octets : List ℕ) → StepHas (P (events.Inject node cost octets)) (line_step ciphers w (events.Inject node cost octets))) where
  is_mute : (event : Event) (s : Step) → StepHas IsMute s → StepHas (P event) s
  is_mute event s has = all_have IsMute (P event) (silent event) s has

  pub each_event : (event : Event) → StepHas (P event) (line_step ciphers w event)
  each_event (events.Coordinator eui key) = is_mute _ _ (coordinator_mute ciphers w eui key)
  each_event (events.Meter eui psk) = is_mute _ _ (meter_mute ciphers w eui psk)
  each_event (events.Depot node) = is_mute _ _ (depot_mute ciphers w node)
  each_event (events.Near a b cost) = is_mute _ _ (near_mute ciphers w a b cost)
  each_event (events.Counter node value) = is_mute _ _ (preset_mute ciphers w node _)
  each_event (events.Number node value) = is_mute _ _ (preset_mute ciphers w node _)
  each_event (events.Allow node) = is_mute _ _ (allow_mute ciphers w node)
  each_event (events.RandomOctets node value) = is_mute _ _ (rand_mute ciphers w node value)
  each_event (events.Join node agent) = is_mute _ _ (join_mute ciphers w node agent)
  each_event (events.Leave node) = is_mute _ _ (leave_mute ciphers w node)
  each_event (events.Send from to datagram) = sends from to datagram
  each_event (events.Deliver flight node cost) = delivers flight node cost
  each_event (events.Inject node cost octets) = injects node cost octets
  each_event (events.Lose flight) = is_mute _ _ (lose_mute ciphers w flight)
  each_event (events.Break node next) = is_mute _ _ (breaks_mute ciphers w node next)
  each_event (events.Tick seconds) = is_mute _ _ (ticks_mute ciphers w seconds)
  each_event (events.Restart node) = is_mute _ _ (restart_mute ciphers w node)
  each_event (events.Cut node nth keeps_new) = is_mute _ _ (cut_mute ciphers w node nth keeps_new)
  each_event (events.Rekey index key) = is_mute _ _ (rekey_mute ciphers w index key)
  each_event (events.Challenge node) = is_mute _ _ (challenge_mute ciphers w node)
  each_event (events.Activate node index) = is_mute _ _ (activate_mute ciphers w node index)
  each_event (events.Kick node) = is_mute _ _ (kick_mute ciphers w node)
  each_event (events.Show node) = is_mute _ _ (show_mute ciphers w node)
  each_event events.Checks = is_mute _ _ (checks_mute ciphers w)
  each_event (events.Bcast node datagram) = is_mute _ _ (bcast_mute ciphers w node datagram)
  each_event (events.Scan node) = is_mute _ _ (scan_mute ciphers w node)
  each_event (events.Choose node k) = is_mute _ _ (choose_mute ciphers w node k)
  each_event (events.Path from to) = is_mute _ _ (path_mute ciphers w from to)

-- # What came

sends_hand_none : (ciphers : Ciphers) (w : World) (from to : ℕ) (datagram : List ℕ) (x : Node) (address : Option ℕ)
    → (sends_by ciphers w from to datagram x address).1.happenings.up ≡ None
sends_hand_none ciphers w from to datagram x None = refl
sends_hand_none ciphers w from to datagram x (Some address) = by_taken _ _
  where
    by_taken : (b : Bool) (d : NodeStep Answer) → (sent_if w from to datagram (tag_of x) b (node_outcome ciphers w from d)).1.happenings.up ≡ None
    by_taken true d = refl
    by_taken false d = refl

module _ (ciphers : Ciphers) (w : World) where
  abbrev CameIn : Event → World × Trace → Type 0
  CameIn event r = IfSome r.1.happenings.up (DatagramCame ciphers w event)

  silent_came : (event : Event) (r : World × Trace) → IsMute r → CameIn event r
  silent_came event r quiet = if_none (DatagramCame ciphers w event) r.1.happenings.up quiet.0

  sends_came : (from to : ℕ) (datagram : List ℕ) → StepHas (CameIn (events.Send from to datagram)) (send ciphers w from to datagram)
  unfolding send
  sends_came from to datagram =
      once _ w _ (at_node _ w from _ (λ x e. at_node _ w to _ (λ y f.
      Taken _ (if_none (DatagramCame ciphers w (events.Send from to datagram)) _ (sends_hand_none ciphers w from to datagram x (node_address y))))))

  delivers_came : (flight number cost : ℕ) → StepHas (CameIn (events.Deliver flight number cost)) (delivers ciphers w flight number cost)
  unfolding delivers
  delivers_came flight number cost =
      once _ w _ (at_node _ w number _ (λ x e. at_flight _ w flight _ (λ f g.
      Taken _ (came_here ciphers w (events.Deliver flight number cost) number cost x f.octets e (OfFlight flight number cost f g)))))

  injects_came : (number cost : ℕ) (octets : List ℕ) → StepHas (CameIn (events.Inject number cost octets)) (injects ciphers w number cost octets)
  unfolding injects
  injects_came number cost octets =
      once _ w _ (at_node _ w number _ (λ x e.
      Taken _ (came_here ciphers w (events.Inject number cost octets) number cost x octets e (OfScript number cost octets))))

pub datagrams_came : DatagramsCame
datagrams_came ciphers w v event d e =
    outcome_has (CameIn ciphers w event) (line_step ciphers w event) (v, d)
    (each_event ciphers w (CameIn ciphers w) (silent_came ciphers w) (sends_came ciphers w) (delivers_came ciphers w) (injects_came ciphers w) event) e

-- # What was sent

module _ (ciphers : Ciphers) (w : World) (from to dest : ℕ) (datagram : List ℕ) (x y : Node) (m : Memory) (there : node_at w from ≡ Some x)
    (target : node_at w to ≡ Some y) (address : node_address y ≡ Some dest) (runs : x.memory ≡ Some m) (d : NodeStep Answer) where
  abbrev after : Bool → World × Trace
  after b = sent_if w from to datagram (tag_of x) b (node_outcome ciphers w from d)

  by_taken : (b : Bool) → is_taken d.answer ≡ b → SendEventFate ciphers w from dest datagram m.station (after b)
      → IfSome (after b).1.sent (λ s. SendFlew ciphers w (events.Send from to datagram) s (after b))
  by_taken true e fate =
      record {
        line = refl;
        node = x;
        there = there;
        memory = m;
        runs = runs;
        target = y;
        is_target = target;
        address = dest;
        has_address = address;
        tag = λ i. option_map_or (λ n. n.station.next_tag) (runs i) 0;
        taken = e;
        fate = fate;
      }
  by_taken false e fate = tt

module _ (ciphers : Ciphers) (w : World) where
  abbrev FlewIn : Event → World × Trace → Type 0
  FlewIn event r = IfSome r.1.sent (λ s. SendFlew ciphers w event s r)

  silent_flew : (event : Event) (r : World × Trace) → IsMute r → FlewIn event r
  silent_flew event r quiet = if_none (λ s. SendFlew ciphers w event s r) r.1.sent quiet.1

  not_taken : (from to dest : ℕ) (datagram : List ℕ) (x : Node) → x.memory ≡ None → (sends_by ciphers w from to datagram x (Some dest)).1.sent ≡ None
  unfolding acts
  not_taken from to dest datagram x halted =
      by_step (acts x (Err refusals.Halted) plan)
      (λ i. option_map_or (λ n. left_by x (carry_out x.store.records x.store.cut (plan n))) (halted i) (stays x (Err refusals.Halted)))
    where
      plan : Memory → Plan Memory (Result SentHow SendRefusal)
      plan m = of_station m (calls.send m.station dest datagram (w.sends + 1) w.clock)

      by_step : (d : NodeStep (Result SentHow SendRefusal)) → d ≡ stays x (Err refusals.Halted)
          → (sent_if w from to datagram (tag_of x) (is_taken (sent_word d.answer)) (node_outcome ciphers w from (answering sent_word d))).1.sent ≡ None
      by_step d e =
          ap (λ (d : NodeStep (Result SentHow SendRefusal)).
          (sent_if w from to datagram (tag_of x) (is_taken (sent_word d.answer)) (node_outcome ciphers w from (answering sent_word d))).1.sent) e

  sent_flew : (from to : ℕ) (datagram : List ℕ) (x y : Node) → node_at w from ≡ Some x → node_at w to ≡ Some y → (address : Option ℕ)
      → node_address y ≡ address → (memory : Option Memory) → x.memory ≡ memory
      → FlewIn (events.Send from to datagram) (sends_by ciphers w from to datagram x address)
  sent_flew from to datagram x y there target None none memory is = tt
  sent_flew from to datagram x y there target (Some dest) some None halted =
      if_none (λ s. SendFlew ciphers w (events.Send from to datagram) s (sends_by ciphers w from to datagram x (Some dest))) _
      (not_taken from to dest datagram x halted)
  sent_flew from to datagram x y there target (Some dest) some (Some m) runs =
      by_taken ciphers w from to dest datagram x y m there target some runs _ _ refl (send_outcome ciphers w from to dest datagram x m there runs)

  sends_flew : (from to : ℕ) (datagram : List ℕ) → StepHas (FlewIn (events.Send from to datagram)) (send ciphers w from to datagram)
  unfolding send
  sends_flew from to datagram =
      once _ w _ (at_node _ w from _ (λ x e. at_node _ w to _ (λ y f.
      Taken _ (sent_flew from to datagram x y e f (node_address y) refl x.memory refl))))

  delivers_none : (flight number cost : ℕ) → StepHas (FlewIn (events.Deliver flight number cost)) (delivers ciphers w flight number cost)
  unfolding delivers
  delivers_none flight number cost =
      once _ w _ (at_node _ w number _ (λ x e. at_flight _ w flight _ (λ f g.
      Taken _ (if_none (λ s. SendFlew ciphers w (events.Deliver flight number cost) s (comes ciphers w number x f.octets cost)) _
      (no_send ciphers w number cost x f.octets)))))

  injects_none : (number cost : ℕ) (octets : List ℕ) → StepHas (FlewIn (events.Inject number cost octets)) (injects ciphers w number cost octets)
  unfolding injects
  injects_none number cost octets =
      once _ w _ (at_node _ w number _ (λ x e.
      Taken _ (if_none (λ s. SendFlew ciphers w (events.Inject number cost octets) s (comes ciphers w number x octets cost)) _
      (no_send ciphers w number cost x octets))))

pub sends_fly : SendsFly
sends_fly ciphers w v event d e =
    outcome_has (FlewIn ciphers w event) (line_step ciphers w event) (v, d)
    (each_event ciphers w (FlewIn ciphers w) (silent_flew ciphers w) (sends_flew ciphers w) (delivers_none ciphers w) (injects_none ciphers w) event) e
