-- Every event of a line with further reach keeps the addresses of the book and the issued keys, unless it is forged.
use Rattle.std.proofs.Common.{◌≡◌, ◌≢◌, ℕ, Bool, true, false, List, [], ◌∷◌, ◌++◌, Option, Some, None, Result, Ok, Err, append-nil, refl}
use Rattle.std.proofs.Common.{sym, ap, ◌∙◌, subst}
use Rattle.std.specs.Prelude.{if◌then◌else◌, All}
use Rattle.pan_discovery.specs.declared.message.Discovery.{Discovery}
use Rattle.pan_discovery.specs.Agents.{kth_of}
use Rattle.plc_base.specs.declared.key.Key.{Key}
use Rattle.node_rules.specs.Accepted.{Accepted}
use Rattle.node_rules.specs.declared.refusal.FrameRefusal.{FrameRefusal}
use Rattle.node_rules.specs.declared.refusal.FrameRefusal.TheVariants as frames
use Rattle.node_rules.specs.Acceptance.{accept}
use Rattle.node_rules.specs.Ciphers.{Ciphers}
use Rattle.node_rules.specs.Drafts.{UnsealedUnit, choose as choose_plan, refused}
use Rattle.node_rules.specs.Frames.{arrived}
use Rattle.node_rules.specs.Memory.{Memory, Node}
use Rattle.node_rules.specs.Meters as meters
use Rattle.node_rules.specs.NodeSteps.{acts, of_station, stays}
use Rattle.node_rules.specs.Plans.{Plan, resting}
use Rattle.reach_rules.specs.declared.refusal.ChooseRefusal.{ChooseRefusal}
use Rattle.reach_rules.specs.declared.refusal.ChooseRefusal.TheVariants as choices
use Rattle.reach_rules.specs.Beacons.{ChosenAgent, choose_agent, choosing_ends, joins_by}
use Rattle.reach_rules.specs.ReachingNodes.{Beside}
use Rattle.line_events.specs.declared.event.Answer.TheVariants as answers
use Rattle.line_events.specs.declared.event.Event.{Event}
use Rattle.line_rules.specs.Answers.{only}
use Rattle.line_events.specs.Events.{IsEvent}
use Rattle.line_rules.specs.Forgery.{Comes, accepting}
use Rattle.line_rules.specs.Further.{beside_at, line_step, of_memory, reaches, with_beside}
use Rattle.line_rules.specs.Logs.{LogsKept}
use Rattle.line_rules.specs.Steps.{Step, identity, running_world, world_after}
use Rattle.line_rules.specs.Worlds.{World, Trace, Issued, node_at}
use Rattle.line_laws.specs.Keyed.{Each, Keyed, PeerIs, TagOk}
use Rattle.line_laws.specs.Lines.{FlightFits, NodeOk, WorldOk}
use Rattle.line_laws.specs.Owed.{AreOctets, KeepsRanges}
use Rattle.line_laws.proofs.AgreeSteps.{acts_nothing}
use Rattle.line_laws.proofs.FlightFolds.{came_octets}
use Rattle.line_laws.proofs.FurtherForms.{AnyUnits}
use Rattle.line_laws.proofs.FurtherSame.{AnyDiscovery, KeepsMade, OldStep, after_made, line_step_any, of_old}
use Rattle.line_laws.proofs.FurtherSeals.{further_quietly}
use Rattle.line_laws.proofs.FurtherStepKinds.{After, Anew, Besides, Carries, Chooses, Flies, IsLineStepBy, Known, Moves, Opens, Stays, Turns, Unbelieves}
use Rattle.line_laws.proofs.FurtherStepKinds.{Unsends, moved_ok}
use Rattle.line_laws.proofs.IssueCalls.{accept_quietly}
use Rattle.line_laws.proofs.IssueMeters.{MeterPlan, joins_made, joins_opened, joins_plan}
use Rattle.line_laws.proofs.IssueSteps.{Fails, StepKeyed, Taken, own_after, quiet_after, quiet_after_at}
use Rattle.line_laws.proofs.IssueSetup.{step_keyed}
use Rattle.line_laws.proofs.IssueWorlds.{same_keyed}
use Rattle.line_laws.proofs.StepsOk.{ran_ok as steps_ran_ok}
use Rattle.line_laws.proofs.Worlds.{at_place}

-- # What is chosen

-- a choice of an agent is a joining, or nothing
module _ (m : Memory) (b : Beside) (own : meters.Identity) (k now : ℕ) where
  pub chosen_plan : PeerIs own.eui m.session → ((agent : ℕ) → MeterPlan own.eui m.station.ring None (meters.join own m agent now))
      → MeterPlan own.eui m.station.ring None (with_beside b (λ y. choose_agent own y k now) m)
  unfolding choose_plan resting
  chosen_plan session joins = by_joined (meters.is_joined m)
    where
      none_plan : (reason : ChooseRefusal) → MeterPlan own.eui m.station.ring None
          (of_memory (refused {H = ChosenAgent} choosing_ends (record { memory = m; beside = b }) reason))
      none_plan reason = record { puts = tt; session = session; made = tt }

      by_agent : (o : Option (ℕ × ℕ)) → MeterPlan own.eui m.station.ring None (of_memory (joins_by own (record { memory = m; beside = b }) now o))
      by_agent None = none_plan choices.NoBeacon
      by_agent (Some (address, total)) = let j = joins address in record { puts = j.puts; session = j.session; made = j.made }

      by_joined : (t : Bool) → MeterPlan own.eui m.station.ring None
          (of_memory (if t then refused choosing_ends (record { memory = m; beside = b }) choices.AlreadyJoined else joins_by own
          (record { memory = m; beside = b }) now (kth_of b.scan.agents k)))
      by_joined true = none_plan choices.AlreadyJoined
      by_joined false = by_agent (kth_of b.scan.agents k)

  pub chosen_opened : (with_beside b (λ y. choose_agent own y k now) m).opened ≡ []
  unfolding choose_plan resting
  chosen_opened = by_joined (meters.is_joined m)
    where
      by_agent : (o : Option (ℕ × ℕ)) → (of_memory (joins_by own (record { memory = m; beside = b }) now o)).opened ≡ []
      by_agent None = refl
      by_agent (Some (address, total)) = joins_opened own m address now

      by_joined : (t : Bool) → (of_memory (if t then refused choosing_ends (record { memory = m; beside = b }) choices.AlreadyJoined else joins_by own
          (record { memory = m; beside = b }) now (kth_of b.scan.agents k))).opened ≡ []
      by_joined true = refl
      by_joined false = by_agent (kth_of b.scan.agents k)

  pub chosen_made : (with_beside b (λ y. choose_agent own y k now) m).made ≡ []
  unfolding choose_plan resting
  chosen_made = by_joined (meters.is_joined m)
    where
      by_agent : (o : Option (ℕ × ℕ)) → (of_memory (joins_by own (record { memory = m; beside = b }) now o)).made ≡ []
      by_agent None = refl
      by_agent (Some (address, total)) = joins_made own m address now

      by_joined : (t : Bool) → (of_memory (if t then refused choosing_ends (record { memory = m; beside = b }) choices.AlreadyJoined else joins_by own
          (record { memory = m; beside = b }) now (kth_of b.scan.agents k))).made ≡ []
      by_joined true = refl
      by_joined false = by_agent (kth_of b.scan.agents k)

-- # Moves

pub moved_keyed : (U : List UnsealedUnit → Type 0) (D : Discovery → Type 0) (ciphers : Ciphers) (fits : KeepsRanges ciphers) (v u : World)
    → Moves U D ciphers v u
    → WorldOk v → v.running ≡ true → (given : List Issued) → Keyed v given → Keyed u given
moved_keyed U D ciphers fits v u (Stays z) ok runs given k = k
moved_keyed U D ciphers fits v u (Carries z number x A halted does there is) ok runs given k =
    quiet_after_at ciphers fits v given k number x there (at_place NodeOk v.nodes number x there ok.nodes) halted does
    (λ m here sized. further_quietly m (does m) (is m here))
moved_keyed U D ciphers fits v u (Flies z number x frame there known) ok runs given k = same_keyed v _ given k refl refl
moved_keyed U D ciphers fits v u (Besides z on bs) ok runs given k = same_keyed v _ given k refl refl
moved_keyed U D ciphers fits v u (Turns z between y first rest) ok runs given k =
    let m = moved_ok U D ciphers fits v between first ok runs in
    moved_keyed U D ciphers fits between u rest m.0 m.1 given (moved_keyed U D ciphers fits v between first ok runs given k)

-- what holds of each of a list holds of each that comes first
pub front_each : {A : Type 0} (P : A → Type 0) (xs ys : List A) → Each P (xs ++ ys) → Each P xs
front_each P [] ys h = tt
front_each P (x ∷ xs) ys h = (h.0, front_each P xs ys h.1)

front_none : {A : Type 0} (xs ys : List A) → xs ++ ys ≡ [] → xs ≡ []
front_none [] ys e = refl
front_none (x ∷ xs) ys e = absurd (cc (e))

-- where fewer tags were made
pub unsent_keyed : (w v u : World) (given : List Issued) → KeepsMade w v → u.nodes ≡ v.nodes → u.made ≡ w.made → Keyed v given → Keyed u given
unsent_keyed w v u given on nodes made k =
    let kept : World = record v { made = w.made } in
    let before : Keyed kept given = record {
      book = k.book;
      coordinator = k.coordinator;
      meters = k.meters;
      made = front_each (TagOk k.book given) w.made on.0 (subst (Each (TagOk k.book given)) on.1 k.made);
      roles = k.roles;
      apart = k.apart;
      still = λ none. front_none w.made on.0 (sym on.1 ∙ k.still none);
      named = k.named;
    } in
    same_keyed kept u given before nodes made

-- # Events

module _ (ciphers : Ciphers) (fits : KeepsRanges ciphers) (w : World) (ok : WorldOk w) (flown : All FlightFits w.flights) (given : List Issued)
    (k : Keyed w given) where
  ran_keyed : Keyed (running_world w) given
  ran_keyed = same_keyed w (running_world w) given k refl refl

  of_none : (r : World × Trace) → r.1.issued ≡ [] → Keyed r.0 given → StepKeyed w given (Ok r)
  of_none r none h = Taken r (λ honest. subst (Keyed r.0) (sym (append-nil given) ∙ ap (λ more. given ++ more) (sym none)) h)

  keyed_then : (r : World × Trace) → StepKeyed w given (Ok r) → r.1.happenings.forged ≡ false → Keyed r.0 (given ++ r.1.issued)
  keyed_then r (Taken z f) honest = f honest

  -- so it is of the event without further reach
  pub old_keyed : (event : Event) → IsEvent event → (r : World × Trace) → OldStep ciphers w event (Ok r) → r.1.happenings.forged ≡ false
      → Keyed r.0 (given ++ r.1.issued)
  old_keyed event says r old honest = keyed_then r (of_old ciphers w event (StepKeyed w given) (λ fault. Fails fault)
      (step_keyed ciphers fits w ok flown given k event says) (Ok r) old) honest

  good_at : (number : ℕ) (x : Node) → node_at w number ≡ Some x → NodeOk x
  good_at number x there = at_place NodeOk w.nodes number x there ok.nodes

  -- what a node is that accepted octets and does nothing more
  rests_keyed : {A : Type 0} (answer : A) (event : Event) (number : ℕ) (x : Node) (octets : List ℕ) → node_at w number ≡ Some x → IsEvent event
      → Comes w event number octets → Keyed (world_after ciphers (running_world w) number (stays (accepting ciphers x octets).node answer)) given
  unfolding world_after
  rests_keyed answer event number x octets there says comes =
      let are : AreOctets octets = came_octets ciphers fits w ok flown event number octets says comes in
      let plan : Memory → Plan Memory (Result Accepted FrameRefusal) = λ m. of_station m (accept m.station x.eui (arrived ciphers octets)) in
      let none : (accepting ciphers x octets).made ≡ [] =
      acts_nothing x (Err frames.Halted) plan (λ m here. (accept_quietly ciphers fits octets are m x.eui).made) in
      same_keyed (world_after ciphers (running_world w) number (acts x (Err frames.Halted) plan))
      (world_after ciphers (running_world w) number (stays (accepting ciphers x octets).node answer))
      given
      (quiet_after ciphers fits (running_world w) given ran_keyed number x there (good_at number x there) (Err frames.Halted) plan
      (λ m sized. accept_quietly ciphers fits octets are m x.eui)) refl (ap (λ more. w.made ++ more) (sym none))

  chosen_keyed : (number k : ℕ) (x : Node) (psk : Key) → number ≢ 0 → node_at w number ≡ Some x
      → Keyed (world_after ciphers (running_world w) number
      (reaches x (beside_at w number) (Err choices.Halted) (λ y. choose_agent (identity ciphers x psk) y k w.clock))) given
  chosen_keyed number k x psk ne there =
      own_after ciphers fits (running_world w) given ran_keyed number x ne there (good_at number x there) (Err choices.Halted)
      (with_beside (beside_at w number) (λ y. choose_agent (identity ciphers x psk) y k w.clock))
      (λ m reads session. chosen_plan m (beside_at w number) (identity ciphers x psk) k w.clock session
      (λ agent. joins_plan (identity ciphers x psk) m agent w.clock reads session))
      (λ m. chosen_opened m (beside_at w number) (identity ciphers x psk) k w.clock)

  module _ (U : List UnsealedUnit → Type 0) (D : Discovery → Type 0) where
    pub line_keyed_is : (event : Event) → IsEvent event → (s : Step) → IsLineStepBy (OldStep ciphers w) U D ciphers w event s → StepKeyed w given s
    line_keyed_is event says s (Known e z old) = of_old ciphers w event (StepKeyed w given) (λ fault. Fails fault)
        (step_keyed ciphers fits w ok flown given k event says) s old
    line_keyed_is event says s (Opens begun) = of_none _ refl (same_keyed w _ given k refl refl)
    line_keyed_is event says s (Anew e v t moves silent) =
        of_none (v, t) silent.issued (moved_keyed U D ciphers fits (running_world w) v moves (steps_ran_ok ciphers fits w ok flown) refl given ran_keyed)
    line_keyed_is event says s (After e r v t old good runs moves same_words) = Taken (v, t) (λ honest.
        let h = old_keyed event says r old (sym same_words.forged ∙ honest) in
        subst (λ more. Keyed v (given ++ more)) (sym same_words.issued) (moved_keyed U D ciphers fits r.0 v moves good runs (given ++ r.1.issued) h))
    line_keyed_is event says s (Unsends e r v t old good runs moves same_words) = Taken _ (λ honest.
        let h = old_keyed event says r old (sym same_words.forged ∙ honest) in
        unsent_keyed w v _ (given ++ t.issued) (after_made U D ciphers w event r v old moves) refl refl
        (subst (λ more. Keyed v (given ++ more)) (sym same_words.issued) (moved_keyed U D ciphers fits r.0 v moves good runs (given ++ r.1.issued) h)))
    line_keyed_is event says s (Unbelieves e number x octets got there known comes is) =
        of_none _ refl (same_keyed (world_after ciphers (running_world w) number (stays (accepting ciphers x octets).node (only answers.Blacklisted))) _ given
        (rests_keyed (only answers.Blacklisted) event number x octets there known comes) refl refl)
    line_keyed_is event says s (Chooses number count x psk ne there pair) =
        of_none _ refl (same_keyed (world_after ciphers (running_world w) number
        (reaches x (beside_at w number) (Err choices.Halted) (λ y. choose_agent (identity ciphers x psk) y count w.clock))) _ given
        (chosen_keyed number count x psk ne there) refl refl)

  -- the addresses of the book, and the keys that were issued up to then
  pub line_keyed : LogsKept w → (event : Event) → IsEvent event → StepKeyed w given (line_step ciphers w event)
  line_keyed logs event says = line_keyed_is AnyUnits AnyDiscovery event says (line_step ciphers w event)
      (line_step_any ciphers fits w ok flown logs event says)
