-- Every event of a line with further reach keeps that each fourth packet's tag is of a taking, unless it is forged; and what it issues is what
-- it issues without further reach.
use Rattle.std.proofs.Common.{◌≡◌, ℕ, true, false, List, ◌++◌, Some, None, Ok, Err, append-nil, refl, sym, ap, ◌∙◌, subst}
use Rattle.std.specs.Prelude.{All, IfSome}
use Rattle.pan_discovery.specs.declared.message.Discovery.{Discovery}
use Rattle.node_rules.specs.declared.refusal.FrameRefusal.TheVariants as frames
use Rattle.node_rules.specs.Acceptance.{accept}
use Rattle.node_rules.specs.Ciphers.{Ciphers}
use Rattle.node_rules.specs.Drafts.{UnsealedUnit}
use Rattle.node_rules.specs.Frames.{arrived}
use Rattle.node_rules.specs.Memory.{Node, Coordinator}
use Rattle.node_rules.specs.NodeSteps.{acts, of_station, stays}
use Rattle.plc_base.specs.declared.address.Eui.{Eui}
use Rattle.reach_rules.specs.declared.refusal.ChooseRefusal.TheVariants as choices
use Rattle.reach_rules.specs.Beacons.{choose_agent}
use Rattle.line_events.specs.declared.event.Answer.TheVariants as answers
use Rattle.line_events.specs.declared.event.Event.{Event}
use Rattle.line_rules.specs.Answers.{only}
use Rattle.line_events.specs.Events.{IsEvent}
use Rattle.line_rules.specs.Forgery.{accepting}
use Rattle.line_rules.specs.Further.{beside_at, line_step, reaches, with_beside}
use Rattle.line_rules.specs.Logs.{LogsKept}
use Rattle.line_rules.specs.Runs.{one_of}
use Rattle.line_rules.specs.Steps.{Step, identity, running_world, world_after}
use Rattle.line_rules.specs.Worlds.{World, Trace, Issued, Pairing, node_at}
use Rattle.line_laws.specs.Agreed.{Confirmed, TagTaken}
use Rattle.line_laws.specs.IssuedRight.{IsIssuedRight}
use Rattle.line_laws.specs.Keyed.{Among, Each, Keyed}
use Rattle.line_laws.specs.Lines.{FlightFits, WorldOk}
use Rattle.line_laws.specs.Owed.{KeepsRanges}
use Rattle.line_laws.specs.Shut.{ShutAt}
use Rattle.line_laws.proofs.AgreeSteps.{Happened, Refused, StepAgrees, acts_eui, acts_nothing, step_agrees, after_nothing}
use Rattle.line_laws.proofs.FurtherForms.{AnyUnits}
use Rattle.line_laws.proofs.FurtherKeyed.{chosen_made, front_each}
use Rattle.line_laws.proofs.FurtherSame.{AnyDiscovery, KeepsMade, OldStep, after_made, line_step_any, of_old}
use Rattle.line_laws.proofs.FurtherSeals.{further_makes}
use Rattle.line_laws.proofs.FurtherStepKinds.{After, Anew, Besides, Carries, Chooses, Flies, IsLineStepBy, Known, Moves, Opens, Stays, Turns, Unbelieves}
use Rattle.line_laws.proofs.FurtherStepKinds.{Unsends}
use Rattle.line_laws.proofs.IssuedNamed.{IssueNamed, StepNamed, names}
use Rattle.line_laws.proofs.KeysStood.{IssuedBy, StoodIn, ToOther, keys_other, keys_right, keys_stood}
use Rattle.line_laws.proofs.StepKinds.{IsStep}

-- # Joinings that agree

moved_confirmed : (U : List UnsealedUnit → Type 0) (D : Discovery → Type 0) (ciphers : Ciphers) (v u : World) → Moves U D ciphers v u → (taken : List Pairing)
    → Confirmed v taken → Confirmed u taken
moved_confirmed U D ciphers v u (Stays z) taken c = c
moved_confirmed U D ciphers v u (Carries z number x A halted does there is) taken c =
    after_nothing ciphers v number x (acts x halted does) there (acts_eui x halted does) taken c
    (acts_nothing x halted does (λ m here. further_makes m (does m) (is m here)))
moved_confirmed U D ciphers v u (Flies z number x frame there known) taken c = c
moved_confirmed U D ciphers v u (Besides z on bs) taken c = c
moved_confirmed U D ciphers v u (Turns z between y first rest) taken c = moved_confirmed U D ciphers between u rest taken
    (moved_confirmed U D ciphers v between first taken c)

unsent_confirmed : (w v : World) (taken : List Pairing) → KeepsMade w v → Confirmed v taken → Each (TagTaken v.nodes taken) w.made
unsent_confirmed w v taken on c = front_each (TagTaken v.nodes taken) w.made on.0 (subst (Each (TagTaken v.nodes taken)) on.1 c)

module _ (ciphers : Ciphers) (fits : KeepsRanges ciphers) (w : World) (ok : WorldOk w) (flown : All FlightFits w.flights) (given : List Issued)
    (k : Keyed w given) (taken : List Pairing) (c : Confirmed w taken) where
  of_none : (r : World × Trace) → r.1.taken ≡ None → r.1.done ≡ None → Confirmed r.0 taken → StepAgrees w taken (Ok r)
  of_none r none undone h = Happened r (λ honest. (
    subst (Confirmed r.0) (sym (append-nil taken) ∙ ap (λ o. taken ++ one_of o) (sym none)) h,
    subst (λ o. IfSome o (λ p. Among p taken)) (sym undone) tt,
  ))

  agreed_then : (r : World × Trace) → StepAgrees w taken (Ok r) → r.1.happenings.forged ≡ false → Confirmed r.0 (taken ++ one_of r.1.taken) × IfSome r.1.done
      (λ p. Among p taken)
  agreed_then r (Happened z f) honest = f honest

  rests_confirmed : {A : Type 0} (answer : A) (number : ℕ) (x : Node) (octets : List ℕ) → node_at w number ≡ Some x
      → Confirmed (world_after ciphers (running_world w) number (stays (accepting ciphers x octets).node answer)) taken
  rests_confirmed answer number x octets there =
      after_nothing ciphers (running_world w) number x (stays (accepting ciphers x octets).node answer) there
      (acts_eui x (Err frames.Halted) (λ m. of_station m (accept m.station x.eui (arrived ciphers octets)))) taken c refl

  module _ (U : List UnsealedUnit → Type 0) (D : Discovery → Type 0) where
    old_agrees : (event : Event) → IsEvent event → (s : Step) → OldStep ciphers w event s → StepAgrees w taken s
    old_agrees event says s old = of_old ciphers w event (StepAgrees w taken) (λ fault. Refused fault)
        (step_agrees ciphers fits w ok flown given k taken c event says) s old

    pub line_agrees_is : (event : Event) → IsEvent event → (s : Step) → IsLineStepBy (OldStep ciphers w) U D ciphers w event s → StepAgrees w taken s
    line_agrees_is event says s (Known e z old) = old_agrees event says s old
    line_agrees_is event says s (Opens begun) = of_none _ refl refl c
    line_agrees_is event says s (Anew e v t moves silent) =
        of_none (v, t) silent.taken silent.done (moved_confirmed U D ciphers (running_world w) v moves taken c)
    line_agrees_is event says s (After e r v t old good runs moves same_words) = Happened (v, t) (λ honest.
        let h = agreed_then r (old_agrees event says (Ok r) old) (sym same_words.forged ∙ honest) in (
          subst (λ o. Confirmed v (taken ++ one_of o)) (sym same_words.taken) (moved_confirmed U D ciphers r.0 v moves (taken ++ one_of r.1.taken) h.0),
          subst (λ o. IfSome o (λ p. Among p taken)) (sym same_words.done) h.1,
        ))
    line_agrees_is event says s (Unsends e r v t old good runs moves same_words) = Happened _ (λ honest.
        let h = agreed_then r (old_agrees event says (Ok r) old) (sym same_words.forged ∙ honest) in (
          unsent_confirmed w v (taken ++ one_of t.taken) (after_made U D ciphers w event r v old moves)
              (subst (λ o. Confirmed v (taken ++ one_of o)) (sym same_words.taken) (moved_confirmed U D ciphers r.0 v moves (taken ++ one_of r.1.taken) h.0)),
          subst (λ o. IfSome o (λ p. Among p taken)) (sym same_words.done) h.1,
        ))
    line_agrees_is event says s (Unbelieves e number x octets got there known comes is) =
        of_none _ refl refl (rests_confirmed (only answers.Blacklisted) number x octets there)
    line_agrees_is event says s (Chooses number count x psk ne there pair) = of_none _ refl refl
        (after_nothing ciphers (running_world w) number x (reaches x (beside_at w number) (Err choices.Halted)
        (λ y. choose_agent (identity ciphers x psk) y count w.clock)) there
        (acts_eui x (Err choices.Halted) (with_beside (beside_at w number) (λ y. choose_agent (identity ciphers x psk) y count w.clock))) taken c
        (acts_nothing x (Err choices.Halted) (with_beside (beside_at w number) (λ y. choose_agent (identity ciphers x psk) y count w.clock))
        (λ m here. chosen_made m (beside_at w number) (identity ciphers x psk) count w.clock)))

  pub line_agrees : LogsKept w → (event : Event) → IsEvent event → StepAgrees w taken (line_step ciphers w event)
  line_agrees logs event says = line_agrees_is AnyUnits AnyDiscovery event says (line_step ciphers w event)
      (line_step_any ciphers fits w ok flown logs event says)

-- # What is issued

-- each key that an event issues
abbrev pub IssuedIn : (Issued → Type 0) → Step → Type 0
IssuedIn P (Ok r) = Each P r.1.issued
IssuedIn P (Err fault) = Unit {0}

pub line_issued : (U : List UnsealedUnit → Type 0) (D : Discovery → Type 0) (ciphers : Ciphers) (w : World) (P : Issued → Type 0) (event : Event)
    → ((s : Step) → IsStep ciphers w event s → IssuedIn P s)
    → (s : Step) → IsLineStepBy (OldStep ciphers w) U D ciphers w event s → IssuedIn P s
line_issued U D ciphers w P event f s (Known e z old) = f s old.is
line_issued U D ciphers w P event f s (Opens begun) = tt
line_issued U D ciphers w P event f s (Anew e v t moves silent) = subst (Each P) (sym silent.issued) tt
line_issued U D ciphers w P event f s (After e r v t old good runs moves same_words) = subst (Each P) (sym same_words.issued) (f (Ok r) old.is)
line_issued U D ciphers w P event f s (Unsends e r v t old good runs moves same_words) = subst (Each P) (sym same_words.issued) (f (Ok r) old.is)
line_issued U D ciphers w P event f s (Unbelieves e number x octets got there known comes is) = tt
line_issued U D ciphers w P event f s (Chooses number count x psk ne there pair) = tt

module _ (ciphers : Ciphers) (fits : KeepsRanges ciphers) (w : World) (ok : WorldOk w) (flown : All FlightFits w.flights) (logs : LogsKept w) where
  -- the EUIs that keys are issued to are EUIs
  pub line_names : (event : Event) → IsEvent event → StepNamed (line_step ciphers w event)
  line_names event says = of_named (line_step ciphers w event)
      (line_issued AnyUnits AnyDiscovery ciphers w IssueNamed event (λ s is. in_named s (names ciphers fits w ok flown event s is)) (line_step ciphers w event)
      (line_step_any ciphers fits w ok flown logs event says))
    where
      in_named : (s : Step) → StepNamed s → IssuedIn IssueNamed s
      in_named (Ok r) h = h
      in_named (Err fault) h = tt

      of_named : (s : Step) → IssuedIn IssueNamed s → StepNamed s
      of_named (Ok r) h = h
      of_named (Err fault) h = tt

  module _ (first : (n : ℕ) (x : Node) → node_at w n ≡ Some x → x.role ≡ Coordinator → n ≡ 0) where
    in_issued : (P : Issued → Type 0) (s : Step) → IssuedBy ciphers fits w ok flown first P s → IssuedIn P s
    in_issued P (Ok r) h = h
    in_issued P (Err fault) h = tt

    of_issued : (P : Issued → Type 0) (s : Step) → IssuedIn P s → IssuedBy ciphers fits w ok flown first P s
    of_issued P (Ok r) h = h
    of_issued P (Err fault) h = tt

    line_issues : (P : Issued → Type 0) → ((e : Event) (s : Step) → IsStep ciphers w e s → IssuedBy ciphers fits w ok flown first P s) → (event : Event)
        → IsEvent event → IssuedBy ciphers fits w ok flown first P (line_step ciphers w event)
    line_issues P f event says = of_issued P (line_step ciphers w event)
        (line_issued AnyUnits AnyDiscovery ciphers w P event (λ s is. in_issued P s (f event s is)) (line_step ciphers w event)
        (line_step_any ciphers fits w ok flown logs event says))

    -- the keys of every event stand in the coordinator's ring before it
    pub line_keys_stood : (event : Event) → IsEvent event → IssuedBy ciphers fits w ok flown first (StoodIn ciphers fits w ok flown first)
        (line_step ciphers w event)
    line_keys_stood event says = line_issues (StoodIn ciphers fits w ok flown first) (λ e s is. keys_stood ciphers fits w ok flown first e s is) event says

    -- at their indexes, and to meters that the book allows or that the workshop joins
    pub line_keys_right : (event : Event) → IsEvent event → IssuedBy ciphers fits w ok flown first (IsIssuedRight w event) (line_step ciphers w event)
    line_keys_right event says = of_issued (IsIssuedRight w event) (line_step ciphers w event)
        (line_issued AnyUnits AnyDiscovery ciphers w (IsIssuedRight w event) event
        (λ s is. in_issued (IsIssuedRight w event) s (keys_right ciphers fits w ok flown first event s is)) (line_step ciphers w event)
        (line_step_any ciphers fits w ok flown logs event says))

    -- nothing is issued to a meter that is shut out, once setup is over
    pub line_keys_other : (eui : Eui) (shut : ShutAt eui w) (running : w.running ≡ true) (event : Event) → IsEvent event
        → IssuedBy ciphers fits w ok flown first (ToOther ciphers fits w ok flown first eui shut running) (line_step ciphers w event)
    line_keys_other eui shut running event says = line_issues (ToOther ciphers fits w ok flown first eui shut running)
        (λ e s is. keys_other ciphers fits w ok flown first eui shut running e s is) event says
