-- An event of a line with further reach, with the step of a line without it that it begins with: so what such a step keeps is kept up to there.
use Rattle.std.proofs.Common.{◌≡◌, ℕ, List, [], ◌++◌, Ok, Err, append-nil, refl, sym, ap, ◌∙◌, subst}
use Rattle.std.specs.Prelude.{All}
use Rattle.std.proofs.lemmas.List.{append_assoc}
use Rattle.plc_base.specs.declared.tags.PairTag.{PairTag}
use Rattle.pan_discovery.specs.declared.message.Discovery.{Discovery}
use Rattle.node_rules.specs.Ciphers.{Ciphers}
use Rattle.node_rules.specs.Drafts.{UnsealedUnit}
use Rattle.node_rules.specs.NodeSteps.{NodeStep, acts}
use Rattle.line_events.specs.declared.event.Event.{Event}
use Rattle.line_events.specs.declared.event.StepFault.{StepFault}
use Rattle.line_events.specs.Events.{IsEvent}
use Rattle.line_rules.specs.Further.{line_step}
use Rattle.line_rules.specs.Laws.{GoesOn}
use Rattle.line_rules.specs.Logs.{LogsKept}
use Rattle.line_rules.specs.Steps.{Step, step, world_after}
use Rattle.line_rules.specs.Worlds.{World, Trace}
use Rattle.line_rules.proofs.StepsOn.{steps}
use Rattle.line_laws.specs.Lines.{FlightFits, WorldOk}
use Rattle.line_laws.specs.Owed.{KeepsRanges}
use Rattle.line_laws.proofs.FurtherForms.{AnyUnits}
use Rattle.line_laws.proofs.FurtherStepKinds.{Besides, Carries, Flies, IsLineStepBy, Moves, Speaks, Stays, Turns, any_speaks, line_step_by}
use Rattle.line_laws.proofs.StepKinds.{IsStep, step_is}
use Rattle.line_laws.proofs.StepKinds.{Fails as OldFails}

-- What is known of it: how it is made, and that it is what the event does without further reach.
pub record OldStep (ciphers : Ciphers) (w : World) (event : Event) (s : Step) : Type 1 where
  pub is : IsStep ciphers w event s
  pub same : (r : World × Trace) → s ≡ Ok r → step ciphers w event ≡ Ok r

pub line_step_same : (U : List UnsealedUnit → Type 0) (D : Discovery → Type 0) (ciphers : Ciphers) (fits : KeepsRanges ciphers) (w : World) (ok : WorldOk w)
    (flown : All FlightFits w.flights) (logs : LogsKept w) (speaks : Speaks U D ciphers w)
    (event : Event) → IsEvent event → IsLineStepBy (OldStep ciphers w) U D ciphers w event (line_step ciphers w event)
line_step_same U D ciphers fits w ok flown logs speaks event says =
    line_step_by U D ciphers fits w ok flown logs speaks (OldStep ciphers w)
    (λ e fault. record { is = OldFails e fault; same = λ r is. absurd (cc (is)) }) (λ e event. record { is = step_is ciphers w e event; same = λ r is. is })
    event says

-- of frames of discovery nothing need be known
abbrev pub AnyDiscovery : Discovery → Type 0
AnyDiscovery frame = Unit {0}

-- of any units, where nothing else is known of them
pub line_step_any : (ciphers : Ciphers) (fits : KeepsRanges ciphers) (w : World) (ok : WorldOk w) (flown : All FlightFits w.flights) (logs : LogsKept w)
    (event : Event) → IsEvent event → IsLineStepBy (OldStep ciphers w) AnyUnits AnyDiscovery ciphers w event (line_step ciphers w event)
line_step_any ciphers fits w ok flown logs event says =
    line_step_same AnyUnits AnyDiscovery ciphers fits w ok flown logs
    (any_speaks AnyDiscovery ciphers w logs tt (λ number x m octets link frame there here e. tt)) event says

-- what holds of the step of the event without further reach
pub of_old : (ciphers : Ciphers) (w : World) (event : Event) (Good : Step → Type 0) → ((fault : StepFault) → Good (Err fault)) → Good (step ciphers w event)
    → (s : Step) → OldStep ciphers w event s → Good s
of_old ciphers w event Good fails good (Ok r) old = subst Good (old.same r refl) good
of_old ciphers w event Good fails good (Err fault) old = fails fault

-- # Tags

-- the pair tags that were made stay
abbrev pub KeepsMade : World → World → Type 0
KeepsMade w v = (more : List PairTag) × (v.made ≡ w.made ++ more)

keeps_both : (w v u : World) → KeepsMade w v → KeepsMade v u → KeepsMade w u
keeps_both w v u one two = (one.0 ++ two.0, two.1 ∙ ap (λ xs. xs ++ two.0) one.1 ∙ append_assoc w.made one.0 two.0)

made_after : {A : Type 0} (ciphers : Ciphers) (w : World) (number : ℕ) (d : NodeStep A) → (world_after ciphers w number d).made ≡ w.made ++ d.made
unfolding world_after
made_after ciphers w number d = refl

pub moved_made : (U : List UnsealedUnit → Type 0) (D : Discovery → Type 0) (ciphers : Ciphers) (v u : World) → Moves U D ciphers v u → KeepsMade v u
moved_made U D ciphers v u (Stays z) = ([], sym (append-nil v.made))
moved_made U D ciphers v u (Carries z number x A halted does there is) = ((acts x halted does).made, made_after ciphers v number (acts x halted does))
moved_made U D ciphers v u (Flies z number x frame there known) = ([], sym (append-nil v.made))
moved_made U D ciphers v u (Besides z on bs) = ([], sym (append-nil v.made))
moved_made U D ciphers v u (Turns z between y first rest) = keeps_both v between u (moved_made U D ciphers v between first)
    (moved_made U D ciphers between u rest)

-- so do those before the event
pub old_on : (ciphers : Ciphers) (w : World) (event : Event) (r : World × Trace) → OldStep ciphers w event (Ok r) → GoesOn w r.0
old_on ciphers w event r old = steps ciphers w r.0 event r.1 (old.same r refl)

pub after_made : (U : List UnsealedUnit → Type 0) (D : Discovery → Type 0) (ciphers : Ciphers) (w : World) (event : Event) (r : World × Trace) (v : World)
    → OldStep ciphers w event (Ok r) → Moves U D ciphers r.0 v → KeepsMade w v
after_made U D ciphers w event r v old moves = keeps_both w r.0 v (old_on ciphers w event r old).made (moved_made U D ciphers r.0 v moves)
