-- What holds of each outcome of an event, by the tests of its step.
use Rattle.std.proofs.Common.{◌≡◌, ℕ, ◌==◌, Bool, true, false, Option, Some, None, Ok, Err, refl, subst}
use Rattle.std.specs.Prelude.{if◌then◌else◌}
use Rattle.std.specs.Option.{option_map_or}
use Rattle.node_rules.specs.Memory.{Node}
use Rattle.line_events.specs.declared.event.StepFault.{StepFault}
use Rattle.line_events.specs.declared.event.StepFault.TheVariants as faults
use Rattle.line_rules.specs.Steps.{Step, has_begun, takes_setup, once_begun, in_setup, on_node, on_meter, on_flight}
use Rattle.line_rules.specs.Worlds.{World, Flight, Trace, node_at, flight_at}

-- a step is not taken, or P holds of what it gives
pub data StepHas (P : World × Trace → Type 0) : Step → Type 0 where
  Fails : (fault : StepFault) → StepHas P (Err fault)
  Taken : (r : World × Trace) → P r → StepHas P (Ok r)

same_outcome : (p r : World × Trace) → ◌≡◌ {A = Step} (Ok p) (Ok r) → p ≡ r
same_outcome p r e = cc

module _ (P : World × Trace → Type 0) where
  pub outcome_has : (s : Step) (r : World × Trace) → StepHas P s → s ≡ Ok r → P r
  outcome_has s r (Fails fault) e = absurd (cc)
  outcome_has s r (Taken p has) e = subst P (same_outcome p r e) has

  pub branch : (b : Bool) (p q : Step) → StepHas P p → StepHas P q → StepHas P (if b then p else q)
  branch true p q s t = s
  branch false p q s t = t

  pub by_option : {X : Type 0} (f : X → Step) (x : Option X) (p : Step) → ((y : X) → x ≡ Some y → StepHas P (f y)) → StepHas P p
      → StepHas P (option_map_or f x p)
  by_option f None p s t = t
  by_option f (Some y) p s t = s y refl

module _ (P : World × Trace → Type 0) (w : World) where
  pub once : (s : Step) → StepHas P s → StepHas P (once_begun w s)
  once s h = branch P (has_begun w) s (Err faults.Setup) h (Fails faults.Setup)

  pub setup : (s : Step) → StepHas P s → StepHas P (in_setup w s)
  setup s h = branch P (takes_setup w) s (Err faults.Setup) h (Fails faults.Setup)

  pub at_node : (number : ℕ) (f : Node → Step) → ((x : Node) → node_at w number ≡ Some x → StepHas P (f x)) → StepHas P (on_node w number f)
  at_node number f h = by_option P f (node_at w number) (Err faults.Node) h (Fails faults.Node)

  pub at_meter : (number : ℕ) (f : Node → Step) → ((x : Node) → node_at w number ≡ Some x → StepHas P (f x)) → StepHas P (on_meter w number f)
  at_meter number f h = branch P (number == 0) (Err faults.Node) (on_node w number f) (Fails faults.Node) (at_node number f h)

  pub at_flight : (number : ℕ) (f : Flight → Step) → ((x : Flight) → flight_at w number ≡ Some x → StepHas P (f x)) → StepHas P (on_flight w number f)
  at_flight number f h =
      by_option P (λ x. if x.lost then Err faults.Flight else f x) (flight_at w number) (Err faults.Flight)
      (λ x e. branch P x.lost _ _ (Fails faults.Flight) (h x e)) (Fails faults.Flight)
