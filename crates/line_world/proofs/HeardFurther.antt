-- Which rule a frame comes to that a node accepted.
use Rattle.std.proofs.Common.{◌≡◌, ℕ, Bool, true, false, ◌&&◌, Option, Some, None, Ok, sym, ap, subst, ◌∙◌, if◌then◌else◌}
use Rattle.std.specs.Prelude.{IfSome, slice_get}
use Rattle.node_rules.specs.Accepted.{Accepted}
use Rattle.node_rules.specs.Ciphers.{network}
use Rattle.node_rules.specs.Memory.{Node}
use Rattle.reach_rules.specs.CheckedReplies.{is_unbelieved, message_of}
use Rattle.reach_rules.specs.FurtherReceptions.{NeighbourCommand, command_of}
use Rattle.line_flights.specs.declared.flights.Origin.{Origin}
use Rattle.line_events.specs.declared.happenings.Happenings.{Happenings}
use Rattle.line_rules.specs.Further.{beside_at, is_dropped}
use Rattle.line_rules.specs.Worlds.{Trace, World}
use Rattle.line_world.specs.Arrivals.{outcome_of_checked, outcome_of_further, outcome_of_hearing, outcome_of_unbelieved, outcome_of_command as heard_by_command}
use Rattle.line_world.specs.Steps.{Steps}
use Rattle.line_world.proofs.FurtherReceptions.{command_heard}

module _ (w : World) (number : ℕ) (x : Node) (got : Accepted) (origin : Origin) (cost : ℕ) where
  by_dropped : (b : Bool) → is_dropped w number got ≡ b → outcome_of_further network w number x got origin cost
      ≡ (if b then outcome_of_unbelieved network w number x origin else heard_by_command network w number x got origin cost (command_of got))
  by_dropped b e =
      ap (λ (t : Bool). if t then outcome_of_unbelieved network w number x origin else heard_by_command network w number x got origin cost (command_of got)) e

  -- a command for the neighbours
  pub further_command : (c : NeighbourCommand) → command_of got ≡ Some c
      → heard_by_command network w number x got origin cost (Some c) ≡ outcome_of_further network w number x got origin cost
  further_command c e =
      sym (by_dropped false (command_heard w number got c e) ∙ ap (λ (o : Option NeighbourCommand). heard_by_command network w number x got origin cost o) e)

  dropped_by : (on unbelieved : Bool) → w.checks_on ≡ on → is_unbelieved (beside_at w number).checks got.path (message_of got) ≡ unbelieved
      → is_dropped w number got ≡ (on && unbelieved)
  dropped_by on unbelieved e f = λ i. e i && f i

  -- where nothing is checked
  pub further_plain : w.checks_on ≡ false → command_of got ≡ None
      → outcome_of_hearing network w number x got origin cost ≡ outcome_of_further network w number x got origin cost
  further_plain off none =
      sym (by_dropped false (ap (λ (b : Bool). b && is_unbelieved (beside_at w number).checks got.path (message_of got)) off)
      ∙ ap (λ (o : Option NeighbourCommand). heard_by_command network w number x got origin cost o) none
      ∙ ap (λ (b : Bool). if b then outcome_of_checked network w number x got origin cost else outcome_of_hearing network w number x got origin cost) off)

  -- where neighbours are checked
  pub further_unbelieved : w.checks_on ≡ true → is_unbelieved (beside_at w number).checks got.path (message_of got) ≡ true
      → outcome_of_unbelieved network w number x origin ≡ outcome_of_further network w number x got origin cost
  further_unbelieved on is = sym (by_dropped true (dropped_by true true on is))

  pub further_checked : w.checks_on ≡ true → is_unbelieved (beside_at w number).checks got.path (message_of got) ≡ false → command_of got ≡ None
      → outcome_of_checked network w number x got origin cost ≡ outcome_of_further network w number x got origin cost
  further_checked on is none =
      sym (by_dropped false (dropped_by true false on is)
      ∙ ap (λ (o : Option NeighbourCommand). heard_by_command network w number x got origin cost o) none
      ∙ ap (λ (b : Bool). if b then outcome_of_checked network w number x got origin cost else outcome_of_hearing network w number x got origin cost) on)

-- a step of the node of a number, by another name
pub named_so : (w new : World) (number : ℕ) (h : Happenings) (p q : Node → World × Trace) → ((x : Node) → p x ≡ q x)
    → IfSome (slice_get w.nodes number) (λ x. Steps true w (Ok h) new (Ok (p x))) → IfSome (slice_get w.nodes number) (λ x. Steps true w (Ok h) new (Ok (q x)))
named_so w new number h p q same = by (slice_get w.nodes number)
  where
    by : (o : Option Node) → IfSome o (λ x. Steps true w (Ok h) new (Ok (p x))) → IfSome o (λ x. Steps true w (Ok h) new (Ok (q x)))
    by None s = tt
    by (Some x) s = subst (λ (r : World × Trace). Steps true w (Ok h) new (Ok r)) (same x) s
