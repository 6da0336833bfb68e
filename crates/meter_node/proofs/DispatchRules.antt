-- How a meter goes on by what a joining message says.
use Rattle.std.proofs.Common.{◌≡◌, ℕ, true, false, [], Result, Ok, Err, refl, sym, subst, ◌∙◌}
use Rattle.std.specs.Prelude.{IfSome, ◌==◌}
use Rattle.plc_base.specs.declared.out_frame.Out.{Out}
use Rattle.joining_messages.specs.declared.message.JoinMessage.{JoinMessage}
use Rattle.node_rules.specs.declared.heard.MeterHeard.{MeterHeard}
use Rattle.node_rules.specs.declared.heard.MeterHeard.TheVariants as heard
use Rattle.node_rules.specs.declared.heard.Way.TheVariants.{Near, Mesh}
use Rattle.node_rules.specs.declared.refusal.Dropped.{Dropped}
use Rattle.node_rules.specs.declared.refusal.Dropped.TheVariants.{BadUnit}
use Rattle.node_rules.specs.Acceptance.{same_eui}
use Rattle.node_rules.specs.Memory.{StationMemory, Memory}
use Rattle.node_rules.specs.Drafts.{empty_draft, choose}
use Rattle.node_rules.specs.HearingRules.{dropped}
use Rattle.node_rules.specs.Meters as meters
use Rattle.node_rules.specs.Agreement.{Agrees}
use Rattle.node_rules.specs.CarriedPlans.{Carries, nothing}
use Rattle.node_rules.specs.ComposedPlans.{begun}
use Rattle.node_rules.proofs.ComposedPlans.{sealed_quiet}
use Rattle.meter_node.specs.MeterStates.{MeterState, memory_with, node_of, identity_of}
use Rattle.meter_node.proofs.Carried.{on_node, refuses, changes}
use Rattle.meter_node.proofs.HearingRules.{same_plan}

-- what is noted changes nothing
pub noted : (x : MeterState) (p : Memory → meters.Hearing) (out : Out) → Agrees x.station → out ≡ nothing
    → ((l : StationMemory) → meters.answers (memory_with x l) heard.Noted ≡ p (memory_with x l))
    → IfSome (node_of x).memory (λ m. Carries (node_of x) (p m) (Ok heard.Noted) out (node_of x))
unfolding empty_draft
noted x p out agrees empty is =
    on_node x _ (λ l running.
    changes dropped x x l [] heard.Noted (p (memory_with x l)) out running agrees refl
    (sealed_quiet dropped (memory_with x l) (begun [] (memory_with x l) [] [] []) heard.Noted refl ∙ is l) empty)

-- what is dropped changes nothing
pub drops : (x : MeterState) (p : Memory → meters.Hearing) (reason : Dropped) (out : Out) → out ≡ nothing
    → ((l : StationMemory) → meters.drop_it (memory_with x l) reason ≡ p (memory_with x l))
    → IfSome (node_of x).memory (λ m. Carries (node_of x) (p m) (Err reason) out (node_of x))
drops x p reason out empty is = on_node x _ (λ l running. refuses dropped x x l reason (p (memory_with x l)) out running refl (is l) empty)

-- a step that gives nothing out
pub quietly : (x y : MeterState) (p q : Memory → meters.Hearing) (r : Result MeterHeard Dropped) (out : Out) → out ≡ nothing
    → ((l : StationMemory) → p (memory_with x l) ≡ q (memory_with x l))
    → IfSome (node_of x).memory (λ m. Carries (node_of x) (p m) r nothing (node_of y))
    → IfSome (node_of x).memory (λ m. Carries (node_of x) (q m) r out (node_of y))
quietly x y p q r out empty e h =
    subst (λ (o : Out). IfSome (node_of x).memory (λ m. Carries (node_of x) (q m) r o (node_of y))) (sym empty) (same_plan x y p q r nothing e h)

-- # By the way that it came

module _ (x : MeterState) (l : StationMemory) (join : JoinMessage) (now : ℕ) where
  pub near_own : (agent : ℕ) → same_eui join.eui x.station.eui ≡ true
      → meters.hear_near (identity_of x) (memory_with x l) agent join.body now ≡ meters.hear_join (identity_of x) (memory_with x l) (Near agent) join now
  unfolding choose
  near_own agent own =
      λ i. choose (sym own i) (meters.hear_near (identity_of x) (memory_with x l) agent join.body now) (meters.drop_it (memory_with x l) BadUnit)

  pub near_other : (agent : ℕ) → same_eui join.eui x.station.eui ≡ false
      → meters.drop_it (memory_with x l) BadUnit ≡ meters.hear_join (identity_of x) (memory_with x l) (Near agent) join now
  unfolding choose
  near_other agent own =
      λ i. choose (sym own i) (meters.hear_near (identity_of x) (memory_with x l) agent join.body now) (meters.drop_it (memory_with x l) BadUnit)

  pub mesh_far : (origin : ℕ) → (origin == 0) ≡ false
      → meters.drop_it (memory_with x l) BadUnit ≡ meters.hear_join (identity_of x) (memory_with x l) (Mesh origin) join now
  unfolding choose
  mesh_far origin far =
      λ i. choose (sym far i)
      (choose (same_eui join.eui x.station.eui) (meters.hear_order (identity_of x) (memory_with x l) join.body now)
      (meters.carry_down (memory_with x l) join join.body))
      (meters.drop_it (memory_with x l) BadUnit)

  pub mesh_own : (origin : ℕ) → (origin == 0) ≡ true → same_eui join.eui x.station.eui ≡ true
      → meters.hear_order (identity_of x) (memory_with x l) join.body now ≡ meters.hear_join (identity_of x) (memory_with x l) (Mesh origin) join now
  unfolding choose
  mesh_own origin near own =
      λ i. choose (sym near i)
      (choose (sym own i) (meters.hear_order (identity_of x) (memory_with x l) join.body now) (meters.carry_down (memory_with x l) join join.body))
      (meters.drop_it (memory_with x l) BadUnit)

  pub mesh_other : (origin : ℕ) → (origin == 0) ≡ true → same_eui join.eui x.station.eui ≡ false
      → meters.carry_down (memory_with x l) join join.body ≡ meters.hear_join (identity_of x) (memory_with x l) (Mesh origin) join now
  unfolding choose
  mesh_other origin near own =
      λ i. choose (sym near i)
      (choose (sym own i) (meters.hear_order (identity_of x) (memory_with x l) join.body now) (meters.carry_down (memory_with x l) join join.body))
      (meters.drop_it (memory_with x l) BadUnit)
