-- The events whose answer never says that power was lost, or that a meter left: those of setup, and `rand`, `join` and `choose`.
use Rattle.std.proofs.Common.{◌≡◌, ℕ, ◌==◌, false, not, length, Option, Some, None, Result, Ok, Err, refl}
use Rattle.std.specs.Prelude.{is_some, nat_lt, ◌||◌}
use Rattle.plc_base.specs.declared.address.Eui.{Eui}
use Rattle.plc_base.specs.declared.key.Key.{Key}
use Rattle.plc_base.specs.declared.key.RandomOctets.{RandomOctets}
use Rattle.plc_base.specs.Grant.{Granted}
use Rattle.node_rules.specs.declared.refusal.CoordinatorRefusal.{CoordinatorRefusal}
use Rattle.node_rules.specs.declared.refusal.CoordinatorRefusal.TheVariants as orders
use Rattle.node_rules.specs.declared.refusal.JoinRefusal.{JoinRefusal}
use Rattle.node_rules.specs.declared.refusal.JoinRefusal.TheVariants as joins
use Rattle.node_rules.specs.declared.refusal.RandomFault.{RandomFault}
use Rattle.node_rules.specs.declared.refusal.RandomFault.TheVariants as randoms
use Rattle.reach_rules.specs.declared.refusal.ChooseRefusal.{ChooseRefusal}
use Rattle.reach_rules.specs.declared.refusal.ChooseRefusal.TheVariants as choices
use Rattle.reach_rules.specs.Beacons.{ChosenAgent}
use Rattle.node_rules.specs.Calls as calls
use Rattle.node_rules.specs.Ciphers.{Ciphers}
use Rattle.node_rules.specs.Coordinators as coordinator_rules
use Rattle.node_rules.specs.Memory.{StationMemory, Node, node_address}
use Rattle.node_rules.specs.NodeSteps.{NodeStep, acts}
use Rattle.line_events.specs.declared.event.Answer.{Answer}
use Rattle.line_events.specs.declared.event.StepFault.TheVariants as faults
use Rattle.line_rules.specs.Answers.{join_word, random_word}
use Rattle.line_rules.specs.Further.{checks, choice_word, choose, chooses_by}
use Rattle.line_rules.specs.Steps.{Step, coordinator, depot, depot_by, has_begun, is_known, join, joins_by, meter, near, near_by, preset, provisioned}
use Rattle.line_rules.specs.Steps.{psk_of, rand, set_up, takes_setup, world_after}
use Rattle.line_rules.specs.Worlds.{World, Trace}
use Rattle.line_record.specs.KeptItems.{is_left, is_power_lost}
use Rattle.line_progress.proofs.Events.{StepHas, Fails, Taken, branch, by_option, once, setup, at_node, at_meter}

-- # Words

-- an answer says neither that a meter left nor that power was lost
abbrev pub IsPlainWord : Answer → Type 0
IsPlainWord answer = (is_left answer ≡ false) × (is_power_lost answer ≡ false)

random_plain : (r : Result (Unit {0}) RandomFault) → IsPlainWord (random_word r)
random_plain (Ok u) = (refl, refl)
random_plain (Err randoms.Halted) = (refl, refl)
random_plain (Err randoms.RandomsFull) = (refl, refl)

join_plain : (r : Result (Unit {0}) JoinRefusal) → IsPlainWord (join_word r)
join_plain (Ok u) = (refl, refl)
join_plain (Err joins.Halted) = (refl, refl)
join_plain (Err joins.AlreadyJoined) = (refl, refl)

choice_plain : (r : Result ChosenAgent ChooseRefusal) → IsPlainWord (choice_word r)
choice_plain (Ok agent) = (refl, refl)
choice_plain (Err choices.Halted) = (refl, refl)
choice_plain (Err choices.AlreadyJoined) = (refl, refl)
choice_plain (Err choices.NoBeacon) = (refl, refl)

-- # Events

abbrev pub IsPlain : World × Trace → Type 0
IsPlain r = IsPlainWord r.1.happenings.answer

module _ (ciphers : Ciphers) (w : World) where
  abbrev Plain : Step → Type 0
  Plain s = StepHas IsPlain s

  pub coordinator_plain : (eui : Eui) (key : Key) → Plain (coordinator w eui key)
  unfolding coordinator
  coordinator_plain eui key = branch IsPlain (has_begun w) _ _ (Fails faults.Setup) (Taken _ (refl, refl))

  pub meter_plain : (eui : Eui) (psk : Key) → Plain (meter w eui psk)
  unfolding meter
  meter_plain eui psk =
      branch IsPlain (not (takes_setup w) || (nat_lt 999 (length w.nodes) || is_known w eui)) _ _ (Fails faults.Setup) (Taken _ (refl, refl))

  depot_by_plain : (number : ℕ) (x : Node) (d : NodeStep (Result Granted CoordinatorRefusal)) → Plain (depot_by ciphers w number x d)
  depot_by_plain number x d = by_answer d.answer refl
    where
      by_answer : (r : Result Granted CoordinatorRefusal) → d.answer ≡ r → Plain (depot_by ciphers w number x d)
      by_answer (Ok g) e = rw e (Taken (provisioned ciphers (world_after ciphers (set_up w) 0 (record d { answer = Ok g })) number x g) (refl, refl))
      by_answer (Err reason) e = rw e (Fails faults.Setup)

  pub depot_plain : (number : ℕ) → Plain (depot ciphers w number)
  unfolding depot
  depot_plain number =
      setup IsPlain w _ (at_node IsPlain w number _ (λ x e. at_node IsPlain w 0 _ (λ c f.
      branch IsPlain ((number == 0) || is_some (node_address x)) _ _ (Fails faults.Setup)
      (by_option IsPlain (λ psk. depot_by ciphers w number x (acts c (Err orders.Halted) (λ m. coordinator_rules.depot m x.eui psk))) (psk_of x) _
      (λ psk g. depot_by_plain number x _) (Fails faults.Setup)))))

  near_by_plain : (a b cost : ℕ) (x y : Node) (p q : Option ℕ) → Plain (near_by ciphers w a b cost x y p q)
  near_by_plain a b cost x y None q = Fails faults.Setup
  near_by_plain a b cost x y (Some p) None = Fails faults.Setup
  near_by_plain a b cost x y (Some p) (Some q) = branch IsPlain _ _ _ (Fails faults.Setup) (Taken _ (refl, refl))

  pub near_plain : (a b cost : ℕ) → Plain (near ciphers w a b cost)
  unfolding near
  near_plain a b cost =
      setup IsPlain w _ (at_node IsPlain w a _ (λ x e. at_node IsPlain w b _ (λ y f. near_by_plain a b cost x y (node_address x) (node_address y))))

  pub preset_plain : (number : ℕ) (plan : StationMemory → calls.Presetting) → Plain (preset ciphers w number plan)
  preset_plain number plan = setup IsPlain w _ (at_node IsPlain w number _ (λ x e. Taken _ (refl, refl)))

  pub checks_plain : Plain (checks w)
  unfolding checks
  checks_plain = setup IsPlain w _ (branch IsPlain w.checks_on _ _ (Fails faults.Setup) (Taken _ (refl, refl)))

  pub rand_plain : (number : ℕ) (value : RandomOctets) → Plain (rand ciphers w number value)
  unfolding rand
  rand_plain number value = once IsPlain w _ (at_node IsPlain w number _ (λ x e. Taken _ (random_plain _)))

  joins_plain : (number : ℕ) (x : Node) (agent : Option ℕ) (psk : Option Key) → IsPlain (joins_by ciphers w number x agent psk)
  joins_plain number x None psk = (refl, refl)
  joins_plain number x (Some agent) None = (refl, refl)
  joins_plain number x (Some agent) (Some psk) = join_plain _

  pub joined_plain : (number agent : ℕ) → Plain (join ciphers w number agent)
  unfolding join
  joined_plain number agent =
      once IsPlain w _ (at_meter IsPlain w number _ (λ x e. at_node IsPlain w agent _ (λ y f. Taken _ (joins_plain number x (node_address y) (psk_of x)))))

  chooses_plain : (number : ℕ) (x : Node) (k : ℕ) (psk : Option Key) → IsPlain (chooses_by ciphers w number x k psk)
  chooses_plain number x k None = (refl, refl)
  chooses_plain number x k (Some psk) = choice_plain _

  pub choose_plain : (number k : ℕ) → Plain (choose ciphers w number k)
  unfolding choose
  choose_plain number k = once IsPlain w _ (at_meter IsPlain w number _ (λ x e. Taken _ (chooses_plain number x k (psk_of x))))
