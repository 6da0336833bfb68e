-- The first node with an EUI, where the coordinator has another one.
use Rattle.std.proofs.Common.{◌≡◌, ℕ, suc, ◌+◌, Bool, true, false, not, cond, List, ◌∷◌, length, map, Option, Some, None, refl, sym, ap, ◌∙◌, arith}
use Rattle.std.specs.Prelude.{nat_lt, position}
use Rattle.std.specs.Option.{option_map}
use Rattle.std.specs.List.{position_or_len}
use Rattle.std.proofs.lemmas.Bool.{le-ltb, lt-ltb, ltb-false, ltb-true}
use Rattle.plc_base.specs.declared.address.Eui.{Eui}
use Rattle.node_rules.specs.Acceptance.{same_eui}
use Rattle.node_rules.specs.Memory.{Node}
use Rattle.coordinator.specs.CoordinatorStates.{CoordinatorState}
use Rattle.meter_node.specs.MeterStates.{MeterState}
use Rattle.line_world.specs.Nodes.{has_eui, nodes_in, of_coordinator, of_meter}
use Rattle.line_world.proofs.Places.{position_map}

one_later : {A : Type 0} (p : A → Bool) (x : A) (xs : List A) → p x ≡ false → position p (x ∷ xs) ≡ option_map (λ k. k + 1) (position p xs)
one_later {A} p x xs other =
    (λ i. cond (nat_lt (cond (not (other i)) (1 + position_or_len p xs) 0) (suc (length xs))) (Some (cond (not (other i)) (1 + position_or_len p xs) 0)) None)
    ∙ by (nat_lt (position_or_len p xs) (length xs)) refl
  where
    by : (b : Bool) → nat_lt (position_or_len p xs) (length xs) ≡ b
        → cond (nat_lt (1 + position_or_len p xs) (suc (length xs))) (Some (1 + position_or_len p xs)) None
        ≡ option_map (λ k. k + 1) (cond b (Some (position_or_len p xs)) None)
    by true t =
        let n : ℕ = position_or_len p xs in
        ap (λ b. cond b (Some (1 + n)) None) (lt-ltb (1 + n) (suc (length xs)) (let below = ltb-true n (length xs) t in omega (arith, below)))
        ∙ ap (λ (k : ℕ). Some k) (omega arith)
    by false t =
        let n : ℕ = position_or_len p xs in
        ap (λ b. cond b (Some (1 + n)) None) (le-ltb (1 + n) (suc (length xs)) (let above = ltb-false n (length xs) t in omega (arith, above)))

-- it is found among the meters
pub among_meters : (o : Option CoordinatorState) (c : CoordinatorState) (ms : List MeterState) (old : List Node) (eui : Eui) (r : Option ℕ)
    → nodes_in o ms ≡ old → o ≡ Some c → same_eui c.station.eui eui ≡ false → r ≡ position (has_eui eui) ms
    → position (λ (x : Node). same_eui x.eui eui) old ≡ option_map (λ k. k + 1) r
among_meters o c ms old eui r view is other found =
    let p : Node → Bool = λ x. same_eui x.eui eui in
    ap (λ (ns : List Node). position p ns) (sym view ∙ ap (λ (k : Option CoordinatorState). nodes_in k ms) is)
    ∙ one_later p (of_coordinator c) (map of_meter ms) other
    ∙ ap (λ (k : Option ℕ). option_map (λ n. n + 1) k) (position_map of_meter p ms ∙ sym found)
