-- The nodes by their numbers: a meter comes one after its place, and the coordinator first.
use Rattle.std.proofs.Common.{◌≡◌, ℕ, zero, suc, ◌+◌, ◌-◌, ◌<◌, List, [], ◌∷◌, length, map, get_or, Option, Some, None, refl, sym, ap, subst, ◌∙◌, arith}
use Rattle.std.specs.Prelude.{IfNone, IfSome, slice_get, slice_set}
use Rattle.std.proofs.Math.Seq.{map-set_same}
use Rattle.std.proofs.lemmas.List.{map-set, length-map}
use Rattle.std.proofs.lemmas.List.Elements.{All-set}
use Rattle.store_tables.proofs.SlotTables.{slice_get-set}
use Rattle.plc_base.specs.declared.out_frame.Out.{Out}
use Rattle.node_rules.specs.Memory.{Node}
use Rattle.node_rules.specs.NodeSteps.{NodeStep}
use Rattle.coordinator.specs.CoordinatorStates.{CoordinatorState}
use Rattle.meter_node.specs.MeterStates.{MeterState}
use Rattle.line_world.specs.NodeOutcomes.{Did}
use Rattle.line_world.specs.Nodes.{nodes_in, of_coordinator, of_meter}
use Rattle.line_world.specs.Soundness.{AreSound, IsSoundCoordinator, IsSoundMeter}
use Rattle.line_world.proofs.NodeActs.{Took}
use Rattle.line_world.proofs.Places.{found_in, sound_in}

-- # A meter

-- The meter at a place is the node of this number.
pub record IsMeterAt (o : Option CoordinatorState) (ms : List MeterState) (old : List Node) (place number : ℕ) (x : MeterState) : Type 0 where
  pub view : nodes_in o ms ≡ old
  pub next : place + 1 ≡ number
  pub there : number < length old
  pub here : x ≡ get_or ms place x
  pub sound : AreSound o ms

pub meter_at : (o : Option CoordinatorState) (ms : List MeterState) (old : List Node) (number : ℕ) (x : MeterState) → nodes_in o ms ≡ old → AreSound o ms
    → 0 < number → number < length old → x ≡ get_or ms (number - 1) x → IsMeterAt o ms old (number - 1) number x
meter_at o ms old number x view sound after there here = record { view = view; next = omega (arith, after); there = there; here = here; sound = sound }

module _ {o : Option CoordinatorState} {ms : List MeterState} {old : List Node} {place number : ℕ} {x : MeterState} (at : IsMeterAt o ms old place number x)
  where
    less : number < length (nodes_in o ms)
    less = subst (λ (k : List Node). number < length k) (sym at.view) at.there

    pub within : place < length ms
    within = subst (λ (n : ℕ). place < n) (length-map ms of_meter) (by o less)
      where
        by : (c : Option CoordinatorState) → number < length (nodes_in c ms) → place < length (map of_meter ms)
        by None h = absurd (omega (arith, h))
        by (Some c) h = omega (arith, h, at.next)

    -- what is found there
    pub found : slice_get old number ≡ Some (of_meter x)
    found = ap (λ (k : List Node). slice_get k number) (sym at.view) ∙ by o less number at.next
      where
        by : (c : Option CoordinatorState) → number < length (nodes_in c ms) → (n : ℕ) → place + 1 ≡ n → slice_get (nodes_in c ms) n ≡ Some (of_meter x)
        by None h n e = absurd (omega (arith, h))
        by (Some c) h zero e = absurd (omega (arith, e))
        by (Some c) h (suc k) e =
            let same : k ≡ place = omega (arith, e) in
            ap (λ (p : ℕ). slice_get (map of_meter ms) p) same ∙ found_in ms place x within at.here

    -- the nodes, with another meter there
    pub set : (y : MeterState) → nodes_in o (slice_set ms place y) ≡ slice_set old number (of_meter y)
    set y = by o less number at.next ∙ ap (λ (k : List Node). slice_set k number (of_meter y)) at.view
      where
        by : (c : Option CoordinatorState) → number < length (nodes_in c ms) → (n : ℕ) → place + 1 ≡ n
            → nodes_in c (slice_set ms place y) ≡ slice_set (nodes_in c ms) n (of_meter y)
        by None h n e = absurd (omega (arith, h))
        by (Some c) h zero e = absurd (omega (arith, e))
        by (Some c) h (suc k) e =
            let same : place ≡ k = omega (arith, e) in
            ap (λ (ns : List Node). of_coordinator c ∷ ns) (map-set of_meter ms place y ∙ ap (λ (p : ℕ). slice_set (map of_meter ms) p (of_meter y)) same)

    -- what holds of the meter holds of what is found there, and the other way round
    pub found_at : (P : Node → Type 0) → P (of_meter x) → IfSome (slice_get old number) P
    found_at P h = subst (λ (q : Option Node). IfSome q P) (sym found) h

    pub at_place : (P : Node → Type 0) → IfSome (slice_get old number) P → P (of_meter x)
    at_place P h = subst (λ (q : Option Node). IfSome q P) found h

    -- what holds of a meter that was put there holds of what is found there then
    pub put_at : (y : MeterState) (P : Node → Type 0) → P (of_meter y) → IfSome (slice_get (nodes_in o (slice_set ms place y)) number) P
    put_at y P h =
        subst (λ (q : Option Node). IfSome q P)
        (sym (ap (λ (k : List Node). slice_get k number) (set y) ∙ slice_get-set old number (of_meter y) at.there)) h

    -- what a meter did, the node of its number did
    pub did : {A : Type 0} (step : NodeStep A) (y : MeterState) (answer : A) (out : Out) → Took step answer out (of_meter y)
        → Did step old number answer out (nodes_in o (slice_set ms place y))
    did step y answer out t =
        record { answer_is = t.answer_is; out_is = t.out_is; nodes_are = set y ∙ ap (λ (n : Node). slice_set old number n) t.node_is }

    pub did_at : {A : Type 0} (step : Node → NodeStep A) (y : MeterState) (answer : A) (out : Out) → Took (step (of_meter x)) answer out (of_meter y)
        → IfSome (slice_get old number) (λ n. Did (step n) old number answer out (nodes_in o (slice_set ms place y)))
    did_at step y answer out t =
        found_at (λ n. Did (step n) old number answer out (nodes_in o (slice_set ms place y))) (did (step (of_meter x)) y answer out t)

    -- a meter that stays as it is leaves the nodes as they are
    pub same_at : (y : MeterState) → y ≡ x → nodes_in o (slice_set ms place y) ≡ old
    same_at y same = by o ∙ at.view
      where
        by : (c : Option CoordinatorState) → nodes_in c (slice_set ms place y) ≡ nodes_in c ms
        by None = refl
        by (Some c) = ap (λ (ns : List Node). of_coordinator c ∷ ns) (map-set_same of_meter ms place y x (ap of_meter (same ∙ at.here)))

    pub sound_at : IsSoundMeter x
    sound_at = sound_in ms place x within at.here at.sound.meters

    -- a sound one leaves them sound
    pub sound_with : (y : MeterState) → IsSoundMeter y → AreSound o (slice_set ms place y)
    sound_with y h = record { coordinator = at.sound.coordinator; meters = All-set IsSoundMeter ms place y h at.sound.meters; begun = by o less }
      where
        by : (c : Option CoordinatorState) → number < length (nodes_in c ms) → IfNone c (slice_set ms place y ≡ [])
        by None h = absurd (omega (arith, h))
        by (Some c) h = tt

-- # The coordinator

-- The coordinator is the node of this number.
pub record IsCoordinatorAt (o : Option CoordinatorState) (ms : List MeterState) (old : List Node) (number : ℕ) (x : CoordinatorState) : Type 0 where
  pub view : nodes_in o ms ≡ old
  pub is : o ≡ Some x
  pub first : number ≡ 0
  pub sound : AreSound o ms

pub coordinator_at : (o : Option CoordinatorState) (ms : List MeterState) (old : List Node) (number : ℕ) (x : CoordinatorState) → nodes_in o ms ≡ old
    → AreSound o ms → o ≡ Some x → number ≡ 0 → IsCoordinatorAt o ms old number x
coordinator_at o ms old number x view sound is first = record { view = view; is = is; first = first; sound = sound }

module _ {o : Option CoordinatorState} {ms : List MeterState} {old : List Node} {number : ℕ} {x : CoordinatorState} (at : IsCoordinatorAt o ms old number x)
  where
    pub view_of : of_coordinator x ∷ map of_meter ms ≡ old
    view_of = ap (λ (c : Option CoordinatorState). nodes_in c ms) (sym at.is) ∙ at.view

    pub found_first : slice_get old number ≡ Some (of_coordinator x)
    found_first = ap (λ (n : ℕ). slice_get old n) at.first ∙ ap (λ (k : List Node). slice_get k 0) (sym view_of)

    pub set_first : (y : CoordinatorState) → nodes_in (Some y) ms ≡ slice_set old number (of_coordinator y)
    set_first y = ap (λ (k : List Node). slice_set k 0 (of_coordinator y)) view_of ∙ ap (λ (n : ℕ). slice_set old n (of_coordinator y)) (sym at.first)

    pub its_there : number < length old
    its_there =
        subst (λ (n : ℕ). n < length old) (sym at.first)
        (subst (λ (k : List Node). 0 < length k) view_of (let one : 0 < length (of_coordinator x ∷ map of_meter ms) = omega arith in one))

    pub found_its : (P : Node → Type 0) → P (of_coordinator x) → IfSome (slice_get old number) P
    found_its P h = subst (λ (q : Option Node). IfSome q P) (sym found_first) h

    pub its : (P : Node → Type 0) → IfSome (slice_get old number) P → P (of_coordinator x)
    its P h = subst (λ (q : Option Node). IfSome q P) found_first h

    pub put_its : (y : CoordinatorState) (P : Node → Type 0) → P (of_coordinator y) → IfSome (slice_get (nodes_in (Some y) ms) number) P
    put_its y P h =
        subst (λ (q : Option Node). IfSome q P) (sym (ap (λ (n : ℕ). slice_get (nodes_in (Some y) ms) n) at.first)) h

    -- what the coordinator did, the node of its number did
    pub its_did : {A : Type 0} (step : NodeStep A) (y : CoordinatorState) (answer : A) (out : Out) → Took step answer out (of_coordinator y)
        → Did step old number answer out (nodes_in (Some y) ms)
    its_did step y answer out t =
        record { answer_is = t.answer_is; out_is = t.out_is; nodes_are = set_first y ∙ ap (λ (n : Node). slice_set old number n) t.node_is }

    pub its_did_at : {A : Type 0} (step : Node → NodeStep A) (y : CoordinatorState) (answer : A) (out : Out)
        → Took (step (of_coordinator x)) answer out (of_coordinator y)
        → IfSome (slice_get old number) (λ n. Did (step n) old number answer out (nodes_in (Some y) ms))
    its_did_at step y answer out t =
        found_its (λ n. Did (step n) old number answer out (nodes_in (Some y) ms)) (its_did (step (of_coordinator x)) y answer out t)

    pub its_same : (y : CoordinatorState) → y ≡ x → nodes_in (Some y) ms ≡ old
    its_same y same = ap (λ (c : CoordinatorState). of_coordinator c ∷ map of_meter ms) same ∙ view_of

    pub its_sound : IsSoundCoordinator x
    its_sound = subst (λ (c : Option CoordinatorState). IfSome c IsSoundCoordinator) at.is at.sound.coordinator

    pub its_sound_with : (y : CoordinatorState) → IsSoundCoordinator y → AreSound (Some y) ms
    its_sound_with y h = record { coordinator = h; meters = at.sound.meters; begun = tt }

-- # Nobody

-- before there is a coordinator there is no node
pub nobody : (o : Option CoordinatorState) (ms : List MeterState) (old : List Node) (number : ℕ) (P : Type 0) → nodes_in o ms ≡ old → o ≡ None
    → number < length old → P
nobody o ms old number P view none there =
    let less : number < length (nodes_in None ms) = subst (λ (k : List Node). number < length k)
    (sym view ∙ ap (λ (c : Option CoordinatorState). nodes_in c ms) none) there in
    absurd (omega (arith, less))
