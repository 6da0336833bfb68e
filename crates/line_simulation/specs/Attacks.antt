-- What attackers do.
use Rattle.std.specs.Prelude.{ℕ, zero, suc, ◌+◌, ◌-◌, ◌^◌, min, eqb, cond, Bool, true, false, List, [], ◌∷◌, ◌++◌, reverse, filter, not, Option, Some, None}
use Rattle.std.specs.List.{count_by}
use Rattle.air_draws.specs.Draws.{below, after}
use Rattle.line_events.specs.declared.event.Answer.{Answer}
use Rattle.line_events.specs.declared.event.Answer.TheVariants as answers
use Rattle.line_events.specs.declared.event.Event.TheVariants as events
use Rattle.line_owner.specs.declared.acts.Notice.TheVariants as notices
use Rattle.plc_base.specs.declared.address.Eui.{Eui}
use Rattle.line_simulation.specs.declared.facts.Facts.{Facts}
use Rattle.line_simulation.specs.declared.remarks.Remark.TheVariants as remarks
use Rattle.line_simulation.specs.declared.simulation.Kept.{Kept}
use Rattle.line_simulation.specs.declared.work.PendingWork.TheVariants as works
use Rattle.line_simulation.specs.Books.{eui_of}
use Rattle.line_simulation.specs.Arrivals.{cost_between, event_cost}
use Rattle.line_simulation.specs.Recorders.{Recorder}
use Rattle.line_simulation.specs.Runs.{Run, Goes, then}
use Rattle.line_simulation.specs.Simulations.{Simulated, to_do}
use Rattle.line_simulation.specs.Steps.{remarked, stepped, stepped_and_taken}

-- # Frames that were heard

abbrev pub if_found : Bool → List ℕ → Option (List ℕ)
if_found true octets = Some octets
if_found false octets = None

abbrev pub injected_if : {R : Type 0} → Recorder R → ℕ → ℕ → Option (List ℕ) → Simulated R → Run (Simulated R) (Unit {0})
injected_if recorder node cost None s = Goes tt s
injected_if recorder node cost (Some octets) s = stepped_and_taken recorder (events.Inject node (event_cost cost) octets) s

-- a node is given a flight, over a link of this cost
unfoldable pub flight_injected : {R : Type 0} → Recorder R → ℕ → ℕ → ℕ → Simulated R → Run (Simulated R) (Unit {0})
flight_injected recorder node cost flight s = injected_if recorder node cost (recorder.flight flight s.recorder) s

-- the flight that is drawn, and the draws after that
abbrev pub drawn_flight : {R : Type 0} → Recorder R → Simulated R → ℕ
drawn_flight recorder s = min (below (recorder.flights s.recorder) s.attack + 1) (2 ^ 32 - 1)

abbrev pub flight_drawn : {R : Type 0} → Simulated R → Simulated R
flight_drawn s = record s { attack = after s.attack }

-- a node is given a frame that was heard before, and then this many less one
unfoldable pub replayed : {R : Type 0} → Recorder R → ℕ → ℕ → Simulated R → Run (Simulated R) (Unit {0})
replayed recorder node zero s = Goes tt s
replayed recorder node (suc count) s =
    flight_injected recorder node 1 (drawn_flight recorder s) (to_do (works.Replay node count) (flight_drawn s))

-- # Frames that were kept

abbrev pub is_kept_from : ℕ → Kept → Bool
is_kept_from node k = eqb k.node node

abbrev pub with_release : {R : Type 0} → ℕ → Kept → Simulated R → Simulated R
with_release node k s = cond (is_kept_from node k) (to_do (works.Inject node (cost_between s.sky.air.rows k.from node) k.flight) s) s

-- what was kept from a node is given to it next, in its order
unfoldable pub with_releases : {R : Type 0} → ℕ → List Kept → Simulated R → Simulated R
with_releases node [] s = s
with_releases node (k ∷ ks) s = with_release node k (with_releases node ks s)

abbrev pub kept_count : ℕ → List Kept → ℕ
kept_count node kept = count_by (is_kept_from node) kept

abbrev pub kept_from_others : ℕ → List Kept → List Kept
kept_from_others node kept = filter (λ (k : Kept). not (is_kept_from node k)) kept

abbrev pub without_kept : {R : Type 0} → ℕ → Simulated R → Simulated R
without_kept node s = record s { kept = kept_from_others node s.kept }

-- a node is given what was kept from it
unfoldable pub released : {R : Type 0} → Recorder R → ℕ → Simulated R → Run (Simulated R) (Unit {0})
released recorder node s =
    remarked recorder (remarks.Release node (kept_count node s.kept)) (without_kept node (with_releases node s.kept s))

-- # False JOINs

-- a plain frame to the coordinator of the PAN, with the message JOIN in it
unfoldable pub join_octets : Eui → List ℕ
join_octets eui = (0x61 ∷ 0xD8 ∷ 0 ∷ 0x1D ∷ 0x78 ∷ 0 ∷ 0 ∷ []) ++ (reverse eui.0 ++ ((0x40 ∷ 2 ∷ 1 ∷ []) ++ eui.0))

abbrev pub is_challenged : Answer → Bool
is_challenged answers.Challenged = true
is_challenged _ = false

abbrev pub challenged_if : {R : Type 0} → Bool → Simulated R → Simulated R
challenged_if true s = to_do (works.Notice notices.Challenged) s
challenged_if false s = s

abbrev pub joined_falsely : {R : Type 0} → Option Facts → Simulated R → Run (Simulated R) (Unit {0})
joined_falsely None s = Goes tt s
joined_falsely (Some facts) s = Goes tt (to_do (works.Facts facts 0) (challenged_if (is_challenged facts.answer) s))

-- an attacker asks to join in the name of a meter
unfoldable pub join_forged : {R : Type 0} → Recorder R → ℕ → Simulated R → Run (Simulated R) (Unit {0})
join_forged recorder node s = then (stepped recorder (events.Inject 0 1 (join_octets (eui_of node s.book))) s) joined_falsely
