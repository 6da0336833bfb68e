-- Steps one after the other, and loops that are counted.
use Rattle.std.proofs.Common.{◌≡◌, ◌<◌, ◌≤◌, ℕ, suc, ◌+◌, ◌-◌, Bool, false, List, [], ◌∷◌, length, get_or, drop, Option, refl, sym, ap, ◌∙◌, arith}
use Rattle.std.proofs.Math.ListN.{drop_of_length-le}
use Rattle.std.proofs.lemmas.List.{drop_more}
use Rattle.line_events.specs.declared.event.Event.TheVariants as events
use Rattle.line_simulation.specs.declared.facts.Facts.{Facts}
use Rattle.line_simulation.specs.declared.work.Stop.{Stop}
use Rattle.line_simulation.specs.declared.work.Stop.TheVariants as stops
use Rattle.line_simulation.specs.Recorders.{Recorder}
use Rattle.line_simulation.specs.Runs.{Run, Goes, Stops, then, StopsBy}
use Rattle.line_simulation.specs.Simulations.{Simulated}
use Rattle.line_simulation.specs.Steps.{ticked, tick_of, stepped_now}
use Rattle.line_simulation.specs.Turns.{on_while, carried_first, with_work, carried_one, carried_on, turn_done, turns_done}

pub one_less : (n k : ℕ) → k < n → n - k ≡ suc (n - (k + 1))
one_less n k less = omega arith

pub none_left : (n k : ℕ) → n ≤ k → n - k ≡ 0
none_left n k all = omega arith

-- # Lists from their end

pub whole_dropped : {A : Type 0} (xs : List A) → drop (length xs - 0) xs ≡ []
whole_dropped xs = drop_of_length-le xs (omega arith)

pub drop_none : {A : Type 0} (xs : List A) (k : ℕ) → length xs ≤ k → drop (length xs - k) xs ≡ xs
drop_none xs k all = ap (λ (n : ℕ). drop n xs) (none_left (length xs) k all)

before_one : {A : Type 0} (xs : List A) (k : ℕ) → length xs - (k + 1) ≡ length xs - 1 - k
before_one xs k = omega arith

after_one : {A : Type 0} (xs : List A) (k : ℕ) → k < length xs → length xs - (k + 1) + 1 ≡ length xs - k
after_one xs k less = omega arith

within : {A : Type 0} (xs : List A) (k : ℕ) → k < length xs → length xs - (k + 1) < length xs
within xs k less = omega arith

pub drop_before : {A : Type 0} (xs : List A) (k : ℕ) (d : A) → k < length xs
    → drop (length xs - (k + 1)) xs ≡ get_or xs (length xs - 1 - k) d ∷ drop (length xs - k) xs
drop_before xs k d less =
    drop_more xs (length xs - (k + 1)) d (within xs k less)
    ∙ ap (λ (n : ℕ). get_or xs n d ∷ drop (length xs - (k + 1) + 1) xs) (before_one xs k)
    ∙ ap (λ (n : ℕ). get_or xs (length xs - 1 - k) d ∷ drop n xs) (after_one xs k less)

-- # Steps

-- what comes after a step that goes on, and after one that stops
pub goes_on : {S A B : Type 0} (a : A) (t : S) (whole : Run S B) (one : Run S A) (next : A → S → Run S B) → whole ≡ then one next → one ≡ Goes a t
    → whole ≡ next a t
goes_on a t whole one next e is = e ∙ ap (λ r. then r next) is

pub stops_at : {S A B : Type 0} (stop : Stop) (t : S) (whole : Run S B) (one : Run S A) (next : A → S → Run S B) → whole ≡ then one next
    → StopsBy stop one t → StopsBy stop whole t
stops_at stops.Limit t whole one next e is = e ∙ ap (λ r. then r next) is
stops_at stops.Memory t whole one next e is = tt

-- # Ticks

ticked_once : {R : Type 0} (recorder : Recorder R) (ticks gap : ℕ) (s : Simulated R) → ticked recorder (suc ticks) gap s
    ≡ then (stepped_now recorder (events.Tick (tick_of gap)) s) (λ facts t. ticked recorder ticks (gap - tick_of gap) t)
unfolding ticked
ticked_once recorder ticks gap s = refl

ticked_zero : {R : Type 0} (recorder : Recorder R) (gap : ℕ) (s : Simulated R) → ticked recorder 0 gap s ≡ Goes tt s
unfolding ticked
ticked_zero recorder gap s = refl

-- one more of n ticks, after k of them
ticked_turn : {R : Type 0} (recorder : Recorder R) (n k gap step : ℕ) (s : Simulated R) → k < n → step ≡ tick_of gap → ticked recorder (n - k) gap s
    ≡ then (stepped_now recorder (events.Tick step) s) (λ facts t. ticked recorder (n - (k + 1)) (gap - step) t)
ticked_turn recorder n k gap step s less is =
    ap (λ (m : ℕ). ticked recorder m gap s) (one_less n k less)
    ∙ ticked_once recorder (n - (k + 1)) gap s
    ∙ ap (λ (m : ℕ). then (stepped_now recorder (events.Tick m) s) (λ facts t. ticked recorder (n - (k + 1)) (gap - m) t)) (sym is)

pub ticked_goes : {R : Type 0} (recorder : Recorder R) (n k gap step : ℕ) (s t : Simulated R) (facts : Option Facts)
    (whole : Run (Simulated R) (Unit {0})) → k < n → step ≡ tick_of gap → whole ≡ ticked recorder (n - k) gap s
    → stepped_now recorder (events.Tick step) s ≡ Goes facts t → whole ≡ ticked recorder (n - (k + 1)) (gap - step) t
ticked_goes recorder n k gap step s t facts whole less is e goes =
    goes_on facts t whole (stepped_now recorder (events.Tick step) s) (λ f u. ticked recorder (n - (k + 1)) (gap - step) u)
    (e ∙ ticked_turn recorder n k gap step s less is) goes

pub ticked_stops : {R : Type 0} (recorder : Recorder R) (n k gap step : ℕ) (s t : Simulated R) (stop : Stop) (whole : Run (Simulated R) (Unit {0}))
    → k < n → step ≡ tick_of gap → whole ≡ ticked recorder (n - k) gap s → StopsBy stop (stepped_now recorder (events.Tick step) s) t
    → StopsBy stop whole t
ticked_stops recorder n k gap step s t stop whole less is e by =
    stops_at stop t whole (stepped_now recorder (events.Tick step) s) (λ f u. ticked recorder (n - (k + 1)) (gap - step) u)
    (e ∙ ticked_turn recorder n k gap step s less is) by

pub ticked_all : {R : Type 0} (recorder : Recorder R) (n k gap : ℕ) (s : Simulated R) → n ≤ k → ticked recorder (n - k) gap s ≡ Goes tt s
ticked_all recorder n k gap s all = ap (λ (m : ℕ). ticked recorder m gap s) (none_left n k all) ∙ ticked_zero recorder gap s

-- # PendingWork

-- nothing is to be done
pub none_carried : {R : Type 0} (recorder : Recorder R) (s t : Simulated R) → s.work ≡ [] → s.work ≡ t.work → t ≡ with_work t.work s
    → carried_one recorder s ≡ Goes false t
unfolding carried_one
none_carried recorder s t none same is =
    ap (λ ws. carried_first recorder ws s) none ∙ ap (λ u. Goes false u) (sym (is ∙ ap (λ ws. with_work ws s) (sym same)))

carried_once : {R : Type 0} (recorder : Recorder R) (k : ℕ) (s : Simulated R) → carried_on recorder (suc k) s
    ≡ then (carried_one recorder s) (on_while (carried_on recorder k))
unfolding carried_on
carried_once recorder k s = refl

carried_zero : {R : Type 0} (recorder : Recorder R) (s : Simulated R) → carried_on recorder 0 s ≡ Stops s
unfolding carried_on
carried_zero recorder s = refl

carried_turn : {R : Type 0} (recorder : Recorder R) (n k : ℕ) (s : Simulated R) → k < n → carried_on recorder (n - k) s
    ≡ then (carried_one recorder s) (on_while (carried_on recorder (n - (k + 1))))
carried_turn recorder n k s less = ap (λ (m : ℕ). carried_on recorder m s) (one_less n k less) ∙ carried_once recorder (n - (k + 1)) s

-- after k of n things there is a further one, or there is none
pub carried_by : {R : Type 0} (recorder : Recorder R) (n k : ℕ) (s t : Simulated R) (more : Bool) (whole : Run (Simulated R) (Unit {0})) → k < n
    → whole ≡ carried_on recorder (n - k) s → carried_one recorder s ≡ Goes more t → whole ≡ on_while (carried_on recorder (n - (k + 1))) more t
carried_by recorder n k s t more whole less e goes =
    goes_on more t whole (carried_one recorder s) (on_while (carried_on recorder (n - (k + 1)))) (e ∙ carried_turn recorder n k s less) goes

pub carried_stops : {R : Type 0} (recorder : Recorder R) (n k : ℕ) (s t : Simulated R) (stop : Stop) (whole : Run (Simulated R) (Unit {0})) → k < n
    → whole ≡ carried_on recorder (n - k) s → StopsBy stop (carried_one recorder s) t → StopsBy stop whole t
carried_stops recorder n k s t stop whole less e by =
    stops_at stop t whole (carried_one recorder s) (on_while (carried_on recorder (n - (k + 1)))) (e ∙ carried_turn recorder n k s less) by

pub carried_all : {R : Type 0} (recorder : Recorder R) (n k : ℕ) (s : Simulated R) → n ≤ k → carried_on recorder (n - k) s ≡ Stops s
carried_all recorder n k s all = ap (λ (m : ℕ). carried_on recorder m s) (none_left n k all) ∙ carried_zero recorder s

-- # Moments

turned_once : {R : Type 0} (recorder : Recorder R) (end k : ℕ) (s : Simulated R) → turns_done recorder end (suc k) s
    ≡ then (turn_done recorder end s) (on_while (turns_done recorder end k))
unfolding turns_done
turned_once recorder end k s = refl

turned_zero : {R : Type 0} (recorder : Recorder R) (end : ℕ) (s : Simulated R) → turns_done recorder end 0 s ≡ Stops s
unfolding turns_done
turned_zero recorder end s = refl

turned_turn : {R : Type 0} (recorder : Recorder R) (end n k : ℕ) (s : Simulated R) → k < n → turns_done recorder end (n - k) s
    ≡ then (turn_done recorder end s) (on_while (turns_done recorder end (n - (k + 1))))
turned_turn recorder end n k s less = ap (λ (m : ℕ). turns_done recorder end m s) (one_less n k less) ∙ turned_once recorder end (n - (k + 1)) s

-- after k of n moments there is a further one, or there is none
pub turned_by : {R : Type 0} (recorder : Recorder R) (end n k : ℕ) (s t : Simulated R) (more : Bool) (whole : Run (Simulated R) (Unit {0})) → k < n
    → whole ≡ turns_done recorder end (n - k) s → turn_done recorder end s ≡ Goes more t
    → whole ≡ on_while (turns_done recorder end (n - (k + 1))) more t
turned_by recorder end n k s t more whole less e goes =
    goes_on more t whole (turn_done recorder end s) (on_while (turns_done recorder end (n - (k + 1)))) (e ∙ turned_turn recorder end n k s less) goes

pub turned_stops : {R : Type 0} (recorder : Recorder R) (end n k : ℕ) (s t : Simulated R) (stop : Stop) (whole : Run (Simulated R) (Unit {0}))
    → k < n → whole ≡ turns_done recorder end (n - k) s → StopsBy stop (turn_done recorder end s) t → StopsBy stop whole t
turned_stops recorder end n k s t stop whole less e by =
    stops_at stop t whole (turn_done recorder end s) (on_while (turns_done recorder end (n - (k + 1)))) (e ∙ turned_turn recorder end n k s less) by

pub turned_all : {R : Type 0} (recorder : Recorder R) (end n k : ℕ) (s : Simulated R) → n ≤ k → turns_done recorder end (n - k) s ≡ Stops s
turned_all recorder end n k s all = ap (λ (m : ℕ). turns_done recorder end m s) (none_left n k all) ∙ turned_zero recorder end s
