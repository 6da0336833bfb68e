-- A plan has one simulation before its run.
use Rattle.std.proofs.Common.{◌≡◌, ◌⊎◌, inl, inr, ℕ, suc, ◌<◌, ◌≤◌, Bool, true, false, List, [], ◌∷◌, length, map, get_or, slice_get, Option, None, Some}
use Rattle.std.proofs.Common.{refl, sym, ◌∙◌, ap, subst, arith}
use Rattle.std.proofs.lemmas.Bool.{cases_lt}
use Rattle.std.proofs.lemmas.Option.{slice_get-get_or, slice_get_past, same_Some}
use Rattle.air_draws.specs.Draws.{first}
use Rattle.air_draws.specs.declared.draws.Purpose.TheVariants as purposes
use Rattle.line_place.specs.declared.link.Link.{Link}
use Rattle.line_place.specs.declared.link.Losses.{Losses}
use Rattle.line_place.specs.declared.link.Costs.{Costs}
use Rattle.line_place.specs.declared.scattering.Field.{Field}
use Rattle.line_place.specs.Hops.{AreHops, AllHavePaths}
use Rattle.line_place.specs.ScatteredSpots.{IsFirstTry, drawn_rows, tries_after}
use Rattle.line_plan.specs.declared.plan.Plan.{Plan}
use Rattle.plan_tables.specs.declared.places.Kind.{Kind}
use Rattle.plan_tables.specs.declared.places.Kind.TheVariants.{InStreet, InGrid, InTower, Scattered, Measured}
use Rattle.plan_tables.specs.declared.places.PlacePlan.{PlacePlan}
use Rattle.rand_pcg.specs.Lcg.{Lcg}
use Rattle.line_simulation.specs.Simulations.{Simulated}
use Rattle.line_simulation.specs.Start.{IsPlaceOf, AreDepths, depth_of, first_state, IsFirst}

-- # Hops

-- lists that are the same at each place
same_lists : {X : Type 0} (xs ys : List X) → ((k : ℕ) → slice_get xs k ≡ slice_get ys k) → xs ≡ ys
same_lists [] [] same = refl
same_lists [] (y ∷ ys) same = let e : None ≡ Some y = same 0 in absurd (cc)
same_lists (x ∷ xs) [] same = let e : Some x ≡ None = same 0 in absurd (cc)
same_lists (x ∷ xs) (y ∷ ys) same = λ i. same_Some x y (same 0) i ∷ same_lists xs ys (λ k. same (suc k)) i

-- a node has the same hops in both, or none in both
same_hops : (rows : List (List Link)) (h k : List (Option ℕ)) (b : ℕ) → AreHops rows h → AreHops rows k → b < length rows → (o q : Option ℕ)
    → slice_get h b ≡ Some o → slice_get k b ≡ Some q → o ≡ q
same_hops rows h k b hs ks within None None first second = refl
same_hops rows h k b hs ks within None (Some m) first second =
    let found = hs.shortest b m within (ks.path b m second) in
    let e : Some None ≡ Some (Some found.0) = sym first ∙ found.1.0 in
    absurd (cc)
same_hops rows h k b hs ks within (Some n) None first second =
    let found = ks.shortest b n within (hs.path b n first) in
    let e : Some None ≡ Some (Some found.0) = sym second ∙ found.1.0 in
    absurd (cc)
same_hops rows h k b hs ks within (Some n) (Some m) first second =
    let lower = hs.shortest b m within (ks.path b m second) in
    let upper = ks.shortest b n within (hs.path b n first) in
    let is_lower : n ≡ lower.0 = same_Some n lower.0 (same_Some (Some n) (Some lower.0) (sym first ∙ lower.1.0)) in
    let is_upper : m ≡ upper.0 = same_Some m upper.0 (same_Some (Some m) (Some upper.0) (sym second ∙ upper.1.0)) in
    let below : lower.0 ≤ m = lower.1.1 in
    let above : upper.0 ≤ n = upper.1.1 in
    ap (λ (x : ℕ). Some x) (omega arith)

hops_at : (rows : List (List Link)) (h k : List (Option ℕ)) → AreHops rows h → AreHops rows k → (b : ℕ) → (b < length rows) ⊎ (length rows ≤ b)
    → slice_get h b ≡ slice_get k b
hops_at rows h k hs ks b (inl within) =
    let first = slice_get-get_or h b None (subst (λ (n : ℕ). b < n) (sym hs.size) within) in
    let second = slice_get-get_or k b None (subst (λ (n : ℕ). b < n) (sym ks.size) within) in
    first ∙ ap (λ (o : Option ℕ). Some o) (same_hops rows h k b hs ks within (get_or h b None) (get_or k b None) first second) ∙ sym second
hops_at rows h k hs ks b (inr past) =
    slice_get_past h b (subst (λ (n : ℕ). n ≤ b) (sym hs.size) past) ∙ sym (slice_get_past k b (subst (λ (n : ℕ). n ≤ b) (sym ks.size) past))

-- the hops of a place are one list
hops_are_one : (rows : List (List Link)) (h k : List (Option ℕ)) → AreHops rows h → AreHops rows k → h ≡ k
hops_are_one rows h k hs ks = same_lists h k (λ b. hops_at rows h k hs ks b (cases_lt b (length rows)))

-- # Draws

same_tries : (field : Field) (losses : Losses) (costs : Costs) (g left last : Lcg) (rows others : List (List Link))
    (one : IsFirstTry field losses costs g rows left) (two : IsFirstTry field losses costs g others last)
    → (one.tries < two.tries) ⊎ (two.tries ≤ one.tries) → one.tries ≡ two.tries
same_tries field losses costs g left last rows others one two (inl less) =
    absurd (two.none_before one.tries less (subst AllHavePaths one.drawn one.connected))
same_tries field losses costs g left last rows others one two (inr most) = on (cases_lt two.tries one.tries)
  where
    on : (two.tries < one.tries) ⊎ (one.tries ≤ two.tries) → one.tries ≡ two.tries
    on (inl less) = absurd (one.none_before two.tries less (subst AllHavePaths two.drawn two.connected))
    on (inr least) = omega arith

-- the first draw that is connected is one place
tries_are_one : (field : Field) (losses : Losses) (costs : Costs) (g left last : Lcg) (rows others : List (List Link))
    → IsFirstTry field losses costs g rows left → IsFirstTry field losses costs g others last → rows ≡ others
tries_are_one field losses costs g left last rows others one two =
    one.drawn
    ∙ ap (λ (n : ℕ). drawn_rows field losses costs (tries_after field.meters g n))
    (same_tries field losses costs g left last rows others one two (cases_lt one.tries two.tries))
    ∙ sym two.drawn

-- # The place and the meters

places_are_one : (seed : ℕ) (p : PlacePlan) (kind : Kind) (rows others : List (List Link)) → IsPlaceOf seed p kind rows → IsPlaceOf seed p kind others
    → rows ≡ others
places_are_one seed p (InStreet street) rows others one two = one ∙ sym two
places_are_one seed p (InGrid grid meters) rows others one two = one ∙ sym two
places_are_one seed p (InTower tower meters) rows others one two = one ∙ sym two
places_are_one seed p (Scattered field) rows others one two =
    tries_are_one field p.losses p.costs (first seed purposes.Place) one.0 two.0 rows others one.1 two.1
places_are_one seed p (Measured links) rows others one two = one ∙ sym two

depths_are_one : (depot : Bool) (rows : List (List Link)) (depths others : List ℕ) → AreDepths depot rows depths → AreDepths depot rows others
    → depths ≡ others
depths_are_one true rows depths others one two = one.1.1 ∙ ap (map depth_of) (hops_are_one rows one.0 two.0 one.1.0 two.1.0) ∙ sym two.1.1
depths_are_one false rows depths others one two = one ∙ sym two

-- two simulations of a plan before its run are one
pub firsts_are_one : {R : Type 0} (p : Plan) (recorder : R) (s t : Simulated R) → IsFirst p recorder s → IsFirst p recorder t → t ≡ s
firsts_are_one {R} p recorder s t one two = two.is ∙ (λ i. first_state p recorder (same_rows i) (same_depths i)) ∙ sym one.is
  where
    same_rows : two.rows ≡ one.rows
    same_rows = places_are_one p.seed p.place p.place.kind two.rows one.rows two.place one.place

    same_depths : two.depths ≡ one.depths
    same_depths = depths_are_one p.owner.joining.depot one.rows two.depths one.depths
        (subst (λ (rows : List (List Link)). AreDepths p.owner.joining.depot rows two.depths) same_rows two.deep) one.deep
