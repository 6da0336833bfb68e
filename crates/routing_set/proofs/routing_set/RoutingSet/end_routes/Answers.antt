use Rattle.std.proofs.Common.{◌≡◌, ℕ, suc, ◌+◌, ◌++◌, List, Some, map, take, drop, set, sym, ap, subst, ◌∙◌, arith}
use Rattle.std.specs.Prelude.{slice_get}
use Rattle.routing_set.specs.declared.entry.RoutingEntry.{RoutingEntry}
use Rattle.routing_set.specs.RoutingSet.{Routing, AgreesWith, ended}
use Rattle.routing_set.specs.RouteEnds.{takes, after_ending}
use Rattle.routing_set.specs.FirstEnd.{IsStill}
use Rattle.routing_set.proofs.RouteEnds.{map_step, map_whole, kept_ended}
use Rattle.routing_set.proofs.FirstEnds.{still_ended}
use Rattle.routing_set.proofs.routing_set.RoutingSet.end_routes.Goals as goal

pub loop-place-preserved : goal.loop-place-preserved
loop-place-preserved c =
    let f : RoutingEntry → RoutingEntry = after_ending c.args.ending.now in
    let xs = c.self.inside.table in
    let p = c.loop-place.place in
    let e = c.get-entry.result in
    let so_far = c.loop-place.invariant.entries in
    let got : slice_get (map f (take p xs) ++ drop p xs) p ≡ Some e = subst (λ (ys : List RoutingEntry). slice_get ys p ≡ Some e) so_far c.get-entry.ensures in
    let next : suc p ≡ p + 1 = omega arith in
    record {
      entries = c.set_unstored.ensures.table ∙ ap (set c.loop-place.self-inside.table p) c.applied.ensures.entry
          ∙ ap (λ (ys : List RoutingEntry). set ys p (f e)) so_far ∙ map_step f xs p e got ∙ ap (λ (n : ℕ). map f (take n xs) ++ drop n xs) next;
      floors = c.loop-place.invariant.floors;
      bound = c.loop-place.invariant.bound;
      end = c.loop-place.invariant.end;
    }

-- at the end, all entries are after it
whole : (c : goal.After-loop-place) → c.loop-place.self-inside.table ≡ map (after_ending c.args.ending.now) c.self.inside.table
whole c =
    c.loop-place.invariant.entries
    ∙ map_whole (after_ending c.args.ending.now) c.self.inside.table c.loop-place.place (omega (arith, c.loop-place-test.false, c.loop-place.invariant.end))

pub returns-clause-routing : goal.returns-clause-routing
returns-clause-routing c =
    let all = whole c in
    let done : Routing = record { entries = c.loop-place.self-inside.table; floors = c.loop-place.self-inside.floors } in
    let same : done ≡ ended (takes c.args.ending.now) (record { entries = c.self.inside.table; floors = c.self.inside.floors })
    = λ i. record { entries = all i; floors = c.loop-place.invariant.floors i } in
    same ∙ ap (ended (takes c.args.ending.now)) c.self.view_is

pub returns-clause-kept : goal.returns-clause-kept
returns-clause-kept c records kept =
    subst (λ (r : Routing). AgreesWith r records) (sym (returns-clause-routing c)) (kept_ended (takes c.args.ending.now) c.args.self.now records kept)

pub invariant_of-self : goal.invariant_of-self
invariant_of-self c =
    subst (λ (n : ℕ). IsStill n c.loop-place.self-inside.table) (sym c.loop-place.invariant.bound)
    (subst (IsStill c.self.inside.next_end) (sym (whole c))
    (still_ended (takes c.args.ending.now) c.self.inside.next_end c.self.inside.table c.self.invariant))
