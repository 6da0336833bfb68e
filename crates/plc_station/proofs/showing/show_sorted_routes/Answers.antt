use Rattle.std.proofs.Common.{◌≡◌, ℕ, suc, ◌+◌, List, [], ◌∷◌, ◌++◌, length, map, take, Some, sym, ap, ◌∙◌, arith}
use Rattle.std.specs.Prelude.{slice_get}
use Rattle.std.proofs.lemmas.List.{take_all}
use Rattle.std.proofs.lemmas.Option.{slice_get-get_or}
use Rattle.routing_set.specs.declared.entry.RoutingEntry.{RoutingEntry}
use Rattle.routing_set.specs.RoutingSet.{ranks}
use Rattle.node_rules.specs.ShownNodes.{ordered_by, shown_route}
use Rattle.plc_station.proofs.Shows.{is_there, shown_suc, as_many}
use Rattle.plc_station.proofs.showing.show_sorted_routes.Goals as goal

pub route_shown-requires : goal.route_shown-requires
route_shown-requires c = record {
  kept = is_there ranks shown_route c.args.routing.now.entries c.kept-kept.result.items c.loop-dest.dest-index
      c.dest-item.result c.entries-entries.ensures.table c.kept-kept.ensures.same c.kept-kept.ensures.sorted
      (ap (λ (xs : List ℕ). slice_get xs c.loop-dest.dest-index) (sym c.as_slice-dest-items.ensures.value)
      ∙ slice_get-get_or c.as_slice-dest-items.result.now c.loop-dest.dest-index c.dest-item.result (omega (arith, c.loop-dest-test.true))
      ∙ ap Some (sym c.dest-item.is));
}

pub loop-dest-preserved : goal.loop-dest-preserved
loop-dest-preserved c =
    let next : suc c.loop-dest.dest-index ≡ c.loop-dest.dest-index + 1 = omega arith in
    c.push.ensures
    ∙ ap (λ os. os ++ c.route_shown.result ∷ []) c.loop-dest.invariant
    ∙ sym (shown_suc ranks shown_route c.args.routing.now.entries c.kept-kept.result.items c.loop-dest.dest-index c.dest-item.result c.route_shown.result
    c.entries-entries.ensures.table c.kept-kept.ensures.same c.kept-kept.ensures.sorted
    (ap (λ (xs : List ℕ). slice_get xs c.loop-dest.dest-index) (sym c.as_slice-dest-items.ensures.value)
    ∙ slice_get-get_or c.as_slice-dest-items.result.now c.loop-dest.dest-index c.dest-item.result (omega (arith, c.loop-dest-test.true))
    ∙ ap Some (sym c.dest-item.is)) c.route_shown.ensures)
    ∙ ap (λ n. map shown_route (take n (ordered_by (λ (e : RoutingEntry). e.address) c.args.routing.now.entries))) next

pub returns : goal.returns
returns c =
    c.loop-dest.invariant
    ∙ ap (map shown_route) (take_all c.loop-dest.dest-index (ordered_by (λ (e : RoutingEntry). e.address) c.args.routing.now.entries)
    (omega (
      arith,
      c.loop-dest-test.false,
      ap (λ (xs : List ℕ). length xs) c.as_slice-dest-items.ensures.value,
      as_many ranks shown_route c.args.routing.now.entries c.kept-kept.result.items c.entries-entries.ensures.table c.kept-kept.ensures.same
          c.kept-kept.ensures.sorted,
    )))
