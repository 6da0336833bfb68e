use Rattle.std.proofs.Common.{ltb, List, ℕ, sym, subst, arith, rules}
use Rattle.std.specs.Prelude.{slice_index}
use Rattle.std.proofs.lemmas.Bool.{ltb-true, ltb-false}
use Rattle.std.proofs.lemmas.List.Sorted.{IsPartitionPoint-from_clause, IsPartitionedBy-ltb}
use Rattle.store_tables.specs.SlotOrders.{IsRising, IsRank}
use Rattle.store_tables.specs.SlotTables.{keys_of}
use Rattle.store_tables.proofs.SlotOrders.{up}
use Rattle.store_tables.proofs.slot_order.SlotOrder.rank.Goals as goal

pub returns : goal.returns
returns g c =
    let keys = keys_of g.E.SlotEntry.layout c.args.entries.now in
    let places = c.self.inside.places in
    let rising = subst (λ (ps : List ℕ). IsRising keys ps) (sym c.self.view_is) c.requires in
    let point = IsPartitionPoint-from_clause (λ place. ltb (slice_index keys place) c.args.key) places c.partition_point.result
    (rw c.as_slice.ensures at c.partition_point.ensures.partitioned)
    (IsPartitionedBy-ltb (slice_index keys) places c.args.key (up keys places rising)) (λ a r q k. search rules) in
    subst (λ (ps : List ℕ). IsRank keys ps c.args.key c.partition_point.result) c.self.view_is (record {
      within = omega (arith, rw c.as_slice.ensures at c.partition_point.ensures.bound);
      lower = λ k d from lt. ltb-true _ _ (point.0 k d from lt);
      higher = λ k d from lt. ltb-false _ _ (point.1 k d from lt);
    })
