-- A new coordinator.
use Rattle.std.proofs.Common.{◌≡◌, [], inl, Option, Some, None, Result, Ok, Err, sym, ap, subst, ◌∙◌}
use Rattle.std.specs.Prelude.{IfSome, IsSome}
use Rattle.std.specs.Option.{option_map, option_and_then}
use Rattle.std.specs.FinMap.{empty, get-empty}
use Rattle.std.specs.Ordering.{nat_cmp}
use Rattle.plc_base.specs.declared.address.Eui.{Eui}
use Rattle.plc_base.specs.declared.keeper.BadStore.{BadStore}
use Rattle.plc_base.specs.declared.key.Key.{Key}
use Rattle.plc_base.specs.Grant.{Granted}
use Rattle.plc_base.specs.Keeper.{Records, Store}
use Rattle.store_tables.proofs.OpenedTables.{stored_gapless}
use Rattle.frame_counters.specs.PeerMarks as marks
use Rattle.group_keys.specs.KeyBook as book
use Rattle.group_keys.specs.KeyRing.{ring_at, ring_slot}
use Rattle.routing_set.specs.RoutingSet as routing
use Rattle.node_rules.specs.CarriedPlans.{nothing}
use Rattle.node_rules.specs.Coordinators.{begin}
use Rattle.node_rules.specs.Memory.{Memory, Coordinator}
use Rattle.node_rules.specs.NodeSteps.{acts}
use Rattle.node_rules.specs.RestartStates.{memory_of, remembering, blank_station, first_grant}
use Rattle.node_rules.specs.Tables.{HasGaplessTables}
use Rattle.node_rules.proofs.Blank.{blank}
use Rattle.line_rules.specs.Steps.{blank_node, coordinator_node}
use Rattle.coordinator.specs.CoordinatorAgreement.{CoordinatorAgreesWith, CoordinatorAgrees, HasCoordinatorAddress}
use Rattle.coordinator.specs.CoordinatorStates.{CoordinatorState, node_of}
use Rattle.coordinator.specs.CoordinatorStart.{Begins, MayBegin, read_state}
use Rattle.line_world.specs.Nodes.{node_in, of_coordinator}
use Rattle.line_world.specs.Soundness.{IsSoundCoordinator}
use Rattle.line_world.proofs.NodeActs.{took, still_known}
use Rattle.line_world.proofs.CoordinatorActs.{sound_with}

-- what a coordinator that runs holds, its records hold without a gap, and the home
gapless : (m : Memory) (records : Records) → CoordinatorAgreesWith m records → HasGaplessTables Coordinator records
gapless m records h = record {
  marks = stored_gapless marks.peers m.station.marks records h.station.marks;
  ranks = stored_gapless routing.ranks m.station.routing.entries records h.station.routing.ranks;
  entries = stored_gapless book.entries m.book records h.book;
}

home_of : (m : Memory) (records : Records) → CoordinatorAgreesWith m records → HasCoordinatorAddress records
home_of m records h = ap (option_and_then (option_map (λ (g : Granted). g.address))) h.station.ring.stored ∙ h.home

runs_sound : (y : CoordinatorState) → IsSome (node_of y).memory → CoordinatorAgrees (node_of y) → IsSome y.station.store.known_cut → IsSoundCoordinator y
runs_sound y running h reported =
    let both = by (node_of y).memory running h in
    sound_with y reported both.0 both.1 h
  where
    by : (o : Option Memory) → IsSome o → IfSome o (λ m. CoordinatorAgreesWith m y.station.store.records)
        → HasGaplessTables Coordinator y.station.store.records × HasCoordinatorAddress y.station.store.records
    by None is h = absurd (cc)
    by (Some m) is h = (gapless m y.station.store.records h, home_of m y.station.store.records h)

-- a keeper without a record, which has no loss of power to come
abbrev blank_store : Store
blank_store = record { records = empty; pending = None; faults = 0; known_cut = Some None; listed = None }

-- what it gives
reads_blank : (m : Memory) → memory_of Coordinator empty ≡ Ok m → remembering blank_station [] ≡ m
reads_blank m e = ap ok_of (sym (blank Coordinator) ∙ e)
  where
    ok_of : Result Memory BadStore → Memory
    ok_of (Ok n) = n
    ok_of (Err bad) = m

module _ (store : Store) (eui : Eui) (key : Key) (y : CoordinatorState) (new : store ≡ blank_store) where
  blank_is : (m : Memory) → memory_of Coordinator store.records ≡ Ok m → node_in Coordinator (read_state store eui m) ≡ blank_node Coordinator eui
  blank_is m read =
      let reads = reads_blank m (subst (λ (s : Store). memory_of Coordinator s.records ≡ Ok m) new read) in
      λ i. node_in Coordinator (read_state (new i) eui (sym reads i))

  reports : IsSome store.known_cut
  reports = subst (λ (s : Store). IsSome s.known_cut) (sym new) (cc)

  pub made : Begins store eui key (Ok tt) (node_of y) → of_coordinator y ≡ coordinator_node eui key
  made b =
      let t = took Coordinator (read_state store eui b.memory) (node_of y) (Ok tt) (λ m. begin m (first_grant key)) (Ok tt) nothing reports tt b.carries in
      t.node_is ∙ ap (λ n. (acts n (Ok tt) (λ m. begin m (first_grant key))).node) (blank_is b.memory b.read)

  pub made_sound : Begins store eui key (Ok tt) (node_of y) → IsSome (node_of y).memory → CoordinatorAgrees (node_of y) → IsSoundCoordinator y
  made_sound b running h =
      runs_sound y running h (still_known (read_state store eui b.memory) (node_of y) (begin b.memory (first_grant key)) (Ok tt) nothing reports b.carries)

  -- it may begin
  pub may_begin : MayBegin store.records
  may_begin = subst (λ (s : Store). MayBegin s.records) (sym new) (inl (ap ring_at (get-empty nat_cmp ring_slot)))
