-- A meter that is made over an empty store.
use Rattle.std.proofs.Common.{◌≡◌, ◌<◌, List, [], ◌∷◌, ◌++◌, length, map, Option, Some, None, Result, sym, ap, subst, ◌∙◌, arith}
use Rattle.std.specs.Prelude.{IsSome, IfNone, All}
use Rattle.std.specs.Result.{result_ok}
use Rattle.std.specs.FinMap.{empty}
use Rattle.std.proofs.lemmas.List.{map_push}
use Rattle.std.proofs.lemmas.List.Elements.{All-push}
use Rattle.plc_base.specs.declared.address.Eui.{Eui}
use Rattle.plc_base.specs.declared.key.Key.{Key}
use Rattle.plc_base.specs.declared.keeper.BadStore.{BadStore}
use Rattle.plc_base.specs.Keeper.{Store}
use Rattle.store_tables.proofs.OpenedTables.{empty_gapless}
use Rattle.frame_counters.specs.PeerMarks as marks
use Rattle.routing_set.specs.RoutingSet as routing
use Rattle.node_rules.specs.Agreement.{Agrees}
use Rattle.node_rules.specs.Memory.{Memory, Meter, Node}
use Rattle.node_rules.specs.RestartStates.{memory_of, remembering, blank_station}
use Rattle.node_rules.proofs.Blank.{blank}
use Rattle.line_rules.specs.Steps.{blank_node}
use Rattle.meter_node.specs.MeterStates.{MeterState, node_of}
use Rattle.coordinator.specs.CoordinatorStates.{CoordinatorState}
use Rattle.line_world.specs.Nodes.{stored_in, nodes_in, of_coordinator, of_meter}
use Rattle.line_world.specs.Soundness.{AreSound, IsSoundMeter}
use Rattle.line_world.proofs.MeterActs.{sound_meter}

-- what an empty keeper holds
abbrev pub empty_store : Store
empty_store = record { records = empty; pending = None; faults = 0; known_cut = Some None; listed = None }

-- What is said of a meter that was opened over a keeper.
pub record Opened (keeper : Store) (own : Eui) (key : Key) (y : MeterState) : Type 0 where
  pub keeper_is : keeper ≡ empty_store
  pub store : y.station.store ≡ keeper
  pub eui : y.station.eui ≡ own
  pub psk : y.psk ≡ key
  pub memory : (node_of y).memory ≡ result_ok (memory_of (Meter key) keeper.records)
  pub agrees : Agrees y.station

module _ (keeper : Store) (own : Eui) (key : Key) (y : MeterState) (o : Opened keeper own key y) where
  records_empty : keeper.records ≡ empty
  records_empty = ap (λ (s : Store). s.records) o.keeper_is

  store_is : y.station.store ≡ empty_store
  store_is = o.store ∙ o.keeper_is

  pub sound_made : IsSoundMeter y
  sound_made =
      let none = ap (λ (s : Store). s.records) store_is in
      sound_meter y (subst (λ (s : Store). IsSome s.known_cut) (sym store_is) (cc))
      (record {
        marks = empty_gapless marks.peers y.station.store.records none;
        ranks = empty_gapless routing.ranks y.station.store.records none;
        entries = tt;
      })
      o.agrees

  memory_blank : (node_of y).memory ≡ Some (remembering blank_station [])
  memory_blank =
      o.memory ∙ ap (λ r. result_ok (memory_of (Meter key) r)) records_empty ∙ ap (λ (r : Result Memory BadStore). result_ok r) (blank (Meter key))

  pub node_made : of_meter y ≡ blank_node (Meter key) own
  node_made = λ i. record { role = Meter (o.psk i); eui = o.eui i; store = stored_in (store_is i); memory = memory_blank i }

-- the list of the meters has one more
one_more : (ms xs : List MeterState) (y : MeterState) (n : Node) → xs ≡ ms ++ y ∷ [] → of_meter y ≡ n → map of_meter xs ≡ map of_meter ms ++ n ∷ []
one_more ms xs y n is node =
    ap (λ (k : List MeterState). map of_meter k) is ∙ map_push of_meter ms y ∙ ap (λ (k : Node). map of_meter ms ++ k ∷ []) node

module _ (o : Option CoordinatorState) (ms xs : List MeterState) (old : List Node) (y : MeterState) (view : nodes_in o ms ≡ old) (begun : 0 < length old)
    (is : xs ≡ ms ++ y ∷ []) where
  some : 0 < length (nodes_in o ms)
  some = subst (λ (k : List Node). 0 < length k) (sym view) begun

  pub made_meter : (n : Node) → of_meter y ≡ n → nodes_in o xs ≡ old ++ n ∷ []
  made_meter n node = by o some ∙ ap (λ (k : List Node). k ++ n ∷ []) view
    where
      by : (c : Option CoordinatorState) → 0 < length (nodes_in c ms) → nodes_in c xs ≡ nodes_in c ms ++ n ∷ []
      by None h = absurd (omega (arith, h))
      by (Some c) h = ap (λ (ns : List Node). of_coordinator c ∷ ns) (one_more ms xs y n is node)

  pub made_sound : AreSound o ms → IsSoundMeter y → AreSound o xs
  made_sound sound h = record {
    coordinator = sound.coordinator;
    meters = subst (λ (k : List MeterState). All IsSoundMeter k) (sym is) (All-push IsSoundMeter ms y sound.meters h);
    begun = by o some;
  }
    where
      by : (c : Option CoordinatorState) → 0 < length (nodes_in c ms) → IfNone c (xs ≡ [])
      by None h = absurd (omega (arith, h))
      by (Some c) h = tt

-- the coordinator is the first node
pub first_node : (o : Option CoordinatorState) (ms : List MeterState) (old : List Node) (y : CoordinatorState) (n : Node) → nodes_in o ms ≡ old → old ≡ []
    → AreSound o ms → of_coordinator y ≡ n → nodes_in (Some y) ms ≡ n ∷ []
first_node o ms old y n view none sound node = by o (view ∙ none) sound.begun
  where
    by : (c : Option CoordinatorState) → nodes_in c ms ≡ [] → IfNone c (ms ≡ []) → of_coordinator y ∷ map of_meter ms ≡ n ∷ []
    by None e begun = λ i. node i ∷ map of_meter (begun i)
    by (Some c) e begun = absurd (cc (e))
