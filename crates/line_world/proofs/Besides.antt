-- What stands beside the nodes, as events leave it.
use Rattle.std.proofs.Common.{◌≡◌, ℕ, suc, ◌<◌, ◌≤◌, Bool, true, List, [], ◌∷◌, length, Some, Result, Ok, Err, refl, sym, ap, subst, ◌∙◌}
use Rattle.std.specs.Prelude.{IfSome, slice_get, slice_set}
use Rattle.plc_base.specs.declared.keeper.BadStore.{BadStore}
use Rattle.plc_base.specs.declared.out_frame.Out.{Out}
use Rattle.neighbour_checks.specs.Neighbours.{nobody}
use Rattle.broadcast_log.specs.Log.{log_at_rest}
use Rattle.broadcast_log.proofs.ReopenedLogs.{reopens}
use Rattle.pan_discovery.specs.History.{ended}
use Rattle.store_tables.specs.SlotTables.{read_into}
use Rattle.node_rules.specs.Ciphers.{network}
use Rattle.node_rules.specs.Memory.{Memory, Node}
use Rattle.node_rules.specs.NodeSteps.{NodeStep, answering}
use Rattle.node_rules.specs.Plans.{Plan}
use Rattle.reach_rules.specs.ReachingNodes.{Beside, Reaching, restarted, restarted_by}
use Rattle.line_events.specs.declared.event.Answer.{Answer}
use Rattle.line_events.specs.declared.happenings.Happenings.{Happenings}
use Rattle.line_events.specs.declared.event.TheConstants.{MAX_EVENTS}
use Rattle.line_rules.specs.Further.{after_ok, beside_after, beside_at, has_reached, reaches, restarts_by, set_beside}
use Rattle.line_rules.specs.Logs.{AreLogged, LogsKept}
use Rattle.line_rules.specs.Steps.{node_outcome, happenings, running_world, restarts, node_trace, world_after}
use Rattle.line_rules.specs.Worlds.{Further, World, Trace}
use Rattle.line_rules.proofs.LogSteps.{halted_in, log_at, logged_at}
use Rattle.line_world.specs.Bounds.{IsBounded}
use Rattle.line_world.specs.NodeOutcomes.{Did}
use Rattle.line_world.specs.FurtherOutcomes.{ReachedFirst}
use Rattle.line_world.specs.Steps.{Steps}
use Rattle.line_world.proofs.SetupSteps.{bounded_beside}
use Rattle.line_world.proofs.EventSteps.{IsThere, after, node_acted, steps_as, holds_there}

-- each node has something beside it
pub beside_long : (bs : List Beside) (ns : List Node) → AreLogged bs ns → length bs ≡ length ns
beside_long [] [] h = refl
beside_long [] (x ∷ ns) h = absurd h
beside_long (b ∷ bs) [] h = absurd h
beside_long (b ∷ bs) (x ∷ ns) h = ap (λ n. suc n) (beside_long bs ns h.1)

-- a step after which other things stand beside the nodes
pub steps_beside : (takes : Bool) (w v : World) (h : Happenings) (r : World × Trace) (bs : List Beside) → Steps takes w (Ok h) v (Ok r)
    → Steps takes w (Ok h) (record v { beside = bs }) (Ok (record r.0 { beside = bs }, r.1))
steps_beside takes w v h r bs s = record {
  gives = record {
    trace = s.gives.trace;
    taken = ap (after_ok (λ q. (record q.0 { beside = bs }, q.1))) s.gives.taken;
    reported = s.gives.reported;
  };
  memory = s.memory;
  bounds = bounded_beside v bs s.bounds;
}

-- # Restarts

-- what was read is read
was_read : {A : Type 0} (result : Result (Unit {0}) BadStore) (new value : A) → read_into result new ≡ Ok value → result ≡ Ok tt
was_read (Ok tt) new value e = refl
was_read (Err bad) new value e = absurd (cc (e))

module _ {w : World} {number found : ℕ} (there : IsThere w number found) (kept : LogsKept w) (result : Result (Unit {0}) BadStore) (new : Beside)
    (is : IfSome (slice_get w.nodes found) (λ x. read_into result new ≡ restarted x.store.records)) where
  left_there : read_into result new ≡ restarted there.node.store.records
  left_there = holds_there there (λ (y : Node). read_into result new ≡ restarted y.store.records) is

  -- the log of a node is read again
  pub log_read : result ≡ Ok tt
  log_read =
      let x = there.node in
      let at : slice_get w.nodes found ≡ Some x = ap (λ n. slice_get w.nodes n) there.same ∙ there.at in
      let some = halted_in (log_at w.beside found) x (logged_at w.beside w.nodes found x kept at) in
      let left : Beside = record { checks = nobody; log = log_at_rest some.value; scan = ended } in
      was_read result new left (left_there ∙ ap restarted_by (reopens some.value x.store.records some.kept))

  -- and nothing else is left beside the node
  pub restart_is : restarts_by network w number there.node (restarted there.node.store.records)
      ≡ (
        record (node_outcome network w number (restarts there.node)).0 { beside = slice_set w.beside number new },
        (node_outcome network w number (restarts there.node)).1,
      )
  unfolding world_after
  restart_is =
      ap (restarts_by network w number there.node) (sym left_there ∙ ap (λ (r : Result (Unit {0}) BadStore). read_into r new) log_read)

-- # An event at which one node carried out a plan of its further rules

-- the same as a step after which other things stand beside the nodes, and of which the history is told more
pub steps_further : (takes : Bool) (w v : World) (h : Happenings) (r : World × Trace) (bs : List Beside) (more : Further) → Steps takes w (Ok h) v (Ok r)
    → Steps takes w (Ok h) (record v { beside = bs }) (Ok (record r.0 { beside = bs }, record r.1 { further = more }))
steps_further takes w v h r bs more s = record {
  gives = record {
    trace = record s.gives.trace { further = more };
    taken = ap (after_ok (λ q. (record q.0 { beside = bs }, record q.1 { further = more }))) s.gives.taken;
    reported = s.gives.reported;
  };
  memory = s.memory;
  bounds = bounded_beside v bs s.bounds;
}

module _ {A : Type 0} {w : World} {number found : ℕ} (there : IsThere w number found) (halted : A) (plan : Reaching Memory → Plan (Reaching Memory) A)
    (word : A → Answer) (more : Further) where
  -- what the node does, by the number that was found
  abbrev reached_by : Node → NodeStep A
  reached_by y = reaches y (beside_at w found) halted plan

  -- what is said and what is left of it
  pub node_reached : (new : World) (answer : A) (out : Out) (nodes : List Node) (c : Beside) (h : Happenings) → IsBounded w → w.events < MAX_EVENTS
      → length out.frames ≤ 24 → length out.tags.made ≤ 2
      → IfSome (slice_get w.nodes found) (λ y. ReachedFirst y (beside_at w found) halted plan w.nodes found answer out nodes c)
      → h ≡ record (happenings w (word answer)) { flights = length out.frames }
      → new ≡ record (after (running_world w) found nodes out) { beside = slice_set w.beside found c }
      → Steps true w (Ok h) new (Ok (
        has_reached network (running_world w) number there.node halted plan (reaches there.node (beside_at w number) halted plan),
        record (node_trace w (answering word (reaches there.node (beside_at w number) halted plan))) { further = more },
      ))
  unfolding world_after
  node_reached new answer out nodes c h b room frames tags did said is =
      let x = there.node in
      let at : slice_get w.nodes found ≡ Some x = ap (λ n. slice_get w.nodes n) there.same ∙ there.at in
      let r : ReachedFirst x (beside_at w found) halted plan w.nodes found answer out nodes c =
      subst (λ o. IfSome o (λ y. ReachedFirst y (beside_at w found) halted plan w.nodes found answer out nodes c)) at did in
      let own : IfSome (slice_get w.nodes found) (λ y. Did (reached_by y) w.nodes found answer out nodes) =
      subst (λ o. IfSome o (λ y. Did (reached_by y) w.nodes found answer out nodes)) (sym at) r.did in
      let s = steps_further true w (after (running_world w) found nodes out) h (node_outcome network w number (answering word (reached_by x)))
      (slice_set w.beside found c) more
      (node_acted true w (after (running_world w) found nodes out) there reached_by word answer out nodes h b room frames tags own said refl) in
      subst (λ v. Steps true w (Ok h) v (Ok (
        has_reached network (running_world w) number x halted plan (reaches x (beside_at w number) halted plan),
        record (node_trace w (answering word (reaches x (beside_at w number) halted plan))) { further = more },
      ))) (sym is)
      (steps_as _ _ ((λ i. Ok (
        set_beside (sym there.same i) (beside_after x (beside_at w (sym there.same i)) plan (reaches x (beside_at w (sym there.same i)) halted plan).node)
            (world_after network (running_world w) number (reaches x (beside_at w (sym there.same i)) halted plan)),
        record (node_trace w (answering word (reaches x (beside_at w (sym there.same i)) halted plan))) { further = more },
      )) ∙ ap (λ (d : Beside). Ok (
        set_beside found d (world_after network (running_world w) number (reached_by x)),
        record (node_trace w (answering word (reached_by x))) { further = more },
      )) (sym r.beside)) s)
