-- A node restarts.
use Rattle.std.proofs.Common.{◌≡◌, ◌∙◌, ◌<◌, ℕ, List, length, Err, Ok, false, ap, refl, subst, sym}
use Rattle.std.specs.Prelude.{IfSome, slice_get, slice_set}
use Rattle.std.proofs.lemmas.Result.{err_from_is_err_and}
use Rattle.node_rules.specs.CarriedPlans.{nothing}
use Rattle.node_rules.specs.Ciphers.{network}
use Rattle.node_rules.specs.Memory.{Node}
use Rattle.reach_rules.specs.ReachingNodes.{Beside}
use Rattle.line_events.specs.declared.event.StepFault.{StepFault}
use Rattle.line_rules.specs.Further.{restarts_further}
use Rattle.line_rules.specs.Steps.{node_outcome, happenings, running_world, restarts}
use Rattle.line_rules.specs.Worlds.{World, Trace}
use Rattle.line_world.specs.NodeOutcomes.{Did}
use Rattle.line_world.specs.Lines.{world_of}
use Rattle.line_world.specs.Steps.{Steps}
use Rattle.line_world.proofs.Besides.{log_read, restart_is, steps_beside}
use Rattle.line_world.proofs.EventSteps.{steps_as, begun, at_node, is_there, node_said, not_found, has_coordinator}
use Rattle.line_world.proofs.line.Line.restart.Goals as goal

pub returns-in_err-number : goal.returns-in_err-number
unfolding restarts_further
returns-in_err-number c =
    let p = err_from_is_err_and c.from_residual.result c.from_residual.ensures.1 in
    rw p.1 (not_found false (world_of c.args.self.now) c.args.node _ p.0 c.requires.bounds (ap (λ (f : StepFault). Err f) p.2 ∙ c.in_err-number.ensures))

pub index_mut-requires : goal.index_mut-requires
index_mut-requires c =
    subst (λ (n : ℕ). c.in_ok-number.number < n) (sym (c.args.self.now.beside.ok.0 ∙ c.requires.beside))
    (is_there (world_of c.args.self.now) c.args.node c.in_ok-number.number c.in_ok-number.ensures).within

pub reload_beside-requires : goal.reload_beside-requires
reload_beside-requires c = record { there = (is_there (world_of c.args.self.now) c.args.node c.in_ok-number.number c.in_ok-number.ensures).within }

pub unreachable-requires : goal.unreachable-requires
unreachable-requires c =
    let there = is_there (world_of c.args.self.now) c.args.node c.in_ok-number.number c.in_ok-number.ensures in
    c.in_default.not-Ok tt (log_read there c.requires.logs c.reload_beside.result c.reload_beside.new.beside c.reload_beside.ensures.value)

pub restart-answer-requires : goal.restart-answer-requires
restart-answer-requires c =
    let there = is_there (world_of c.args.self.now) c.args.node c.in_ok-number.number c.in_ok-number.ensures in
    record { there = subst (λ (ns : List Node). c.in_ok-number.number < length ns) (sym c.reload_beside.ensures.same) there.within }

pub returns : goal.returns
unfolding restarts_further
returns c =
    let w = world_of c.args.self.now in
    let there = is_there w c.args.node c.in_ok-number.number c.in_ok-number.ensures in
    let b : Beside = c.reload_beside.new.beside in
    let bs : List Beside = slice_set w.beside c.args.node b in
    let nodes = c.restart-answer.new.self in
    let same = c.reload_beside.ensures.same in
    let did = subst (λ (ns : List Node). IfSome (slice_get ns c.in_ok-number.number)
    (λ (x : Node). Did (restarts x) ns c.in_ok-number.number c.restart-answer.result nothing nodes)) same c.restart-answer.ensures in
    let reported = c.answered.ensures.reported ∙ (λ i. happenings w c.restart-answer.result) in
    let left : World = record (record (running_world w) { nodes = nodes }) { beside = bs } in
    let new : world_of c.answered.new.self ≡ left =
    ap world_of c.answered.ensures.line
    ∙ (λ i. record (record (running_world w) { nodes = nodes }) { beside = slice_set w.beside (there.same i) b }) in
    subst (λ (v : World). Steps false w (Ok c.answered.result) v (restarts_further network w c.args.node)) (sym new)
    (steps_as _ _ (begun w _ (has_coordinator w c.args.node c.in_ok-number.number c.in_ok-number.ensures) ∙ at_node w c.args.node there.node _ there.at
    ∙ ap (λ (r : World × Trace). Ok r)
    (restart_is there c.requires.logs c.reload_beside.result c.reload_beside.new.beside c.reload_beside.ensures.value))
    (steps_beside false w (record (running_world w) { nodes = nodes }) _ (node_outcome network w c.args.node (restarts there.node)) bs
    (node_said false w (record (running_world w) { nodes = nodes }) there restarts c.restart-answer.result nodes _ c.requires.bounds c.requires.events did
    reported refl)))
