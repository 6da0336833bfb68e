-- A datagram goes to all.
use Rattle.std.proofs.Common.{◌≡◌, ◌∙◌, ◌<◌, ℕ, length, Err, true, sym, ap, subst}
use Rattle.std.specs.Prelude.{IfSome, is_ok, slice_get}
use Rattle.std.proofs.lemmas.Result.{err_from_is_err_and}
use Rattle.node_rules.specs.Ciphers.{network}
use Rattle.node_rules.specs.MemoryDrafts.{in_memory}
use Rattle.node_rules.specs.Memory.{Memory, Node}
use Rattle.reach_rules.specs.declared.refusal.BroadcastRefusal.TheVariants as broadcasts
use Rattle.reach_rules.specs.Broadcasts.{broadcast}
use Rattle.reach_rules.specs.ReachingNodes.{Beside, Reaching}
use Rattle.line_events.specs.declared.event.StepFault.{StepFault}
use Rattle.line_rules.specs.Answers.{broadcast_word}
use Rattle.line_rules.specs.Further.{bcast, beside_at, broadcast_sent, reaches}
use Rattle.line_rules.specs.Logs.{LogsKept}
use Rattle.line_rules.specs.Worlds.{World, nothing_further}
use Rattle.line_world.specs.Lines.{world_of}
use Rattle.line_world.specs.FurtherOutcomes.{ReachedFirst}
use Rattle.line_world.proofs.Besides.{node_reached}
use Rattle.line_world.proofs.FurtherCalls.{bcast_at, beside_found, log_there}
use Rattle.line_world.proofs.Orders.{Runs, reserved, still_runs, said_with, within_line}
use Rattle.line_world.proofs.EventSteps.{IsThere, has_coordinator, is_there, not_found, steps_as, unreserved}
use Rattle.line_world.proofs.line.Line.bcast.Goals as goal

pub returns-in_err-number : goal.returns-in_err-number
unfolding bcast
returns-in_err-number c =
    let p = err_from_is_err_and c.from_residual.result c.from_residual.ensures.1 in
    rw p.1 (not_found true (world_of c.args.self.now) c.args.node _ p.0 c.requires.bounds (ap (λ (f : StepFault). Err f) p.2 ∙ c.in_err-number.ensures))

pub returns-in_err-reserve : goal.returns-in_err-reserve
returns-in_err-reserve c =
    let w = world_of c.args.self.now in
    let p = err_from_is_err_and c.from_residual-in_err-reserve.result c.from_residual-in_err-reserve.ensures.1 in
    let r : Runs w = record {
      begun = has_coordinator w c.args.node c.in_ok-number.number c.in_ok-number.ensures;
      bounds = c.requires.bounds;
      room = c.requires.events;
    } in
    rw p.1 (unreserved w (world_of c.reserve.new.self) _ p.0 c.requires.bounds c.reserve.ensures.world
    (ap is_ok (bcast_at r (is_there w c.args.node c.in_ok-number.number c.in_ok-number.ensures) c.args.datagram.now))
    (ap (λ (f : StepFault). Err f) p.2 ∙ c.in_err-reserve.ensures.err))

pub broadcast-sent-requires-clause-there : goal.broadcast-sent-requires-clause-there
broadcast-sent-requires-clause-there c =
    subst (λ (it : World). c.in_ok-number.number < length it.nodes) (sym c.reserve.ensures.world)
    (is_there (world_of c.args.self.now) c.args.node c.in_ok-number.number c.in_ok-number.ensures).within

pub broadcast-sent-requires-clause-log : goal.broadcast-sent-requires-clause-log
broadcast-sent-requires-clause-log c =
    let w = world_of c.args.self.now in
    let kept = world_of c.reserve.new.self in
    let same : kept ≡ w = c.reserve.ensures.world in
    let number = c.in_ok-number.number in
    let there : IsThere kept c.args.node number = subst (λ (it : World). IsThere it c.args.node number) (sym same)
    (is_there w c.args.node number c.in_ok-number.ensures) in
    let within : number < length kept.beside =
    subst (λ (it : World). number < length it.beside) (sym same)
    (subst (λ (n : ℕ). number < n) (sym c.requires.beside) (is_there w c.args.node number c.in_ok-number.ensures).within) in
    log_there there c.index_mut.result.now (subst LogsKept (sym same) c.requires.logs)
    (beside_found kept.beside number c.index_mut.result.now within c.index_mut.ensures.value)

pub node_outcome-requires-clause-node : goal.node_outcome-requires-clause-node
node_outcome-requires-clause-node c =
    within_line c.requires.bounds (is_there (world_of c.args.self.now) c.args.node c.in_ok-number.number c.in_ok-number.ensures)

pub returns : goal.returns
returns c =
    let w = world_of c.args.self.now in
    let kept = world_of c.reserve.new.self in
    let same : kept ≡ w = c.reserve.ensures.world in
    let number = c.in_ok-number.number in
    let there : IsThere kept c.args.node number = subst (λ (it : World). IsThere it c.args.node number) (sym same)
    (is_there w c.args.node number c.in_ok-number.ensures) in
    let r : Runs kept = still_runs same
    (record { begun = has_coordinator w c.args.node number c.in_ok-number.ensures; bounds = c.requires.bounds; room = c.requires.events }) in
    let within : number < length kept.beside =
    subst (λ (it : World). number < length it.beside) (sym same)
    (subst (λ (n : ℕ). number < n) (sym c.requires.beside) (is_there w c.args.node number c.in_ok-number.ensures).within) in
    let held : c.index_mut.result.now ≡ beside_at kept number = beside_found kept.beside number c.index_mut.result.now within c.index_mut.ensures.value in
    let plan = λ (y : Reaching Memory). broadcast in_memory y c.args.datagram.now in
    let did = subst (λ (b : Beside). IfSome (slice_get kept.nodes number)
    (λ (y : Node). ReachedFirst y b (Err broadcasts.Halted) plan kept.nodes number c.broadcast-sent.result c.broadcast-sent.new.out
    c.broadcast-sent.new.self c.broadcast-sent.new.beside)) held c.broadcast-sent.ensures in
    reserved kept w (λ it. bcast network it c.args.node c.args.datagram.now) same
    (steps_as _ _ (bcast_at r there c.args.datagram.now)
    (node_reached there (Err broadcasts.Halted) plan broadcast_word
    (record nothing_further {
      broadcast = broadcast_sent c.args.node there.node (beside_at kept c.args.node) c.args.datagram.now
          (reaches there.node (beside_at kept c.args.node) (Err broadcasts.Halted) plan).answer;
    })
    (world_of c.node_outcome.new.self) c.broadcast-sent.result c.broadcast-sent.new.out c.broadcast-sent.new.self c.broadcast-sent.new.beside
    c.node_outcome.result
    r.bounds r.room c.node_outcome.ensures.frames c.node_outcome.ensures.tags did
    (said_with kept _ _ _ _ c.node_outcome.ensures.reported c.broadcast_word.ensures)
    c.node_outcome.ensures.world))
