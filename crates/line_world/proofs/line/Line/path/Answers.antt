-- The way to a node is asked for.
use Rattle.std.proofs.Common.{◌≡◌, ◌∙◌, ◌<◌, ℕ, length, Some, None, Option, Ok, Err, sym, ap, subst}
use Rattle.std.specs.Prelude.{IfSome, is_ok, slice_get}
use Rattle.std.proofs.lemmas.Result.{err_from_is_err_and}
use Rattle.node_rules.specs.Ciphers.{network}
use Rattle.node_rules.specs.MemoryDrafts.{in_memory}
use Rattle.node_rules.specs.Memory.{Memory, Node, node_address}
use Rattle.reach_rules.specs.declared.refusal.AskRefusal.TheVariants as asks
use Rattle.reach_rules.specs.PathRequests.{ask_path}
use Rattle.reach_rules.specs.ReachingNodes.{Beside, Reaching}
use Rattle.line_events.specs.declared.event.StepFault.{StepFault}
use Rattle.line_rules.specs.Answers.{ask_word}
use Rattle.line_rules.specs.Further.{asked, asks_by, beside_at, path, reaches}
use Rattle.line_rules.specs.Worlds.{World, nothing_further}
use Rattle.line_world.specs.Lines.{world_of}
use Rattle.line_events.specs.declared.event.Answer.TheVariants as answers
use Rattle.line_rules.specs.Steps.{happenings, trace_of}
use Rattle.line_world.specs.Steps.{has_address}
use Rattle.line_world.specs.FurtherOutcomes.{ReachedFirst}
use Rattle.line_world.proofs.Besides.{node_reached}
use Rattle.line_world.proofs.FurtherCalls.{beside_found, path_at}
use Rattle.line_world.proofs.Orders.{Runs, reserved, still_runs, said_with, within_line}
use Rattle.line_world.proofs.EventSteps.{IsThere, addressed, has_coordinator, is_there, not_found, only_ran, second_not_found, steps_as, taking, holds_there}
use Rattle.line_world.proofs.EventSteps.{unreserved}
use Rattle.line_world.proofs.line.Line.path.Goals as goal

pub returns-in_err-from : goal.returns-in_err-from
unfolding path
returns-in_err-from c =
    let p = err_from_is_err_and c.from_residual.result c.from_residual.ensures.1 in
    rw p.1 (not_found (has_address (world_of c.args.self.now) c.args.to) (world_of c.args.self.now) c.args.from _ p.0 c.requires.bounds
    (ap (λ (f : StepFault). Err f) p.2 ∙ c.in_err-from.ensures))

pub returns-in_err-to : goal.returns-in_err-to
unfolding path
returns-in_err-to c =
    let p = err_from_is_err_and c.from_residual-in_err-to.result c.from_residual-in_err-to.ensures.1 in
    rw p.1 (second_not_found (has_address (world_of c.args.self.now) c.args.to) (world_of c.args.self.now) c.args.from c.in_ok-from.from c.args.to _ p.0
    c.requires.bounds c.in_ok-from.ensures (ap (λ (f : StepFault). Err f) p.2 ∙ c.in_err-to.ensures))

pub address-requires : goal.address-requires
address-requires c = record { there = (is_there (world_of c.args.self.now) c.args.to c.in_ok-to.to c.in_ok-to.ensures).within }

pub returns-in_default : goal.returns-in_default
returns-in_default c =
    let w = world_of c.args.self.now in
    let r : Runs w = record {
      begun = has_coordinator w c.args.from c.in_ok-from.from c.in_ok-from.ensures;
      bounds = c.requires.bounds;
      room = c.requires.events;
    } in
    let there = is_there w c.args.from c.in_ok-from.from c.in_ok-from.ensures in
    let to = is_there w c.args.to c.in_ok-to.to c.in_ok-to.ensures in
    steps_as _ _ (path_at r there to
    ∙ ap (λ (a : Option ℕ). Ok (asks_by network w c.args.from there.node a)) (sym (holds_there to (λ y. None ≡ node_address y) c.in_default.ensures)))
    (only_ran (has_address w c.args.to) w _ (trace_of (happenings w answers.NoAddress)) _ c.requires.bounds c.requires.events c.answered.ensures.reported
    (ap world_of c.answered.ensures.line))

pub returns-in_err-reserve : goal.returns-in_err-reserve
returns-in_err-reserve c =
    let w = world_of c.args.self.now in
    let p = err_from_is_err_and c.from_residual-in_err-reserve.result c.from_residual-in_err-reserve.ensures.1 in
    let r : Runs w = record {
      begun = has_coordinator w c.args.from c.in_ok-from.from c.in_ok-from.ensures;
      bounds = c.requires.bounds;
      room = c.requires.events;
    } in
    let there = is_there w c.args.from c.in_ok-from.from c.in_ok-from.ensures in
    let to = is_there w c.args.to c.in_ok-to.to c.in_ok-to.ensures in
    rw p.1 (taking (addressed to c.in-Some.target c.in-Some.ensures)
    (unreserved w (world_of c.reserve.new.self) _ p.0 c.requires.bounds c.reserve.ensures.world (ap is_ok (path_at r there to))
    (ap (λ (f : StepFault). Err f) p.2 ∙ c.in_err-reserve.ensures.err)))

pub ask-asked-requires : goal.ask-asked-requires
ask-asked-requires c =
    record {
      there = subst (λ (it : World). c.in_ok-from.from < length it.nodes) (sym c.reserve.ensures.world)
          (is_there (world_of c.args.self.now) c.args.from c.in_ok-from.from c.in_ok-from.ensures).within;
    }

pub node_outcome-requires-clause-node : goal.node_outcome-requires-clause-node
node_outcome-requires-clause-node c = within_line c.requires.bounds (is_there (world_of c.args.self.now) c.args.from c.in_ok-from.from c.in_ok-from.ensures)

pub returns : goal.returns
returns c =
    let w = world_of c.args.self.now in
    let kept = world_of c.reserve.new.self in
    let same : kept ≡ w = c.reserve.ensures.world in
    let number = c.in_ok-from.from in
    let target = c.in-Some.target in
    let there : IsThere kept c.args.from number = subst (λ (it : World). IsThere it c.args.from number) (sym same)
    (is_there w c.args.from number c.in_ok-from.ensures) in
    let to : IsThere kept c.args.to c.in_ok-to.to = subst (λ (it : World). IsThere it c.args.to c.in_ok-to.to) (sym same)
    (is_there w c.args.to c.in_ok-to.to c.in_ok-to.ensures) in
    let at : Some target ≡ node_address to.node =
    holds_there to (λ y. Some target ≡ node_address y)
    (subst (λ (it : World). IfSome (slice_get it.nodes c.in_ok-to.to) (λ y. Some target ≡ node_address y)) (sym same) c.in-Some.ensures) in
    let r : Runs kept = still_runs same
    (record { begun = has_coordinator w c.args.from number c.in_ok-from.ensures; bounds = c.requires.bounds; room = c.requires.events }) in
    let within : number < length kept.beside =
    subst (λ (it : World). number < length it.beside) (sym same)
    (subst (λ (n : ℕ). number < n) (sym c.requires.beside) (is_there w c.args.from number c.in_ok-from.ensures).within) in
    let held : c.index_mut.result.now ≡ beside_at kept number = beside_found kept.beside number c.index_mut.result.now within c.index_mut.ensures.value in
    let plan = λ (y : Reaching Memory). ask_path in_memory y target in
    let did = subst (λ (b : Beside). IfSome (slice_get kept.nodes number)
    (λ (y : Node). ReachedFirst y b (Err asks.Halted) plan kept.nodes number c.ask-asked.result c.ask-asked.new.out
    c.ask-asked.new.self c.ask-asked.new.beside)) held c.ask-asked.ensures in
    taking (addressed (is_there w c.args.to c.in_ok-to.to c.in_ok-to.ensures) target c.in-Some.ensures)
    (reserved kept w (λ it. path network it c.args.from c.args.to) same
    (steps_as _ _ (path_at r there to ∙ ap (λ (a : Option ℕ). Ok (asks_by network kept c.args.from there.node a)) (sym at))
    (node_reached there (Err asks.Halted) plan ask_word
    (record nothing_further { stepping = asked there.node target (reaches there.node (beside_at kept c.args.from) (Err asks.Halted) plan).answer })
    (world_of c.node_outcome.new.self) c.ask-asked.result c.ask-asked.new.out c.ask-asked.new.self c.ask-asked.new.beside c.node_outcome.result
    r.bounds r.room c.node_outcome.ensures.frames c.node_outcome.ensures.tags did (said_with kept _ _ _ _ c.node_outcome.ensures.reported c.ask_word.ensures)
    c.node_outcome.ensures.world)))
