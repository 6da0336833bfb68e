-- The link of a node to another one breaks.
use Rattle.std.proofs.Common.{◌≡◌, Ok, Some, None, false, sym, ap, ◌∙◌, Err}
use Rattle.line_events.specs.declared.event.StepFault.{StepFault}
use Rattle.std.proofs.lemmas.Result.{err_from_is_err_and}
use Rattle.node_rules.specs.Calls as calls
use Rattle.node_rules.specs.Ciphers.{network}
use Rattle.node_rules.specs.Memory.{Node, node_address}
use Rattle.node_rules.specs.MemoryDrafts.{with_station}
use Rattle.node_rules.specs.NodeSteps.{acts, changing}
use Rattle.line_events.specs.declared.event.Answer.TheVariants as answers
use Rattle.line_rules.specs.Steps.{breaks, breaks_by, happenings, trace_of}
use Rattle.line_world.specs.Lines.{world_of}
use Rattle.line_world.proofs.EventSteps.{steps_as, begun, at_node, is_there, holds_there, node_said, only_ran, not_found, second_not_found, has_coordinator}
use Rattle.line_world.proofs.line.Line.breaks.Goals as goal

pub returns-in_err-number : goal.returns-in_err-number
unfolding breaks
returns-in_err-number c =
    let p = err_from_is_err_and c.from_residual.result c.from_residual.ensures.1 in
    rw p.1 (not_found false (world_of c.args.self.now) c.args.node _ p.0 c.requires.bounds (ap (λ (f : StepFault). Err f) p.2 ∙ c.in_err-number.ensures))

pub returns-in_err-next : goal.returns-in_err-next
unfolding breaks
returns-in_err-next c =
    let p = err_from_is_err_and c.from_residual-in_err-next.result c.from_residual-in_err-next.ensures.1 in
    rw p.1 (second_not_found false (world_of c.args.self.now) c.args.node c.in_ok-number.number c.args.next _ p.0 c.requires.bounds c.in_ok-number.ensures
    (ap (λ (f : StepFault). Err f) p.2 ∙ c.in_err-next.ensures))

pub address-requires : goal.address-requires
address-requires c = record { there = (is_there (world_of c.args.self.now) c.args.next c.in_ok-next.next c.in_ok-next.ensures).within }

pub returns-in_default : goal.returns-in_default
unfolding breaks
returns-in_default c =
    let w = world_of c.args.self.now in
    let there = is_there w c.args.node c.in_ok-number.number c.in_ok-number.ensures in
    let next = is_there w c.args.next c.in_ok-next.next c.in_ok-next.ensures in
    steps_as _ _ (begun w _ (has_coordinator (world_of c.args.self.now) c.args.node c.in_ok-number.number c.in_ok-number.ensures)
    ∙ at_node w c.args.node there.node _ there.at ∙ at_node w c.args.next next.node _ next.at
    ∙ ap (λ a. Ok (breaks_by network w c.args.node there.node a)) (sym (holds_there next (λ y. None ≡ node_address y) c.in_default.ensures)))
    (only_ran false w _ (trace_of (happenings w answers.NoAddress)) _ c.requires.bounds c.requires.events c.answered.ensures.reported
    (ap world_of c.answered.ensures.line))

pub broke-answer-requires : goal.broke-answer-requires
broke-answer-requires c = record { there = (is_there (world_of c.args.self.now) c.args.node c.in_ok-number.number c.in_ok-number.ensures).within }

pub returns : goal.returns
unfolding breaks
returns c =
    let w = world_of c.args.self.now in
    let there = is_there w c.args.node c.in_ok-number.number c.in_ok-number.ensures in
    let next = is_there w c.args.next c.in_ok-next.next c.in_ok-next.ensures in
    steps_as _ _ (begun w _ (has_coordinator (world_of c.args.self.now) c.args.node c.in_ok-number.number c.in_ok-number.ensures)
    ∙ at_node w c.args.node there.node _ there.at ∙ at_node w c.args.next next.node _ next.at
    ∙ ap (λ a. Ok (breaks_by network w c.args.node there.node a)) (sym (holds_there next (λ y. Some c.in-Some.address ≡ node_address y) c.in-Some.ensures)))
    (node_said false w _ there (λ (x : Node). acts x answers.Halted (λ m. changing answers.Broken (with_station (calls.broke c.in-Some.address m.station) m))) _
    _ _
    c.requires.bounds c.requires.events c.broke-answer.ensures c.answered-2.ensures.reported (ap world_of c.answered-2.ensures.line))
