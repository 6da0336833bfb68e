-- A datagram is sent.
use Rattle.std.proofs.Common.{◌≡◌, ◌+◌, ◌<◌, Ok, Err, Some, None, true, length, sym, ap, subst, ◌∙◌, arith}
use Rattle.line_events.specs.declared.event.StepFault.{StepFault}
use Rattle.std.proofs.lemmas.Result.{err_from_is_err_and}
use Rattle.std.specs.Prelude.{IfSome, slice_get, is_ok}
use mir.Val.{bool_byte}
use Rattle.node_rules.specs.declared.refusal.SendRefusal.TheVariants as sends
use Rattle.node_rules.specs.Calls as calls
use Rattle.node_rules.specs.Ciphers.{network}
use Rattle.node_rules.specs.Memory.{Node, node_address}
use Rattle.node_rules.specs.NodeSteps.{acts, of_station}
use Rattle.line_events.specs.declared.event.Answer.TheVariants as answers
use Rattle.line_events.specs.declared.event.TheConstants.{MAX_EVENTS}
use Rattle.line_rules.specs.Worlds.{World}
use Rattle.line_rules.specs.Steps.{happenings, has_begun, send, sends_by, tag_of, trace_of}
use Rattle.line_world.specs.Bounds.{IsBounded}
use Rattle.line_world.specs.Lines.{world_of}
use Rattle.line_world.specs.Steps.{Steps, has_address}
use Rattle.line_world.proofs.EventSteps.{IsThere, steps_as, begun, at_node, is_there, holds_there, only_ran, not_found, second_not_found, has_coordinator}
use Rattle.line_world.proofs.EventSteps.{unreserved, taking, addressed}
use Rattle.line_world.proofs.CountedSends.{node_sent}
use Rattle.line_world.proofs.line.Line.send.Goals as goal

pub returns-in_err-from : goal.returns-in_err-from
unfolding send
returns-in_err-from c =
    let p = err_from_is_err_and c.from_residual.result c.from_residual.ensures.1 in
    rw p.1 (not_found (has_address (world_of c.args.self.now) c.args.to) (world_of c.args.self.now) c.args.from _ p.0 c.requires.bounds
    (ap (λ (f : StepFault). Err f) p.2 ∙ c.in_err-from.ensures))

pub returns-in_err-to : goal.returns-in_err-to
unfolding send
returns-in_err-to c =
    let p = err_from_is_err_and c.from_residual-in_err-to.result c.from_residual-in_err-to.ensures.1 in
    rw p.1 (second_not_found (has_address (world_of c.args.self.now) c.args.to) (world_of c.args.self.now) c.args.from c.in_ok-from.from c.args.to _ p.0
    c.requires.bounds c.in_ok-from.ensures (ap (λ (f : StepFault). Err f) p.2 ∙ c.in_err-to.ensures))

pub address-requires : goal.address-requires
address-requires c = record { there = (is_there (world_of c.args.self.now) c.args.to c.in_ok-to.to c.in_ok-to.ensures).within }

pub returns-in_default : goal.returns-in_default
unfolding send
returns-in_default c =
    let w = world_of c.args.self.now in
    let there = is_there w c.args.from c.in_ok-from.from c.in_ok-from.ensures in
    let to = is_there w c.args.to c.in_ok-to.to c.in_ok-to.ensures in
    steps_as _ _ (begun w _ (has_coordinator (world_of c.args.self.now) c.args.from c.in_ok-from.from c.in_ok-from.ensures)
    ∙ at_node w c.args.from there.node _ there.at ∙ at_node w c.args.to to.node _ to.at
    ∙ ap (λ a. Ok (sends_by network w c.args.from c.args.to c.args.datagram.now there.node a))
    (sym (holds_there to (λ y. None ≡ node_address y) c.in_default.ensures)))
    (only_ran (has_address w c.args.to) w _ (trace_of (happenings w answers.NoAddress)) _ c.requires.bounds c.requires.events c.answered.ensures.reported
    (ap world_of c.answered.ensures.line))

pub returns-in_err-reserve : goal.returns-in_err-reserve
unfolding send
returns-in_err-reserve c =
    let w = world_of c.args.self.now in
    let p = err_from_is_err_and c.from_residual-in_err-reserve.result c.from_residual-in_err-reserve.ensures.1 in
    let there = is_there w c.args.from c.in_ok-from.from c.in_ok-from.ensures in
    let to = is_there w c.args.to c.in_ok-to.to c.in_ok-to.ensures in
    let taken : send network w c.args.from c.args.to c.args.datagram.now
    ≡ Ok (sends_by network w c.args.from c.args.to c.args.datagram.now there.node (node_address to.node)) =
    begun w _ (has_coordinator w c.args.from c.in_ok-from.from c.in_ok-from.ensures) ∙ at_node w c.args.from there.node _ there.at
    ∙ at_node w c.args.to to.node _ to.at in
    rw p.1 (taking (addressed to c.in-Some.address c.in-Some.ensures)
    (unreserved w (world_of c.reserve.new.self) _ p.0 c.requires.bounds c.reserve.ensures.world (ap is_ok taken)
    (ap (λ (f : StepFault). Err f) p.2 ∙ c.in_err-reserve.ensures.err)))

pub send-sent-requires : goal.send-sent-requires
send-sent-requires c =
    let w = world_of c.args.self.now in
    record {
      there = subst (λ (it : World). c.in_ok-from.from < length it.nodes) (sym c.reserve.ensures.world)
          (is_there w c.args.from c.in_ok-from.from c.in_ok-from.ensures).within;
    }

pub node_outcome-requires-clause-node : goal.node_outcome-requires-clause-node
node_outcome-requires-clause-node c =
    let within = (is_there (world_of c.args.self.now) c.args.from c.in_ok-from.from c.in_ok-from.ensures).within in
    omega (arith, within, c.requires.bounds.nodes)

pub returns : goal.returns
unfolding send
returns c =
    let w = world_of c.args.self.now in
    let v = world_of c.reserve.new.self in
    let same : v ≡ w = c.reserve.ensures.world in
    let address = c.in-Some.address in
    let there : IsThere v c.args.from c.in_ok-from.from = subst (λ (it : World). IsThere it c.args.from c.in_ok-from.from) (sym same)
    (is_there w c.args.from c.in_ok-from.from c.in_ok-from.ensures) in
    let to : IsThere v c.args.to c.in_ok-to.to = subst (λ (it : World). IsThere it c.args.to c.in_ok-to.to) (sym same)
    (is_there w c.args.to c.in_ok-to.to c.in_ok-to.ensures) in
    let at : Some address ≡ node_address to.node =
    holds_there to (λ y. Some address ≡ node_address y)
    (subst (λ (it : World). IfSome (slice_get it.nodes c.in_ok-to.to) (λ y. Some address ≡ node_address y)) (sym same) c.in-Some.ensures) in
    let bounds : IsBounded v = subst IsBounded (sym same) c.requires.bounds in
    let room : v.events < MAX_EVENTS = subst (λ (it : World). it.events < MAX_EVENTS) (sym same) c.requires.events in
    let has : true ≡ has_begun v = subst (λ (it : World). true ≡ has_begun it) (sym same)
    (has_coordinator (world_of c.args.self.now) c.args.from c.in_ok-from.from c.in_ok-from.ensures) in
    taking (addressed (is_there w c.args.to c.in_ok-to.to c.in_ok-to.ensures) address c.in-Some.ensures)
    (subst (λ (it : World). Steps true it (Ok c.node_outcome.result) (world_of c.node_outcome.new.self)
    (send network it c.args.from c.args.to c.args.datagram.now)) same
    (steps_as _ _ (begun v _ has ∙ at_node v c.args.from there.node _ there.at ∙ at_node v c.args.to to.node _ to.at
    ∙ ap (λ a. Ok (sends_by network v c.args.from c.args.to c.args.datagram.now there.node a)) (sym at))
    (node_sent v _ there c.args.to c.args.datagram.now (tag_of there.node)
    (λ (x : Node). acts x (Err sends.Halted) (λ m. of_station m (calls.send m.station address c.args.datagram.now (v.sends + 1) v.clock)))
    c.send-sent.result c.send-sent.new.out c.send-sent.new.self c.from.result _ bounds room c.node_outcome.ensures.frames c.node_outcome.ensures.tags
    c.send-sent.ensures
    (c.from.ensures ∙ ap bool_byte c.is_ok.ensures.value)
    (c.node_outcome.ensures.reported ∙ (λ i. record (happenings v (c.sent_word.ensures i)) { flights = length c.send-sent.new.out.frames }))
    c.node_outcome.ensures.world)))
