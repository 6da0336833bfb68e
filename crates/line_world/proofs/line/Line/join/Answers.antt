-- A meter begins to join.
use Rattle.std.proofs.Common.{◌≡◌, refl, true, ℕ, ◌<◌, length, Some, None, Option, Ok, Err, sym, ap, subst, ◌∙◌}
use Rattle.line_events.specs.declared.event.StepFault.{StepFault}
use Rattle.std.proofs.lemmas.Result.{err_from_is_err_and}
use Rattle.std.specs.Prelude.{IfSome, IsSome, slice_get, is_ok}
use Rattle.plc_base.specs.declared.key.Key.{Key}
use Rattle.node_rules.specs.declared.refusal.JoinRefusal.TheVariants as joins
use Rattle.node_rules.specs.Ciphers.{network}
use Rattle.node_rules.specs.Memory.{Node, node_address}
use Rattle.node_rules.specs.Meters as meters
use Rattle.node_rules.specs.NodeSteps.{acts, answering}
use Rattle.line_world.specs.NodeOutcomes.{Did}
use Rattle.line_events.specs.declared.event.Answer.TheVariants as answers
use Rattle.line_rules.specs.Answers.{join_word}
use Rattle.line_rules.specs.Steps.{node_outcome, identity, join, joins_by, on_node, psk_of}
use Rattle.line_rules.specs.Worlds.{World}
use Rattle.line_world.specs.Lines.{world_of}
use Rattle.line_world.specs.Steps.{has_address}
use Rattle.line_world.proofs.EventSteps.{IsThere, steps_as, begun, at_node, is_there, node_acted, unreserved, taking, addressed}
use Rattle.line_world.proofs.Orders.{IsMeter, Runs, as_found, at_meter, is_meter, of_found, only_said, reserved, said_with, within_line, meter_not_found}
use Rattle.line_world.proofs.Orders.{meter_begun, agent_not_found}
use Rattle.line_world.proofs.line.Line.join.Goals as goal

pub returns-in_err-number : goal.returns-in_err-number
unfolding join
returns-in_err-number c =
    let p = err_from_is_err_and c.from_residual.result c.from_residual.ensures.1 in
    rw p.1 (meter_not_found (has_address (world_of c.args.self.now) c.args.agent) (world_of c.args.self.now) c.args.node _ p.0 c.requires.bounds
    (ap (λ (f : StepFault). Err f) p.2 ∙ c.in_err-number.ensures))

pub returns-in_err-agent : goal.returns-in_err-agent
unfolding join
returns-in_err-agent c =
    let p = err_from_is_err_and c.from_residual-in_err-agent.result c.from_residual-in_err-agent.ensures.1 in
    rw p.1 (agent_not_found (has_address (world_of c.args.self.now) c.args.agent) (world_of c.args.self.now) c.args.node c.in_ok-number.number c.args.agent _
    p.0 c.requires.bounds c.in_ok-number.ensures (ap (λ (f : StepFault). Err f) p.2 ∙ c.in_err-agent.ensures))

pub address-requires : goal.address-requires
address-requires c = record { there = (is_there (world_of c.args.self.now) c.args.agent c.in_ok-agent.agent c.in_ok-agent.ensures).within }

-- the rule, where there are the meter and the agent
joins_at : {w : World} {number found agent by : ℕ} (r : Runs w) (m : IsMeter w number found) (there : IsThere w agent by)
    → join network w number agent ≡ Ok (joins_by network w number m.there.node (node_address there.node) (psk_of m.there.node))
unfolding join
joins_at {w} {number} {found} {agent} r m there =
    begun w _ r.begun ∙ at_meter m (λ x. on_node w agent (λ y. Ok (joins_by network w number x (node_address y) (psk_of x))))
    ∙ at_node w agent there.node (λ y. Ok (joins_by network w number m.there.node (node_address y) (psk_of m.there.node))) there.at

pub returns-in_default : goal.returns-in_default
returns-in_default c =
    let w = world_of c.args.self.now in
    let r : Runs w = record {
      begun = (meter_begun (world_of c.args.self.now) c.args.node c.in_ok-number.number c.in_ok-number.ensures);
      bounds = c.requires.bounds;
      room = c.requires.events;
    } in
    let m = is_meter w c.args.node c.in_ok-number.number c.in_ok-number.ensures in
    let there = is_there w c.args.agent c.in_ok-agent.agent c.in_ok-agent.ensures in
    let none = of_found there (λ (y : Node). ◌≡◌ {A = Option ℕ} None (node_address y)) c.in_default.ensures in
    steps_as _ _ (joins_at r m there ∙ ap (λ (o : Option ℕ). Ok (joins_by network w c.args.node m.there.node o (psk_of m.there.node))) (sym none))
    (only_said (has_address w c.args.agent) w _ answers.NoAddress _ r.bounds r.room c.answered.ensures.reported (ap world_of c.answered.ensures.line))

pub returns-in_err-reserve : goal.returns-in_err-reserve
returns-in_err-reserve c =
    let w = world_of c.args.self.now in
    let p = err_from_is_err_and c.from_residual-in_err-reserve.result c.from_residual-in_err-reserve.ensures.1 in
    let r : Runs w = record {
      begun = meter_begun w c.args.node c.in_ok-number.number c.in_ok-number.ensures;
      bounds = c.requires.bounds;
      room = c.requires.events;
    } in
    let m = is_meter w c.args.node c.in_ok-number.number c.in_ok-number.ensures in
    let there = is_there w c.args.agent c.in_ok-agent.agent c.in_ok-agent.ensures in
    rw p.1 (taking (addressed there c.in-Some.address c.in-Some.ensures)
    (unreserved w (world_of c.reserve.new.self) _ p.0 c.requires.bounds c.reserve.ensures.world (ap is_ok (joins_at r m there))
    (ap (λ (f : StepFault). Err f) p.2 ∙ c.in_err-reserve.ensures.err)))

pub join-asked-requires-clause-there : goal.join-asked-requires-clause-there
join-asked-requires-clause-there c =
    let there = (is_meter (world_of c.args.self.now) c.args.node c.in_ok-number.number c.in_ok-number.ensures).there in
    subst (λ (it : World). c.in_ok-number.number < length it.nodes) (sym c.reserve.ensures.world) there.within

pub node_outcome-requires-clause-node : goal.node_outcome-requires-clause-node
node_outcome-requires-clause-node c =
    within_line c.requires.bounds (is_meter (world_of c.args.self.now) c.args.node c.in_ok-number.number c.in_ok-number.ensures).there

-- What the tests of a joining have found: the meter with its pair key, and the agent with its address.
record Found (w : World) (number found agent by address : ℕ) (psk : Key) : Type 0 where
  runs : Runs w
  meter : IsMeter w number found
  key : psk_of meter.there.node ≡ Some psk
  there : IsThere w agent by
  at : node_address there.node ≡ Some address

joins_is : {w : World} {number found agent by address : ℕ} {psk : Key} (f : Found w number found agent by address psk)
    → join network w number agent ≡ Ok (node_outcome network w number (answering join_word
    (acts f.meter.there.node (Err joins.Halted) (λ k. meters.join (identity network f.meter.there.node psk) k address w.clock))))
joins_is {w} {number} f =
    let at = f.at in
    let key = f.key in
    joins_at f.runs f.meter f.there ∙ (λ i. Ok (joins_by network w number f.meter.there.node (at i) (key i)))

some_key : (o : Option Key) → IsSome o → (psk : Key) × (o ≡ Some psk)
some_key (Some psk) is = (psk, refl)
some_key None is = absurd (cc)

pub returns : goal.returns
returns c =
    let w = world_of c.args.self.now in
    let kept = world_of c.reserve.new.self in
    let same : kept ≡ w = c.reserve.ensures.world in
    let address = c.in-Some.address in
    let meter = is_meter w c.args.node c.in_ok-number.number c.in_ok-number.ensures in
    let there = is_there w c.args.agent c.in_ok-agent.agent c.in_ok-agent.ensures in
    let keyed : IfSome (slice_get w.nodes c.in_ok-number.number) (λ x. IsSome (psk_of x)) =
    subst (λ (it : World). IfSome (slice_get it.nodes c.in_ok-number.number) (λ x. IsSome (psk_of x))) same c.join-asked.ensures.key in
    let key = some_key (psk_of meter.there.node) (of_found meter.there (λ (x : Node). IsSome (psk_of x)) keyed) in
    let psk : Key = key.0 in
    let found : Found w c.args.node c.in_ok-number.number c.args.agent c.in_ok-agent.agent address psk = record {
      runs = record {
        begun = (meter_begun (world_of c.args.self.now) c.args.node c.in_ok-number.number c.in_ok-number.ensures);
        bounds = c.requires.bounds;
        room = c.requires.events;
      };
      meter = meter;
      key = key.1;
      there = there;
      at = sym (of_found there (λ (y : Node). ◌≡◌ {A = Option ℕ} (Some address) (node_address y)) c.in-Some.ensures);
    } in
    let f : Found kept c.args.node c.in_ok-number.number c.args.agent c.in_ok-agent.agent address psk =
    subst (λ (it : World). Found it c.args.node c.in_ok-number.number c.args.agent c.in_ok-agent.agent address psk) (sym same) found in
    let x = f.meter.there.node in
    let out = c.join-asked.new.out in
    let nodes = c.join-asked.new.self in
    let asked = c.join-asked.result in
    let did = of_found f.meter.there (λ (y : Node). IfSome (psk_of y)
    (λ key. Did (acts y (Err joins.Halted) (λ k. meters.join (identity network y key) k address kept.clock)) kept.nodes c.in_ok-number.number asked out nodes))
    c.join-asked.ensures.did in
    let by_key : Did (acts x (Err joins.Halted) (λ k. meters.join (identity network x psk) k address kept.clock)) kept.nodes c.in_ok-number.number asked out
    nodes =
    subst (λ (o : Option Key). IfSome o (λ key. Did (acts x (Err joins.Halted) (λ k. meters.join (identity network x key) k address kept.clock)) kept.nodes
    c.in_ok-number.number asked out nodes)) f.key did in
    taking (addressed there address c.in-Some.ensures) (reserved kept w (λ it. join network it c.args.node c.args.agent) same
    (steps_as _ _ (joins_is f)
    (node_acted true kept _ f.meter.there (λ y. acts y (Err joins.Halted) (λ k. meters.join (identity network y psk) k address kept.clock)) join_word asked out
    nodes _
    f.runs.bounds f.runs.room c.node_outcome.ensures.frames c.node_outcome.ensures.tags
    (as_found f.meter.there (λ (y : Node). Did (acts y (Err joins.Halted) (λ k. meters.join (identity network y psk) k address kept.clock)) kept.nodes
    c.in_ok-number.number asked out nodes) by_key)
    (said_with kept _ _ _ _ c.node_outcome.ensures.reported c.join_word.ensures) c.node_outcome.ensures.world)))
