-- A meter joins by an agent.
use Rattle.std.proofs.Common.{true, Ok}
use Rattle.line_world.specs.Discovery.{joins_in}
use Rattle.line_world.specs.Lines.{world_of}
use Rattle.line_world.specs.Steps.{Steps}
use Rattle.line_world.proofs.Discoveries.{by_key, joins_reported, with_agent}
use Rattle.line_world.proofs.Orders.{said_with}
use Rattle.line_world.proofs.line.Line.join_by.Goals as goal

pub returns : goal.returns
returns c =
    let w = world_of c.args.self.now in
    let node = c.args.node in
    let a = c.args in
    let node_outcome = c.node_outcome-happenings in
    let new = world_of node_outcome.new.self in
    by_key w.nodes node (λ x psk. Steps true w (Ok (with_agent node_outcome.result c.agent_of-agent.result)) new (Ok (joins_in w node x psk a.address a.total)))
    (λ x psk at key.
    joins_reported w new node x psk a.address a.total c.join-asked.result c.join-asked.new.out c.join-asked.new.self c.agent_of-agent.result
    node_outcome.result at key
    c.join-asked.ensures.did
    c.requires.bounds c.requires.events node_outcome.ensures.frames node_outcome.ensures.tags c.agent_of-agent.ensures
    (said_with w _ _ _ _ node_outcome.ensures.reported c.choice_word.ensures) node_outcome.ensures.world)
