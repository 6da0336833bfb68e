-- Octets of discovery come to a node.
use Rattle.std.proofs.Common.{◌≡◌, ◌∙◌, true, false, not, None, Ok, Err, refl, ap}
use Rattle.std.specs.Prelude.{is_some}
use Rattle.node_rules.specs.Memory.{Node}
use Rattle.reach_rules.specs.declared.refusal.DiscoveryDropped.TheVariants as drops
use Rattle.reach_rules.specs.Beacons.{hear_discovery_in}
use Rattle.line_rules.specs.Answers.{discovery_word}
use Rattle.line_rules.specs.Further.{beacon_taken, beside_at}
use Rattle.line_rules.specs.Steps.{running_world}
use Rattle.line_world.specs.Discovery.{discovered_by, discovered_in, discovers_in}
use Rattle.line_world.specs.Lines.{world_of}
use Rattle.line_world.specs.Steps.{Steps}
use Rattle.line_world.proofs.Discoveries.{at_number, by_node, discovery_stays, memory_in}
use Rattle.line_world.proofs.EventSteps.{steps_as}
use Rattle.line_world.proofs.line.Line.discovered.Goals as goal

pub returns-in-None : goal.returns-in-None
returns-in-None c =
    let w = world_of c.args.self.now in
    let node = c.args.node in
    let link = c.args.link in
    let answered = c.answered-in-None in
    by_node w.nodes node (λ x. Steps true w (Ok answered.result) (world_of answered.new.self) (Ok (discovered_in w node x c.args.frame link)))
    (λ x at.
    let k = memory_in x.memory (at_number _ x (λ (y : Node). false ≡ not (is_some y.memory)) at c.if-halted.ensures.value) in
    steps_as (Ok (discovered_in w node x c.args.frame link)) (Ok (discovers_in w node x.role k.0.station None link))
    (λ i. Ok (discovered_by w node x (k.1 i) (c.in-None.is i) link))
    (discovery_stays w (world_of answered.new.self) node discovery_word (beacon_taken node None link)
    (hear_discovery_in x.role k.0.station (beside_at w node).scan None link) answered.result
    c.requires.bounds c.requires.events (Err drops.Malformed) refl
    answered.ensures.reported (ap world_of answered.ensures.line ∙ (λ i. record (running_world w) { nodes = c.if-halted.ensures.same i }))))
