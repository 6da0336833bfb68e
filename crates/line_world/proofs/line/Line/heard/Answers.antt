-- A node hears a frame that it accepted.
use Rattle.std.proofs.Common.{Option, Ok, true, sym, subst}
use Rattle.std.specs.Prelude.{IfSome}
use Rattle.node_rules.specs.Ciphers.{network}
use Rattle.node_rules.specs.Memory.{Node}
use Rattle.node_rules.specs.NodeSteps.{NodeStep}
use Rattle.line_rules.specs.Answers.{Reception}
use Rattle.line_rules.specs.Steps.{hearing_step}
use Rattle.line_world.specs.Receptions.{Received}
use Rattle.line_world.specs.Arrivals.{outcome_of_hearing}
use Rattle.line_world.specs.Lines.{world_of}
use Rattle.line_world.specs.Steps.{Steps}
use Rattle.line_world.proofs.Arrivals.{as_many, at_node_after, at_some, outcome_of_command, in_run_again}
use Rattle.line_world.proofs.line.Line.heard.Goals as goal

pub received-requires-clause-bounds : goal.received-requires-clause-bounds
received-requires-clause-bounds c =
    let w = world_of c.args.self.now in
    let x = at_some w.nodes c.args.node c.requires.there in
    let step : Node → NodeStep Reception = λ y. hearing_step network y c.args.got c.args.cost c.args.origin.note w.clock in
    let heard = at_node_after w.nodes c.args.node x.0
    (λ y. Received (step y) w.nodes c.args.node c.hear-reported.result c.hear-reported.new.out c.hear-reported.new.self)
    x.1 c.hear-reported.ensures.received in
    in_run_again w c.hear-reported.new.self c.requires.bounds
    (as_many (step x.0) w.nodes c.args.node (step x.0).answer c.hear-reported.new.out c.hear-reported.new.self heard.did)

pub returns : goal.returns
returns c =
    let w = world_of c.args.self.now in
    let x = at_some w.nodes c.args.node c.requires.there in
    let step : Node → NodeStep Reception = λ y. hearing_step network y c.args.got c.args.cost c.args.origin.note w.clock in
    let heard = at_node_after w.nodes c.args.node x.0
    (λ y. Received (step y) w.nodes c.args.node c.hear-reported.result c.hear-reported.new.out c.hear-reported.new.self)
    x.1 c.hear-reported.ensures.received in
    subst (λ (o : Option Node). IfSome o (λ y. Steps true w (Ok c.received.result) (world_of c.received.new.self)
    (Ok (outcome_of_hearing network w c.args.node y c.args.got c.args.origin c.args.cost)))) (sym x.1)
    (outcome_of_command w _ c.args.node x.0 c.args.got c.args.origin c.args.cost c.hear-reported.result c.hear-reported.new.out c.hear-reported.new.self
    c.is_forged-forged.result
    _
    c.requires.bounds c.requires.events c.received.ensures.frames c.received.ensures.tags x.1 heard c.is_forged-forged.ensures c.received.ensures.reported
    c.received.ensures.world)
