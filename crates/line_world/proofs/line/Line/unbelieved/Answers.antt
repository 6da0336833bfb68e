-- The request of a listed neighbour is dropped.
use Rattle.std.proofs.Common.{Option, Ok, true, sym, ap, subst, ◌∙◌}
use Rattle.std.specs.Prelude.{IfSome}
use Rattle.node_rules.specs.Ciphers.{network}
use Rattle.node_rules.specs.Memory.{Node}
use Rattle.line_world.specs.Arrivals.{left_of, outcome_of_unbelieved, reception_happenings}
use Rattle.line_world.specs.declared.nodes.reception.Reception.{Reception}
use Rattle.line_world.specs.Lines.{world_of}
use Rattle.line_world.specs.Steps.{Steps}
use Rattle.line_world.proofs.Arrivals.{at_some}
use Rattle.line_world.proofs.HeardCommands.{was_unbelieved}
use Rattle.line_world.proofs.line.Line.unbelieved.Goals as goal

pub returns : goal.returns
returns c =
    let w = world_of c.args.self.now in
    let x = at_some w.nodes c.args.node c.requires.there in
    subst (λ (o : Option Node). IfSome o
    (λ y. Steps true w (Ok c.received.result) (world_of c.received.new.self) (Ok (outcome_of_unbelieved network w c.args.node y c.args.origin)))) (sym x.1)
    (was_unbelieved w _ c.args.node x.0 c.args.origin c.clear.new.self c.is_forged-forged.result _ c.requires.bounds c.requires.events c.received.ensures.frames
    c.received.ensures.tags x.1
    c.clear.ensures c.is_forged-forged.ensures
    (c.received.ensures.reported ∙ ap (λ (r : Reception). reception_happenings w c.args.node c.clear.new.self
    c.is_forged-forged.result r) c.reception_of.ensures.value)
    (c.received.ensures.world ∙ ap (λ (r : Reception). left_of w c.args.node c.clear.new.self
    c.is_forged-forged.result r) c.reception_of.ensures.value))
