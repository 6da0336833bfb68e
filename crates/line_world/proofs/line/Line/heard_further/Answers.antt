-- A node hears a frame that it accepted.
use Rattle.std.proofs.Common.{◌∙◌, Option, Some, false, sym, ap}
use Rattle.mesh_header.specs.declared.unit.Unit.{Unit}
use Rattle.node_rules.specs.Ciphers.{network}
use Rattle.reach_rules.specs.FurtherReceptions.{command_on}
use Rattle.line_world.specs.Arrivals.{outcome_of_further, outcome_of_hearing, outcome_of_command as heard_by_command}
use Rattle.line_world.specs.Lines.{world_of}
use Rattle.line_world.specs.FurtherOutcomes.{command_of}
use Rattle.line_world.proofs.HeardFurther.{further_command, further_plain, named_so}
use Rattle.line_world.proofs.line.Line.heard_further.Goals as goal

pub commanded-requires-clause-command : goal.commanded-requires-clause-command
commanded-requires-clause-command c =
    sym (c.in-Some.ensures ∙ ap (λ (u : Option Unit). command_on c.args.got.path u) c.unit_of-unit.ensures)

pub returns-in-Some : goal.returns-in-Some
returns-in-Some c =
    let w = world_of c.args.self.now in
    let is = sym (c.in-Some.ensures ∙ ap (λ (u : Option Unit). command_on c.args.got.path u) c.unit_of-unit.ensures) in
    named_so w _ c.args.node c.commanded.result
    (λ x. heard_by_command network w c.args.node x c.args.got c.args.origin c.args.cost (Some (command_of c.in-Some.command)))
    (λ x. outcome_of_further network w c.args.node x c.args.got c.args.origin c.args.cost)
    (λ x. further_command w c.args.node x c.args.got c.args.origin c.args.cost (command_of c.in-Some.command) is) c.commanded.ensures

pub returns : goal.returns
returns c =
    let w = world_of c.args.self.now in
    let none = ap (λ (u : Option Unit). command_on c.args.got.path u) (sym c.unit_of-unit.ensures) ∙ sym c.in_default.ensures in
    named_so w _ c.args.node c.heard.result
    (λ x. outcome_of_hearing network w c.args.node x c.args.got c.args.origin c.args.cost)
    (λ x. outcome_of_further network w c.args.node x c.args.got c.args.origin c.args.cost)
    (λ x. further_plain w c.args.node x c.args.got c.args.origin c.args.cost c.if-self.false none) c.heard.ensures
