-- A node hears a command for its neighbours.
use Rattle.std.proofs.Common.{◌≡◌, ◌<◌, ℕ, length, Option, Some, Ok, true, sym, subst}
use Rattle.std.specs.Prelude.{IfSome}
use Rattle.node_rules.specs.Ciphers.{network}
use Rattle.node_rules.specs.Memory.{Node}
use Rattle.node_rules.specs.NodeSteps.{NodeStep}
use Rattle.line_events.specs.declared.happenings.Happenings.{Happenings}
use Rattle.line_rules.specs.Answers.{Reception}
use Rattle.line_rules.specs.Further.{beside_at}
use Rattle.line_rules.specs.Steps.{hearing_step}
use Rattle.line_world.specs.Arrivals.{outcome_of_command as heard_by_command}
use Rattle.line_world.specs.Lines.{world_of}
use Rattle.line_world.specs.FurtherOutcomes.{command_of}
use Rattle.line_world.specs.Receptions.{Received}
use Rattle.line_world.specs.Steps.{Steps}
use Rattle.line_world.proofs.Arrivals.{at_node_after, at_some}
use Rattle.line_world.proofs.FurtherCalls.{beside_found, command_bounded, command_log, command_room}
use Rattle.line_world.proofs.HeardCommands.{was_commanded}
use Rattle.line_world.proofs.line.Line.commanded.Goals as goal

pub hear_command-commanded-requires-clause-log : goal.hear_command-commanded-requires-clause-log
hear_command-commanded-requires-clause-log c =
    let w = world_of c.args.self.now in
    let number = c.args.node in
    let x = at_some w.nodes number c.requires.ready.there in
    let step : Node → NodeStep Reception = λ y. hearing_step network y c.args.got c.args.cost c.args.origin.note w.clock in
    let heard = at_node_after w.nodes number x.0 (λ y. Received (step y) w.nodes number c.hear-reported.result c.hear-reported.new.out c.hear-reported.new.self)
    x.1
    c.hear-reported.ensures.received in
    let within : number < length w.beside = subst (λ (n : ℕ). number < n) (sym c.requires.ready.beside) c.requires.ready.there in
    let held : c.index_mut.result.now ≡ beside_at w number = beside_found w.beside number c.index_mut.result.now within c.index_mut.ensures.value in
    command_log w number x.0 c.args.got (command_of c.args.command.now) c.args.cost c.args.origin.note c.hear-reported.result c.hear-reported.new.out
    c.hear-reported.new.self
    x.1 c.requires.command heard
    c.index_mut.result.now held c.requires.ready.logs

pub hear_command-commanded-requires-clause-room : goal.hear_command-commanded-requires-clause-room
hear_command-commanded-requires-clause-room c =
    let w = world_of c.args.self.now in
    let number = c.args.node in
    let x = at_some w.nodes number c.requires.ready.there in
    let step : Node → NodeStep Reception = λ y. hearing_step network y c.args.got c.args.cost c.args.origin.note w.clock in
    let heard = at_node_after w.nodes number x.0 (λ y. Received (step y) w.nodes number c.hear-reported.result c.hear-reported.new.out c.hear-reported.new.self)
    x.1
    c.hear-reported.ensures.received in
    command_room w number x.0 c.args.got (command_of c.args.command.now) c.args.cost c.args.origin.note c.hear-reported.result c.hear-reported.new.out
    c.hear-reported.new.self
    x.1 c.requires.command heard

pub received-happenings-requires-clause-bounds : goal.received-happenings-requires-clause-bounds
received-happenings-requires-clause-bounds c =
    let w = world_of c.args.self.now in
    let number = c.args.node in
    let x = at_some w.nodes number c.requires.ready.there in
    let step : Node → NodeStep Reception = λ y. hearing_step network y c.args.got c.args.cost c.args.origin.note w.clock in
    let heard = at_node_after w.nodes number x.0 (λ y. Received (step y) w.nodes number c.hear-reported.result c.hear-reported.new.out c.hear-reported.new.self)
    x.1
    c.hear-reported.ensures.received in
    command_bounded w number x.0 c.args.got (command_of c.args.command.now) c.args.cost c.args.origin.note c.hear-reported.result c.hear-reported.new.out
    c.hear-reported.new.self
    x.1 c.requires.command heard
    c.index_mut.result.now c.hear_command-commanded.new.beside c.hear_command-commanded.result c.hear_command-commanded.new.out
    c.hear_command-commanded.new.self _
    c.hear_command-commanded.ensures c.requires.ready.bounds

pub returns : goal.returns
returns c =
    let w = world_of c.args.self.now in
    let number = c.args.node in
    let x = at_some w.nodes number c.requires.ready.there in
    let step : Node → NodeStep Reception = λ y. hearing_step network y c.args.got c.args.cost c.args.origin.note w.clock in
    let heard = at_node_after w.nodes number x.0 (λ y. Received (step y) w.nodes number c.hear-reported.result c.hear-reported.new.out c.hear-reported.new.self)
    x.1
    c.hear-reported.ensures.received in
    let within : number < length w.beside = subst (λ (n : ℕ). number < n) (sym c.requires.ready.beside) c.requires.ready.there in
    let held : c.index_mut.result.now ≡ beside_at w number = beside_found w.beside number c.index_mut.result.now within c.index_mut.ensures.value in
    let done = c.hear_command-commanded.result in
    let h : Happenings =
    record c.received-happenings.result { answer = done.answer; bup = done.bup; path = done.path } in
    subst (λ (o : Option Node). IfSome o (λ y. Steps true w (Ok h) (world_of c.received-happenings.new.self)
    (Ok (heard_by_command network w number y c.args.got c.args.origin c.args.cost (Some (command_of c.args.command.now)))))) (sym x.1)
    (was_commanded w _ number x.0 c.args.got (command_of c.args.command.now) c.args.origin c.args.cost c.hear-reported.result c.hear-reported.new.out
    c.hear_command-commanded.new.out
    c.hear-reported.new.self c.hear_command-commanded.new.self c.is_forged-forged.result done c.index_mut.result.now c.hear_command-commanded.new.beside h
    c.requires.ready.bounds c.requires.ready.events c.received-happenings.ensures.frames c.received-happenings.ensures.tags x.1 c.requires.command heard held
    c.hear_command-commanded.ensures c.is_forged-forged.ensures
    (λ i. record (c.received-happenings.ensures.reported i) { answer = done.answer; bup = done.bup; path = done.path }) c.received-happenings.ensures.world)
