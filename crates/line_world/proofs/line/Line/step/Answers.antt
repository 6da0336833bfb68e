-- The presets, whose rule takes a function of the value.
use Rattle.std.proofs.Common.{sym, subst}
use Rattle.node_rules.specs.Ciphers.{network}
use Rattle.line_events.specs.declared.event.Event.{Event}
use Rattle.line_rules.specs.Further.{line_step}
use Rattle.line_world.specs.Lines.{world_of}
use Rattle.line_world.specs.Steps.{Steps, takes_memory}
use Rattle.line_world.proofs.line.Line.step.Goals as goal

pub returns-in-Counter-clause-steps : goal.returns-in-Counter-clause-steps
returns-in-Counter-clause-steps c =
    let w = world_of c.args.self.now in
    subst (λ (e : Event). Steps (takes_memory w e) w c.counter.result (world_of c.counter.new.self) (line_step network w e)) (sym c.in-Counter.is)
    c.counter.ensures

pub returns-in-Number-clause-steps : goal.returns-in-Number-clause-steps
returns-in-Number-clause-steps c =
    let w = world_of c.args.self.now in
    subst (λ (e : Event). Steps (takes_memory w e) w c.number.result (world_of c.number.new.self) (line_step network w e)) (sym c.in-Number.is) c.number.ensures
