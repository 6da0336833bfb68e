-- The world's invariant after an event.
use Rattle.std.proofs.Common.{◌<◌, sym, subst}
use Rattle.line_events.specs.declared.event.TheConstants.{MAX_EVENTS}
use Rattle.line_rules.specs.Worlds.{World}
use Rattle.line_world.specs.Lines.{world_of}
use Rattle.line_world.proofs.Besides.{beside_long}
use Rattle.line_world.proofs.ArrivedOctets.{still_kept}
use Rattle.line_world.proofs.Reached.{still_reached}
use Rattle.line_world.proofs.Unchecked.{still_none}
use Rattle.line_world.proofs.world.World.step.Goals as goal

pub step-requires-clause-beside : goal.step-requires-clause-beside
step-requires-clause-beside c = beside_long (world_of c.self.inside.line).beside (world_of c.self.inside.line).nodes c.self.invariant.1

pub invariant_of-self : goal.invariant_of-self
invariant_of-self c = (
  c.step.ensures.steps.bounds,
  still_kept (world_of c.self.inside.line) (world_of c.step.new.self) c.args.event.now c.step.result c.short_tables.ensures.tables c.self.invariant.1
      c.step.ensures.octets c.step.ensures.steps.gives,
  still_none (world_of c.self.inside.line) (world_of c.step.new.self) c.args.event.now c.step.result c.self.invariant.2 c.step.ensures.steps.gives,
  still_reached (world_of c.self.inside.line) (world_of c.step.new.self) c.args.event.now c.step.result c.self.invariant.3
      (subst (λ (w : World). w.events < MAX_EVENTS) (sym c.self.view_is) c.requires.events) c.requires.event c.step.ensures.steps.gives,
)
