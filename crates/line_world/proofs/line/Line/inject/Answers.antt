-- Octets of the script come to a node.
use Rattle.std.proofs.Common.{◌∙◌, Err, true, ap, sym}
use Rattle.std.proofs.lemmas.Result.{err_from_is_err_and}
use Rattle.line_events.specs.declared.event.StepFault.{StepFault}
use Rattle.line_rules.specs.Further.{injects}
use Rattle.line_world.specs.Lines.{world_of}
use Rattle.line_world.proofs.EventSteps.{not_found, unreserved}
use Rattle.line_world.proofs.Arrivals.{brings_octets, came_discovery, came_to, found_still, inject_taken, still_bounded, still_logged, still_many, still_within}
use Rattle.line_world.proofs.ArrivedOctets.{discovery_gets, script_brings}
use Rattle.line_world.proofs.line.Line.inject.Goals as goal

pub returns-in_err-number-clause-steps : goal.returns-in_err-number-clause-steps
unfolding injects
returns-in_err-number-clause-steps c =
    let p = err_from_is_err_and c.from_residual.result c.from_residual.ensures.1 in
    rw p.1 (not_found true (world_of c.args.self.now) c.args.node _ p.0 c.requires.bounds (ap (λ (f : StepFault). Err f) p.2 ∙ c.in_err-number.ensures))

pub returns-in_err-reserve-clause-steps : goal.returns-in_err-reserve-clause-steps
returns-in_err-reserve-clause-steps c =
    let w = world_of c.args.self.now in
    let p = err_from_is_err_and c.from_residual-in_err-reserve.result c.from_residual-in_err-reserve.ensures.1 in
    rw p.1 (unreserved w (world_of c.reserve.new.self) _ p.0 c.requires.bounds c.reserve.ensures.world
    (inject_taken w c.args.node c.in_ok-number.number c.args.cost c.args.octets.now c.in_ok-number.ensures)
    (ap (λ (f : StepFault). Err f) p.2 ∙ c.in_err-reserve.ensures.err))

pub discovered-requires-clause-there : goal.discovered-requires-clause-there
discovered-requires-clause-there c =
    found_still (world_of c.reserve.new.self) (world_of c.args.self.now) c.args.node c.in_ok-number.number c.reserve.ensures.world c.in_ok-number.ensures

pub returns-then-is_discovery-clause-steps : goal.returns-then-is_discovery-clause-steps
returns-then-is_discovery-clause-steps c =
    came_discovery (world_of c.reserve.new.self) (world_of c.args.self.now) _ c.args.node c.in_ok-number.number c.args.octets.now c.args.cost
    c.read_discovery-frame.result c.discovered.result
    c.reserve.ensures.world c.in_ok-number.ensures (sym c.if-is_discovery.ensures) c.read_discovery-frame.ensures.value c.discovered.ensures

pub returns-then-is_discovery-clause-octets : goal.returns-then-is_discovery-clause-octets
returns-then-is_discovery-clause-octets c =
    let w = world_of c.args.self.now in
    script_brings w c.args.node c.args.cost c.args.octets.now (discovery_gets w c.args.node c.args.octets.now (sym c.if-is_discovery.ensures))

pub accept-accepted-requires : goal.accept-accepted-requires
accept-accepted-requires c =
    record {
      there = found_still (world_of c.reserve.new.self) (world_of c.args.self.now) c.args.node c.in_ok-number.number c.reserve.ensures.world
          c.in_ok-number.ensures;
    }

pub arrived-requires-clause-there : goal.arrived-requires-clause-there
arrived-requires-clause-there c =
    still_within (world_of c.reserve.new.self) (world_of c.args.self.now) c.args.node c.in_ok-number.number c.args.octets.now c.accept-accepted.result
    c.accept-accepted.new.self
    c.reserve.ensures.world c.in_ok-number.ensures c.accept-accepted.ensures.did

pub arrived-requires-clause-bounds : goal.arrived-requires-clause-bounds
arrived-requires-clause-bounds c =
    still_bounded (world_of c.reserve.new.self) (world_of c.args.self.now) c.args.node c.in_ok-number.number c.args.octets.now c.accept-accepted.result
    c.accept-accepted.new.self
    c.reserve.ensures.world c.in_ok-number.ensures c.accept-accepted.ensures.did c.requires.bounds

pub arrived-requires-clause-beside : goal.arrived-requires-clause-beside
arrived-requires-clause-beside c =
    still_many (world_of c.reserve.new.self) (world_of c.args.self.now) c.args.node c.in_ok-number.number c.args.octets.now c.accept-accepted.result
    c.accept-accepted.new.self
    c.reserve.ensures.world c.in_ok-number.ensures c.accept-accepted.ensures.did c.requires.beside

pub arrived-requires-clause-logs : goal.arrived-requires-clause-logs
arrived-requires-clause-logs c =
    still_logged (world_of c.reserve.new.self) (world_of c.args.self.now) c.args.node c.in_ok-number.number c.args.octets.now c.accept-accepted.result
    c.accept-accepted.new.self
    c.reserve.ensures.world c.in_ok-number.ensures c.accept-accepted.ensures.did c.short_tables.ensures.tables c.requires.logs

pub returns-clause-steps : goal.returns-clause-steps
returns-clause-steps c =
    came_to (world_of c.reserve.new.self) (world_of c.args.self.now) c.args.node c.in_ok-number.number c.args.octets.now c.accept-accepted.result
    c.accept-accepted.new.self
    c.reserve.ensures.world c.in_ok-number.ensures c.accept-accepted.ensures.did (world_of c.arrived.new.self) c.args.cost c.origin-origin.result
    c.arrived.result (sym c.if-is_discovery.ensures)
    c.origin-origin.ensures.forged c.origin-origin.ensures.note c.arrived.ensures

pub returns-clause-octets : goal.returns-clause-octets
returns-clause-octets c =
    let w = world_of c.args.self.now in
    script_brings w c.args.node c.args.cost c.args.octets.now
    (brings_octets (world_of c.reserve.new.self) w c.args.node c.in_ok-number.number c.args.octets.now c.accept-accepted.result c.accept-accepted.new.self
    c.reserve.ensures.world c.in_ok-number.ensures c.accept-accepted.ensures.did c.payload_octets.ensures)
