-- A flight comes to a node.
use Rattle.std.proofs.Common.{◌≡◌, ◌∙◌, ℕ, Result, Ok, Err, true, refl, sym, ap, subst}
use Rattle.std.proofs.lemmas.Result.{err_from_is_err_and}
use Rattle.line_flights.specs.Flown.{flight_in, not_lost}
use Rattle.node_rules.specs.Ciphers.{network}
use Rattle.line_events.specs.declared.event.StepFault.{StepFault}
use Rattle.line_events.specs.declared.event.StepFault.TheVariants as faults
use Rattle.line_rules.specs.Worlds.{World}
use Rattle.line_rules.specs.Further.{delivers}
use Rattle.line_world.specs.Bounds.{IsBounded}
use Rattle.line_world.specs.NamedNodes.{found}
use Rattle.line_world.specs.Lines.{world_of}
use Rattle.line_world.specs.Steps.{Steps}
use Rattle.line_world.proofs.EventSteps.{not_found, steps_as, unreserved}
use Rattle.line_world.proofs.Arrivals.{Flies, brings_octets, came_discovery, came_to, deliver_taken, flies, flies_none, found_still, no_flight, none_copied}
use Rattle.line_world.proofs.Arrivals.{some_copied, still_bounded, still_logged, still_many, still_within, delivers as delivers_octets}
use Rattle.line_world.proofs.ArrivedOctets.{discovery_gets, flight_brings}
use Rattle.line_world.proofs.line.Line.deliver.Goals as goal

pub returns-in_err-number-clause-steps : goal.returns-in_err-number-clause-steps
unfolding delivers
returns-in_err-number-clause-steps c =
    let p = err_from_is_err_and c.from_residual.result c.from_residual.ensures.1 in
    rw p.1 (not_found true (world_of c.args.self.now) c.args.node _ p.0 c.requires.bounds (ap (λ (f : StepFault). Err f) p.2 ∙ c.in_err-number.ensures))

pub returns-in_err-reserve-clause-steps : goal.returns-in_err-reserve-clause-steps
returns-in_err-reserve-clause-steps c =
    let w = world_of c.args.self.now in
    let p = err_from_is_err_and c.from_residual-in_err-reserve.result c.from_residual-in_err-reserve.ensures.1 in
    let octets = some_copied c.flying.result c.if-is_none.ensures in
    let f = flies (not_lost (flight_in w.flights c.args.flight)) octets.0 (octets.1 ∙ c.flying.ensures) in
    rw p.1 (unreserved w (world_of c.reserve.new.self) _ p.0 c.requires.bounds c.reserve.ensures.world
    (deliver_taken w c.args.node c.in_ok-number.number c.args.flight c.args.cost octets.0 c.in_ok-number.ensures f)
    (ap (λ (f : StepFault). Err f) p.2 ∙ c.in_err-reserve.ensures.err))

pub returns-then-is_none-clause-steps : goal.returns-then-is_none-clause-steps
returns-then-is_none-clause-steps c =
    no_flight (world_of c.args.self.now) c.args.node c.in_ok-number.number c.args.flight c.args.cost c.requires.bounds c.in_ok-number.ensures
    (flies_none (not_lost (flight_in c.args.self.now.flights.flights c.args.flight)) (none_copied c.flying.result c.if-is_none.ensures ∙ c.flying.ensures))

pub returns-in_default-clause-steps : goal.returns-in_default-clause-steps
returns-in_default-clause-steps c =
    let v = world_of c.reserve.new.self in
    let same = c.reserve.ensures.world in
    let is : ◌≡◌ {A = Result ℕ StepFault} (Ok c.in_ok-number.number) (found v c.args.node) = c.in_ok-number.ensures
    ∙ ap (λ (it : World). found it c.args.node) (sym same) in
    subst (λ (it : World). Steps true it (Err faults.Flight) v (delivers network it c.args.flight c.args.node c.args.cost)) same
    (no_flight v c.args.node c.in_ok-number.number c.args.flight c.args.cost (subst IsBounded (sym same) c.requires.bounds) is
    (flies_none (not_lost (flight_in v.flights c.args.flight)) c.in_default.ensures))

pub discovered-requires-clause-there : goal.discovered-requires-clause-there
discovered-requires-clause-there c =
    found_still (world_of c.reserve.new.self) (world_of c.args.self.now) c.args.node c.in_ok-number.number c.reserve.ensures.world c.in_ok-number.ensures

pub returns-then-is_discovery-clause-steps : goal.returns-then-is_discovery-clause-steps
returns-then-is_discovery-clause-steps c =
    let v = world_of c.reserve.new.self in
    let same = c.reserve.ensures.world in
    let octets = c.in-Some.octets.now in
    let is : ◌≡◌ {A = Result ℕ StepFault} (Ok c.in_ok-number.number) (found v c.args.node) = c.in_ok-number.ensures
    ∙ ap (λ (it : World). found it c.args.node) (sym same) in
    subst (λ (it : World). Steps true it (Ok c.discovered.result) (world_of c.discovered.new.self) (delivers network it c.args.flight c.args.node c.args.cost))
    same
    (steps_as _ _ (delivers_octets v c.args.node c.in_ok-number.number c.args.flight c.args.cost octets is
    (flies (not_lost (flight_in v.flights c.args.flight)) octets c.in-Some.ensures))
    (came_discovery v v _ c.args.node c.in_ok-number.number octets c.args.cost c.read_discovery-frame.result c.discovered.result refl is
    (sym c.if-is_discovery.ensures)
    c.read_discovery-frame.ensures.value c.discovered.ensures))

pub returns-then-is_discovery-clause-octets : goal.returns-then-is_discovery-clause-octets
returns-then-is_discovery-clause-octets c =
    let w = world_of c.args.self.now in
    let same = c.reserve.ensures.world in
    let octets = c.in-Some.octets.now in
    flight_brings w c.args.node c.args.flight c.args.cost octets
    (subst (λ (it : World). Flies (not_lost (flight_in it.flights c.args.flight)) octets) same
    (flies (not_lost (flight_in (world_of c.reserve.new.self).flights c.args.flight)) octets c.in-Some.ensures))
    (discovery_gets w c.args.node octets (sym c.if-is_discovery.ensures))

pub accept-accepted-requires : goal.accept-accepted-requires
accept-accepted-requires c =
    record {
      there = found_still (world_of c.reserve.new.self) (world_of c.args.self.now) c.args.node c.in_ok-number.number c.reserve.ensures.world
          c.in_ok-number.ensures;
    }

pub arrived-requires-clause-there : goal.arrived-requires-clause-there
arrived-requires-clause-there c =
    still_within (world_of c.reserve.new.self) (world_of c.args.self.now) c.args.node c.in_ok-number.number c.in-Some.octets.now c.accept-accepted.result
    c.accept-accepted.new.self
    c.reserve.ensures.world c.in_ok-number.ensures c.accept-accepted.ensures.did

pub arrived-requires-clause-bounds : goal.arrived-requires-clause-bounds
arrived-requires-clause-bounds c =
    still_bounded (world_of c.reserve.new.self) (world_of c.args.self.now) c.args.node c.in_ok-number.number c.in-Some.octets.now c.accept-accepted.result
    c.accept-accepted.new.self
    c.reserve.ensures.world c.in_ok-number.ensures c.accept-accepted.ensures.did c.requires.bounds

pub arrived-requires-clause-beside : goal.arrived-requires-clause-beside
arrived-requires-clause-beside c =
    still_many (world_of c.reserve.new.self) (world_of c.args.self.now) c.args.node c.in_ok-number.number c.in-Some.octets.now c.accept-accepted.result
    c.accept-accepted.new.self
    c.reserve.ensures.world c.in_ok-number.ensures c.accept-accepted.ensures.did c.requires.beside

pub arrived-requires-clause-logs : goal.arrived-requires-clause-logs
arrived-requires-clause-logs c =
    still_logged (world_of c.reserve.new.self) (world_of c.args.self.now) c.args.node c.in_ok-number.number c.in-Some.octets.now c.accept-accepted.result
    c.accept-accepted.new.self
    c.reserve.ensures.world c.in_ok-number.ensures c.accept-accepted.ensures.did c.short_tables.ensures.tables c.requires.logs

pub returns-clause-steps : goal.returns-clause-steps
returns-clause-steps c =
    let v = world_of c.reserve.new.self in
    let same = c.reserve.ensures.world in
    let octets = c.in-Some.octets.now in
    let is : ◌≡◌ {A = Result ℕ StepFault} (Ok c.in_ok-number.number) (found v c.args.node) = c.in_ok-number.ensures
    ∙ ap (λ (it : World). found it c.args.node) (sym same) in
    subst (λ (it : World). Steps true it (Ok c.arrived.result) (world_of c.arrived.new.self) (delivers network it c.args.flight c.args.node c.args.cost)) same
    (steps_as _ _ (delivers_octets v c.args.node c.in_ok-number.number c.args.flight c.args.cost octets is
    (flies (not_lost (flight_in v.flights c.args.flight)) octets c.in-Some.ensures))
    (came_to v v c.args.node c.in_ok-number.number octets c.accept-accepted.result c.accept-accepted.new.self
    refl is c.accept-accepted.ensures.did (world_of c.arrived.new.self) c.args.cost c.origin-origin.result c.arrived.result (sym c.if-is_discovery.ensures)
    c.origin-origin.ensures.forged c.origin-origin.ensures.note c.arrived.ensures))

pub returns-clause-octets : goal.returns-clause-octets
returns-clause-octets c =
    let w = world_of c.args.self.now in
    let same = c.reserve.ensures.world in
    let octets = c.in-Some.octets.now in
    flight_brings w c.args.node c.args.flight c.args.cost octets
    (subst (λ (it : World). Flies (not_lost (flight_in it.flights c.args.flight)) octets) same
    (flies (not_lost (flight_in (world_of c.reserve.new.self).flights c.args.flight)) octets c.in-Some.ensures))
    (brings_octets (world_of c.reserve.new.self) w c.args.node c.in_ok-number.number octets c.accept-accepted.result c.accept-accepted.new.self
    same c.in_ok-number.ensures c.accept-accepted.ensures.did c.payload_octets.ensures)
