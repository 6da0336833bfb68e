use Rattle.std.proofs.Common.{refl}
use Rattle.node_rules.specs.Drafts.{empty_draft, with_rank}
use Rattle.node_rules.specs.Calls.{presetting_ends, near_rank}
use Rattle.node_rules.specs.Agreement.{AgreesWith}
use Rattle.plc_station.specs.StationViews.{station_in}
use Rattle.plc_station.proofs.CarriedPlans.{at_some, on_memory, lines_are}
use Rattle.plc_station.proofs.EndedSteps.{settled, stopped}
use Rattle.plc_station.proofs.station.Station.keep_near.Goals as goal

pub returns-in_default-clause-carries : goal.returns-in_default-clause-carries
unfolding with_rank empty_draft
returns-in_default-clause-carries g c =
    rw (← c.self.view_is) (on_memory c.self.inside.halted _ _ (λ running. stopped presetting_ends _ _
    (with_rank c.args.to (near_rank c.args.cost) c.args.to c.args.now (empty_draft (station_in c.self.inside.parts c.self.inside.bodies)))
    (with_rank c.args.to (near_rank c.args.cost) c.args.to c.args.now (empty_draft (station_in c.self.inside.parts c.self.inside.bodies))) tt _ refl
    c.in_default.ensures.store refl refl))

pub returns-clause-carries : goal.returns-clause-carries
unfolding with_rank empty_draft
returns-clause-carries g c =
    let before = rw (← c.self.view_is) at c.requires.ready.agrees in
    rw (← c.self.view_is) (on_memory c.self.inside.halted _ _ (λ running. settled presetting_ends _ _
    (with_rank c.args.to (near_rank c.args.cost) c.args.to c.args.now (empty_draft (station_in c.self.inside.parts c.self.inside.bodies))).puts
    (with_rank c.args.to (near_rank c.args.cost) c.args.to c.args.now (empty_draft (station_in c.self.inside.parts c.self.inside.bodies))).memory
    (with_rank c.args.to (near_rank c.args.cost) c.args.to c.args.now (empty_draft (station_in c.self.inside.parts c.self.inside.bodies))) tt _ refl
    c.in-Ok.ensures.store
    (at_some _ (λ l. AgreesWith l (g.K.Keeper.store c.self.inside.keeper).records) (station_in c.self.inside.parts c.self.inside.bodies) running
    before).counter.below refl
    (lines_are _ _ _ _ refl refl refl c.in-Ok.ensures.routing refl refl refl refl)))
