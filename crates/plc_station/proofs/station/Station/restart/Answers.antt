use Rattle.std.proofs.Common.{sym, subst}
use Rattle.station_queues.specs.Bodies.{Held}
use Rattle.plc_station.specs.StationViews.{station_in}
use Rattle.node_rules.specs.Agreement.{AgreesWith}
use Rattle.plc_station.proofs.station.Station.restart.Goals as goal

pub returns-clause-agrees : goal.returns-clause-agrees
returns-clause-agrees g c =
    subst (λ (h : Held). AgreesWith (station_in c.reload.new.self h) (g.K.Keeper.store c.self.inside.keeper).records) (sym c.clear.ensures)
    c.in_ok-reload.ensures.agrees
