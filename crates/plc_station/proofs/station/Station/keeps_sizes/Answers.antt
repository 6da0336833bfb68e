use Rattle.plc_station.specs.StationViews.{station_in}
use Rattle.plc_station.specs.Sizes.{HasSizes}
use Rattle.plc_station.proofs.CarriedPlans.{on_memory}
use Rattle.plc_station.proofs.HeldSizes.{waiting_fits}
use Rattle.plc_station.proofs.station.Station.keeps_sizes.Goals as goal

pub returns : goal.returns
returns g c = record {
  sized = rw (← c.self.view_is) (on_memory c.self.inside.halted (station_in c.self.inside.parts c.self.inside.bodies) HasSizes (λ _. record {
    tables = record { marks = c.entries-senders.ensures.table.short; ranks = c.entries-ranks.ensures.table.short };
    reassemblies = (c.count-waiting.ensures.sized.reassemblies, c.count-waiting.ensures.sized.gathered);
    waiting = waiting_fits (station_in c.self.inside.parts c.self.inside.bodies) c.count-waiting.ensures.sized;
    loads = c.count-waiting.ensures.sized.loads;
  }));
}
