-- The law, by the rules, one after the other.
use Rattle.line_progress.proofs.StationUps.{station_ups}
use Rattle.line_progress.proofs.laws.stations_hand_up.Goals as goal

pub returns : goal.returns
returns c = station_ups
