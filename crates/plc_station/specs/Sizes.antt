-- How much a station holds.
use Rattle.std.specs.Prelude.{◌≤◌, length}
use Rattle.std.specs.List.{All}
use Rattle.fragment_buffers.specs.PieceIntake.{blocks_held}
use Rattle.fragment_buffers.specs.WaitingBodies.{Body}
use Rattle.node_rules.specs.Laws.{WaitingFits}
use Rattle.node_rules.specs.Memory.{StationMemory}
use Rattle.node_rules.specs.Tables.{HasShortTables}
use Rattle.station_queues.specs.Sizes.{IsLoadSized}

-- No table passes its size, and no body that waits is empty or too long.
pub record HasSizes (l : StationMemory) : Type 0 where
  pub tables : HasShortTables l
  pub reassemblies : (length l.reassemblies ≤ 8) × (blocks_held l.reassemblies ≤ 80)
  pub waiting : WaitingFits l
  pub loads : All (λ (b : Body). IsLoadSized b.load) l.waiting
