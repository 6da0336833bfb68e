-- The script that the simulation of a plan makes.
use Rattle.std.specs.Prelude.{◌≡◌, ℕ, Bool, List, []}
use Rattle.line_rules.specs.Worlds.{World, start}
use Rattle.line_simulation.specs.Turns.{Ran}
use Rattle.line_sim.specs.Recorders.{Recorded, no_order}

-- a recorder of no line
abbrev pub new_recorder : Recorded
new_recorder = record { script = []; world = start; order = no_order }

-- What the run of a simulation leaves: its script, its world, and whether it went on to the end of its time.
pub record IsLeftBy (ran : Ran Recorded) (script : List ℕ) (w : World) (whole : Bool) : Type 0 where
  pub script_is : script ≡ ran.simulated.recorder.script
  pub world_is : w ≡ ran.simulated.recorder.world
  pub whole_is : whole ≡ ran.whole
