-- What the coordinator has done of a draft so far.
use Rattle.std.specs.Prelude.{◌≡◌, Bool, if◌then◌else◌, Some, None}
use Rattle.store_tables.specs.Writes.{Wrote}
use Rattle.node_rules.specs.Memory.{Memory}
use Rattle.node_rules.specs.Drafts.{Draft}
use Rattle.node_rules.specs.States.{State}

-- The puts of a draft were made and its memory is held, or one of them failed and the coordinator is halted. What goes out is no
-- part of it.
pub record Does (old : State Memory) (d : Draft Memory) (done : Bool) (new : State Memory) : Type 0 where
  pub wrote : Wrote old.store d.puts done new.store
  pub state : new ≡ record new { eui = old.eui; memory = if done then Some d.memory else None }
