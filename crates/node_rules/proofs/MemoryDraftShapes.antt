-- What a station's plan is over all that a node holds in memory.
use Rattle.std.proofs.Common.{Result, Ok, Err}
use Rattle.node_rules.specs.declared.heard.Heard.{Heard}
use Rattle.node_rules.specs.declared.refusal.Dropped.{Dropped}
use Rattle.node_rules.specs.Memory.{StationMemory, Memory}
use Rattle.node_rules.specs.Plans.{Plan, resting, within}
use Rattle.node_rules.specs.Drafts.{Draft, Ends}
use Rattle.node_rules.specs.HearingRules.{dropped}
use Rattle.node_rules.specs.MemoryDrafts.{with_station, in_memory}
use Rattle.node_rules.proofs.Shapes.{Shape, Rests, Keeps, Ended}
use Rattle.node_rules.proofs.Words.{of_station_done}
use Rattle.node_rules.proofs.TablePuts.{Membership, Does}
use Rattle.node_rules.proofs.HearingShapes.{StationShape}

-- the plan of a rule of a meter or the coordinator, whose answers to what they hear are these
abbrev pub MemoryShape : {H E : Type 0} → (Membership → Type 0) → Ends E → Memory → Plan Memory (Result H E) → Type 0
MemoryShape R ends m p = Shape in_memory ends m (Does R m.book m.station) p

-- a doing of the line, as one of the memory
abbrev pub whole : Memory → Draft StationMemory → Draft Memory
whole m d = record { puts = d.puts; memory = with_station d.memory m; units = d.units; plain = d.plain; made = d.made; opened = d.opened }

-- an answer of the station, read as another
abbrev pub reading : {H : Type 0} → (Heard → H) → Result Heard Dropped → Result H Dropped
reading word (Ok h) = Ok (word h)
reading word (Err reason) = Err reason

pub within_shape : {H : Type 0} (R : Membership → Type 0) (word : Heard → H) (m : Memory) (p : Plan StationMemory (Result Heard Dropped))
    → StationShape R m.book m.station p
    → MemoryShape R dropped m (within (λ l. with_station l m) (reading word) p)
unfolding resting
within_shape R word m p (Rests answer) = Rests (reading word answer)
within_shape R word m p (Keeps n answer) = Keeps (with_station n m) (word answer)
within_shape R word m p (Ended d answer does) = Ended (whole m d) (word answer) (record { done = of_station_done m d does.done; puts = does.puts })
