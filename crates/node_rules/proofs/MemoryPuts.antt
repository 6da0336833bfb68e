-- What a station's plan puts, as one of all that a node holds in memory.
use Rattle.std.proofs.Common.{Result}
use Rattle.node_rules.specs.declared.heard.Heard.{Heard}
use Rattle.node_rules.specs.declared.refusal.Dropped.{Dropped}
use Rattle.node_rules.specs.Memory.{StationMemory, Memory}
use Rattle.node_rules.specs.Plans.{Plan, resting, within}
use Rattle.node_rules.specs.Drafts.{Ends}
use Rattle.node_rules.specs.HearingRules.{dropped}
use Rattle.node_rules.specs.MemoryDrafts.{with_station, in_memory}
use Rattle.node_rules.proofs.Shapes.{Shape, Rests, Keeps, Ended}
use Rattle.node_rules.proofs.MemoryDraftShapes.{whole, reading}
use Rattle.node_rules.proofs.PutCounts.{Does}
use Rattle.node_rules.proofs.HeardPuts.{StationFew}

-- the plan of a rule of a meter or the coordinator puts three times at most, before the counter
abbrev pub MemoryFew : {H E : Type 0} → Ends E → Memory → Plan Memory (Result H E) → Type 0
MemoryFew ends m p = Shape in_memory ends m Does p

pub within_few : {H : Type 0} (word : Heard → H) (m : Memory) (p : Plan StationMemory (Result Heard Dropped)) → StationFew m.station p
    → MemoryFew dropped m (within (λ l. with_station l m) (reading word) p)
unfolding resting
within_few word m p (Rests answer) = Rests (reading word answer)
within_few word m p (Keeps n answer) = Keeps (with_station n m) (word answer)
within_few word m p (Ended d answer does) = Ended (whole m d) (word answer) (record { few = does.few })
