-- What sending a command to the neighbours comes to, by what is tested.
use Rattle.std.proofs.Common.{◌≡◌, ℕ, true, false, List, Option, ap, ◌∙◌, refl}
use Rattle.std.specs.Prelude.{nat_lt, unwrap_or}
use Rattle.mesh_header.specs.declared.unit.Unit.TheVariants.{Local}
use Rattle.node_rules.specs.declared.refusal.LocalRefusal.TheVariants.{CounterSpent}
use Rattle.node_rules.specs.Frames.{to_all}
use Rattle.node_rules.specs.Memory.{StationMemory}
use Rattle.node_rules.specs.Drafts.{alone, empty_draft, goes, counters_left, refused, sealing}
use Rattle.node_rules.specs.Neighbours.{local_ends, local_draft, send_local}
use Rattle.plc_station.proofs.Ways.{sealed_spent, sealed_fits}

pub local_spent : (l : StationMemory) (code : ℕ) (to : Option ℕ) (body : List ℕ) → true ≡ nat_lt (counters_left l) 1
    → refused {H = Unit {0}} local_ends l CounterSpent ≡ send_local l code to body
unfolding goes empty_draft
local_spent l code to body few = sealed_spent local_ends l (local_draft l code to body) tt 1 refl few

pub local_sent : (l : StationMemory) (code : ℕ) (to : Option ℕ) (address : ℕ) (body : List ℕ) → address ≡ unwrap_or to to_all
    → false ≡ nat_lt (counters_left l) 1
    → sealing alone local_ends (goes address (Local code body) 0 (empty_draft l)) tt ≡ send_local l code to body
unfolding goes empty_draft
local_sent l code to address body is few =
    ap (λ (a : ℕ). sealing alone local_ends (goes a (Local code body) 0 (empty_draft l)) tt) is
    ∙ sealed_fits local_ends l (local_draft l code to body) tt 1 refl few
