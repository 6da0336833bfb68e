-- What forwarding comes to, by what is tested.
use Rattle.std.proofs.Common.{◌≡◌, ℕ, true, false, List, Some, None, Result, Ok, Err, refl}
use Rattle.std.specs.Prelude.{◌==◌, nat_lt}
use Rattle.loadng_messages.specs.declared.message.Message.TheVariants.{Rerr}
use Rattle.mesh_header.specs.declared.unit.Mesh.{Mesh}
use Rattle.mesh_header.specs.declared.unit.Unit.{Unit as MeshUnit}
use Rattle.node_rules.specs.declared.heard.Heard.{Heard}
use Rattle.node_rules.specs.declared.heard.Heard.TheVariants.{Relayed, Reported, Joining}
use Rattle.node_rules.specs.declared.heard.Way.TheVariants.{Mesh as ByMesh}
use Rattle.mesh_header.specs.declared.unit.Unit.TheVariants.{Whole, Part, Carried, Local}
use Rattle.mesh_header.specs.Pieces.{Placed}
use Rattle.node_rules.specs.declared.refusal.Dropped.{Dropped}
use Rattle.node_rules.specs.declared.refusal.Dropped.TheVariants.{BadUnit, Store, NoRoute, HopsSpent, CounterSpent}
use Rattle.node_rules.specs.Memory.{StationMemory, next_hop}
use Rattle.node_rules.specs.Plans.{Plan, resting}
use Rattle.node_rules.specs.Drafts.{alone, empty_draft, choose, goes, send_message, counters_left, refused, sealing}
use Rattle.node_rules.specs.HearingRules.{dropped, drop_it, hands_up, gather, hop_less, hear_over_mesh, forward, report_by, is_spent}
use Rattle.plc_station.proofs.Ways.{sealed_spent, sealed_fits}

-- what becomes of a unit for which there is no route
abbrev pub reporting : StationMemory → ℕ → Mesh → Plan StationMemory (Result Heard Dropped)
reporting l own mesh = choose (mesh.origin == own) (drop_it l NoRoute) (report_by l mesh (next_hop l mesh.origin))

pub own_lost : (l : StationMemory) (own : ℕ) (mesh : Mesh) → true ≡ (mesh.origin == own) → refused {H = Heard} dropped l NoRoute ≡ reporting l own mesh
unfolding choose
own_lost l own mesh e = rw (← e) refl

pub origin_lost : (l : StationMemory) (own : ℕ) (mesh : Mesh) → false ≡ (mesh.origin == own) → None ≡ next_hop l mesh.origin
    → refused {H = Heard} dropped l NoRoute ≡ reporting l own mesh
unfolding choose
origin_lost l own mesh e by = rw (← e, ← by) refl

pub report_spent : (l : StationMemory) (own : ℕ) (mesh : Mesh) (hop : ℕ) → false ≡ (mesh.origin == own) → Some hop ≡ next_hop l mesh.origin
    → true ≡ nat_lt (counters_left l) 1
    → refused {H = Heard} dropped l CounterSpent ≡ reporting l own mesh
unfolding choose goes empty_draft
report_spent l own mesh hop e by few = rw (← e, ← by) (sealed_spent dropped l (send_message hop (Rerr mesh.to mesh.origin) (empty_draft l)) Reported 1 refl few)

pub reported : (l : StationMemory) (own : ℕ) (mesh : Mesh) (hop : ℕ) → false ≡ (mesh.origin == own) → Some hop ≡ next_hop l mesh.origin
    → false ≡ nat_lt (counters_left l) 1
    → sealing alone dropped (send_message hop (Rerr mesh.to mesh.origin) (empty_draft l)) Reported ≡ reporting l own mesh
unfolding choose goes empty_draft
reported l own mesh hop e by few = rw (← e, ← by) (sealed_fits dropped l (send_message hop (Rerr mesh.to mesh.origin) (empty_draft l)) Reported 1 refl few)

pub no_way : (l : StationMemory) (own : ℕ) (mesh : Mesh) (unit : MeshUnit) (note : ℕ) → None ≡ next_hop l mesh.to
    → reporting l own mesh ≡ forward l own mesh unit note
no_way l own mesh unit note by = rw (← by) refl

pub hops_spent : (l : StationMemory) (own : ℕ) (mesh : Mesh) (unit : MeshUnit) (note hop : ℕ) → Some hop ≡ next_hop l mesh.to → true ≡ is_spent mesh
    → refused {H = Heard} dropped l HopsSpent ≡ forward l own mesh unit note
unfolding choose
hops_spent l own mesh unit note hop by spent = rw (← by, ← spent) refl

pub forward_spent : (l : StationMemory) (own : ℕ) (mesh : Mesh) (unit : MeshUnit) (note hop : ℕ) → Some hop ≡ next_hop l mesh.to → false ≡ is_spent mesh
    → true ≡ nat_lt (counters_left l) 1
    → refused {H = Heard} dropped l CounterSpent ≡ forward l own mesh unit note
unfolding choose goes empty_draft
forward_spent l own mesh unit note hop by spent few = rw (← by, ← spent) (sealed_spent dropped l (goes hop unit note (empty_draft l)) Relayed 1 refl few)

pub forwarded : (l : StationMemory) (own : ℕ) (mesh : Mesh) (unit : MeshUnit) (note hop : ℕ) → Some hop ≡ next_hop l mesh.to → false ≡ is_spent mesh
    → false ≡ nat_lt (counters_left l) 1
    → sealing alone dropped (goes hop unit note (empty_draft l)) Relayed ≡ forward l own mesh unit note
unfolding choose goes empty_draft
forwarded l own mesh unit note hop by spent few = rw (← by, ← spent) (sealed_fits dropped l (goes hop unit note (empty_draft l)) Relayed 1 refl few)

-- # A unit over the mesh, by what it is

pub whole_here : (l : StationMemory) (own : ℕ) (u : MeshUnit) (mesh : Mesh) (octets : List ℕ) (note now : ℕ) → u ≡ Whole mesh octets → true ≡ (mesh.to == own)
    → hands_up l mesh.origin note octets ≡ hear_over_mesh l own u note now
unfolding choose
whole_here l own u mesh octets note now is here = rw (is, ← here) refl

pub whole_on : (l : StationMemory) (own : ℕ) (u : MeshUnit) (mesh : Mesh) (octets : List ℕ) (note now : ℕ) → u ≡ Whole mesh octets → false ≡ (mesh.to == own)
    → forward l own mesh (Whole (hop_less mesh) octets) note ≡ hear_over_mesh l own u note now
unfolding choose
whole_on l own u mesh octets note now is here = rw (is, ← here) refl

pub part_here : (l : StationMemory) (own : ℕ) (u : MeshUnit) (mesh : Mesh) (piece : Placed) (note now : ℕ) → u ≡ Part mesh piece → true ≡ (mesh.to == own)
    → gather l mesh.origin piece note now ≡ hear_over_mesh l own u note now
unfolding choose
part_here l own u mesh piece note now is here = rw (is, ← here) refl

pub part_on : (l : StationMemory) (own : ℕ) (u : MeshUnit) (mesh : Mesh) (piece : Placed) (note now : ℕ) → u ≡ Part mesh piece → false ≡ (mesh.to == own)
    → forward l own mesh (Part (hop_less mesh) piece) note ≡ hear_over_mesh l own u note now
unfolding choose
part_on l own u mesh piece note now is here = rw (is, ← here) refl

pub carried_here : (l : StationMemory) (own : ℕ) (u : MeshUnit) (mesh : Mesh) (body : List ℕ) (note now : ℕ) → u ≡ Carried mesh body → true ≡ (mesh.to == own)
    → resting l (Ok (Joining (ByMesh mesh.origin) body)) (Err Store) ≡ hear_over_mesh l own u note now
unfolding choose
carried_here l own u mesh body note now is here = rw (is, ← here) refl

pub carried_on : (l : StationMemory) (own : ℕ) (u : MeshUnit) (mesh : Mesh) (body : List ℕ) (note now : ℕ) → u ≡ Carried mesh body → false ≡ (mesh.to == own)
    → forward l own mesh (Carried (hop_less mesh) body) note ≡ hear_over_mesh l own u note now
unfolding choose
carried_on l own u mesh body note now is here = rw (is, ← here) refl

pub local_bad : (l : StationMemory) (own : ℕ) (u : MeshUnit) (code : ℕ) (body : List ℕ) (note now : ℕ) → u ≡ Local code body
    → refused {H = Heard} dropped l BadUnit ≡ hear_over_mesh l own u note now
local_bad l own u code body note now is = rw is refl
