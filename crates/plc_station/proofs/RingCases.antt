-- What ring calls and presets come to, by what is tested.
use Rattle.std.proofs.Common.{◌≡◌, ℕ, true, false, Option, Some, None, refl}
use Rattle.std.specs.Prelude.{IsSome}
use Rattle.plc_base.specs.declared.key.Key.{Key}
use Rattle.node_rules.specs.declared.refusal.RingRefusal.TheVariants.{NotHeld}
use Rattle.group_keys.specs.KeyRing.{key_in_ring, with_active}
use Rattle.routing_set.specs.RoutingSet as routing
use Rattle.node_rules.specs.declared.refusal.PresetFault.TheVariants as presets
use Rattle.node_rules.specs.Memory.{StationMemory}
use Rattle.node_rules.specs.Drafts.{alone, empty_draft, choose, checked, refused, with_ring, with_rank, sealing}
use Rattle.node_rules.specs.Calls.{ringing_ends, ring_ends, activate, presetting_ends, preset_near, near_rank}

-- a ring that is there, and one that is not
pub no_ring : {A P : Type 0} (ring : Option A) → None ≡ ring → IsSome ring → P
no_ring None e h = absurd (cc)
no_ring (Some x) e h = absurd (cc)

pub a_ring : {A P : Type 0} (ring : Option A) (x : A) → Some x ≡ ring → ring ≡ None → P
a_ring None x e h = absurd (cc)
a_ring (Some y) x e h = absurd (cc)

pub not_held : (l : StationMemory) (index : ℕ) → None ≡ key_in_ring l.ring index → refused {H = Unit {0}} ringing_ends l NotHeld ≡ activate l index
unfolding choose
not_held l index e = rw (← e) refl

pub held : (l : StationMemory) (index : ℕ) (key : Key) → Some key ≡ key_in_ring l.ring index
    → ring_ends (with_ring (with_active l.ring index) (empty_draft l)) ≡ activate l index
unfolding choose
held l index key e = rw (← e) refl

pub near_worse : (l : StationMemory) (to cost k now : ℕ) → k ≡ cost → false ≡ routing.is_better l.routing to (near_rank k)
    → refused {H = Unit {0}} presetting_ends l presets.NotBetter ≡ preset_near l to cost now
unfolding checked
near_worse l to cost k now same e = rw (← same, ← e) refl

pub near_full : (l : StationMemory) (to cost k now : ℕ) → k ≡ cost → true ≡ routing.is_better l.routing to (near_rank k)
    → true ≡ routing.is_full l.routing to now → refused {H = Unit {0}} presetting_ends l presets.RoutesFull ≡ preset_near l to cost now
unfolding checked
near_full l to cost k now same e full = rw (← same, ← e, ← full) refl

pub near_kept : (l : StationMemory) (to cost k now : ℕ) → k ≡ cost → true ≡ routing.is_better l.routing to (near_rank k)
    → false ≡ routing.is_full l.routing to now
    → sealing alone presetting_ends (with_rank to (near_rank k) to now (empty_draft l)) tt ≡ preset_near l to cost now
unfolding checked
near_kept l to cost k now same e full = rw (← same, ← e, ← full) refl
