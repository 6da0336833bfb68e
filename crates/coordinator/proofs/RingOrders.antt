-- What orders about the ring come to, by what is tested.
use Rattle.std.proofs.Common.{◌≡◌, ℕ, true, false, refl}
use Rattle.std.specs.Prelude.{◌==◌, is_some}
use Rattle.std.specs.Option.{option_map_or}
use Rattle.plc_base.specs.Grant.{Granted}
use Rattle.plc_base.specs.declared.key.Key.{Key}
use Rattle.group_keys.specs.KeyRing.{key_in_ring, with_key, with_active}
use Rattle.node_rules.specs.declared.refusal.CoordinatorRefusal.TheVariants.{IndexActive, NotHeld}
use Rattle.node_rules.specs.Memory.{StationMemory, Memory}
use Rattle.node_rules.specs.Calls.{ringing_ends, activate}
use Rattle.node_rules.specs.MemoryDrafts.{in_memory, on_station}
use Rattle.node_rules.specs.Drafts.{alone, empty_draft, with_ring, choose, refused, sealing}
use Rattle.node_rules.specs.Coordinators.{orders, rekey, activate_self}

pub index_active : (m : Memory) (index : ℕ) (key : Key) → true ≡ option_map_or (λ (g : Granted). g.active == index) m.station.ring false
    → refused {H = Unit {0}} orders m IndexActive ≡ rekey m index key
unfolding choose
index_active m index key e = rw (← e) refl

pub drawn : (m : Memory) (index : ℕ) (key : Key) → false ≡ option_map_or (λ (g : Granted). g.active == index) m.station.ring false
    → sealing in_memory orders (on_station (with_ring (with_key m.station.ring index key)) (empty_draft m)) tt ≡ rekey m index key
unfolding choose
drawn m index key e = rw (← e) refl

pub key_missing : (m : Memory) (index : ℕ) → false ≡ is_some (key_in_ring m.station.ring index)
    → refused {H = Unit {0}} orders m NotHeld ≡ activate_self m index
unfolding choose
key_missing m index e = rw (← e) refl

pub activated : (m : Memory) (index : ℕ) → true ≡ is_some (key_in_ring m.station.ring index)
    → sealing in_memory orders (on_station (with_ring (with_active m.station.ring index)) (empty_draft m)) tt ≡ activate_self m index
unfolding choose
activated m index e = rw (← e) refl

-- the station's plan, where a key is held
pub active_plan : (l : StationMemory) (index : ℕ) → is_some (key_in_ring l.ring index) ≡ true
    → activate l index ≡ sealing alone ringing_ends (with_ring (with_active l.ring index) (empty_draft l)) tt
unfolding choose
active_plan l index e = rw e refl
