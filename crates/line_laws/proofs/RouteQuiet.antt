-- More plans that send nothing sealed.
use Rattle.std.proofs.Common.{◌≡◌, ℕ, Bool, true, false, [], ◌∷◌, ◌++◌, length, Option, Some, None, refl, sym, subst}
use Rattle.std.specs.Prelude.{is_some, ◌==◌, nat_lt}
use Rattle.std.specs.Option.{option_map_or}
use Rattle.std.proofs.lemmas.List.Elements.{All-nil, All-push, All-append}
use Rattle.std.specs.Prelude.{All}
use Rattle.joining_messages.specs.declared.message.JoinBody.TheVariants as body
use Rattle.node_rules.specs.Ciphers.{Ciphers}
use Rattle.node_rules.specs.Frames.{Up}
use Rattle.node_rules.specs.Memory.{ByAgent}
use Rattle.node_rules.specs.JoiningPackets.{message}
use Rattle.plc_base.specs.declared.key.Key.{Key}
use Rattle.plc_base.specs.declared.key.RandomOctets.{RandomOctets}
use Rattle.plc_base.specs.Grant.{Granted}
use Rattle.group_keys.specs.KeyRing as ring
use Rattle.node_rules.specs.declared.refusal.CoordinatorRefusal.TheVariants as refusal
use Rattle.node_rules.specs.Memory.{Memory}
use Rattle.node_rules.specs.Plans.{Plan, resting}
use Rattle.node_rules.specs.Drafts.{Draft, Ends, empty_draft, with_ring, refused, sealing, sealed_by, sealing_key, sealed_units, choose}
use Rattle.node_rules.specs.MemoryDrafts.{in_memory, on_station, with_memory_by, goes_up, give_random, given_ends}
use Rattle.node_rules.specs.Meters as meters
use Rattle.node_rules.specs.Coordinators as coordinators
use Rattle.line_laws.proofs.Quiet.{quiet_sealing}
use Rattle.line_laws.proofs.LettersRead.{FrameRead}

chosen : {A : Type 0} (P : Plan Memory A → Type 0) (b : Bool) (p q : Plan Memory A) → P p → P q → P (choose b p q)
unfolding choose
chosen P true p q e f = e
chosen P false p q e f = f

refused_none : (H : Type 0) {E : Type 0} (ends : Ends E) (m : Memory) (reason : E) → (refused {H = H} ends m reason).frames ≡ []
unfolding resting
refused_none H ends m reason = refl

ringed_none : (m : Memory) (r : ring.Ring) → ((on_station (with_ring r) (empty_draft m)).units ≡ []) × ((on_station (with_ring r) (empty_draft m)).plain ≡ [])
unfolding empty_draft with_ring on_station
ringed_none m r = (refl, refl)

pub rekey_quiet : (m : Memory) (index : ℕ) (key : Key) → (coordinators.rekey m index key).frames ≡ []
rekey_quiet m index key =
    let d : Draft Memory = on_station (with_ring (ring.with_key m.station.ring index key)) (empty_draft m) in
    let none = ringed_none m (ring.with_key m.station.ring index key) in
    chosen (λ p. p.frames ≡ []) (option_map_or (λ (g : Granted). g.active == index) m.station.ring false) (refused coordinators.orders m refusal.IndexActive)
    (sealing in_memory coordinators.orders d (tt {0}))
    (refused_none (Unit {0}) coordinators.orders m refusal.IndexActive) (quiet_sealing in_memory coordinators.orders d (tt {0}) none.0 none.1)

pub activate_self_quiet : (m : Memory) (index : ℕ) → (coordinators.activate_self m index).frames ≡ []
activate_self_quiet m index =
    let d : Draft Memory = on_station (with_ring (ring.with_active m.station.ring index)) (empty_draft m) in
    let none = ringed_none m (ring.with_active m.station.ring index) in
    chosen (λ p. p.frames ≡ []) (is_some (ring.key_in_ring m.station.ring index)) (sealing in_memory coordinators.orders d (tt {0}))
    (refused coordinators.orders m refusal.NotHeld)
    (quiet_sealing in_memory coordinators.orders d (tt {0}) none.0 none.1) (refused_none (Unit {0}) coordinators.orders m refusal.NotHeld)

given_none : (m : Memory) (value : RandomOctets)
    → let d : Draft Memory = with_memory_by (λ n. record n { randoms = n.randoms ++ value ∷ [] }) (empty_draft m) in
    (d.units ≡ []) × (d.plain ≡ [])
unfolding empty_draft with_memory_by
given_none m value = (refl, refl)

pub random_quiet : (m : Memory) (value : RandomOctets) → (give_random m value).frames ≡ []
random_quiet m value =
    let d : Draft Memory = with_memory_by (λ n. record n { randoms = n.randoms ++ value ∷ [] }) (empty_draft m) in
    let none = given_none m value in
    chosen (λ p. p.frames ≡ []) (nat_lt 7 (length m.randoms)) (refused given_ends m _) (sealing in_memory given_ends d (tt {0}))
    (refused_none (Unit {0}) given_ends m _) (quiet_sealing in_memory given_ends d (tt {0}) none.0 none.1)

leaves_none : (m : Memory) → ((meters.leaves m).units ≡ []) × ((meters.leaves m).plain ≡ [])
unfolding empty_draft with_ring on_station with_memory_by
leaves_none m = (refl, refl)

pub leave_quiet : (m : Memory) → (meters.leave m).frames ≡ []
leave_quiet m =
    let none = leaves_none m in
    chosen (λ p. p.frames ≡ []) (meters.is_joined m) (sealing in_memory meters.leaving_ends (meters.leaves m) (tt {0})) (refused meters.leaving_ends m _)
    (quiet_sealing in_memory meters.leaving_ends (meters.leaves m) (tt {0}) none.0 none.1) (refused_none (Unit {0}) meters.leaving_ends m _)

-- # Asking sends a plain frame alone

module _ (ciphers : Ciphers) where
  sealed_read : (r : ring.Ring) (first : ℕ) → All (FrameRead ciphers) (sealed_by r first [])
  sealed_read None first = All-nil (FrameRead ciphers)
  sealed_read (Some g) first = by_key (sealing_key g)
    where
      by_key : (key : Option Key) → All (FrameRead ciphers) (option_map_or (λ k. sealed_units g k first []) key [])
      by_key None = All-nil (FrameRead ciphers)
      by_key (Some key) = All-nil (FrameRead ciphers)

  plain_read : (d : Draft Memory) → d.units ≡ [] → All (FrameRead ciphers) d.plain
      → All (FrameRead ciphers) (d.plain ++ sealed_by d.memory.station.ring d.memory.station.counter.next d.units)
  plain_read d none all = All-append (FrameRead ciphers) d.plain _ all
      (subst (λ us. All (FrameRead ciphers) (sealed_by d.memory.station.ring d.memory.station.counter.next us)) (sym none)
      (sealed_read d.memory.station.ring d.memory.station.counter.next))

  pub join_read : (x : meters.Identity) (m : Memory) (agent now : ℕ) → All (FrameRead ciphers) (meters.join x m agent now).frames
  unfolding resting goes_up with_memory_by empty_draft
  join_read x m agent now =
      let d : Draft Memory = goes_up agent x.eui (message x.eui (body.Join []))
      (with_memory_by (meters.with_session (Some (record { session_way = ByAgent agent; peer = None; since = now }))) (empty_draft m)) in
      chosen (λ p. All (FrameRead ciphers) p.frames) (meters.is_joined m) (refused meters.joining_ends m _) (sealing in_memory meters.joining_ends d (tt {0}))
      (All-nil (FrameRead ciphers))
      (plain_read d refl (All-push (FrameRead ciphers) [] (Up agent x.eui (message x.eui (body.Join []))) (All-nil (FrameRead ciphers)) tt))
