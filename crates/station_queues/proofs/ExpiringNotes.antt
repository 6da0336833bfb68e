-- What has waited for the whole time has the same notes in the pool as outside.
use Rattle.std.proofs.Common.{◌≡◌, ℕ, Bool, true, false, not, List, [], ◌∷◌, map, refl, ap, if◌then◌else◌}
use Rattle.std.specs.List.{filter}
use Rattle.plc_base.specs.Times.{is_within}
use Rattle.block_pool.specs.Pool.{PoolState}
use Rattle.fragment_buffers.specs.WaitingBodies.{Body}
use Rattle.fragment_buffers.specs.declared.times.TheConstants.{WAITING_TIME}
use Rattle.station_queues.specs.Bodies.{Slot}
use Rattle.station_queues.specs.BodiesInPool.{bodies_in, body_in}
use Rattle.station_queues.specs.Expiring.{notes_of_expiring, notes_of_old}

pub same_notes : (pool : PoolState) (now : ℕ) (ws : List Slot) → notes_of_old now ws ≡ notes_of_expiring now (bodies_in pool ws)
same_notes pool now [] = refl
same_notes pool now (w ∷ ws) = by_end (not (is_within WAITING_TIME now w.since)) (same_notes pool now ws)
  where
    old : List Slot
    old = filter (λ (v : Slot). not (is_within WAITING_TIME now v.since)) ws

    ends : List Body
    ends = filter (λ (b : Body). not (is_within WAITING_TIME now b.since)) (bodies_in pool ws)

    by_end : (b : Bool) → map (λ (v : Slot). v.note) old ≡ map (λ (v : Body). v.note) ends
        → map (λ (v : Slot). v.note) (if b then w ∷ old else old) ≡ map (λ (v : Body). v.note) (if b then body_in pool w ∷ ends else ends)
    by_end true same = ap (λ notes. w.note ∷ notes) same
    by_end false same = same
