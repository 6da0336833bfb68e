-- What a node gathers and what waits at it keep their sizes.
use Rattle.std.proofs.Common.{◌≡◌, ℕ, ◌≤◌, List, [], ◌∷◌, length, Option, Some, None, refl, arith}
use Rattle.std.specs.List.{All}
use Rattle.std.proofs.lemmas.List.{length-map}
use Rattle.std.proofs.lemmas.List.Elements.{All-nil, All-cons, All-head, All-tail}
use Rattle.block_pool.specs.Pool.{PoolState, chain_octets}
use Rattle.fragment_buffers.specs.Entries.{Entry, reassemblies_in}
use Rattle.fragment_buffers.specs.Loads.{load_of}
use Rattle.fragment_buffers.specs.WaitingBodies.{Body}
use Rattle.fragment_buffers.proofs.PoolEntries.{blocks_gathered}
use Rattle.station_queues.specs.Bodies.{Slot}
use Rattle.station_queues.specs.BodiesInPool.{IsHeld, IsSound, body_in, bodies_in}
use Rattle.station_queues.specs.Sizes.{IsLoadSized, AreSized}
use Rattle.station_queues.proofs.Sound.{blocks_same}

by_tag : (tag : Option ℕ) (octets : List ℕ) → 1 ≤ length octets → length octets ≤ 1280 → (tag ≡ None → length octets ≤ 374) → IsLoadSized (load_of tag octets)
by_tag None octets some fits command = (some, command refl)
by_tag (Some t) octets some fits command = (some, fits)

load_sized : (p : PoolState) (es : List Entry) (w : Slot) → IsHeld p es w → IsLoadSized (body_in p w).load
load_sized p es w held =
    by_tag w.tag (chain_octets p w.chain) (omega (arith, held.long, held.some)) (omega (arith, held.long, held.fits))
    (λ none. omega (arith, held.long, held.command none))

loads_sized : (p : PoolState) (es : List Entry) (ws : List Slot) → All (IsHeld p es) ws → All (λ (b : Body). IsLoadSized b.load) (bodies_in p ws)
loads_sized p es [] h = All-nil (λ (b : Body). IsLoadSized b.load)
loads_sized p es (w ∷ ws) h =
    All-cons (λ (b : Body). IsLoadSized b.load) (body_in p w) (bodies_in p ws) (load_sized p es w (All-head (IsHeld p es) w ws h))
    (loads_sized p es ws (All-tail (IsHeld p es) w ws h))

-- what stands in a sound pool keeps its sizes, where no more than 8 bodies wait
pub are_sized : (p : PoolState) (es : List Entry) (ws : List Slot) → IsSound p es ws → length ws ≤ 8
    → AreSized (record { reassemblies = reassemblies_in p es; waiting = bodies_in p ws })
are_sized p es ws s count = record {
  reassemblies = omega (arith, length_gathered, s.bounded.count);
  gathered = omega (arith, blocks_gathered p es, s.bounded.blocks);
  bodies = omega (arith, count, length-map ws (body_in p));
  waiting = omega (arith, blocks_same p es ws s.waits, s.few);
  loads = loads_sized p es ws s.waits;
}
  where
    length_gathered : length (reassemblies_in p es) ≡ length es
    length_gathered = length-map es _
