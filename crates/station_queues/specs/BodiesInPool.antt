-- What the bodies that a node holds are with their pool.
use Rattle.std.specs.Prelude.{◌≡◌, ◌≢◌, ℕ, ◌+◌, ◌<◌, ◌≤◌, List, length, map, Option, Some, None, IsSome}
use Rattle.std.specs.List.{All, AllPairs, sum_by}
use Rattle.block_pool.specs.declared.pool.Chain.{Chain}
use Rattle.block_pool.specs.Pool.{PoolState, chain_octets}
use Rattle.fragment_buffers.specs.PieceIntake.{blocks}
use Rattle.fragment_buffers.specs.Entries.{Entry, Keeps, IsOther, IsBounded, blocks_used, reassemblies_in}
use Rattle.fragment_buffers.specs.Loads.{load_of}
use Rattle.fragment_buffers.specs.WaitingBodies.{Body}
use Rattle.station_queues.specs.Bodies.{Held, Slot}
use Rattle.station_queues.specs.FirstEnd.{IsStill}
use Rattle.station_queues.specs.declared.bodies.Waiting.TheInside as waits
use Rattle.station_queues.specs.declared.bodies.Bodies.TheInside as bodies

abbrev pub number_of : Option Chain → ℕ
number_of None = 0
number_of (Some c) = c

abbrev pub slot_of : waits.Inside → Slot
slot_of w = record { to = w.to; note = w.note; since = w.since; tag = w.tag; chain = number_of w.chain; size = w.size }

-- a body that waits has a chain
abbrev pub IsWaiting : waits.Inside → Type 0
IsWaiting w = 0 < w.size → IsSome w.chain

-- the body whose octets the pool holds
abbrev pub body_in : PoolState → Slot → Body
body_in pool w = record { to = w.to; note = w.note; since = w.since; load = load_of w.tag (chain_octets pool w.chain) }

abbrev pub bodies_in : PoolState → List Slot → List Body
bodies_in pool ws = map (body_in pool) ws

-- A chain of the pool that no reassembly has, and as long as the body.
pub record IsHeld (pool : PoolState) (es : List Entry) (w : Slot) : Type 0 where
  pub other : IsOther pool es w.chain
  pub long : length (chain_octets pool w.chain) ≡ w.size
  pub some : 0 < w.size
  pub fits : w.size ≤ 1280
  pub command : w.tag ≡ None → w.size ≤ 374

abbrev pub blocks_of : List Slot → ℕ
blocks_of ws = sum_by (λ (w : Slot). blocks w.size) ws

-- The chains of reassemblies and of waiting bodies are the pool's, and no two are one; no block is lost of 160; at most 80 are
-- those of waiting bodies.
pub record IsSound (pool : PoolState) (es : List Entry) (ws : List Slot) : Type 0 where
  pub keeps : Keeps pool es
  pub bounded : IsBounded es
  pub waits : All (IsHeld pool es) ws
  pub distinct : AllPairs (λ (v w : Slot). v.chain ≢ w.chain) ws
  pub total : pool.free + (blocks_used es + blocks_of ws) ≡ 160
  pub few : blocks_of ws ≤ 80

abbrev pub held_in : bodies.Inside → Held
held_in b = record { reassemblies = reassemblies_in b.pool b.reassembly; waiting = bodies_in b.pool b.waiting.items }

pub record AreSound (b : bodies.Inside) : Type 0 where
  pub sound : IsSound b.pool b.reassembly b.waiting.items
  pub count : b.blocks ≡ blocks_of b.waiting.items
  pub end : IsStill b.next_end (held_in b)
