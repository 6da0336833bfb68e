-- What a call makes of one reassembly and of its pool: p is the pool before, q after it.
use Rattle.std.specs.Prelude.{◌≡◌, ℕ, ◌+◌, ◌<◌, List, length}
use Rattle.block_pool.specs.Pool.{PoolState, IsChain, chain_octets}
use Rattle.fragment_buffers.specs.PieceIntake.{blocks}
use Rattle.fragment_buffers.specs.Entries.{Entry, entry_at}

-- a chain and its octets stay
abbrev pub Stays : PoolState → PoolState → ℕ → Type 0
Stays p q c = IsChain q c × (chain_octets q c ≡ chain_octets p c)

-- an entry e begins
pub record Begins (p q : PoolState) (e : Entry) : Type 0 where
  pub new : IsChain p e.chain → ⊥
  pub long : length (chain_octets q e.chain) ≡ e.size
  pub free : q.free + blocks e.size ≡ p.free
  pub others : (c : ℕ) → IsChain p c → Stays p q c

-- the entry of a chain becomes e
pub record Changes (p q : PoolState) (es : List Entry) (i : ℕ) (e : Entry) : Type 0 where
  pub there : i < length es
  pub chain : e.chain ≡ (entry_at es i).chain
  pub size_is : e.size ≡ (entry_at es i).size
  pub long : length (chain_octets q e.chain) ≡ e.size
  pub free : q.free ≡ p.free
  pub others : (c : ℕ) → (c ≡ (entry_at es i).chain → ⊥) → IsChain p c → Stays p q c
