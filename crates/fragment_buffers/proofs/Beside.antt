-- Chains of the pool that no reassembly has leave the reassemblies as they are.
use Rattle.std.proofs.Common.{◌≡◌, ℕ, ◌<◌, List, length, ap, subst, ◌∙◌}
use Rattle.block_pool.specs.Pool.{PoolState, IsChain, chain_octets}
use Rattle.fragment_buffers.specs.Entries.{Entry, Keeps, IsBounded, entry_at}
use Rattle.fragment_buffers.specs.Laws.{IsBeside, AreKept}
use Rattle.fragment_buffers.proofs.PoolEntries.{kept_chain, gathered_same}

pub beside_kept : (p q : PoolState) (es : List Entry) (c : ℕ) → IsBounded es → Keeps p es → IsBeside p q es c → AreKept p q es c
beside_kept p q es c bounded keeps beside = record {
  keeps = record {
    lengths = λ i lt. ap length (octets i lt) ∙ keeps.lengths i lt;
    distinct = keeps.distinct;
    room = beside.room;
  };
  same = gathered_same p q es octets;
  others = λ d ne other. let stays = beside.others d other.0 ne in ((stays.there, other.1), stays.octets);
}
  where
    octets : (i : ℕ) → i < length es → chain_octets q (entry_at es i).chain ≡ chain_octets p (entry_at es i).chain
    octets i lt = (beside.others (entry_at es i).chain (kept_chain p es i keeps bounded.some lt) (beside.own i lt)).octets

pub new_other : (p : PoolState) (es : List Entry) (c : ℕ) → IsBounded es → Keeps p es → (IsChain p c → ⊥) → (i : ℕ) → i < length es → (entry_at es i).chain ≡ c
    → ⊥
new_other p es c bounded keeps new i lt same = new (subst (IsChain p) same (kept_chain p es i keeps bounded.some lt))
