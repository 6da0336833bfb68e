-- Cells in a row, by index and by pointer.
use Rattle.std.specs.Prelude.{◌≡◌, ℕ, ◌+◌, ◌-◌, ◌*◌, ◌/◌, ◌<◌, true, false, get_or, slice_set}
use mathlib.Core.Path.{sym, ◌∙◌}
use lib.ListN.{length-set}
use base.Fml.{Fml}
use denote.RattleType.{RattleType}
use denote.Ref.{MutBor}
use denote.Follow.{follows}
use denote.RawPtr.{Ptr, block_ptr, null_ptr, block_of, count_of}
use Rattle.core.specs.Mem.Slots.Ownership.{bytes_of}
use Rattle.block_pool.specs.declared.cells.Cells.{Cells}
use Rattle.block_pool.specs.contracts.cells.Cells.{the_row}

-- the pointer is not null
abbrev pub IsSome : Ptr → Type 0
IsSome p = p ≡ block_ptr (block_of p) (count_of p)

module _ (R : RattleType) where
  -- the i-th place from p on
  abbrev pub place_of : Ptr → ℕ → Ptr
  place_of (block_ptr b o) i = block_ptr b (i * bytes_of R + o)
  place_of null_ptr i = null_ptr

  -- the index of the place p
  abbrev pub index_of : Ptr → Ptr → ℕ
  index_of base p = (count_of p - count_of base) / bytes_of R

  -- a value lies at p
  abbrev pub LiesIn : Cells R.Denot → Ptr → Type 0
  LiesIn c p = (p ≡ place_of c.base (index_of c.base p)) × (index_of c.base p < c.count) × (get_or c.filled (index_of c.base p) false ≡ true) × IsSome p

module _ {X : Type 0} where
  -- the cells with w for the value at the index
  abbrev pub with_item : Cells X → ℕ → X → Cells X
  with_item c i w = record {
    base = c.base;
    count = c.count;
    items = slice_set c.items i w;
    filled = c.filled;
    ok = (c.ok.0 ∙ sym (length-set c.items i w), c.ok.1);
    small = c.small;
  }

-- r is `c.get_mut(at)`: when the borrow ends, the value at that place is what was written through r
abbrev pub follows_at : (R : RattleType) → MutBor (Cells R.Denot) → Ptr → MutBor R.Denot → Fml
follows_at R c p r = follows (the_row R) R c.ghost_name r.ghost_name (with_item c.now (index_of R c.now.base p))
