-- What a write to one block does to the region. Only this file, `specs/Region.antt` and the answers of `Blocks` know what a place is.
use Rattle.std.proofs.Common.{◌≡◌, ℕ, ◌+◌, ◌<◌, ◌≤◌, ◌⊎◌, inl, inr, Bool, true, false, List, length, replicate, get_or, set, nat_eq, get_or-set_same}
use Rattle.std.proofs.Common.{get_or-set_other, refl, sym, ap, subst, ◌∙◌, arith}
use denote.RawPtr.{Ptr, block_of, count_of}
use Rattle.core.specs.Mem.Slots.Ownership.{bytes_of}
use Rattle.core.proofs.slice.Lists.{any-default}
use Rattle.std.proofs.lemmas.Bool.{cases_eq}
use Rattle.std.proofs.lemmas.List.{get_or-replicate}
use Rattle.block_pool.specs.Cells.{IsSome, place_of, index_of, LiesIn, with_item}
use Rattle.block_pool.specs.Region.{Spot, no_block, block_in, IsSpot, next_of, octet_of, IsFresh, IsBare, Adds, SameLinks, Links, WritesPart, Clears}
use Rattle.block_pool.specs.declared.cells.Cells.{Cells}
use Rattle.block_pool.specs.declared.region.Block.{Block}
use Rattle.block_pool.specs.declared.region.Blocks.{Blocks}
use Rattle.block_pool.specs.contracts.region.Block.{the_row as block_row}

-- the index of the block at x
abbrev pub index_in : Cells Block → Spot → ℕ
index_in c x = index_of block_row c.base x

-- c with the block b at x
abbrev pub with_block : Cells Block → Spot → Block → Cells Block
with_block c x b = with_item c (index_in c x) b

size_is : bytes_of block_row ≡ 72
size_is = refl

-- what `get` and `get_mut` of the cells answer is the block at x
pub block_is : (c : Cells Block) (x : Spot) (b : Block) → LiesIn block_row c x → b ≡ get_or c.items (index_in c x) b → b ≡ block_in c x
block_is c x b is e = e ∙ any-default c.items (index_in c x) b no_block (omega (arith, is.1, c.ok.0))

module _ (c : Cells Block) (x : Spot) (b : Block) (is : LiesIn block_row c x) where
  block_here : block_in (with_block c x b) x ≡ b
  block_here = get_or-set_same c.items (index_in c x) b no_block (omega (arith, is.1, c.ok.0))

  other_index : (y : Spot) → LiesIn block_row c y → (y ≡ x → ⊥) → index_in c y ≡ index_in c x → ⊥
  other_index y isy ne e = ne (isy.0 ∙ ap (place_of block_row c.base) e ∙ sym is.0)

  block_other : (y : Spot) → LiesIn block_row c y → (y ≡ x → ⊥) → block_in (with_block c x b) y ≡ block_in c y
  block_other y isy ne = get_or-set_other c.items (index_in c x) (index_in c y) b no_block (other_index y isy ne)

module _ (old new : Blocks) (x : Spot) (b : Block) (is : IsSpot old x) (e : new.cells ≡ with_block old.cells x b) where
  kept : (y : Spot) → IsSpot old y → IsSpot new y
  unfolding IsSpot
  kept y isy = subst (λ c. LiesIn block_row c y) (sym e) isy

  kept_back : (y : Spot) → IsSpot new y → IsSpot old y
  unfolding IsSpot
  kept_back y isy = subst (λ c. LiesIn block_row c y) e isy

  next_here : next_of new x ≡ b.next
  unfolding IsSpot next_of
  next_here = ap (λ c. (block_in c x).next) e ∙ ap (λ k. k.next) (block_here old.cells x b is)

  octet_here : (j : ℕ) → octet_of new x j ≡ get_or b.octets j 0
  unfolding IsSpot octet_of
  octet_here j = ap (λ c. get_or (block_in c x).octets j 0) e ∙ ap (λ k. get_or k.octets j 0) (block_here old.cells x b is)

  next_other : (y : Spot) → IsSpot old y → (y ≡ x → ⊥) → next_of new y ≡ next_of old y
  unfolding IsSpot next_of
  next_other y isy ne = ap (λ c. (block_in c y).next) e ∙ ap (λ k. k.next) (block_other old.cells x b is y isy ne)

  octet_other : (y : Spot) (j : ℕ) → IsSpot old y → (y ≡ x → ⊥) → octet_of new y j ≡ octet_of old y j
  unfolding IsSpot octet_of
  octet_other y j isy ne = ap (λ c. get_or (block_in c y).octets j 0) e ∙ ap (λ k. get_or k.octets j 0) (block_other old.cells x b is y isy ne)

  -- each place is x or another
  either : (y : Spot) → IsSpot old y → (y ≡ x) ⊎ (y ≡ x → ⊥)
  unfolding IsSpot
  either y isy = elim (cases_eq (index_in old.cells y) (index_in old.cells x)) [
    | inl same ↦ inl (isy.0 ∙ ap (place_of block_row old.cells.base) same ∙ sym is.0)
    | inr ne ↦ inr (λ same. ne (ap (index_in old.cells) same))
  ]

  -- the places that were never used stay so
  fresh_kept : (n : ℕ) → IsFresh old n → IsFresh new n
  unfolding IsFresh
  fresh_kept n f =
      let base = ap (λ c. c.base) e in let count = ap (λ c. c.count) e in
      (omega (arith, f.0, count), λ y isy. let le = f.1 y (kept_back y isy) in omega (arith, le, ap (λ p. index_of block_row p y) base))

  pub same_links_by : b.next ≡ next_of old x → SameLinks old new
  same_links_by same = record {
    fresh = fresh_kept;
    spots = kept;
    back = kept_back;
    next = λ y isy. elim (either y isy) as (λ _. next_of new y ≡ next_of old y) [
      | inl here ↦ ap (next_of new) here ∙ next_here ∙ same ∙ ap (next_of old) (sym here)
      | inr ne ↦ next_other y isy ne
    ];
  }

  pub links_by : ((j : ℕ) → get_or b.octets j 0 ≡ octet_of old x j) → Links old new x b.next
  links_by same = record {
    fresh = fresh_kept;
    spots = kept;
    back = kept_back;
    here = next_here;
    elsewhere = next_other;
    octets = λ y j isy. elim (either y isy) as (λ _. octet_of new y j ≡ octet_of old y j) [
      | inl here ↦ ap (λ z. octet_of new z j) here ∙ octet_here j ∙ same j ∙ ap (λ z. octet_of old z j) (sym here)
      | inr ne ↦ octet_other y j isy ne
    ];
  }

  pub clears_by : b.next ≡ next_of old x → b.octets ≡ replicate 64 0 → Clears old new x
  clears_by same empty = record {
    links = same_links_by same;
    here = λ j lt. octet_here j ∙ ap (λ os. get_or os j 0) empty ∙ get_or-replicate 64 j 0 0 lt;
    elsewhere = λ y j isy ne. octet_other y j isy ne;
  }

  pub writes_by : (offset : ℕ) (piece : List ℕ) → b.next ≡ next_of old x → ((k : ℕ) → k < length piece → get_or b.octets (offset + k) 0 ≡ get_or piece k 0)
      → ((j : ℕ) → (offset ≤ j → j < offset + length piece → ⊥) → get_or b.octets j 0 ≡ octet_of old x j) → WritesPart old new x offset piece
  writes_by offset piece same here other = record {
    links = same_links_by same;
    here = λ k lt. octet_here (offset + k) ∙ here k lt;
    elsewhere = λ y j isy apart. elim (either y isy) as (λ _. octet_of new y j ≡ octet_of old y j) [
      | inl at ↦ ap (λ z. octet_of new z j) at ∙ octet_here j ∙ other j (apart at) ∙ ap (λ z. octet_of old z j) (sym at)
      | inr ne ↦ octet_other y j isy ne
    ];
  }

-- no block lies where nothing was filled
pub bare : (r : Blocks) (n : ℕ) (b : Block) → (r.cells.count ≡ n) × (r.cells.filled ≡ replicate n false) → IsBare r n
unfolding IsSpot IsFresh
bare r n b e =
    let none : (x : Spot) → LiesIn block_row r.cells x → ⊥ = λ x is.
    let k : ℕ = index_in r.cells x in
    let no : get_or r.cells.filled k false ≡ false = ap (λ fs. get_or fs k false) e.1 ∙ get_or-replicate n k false false (omega (arith, e.0, is.1)) in
    cc (sym no ∙ is.2) in
    record { fresh = (omega (arith, e.0), λ x is. absurd (none x is)); none = none }

index_is : (p : Ptr) (i : ℕ) → IsSome p → index_of block_row p (place_of block_row p i) ≡ i
index_is p i e =
    let b : ℕ = block_of p in let o : ℕ = count_of p in
    ap (λ q. index_of block_row q (place_of block_row q i)) e ∙ omega arith

place_is_some : (p : Ptr) (i : ℕ) → IsSome p → IsSome (place_of block_row p i)
place_is_some p i e = subst (λ q. IsSome (place_of block_row q i)) (sym e) refl

same_number : (k : ℕ) → nat_eq k k ≡ true
same_number k = grind arith

no_number : (k i : ℕ) → i + 1 ≤ k → nat_eq k i ≡ false
no_number k i lt = grind arith

-- the last place that was never used is one of the region, and holds a block once it was written
pub within : (r : Blocks) (i : ℕ) → IsFresh r (i + 1) → i < r.cells.count
unfolding IsFresh
within r i f = omega (arith, f.0)

pub filled_at : (c : Cells Block) (fs : List Bool) (i n : ℕ) → i < c.count → fs ≡ set c.filled i true → n ≡ c.count → (i < n) × (get_or fs i false ≡ true)
filled_at c fs i n lt e count = (omega (arith, lt, count), ap (λ l. get_or l i false) e ∙ get_or-set_same c.filled i true false (omega (arith, lt, c.ok.1)))

-- what a write to the last place that was never used adds
module _ (old new : Blocks) (x at : Spot) (i : ℕ) (b : Block) (f : IsFresh old (i + 1)) (items : new.cells.items ≡ set old.cells.items i b)
    (filled : new.cells.filled ≡ set old.cells.filled i true)
    (same : (new.cells.base ≡ old.cells.base) × (new.cells.count ≡ old.cells.count)) (to : b.next ≡ x)
    (lies : (at ≡ place_of block_row new.cells.base i) × IsSome new.cells.base) where
  index_same : (y : Spot) → index_in new.cells y ≡ index_in old.cells y
  index_same y = ap (λ p. index_of block_row p y) same.0

  index_at : index_in new.cells at ≡ i
  index_at = ap (index_of block_row new.cells.base) lies.0 ∙ index_is new.cells.base i lies.1

  room : i < old.cells.count
  unfolding IsFresh
  room = omega (arith, f.0)

  apart_from : (y : Spot) → IsSpot old y → i + 1 ≤ index_in old.cells y
  unfolding IsFresh
  apart_from y is = f.1 y is

  not_same : (y : Spot) → IsSpot old y → index_in old.cells y ≡ i → ⊥
  not_same y is e = let le = apart_from y is in omega (arith, e, le)

  more : (y : Spot) → IsSpot old y → IsSpot new y
  unfolding IsSpot
  more y is = (
    is.0 ∙ ap (λ p. place_of block_row p (index_of block_row p y)) (sym same.0),
    omega (arith, is.1, index_same y, same.1),
    ap (λ fs. get_or fs (index_in new.cells y) false) filled ∙ ap (λ k. get_or (set old.cells.filled i true) k false) (index_same y)
        ∙ get_or-set_other old.cells.filled i (index_in old.cells y) true false (not_same y is) ∙ is.2,
    is.3,
  )

  less : (y : Spot) → IsSpot new y → IsSpot old y ⊎ (y ≡ at)
  unfolding IsSpot
  less y is = elim (cases_eq (index_in old.cells y) i) as (λ _. LiesIn block_row old.cells y ⊎ (y ≡ at)) [
    | inl e ↦ inr (is.0 ∙ ap (place_of block_row new.cells.base) (index_same y ∙ e) ∙ sym lies.0)
    | inr ne ↦ inl (
      is.0 ∙ ap (λ p. place_of block_row p (index_of block_row p y)) same.0,
      omega (arith, is.1, index_same y, same.1),
      sym (ap (λ fs. get_or fs (index_in new.cells y) false) filled ∙ ap (λ k. get_or (set old.cells.filled i true) k false) (index_same y)
          ∙ get_or-set_other old.cells.filled i (index_in old.cells y) true false ne) ∙ is.2,
      is.3,
    )
  ]

  there_now : IsSpot new at
  unfolding IsSpot
  there_now = (
    lies.0 ∙ ap (place_of block_row new.cells.base) (sym index_at),
    omega (arith, index_at, room, same.1),
    ap (λ fs. get_or fs (index_in new.cells at) false) filled ∙ ap (λ k. get_or (set old.cells.filled i true) k false) index_at
        ∙ get_or-set_same old.cells.filled i true false (omega (arith, room, old.cells.ok.1)),
    subst IsSome (sym lies.0) (place_is_some new.cells.base i lies.1),
  )

  block_at : block_in new.cells at ≡ b
  block_at = ap (λ bs. get_or bs (index_in new.cells at) no_block) items ∙ ap (λ k. get_or (set old.cells.items i b) k no_block) index_at
      ∙ get_or-set_same old.cells.items i b no_block (omega (arith, room, old.cells.ok.0))

  block_kept : (y : Spot) → IsSpot old y → block_in new.cells y ≡ block_in old.cells y
  block_kept y is =
      ap (λ bs. get_or bs (index_in new.cells y) no_block) items ∙ ap (λ k. get_or (set old.cells.items i b) k no_block) (index_same y)
      ∙ get_or-set_other old.cells.items i (index_in old.cells y) b no_block (not_same y is)

  fresh_left : IsFresh new i
  unfolding IsFresh
  fresh_left = (
    omega (arith, room, same.1),
    λ y is. elim (less y is) as (λ _. i ≤ index_in new.cells y) [
      | inl was ↦ let le = apart_from y was in omega (arith, le, index_same y)
      | inr e ↦ omega (arith, ap (index_in new.cells) e, index_at)
    ],
  )

  pub adds_by : Adds old new i x at
  unfolding next_of octet_of
  adds_by = record {
    spots = more;
    back = less;
    there = there_now;
    is_it = λ y. nat_eq (index_in new.cells y) i;
    it = ap (λ k. nat_eq k i) index_at ∙ same_number i;
    not_it = λ y is. ap (λ k. nat_eq k i) (index_same y) ∙ no_number (index_in old.cells y) i (apart_from y is);
    here = ap (λ k. k.next) block_at ∙ to;
    next = λ y is. ap (λ k. k.next) (block_kept y is);
    octets = λ y j is. ap (λ k. get_or k.octets j 0) (block_kept y is);
    fresh = fresh_left;
  }
