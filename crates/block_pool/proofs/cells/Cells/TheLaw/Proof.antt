-- What a `&` to the cells holds: the bound on their size, and a `&` to each value that lies there.
use mathlib.Core.Bool.{Bool, true, false}
use mathlib.Core.List.{List, [], ◌∷◌, ◌++◌}
use Prim.Native.Nat.{◌*◌, ◌^◌}
use seplogic.Ra.Ura.{Ura}
use base.Fml.{Lft, ftrue, flt, Incl-trans}
use contract.BorrowLft.{meet_⊑_left}
use types.Logic.{Logic}
use denote.Param.Laws.{Laws}
use denote.Param.Shared.{copy_shared}
use denote.RattleType.{RattleType, RowLaws}
use denote.RawPtr.{Ptr, block_ptr, null_ptr, in_block, ◌+ₚ◌}
use denote.Shares.{Shares, Shares-less}
use denote.Sharing.{ShrLaws, said}
use denote.SharingLaws.{nothing_shr_laws, said_shr_laws, beside_shr_laws}
use denote.Struct.Field.{RawPtr-field, usize-field}
use denote.Struct.Laws.{RawPtr-copy, usize-copy}
use denote.Struct.Lending.{Lends, Lends-both, Lends-false, Lends-lies, Lends-nothing, Lends-said, lent_at_shr_laws, of_Lends}
use Rattle.core.specs.Mem.Slots.Ownership.{bytes_of, slot, slot_lent, slots, slots_lent}
use Rattle.block_pool.specs.contracts.cells.Cells as cells
use Rattle.block_pool.proofs.cells.Cells.TheLaw.Statement.{statement}

-- each place that is lent can be copied and used for less long
copied : (R : RattleType) → RowLaws R → (p : Ptr) (xs : List R.Denot) (fs : List Bool) → ShrLaws (slots_lent R p xs fs)
copied R L p [] fs = nothing_shr_laws
copied R L p (x ∷ xs) [] = nothing_shr_laws
copied R L p (x ∷ xs) (true ∷ fs) =
    beside_shr_laws (slot_lent R true p x) (slots_lent R (p +ₚ bytes_of R) xs fs) (lent_at_shr_laws R L p x) (copied R L (p +ₚ bytes_of R) xs fs)
copied R L p (x ∷ xs) (false ∷ fs) =
    beside_shr_laws (slot_lent R false p x) (slots_lent R (p +ₚ bytes_of R) xs fs) nothing_shr_laws (copied R L (p +ₚ bytes_of R) xs fs)

module _ {M : Type 1} {𝓤 : Ura M} (𝓛 : Logic 𝓤) (R : RattleType) (l : Lft) (share : Shares 𝓛 R l) where
  -- the row is lent place by place
  lent_row : (p : Ptr) (xs : List R.Denot) (fs : List Bool) → Lends 𝓛 (slots R p xs fs) (slots_lent R p xs fs) l
  lent_row p [] fs = Lends-nothing 𝓛 ftrue l
  lent_row p (x ∷ xs) [] = Lends-nothing 𝓛 ftrue l
  lent_row p (x ∷ xs) (true ∷ fs) =
      let next : Ptr = p +ₚ bytes_of R in
      Lends-both 𝓛 (slot R true p x) (slots R next xs fs) (slot_lent R true p x) (slots_lent R next xs fs) l (Lends-lies 𝓛 R l p x (share x))
      (lent_row next xs fs)
  lent_row p (x ∷ xs) (false ∷ fs) =
      let next : Ptr = p +ₚ bytes_of R in
      Lends-both 𝓛 (slot R false p x) (slots R next xs fs) (slot_lent R false p x) (slots_lent R next xs fs) l (Lends-nothing 𝓛 (slot R false p x) l)
      (lent_row next xs fs)

  lent_block : (p : Ptr) (xs : List R.Denot) (fs : List Bool) → Lends 𝓛 (in_block p (slots R p xs fs)) (slots_lent R p xs fs) l
  lent_block (block_ptr b o) xs fs = lent_row (block_ptr b o) xs fs
  lent_block null_ptr xs fs = Lends-false 𝓛 (slots_lent R null_ptr xs fs) l

pub shares : (R : RattleType) (L : Laws R) → statement R L
shares R L = of_Lends (cells.struct R) (cells.the_codes R.Denot R.coded) (cells.the_heap R) (cells.the_lent R)
    (λ c p. let small = flt (c.count * bytes_of R) (2 ^ 63) in
    beside_shr_laws (said small) (slots_lent R c.base c.items c.filled) (said_shr_laws small tt) (copied R L.shr_laws c.base c.items c.filled))
    (copy_shared RawPtr-field RawPtr-copy, (copy_shared usize-field usize-copy, tt))
    (λ M 𝓤 𝓛 c p.
    let l = (cells.the_row R).lives in
    let small = flt (c.count * bytes_of R) (2 ^ 63) in
    let share = Shares-less 𝓛 R R.lives l (Incl-trans (meet_⊑_left (R.lives ++ []) _) (meet_⊑_left R.lives [])) (L.shares 𝓛) in
    Lends-both 𝓛 small (in_block c.base (slots R c.base c.items c.filled)) (said small) (slots_lent R c.base c.items c.filled) l (Lends-said 𝓛 small tt l)
    (lent_block 𝓛 R l share c.base c.items c.filled))
