-- What a `Deed` owns, taken apart and made.
use mathlib.Core.Path.{◌≡◌, refl, ◌∙◌}
use mathlib.Core.List.{List, [], ◌∷◌, ◌++◌}
use Prim.Native.Nat.{ℕ, ◌<◌, ◌^◌}
use seplogic.Ra.Ura.{Ura}
use mir.Syntax.{w64}
use mir.Val.{Val, vint, vptr, vstruct, vcons, vnil, of_list}
use types.Kit.{Goal, Step, step, Seq, Item, ‵, ◌$◌, drop, fsplit, fjoin, fpick, feq_l}
use types.Logic.{Logic}
use denote.RattleType.{RattleType}
use denote.RawPtr.{Ptr, block_ptr, ptr_val}
use denote.Shadow.{pure_i}
use denote.Struct.Owning.{shape}
use denote.Struct.Struct.{Struct}
use Rattle.core.proofs.alloc.Calls.{Al, token}
use Rattle.core.proofs.mem.Param.{El, R}
use Rattle.core.proofs.slots.Leases.{block_ty, P}
use Rattle.block_pool.specs.contracts.cells.Deed as deed

-- the deed, as the machine has it
abbrev pub deed_words : Ptr → ℕ → Val
deed_words p n = vstruct (vcons (ptr_val p) (vcons (vint w64 n) (vcons (vstruct vnil) vnil)))

module _ (E : El) (Z : Al) where
  abbrev pub DeedOf : RattleType
  DeedOf = deed.the_row (R E) (P E Z) Z.g

  abbrev pub deed_of : Z.row.Denot → ℕ → ℕ → ℕ → DeedOf.Denot
  deed_of a b o n = record { base = block_ptr b o; count = n; by = record {}; alloc = a }

module _ (E : El) (Z : Al) {M : Type 1} {𝓤 : Ura M} {𝓛 : Logic 𝓤} {K : Type 0} {Γ : List (Item 𝓤)} {G : Goal 𝓤 𝓛.H} where
  pub deed_had : K → (d : (DeedOf E Z).Denot) (vs : List Val)
      → (vs ≡ deed_words d.base d.count ∷ [] → Seq K 𝓛 (‵ (token Z d.alloc (block_ty E d.count) d.base) ∷ Γ) G) → Seq K 𝓛 (‵ ((DeedOf E Z).own_val d vs) ∷ Γ) G
  deed_had t d vs k =
      fsplit t $ fpick t (λ vss. fsplit t $ feq_l t (λ all. fsplit t
      $ feq_l t (λ e₀. fsplit t $ fsplit t $ feq_l t (λ e₁. drop t $ fsplit t $ fpick t (λ none. fsplit t $ feq_l t (λ e₂. drop t $ drop t $
      k (all ∙ (λ i. vstruct (of_list (e₀ i ++ (e₁ i ++ (e₂ i ++ [])))) ∷ []))))))))

  pub deed_made : K → (a : Z.row.Denot) (b o n : ℕ) → n < 2 ^ 64
      → Step K 𝓛 (‵ ((DeedOf E Z).own_val (deed_of E Z a b o n) (deed_words (block_ptr b o) n ∷ [])) ∷ Γ) G (‵ (token Z a (block_ty E n) (block_ptr b o)) ∷ Γ) G
  deed_made t a b o n word = step (λ s.
      pure_i t ((Struct (shape (deed.the_type (R E) (P E Z) Z.g))).own_val (block_ptr b o, (n, (tt, tt))) (deed_words (block_ptr b o) n ∷ []))
      (λ vss. (tt, (tt, ((tt, tt), ((λ uss. (tt, tt)), tt)))))
      ((vptr b o ∷ [], (vint w64 n ∷ [], (vstruct vnil ∷ [], tt))), (refl, (refl, ((refl, word), ((tt, (refl, tt)), tt))))) $ fjoin t $ s)
