-- What `Cells` and a `Place` own, taken apart and made, and how a `&` and a `&mut` to cells are opened. Each is a step of a walk.
use mathlib.Core.Path.{◌≡◌, refl, sym, ap, ◌∙◌}
use mathlib.Core.List.{List, [], ◌∷◌, ◌++◌}
use Prim.Native.Nat.{ℕ, ◌+◌, ◌*◌, ◌<◌, ◌^◌}
use seplogic.Ra.Ura.{Ura}
use base.Fml.{Lft, GName, Share, Fml, fsep, flt, flft, fobs, fauth, fbor, fobor, fhide}
use base.Fraction.{full_share}
use base.Logic.{id⊢, ent, never, sep}
use base.Stored.{Gv}
use mir.Syntax.{w64}
use mir.Val.{Val, vint, vptr, vstruct, vcons, vnil, of_list}
use types.Kit.{Goal, Soaks, Step, step, Seq, Item, ‵, ◌⊛◌, ◌$◌, ◌∵◌, !, qed, move, keep, drop, use1, split, rewrite, fsplit, fjoin, fpick, fpack, feq_l, feq_i}
use types.Kit.{flt_l, flt_i, done}
use types.Logic.{Logic, sem}
use types.SemTy.{Body}
use denote.Builtin.{usize}
use denote.Memory.{cell_at, hidden_shr, mem}
use denote.Opens.{unhide}
use denote.RattleType.{RattleType, Valss}
use denote.RawPtr.{Ptr, RawPtr, block_ptr, ptr_val, in_block, in_a_block}
use denote.Steps.{opens, closes, nothing}
use denote.Struct.Declared as Declared
use denote.Struct.Lending.{lent_out}
use denote.Struct.Owning.{Owning, shape}
use denote.Struct.Struct.{Struct, within}
use Rattle.core.proofs.mem.Param.{El, R, el_x}
use Rattle.core.proofs.slots.Places.{sz}
use Rattle.core.specs.Mem.Slots.Ownership.{slots, slots_lent}
use Rattle.block_pool.specs.declared.cells.Cells.{Cells}
use Rattle.block_pool.specs.declared.cells.Place.{Place}
use Rattle.block_pool.specs.contracts.cells.Cells as cells
use Rattle.block_pool.specs.contracts.cells.Place as place

-- the two words of the cells, as the machine has them
abbrev pub words : Ptr → ℕ → Val
words p n = vstruct (vcons (ptr_val p) (vcons (vint w64 n) vnil))

module _ (E : El) where
  abbrev pub CellsOf : RattleType
  CellsOf = cells.the_row (R E)

  abbrev pub PlaceOf : RattleType
  PlaceOf = place.the_row (R E)

  abbrev pub type_of : Owning
  type_of = cells.the_type (R E)

  abbrev pub WordsOf : RattleType
  WordsOf = Struct (shape type_of)

  abbrev pub row_at : Cells (el_x E) → ℕ → ℕ → Fml
  row_at c b o = slots (R E) (block_ptr b o) c.items c.filled

module _ (E : El) {M : Type 1} {𝓤 : Ura M} {𝓛 : Logic 𝓤} {K : Type 0} {Γ : List (Item 𝓤)} {G : Goal 𝓤 𝓛.H} where
  -- a place is its pointer
  pub place_had : K → (p : Place (el_x E)) (vs : List Val) → (vs ≡ vstruct (vcons (ptr_val p.ptr) vnil) ∷ [] → Seq K 𝓛 Γ G)
      → Seq K 𝓛 (‵ ((PlaceOf E).own_val p vs) ∷ Γ) G
  place_had t p vs k =
      fpick t (λ vss. fsplit t $ feq_l t (λ all. fsplit t $ feq_l t (λ e. drop t $ k (all ∙ (λ i. vstruct (of_list (e i ++ [])) ∷ [])))))

  pub place_made : K → (b o : ℕ) → Step K 𝓛 (‵ ((PlaceOf E).own_val (record { ptr = block_ptr b o }) (vstruct (vcons (vptr b o) vnil) ∷ [])) ∷ Γ) G Γ G
  place_made t b o = step (λ s.
      let w : List Val = vstruct (vcons (vptr b o) vnil) ∷ [] in
      nothing t $ feq_i t (List Val) (vptr b o ∷ []) (vptr b o ∷ []) refl $ fjoin t $ feq_i t (List Val) w w refl $ fjoin t $
      fpack t (Valss (RawPtr ∷ [])) (within (Declared.shape (place.the_type (R E))) (block_ptr b o, tt) w) (vptr b o ∷ [], tt) $ s)

  pub cells_had : K → (c : Cells (el_x E)) (vs : List Val)
      → ((b o : ℕ) → c.base ≡ block_ptr b o → vs ≡ words (block_ptr b o) c.count ∷ [] → c.count < 2 ^ 64 → c.count * sz E < 2 ^ 63
      → Seq K 𝓛 (‵ (row_at E c b o) ∷ Γ) G)
      → Seq K 𝓛 (‵ ((CellsOf E).own_val c vs) ∷ Γ) G
  cells_had t c vs k =
      fsplit t $ fpick t (λ vss. fsplit t
      $ feq_l t (λ all. fsplit t $ feq_l t (λ e₀. fsplit t $ fsplit t $ feq_l t (λ e₁. flt_l t (λ word. drop t $ fsplit t $ flt_l t (λ fits.
      in_a_block t c.base (λ p. in_block p (slots (R E) p c.items c.filled)) (id⊢ 𝓤 (never 𝓤)) (λ b o e.
      k b o e (all ∙ ((λ i. vstruct (of_list (e₀ i ++ (e₁ i ++ []))) ∷ []) ∙ ap (λ (p : Ptr). words p c.count ∷ []) e)) word fits)))))))

  pub cells_made : K → (c : Cells (el_x E)) (b o : ℕ) → c.base ≡ block_ptr b o → c.count < 2 ^ 64 → c.count * sz E < 2 ^ 63
      → Step K 𝓛 (‵ ((CellsOf E).own_val c (words (block_ptr b o) c.count ∷ [])) ∷ Γ) G (‵ (row_at E c b o) ∷ Γ) G
  cells_made t c b o at word fits = step (λ s.
      let w : List Val = words (block_ptr b o) c.count ∷ [] in
      flt_i t (c.count * sz E) (2 ^ 63) fits $ fjoin t $
      nothing t $ flt_i t c.count (2 ^ 64) word $ feq_i t (List Val) (vint w64 c.count ∷ []) (vint w64 c.count ∷ []) refl $ fjoin t $ fjoin t $
      feq_i t (List Val) (vptr b o ∷ []) (vptr b o ∷ []) refl $ fjoin t $ feq_i t (List Val) w w refl $ fjoin t $
      fpack t (Valss (shape (type_of E)).fields) (within (shape (type_of E)) (block_ptr b o, (c.count, tt)) w) (vptr b o ∷ [], (vint w64 c.count ∷ [], tt))
      $ fjoin t $
      rewrite t 0 (λ (p : Ptr). ‵ (fsep ((WordsOf E).own_val (p, (c.count, tt)) w)
      (fsep (flt (c.count * sz E) (2 ^ 63)) (in_block p (slots (R E) p c.items c.filled))))) (sym at) refl $ s)

module _ (E : El) {M : Type 1} {𝓤 : Ura M} {𝓛 : Logic 𝓤} {K : Type 0} {Γ : List (Item 𝓤)} {G : Goal 𝓤 𝓛.H} where
  -- a `&mut` is opened: [the row; the two words; the open borrow; its two halves of the ghost value]
  pub cells_open : K → Soaks G → {κ : Lft} {q : Share} {γ : GName} (c : Cells (el_x E)) (rb ro : ℕ)
      → ((b o : ℕ) → c.base ≡ block_ptr b o → c.count < 2 ^ 64 → c.count * sz E < 2 ^ 63
      → Seq K 𝓛 (‵ (row_at E c b o) ∷ ‵ (cell_at full_share (CellsOf E).mir (words (block_ptr b o) c.count ∷ []) rb ro)
      ∷ ‵ (fobor κ q (Body (mem (CellsOf E)) rb ro γ)) ∷ ‵ (fobs γ ((CellsOf E).coded.code c)) ∷ ‵ (fauth γ ((CellsOf E).coded.code c)) ∷ Γ) G)
      → Seq K 𝓛 (‵ (fobs γ ((CellsOf E).coded.code c)) ∷ ‵ (fbor κ (Body (mem (CellsOf E)) rb ro γ)) ∷ ‵ (flft κ q) ∷ Γ) G
  cells_open t z c rb ro k =
      opens t z (CellsOf E) {h = c} rb ro (λ vs. move t (1 ∷ []) $ cells_had E t c vs (λ b o e is word fits.
      rewrite t 1 (λ (ws : List Val). ‵ (cell_at full_share (CellsOf E).mir ws rb ro)) is refl $ k b o e word fits))

  pub cells_close : K → Soaks G → {κ : Lft} {q : Share} {u v : Gv} {γ : GName} (c : Cells (el_x E)) (b o rb ro : ℕ) → c.base ≡ block_ptr b o → c.count < 2 ^ 64
      → c.count * sz E < 2 ^ 63
      → Step K 𝓛 (‵ (fobs γ ((CellsOf E).coded.code c)) ∷ ‵ (fbor κ (Body (mem (CellsOf E)) rb ro γ)) ∷ ‵ (flft κ q) ∷ Γ) G
      (‵ (row_at E c b o) ∷ ‵ (cell_at full_share (CellsOf E).mir (words (block_ptr b o) c.count ∷ []) rb ro) ∷ ‵ (fobor κ q (Body (mem (CellsOf E)) rb ro γ))
      ∷ ‵ (fobs γ u) ∷ ‵ (fauth γ v) ∷ Γ) G
  cells_close t z c b o rb ro at word fits =
      step (λ s. cells_made E t c b o at word fits $ move t (1 ∷ 0 ∷ []) $ closes t z (CellsOf E) c (words (block_ptr b o) c.count ∷ []) rb ro $ s)

-- what a `&` shows: the two words, the bound on the size, and a `&` to each value that lies there
pub cells_shown : (E : El) {M : Type 1} {𝓤 : Ura M} (𝓛 : Logic 𝓤) (κ : Lft) (c : Cells (el_x E)) (b o : ℕ)
    → ent 𝓤 (sem 𝓛 (hidden_shr (CellsOf E) κ c b o)) (sep 𝓤 (sem 𝓛 (hidden_shr RawPtr κ c.base b (o + 0))) (sep 𝓤 (sem 𝓛 (hidden_shr usize κ c.count b (o + 8)))
    (sep 𝓤 (sem 𝓛 (flt (c.count * sz E) (2 ^ 63))) (sem 𝓛 (slots_lent (R E) c.base c.items c.filled κ)))))
cells_shown E 𝓛 κ c b o = qed 𝓛 (‵ (hidden_shr (CellsOf E) κ c b o) ∷ []) ∵
    use1 𝓛 (‵ (hidden_shr (WordsOf E) κ (c.base, (c.count, tt)) b o) ⊛ ‵ (fhide (cells.the_lent (R E) c c.base κ)))
    (lent_out 𝓛 (cells.struct (R E)) (cells.the_codes (el_x E) (R E).coded) (cells.the_heap (R E)) (cells.the_lent (R E)) κ c b o) $ split ! $
    unhide ! $ fsplit ! $ fsplit ! $ move ! (1 ∷ []) $ fsplit ! $ keep ! (2 ∷ 0 ∷ 4 ∷ []) $ done !
