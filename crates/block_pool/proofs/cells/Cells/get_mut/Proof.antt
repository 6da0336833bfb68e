-- `get_mut` lends the value that lies at the pointer, and the cells follow it.
use mathlib.Core.Path.{◌≡◌, refl, sym, ap, ◌∙◌}
use mathlib.Core.Bool.{true, false}
use mathlib.Core.List.{List, [], ◌∷◌, ◌++◌}
use native.Mathlib.Omega.{arith}
use Prim.Native.Nat.{ℕ, ◌+◌, ◌*◌, ◌<◌, ◌^◌}
use lib.ListN.{length, get_or}
use seplogic.Ra.Ura.{Ura}
use base.Fml.{GName, Fml, ftrue, fsep, flft}
use base.Fraction.{full_share}
use base.Logic.{ent, sep}
use contract.BorrowLft.{◌⊑◌}
use contract.Monad.{fact}
use contract.Running.{tables}
use mir.MapTy.{inst_fn}
use mir.Syntax.{named}
use mir.Val.{Val, vptr, vstruct, vcons, vnil}
use prog.Wp.{WpFn}
use types.ByLocal.{alloc_all, pass_all, free_all, look_at, get, get_in, through, sets, sets_last, env}
use types.Kit.{‵, raw, ◌⊛◌, some, later, at_ret, ◌$◌, ◌∵◌, !, qed, move, keep, use1, use2, drop, split, split3, join, pick, rewrite, fsplit, fsplit3, fjoin}
use types.Kit.{fpack, feq_l, suffices, frame, await, group, done, prop, regoal}
use types.Logic.{Logic, sem}
use types.Part.{whole, sub}
use types.Run.{stop, fld, addr, of_opd, first, blocks, exec, returns, enter}
use denote.Exit.{no}
use denote.Follow.{follows, lends_Part}
use denote.Memory.{cell_at, part_at, part_of, mem}
use denote.RattleType.{owns, RattleType}
use denote.RawPtr.{Ptr, block_ptr, ptr_val, block_of, count_of}
use denote.Ref.{MutRef}
use denote.Signature.{plain, types_at}
use denote.Steps.{heard, nothing}
use denote.Triple.Walked.{says, Stays, stay_dropped, walk_of, ends_at, Goes-dropped, Goes-spent_ref}
use Rattle.core.proofs.mem.Param.{El, R, args, el_x}
use Rattle.core.proofs.slice.Lists.{hd, any-default}
use Rattle.core.proofs.slots.Bodies.{after}
use Rattle.core.proofs.slots.Places.{sz, besides, item_out, item_in}
use Rattle.block_pool.proofs.OpenedCells.{CellsOf, PlaceOf, words, row_at, place_had, cells_made, cells_open}
use Rattle.block_pool.specs.Cells.{place_of, index_of, LiesIn, with_item}
use Rattle.block_pool.specs.declared.cells.Cells.{Cells}
use Rattle.block_pool.specs.contracts.cells.Cells.get_mut as F
use Rattle.block_pool.specs.contracts.cells.Cells.get_mut.Key.{name as key}
use Rattle.block_pool.proofs.cells.Cells.get_mut.Statement as stated
use Rattle.block_pool.proofs.cells.Cells.get_mut.Code as code
use Rattle.std.proofs.raw_atomic.Walks.{proved_at}

module _ (E : El) {M : Type 1} {𝓤 : Ura M} (𝓛 : Logic 𝓤) (rb ro : ℕ) (c : Cells (el_x E)) (p : Ptr) (i b o : ℕ) where
  -- all of the cells but the value at the index
  abbrev Rest : Fml
  Rest = fsep (besides E b o c.items c.filled i) (cell_at full_share (CellsOf E).mir (words (block_ptr b o) c.count ∷ []) rb ro)

  back : c.base ≡ block_ptr b o → p ≡ block_ptr b (i * sz E + o) → c.count * sz E < 2 ^ 63 → i < length c.items → i < length c.filled
      → get_or c.filled i false ≡ true → (w : el_x E)
      → ent 𝓤 (sep 𝓤 (sem 𝓛 ((mem (R E)).own_at w (block_of p) (count_of p))) (sem 𝓛 Rest)) (sem 𝓛 ((mem (CellsOf E)).own_at (with_item c i w) rb ro))
  unfolding part_of
  back at_b at_p fits ix fx full w =
      let ws : List Val = words (block_ptr b o) c.count ∷ [] in
      qed 𝓛 (‵ (part_at (R E) full_share w (block_of p) (count_of p)) ∷ ‵ Rest ∷ []) ∵
      rewrite ! 0 (λ (r : Ptr). ‵ (part_at (R E) full_share w (block_of r) (count_of r))) at_p refl $ move ! (1 ∷ []) $ fsplit ! $ move ! (2 ∷ 0 ∷ []) $
      use2 𝓛 (‵ (row_at E (with_item c i w) b o)) (item_in E 𝓛 b o c.items c.filled i ix fx w full) $ cells_made E ! (with_item c i w) b o at_b c.small fits
      $ move ! (1 ∷ 0 ∷ []) $ fjoin ! $
      fpack ! (List Val) (λ us. fsep (cell_at full_share (CellsOf E).mir us rb ro) ((CellsOf E).own_val (with_item c i w) us)) ws $ done !

abbrev stayed : (X : RattleType) → Stays (F.ended X).signature.params (F.ended X).kept
stayed X = (stay_dropped _ no, (stay_dropped _ no, tt))

pub get_mut_spec : {M : Type 1} → stated.statement M
get_mut_spec 𝓤 𝓛 𝓜 𝓡 wired X L =
    let E : El = record { row = X; laws = L } in let follow = inst_fn (args E) code.function in
    let held = F.clauses X 𝓛 𝓜.mem 𝓡.returns in let W = walk_of 𝓛 (F.ended X) (stayed X) held in let 𝓣 = tables 𝓤 𝓛.H 𝓜 𝓡 𝓡.env in
    proved_at 𝓛 (F.ended X) (stayed X) held 𝓜 𝓡
    (Goes-spent_ref 𝓛 2 (0 ∷ []) tt (plain (λ _. CellsOf E)), (Goes-dropped 𝓛 2 (plain (λ _. PlaceOf E)) no (λ κs x w. refl), tt))
    (key (args E)) follow (code.unfolded 𝓤 𝓛.H 𝓜 𝓡 wired (X, tt))
    (λ y are.
    let κ = y.0.0.0 in let q = y.0.1.0 in let κ₁ = y.0.0.1.0 in let q₁ = y.0.1.1.0 in
    let γ : GName = y.0.3.0.ghost_name in let rb : ℕ = y.0.3.0.ref_ptr.0 in let ro : ℕ = y.0.3.0.ref_ptr.1 in let c : Cells X.Denot = y.0.3.0.now in
    let p : Ptr = y.0.3.1.0.ptr in let pb : ℕ = block_of p in let po : ℕ = count_of p in
    let i : ℕ = index_of X c.base p in let Lies : Type 0 = LiesIn X c p in
    qed 𝓛 (((‵ (flft κ q) ⊛ ‵ (flft κ₁ q₁) ⊛ ‵ ftrue) ⊛ ‵ (owns (types_at (F.ended X).signature.params y.0.0) y.0.3 y.0.4))
    ∷ (raw (fact 𝓤 (κ₁ ⊑ X.lives)) ⊛ raw (fact 𝓤 Lies)) ∷ []) ∵
    move ! (1 ∷ []) $ split ! $ drop ! $ heard ! Lies (λ lies.
    let ix : i < length c.items = omega (arith, lies.1, c.ok.0) in let fx : i < length c.filled = omega (arith, lies.1, c.ok.1) in
    let d : X.Denot = hd c.items (omega arith) in let x : X.Denot = get_or c.items i d in
    split ! $ split ! $ move ! (2 ∷ [])
    $ fsplit ! $ fsplit3 ! $ feq_l ! (λ is_ref. move ! (2 ∷ []) $ fsplit ! $ place_had E ! y.0.3.1.0 y.0.4.1.0 (λ is_place. drop ! $
    -- the pointer is no null, so the code can be walked before the borrow is opened
    let place : y.0.4.1.0 ≡ vstruct (vcons (vptr pb po) vnil) ∷ [] = is_place ∙ ap (λ (r : Ptr). vstruct (vcons (ptr_val r) vnil) ∷ []) lies.3 in
    regoal ! (λ (us : List Val). prop (WpFn 𝓤 𝓛.H 𝓣.C 𝓣.Λ follow us (W.post y))) (λ k. is_ref k ++ (place k ++ [])) refl $
    enter ! _ _ _ _ _ $ alloc_all ! (λ l. pass_all ! refl ((tt, tt), ((tt, (tt, tt)), tt)) $
    sets ! (of_opd ! (get_in ! (fld ! refl (stop !)) (sub ! 0 refl (whole !)))) refl (tt, tt) $
    first ! $ blocks ! $ sets_last ! (addr ! (through ! refl (stop !))) refl (tt, tt) $
    exec ! 𝓣.C 𝓣.Λ (env follow.locals l) (after 2 follow.body) (at_ret _ (W.post y)) $ sets ! (of_opd ! (get ! refl)) refl (tt, tt) $
    cells_open E ! tt c rb ro (λ b o at_b word fits.
    let at_p : p ≡ block_ptr b (i * sz E + o) = lies.0 ∙ ap (λ (r : Ptr). place_of X r i) at_b in
    use1 𝓛 (‵ (part_at (R E) full_share x b (i * sz E + o)) ⊛ ‵ (besides E b o c.items c.filled i)) (item_out E 𝓛 b o c.items c.filled i ix fx d lies.2)
    $ split ! $
    rewrite ! 0 (λ (r : Ptr). ‵ (part_at (R E) full_share x (block_of r) (count_of r))) (sym at_p) refl $
    -- [the value; the other places; the two words; the open borrow; the halves of its ghost value; the other tokens; the locals]
    move ! (1 ∷ 2 ∷ []) $ fjoin ! $ move ! (2 ∷ 3 ∷ 4 ∷ 1 ∷ 0 ∷ []) $ group ! 5 $
    use1 𝓛 (later (some (λ (γ' : GName). ‵ ((MutRef (named 0) κ (R E)).own_val (record { ref_ptr = (pb, po); ghost_name = γ'; now = x }) (vptr pb po ∷ []))
    ⊛ ‵ (flft κ q) ⊛ ‵ (follows (CellsOf E) (R E) γ γ' (with_item c i)))))
    (lends_Part 𝓛 (CellsOf E) (R E) (with_item c i) (named 0) κ q rb ro pb po γ (sem 𝓛 (Rest E 𝓛 rb ro c p i b o))
    (back E 𝓛 rb ro c p i b o at_b at_p fits ix fx lies.2) ((CellsOf E).coded.code c) ((CellsOf E).coded.code c) x) $
    await ! tt $ pick ! (λ γ'. split3 ! $ returns ! (look_at ! 0 refl) $ free_all ! refl $
    suffices ! _ (ends_at 𝓛 (F.ended X) (stayed X) held y (vptr pb po) (record { ref_ptr = (pb, po); ghost_name = γ'; now = x }) (tt, (tt, tt)) (tt, (tt, tt)))
    $
    nothing ! $ nothing ! $ fjoin ! $ nothing ! $ fjoin ! $ join ! $ move ! (1 ∷ 3 ∷ []) $ join ! $ join ! $ frame ! $ says ! (any-default c.items i d x ix)
    $ keep ! (0 ∷ []) $ done !)))))))
