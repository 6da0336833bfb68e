-- `place` counts from the base, which is read through the `&`.
use mathlib.Core.Path.{◌≡◌, refl, sym, ap, ◌∙◌}
use mathlib.Core.Bool.{true, false}
use mathlib.Core.List.{[], ◌∷◌}
use native.Mathlib.Omega.{arith}
use Prim.Native.Nat.{ℕ, ◌+◌, ◌*◌, ◌<◌, ◌^◌}
use lib.ListN.{length, get_or}
use base.Fml.{ftrue, flt, flft}
use contract.BorrowLft.{◌⊑◌}
use contract.Monad.{fact}
use contract.Running.{tables}
use mir.MapTy.{inst_fn}
use mir.Syntax.{w64, named}
use mir.Val.{Val, vptr, vstruct, vcons, vnil}
use types.ByLocal.{alloc_all, pass_all, free_all, look_at, get, through, sets, sets_last, env}
use types.Kit.{‵, raw, ◌⊛◌, at_ret, ◌$◌, ◌∵◌, !, qed, move, keep, use1, drop, split, split3, join, fsplit, fjoin, flt_l, suffices, done}
use types.Part.{agg}
use types.Run.{look, stop, fld, load, size_lit, of_opd, bin, no_more, and_then, first, blocks, exec, returns, enter}
use denote.Builtin.{usize, RefOf}
use denote.Exit.{yes}
use denote.Memory.{hidden_shr}
use denote.Plain.{uint_vals, uint_Tells}
use denote.RattleType.{owns, RattleType}
use denote.RawPtr.{Ptr, RawPtr, block_ptr, block_of, count_of, in_a_block}
use denote.Ref.{shr_vals, shr_Tells}
use denote.Signature.{plain, types_at}
use denote.Steps.{heard, nothing}
use denote.Triple.Walked.{says, Stays, stay_dropped, walk_of, ends_at, Goes-dropped}
use Rattle.core.proofs.mem.Param.{El, args}
use Rattle.core.proofs.ptr.Rows.{times_below, one_below}
use Rattle.core.proofs.slots.Bodies.{after}
use Rattle.core.proofs.slots.Lent.{none_at_null, pointer_in, pointer_out}
use Rattle.core.proofs.slots.Places.{sz}
use Rattle.core.specs.Mem.Slots.Ownership.{slots_lent}
use Rattle.block_pool.proofs.OpenedCells.{CellsOf, place_made, cells_shown}
use Rattle.block_pool.specs.Cells.{place_of}
use Rattle.block_pool.specs.declared.cells.Cells.{Cells}
use Rattle.block_pool.specs.contracts.cells.Cells.place as F
use Rattle.block_pool.specs.contracts.cells.Cells.place.Key.{name as key}
use Rattle.block_pool.proofs.cells.Cells.place.Statement as stated
use Rattle.block_pool.proofs.cells.Cells.place.Code as code
use Rattle.std.proofs.raw_atomic.Walks.{proved}

abbrev stayed : (X : RattleType) → Stays (F.ended X).signature.params (F.ended X).kept
stayed X = (stay_dropped _ yes, (stay_dropped _ yes, tt))

pub place_spec : {M : Type 1} → stated.statement M
place_spec 𝓤 𝓛 𝓜 𝓡 wired X L =
    let E : El = record { row = X; laws = L } in let count_on = inst_fn (args E) code.function in
    let held = F.clauses X 𝓛 𝓜.mem 𝓡.returns in let W = walk_of 𝓛 (F.ended X) (stayed X) held in let 𝓣 = tables 𝓤 𝓛.H 𝓜 𝓡 𝓡.env in
    proved 𝓛 (F.ended X) (stayed X) held 𝓜 𝓡 (
      Goes-dropped 𝓛 2 (RefOf (0 ∷ []) tt (plain (λ _. CellsOf E)) (λ _. tt)) yes (λ κs x w. refl),
      (Goes-dropped 𝓛 2 (plain (λ _. usize)) yes (λ κs x w. refl), tt),
    )
    (key (args E)) count_on (code.unfolded 𝓤 𝓛.H 𝓜 𝓡 wired (X, tt))
    (λ κs. (shr_vals, (uint_vals w64, tt))) (λ κs. (shr_Tells (named 0) κs.0 (CellsOf E), (uint_Tells w64, tt))) (λ κs qs bounds a n are.
    let y : W.Ghost = ((κs, qs, bounds, a, (shr_vals a.0, (uint_vals w64 a.1.0, tt))), n) in
    let κ = κs.0 in let q = qs.0 in let κ₁ = κs.1.0 in let q₁ = qs.1.0 in
    let rb : ℕ = a.0.ref_ptr.0 in let ro : ℕ = a.0.ref_ptr.1 in let c : Cells X.Denot = a.0.now in let i : ℕ = a.1.0 in let s : ℕ = sz E in
    let Holds : Type 0 = (i < c.count) × (get_or c.filled i false ≡ true) in
    qed 𝓛 (((‵ (flft κ q) ⊛ ‵ (flft κ₁ q₁) ⊛ ‵ ftrue) ⊛ ‵ (owns (types_at (F.ended X).signature.params κs) a y.0.4))
    ∷ (raw (fact 𝓤 (κ₁ ⊑ X.lives)) ⊛ raw (fact 𝓤 Holds)) ∷ []) ∵
    move ! (1 ∷ []) $ split ! $ drop ! $ heard ! Holds (λ holds.
    let ix : i < length c.items = omega (arith, holds.0, c.ok.0) in let fx : i < length c.filled = omega (arith, holds.0, c.ok.1) in
    split ! $ split ! $ move ! (2 ∷ []) $ fsplit ! $ fsplit ! $ drop ! $
    use1 𝓛 (‵ (hidden_shr RawPtr κ c.base rb (ro + 0)) ⊛ ‵ (hidden_shr usize κ c.count rb (ro + 8)) ⊛ ‵ (flt (c.count * s) (2 ^ 63))
    ⊛ ‵ (slots_lent X c.base c.items c.filled κ)) (cells_shown E 𝓛 κ c rb ro) $
    split3 ! $ move ! (2 ∷ []) $ split ! $ flt_l ! (λ fits.
    -- no product of the code wraps, since all places together are below 2 ^ 63
    let low : s < 2 ^ 63 = one_below c.count s (2 ^ 63) (omega (arith, holds.0)) fits in let one_word : s < 2 ^ 64 = omega (arith, low) in
    let before : i * s < 2 ^ 63 = times_below i c.count s (2 ^ 63) (omega (arith, holds.0)) fits in let word : i * s < 2 ^ 64 = omega (arith, before) in
    -- a value lies at the index, so the base is no null
    in_a_block ! c.base (λ r. slots_lent X r c.items c.filled κ) (none_at_null E 𝓛 κ c.items c.filled i ix fx holds.1) (λ b o at_b.
    let there : ℕ = i * s + o in let v : Val = vstruct (vcons (vptr b there) vnil) in
    keep ! (1 ∷ 4 ∷ 5 ∷ []) $
    -- [a `&` to the base; the token of κ; the other tokens; the locals]
    enter ! _ _ _ _ _ $ alloc_all ! (λ l. pass_all ! refl ((tt, tt), ((tt, record { fits = are.1.0.1 }), tt)) $
    first ! $ blocks ! $ pointer_in ! tt c.base b o at_b rb (ro + 0) (λ q'.
    sets ! (of_opd ! (load ! (through ! refl (fld ! refl (stop !))) (look ! 0 refl))) refl (tt, tt) $
    pointer_out ! tt c.base b o at_b rb (ro + 0) $
    sets ! (of_opd ! (get ! refl)) refl (tt, record { fits = are.1.0.1 }) $
    sets ! (bin ! (get ! refl) (size_lit ! (record { fits = one_word })) (record { fits = word })) refl (tt, record { fits = word }) $
    sets_last ! (bin ! (get ! refl) (get ! refl) tt) refl (tt, tt) $
    exec ! 𝓣.C 𝓣.Λ (env count_on.locals l) (after 1 count_on.body) (at_ret _ (W.post y)) $ sets ! (of_opd ! (get ! refl)) refl (tt, tt) $
    sets ! (agg ! (and_then ! (get ! refl) (no_more !))) refl (tt, (tt, tt)) $
    returns ! (look_at ! 0 refl) $ free_all ! refl $
    suffices ! _ (ends_at 𝓛 (F.ended X) (stayed X) held y v (record { ptr = block_ptr b there }) (tt, (tt, tt)) (tt, (tt, tt))) $
    says ! (sym (ap (λ (r : Ptr). place_of X r i) at_b), at_b ∙ sym (ap (λ (r : Ptr). block_ptr (block_of r) (count_of r)) at_b)) $
    join ! $ place_made E ! b there $ nothing ! $ nothing ! $ fjoin ! $ nothing ! $ fjoin ! $ keep ! (2 ∷ 0 ∷ 1 ∷ []) $ done !))))))
