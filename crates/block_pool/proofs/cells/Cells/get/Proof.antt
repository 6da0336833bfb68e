-- `get` follows the pointer: the `&` to the value there is one of those that a `&` to the cells holds.
use mathlib.Core.Path.{◌≡◌, refl, ap, ◌∙◌}
use mathlib.Core.List.{List, [], ◌∷◌, ◌++◌}
use native.Mathlib.Omega.{arith}
use Prim.Native.Nat.{ℕ, ◌+◌, ◌*◌, ◌<◌, ◌^◌}
use lib.ListN.{length, get_or}
use base.Fml.{ftrue, flt, flft}
use contract.BorrowLft.{◌⊑◌}
use contract.Monad.{fact}
use contract.Running.{tables}
use mir.MapTy.{inst_fn}
use mir.Val.{Val, vptr, vstruct, vcons, vnil}
use prog.Wp.{WpFn}
use types.ByLocal.{alloc_all, pass_all, free_all, look_at, get, get_in, through, sets, sets_last, env}
use types.Kit.{‵, raw, prop, ◌⊛◌, at_ret, regoal, ◌$◌, ◌∵◌, !, qed, move, keep, use1, drop, split, split3, join, fsplit, fjoin, feq_i, feq_l, suffices, done}
use types.Part.{whole, sub}
use types.Run.{stop, fld, addr, of_opd, first, blocks, exec, returns, enter}
use denote.Builtin.{usize, RefOf}
use denote.Exit.{yes, no}
use denote.Memory.{hidden_shr}
use denote.RattleType.{RattleType, owns}
use denote.RawPtr.{Ptr, RawPtr, block_ptr, ptr_val, in_a_block}
use denote.Signature.{plain, types_at}
use denote.Steps.{heard, nothing}
use denote.Triple.Walked.{says, Stays, stay_dropped, walk_of, ends_at, Goes-dropped}
use Rattle.std.proofs.raw_atomic.Walks.{proved_at}
use Rattle.core.proofs.mem.Param.{El, args}
use Rattle.core.proofs.slice.Lists.{hd, any-default}
use Rattle.core.proofs.slots.Bodies.{after}
use Rattle.core.proofs.slots.Lent.{none_at_null, value_lent}
use Rattle.core.proofs.slots.Places.{sz}
use Rattle.core.specs.Mem.Slots.Ownership.{slots_lent}
use Rattle.block_pool.proofs.OpenedCells.{CellsOf, PlaceOf, place_had, cells_shown}
use Rattle.block_pool.specs.Cells.{place_of, index_of, LiesIn}
use Rattle.block_pool.specs.declared.cells.Cells.{Cells}
use Rattle.block_pool.specs.declared.cells.Place.{Place}
use Rattle.block_pool.specs.contracts.cells.Cells.get as F
use Rattle.block_pool.specs.contracts.cells.Cells.get.Key.{name as key}
use Rattle.block_pool.proofs.cells.Cells.get.Statement as stated
use Rattle.block_pool.proofs.cells.Cells.get.Code as code

abbrev stayed : (X : RattleType) → Stays (F.ended X).signature.params (F.ended X).kept
stayed X = (stay_dropped _ yes, (stay_dropped _ no, tt))

pub get_spec : {M : Type 1} → stated.statement M
get_spec 𝓤 𝓛 𝓜 𝓡 wired X L =
    let E : El = record { row = X; laws = L } in let follow = inst_fn (args E) code.function in
    let held = F.clauses X 𝓛 𝓜.mem 𝓡.returns in let W = walk_of 𝓛 (F.ended X) (stayed X) held in let 𝓣 = tables 𝓤 𝓛.H 𝓜 𝓡 𝓡.env in
    proved_at 𝓛 (F.ended X) (stayed X) held 𝓜 𝓡 (
      Goes-dropped 𝓛 2 (RefOf (0 ∷ []) tt (plain (λ _. CellsOf E)) (λ _. tt)) yes (λ κs x w. refl),
      (Goes-dropped 𝓛 2 (plain (λ _. PlaceOf E)) no (λ κs x w. refl), tt),
    )
    (key (args E)) follow (code.unfolded 𝓤 𝓛.H 𝓜 𝓡 wired (X, tt))
    (λ y are.
    let κ = y.0.0.0 in let q = y.0.1.0 in let κ₁ = y.0.0.1.0 in let q₁ = y.0.1.1.0 in
    let rb : ℕ = y.0.3.0.ref_ptr.0 in let ro : ℕ = y.0.3.0.ref_ptr.1 in let c : Cells X.Denot = y.0.3.0.now in let at : Place X.Denot = y.0.3.1.0 in
    let i : ℕ = index_of X c.base at.ptr in let Lies : Type 0 = LiesIn X c at.ptr in
    qed 𝓛 (((‵ (flft κ q) ⊛ ‵ (flft κ₁ q₁) ⊛ ‵ ftrue) ⊛ ‵ (owns (types_at (F.ended X).signature.params y.0.0) y.0.3 y.0.4))
    ∷ (raw (fact 𝓤 (κ₁ ⊑ X.lives)) ⊛ raw (fact 𝓤 Lies)) ∷ []) ∵
    move ! (1 ∷ []) $ split ! $ drop ! $ heard ! Lies (λ lies.
    let ix : i < length c.items = omega (arith, lies.1, c.ok.0) in let fx : i < length c.filled = omega (arith, lies.1, c.ok.1) in
    let d : X.Denot = hd c.items (omega arith) in let x : X.Denot = get_or c.items i d in
    split ! $ split ! $ move ! (2 ∷ []) $ fsplit ! $ fsplit ! $ feq_l ! (λ is_ref. move ! (1 ∷ []) $ fsplit ! $ place_had E ! at y.0.4.1.0 (λ is_place. drop ! $
    -- what the `&` shows: of that, the `&` to the value at the index
    use1 𝓛 (‵ (hidden_shr RawPtr κ c.base rb (ro + 0)) ⊛ ‵ (hidden_shr usize κ c.count rb (ro + 8)) ⊛ ‵ (flt (c.count * sz E) (2 ^ 63))
    ⊛ ‵ (slots_lent X c.base c.items c.filled κ)) (cells_shown E 𝓛 κ c rb ro) $
    split3 ! $ move ! (2 ∷ []) $ split ! $ drop ! $
    in_a_block ! c.base (λ r. slots_lent X r c.items c.filled κ) (none_at_null E 𝓛 κ c.items c.filled i ix fx lies.2) (λ b o at_b.
    let there : ℕ = i * sz E + o in
    use1 𝓛 (‵ (hidden_shr X κ x b there)) (value_lent E 𝓛 κ b o c.items c.filled i d ix fx lies.2) $ keep ! (3 ∷ 4 ∷ 0 ∷ []) $
    -- so the pointer is to that block
    let in_block : at.ptr ≡ block_ptr b there = lies.0 ∙ ap (λ (r : Ptr). place_of X r i) at_b in
    let place : y.0.4.1.0 ≡ vstruct (vcons (vptr b there) vnil) ∷ [] = is_place ∙ ap (λ (r : Ptr). vstruct (vcons (ptr_val r) vnil) ∷ []) in_block in
    regoal ! (λ (us : List Val). prop (WpFn 𝓤 𝓛.H 𝓣.C 𝓣.Λ follow us (W.post y))) (λ k. is_ref k ++ (place k ++ [])) refl $
    -- [the token of κ; the other tokens; the `&` to the value; the locals]
    enter ! _ _ _ _ _ $ alloc_all ! (λ l. pass_all ! refl ((tt, tt), ((tt, (tt, tt)), tt)) $
    sets ! (of_opd ! (get_in ! (fld ! refl (stop !)) (sub ! 0 refl (whole !)))) refl (tt, tt) $
    first ! $ blocks ! $ sets_last ! (addr ! (through ! refl (stop !))) refl (tt, tt) $
    exec ! 𝓣.C 𝓣.Λ (env follow.locals l) (after 2 follow.body) (at_ret _ (W.post y)) $ sets ! (of_opd ! (get ! refl)) refl (tt, tt) $
    returns ! (look_at ! 0 refl) $ free_all ! refl $
    suffices ! _ (ends_at 𝓛 (F.ended X) (stayed X) held y (vptr b there) (record { ref_ptr = (b, there); now = x }) (tt, (tt, tt)) (tt, (tt, tt)))
    $ says ! (any-default c.items i d x ix) $
    join ! $ move ! (1 ∷ []) $ feq_i ! (List Val) (vptr b there ∷ []) (vptr b there ∷ []) refl $ fjoin ! $
    nothing ! $ nothing ! $ fjoin ! $ nothing ! $ fjoin ! $ keep ! (2 ∷ 0 ∷ 1 ∷ []) $ done !))))))
