-- `write` makes room of the place at the index, whatever it held, and writes the value there.
use mathlib.Core.Path.{refl, sym, ◌∙◌}
use mathlib.Core.Bool.{true}
use mathlib.Core.List.{List, [], ◌∷◌, ◌++◌}
use native.Mathlib.Omega.{arith}
use Prim.Native.Nat.{ℕ, ◌+◌, ◌*◌, ◌<◌, ◌^◌}
use lib.ListN.{length, set, length-set}
use base.Fml.{ftrue, froom, flft}
use contract.BorrowLft.{◌⊑◌}
use contract.Monad.{fact}
use contract.Running.{tables}
use mir.MapTy.{inst_fn}
use mir.Val.{Val, vunit, vptr}
use prog.Wp.{WpFn}
use types.ByLocal.{alloc_all, pass_all, free_all, look_at, get, through, sets, env}
use types.Kit.{‵, raw, ◌⊛◌, at_ret, ◌$◌, ◌∵◌, !, qed, move, keep, use1, use3, drop, split, join, fsplit, fsplit3, fjoin, fjoin3, feq_i, suffices, done, prop}
use types.Kit.{regoal, rewrite}
use types.Part.{whole, sub, look_in}
use types.Run.{init, stop, fld, load, size_lit, unit_lit, of_opd, bin, assigns_last, first, blocks, exec, returns, enter}
use denote.Builtin.{usize}
use denote.Exit.{yes, no}
use denote.RattleType.{owns}
use denote.Signature.{plain, types_at}
use denote.Steps.{heard, nothing}
use denote.Triple.Walked.{Stays, stay_dropped, stay_ref, walk_of, ends_at, Goes-dropped, Goes-ref}
use Rattle.core.proofs.mem.Facts.{says_three}
use Rattle.core.proofs.mem.Param.{El, R, args, elτ, lawful, one}
use Rattle.core.proofs.ptr.Rows.{times_below, one_below}
use Rattle.core.proofs.slots.Bodies.{after}
use Rattle.core.proofs.slots.Places.{sz, besides, room_out, value_in}
use Rattle.block_pool.proofs.OpenedCells.{CellsOf, row_at, cells_open, cells_close}
use Rattle.block_pool.specs.declared.cells.Cells.{Cells}
use Rattle.block_pool.specs.contracts.cells.Cells.write as F
use Rattle.block_pool.specs.contracts.cells.Cells.write.Key.{name as key}
use Rattle.block_pool.proofs.cells.Cells.write.Statement as stated
use Rattle.block_pool.proofs.cells.Cells.write.Code as code
use Rattle.std.proofs.raw_atomic.Walks.{proved_at}

abbrev stayed : (E : El) → Stays (F.ended E.row).signature.params (F.ended E.row).kept
stayed E = (stay_ref (0 ∷ []) tt (plain (λ _. CellsOf E)), (stay_dropped _ yes, (stay_dropped (plain (λ _. R E)) no, tt)))

-- the cells after the write
abbrev written : {X : Type 0} → Cells X → ℕ → X → Cells X
written c i x = record {
  base = c.base;
  count = c.count;
  items = set c.items i x;
  filled = set c.filled i true;
  ok = (c.ok.0 ∙ sym (length-set c.items i x), c.ok.1 ∙ sym (length-set c.filled i true));
  small = c.small;
}

pub write_spec : {M : Type 1} → stated.statement M
write_spec 𝓤 𝓛 𝓜 𝓡 wired X L =
    let E : El = record { row = X; laws = L } in let put_in = inst_fn (args E) code.function in
    let held = F.clauses X 𝓛 𝓜.mem 𝓡.returns in let W = walk_of 𝓛 (F.ended X) (stayed E) held in let 𝓣 = tables 𝓤 𝓛.H 𝓜 𝓡 𝓡.env in
    proved_at 𝓛 (F.ended X) (stayed E) held 𝓜 𝓡 (
      Goes-ref 𝓛 2 0 tt (plain (λ _. CellsOf E)),
      (Goes-dropped 𝓛 2 (plain (λ _. usize)) yes (λ κs x w. refl), (Goes-dropped 𝓛 2 (plain (λ _. R E)) no (λ κs x w. refl), tt)),
    )
    (key (args E)) put_in (code.unfolded 𝓤 𝓛.H 𝓜 𝓡 wired (X, tt))
    (λ y are.
    let κ = y.0.0.0 in let q = y.0.1.0 in let κ₁ = y.0.0.1.0 in let q₁ = y.0.1.1.0 in
    let rb : ℕ = y.0.3.0.ref_ptr.0 in let ro : ℕ = y.0.3.0.ref_ptr.1 in let c : Cells X.Denot = y.0.3.0.now in let i : ℕ = y.0.3.1.0 in
    let x : X.Denot = y.0.3.1.1.0 in
    let s : ℕ = sz E in let new : Cells X.Denot = written c i x in let word_i : i < 2 ^ 64 = are.1.0.1 in
    -- the value, as the machine has it
    let got = one E y.0.4.1.1.0 ((lawful E 𝓛).typed x y.0.4.1.1.0 are.1.1.0) in let v : Val = got.0 in let good = got.2 in
    qed 𝓛 (((‵ (flft κ q) ⊛ ‵ (flft κ₁ q₁) ⊛ ‵ ftrue) ⊛ ‵ (owns (types_at (F.ended X).signature.params y.0.0) y.0.3 y.0.4))
    ∷ (raw (fact 𝓤 (κ₁ ⊑ X.lives)) ⊛ raw (fact 𝓤 (i < c.count))) ∷ []) ∵
    move ! (1 ∷ []) $ split ! $ drop ! $ heard ! (i < c.count) (λ lt.
    let ix : i < length c.items = omega (arith, lt, c.ok.0) in let fx : i < length c.filled = omega (arith, lt, c.ok.1) in
    split ! $ split ! $ move ! (2 ∷ []) $ fsplit3 ! $ fsplit3 ! $ move ! (4 ∷ []) $ fsplit ! $ keep ! (3 ∷ 4 ∷ 6 ∷ 0 ∷ 7 ∷ []) $
    rewrite ! 3 (λ (us : List Val). ‵ ((R E).own_val x us)) got.1 refl $
    regoal ! (λ (us : List Val). prop (WpFn 𝓤 𝓛.H 𝓣.C 𝓣.Λ put_in us (W.post y))) (λ k. are.0.0 k ++ (are.1.0.0 k ++ (got.1 k ++ []))) refl $
    enter ! _ _ _ _ _ $ alloc_all ! (λ l. pass_all ! refl ((tt, tt), ((tt, record { fits = word_i }), (good, tt))) $
    cells_open E ! tt c rb ro (λ b o at_b word fits.
    let low : s < 2 ^ 63 = one_below c.count s (2 ^ 63) (omega (arith, lt)) fits in let one_word : s < 2 ^ 64 = omega (arith, low) in
    let before : i * s < 2 ^ 63 = times_below i c.count s (2 ^ 63) (omega (arith, lt)) fits in let word_p : i * s < 2 ^ 64 = omega (arith, before) in
    use1 𝓛 (‵ (froom (elτ E) b (i * s + o)) ⊛ ‵ (besides E b o c.items c.filled i)) (room_out E 𝓛 b o c.items c.filled i ix fx x) $ split ! $
    -- [the room; the other places; the two words; the open borrow, in three entries; what the value owns; the other tokens; the locals]
    first ! $ blocks ! $
    sets ! (of_opd ! (load ! (through ! refl (fld ! refl (stop !))) (look_in ! 2 (sub ! 0 refl (whole !))))) refl (tt, tt) $
    sets ! (bin ! (get ! refl) (size_lit ! (record { fits = one_word })) (record { fits = word_p })) refl (tt, record { fits = word_p }) $
    sets ! (bin ! (get ! refl) (get ! refl) tt) refl (tt, tt) $ sets ! (of_opd ! (get ! refl)) refl good $
    assigns_last ! (of_opd ! (get ! refl)) (through ! refl (stop !)) (init ! 0 refl good) $
    exec ! 𝓣.C 𝓣.Λ (env put_in.locals l) (after 1 put_in.body) (at_ret _ (W.post y)) $ sets ! (of_opd ! (unit_lit !)) refl (tt, tt) $
    move ! (0 ∷ 6 ∷ []) $ use3 𝓛 (‵ (row_at E new b o)) (value_in E 𝓛 b o c.items c.filled i ix fx x v) $
    cells_close E ! tt new b o rb ro at_b word fits $ returns ! (look_at ! 0 refl) $ free_all ! refl $
    suffices ! _ (ends_at 𝓛 (F.ended X) (stayed E) held y vunit tt (new, (tt, (tt, tt))) (tt, (tt, (tt, tt)))) $ says_three ! (refl, refl, (refl, refl)) $
    feq_i ! (List Val) y.0.4.0 (vptr rb ro ∷ []) are.0.0 $ fjoin3 ! $ nothing ! $ nothing ! $ fjoin ! $ nothing ! $ fjoin ! $ move ! (1 ∷ 0 ∷ []) $ fjoin ! $
    move ! (1 ∷ 2 ∷ []) $ join ! $ feq_i ! (List Val) (vunit ∷ []) (vunit ∷ []) refl $ keep ! (1 ∷ 2 ∷ 0 ∷ []) $ done !))))
