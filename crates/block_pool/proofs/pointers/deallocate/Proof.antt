-- `deallocate` makes room of every place, whatever it holds, and hands the block back under the deed.
use mathlib.Core.Path.{◌≡◌, refl, sym, subst, ap, ◌∙◌}
use mathlib.Core.List.{List, [], ◌∷◌, ◌++◌}
use native.Mathlib.Omega.{arith}
use Prim.Native.Nat.{ℕ, ◌*◌, ◌<◌, ◌^◌}
use lib.Dec.{T as Truth}
use lib.ListN.{length}
use base.Fml.{ftrue, froom, flft, Incl-trans}
use contract.BorrowLft.{◌⊑◌}
use contract.Monad.{fact}
use contract.Running.{tables}
use mir.MapTy.{inst_fn}
use mir.Syntax.{w64, ty_unit, ty_array}
use mir.Val.{Val, vunit, vint, has_ty, WT}
use prog.Capped.{capped_fits}
use prog.Memory.{align, capped}
use prog.Wp.{WpFn}
use types.ByLocal.{alloc_all, pass_all, free_all, look_at, get, get_in, is, sets, lands_last, env}
use types.Kit.{‵, raw, ◌⊛◌, later, given, at_ret, ◌$◌, ◌∵◌, !, qed, move, keep, drop, use1, use3, learn, split, join, rewrite, fsplit, fsplit3, fjoin, fjoin3}
use types.Kit.{feq_i, feq_l, suffices, await, done, prop, regoal}
use types.Part.{whole, sub}
use types.Run.{stop, fld, size_word, align_word, unit_lit, no_more, and_then, of_opd, bin, first, blocks, exec, returns, enter}
use denote.Builtin.{RefOf}
use denote.Exit.{yes, no}
use denote.RattleType.{owns}
use denote.RawPtr.{Ptr, block_ptr}
use denote.Signature.{plain, types_at}
use denote.Steps.{heard, nothing}
use denote.Triple.Call.{calls_at_last}
use denote.Triple.Table.{framed}
use denote.Triple.Walked.{Stays, stay_dropped, walk_of, ends_at, Goes-dropped}
use Rattle.core.proofs.alloc.Calls.{Al, token, Gives, at_gives, Gives-goes, Gives-Gives}
use Rattle.core.proofs.mem.Param.{El, elτ}
use Rattle.core.proofs.slots.Bodies.{after}
use Rattle.core.proofs.slots.Leases.{uncapped, block_ty, block_size, block_align, args, P}
use Rattle.core.proofs.slots.Places.{sz, to_room}
use Rattle.block_pool.proofs.Deeds.{DeedOf, deed_words, deed_had}
use Rattle.block_pool.proofs.OpenedCells.{CellsOf, cells_had}
use Rattle.block_pool.specs.declared.cells.Cells.{Cells}
use Rattle.block_pool.specs.contracts.pointers.deallocate as F
use Rattle.block_pool.specs.contracts.pointers.deallocate.Key.{name as key}
use Rattle.block_pool.proofs.pointers.deallocate.Statement as stated
use Rattle.block_pool.proofs.pointers.deallocate.Code as code
use Rattle.std.proofs.raw_atomic.Walks.{proved_at}

abbrev stayed : (E : El) (Z : Al) → let T = F.ended E.row Z.row Z.g Z.d Z.drops in Stays T.signature.params T.kept
stayed E Z = (stay_dropped _ yes, (stay_dropped _ no, (stay_dropped _ no, tt)))

pub deallocate_spec : {M : Type 1} → stated.statement M
deallocate_spec 𝓤 𝓛 𝓜 𝓡 wired X Y LX LY g d dd met md =
    let E : El = record { row = X; laws = LX } in let Z : Al = record { row = Y; laws = LY; g = g; d = d; drops = dd } in
    let free = inst_fn (args E Z) code.function in let T = F.ended X Y g d dd in let held = F.clauses X Y g d dd 𝓛 𝓜.mem 𝓡.returns in
    let W = walk_of 𝓛 T (stayed E Z) held in let 𝓣 = tables 𝓤 𝓛.H 𝓜 𝓡 𝓡.env in
    proved_at 𝓛 T (stayed E Z) held 𝓜 𝓡 (
      Goes-dropped 𝓛 3 (RefOf (0 ∷ []) tt (plain (λ _. P E Z)) (λ _. tt)) yes (λ κs x w. refl),
      (Goes-dropped 𝓛 3 (plain (λ _. CellsOf E)) no (λ κs x w. refl), (Goes-dropped 𝓛 3 (plain (λ _. DeedOf E Z)) no (λ κs x w. refl), tt)),
    )
    (key (args E Z)) free (code.unfolded 𝓤 𝓛.H 𝓜 𝓡 wired (X, (Y, tt)) d dd)
    (λ y are.
    let κ = y.0.0.0 in let q = y.0.1.0 in let κ₁ = y.0.0.1.0 in let q₁ = y.0.1.1.0 in let κ₂ = y.0.0.1.1.0 in let q₂ = y.0.1.1.1.0 in
    let hp : ℕ × ℕ = y.0.3.0.ref_ptr in let a : Y.Denot = y.0.3.0.now in let c : Cells X.Denot = y.0.3.1.0 in let deed : (DeedOf E Z).Denot = y.0.3.1.1.0 in
    let n : ℕ = deed.count in let s : ℕ = sz E in let al : ℕ = capped (align (elτ E)) in
    let Same : Type 0 = (deed.base ≡ c.base) × (n ≡ c.count) × (deed.alloc ≡ a) in
    qed 𝓛 (((‵ (flft κ q) ⊛ ‵ (flft κ₁ q₁) ⊛ ‵ (flft κ₂ q₂) ⊛ ‵ ftrue) ⊛ ‵ (owns (types_at T.signature.params y.0.0) y.0.3 y.0.4))
    ∷ (raw (fact 𝓤 (κ₁ ⊑ X.lives)) ⊛ raw (fact 𝓤 (κ₂ ⊑ Y.lives)) ⊛ raw (fact 𝓤 Same)) ∷ []) ∵
    move ! (1 ∷ []) $ split ! $ drop ! $ split ! $ heard ! (κ₂ ⊑ Y.lives) (λ lives. heard ! Same (λ same.
    split ! $ split ! $ move ! (2 ∷ []) $ fsplit3 ! $ fsplit ! $ feq_l ! (λ is_ref. move ! (1 ∷ []) $ cells_had E ! c y.0.4.1.0 (λ b o at_b is_cells word fits.
    let word_n : n < 2 ^ 64 = subst (λ (k : ℕ). k < 2 ^ 64) (sym same.1) word in
    let below : n * s < 2 ^ 63 = subst (λ (k : ℕ). k * s < 2 ^ 63) (sym same.1) fits in let word_s : n * s < 2 ^ 64 = omega (arith, below) in
    -- every place becomes room, and all of them the room of one array
    use1 𝓛 (‵ (froom (ty_array (elτ E) (length c.items)) b o)) (to_room E 𝓛 b c.items c.filled o (sym c.ok.1 ∙ c.ok.0)) $
    rewrite ! 0 (λ (k : ℕ). ‵ (froom (ty_array (elτ E) k) b o)) (sym c.ok.0 ∙ sym same.1) refl
    $ use1 𝓛 (‵ (froom (block_ty E n) b o)) (𝓛.laws.room-raw (ty_array (elτ E) n) b o) $
    -- the deed is of that block, and by this allocator
    move ! (2 ∷ []) $ fsplit ! $ deed_had E Z ! deed y.0.4.1.1.0 (λ is_deed.
    let at_d : deed.base ≡ block_ptr b o = same.0 ∙ at_b in
    rewrite ! 0 (λ (p : Ptr). ‵ (token Z deed.alloc (block_ty E n) p)) at_d refl
    $ rewrite ! 0 (λ (h : Y.Denot). ‵ (token Z h (block_ty E n) (block_ptr b o))) same.2 refl $ keep ! (2 ∷ 0 ∷ 3 ∷ 4 ∷ 5 ∷ []) $
    let words_d : y.0.4.1.1.0 ≡ deed_words (block_ptr b o) n ∷ [] = is_deed ∙ ap (λ (p : Ptr). deed_words p n ∷ []) at_d in
    regoal ! (λ (us : List Val). prop (WpFn 𝓤 𝓛.H 𝓣.C 𝓣.Λ free us (W.post y))) (λ k. is_ref k ++ (is_cells k ++ (words_d k ++ []))) refl $
    -- [the room; the right to free it; the allocator; the token of its loan; the other tokens; the locals]
    enter ! _ _ _ _ _ $ alloc_all ! (λ l. pass_all ! refl
    ((tt, tt), ((tt, (tt, (record { fits = word }, tt))), ((tt, (tt, (record { fits = word_n }, (tt, tt)))), tt))) $
    let z = at_gives Z 𝓛 𝓜.mem 𝓡.returns κ q hp a b o (n * s) al (block_ty E n) in
    sets ! (of_opd ! (get_in ! (fld ! refl (stop !)) (sub ! 0 refl (whole !)))) refl (tt, tt) $
    sets ! (of_opd ! (get_in ! (fld ! refl (stop !)) (sub ! 1 refl (whole !)))) refl (tt, record { fits = word_n })
    $ first ! $ blocks ! $ sets ! (of_opd ! (get ! refl)) refl (tt, tt) $
    sets ! (is ! (bin ! (get ! refl) (size_word !) (record { fits = subst (λ (k : ℕ). k < 2 ^ 64) (sym (uncapped n s word_s)) word_s }))
    (ap (vint w64) (uncapped n s word_s))) refl (tt, record { fits = word_s }) $
    move ! (2 ∷ 3 ∷ []) $ join ! $ move ! (1 ∷ 2 ∷ 0 ∷ []) $ use3 𝓛 (raw ((Gives Z 𝓛 𝓜.mem 𝓡.returns).pre z))
    (Gives-goes Z 𝓛 𝓜.mem 𝓡.returns κ q hp a (Incl-trans y.0.2.0 lives) b o (n * s) al (block_ty E n) (block_size E n word_s) (block_align E n) word_s
    (capped_fits (align (elτ E)))) $
    calls_at_last ! (framed 𝓤 𝓛.H 𝓜 𝓣) (Gives Z 𝓛 𝓜.mem 𝓡.returns) (met.deallocate dd) z
    (and_then ! (get ! refl) (and_then ! (get ! refl) (and_then ! (get ! refl) (and_then ! (align_word !) (no_more !))))) (λ v.
    use1 𝓛 (later (given (v ≡ vunit) (‵ (flft κ q)))) (Gives-Gives Z 𝓛 𝓜.mem 𝓡.returns κ q hp a b o (n * s) al (block_ty E n) v) $ await ! tt
    $ learn ! (λ is_unit.
    lands_last ! refl (subst (λ (u : Val). Truth (has_ty ty_unit u) × WT u) (sym is_unit) (tt, tt))
    $ exec ! 𝓣.C 𝓣.Λ (env free.locals l) (after 3 free.body) (at_ret _ (W.post y)) $
    sets ! (of_opd ! (unit_lit !)) refl (tt, tt) $ returns ! (look_at ! 0 refl) $ free_all ! refl $
    suffices ! _ (ends_at 𝓛 T (stayed E Z) held y vunit tt (tt, (tt, (tt, tt))) (tt, (tt, (tt, tt)))) $
    join ! $ feq_i ! (List Val) (vunit ∷ []) (vunit ∷ []) refl
    $ nothing ! $ nothing ! $ fjoin ! $ nothing ! $ nothing ! $ fjoin3 ! $ join ! $ move ! (1 ∷ 0 ∷ []) $ join ! $
    nothing ! $ keep ! (1 ∷ 0 ∷ []) $ done !)))))))))
