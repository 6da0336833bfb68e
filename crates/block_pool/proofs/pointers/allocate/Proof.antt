-- `allocate` asks for an array, makes its room a row of empty places, and a deed of the right to free it.
use mathlib.Core.Path.{◌≡◌, refl, sym, subst, ap}
use mathlib.Core.Bool.{true, false}
use mathlib.Core.List.{List, [], ◌∷◌}
use native.Mathlib.Omega.{arith}
use Prim.Native.Nat.{ℕ, ◌*◌, ◌<◌, ◌^◌}
use lib.Dec.{lit<}
use lib.ListN.{length, replicate, length-replicate}
use base.Fml.{ftrue, froom, flft, Incl-trans}
use base.Logic.{ent, sep}
use contract.BorrowLft.{◌⊑◌}
use contract.Monad.{fact}
use contract.Running.{tables}
use mir.MapTy.{inst_fn}
use mir.Syntax.{Body, w64, named, ty_array}
use mir.Val.{Val, vint, vstruct, vcons, vnil, WT}
use prog.Capped.{capped_fits}
use prog.Memory.{align, capped}
use prog.Wp.{Wp, after_seq, at_return, Env}
use types.ByLocal.{alloc_all, pass_all, free_all, look_at, get, get_in, get_tag, is, sets, sets_last, lands_as, env}
use types.Kit.{Post as After, any_q, ‵, raw, ◌⊛◌, later, at_ret, ◌$◌, ◌∵◌, !, qed, by, move, keep, drop, use1, use2, split, join, rewrite, fsplit, fjoin}
use types.Kit.{fjoin3, fpack, feq_i, suffices, await, done}
use types.Logic.{sem}
use types.Match.{live, vrt, in_variant}
use types.Part.{whole, agg}
use types.Run.{stop, fld, lit, size_word, align_word, no_more, and_then, of_opd, bin, first, switches_on, exec, returns, enter}
use denote.Builtin.{usize, RefOf}
use denote.Exit.{yes}
use denote.Laws.{Is}
use denote.Plain.{uint_vals, uint_Tells}
use denote.RattleType.{Valss, owns}
use denote.RawPtr.{block_ptr}
use denote.Ref.{shr_vals, shr_Tells}
use denote.Signature.{plain, types_at}
use denote.Steps.{heard, nothing, owned}
use denote.Struct.Declared as Declared
use denote.Struct.Struct.{Struct, Struct-Makes, within}
use denote.Struct.Tuple.{Tuple, tuple_type}
use denote.Triple.Call.{calls_at}
use denote.Triple.Entry.{alive}
use denote.Triple.Table.{framed}
use denote.Triple.Walked.{says, Stays, stay_dropped, walk_of, ends_at, Goes-dropped}
use Rattle.core.proofs.alloc.Calls.{Al, Answer-typed, Takes, at_takes, Answered, Takes-goes, Takes-gives, answers}
use Rattle.core.proofs.mem.Param.{El, R, elτ}
use Rattle.core.proofs.result.Made.{Ok-of, Err-of}
use Rattle.core.proofs.slots.Bodies.{after, head, arm_body}
use Rattle.core.proofs.slots.Leases.{uncapped, block_ty, block_size, block_align, args, P}
use Rattle.core.proofs.slots.Places.{sz, of_room}
use Rattle.block_pool.proofs.Deeds.{DeedOf, deed_of, deed_words, deed_made}
use Rattle.block_pool.proofs.OpenedCells.{CellsOf, words, cells_made}
use Rattle.core.specs.Mem.Slots.Ownership.{slots}
use Rattle.core.specs.Result.{IfOk}
use Rattle.core.specs.declared.result.Result.TheVariants.{Ok, Err}
use Rattle.core.specs.contracts.alloc.AllocError as failed
use Rattle.core.specs.contracts.result.Result as result
use Rattle.block_pool.specs.declared.cells.Cells.{Cells}
use Rattle.block_pool.specs.contracts.pointers.allocate as F
use Rattle.block_pool.specs.contracts.pointers.allocate.Key.{name as key}
use Rattle.block_pool.proofs.pointers.allocate.Statement as stated
use Rattle.block_pool.proofs.pointers.allocate.Code as code
use Rattle.std.proofs.raw_atomic.Walks.{proved}

abbrev stayed : (E : El) (Z : Al) → let T = F.ended E.row Z.row Z.g Z.d Z.drops in Stays T.signature.params T.kept
stayed E Z = (stay_dropped _ yes, (stay_dropped _ yes, tt))

pub allocate_spec : {M : Type 1} → stated.statement M
allocate_spec 𝓤 𝓛 𝓜 𝓡 wired X Y LX LY g d dd met md =
    let E : El = record { row = X; laws = LX } in let Z : Al = record { row = Y; laws = LY; g = g; d = d; drops = dd } in
    let make = inst_fn (args E Z) code.function in let T = F.ended X Y g d dd in let held = F.clauses X Y g d dd 𝓛 𝓜.mem 𝓡.returns in
    let W = walk_of 𝓛 T (stayed E Z) held in let 𝓣 = tables 𝓤 𝓛.H 𝓜 𝓡 𝓡.env in
    let Two = Tuple (CellsOf E ∷ DeedOf E Z ∷ []) in let Made = result.the_row Two failed.the_row in
    proved 𝓛 T (stayed E Z) held 𝓜 𝓡
    (Goes-dropped 𝓛 3 (RefOf (0 ∷ []) tt (plain (λ _. P E Z)) (λ _. tt)) yes (λ κs x w. refl), (Goes-dropped 𝓛 3 (plain (λ _. usize)) yes (λ κs x w. refl), tt))
    (key (args E Z)) make (code.unfolded 𝓤 𝓛.H 𝓜 𝓡 wired (X, (Y, tt)) d dd)
    (λ κs. (shr_vals, (uint_vals w64, tt))) (λ κs. (shr_Tells (named 0) κs.0 (P E Z), (uint_Tells w64, tt))) (λ κs qs bounds p like are.
    let y : W.Ghost = ((κs, qs, bounds, p, (shr_vals p.0, (uint_vals w64 p.1.0, tt))), like) in let word = are.1.0.1 in
    let κ = κs.0 in let q = qs.0 in let κ₁ = κs.1.0 in let q₁ = qs.1.0 in let κ₂ = κs.1.1.0 in let q₂ = qs.1.1.0 in
    let hp : ℕ × ℕ = p.0.ref_ptr in let a : Y.Denot = p.0.now in let n : ℕ = p.1.0 in
    let s : ℕ = sz E in let al : ℕ = capped (align (elτ E)) in let xs : List X.Denot = replicate n like in let long : length xs ≡ n = length-replicate n like in
    let Fits : Type 0 = n * s < 2 ^ 63 in
    -- both ways out: the result, the token of the allocator's loan, and the other tokens
    let ends : (r : Made.Denot) (v : Val)
    → IfOk r (λ m. (m.0.count ≡ n) × (m.0.items ≡ xs) × (m.0.filled ≡ replicate n false) × (m.1.base ≡ m.0.base) × (m.1.count ≡ m.0.count) × (m.1.alloc ≡ a))
    → ent 𝓤 (sep 𝓤 (sem 𝓛 (Made.own_val r (v ∷ []))) (alive 𝓛 T.signature κs qs)) (W.post y v) = λ r v said.
    qed 𝓛 (‵ (Made.own_val r (v ∷ [])) ∷ raw (alive 𝓛 T.signature κs qs) ∷ []) ∵
    suffices ! _ (ends_at 𝓛 T (stayed E Z) held y v r (tt, (tt, tt)) (tt, (tt, tt))) $ says ! said
    $ nothing ! $ nothing ! $ nothing ! $ fjoin3 ! $ move ! (2 ∷ 0 ∷ 1 ∷ []) $ done ! in
    qed 𝓛 (((‵ (flft κ q) ⊛ ‵ (flft κ₁ q₁) ⊛ ‵ (flft κ₂ q₂) ⊛ ‵ ftrue) ⊛ ‵ (owns (types_at T.signature.params κs) p y.0.4))
    ∷ (raw (fact 𝓤 (κ₁ ⊑ X.lives)) ⊛ raw (fact 𝓤 (κ₂ ⊑ Y.lives)) ⊛ raw (fact 𝓤 Fits)) ∷ []) ∵
    move ! (1 ∷ []) $ split ! $ drop ! $ split ! $ heard ! (κ₂ ⊑ Y.lives) (λ lives. heard ! Fits (λ fits.
    let word_s : n * s < 2 ^ 64 = omega (arith, fits) in
    split ! $ split ! $ move ! (2 ∷ []) $ fsplit ! $ fsplit ! $ keep ! (1 ∷ 3 ∷ 4 ∷ []) $
    -- [a `&` to the allocator; the token of its loan; the other tokens; the locals]
    enter ! _ _ _ _ _ $ alloc_all ! (λ l. pass_all ! refl ((tt, tt), ((tt, record { fits = word }), tt)) $
    let En : Env 𝓤 𝓛.H = env make.locals l in let both : Body = head (after 2 make.body) in
    let Then : After 𝓤 𝓛.H = any_q (after_seq 𝓤 𝓛.H (Wp 𝓤 𝓛.H 𝓣.C 𝓣.Λ En (after 3 make.body) (at_return 𝓤 𝓛.H En (W.post y)))
    (at_return 𝓤 𝓛.H En (W.post y))) in
    let z = at_takes Z 𝓛 𝓜.mem 𝓡.returns κ q hp a (n * s) al (block_ty E n) in
    sets ! (is ! (bin ! (get ! refl) (size_word !) (record { fits = subst (λ (k : ℕ). k < 2 ^ 64) (sym (uncapped n s word_s)) word_s }))
    (ap (vint w64) (uncapped n s word_s))) refl (tt, record { fits = word_s }) $
    use2 𝓛 (raw ((Takes Z 𝓛 𝓜.mem 𝓡.returns).pre z))
    (Takes-goes Z 𝓛 𝓜.mem 𝓡.returns κ q hp a (Incl-trans bounds.0 lives) (n * s) al (block_ty E n) (block_size E n word_s) (block_align E n) word_s
    (capped_fits (align (elτ E)))) $
    calls_at ! (framed 𝓤 𝓛.H 𝓜 𝓣) (Takes Z 𝓛 𝓜.mem 𝓡.returns) (met.allocate dd) z
    (and_then ! (get ! refl) (and_then ! (get ! refl) (and_then ! (align_word !) (no_more !)))) (λ v.
    use1 𝓛 (later (raw (Answered Z 𝓛 𝓜.mem 𝓡.returns a (block_ty E n) v) ⊛ ‵ (flft κ q))) (Takes-gives Z 𝓛 𝓜.mem 𝓡.returns κ q hp a (n * s) al (block_ty E n) v)
    $ await ! tt $ split ! $
    move ! (1 ∷ 2 ∷ []) $ join ! $ move ! (1 ∷ []) $ answers Z ! 𝓜.mem 𝓡.returns a (block_ty E n) v
    -- a block: its room is a row of empty places
    (λ b o is.
    let new : Cells X.Denot = record {
      base = block_ptr b o;
      count = n;
      items = xs;
      filled = replicate n false;
      ok = (sym long, sym (length-replicate n false));
      small = word;
    } in
    let base : Val = words (block_ptr b o) n in let deed : Val = deed_words (block_ptr b o) n in
    let pair : Val = vstruct (vcons base (vcons deed vnil)) in
    let base_ok : WT base = (tt, (record { fits = word }, tt)) in let deed_ok : WT deed = (tt, (record { fits = word }, (tt, tt))) in
    let all_ok : WT (live 0 (vcons pair vnil)) = (record { fits = lit< tt }, ((base_ok, (deed_ok, tt)), tt)) in
    lands_as ! is refl (Answer-typed true b o) $ first ! $ switches_on ! (get_tag ! (vrt ! refl (fld ! refl (stop !))) (whole !))
    $ exec ! 𝓣.C 𝓣.Λ En (arm_body 0 both) Then $
    sets ! (of_opd ! (get_in ! (vrt ! refl (fld ! refl (stop !))) (in_variant ! 0 0 refl refl (whole !)))) refl (tt, tt)
    $ sets ! (of_opd ! (get ! refl)) refl (tt, tt) $
    sets ! (agg ! (no_more !)) refl (tt, tt) $ sets ! (agg ! (and_then ! (get ! refl) (and_then ! (get ! refl) (no_more !)))) refl (tt, base_ok) $
    sets ! (agg ! (and_then ! (get ! refl) (and_then ! (get ! refl) (and_then ! (get ! refl) (no_more !))))) refl (tt, deed_ok) $
    sets ! (agg ! (and_then ! (get ! refl) (and_then ! (get ! refl) (no_more !)))) refl (tt, (base_ok, (deed_ok, tt))) $
    sets_last ! (agg ! (and_then ! (lit ! tt) (and_then ! (get ! refl) (no_more !)))) refl (tt, all_ok) $
    exec ! 𝓣.C 𝓣.Λ En (after 3 make.body) (at_ret En (W.post y)) $ sets ! (of_opd ! (get ! refl)) refl (tt, all_ok) $
    use1 𝓛 (‵ (froom (ty_array (elτ E) n) b o)) (𝓛.laws.raw-room (ty_array (elτ E) n) b o)
    $ rewrite ! 0 (λ (k : ℕ). ‵ (froom (ty_array (elτ E) k) b o)) (sym long) refl $
    use1 𝓛 (‵ (slots (R E) (block_ptr b o) xs (replicate (length xs) false))) (of_room E 𝓛 b xs o) $
    rewrite ! 0 (λ (k : ℕ). ‵ (slots (R E) (block_ptr b o) xs (replicate k false))) long refl $ cells_made E ! new b o refl word fits $
    move ! (1 ∷ []) $ deed_made E Z ! a b o n word $ nothing ! $ move ! (2 ∷ 1 ∷ 0 ∷ []) $ fjoin3 ! $ feq_i ! (List Val) (pair ∷ []) (pair ∷ []) refl
    $ fjoin ! $
    fpack ! (Valss (CellsOf E ∷ DeedOf E Z ∷ []))
    (within (Declared.shape (tuple_type (CellsOf E ∷ DeedOf E Z ∷ []))) (new, (deed_of E Z a b o n, tt)) (pair ∷ [])) (base ∷ [], (deed ∷ [], tt)) $
    use1 𝓛 (‵ (Made.own_val (Ok (new, deed_of E Z a b o n)) (live 0 (vcons pair vnil) ∷ []))) (Ok-of 𝓛 Two failed.the_row (new, deed_of E Z a b o n) pair) $
    returns ! (look_at ! 0 refl) $ free_all ! refl $ keep ! (0 ∷ 1 ∷ [])
    $ by ! (ends (Ok (new, deed_of E Z a b o n)) (live 0 (vcons pair vnil)) (refl, refl, refl, refl, refl, refl)))
    -- none: the error is handed on
    (λ is.
    let none : WT (live 1 (vcons (vstruct vnil) vnil)) = (record { fits = lit< tt }, (tt, tt)) in
    lands_as ! is refl (Answer-typed false 0 0) $ first ! $ switches_on ! (get_tag ! (vrt ! refl (fld ! refl (stop !))) (whole !))
    $ exec ! 𝓣.C 𝓣.Λ En (arm_body 1 both) Then $
    sets ! (of_opd ! (get_in ! (vrt ! refl (fld ! refl (stop !))) (in_variant ! 1 0 refl refl (whole !)))) refl (tt, tt) $
    sets_last ! (agg ! (and_then ! (lit ! tt) (and_then ! (get ! refl) (no_more !)))) refl (tt, none) $
    exec ! 𝓣.C 𝓣.Λ En (after 3 make.body) (at_ret En (W.post y)) $ sets ! (of_opd ! (get ! refl)) refl (tt, none) $
    owned ! (Struct (Declared.shape failed.the_type)) (Is (Struct (Declared.shape failed.the_type))) (Struct-Makes 𝓛 (Declared.shape failed.the_type) tt) tt
    (vstruct vnil ∷ []) (tt, (refl, tt)) $
    use1 𝓛 (‵ (Made.own_val (Err (record {})) (live 1 (vcons (vstruct vnil) vnil) ∷ []))) (Err-of 𝓛 Two failed.the_row (record {}) (vstruct vnil)) $
    returns ! (look_at ! 0 refl) $ free_all ! refl $ keep ! (0 ∷ 1 ∷ []) $ by ! (ends (Err (record {})) (live 1 (vcons (vstruct vnil) vnil)) tt)))))))
