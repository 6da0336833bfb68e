use Rattle.std.proofs.Common.{◌≡◌, ℕ, true, false, Option, Some, None, refl, sym, ap, ◌∙◌}
use Rattle.std.specs.Prelude.{slice_get, is_some}
use Rattle.line_place.specs.Hops.{is_none}
use Rattle.line_place.proofs.SearchRounds.{has_some_hops, no_hops_yet, gets_hops}
use Rattle.line_place.proofs.hops.reach.Goals as goal

some_is : (o : Option ℕ) → true ≡ is_some o → is_none o ≡ false
some_is None e = cc
some_is (Some n) e = refl

none_is : (o : Option ℕ) → false ≡ is_some o → is_none o ≡ true
none_is None e = refl
none_is (Some n) e = cc

pub returns-then-is_some : goal.returns-then-is_some
returns-then-is_some c =
    let here : slice_get c.args.hops.now.items c.args.node ≡ Some c.in-Some.so_far = rw c.deref.ensures.value at (sym c.in-Some.ensures) in
    has_some_hops c.args.hops.now.items c.args.next.now.items c.args.node c.args.round c.in-Some.so_far here (some_is c.in-Some.so_far c.if-is_some.ensures)

pub returns : goal.returns
returns c =
    let there : slice_get c.args.hops.now.items c.args.node ≡ Some c.in-Some.so_far = rw c.deref.ensures.value at (sym c.in-Some.ensures) in
    let here : slice_get c.args.hops.now.items c.args.node ≡ Some None =
    there ∙ ap Some (no_hops_yet c.in-Some.so_far (none_is c.in-Some.so_far c.if-is_some.ensures)) in
    rw c.in_ok-push.ensures.items (gets_hops c.args.hops.now.items c.args.next.now.items c.args.node c.args.round here)
