use Rattle.std.proofs.Common.{◌≡◌, Bool, true, false, cond, Some, None, ap, ◌∙◌, arith}
use Rattle.std.specs.Prelude.{◌==◌}
use Rattle.std.proofs.lemmas.Bool.Decides.{nat_tests}
use Rattle.routing_set.specs.Laws.{hop_after}
use Rattle.plc_station.proofs.ErrorCases.{none_left, some_left}
use Rattle.plc_station.proofs.route_errors.hop_left.Goals as goal

pub returns-in_default : goal.returns-in_default
returns-in_default c = none_left c.args.routing.now c.args.lost c.args.by c.args.to c.in_default.ensures

pub returns-then-number : goal.returns-then-number
returns-then-number c =
    let other : false ≡ (c.args.to == c.args.lost) = grind (arith, nat_tests, c.if-number.true, c.number.ensures.value, c.number-2.ensures.value) in
    ap (λ (b : Bool). hop_after b c.args.by (Some c.in-Some.hop)) other
    ∙ some_left c.args.routing.now c.args.lost c.args.by c.args.to c.in-Some.hop c.in-Some.ensures

pub returns-then-number-2 : goal.returns-then-number-2
returns-then-number-2 c =
    let same : true ≡ (c.args.to == c.args.lost) = grind (arith, nat_tests, c.if-number.false, c.number.ensures.value, c.number-2.ensures.value) in
    let ends : true ≡ (c.in-Some.hop == c.args.by) = grind (arith, nat_tests, c.if-number-2.true, c.number-3.ensures.value, c.number-4.ensures.value) in
    ap (λ (b : Bool). cond b None (Some c.in-Some.hop)) ends ∙ ap (λ (b : Bool). hop_after b c.args.by (Some c.in-Some.hop)) same
    ∙ some_left c.args.routing.now c.args.lost c.args.by c.args.to c.in-Some.hop c.in-Some.ensures

pub returns : goal.returns
returns c =
    let same : true ≡ (c.args.to == c.args.lost) = grind (arith, nat_tests, c.if-number.false, c.number.ensures.value, c.number-2.ensures.value) in
    let stays : false ≡ (c.in-Some.hop == c.args.by) = grind (arith, nat_tests, c.if-number-2.false, c.number-3.ensures.value, c.number-4.ensures.value) in
    ap (λ (b : Bool). cond b None (Some c.in-Some.hop)) stays ∙ ap (λ (b : Bool). hop_after b c.args.by (Some c.in-Some.hop)) same
    ∙ some_left c.args.routing.now c.args.lost c.args.by c.args.to c.in-Some.hop c.in-Some.ensures
