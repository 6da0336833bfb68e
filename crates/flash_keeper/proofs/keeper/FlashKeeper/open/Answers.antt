use Rattle.std.proofs.Common.{inl, inr, sym, arith}
use Rattle.flash_keeper.proofs.Outcomes.{one_if_ok, one_if_err}
use Rattle.flash_keeper.proofs.BankLemmas.{choose, choose_second, chosen, chosen_second, decayed_is, decayed_second, cause_of}
use Rattle.flash_keeper.proofs.MeasureLemmas.{with_of, with_of_second, torn_first, torn_second}
use Rattle.flash_keeper.proofs.keeper.FlashKeeper.open.Goals as goal

pub settled-requires-clause-left : goal.settled-requires-clause-left
settled-requires-clause-left g c = chosen_second (g.B.FlashBank.bank c.args.first) (g.B.FlashBank.bank c.args.second)
    c.in-Some-two.later c.generation_of-two.result c.generation_of-two.ensures c.in-Some-two.is c.requires

pub returns-in_default-clause-opened : goal.returns-in_default-clause-opened
returns-in_default-clause-opened g c = one_if_ok c.settled.result (λ keeper f choice store.
    let left = choose_second (g.B.FlashBank.bank c.args.first) (g.B.FlashBank.bank c.args.second) choice
    c.in-Some-two.later c.generation_of-two.result c.generation_of-two.ensures c.in-Some-two.is store in
    f left.0 left.1 choice left.2) c.settled.ensures.opened

pub returns-in_default-clause-fault : goal.returns-in_default-clause-fault
returns-in_default-clause-fault g c = one_if_err c.settled.result (λ e f.
    cause_of e.0 (g.B.FlashBank.bank c.args.first) (g.B.FlashBank.bank c.args.second) (sym c.settled.ensures.sizes) (elim f [
      | inl is ↦ inl is
      | inr both ↦ inr (
        both.0,
        λ choice store.
            let left = choose_second (g.B.FlashBank.bank c.args.first) (g.B.FlashBank.bank c.args.second) choice
            c.in-Some-two.later c.generation_of-two.result c.generation_of-two.ensures c.in-Some-two.is store in
            both.1 left.0 left.1 choice left.2,
      )
    ])) c.settled.ensures.fault

pub returns-in_default-clause-decayed : goal.returns-in_default-clause-decayed
returns-in_default-clause-decayed g c = λ decayed sizes.
    let both = c.settled.ensures.decayed (decayed_second (g.B.FlashBank.bank c.args.first) (g.B.FlashBank.bank c.args.second)
    c.in-Some-two.later c.generation_of-two.result c.generation_of-two.ensures c.in-Some-two.is decayed) in
    (both.0, one_if_err c.settled.result (λ e f. f.0) both.1)

pub returns-in_default-clause-left : goal.returns-in_default-clause-left
returns-in_default-clause-left g c = one_if_err c.settled.result (λ e f choice store.
    let left = choose_second (g.B.FlashBank.bank c.args.first) (g.B.FlashBank.bank c.args.second) choice
    c.in-Some-two.later c.generation_of-two.result c.generation_of-two.ensures c.in-Some-two.is store in
    f left.0 left.1 choice left.2) c.settled.ensures.left

pub settled-requires-in_default-two-2-clause-left : goal.settled-requires-in_default-two-2-clause-left
settled-requires-in_default-two-2-clause-left g c = chosen (g.B.FlashBank.bank c.args.first) (g.B.FlashBank.bank c.args.second)
    c.in-Some.earlier c.generation_of-one.result c.generation_of-one.ensures c.in-Some.is c.requires

pub returns-in_default-two-2-clause-opened : goal.returns-in_default-two-2-clause-opened
returns-in_default-two-2-clause-opened g c = one_if_ok c.settled-in_default-two-2.result (λ keeper f choice store.
    let left = choose (g.B.FlashBank.bank c.args.first) (g.B.FlashBank.bank c.args.second) choice
    c.in-Some.earlier c.generation_of-one.result c.generation_of-one.ensures c.in-Some.is store in
    f left.0 left.1 choice left.2) c.settled-in_default-two-2.ensures.opened

pub returns-in_default-two-2-clause-fault : goal.returns-in_default-two-2-clause-fault
returns-in_default-two-2-clause-fault g c = one_if_err c.settled-in_default-two-2.result (λ e f.
    cause_of e.0 (g.B.FlashBank.bank c.args.first) (g.B.FlashBank.bank c.args.second) c.settled-in_default-two-2.ensures.sizes (elim f [
      | inl is ↦ inl is
      | inr both ↦ inr (
        both.0,
        λ choice store.
            let left = choose (g.B.FlashBank.bank c.args.first) (g.B.FlashBank.bank c.args.second) choice
            c.in-Some.earlier c.generation_of-one.result c.generation_of-one.ensures c.in-Some.is store in
            both.1 left.0 left.1 choice left.2,
      )
    ])) c.settled-in_default-two-2.ensures.fault

pub returns-in_default-two-2-clause-decayed : goal.returns-in_default-two-2-clause-decayed
returns-in_default-two-2-clause-decayed g c = λ decayed sizes.
    let both = c.settled-in_default-two-2.ensures.decayed (decayed_is (g.B.FlashBank.bank c.args.first) (g.B.FlashBank.bank c.args.second)
    c.in-Some.earlier c.generation_of-one.result c.generation_of-one.ensures c.in-Some.is decayed) in
    (both.0, one_if_err c.settled-in_default-two-2.result (λ e f. f.0) both.1)

pub returns-in_default-two-2-clause-left : goal.returns-in_default-two-2-clause-left
returns-in_default-two-2-clause-left g c = one_if_err c.settled-in_default-two-2.result (λ e f choice store.
    let left = choose (g.B.FlashBank.bank c.args.first) (g.B.FlashBank.bank c.args.second) choice
    c.in-Some.earlier c.generation_of-one.result c.generation_of-one.ensures c.in-Some.is store in
    f left.0 left.1 choice left.2) c.settled-in_default-two-2.ensures.left

pub settled-requires-then-earlier-later-clause-left : goal.settled-requires-then-earlier-later-clause-left
settled-requires-then-earlier-later-clause-left g c = chosen_second (g.B.FlashBank.bank c.args.first) (g.B.FlashBank.bank c.args.second)
    c.in-Some-two-2.later c.generation_of-two.result c.generation_of-two.ensures c.in-Some-two-2.is c.requires

pub returns-then-earlier-later-clause-opened : goal.returns-then-earlier-later-clause-opened
returns-then-earlier-later-clause-opened g c = one_if_ok c.settled-then-earlier-later.result (λ keeper f choice store.
    let left = choose_second (g.B.FlashBank.bank c.args.first) (g.B.FlashBank.bank c.args.second) choice
    c.in-Some-two-2.later c.generation_of-two.result c.generation_of-two.ensures c.in-Some-two-2.is store in
    f left.0 left.1 choice left.2) c.settled-then-earlier-later.ensures.opened

pub returns-then-earlier-later-clause-fault : goal.returns-then-earlier-later-clause-fault
returns-then-earlier-later-clause-fault g c = one_if_err c.settled-then-earlier-later.result (λ e f.
    cause_of e.0 (g.B.FlashBank.bank c.args.first) (g.B.FlashBank.bank c.args.second) (sym c.settled-then-earlier-later.ensures.sizes) (elim f [
      | inl is ↦ inl is
      | inr both ↦ inr (
        both.0,
        λ choice store.
            let left = choose_second (g.B.FlashBank.bank c.args.first) (g.B.FlashBank.bank c.args.second) choice
            c.in-Some-two-2.later c.generation_of-two.result c.generation_of-two.ensures c.in-Some-two-2.is store in
            both.1 left.0 left.1 choice left.2,
      )
    ])) c.settled-then-earlier-later.ensures.fault

pub returns-then-earlier-later-clause-decayed : goal.returns-then-earlier-later-clause-decayed
returns-then-earlier-later-clause-decayed g c = λ decayed sizes.
    let both = c.settled-then-earlier-later.ensures.decayed (decayed_second (g.B.FlashBank.bank c.args.first) (g.B.FlashBank.bank c.args.second)
    c.in-Some-two-2.later c.generation_of-two.result c.generation_of-two.ensures c.in-Some-two-2.is decayed) in
    (both.0, one_if_err c.settled-then-earlier-later.result (λ e f. f.0) both.1)

pub returns-then-earlier-later-clause-left : goal.returns-then-earlier-later-clause-left
returns-then-earlier-later-clause-left g c = one_if_err c.settled-then-earlier-later.result (λ e f choice store.
    let left = choose_second (g.B.FlashBank.bank c.args.first) (g.B.FlashBank.bank c.args.second) choice
    c.in-Some-two-2.later c.generation_of-two.result c.generation_of-two.ensures c.in-Some-two-2.is store in
    f left.0 left.1 choice left.2) c.settled-then-earlier-later.ensures.left

pub settled-requires-2-clause-left : goal.settled-requires-2-clause-left
settled-requires-2-clause-left g c = chosen (g.B.FlashBank.bank c.args.first) (g.B.FlashBank.bank c.args.second)
    c.in-Some.earlier c.generation_of-one.result c.generation_of-one.ensures c.in-Some.is c.requires

pub returns-clause-opened : goal.returns-clause-opened
returns-clause-opened g c = one_if_ok c.settled-2.result (λ keeper f choice store.
    let left = choose (g.B.FlashBank.bank c.args.first) (g.B.FlashBank.bank c.args.second) choice
    c.in-Some.earlier c.generation_of-one.result c.generation_of-one.ensures c.in-Some.is store in
    f left.0 left.1 choice left.2) c.settled-2.ensures.opened

pub returns-clause-fault : goal.returns-clause-fault
returns-clause-fault g c = one_if_err c.settled-2.result (λ e f.
    cause_of e.0 (g.B.FlashBank.bank c.args.first) (g.B.FlashBank.bank c.args.second) c.settled-2.ensures.sizes (elim f [
      | inl is ↦ inl is
      | inr both ↦ inr (
        both.0,
        λ choice store.
            let left = choose (g.B.FlashBank.bank c.args.first) (g.B.FlashBank.bank c.args.second) choice
            c.in-Some.earlier c.generation_of-one.result c.generation_of-one.ensures c.in-Some.is store in
            both.1 left.0 left.1 choice left.2,
      )
    ])) c.settled-2.ensures.fault

pub returns-clause-decayed : goal.returns-clause-decayed
returns-clause-decayed g c = λ decayed sizes.
    let both = c.settled-2.ensures.decayed (decayed_is (g.B.FlashBank.bank c.args.first) (g.B.FlashBank.bank c.args.second)
    c.in-Some.earlier c.generation_of-one.result c.generation_of-one.ensures c.in-Some.is decayed) in
    (both.0, one_if_err c.settled-2.result (λ e f. f.0) both.1)

pub returns-clause-left : goal.returns-clause-left
returns-clause-left g c = one_if_err c.settled-2.result (λ e f choice store.
    let left = choose (g.B.FlashBank.bank c.args.first) (g.B.FlashBank.bank c.args.second) choice
    c.in-Some.earlier c.generation_of-one.result c.generation_of-one.ensures c.in-Some.is store in
    f left.0 left.1 choice left.2) c.settled-2.ensures.left

pub returns-in_default-clause-worn : goal.returns-in_default-clause-worn
returns-in_default-clause-worn g c =
    let least = with_of_second (g.B.FlashBank.bank c.args.second) (g.B.FlashBank.bank c.args.first) c.in-Some-two.later c.generation_of-two.result
    c.generation_of-two.ensures c.in-Some-two.is in
    let torn = torn_first (g.B.FlashBank.bank c.args.first).torn (g.B.FlashBank.bank c.args.second).torn in
    one_if_ok c.settled.result (λ x most. omega (arith, most, least, torn)) c.settled.ensures.worn

pub returns-in_default-clause-cut : goal.returns-in_default-clause-cut
returns-in_default-clause-cut g c =
    let least = with_of_second (g.B.FlashBank.bank c.args.second) (g.B.FlashBank.bank c.args.first) c.in-Some-two.later c.generation_of-two.result
    c.generation_of-two.ensures c.in-Some-two.is in
    let torn = torn_first (g.B.FlashBank.bank c.args.first).torn (g.B.FlashBank.bank c.args.second).torn in
    one_if_err c.settled.result (λ x most. omega (arith, most, least, torn)) c.settled.ensures.cut

pub returns-in_default-two-2-clause-worn : goal.returns-in_default-two-2-clause-worn
returns-in_default-two-2-clause-worn g c =
    let least = with_of (g.B.FlashBank.bank c.args.first) (g.B.FlashBank.bank c.args.second) c.in-Some.earlier c.generation_of-one.result
    c.generation_of-one.ensures c.in-Some.is in
    let torn = torn_second (g.B.FlashBank.bank c.args.first).torn (g.B.FlashBank.bank c.args.second).torn in
    one_if_ok c.settled-in_default-two-2.result (λ x most. omega (arith, most, least, torn)) c.settled-in_default-two-2.ensures.worn

pub returns-in_default-two-2-clause-cut : goal.returns-in_default-two-2-clause-cut
returns-in_default-two-2-clause-cut g c =
    let least = with_of (g.B.FlashBank.bank c.args.first) (g.B.FlashBank.bank c.args.second) c.in-Some.earlier c.generation_of-one.result
    c.generation_of-one.ensures c.in-Some.is in
    let torn = torn_second (g.B.FlashBank.bank c.args.first).torn (g.B.FlashBank.bank c.args.second).torn in
    one_if_err c.settled-in_default-two-2.result (λ x most. omega (arith, most, least, torn)) c.settled-in_default-two-2.ensures.cut

pub returns-then-earlier-later-clause-worn : goal.returns-then-earlier-later-clause-worn
returns-then-earlier-later-clause-worn g c =
    let least = with_of_second (g.B.FlashBank.bank c.args.second) (g.B.FlashBank.bank c.args.first) c.in-Some-two-2.later c.generation_of-two.result
    c.generation_of-two.ensures c.in-Some-two-2.is in
    let torn = torn_first (g.B.FlashBank.bank c.args.first).torn (g.B.FlashBank.bank c.args.second).torn in
    one_if_ok c.settled-then-earlier-later.result (λ x most. omega (arith, most, least, torn)) c.settled-then-earlier-later.ensures.worn

pub returns-then-earlier-later-clause-cut : goal.returns-then-earlier-later-clause-cut
returns-then-earlier-later-clause-cut g c =
    let least = with_of_second (g.B.FlashBank.bank c.args.second) (g.B.FlashBank.bank c.args.first) c.in-Some-two-2.later c.generation_of-two.result
    c.generation_of-two.ensures c.in-Some-two-2.is in
    let torn = torn_first (g.B.FlashBank.bank c.args.first).torn (g.B.FlashBank.bank c.args.second).torn in
    one_if_err c.settled-then-earlier-later.result (λ x most. omega (arith, most, least, torn)) c.settled-then-earlier-later.ensures.cut

pub returns-clause-worn : goal.returns-clause-worn
returns-clause-worn g c =
    let least = with_of (g.B.FlashBank.bank c.args.first) (g.B.FlashBank.bank c.args.second) c.in-Some.earlier c.generation_of-one.result
    c.generation_of-one.ensures c.in-Some.is in
    let torn = torn_second (g.B.FlashBank.bank c.args.first).torn (g.B.FlashBank.bank c.args.second).torn in
    one_if_ok c.settled-2.result (λ x most. omega (arith, most, least, torn)) c.settled-2.ensures.worn

pub returns-clause-cut : goal.returns-clause-cut
returns-clause-cut g c =
    let least = with_of (g.B.FlashBank.bank c.args.first) (g.B.FlashBank.bank c.args.second) c.in-Some.earlier c.generation_of-one.result
    c.generation_of-one.ensures c.in-Some.is in
    let torn = torn_second (g.B.FlashBank.bank c.args.first).torn (g.B.FlashBank.bank c.args.second).torn in
    one_if_err c.settled-2.result (λ x most. omega (arith, most, least, torn)) c.settled-2.ensures.cut
