use Rattle.std.proofs.Common.{◌≡◌, ◌≤◌, ◌+◌, inl, inr, leb, refl, subst, sym, ◌∙◌, arith}
use Rattle.flash_keeper.specs.Banks.{AreLeft}
use Rattle.flash_keeper.specs.declared.front.Front.{Front}
use Rattle.flash_keeper.proofs.KeeperLemmas.{nothing_else}
use Rattle.flash_keeper.specs.Log.{room}
use Rattle.flash_keeper.specs.Front.{front_in}
use Rattle.flash_keeper.specs.Wear.{one_if, worn_with}
use Rattle.flash_keeper.proofs.FrontLemmas.{front_in_is, some_same, some_is_none}
use Rattle.flash_keeper.proofs.MeasureLemmas.{of_with, of_settled, with_opened}
use Rattle.flash_keeper.proofs.keeper.FlashKeeper.settled.Goals as goal

pub sound_front-requires : goal.sound_front-requires
sound_front-requires g c = record {
  firm = elim c.requires.left [
    | inl left ↦ left.3.number.firm
    | inr decayed ↦ decayed.live_is.0.firm
  ];
}

pub settle-requires-clause-left : goal.settle-requires-clause-left
settle-requires-clause-left g c =
    let live = g.B.FlashBank.bank c.args.live in
    let spare = g.B.FlashBank.bank c.args.spare in
    elim c.requires.left [
      | inl left ↦ (
        left.0,
        left.2,
        subst (λ (f : Front). AreLeft f live spare left.2 left.0)
            (some_same (sym (c.sound_front.ensures.left left.1 left.2 left.0 left.3.log) ∙ c.in-Some.is)) left.3,
      )
      | inr decayed ↦ absurd (some_is_none (sym c.in-Some.is ∙ c.sound_front.ensures.decayed decayed.decayed))
    ]

pub returns-in_default-clause-fault : goal.returns-in_default-clause-fault
returns-in_default-clause-fault g c = inr (refl, λ f n choice left. some_is_none (sym (c.sound_front.ensures.left f n choice left.log) ∙ c.in_default.is))

pub returns-in_default-clause-left : goal.returns-in_default-clause-left
returns-in_default-clause-left g c = λ f n choice left. inl (f, n, left)

pub returns-in_default-settle-clause-left : goal.returns-in_default-settle-clause-left
returns-in_default-settle-clause-left g c =
    let live = g.B.FlashBank.bank c.args.live in
    let spare = g.B.FlashBank.bank c.args.spare in
    λ f n choice left. c.in_default-settle.ensures.left n choice (subst (λ (h : Front). AreLeft h live spare n choice)
    (some_same (sym (c.sound_front.ensures.left f n choice left.log) ∙ c.in-Some.is)) left)

pub returns-in_default-settle-clause-decayed : goal.returns-in_default-settle-clause-decayed
returns-in_default-settle-clause-decayed g c = λ decayed. absurd (some_is_none (sym c.in-Some.is ∙ c.sound_front.ensures.decayed decayed.decayed))

pub returns-clause-opened : goal.returns-clause-opened
returns-clause-opened g c =
    let live = g.B.FlashBank.bank c.args.live in
    let spare = g.B.FlashBank.bank c.args.spare in
    λ f n choice left. record {
      one = c.in-Ok.ensures.records n choice (subst (λ (h : Front). AreLeft h live spare n choice)
          (some_same (sym (c.sound_front.ensures.left f n choice left.log) ∙ c.in-Some.is)) left);
      left = nothing_else _ _ _ _ c.in-Ok.ensures.ready;
      faults = refl;
      known_cut = refl;
    }

pub returns-clause-decayed : goal.returns-clause-decayed
returns-clause-decayed g c = λ decayed. absurd (some_is_none (sym c.in-Some.is ∙ c.sound_front.ensures.decayed decayed.decayed))

pub returns-in_default-clause-cut : goal.returns-in_default-clause-cut
returns-in_default-clause-cut g c = let most = of_with (g.B.FlashBank.bank c.args.live) (g.B.FlashBank.bank c.args.spare) in omega (arith, most)

pub returns-in_default-settle-clause-cut : goal.returns-in_default-settle-clause-cut
returns-in_default-settle-clause-cut g c =
    let pair = c.settle.new.self in
    let live = g.B.FlashBank.bank c.args.live in
    let spare = g.B.FlashBank.bank c.args.spare in
    of_settled (one_if spare.torn) live spare (g.B.FlashBank.bank pair.live) (g.B.FlashBank.bank pair.spare) c.in-Some.front pair.front
    (elim c.requires.left [
      | inl left ↦ some_same (sym c.in-Some.is ∙ c.sound_front.ensures.left left.1 left.2 left.0 left.3.log)
          ∙ sym (front_in_is live left.1 left.3.log.has_front)
      | inr decayed ↦ absurd (some_is_none (sym c.in-Some.is ∙ c.sound_front.ensures.decayed decayed.decayed))
    ]) c.settle.ensures.front c.settle.ensures.twice

pub returns-clause-worn : goal.returns-clause-worn
returns-clause-worn g c =
    let pair = c.settle.new.self in
    let live = g.B.FlashBank.bank c.args.live in
    let spare = g.B.FlashBank.bank c.args.spare in
    let new = g.B.FlashBank.bank pair.live in
    let is : c.in-Some.front ≡ front_in live = elim c.requires.left [
      | inl left ↦ some_same (sym c.in-Some.is ∙ c.sound_front.ensures.left left.1 left.2 left.0 left.3.log)
          ∙ sym (front_in_is live left.1 left.3.log.has_front)
      | inr decayed ↦ absurd (some_is_none (sym c.in-Some.is ∙ c.sound_front.ensures.decayed decayed.decayed))
    ] in
    subst (λ (h : Front). worn_with pair.front new (g.B.FlashBank.bank pair.spare)
    ≤ worn_with h live spare + one_if spare.torn + one_if (leb (room pair.front new.size) pair.next)) is
    (with_opened pair.next c.in-Some.front pair.front live spare new (g.B.FlashBank.bank pair.spare)
    c.in-Ok.ensures.ready c.in-Ok.ensures.worn c.settle.ensures.twice)
