use Rattle.std.proofs.Common.{◌≡◌, inl, inr, ℕ, ◌<◌, Option, Some, None, sym, subst, ◌∙◌}
use Rattle.flash_keeper.specs.Flash.{Bank}
use Rattle.flash_keeper.specs.Front.{HasFront, IsDecayedFront}
use Rattle.flash_keeper.specs.Log.{IsLeft, IsDecayedCell, HasDecayed, room}
use Rattle.flash_keeper.specs.declared.front.Front.{Front}
use Rattle.flash_keeper.proofs.FrontLemmas.{some_apart, both_some}
use Rattle.flash_keeper.proofs.cells.sound_front.Goals as goal

-- a bank with a whole front, of which no cell has decayed
never_decayed : (bank : Bank) (f : Front) (seen : Option Front) → seen ≡ Some f → ((h : Front) → HasFront bank h → seen ≡ Some h)
    → (IsDecayedFront bank → seen ≡ None) → ((k : ℕ) → k < room f bank.size → IsDecayedCell f bank.words k → ⊥) → HasDecayed bank → ⊥
never_decayed bank f seen is whole none cells (inl decayed) = some_apart (none decayed) is
never_decayed bank f seen is whole none cells (inr (h, k, front, less, decayed)) =
    let same : h ≡ f = both_some (whole h front) is in
    cells k (subst (λ (x : Front). k < room x bank.size) same less) (subst (λ (x : Front). IsDecayedCell x bank.words k) same decayed)

pub returns-in_default-clause-left : goal.returns-in_default-clause-left
returns-in_default-clause-left g c = λ front n choice left. absurd (some_apart c.in_default.is (c.front_of.ensures.whole front left.has_front))

pub returns-then-has_decayed_cell-clause-left : goal.returns-then-has_decayed_cell-clause-left
returns-then-has_decayed_cell-clause-left g c = λ front n choice left.
    let bank = g.B.FlashBank.bank c.args.bank.now in
    let same : front ≡ c.in-Some.front = both_some (c.front_of.ensures.whole front left.has_front) c.in-Some.is in
    absurd (c.has_decayed_cell.ensures.left c.if-has_decayed_cell.true n choice (subst (λ (f : Front). IsLeft f bank n choice) same left))

pub returns-clause-left : goal.returns-clause-left
returns-clause-left g c = λ front n choice left. sym c.in-Some.is ∙ c.front_of.ensures.whole front left.has_front

pub returns-clause-decayed : goal.returns-clause-decayed
returns-clause-decayed g c = λ decayed. absurd (never_decayed (g.B.FlashBank.bank c.args.bank.now) c.in-Some.front c.front_of.result c.in-Some.is
    c.front_of.ensures.whole c.front_of.ensures.decayed (c.has_decayed_cell.ensures.decayed c.if-has_decayed_cell.false) decayed)
