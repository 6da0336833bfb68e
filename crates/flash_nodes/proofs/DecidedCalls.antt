-- The loss of power that an opening decides for a call.
use Rattle.std.proofs.Common.{◌≡◌, ℕ, ◌≤◌, Bool, true, false, length, Option, Some, None, refl, sym, ap, ◌∙◌, subst}
use Rattle.std.specs.Prelude.{IfSome, IsSome, if◌then◌else◌}
use Rattle.plc_base.specs.declared.keeper.Cut.{Cut}
use Rattle.plc_base.specs.declared.out_frame.Out.{Out}
use Rattle.plc_base.specs.Keeper.{Records}
use Rattle.store_tables.specs.Writes.{Writes, write}
use Rattle.node_rules.specs.Plans.{Plan, Outcome, carry_out, outcome_of, finished, halted}
use Rattle.node_rules.specs.States.{State}
use Rattle.node_rules.specs.CarriedPlans.{Carries, given}
use Rattle.flash_nodes.specs.Openings.{IsDecidedBy, given_of, OpeningsDecideCuts, RunningNodesAreSettled}
use Rattle.flash_nodes.specs.Openings.{FlashOpeningsAreFound, FlashReopeningsAreFound}
use Rattle.flash_nodes.proofs.DecidedCuts.{Decides, decided, settled_after}

both_bounds : (n : ℕ) (cut : Option Cut) → IfSome cut (λ c. 1 ≤ c.nth) → IfSome cut (λ c. c.nth ≤ n) → IfSome cut (λ c. (1 ≤ c.nth) × (c.nth ≤ n))
both_bounds n None low high = tt
both_bounds n (Some c) low high = (low, high)

-- a call left a memory only where none of its puts failed
was_done : {M : Type 0} (done : Bool) (m : M) (memory : Option M) → memory ≡ (if done then Some m else None) → IsSome memory → done ≡ true
was_done true m memory e h = refl
was_done false m None e h = absurd (cc)
was_done false m (Some n) e h = absurd (cc)

module _ {M A : Type 0} (old new : State M) (p : Plan M A) (answer : A) (out : Out) (found : Records) (c : Carries old p answer out new) where
  left_memory : new.memory ≡ (if c.done then Some p.memory else None)
  left_memory = ap (λ (s : State M). s.memory) c.new_is

  by_done : (cut : Option Cut) → Decides old.store p.puts c.done found cut → (d : Bool) → c.done ≡ d
      → IsDecidedBy old.store.records p answer out new.memory found cut
  unfolding carry_out
  by_done cut is true e =
      let w = write p.puts cut old.store.records in
      let whole : w.whole ≡ true = sym is.whole ∙ e in
      let o : outcome_of w p ≡ finished w p = ap (λ b. if b then finished w p else halted w p) whole in
      record {
        answer_is = c.answer_is ∙ ap (λ b. if b then p.answer else p.failed) e ∙ ap (λ (q : Outcome M A). q.answer) (sym o);
        out_is = c.out_is ∙ ap (given p) e ∙ ap given_of (sym o);
        memory_is = left_memory ∙ ap (λ b. if b then Some p.memory else None) e ∙ ap (λ (q : Outcome M A). q.memory) (sym o);
        records_is = is.records ∙ ap (λ (q : Outcome M A). q.records) (sym o);
        comes = both_bounds (length p.puts) cut is.from is.to;
        spent = ap (λ (q : Outcome M A). q.cut) o ∙ is.spent;
        none = λ running. is.none (was_done c.done p.memory new.memory left_memory running);
      }
  by_done cut is false e =
      let w = write p.puts cut old.store.records in
      let whole : w.whole ≡ false = sym is.whole ∙ e in
      let o : outcome_of w p ≡ halted w p = ap (λ b. if b then finished w p else halted w p) whole in
      record {
        answer_is = c.answer_is ∙ ap (λ b. if b then p.answer else p.failed) e ∙ ap (λ (q : Outcome M A). q.answer) (sym o);
        out_is = c.out_is ∙ ap (given p) e ∙ ap given_of (sym o);
        memory_is = left_memory ∙ ap (λ b. if b then Some p.memory else None) e ∙ ap (λ (q : Outcome M A). q.memory) (sym o);
        records_is = is.records ∙ ap (λ (q : Outcome M A). q.records) (sym o);
        comes = both_bounds (length p.puts) cut is.from is.to;
        spent = ap (λ (q : Outcome M A). q.cut) o ∙ is.spent;
        none = λ running. is.none (was_done c.done p.memory new.memory left_memory running);
      }

pub openings_decide : {M A : Type 0} → OpeningsDecideCuts M A
openings_decide old new p answer out found settled c may =
    let k = decided old.store new.store p.puts c.done found settled c.wrote.by may in
    (k.0, by_done old new p answer out found c k.0 k.1 c.done refl)

pub running_settled : {M A : Type 0} → RunningNodesAreSettled M A
running_settled old new p answer out settled c running =
    let done : c.done ≡ true = was_done c.done p.memory new.memory (left_memory old new p answer out old.store.records c) running in
    settled_after old.store new.store p.puts settled (subst (λ b. Writes old.store p.puts b new.store) done c.wrote.by)

pub flash_opened : FlashOpeningsAreFound
flash_opened before after is = (is.one, is.left)

pub flash_reopened : FlashReopeningsAreFound
flash_reopened before after is left = (is.records, left)
