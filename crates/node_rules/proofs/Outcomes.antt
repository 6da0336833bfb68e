-- A plan that is carried out is carried out as the function gives it.
use Rattle.std.proofs.Common.{◌≡◌, Bool, true, false, Option, Some, None, refl, sym, ap, subst, ◌∙◌}
use Rattle.std.specs.Prelude.{IfSome, if◌then◌else◌}
use Rattle.std.specs.Bool.{OnFalse}
use Rattle.plc_base.specs.declared.keeper.Cut.{Cut}
use Rattle.plc_base.specs.declared.out_frame.Out.{Out}
use Rattle.store_tables.specs.Writes.{IsCutBy, write}
use Rattle.store_tables.proofs.WritesLemmas.{cut_of}
use Rattle.node_rules.specs.Plans.{Plan, Outcome, carry_out, outcome_of, finished, halted}
use Rattle.node_rules.specs.States.{State}
use Rattle.node_rules.specs.CarriedPlans.{Carries}
use Rattle.node_rules.specs.CarriedPlans.{Shows, IsCarriedOut}

known_first : (P Q : Option Cut → Type 0) (o : Option (Option Cut)) → IfSome o (λ c. P c × Q c) → IfSome o P
known_first P Q None h = tt
known_first P Q (Some c) h = h.0

known_second : (P Q : Option Cut → Type 0) (o : Option (Option Cut)) → IfSome o (λ c. P c × Q c) → IfSome o Q
known_second P Q None h = tt
known_second P Q (Some c) h = h.1

no_fault : {F : Type 0} (done : Bool) → OnFalse done F → (F → ⊥) → done ≡ true
no_fault true r q = refl
no_fault false r q = absurd (q r)

pub carried : {M A : Type 0} (old : State M) (p : Plan M A) (answer : A) (out : Out) (new : State M) → Carries old p answer out new
    → IsCarriedOut old p answer out new
unfolding carry_out
carried {M} {A} old p answer out new c =
    let k = cut_of old.store new.store p.puts c.done c.wrote in
    record {
      cut = k.0;
      known_cut = known_first (λ d. d ≡ k.0) (λ d. new.store.known_cut ≡ Some (write p.puts k.0 old.store.records).cut) old.store.known_cut k.1.known_cut;
      shows = by_done k.0 k.1 c.done refl;
      fault = λ quiet. k.1.none (no_fault c.done k.1.rose quiet);
    }
  where
    by_done : (cut : Option Cut) → IsCutBy old.store p.puts c.done new.store cut → (d : Bool) → c.done ≡ d
        → Shows (outcome_of (write p.puts cut old.store.records) p) old answer out new
    by_done cut is true e =
        let w = write p.puts cut old.store.records in
        let whole : w.whole ≡ true = sym is.whole ∙ e in
        subst (λ (o : Outcome M A). Shows o old answer out new) (sym (ap (λ b. if b then finished w p else halted w p) whole)) (record {
          answer_is = rw e at c.answer_is;
          out_is = rw e at c.out_is;
          records_is = is.records;
          memory_is = ap (λ (s : State M). s.memory) c.new_is ∙ ap (λ b. if b then Some p.memory else None) e;
          eui_is = ap (λ (s : State M). s.eui) c.new_is;
          known_cut_is = known_second (λ d. d ≡ cut) (λ d. new.store.known_cut ≡ Some w.cut) old.store.known_cut is.known_cut;
        })
    by_done cut is false e =
        let w = write p.puts cut old.store.records in
        let whole : w.whole ≡ false = sym is.whole ∙ e in
        subst (λ (o : Outcome M A). Shows o old answer out new) (sym (ap (λ b. if b then finished w p else halted w p) whole)) (record {
          answer_is = rw e at c.answer_is;
          out_is = rw e at c.out_is;
          records_is = is.records;
          memory_is = ap (λ (s : State M). s.memory) c.new_is ∙ ap (λ b. if b then Some p.memory else None) e;
          eui_is = ap (λ (s : State M). s.eui) c.new_is;
          known_cut_is = known_second (λ d. d ≡ cut) (λ d. new.store.known_cut ≡ Some w.cut) old.store.known_cut is.known_cut;
        })
