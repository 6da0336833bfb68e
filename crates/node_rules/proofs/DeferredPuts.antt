-- Puts that are stored after the call which made them.
use Rattle.std.proofs.Common.{◌≡◌, ℕ, suc, ◌+◌, ◌-◌, Bool, true, false, List, [], ◌∷◌, ◌++◌, length, Option, Some, None, refl, sym, subst, ap, ◌∙◌, arith}
use Rattle.std.specs.Prelude.{if◌then◌else◌, nat_lt, IsSome}
use Rattle.std.proofs.lemmas.Bool.Decides.{nat_tests}
use Rattle.std.specs.FinMap.{insert}
use Rattle.plc_base.specs.Keeper.{Records, Store, Write}
use Rattle.plc_base.specs.declared.keeper.Cut.{Cut}
use Rattle.plc_base.specs.declared.out_frame.Out.{Out}
use Rattle.store_tables.specs.Writes.{Writes, Wrote, Written, write}
use Rattle.node_rules.specs.Plans.{Plan, carry_out, outcome_of}
use Rattle.node_rules.specs.States.{State}
use Rattle.node_rules.specs.CarriedPlans.{Carries, given}
use Rattle.node_rules.specs.Laws.{all_put}
use Rattle.node_rules.proofs.ComposedPlans.{state_is}
use Rattle.node_rules.specs.DeferredPuts.{only_checked, DeferringPuts, CutsWhileStoring, cut_behind}

-- # Calls

-- puts of which none failed
stored_by : (ws : List Write) (s t : Store) → Writes s ws true t → t.records ≡ all_put ws s.records
stored_by [] s t h = ap (λ (k : Store). k.records) h.1
stored_by (w ∷ ws) s t (true, mid, p, rest, u) = stored_by ws mid t rest ∙ ap (all_put ws) p.stored
stored_by (w ∷ ws) s t (false, mid, p, u, stop) = absurd (cc (stop.0))

was_done : {M : Type 0} (done : Bool) (m : M) (memory : Option M) → memory ≡ (if done then Some m else None) → IsSome memory → done ≡ true
was_done true m memory e h = refl
was_done false m None e h = absurd (cc)
was_done false m (Some n) e h = absurd (cc)

-- the call halted nothing
module _ {M A : Type 0} (old new : State M) (p : Plan M A) (answer : A) (out : Out) (c : Carries old p answer out new) (running : IsSome new.memory) where
  known : c.done ≡ true
  known = was_done c.done p.memory new.memory (ap (λ (s : State M). s.memory) c.new_is) running

  answer_known : answer ≡ p.answer
  answer_known = c.answer_is ∙ ap (λ (b : Bool). if b then p.answer else p.failed) known

  out_known : out ≡ given p true
  out_known = c.out_is ∙ ap (given p) known

  eui_known : new.eui ≡ old.eui
  eui_known = ap (λ (s : State M). s.eui) c.new_is

  memory_known : new.memory ≡ Some p.memory
  memory_known = ap (λ (s : State M). s.memory) c.new_is ∙ ap (λ (b : Bool). if b then Some p.memory else None) known

  pub wrote_known : Wrote old.store p.puts true new.store
  wrote_known = subst (λ (b : Bool). Wrote old.store p.puts b new.store) known c.wrote

  carries_after : (stored kept : Store) (done : Bool) → Wrote stored p.puts done kept
      → Carries (record old { store = stored }) p (if done then answer else p.failed) (if done then out else only_checked out)
      (record new { store = kept; memory = if done then new.memory else None })
  carries_after stored kept true wrote = record {
    done = true;
    wrote = wrote;
    answer_is = answer_known;
    out_is = out_known;
    new_is = state_is (record new { store = kept }) old.eui (Some p.memory) eui_known memory_known;
  }
  carries_after stored kept false wrote = record {
    done = false;
    wrote = wrote;
    answer_is = refl;
    out_is = ap only_checked out_known;
    new_is = state_is (record new { store = kept; memory = None }) old.eui None eui_known refl;
  }

  same_records : (stored kept : Store) (done : Bool) → stored.records ≡ old.store.records → Wrote stored p.puts done kept → done ≡ true
      → kept.records ≡ new.store.records
  same_records stored kept true same wrote e =
      stored_by p.puts stored kept wrote.by ∙ ap (all_put p.puts) same ∙ sym (stored_by p.puts old.store new.store wrote_known.by)
  same_records stored kept false same wrote e = absurd (cc)

pub deferred : {M A : Type 0} → DeferringPuts M A
deferred {M} {A} old new p answer out stored kept done c running same wrote = record {
  carries = carries_after old new p answer out c running stored kept done wrote;
  records = same_records old new p answer out c running stored kept done same wrote;
}

-- # Losses of power

-- what is left of puts under a loss of power at the one after those in front
abbrev left_of : (keeps_new : Bool) (front : List Write) (w : Write) (records : Records) → Written
left_of keeps_new front w records =
    record { whole = false; records = (if keeps_new then all_put (front ++ w ∷ []) records else all_put front records); cut = None }

-- a put that the loss of power spares
spared : (w : Write) (rest : List Write) (cut : Cut) (records : Records) → nat_lt 1 cut.nth ≡ true
    → write (w ∷ rest) (Some cut) records ≡ write rest (Some (record cut { nth = cut.nth - 1 })) (insert records w.slot w.octets)
spared w rest cut records far = rw far refl

further : (n : ℕ) → nat_lt 1 (suc (suc n)) ≡ true
further n = grind (arith, nat_tests)

one_less : (n : ℕ) → suc (suc n) - 1 ≡ suc n
one_less n = omega arith

-- the first put is the one that power fails in
cut_here : (keeps_new : Bool) (w : Write) (rest : List Write) (records : Records)
    → write (w ∷ rest) (Some (record { nth = 1; keeps_new = keeps_new })) records ≡ left_of keeps_new [] w records
cut_here true w rest records = refl
cut_here false w rest records = refl

cut_at : (keeps_new : Bool) (front : List Write) (w : Write) (rest : List Write) (records : Records)
    → write (front ++ w ∷ rest) (Some (record { nth = suc (length front); keeps_new = keeps_new })) records ≡ left_of keeps_new front w records
cut_at keeps_new [] w rest records = cut_here keeps_new w rest records
cut_at keeps_new (f ∷ front) w rest records =
    spared f (front ++ w ∷ rest) (record { nth = suc (suc (length front)); keeps_new = keeps_new }) records (further (length front))
    ∙ ap (λ (n : ℕ). write (front ++ w ∷ rest) (Some (record { nth = n; keeps_new = keeps_new })) (insert records f.slot f.octets)) (one_less (length front))
    ∙ cut_at keeps_new front w rest (insert records f.slot f.octets)

one_later : (n : ℕ) → n + 1 ≡ suc n
one_later n = omega arith

at_put : (keeps_new : Bool) (puts front : List Write) (w : Write) (rest : List Write) (records : Records) → puts ≡ front ++ w ∷ rest
    → write puts (Some (cut_behind front keeps_new)) records ≡ left_of keeps_new front w records
at_put keeps_new puts front w rest records split =
    ap (λ (ws : List Write). write ws (Some (cut_behind front keeps_new)) records) split
    ∙ ap (λ (n : ℕ). write (front ++ w ∷ rest) (Some (record { nth = n; keeps_new = keeps_new })) records) (one_later (length front))
    ∙ cut_at keeps_new front w rest records

pub cut_while_storing : {M A : Type 0} → CutsWhileStoring M A
unfolding carry_out
cut_while_storing {M} {A} records p front w rest keeps_new split =
    let left = at_put keeps_new p.puts front w rest records split in
    (ap (λ (x : Written). (outcome_of x p).records) left, ap (λ (x : Written). (outcome_of x p).frames) left)
