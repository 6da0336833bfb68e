use Rattle.std.proofs.Common.{◌≡◌, ℕ, List, Result, Ok, Err, ap, subst, sym}
use Rattle.std.specs.Prelude.{IfOk}
use Rattle.store_tables.specs.Numberings.{AllBelow}
use Rattle.frame_counters.specs.SendCounter.{Counting}
use Rattle.frame_counters.proofs.Given.{next_is_fresh}
use Rattle.frame_counters.proofs.send_counter.SendCounter.reserve.Goals as goal

below : {E : Type 0} (result : Result ℕ E) (next : ℕ) (given : List ℕ) → IfOk result (λ number. number ≡ next) → AllBelow next given
    → IfOk result (λ number. AllBelow number given)
below (Ok number) next given is h = subst (λ (n : ℕ). AllBelow n given) (sym is) h
below (Err fault) next given is h = tt

pub returns-clause-fresh : goal.returns-clause-fresh
returns-clause-fresh g c given history =
    below c.reserve.result c.self.inside.numbering.next given c.reserve.ensures.number
    (subst (λ (n : ℕ). AllBelow n given) (ap (λ (k : Counting). k.next) (sym c.self.view_is))
    (next_is_fresh given c.args.self.now (g.K.Keeper.store c.args.keeper.now).records history))
