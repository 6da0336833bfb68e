-- A link of a station that broke.
use Rattle.std.proofs.Common.{◌≡◌, ℕ, true, Option, Some, None, Result, Ok, Err, refl, sym, subst}
use Rattle.std.specs.Prelude.{IfSome, IfNone, MatchResult}
use Rattle.store_tables.proofs.WritesLemmas.{wrote_none}
use Rattle.node_rules.specs.declared.refusal.Halted.{Halted}
use Rattle.node_rules.specs.Calls as calls
use Rattle.node_rules.specs.CarriedPlans.{Carries, nothing}
use Rattle.node_rules.specs.Memory.{StationMemory}
use Rattle.node_rules.specs.Plans.{resting}
use Rattle.node_rules.specs.States.{State}
use Rattle.line_events.specs.declared.event.Answer.{Answer}
use Rattle.line_events.specs.declared.event.Answer.TheVariants as answers

-- the word for a link that broke
abbrev pub IsBrokenWord : Result (Unit {0}) Halted → Answer → Type 0
IsBrokenWord broke word = MatchResult broke (λ _. word ≡ answers.Broken) (λ _. word ≡ answers.Halted)

-- a change of what is in memory, of which nothing is stored
changed : {A : Type 0} (s t : State StationMemory) (l : StationMemory) (answer : A) → t ≡ record s { memory = Some l }
    → Carries s (resting l answer answer) answer nothing t
unfolding resting
changed {A} s t l answer e = subst (λ (k : State StationMemory). Carries s (resting l answer answer) answer nothing k) (sym e) (record {
  done = true;
  wrote = wrote_none s.store;
  answer_is = refl;
  out_is = refl;
  new_is = refl;
})

module _ (s t : State StationMemory) (next : ℕ) (r : Result (Unit {0}) Halted) (word : Answer) where
  pub stayed_broken : (o : Option StationMemory) → IsBrokenWord r word → IfNone o ((r ≡ Err (record {})) × (t ≡ s))
      → IfNone o ((word ≡ answers.Halted) × (t ≡ s))
  stayed_broken None is h = (subst (λ (k : Result (Unit {0}) Halted). IsBrokenWord k word) h.0 is, h.1)
  stayed_broken (Some l) is h = tt

  pub carries_broken : (o : Option StationMemory) → IsBrokenWord r word → IfSome o (λ l. (r ≡ Ok tt) × (t ≡ record s { memory = Some (calls.broke next l) }))
      → IfSome o (λ l. Carries s (resting (calls.broke next l) answers.Broken answers.Broken) word nothing t)
  carries_broken None is h = tt
  carries_broken (Some l) is h =
      let w : word ≡ answers.Broken = subst (λ (k : Result (Unit {0}) Halted). IsBrokenWord k word) h.0 is in
      subst (λ (k : Answer). Carries s (resting (calls.broke next l) answers.Broken answers.Broken) k nothing t) (sym w)
      (changed s t (calls.broke next l) answers.Broken h.1)
