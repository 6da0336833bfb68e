-- Two joinings that are done have another RAND_S each: along a run no value is done more often than it was given.
use Rattle.std.proofs.Common.{◌≡◌, ◌≢◌, ℕ, suc, ◌≤◌, ◌<◌, ◌+◌, Bool, true, false, List, [], ◌∷◌, length, Option, Some, None, Ok, refl, sym, ap, subst}
use Rattle.std.proofs.Common.{◌∙◌}
use Rattle.std.proofs.Common.{arith}
use Rattle.std.specs.Prelude.{All, AllPairs, if◌then◌else◌, slice_get, slice_index_or}
use Rattle.std.proofs.lemmas.List.Elements.{All-cons, All-nil}
use Rattle.std.proofs.lemmas.List.Kept.{AllPairs-cons}
use Rattle.std.proofs.lemmas.Option.{same_Some}
use Rattle.std.proofs.lemmas.Slice.Eq.{bytes_eq-Decides}
use Rattle.plc_base.specs.declared.key.RandomOctets.{RandomOctets}
use Rattle.node_rules.specs.Ciphers.{network}
use Rattle.line_flights.specs.Flights.{same_rand}
use Rattle.line_rules.specs.Runs.{Entry, one_of, takings}
use Rattle.line_rules.specs.Worlds.{Pairing, World, start}
use Rattle.line_laws.specs.Owed.{KeepsRanges}
use Rattle.line_laws.proofs.AgreeTags.{rand_same}
use Rattle.line_laws.proofs.FurtherSame.{line_step_any}
use Rattle.line_laws.proofs.LineRuns.{AreLawful, Lawful}
use Rattle.run_laws.specs.JoiningsApart.{AreApart, RandomsDiffer, completions, random_in, randoms_given}
use Rattle.run_laws.proofs.RandomCounts.{as_it_is, once, once_self, times, times_append}
use Rattle.run_laws.proofs.RandomEvents.{Light, LightIn, OthersAreMeters, done_of, held_by, line_light}

-- # Lists

-- where all values differ, each is there once at most
absent : (v : RandomOctets) (xs : List RandomOctets) → ((j : ℕ) (d : RandomOctets) → j < length xs → v ≢ slice_index_or xs j d) → times as_it_is v xs ≡ 0
absent v [] other = refl
absent v (x ∷ xs) other = by_same (same_rand v x) refl (absent v xs (λ j d within. other (suc j) d (omega arith)))
  where
    by_same : (b : Bool) → same_rand v x ≡ b → times as_it_is v xs ≡ 0 → (if b then 1 else 0) + times as_it_is v xs ≡ 0
    by_same true e none = absurd (other 0 x (omega arith) (rand_same v x ((bytes_eq-Decides v.0 x.0).0 e)))
    by_same false e none = omega arith

differ_once : (v : RandomOctets) (xs : List RandomOctets) → AllPairs (λ (a b : RandomOctets). a ≢ b) xs → times as_it_is v xs ≤ 1
differ_once v [] apart = omega arith
differ_once v (x ∷ xs) apart =
    by_same (same_rand v x) refl (differ_once v xs (λ i j d lt within. apart (suc i) (suc j) d (omega arith) (omega arith)))
  where
    by_same : (b : Bool) → same_rand v x ≡ b → times as_it_is v xs ≤ 1 → (if b then 1 else 0) + times as_it_is v xs ≤ 1
    by_same true e rest =
        let same : v ≡ x = rand_same v x ((bytes_eq-Decides v.0 x.0).0 e) in
        let none = absent v xs (λ j d within is. apart 0 (suc j) d (omega arith) (omega arith) (sym same ∙ is)) in
        omega arith
    by_same false e rest = omega arith

-- where each value is there once at most, two have another one each
module _ {A : Type 0} (value : A → RandomOctets) where
  others_differ : (x : A) (xs : List A) → times value (value x) xs ≤ 0 → All (λ (y : A). value x ≢ value y) xs
  others_differ x [] none = All-nil (λ (y : A). value x ≢ value y)
  others_differ x (y ∷ ys) none = All-cons (λ (y : A). value x ≢ value y) y ys
      (λ e. let one : once (value x) (value y) ≡ 1 = ap (once (value x)) (sym e) ∙ once_self (value x) in absurd (omega arith))
      (others_differ x ys (omega arith))

  once_apart : (xs : List A) → ((v : RandomOctets) → times value v xs ≤ 1) → AllPairs (λ (a b : A). value a ≢ value b) xs
  once_apart [] few = λ i j d lt within. absurd (omega arith)
  once_apart (x ∷ xs) few = AllPairs-cons (λ (a b : A). value a ≢ value b) x xs
      (others_differ x xs (let one = few (value x) in let self = once_self (value x) in omega arith))
      (once_apart xs (λ v. let all = few v in omega arith))

-- # Runs

rand_s_in : Pairing → RandomOctets
rand_s_in p = p.agreed.rand_s

one_done : (v : RandomOctets) (o : Option Pairing) → times rand_s_in v (one_of o) ≡ done_of v o
unfolding rand_s_in
one_done v None = refl
one_done v (Some p) = omega arith

module _ (fits : KeepsRanges network) (v : RandomOctets) where
  light_at : (w : World) (x : Entry) → Lawful network w x → OthersAreMeters w.nodes → Light v w (times as_it_is v (random_in x.event)) (x.after, x.trace)
  light_at w x l others =
      let b = l.before in
      let is : LightIn v w (times as_it_is v (random_in x.event)) (Ok (x.after, x.trace)) =
      subst (LightIn v w (times as_it_is v (random_in x.event))) l.step
      (line_light v network w b.ok.first others x.event _ (line_step_any network fits w b.ok b.flown b.logs x.event l.says) l.says) in
      is

  few_done : (w : World) → OthersAreMeters w.nodes → (entries : List Entry) → AreLawful network w entries
      → times rand_s_in v (completions entries) ≤ held_by v w.nodes + times as_it_is v (randoms_given entries)
  few_done w others [] lawful = omega arith
  few_done w others (x ∷ xs) lawful =
      let h = light_at w x lawful.0 others in
      let light = h.less in
      let rest = few_done x.after h.others xs lawful.1 in
      let done = times_append rand_s_in v (one_of x.trace.done) (completions xs) in
      let one = one_done v x.trace.done in
      let given = times_append as_it_is v (random_in x.event) (randoms_given xs) in
      omega arith

apart_of : (taken : List Pairing) (p q : Pairing) → p.agreed.rand_s ≢ q.agreed.rand_s → AreApart taken p q
apart_of taken p q differ = record {
  values = differ;
  takings = λ i j first second same. differ (ap (λ (r : Pairing). r.agreed.rand_s) (same_Some p q (sym first ∙ ap (slice_get taken) same ∙ second)));
}

pub each_is_own : (fits : KeepsRanges network) (entries : List Entry) → AreLawful network start entries → RandomsDiffer entries
    → AllPairs (AreApart (takings entries)) (completions entries)
unfolding rand_s_in
each_is_own fits entries lawful differ =
    let apart = once_apart rand_s_in (completions entries) (λ v.
    let less = few_done fits v start tt entries lawful in
    let once_given = differ_once v (randoms_given entries) differ in
    omega arith) in
    λ i j d lt within. apart_of (takings entries) _ _ (apart i j d lt within)
