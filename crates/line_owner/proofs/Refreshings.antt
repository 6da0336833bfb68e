-- Routes are given anew often enough, and no more often than was said.
use Rattle.std.proofs.Common.{◌≡◌, ◌≤◌, ◌<◌, ℕ, zero, suc, ◌+◌, ◌-◌, ◌*◌, ◌/◌, ltb, leb, eqb, ◌||◌, Bool, true, false}
use Rattle.std.proofs.Common.{refl, ap, ◌∙◌, inl, inr, arith}
use Rattle.std.proofs.lemmas.Nat.{div-add-mod', mod_below, le-div, mul-le}
use Rattle.std.proofs.lemmas.Bool.{false≢true, and_parts, and_from, or_left, or_cases, ltb-true, ltb-false, leb-true, eqb-true, eqb-false}
use Rattle.plan_tables.specs.declared.tables.Way.{Way}
use Rattle.plan_tables.specs.declared.tables.Way.TheVariants.{Push, Poll as PollWay}
use Rattle.line_owner.specs.declared.settings.Settings.{Settings}
use Rattle.line_owner.specs.declared.acts.Act.TheVariants.{Put}
use Rattle.line_owner.specs.declared.acts.Task.TheVariants.{Refresh}
use Rattle.line_owner.specs.Setups.{since_first, round_at, refresh_span, refreshes_before, round_acts_by}
use Rattle.line_owner.specs.Refreshings.{IsFirst, IsRefreshed, RoundsAreFresh, SpansHaveOne}
use Rattle.line_owner.specs.Times.{micros, later}

-- # Division

div_grows : (a b k : ℕ) → 0 < k → a ≤ b → a / k ≤ b / k
div_grows a b k some up = le-div (a / k) b k some (omega (arith, div-add-mod' a k))

same_div : (a b k : ℕ) → 0 < k → b / k ≡ a / k → a ≤ b + k
same_div a b k some same =
    let e : b / k * k ≡ a / k * k = ap (λ q. q * k) same in
    omega (arith, div-add-mod' a k, div-add-mod' b k, mod_below a k some)

-- # Spans

abbrev begins_span : (ℕ → ℕ) → ℕ → Bool
begins_span span n = leb n 1 || ltb (span (n - 1)) (span n)

-- a span that begins at a round, or before it
record Begun (span : ℕ → ℕ) (n : ℕ) : Type 0 where
  earlier : ℕ
  first : 1 ≤ earlier
  before : earlier ≤ n
  begins : begins_span span earlier ≡ true
  same : span earlier ≡ span n

or_right : (a b : Bool) → b ≡ true → (a || b) ≡ true
or_right true b e = refl
or_right false b e = e

begun : (span : ℕ → ℕ) → ((n : ℕ) → span n ≤ span (suc n)) → (n : ℕ) → Begun span (suc n)
begun span grows zero = record { earlier = 1; first = omega arith; before = omega arith; begins = refl; same = refl }
begun span grows (suc n) = by_test (begun span grows n) (ltb (span (suc n)) (span (suc (suc n)))) refl
  where
    by_test : Begun span (suc n) → (b : Bool) → ltb (span (suc n)) (span (suc (suc n))) ≡ b → Begun span (suc (suc n))
    by_test past true e = record {
      earlier = suc (suc n);
      first = omega arith;
      before = omega arith;
      begins = or_right (leb (suc (suc n)) 1) (ltb (span (suc (suc n) - 1)) (span (suc (suc n)))) (ap (λ m. ltb (span m) (span (suc (suc n)))) back ∙ e);
      same = refl;
    }
      where
        back : suc (suc n) - 1 ≡ suc n
        back = omega arith
    by_test past false e = record {
      earlier = past.earlier;
      first = past.first;
      before = omega (arith, past.before);
      begins = past.begins;
      same = past.same ∙ omega (arith, ltb-false (span (suc n)) (span (suc (suc n))) e, grows (suc n));
    }

-- # Rounds

since_grows : (settings : Settings) (a b : ℕ) → a ≤ b → since_first settings a ≤ since_first settings b
unfolding since_first
since_grows settings a b up =
    let every = micros settings.readings.every in
    omega (arith, mul-le (a - 1) every (b - 1) every (omega arith) (omega arith))

spans_grow : (settings : Settings) (a b : ℕ) → 0 < micros settings.readings.refresh_every → a ≤ b → refresh_span settings a ≤ refresh_span settings b
spans_grow settings a b some up =
    div_grows (since_first settings a) (since_first settings b) (micros settings.readings.refresh_every) some (since_grows settings a b up)

later_by : (from s t span : ℕ) → s ≤ t + span → later from s ≤ later from t + span
unfolding later
later_by from s t span near = omega arith

some_micros : (seconds : ℕ) → 0 < seconds → 0 < micros seconds
unfolding micros
some_micros seconds some = omega arith

-- # What a round begins with

puts : (way : Way) (refresh : Bool) (round at : ℕ) → refresh ≡ true → IsFirst (Put at Refresh) (round_acts_by way refresh round at)
puts Push true round at e = refl
puts PollWay true round at e = refl
puts way false round at e = absurd (false≢true e)

shows : (way : Way) (refresh : Bool) (round at : ℕ) → IsFirst (Put at Refresh) (round_acts_by way refresh round at) → refresh ≡ true
shows Push true round at h = refl
shows PollWay true round at h = refl
shows Push false round at h = cc
shows PollWay false round at h = cc

refreshing : (settings : Settings) (round : ℕ) → settings.readings.refresh ≡ true
    → (eqb (micros settings.readings.refresh_every) 0 || begins_span (refresh_span settings) round) ≡ true → IsRefreshed settings round
unfolding refreshes_before
refreshing settings round refresh begins =
    puts settings.readings.way (refreshes_before settings round) round (round_at settings round) (and_from settings.readings.refresh _ refresh begins)

pub rounds_are_fresh : RoundsAreFresh
rounds_are_fresh settings zero refresh some = absurd (omega (arith, some))
rounds_are_fresh settings (suc n) refresh some = by_test (eqb (micros settings.readings.refresh_every) 0) refl
  where
    by_test : (b : Bool) → eqb (micros settings.readings.refresh_every) 0 ≡ b
        → (earlier : ℕ) × (1 ≤ earlier) × (earlier ≤ suc n) × (IsRefreshed settings earlier)
        × (round_at settings (suc n) ≤ round_at settings earlier + micros settings.readings.refresh_every)
    by_test true e =
        (suc n, some, omega arith, refreshing settings (suc n) refresh (or_left (eqb (micros settings.readings.refresh_every) 0) _ e), omega arith)
    by_test false e =
        let span = micros settings.readings.refresh_every in
        let positive : 0 < span = omega (arith, eqb-false span 0 e) in
        let past = begun (refresh_span settings) (λ k. spans_grow settings k (suc k) positive (omega arith)) n in (
          past.earlier,
          past.first,
          past.before,
          refreshing settings past.earlier refresh (or_right (eqb span 0) (begins_span (refresh_span settings) past.earlier) past.begins),
          later_by (micros settings.readings.from) (since_first settings (suc n)) (since_first settings past.earlier) span
              (same_div (since_first settings (suc n)) (since_first settings past.earlier) span positive past.same),
        )

pub spans_have_one : SpansHaveOne
unfolding refreshes_before
spans_have_one settings earlier round some first less h =
    let span = micros settings.readings.refresh_every in
    let before = spans_grow settings earlier (round - 1) (some_micros settings.readings.refresh_every some) (omega arith) in
    let test = shows settings.readings.way (refreshes_before settings round) round (round_at settings round) h in
    elim (or_cases (eqb span 0) (begins_span (refresh_span settings) round) (and_parts settings.readings.refresh _ test).1)
    as (λ _. refresh_span settings earlier < refresh_span settings round) [
      | inl none ↦ absurd (omega (arith, eqb-true span 0 none, some_micros settings.readings.refresh_every some))
      | inr begins ↦ elim (or_cases (leb round 1) (ltb (refresh_span settings (round - 1)) (refresh_span settings round)) begins)
          as (λ _. refresh_span settings earlier < refresh_span settings round) [
            | inl one ↦ absurd (omega (arith, leb-true round 1 one))
            | inr grows ↦ omega (arith, before, ltb-true (refresh_span settings (round - 1)) (refresh_span settings round) grows)
          ]
    ]
