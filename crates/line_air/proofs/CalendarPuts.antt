-- A moment that is put into a calendar stands after all that are due no later: its number is above theirs.
use Rattle.std.proofs.Common.{◌≡◌, inl, inr, ℕ, ◌+◌, ◌<◌, ◌≤◌, true, false, cond, ltb, List, [], ◌∷◌, length, Some, refl, sym, ap}
use Rattle.std.proofs.Common.{◌∙◌, arith}
use Rattle.std.proofs.lemmas.Bool.{cases_order}
use Rattle.std.proofs.lemmas.Bool.Decides.{nat_tests}
use Rattle.std.specs.declared.cmp.Ordering.{Ordering}
use Rattle.std.specs.declared.cmp.Ordering.TheVariants.{Less, Equal, Greater}
use Rattle.std.specs.Ordering.{nat_cmp, ordering_then, match_ordering}
use Rattle.std.specs.BTreeMap.{insert_entry}
use Rattle.std.specs.Prelude.{slice_get}
use Rattle.line_air.specs.declared.calendar.Moment.{Moment}
use Rattle.line_air.specs.Calendars.{put, first_time}
use Rattle.line_air.specs.Numbered.{due_of, AreBefore}

-- keys by their time, and then by their number
abbrev pub key_cmp : ℕ × ℕ → ℕ × ℕ → Ordering
key_cmp x y = ordering_then (nat_cmp x.0 y.0) (nat_cmp x.1 y.1)

is_less : (x y : ℕ) → x < y → nat_cmp x y ≡ Less
is_less x y h = grind (arith, nat_tests)

is_same : (x y : ℕ) → x ≡ y → nat_cmp x y ≡ Equal
is_same x y h = grind (arith, nat_tests)

is_more : (x y : ℕ) → y < x → nat_cmp x y ≡ Greater
is_more x y h = grind (arith, nat_tests)

not_before : (x y : ℕ) → y ≤ x → ltb x y ≡ false
not_before x y h = grind (arith, nat_tests)

is_before : (x y : ℕ) → x < y → ltb x y ≡ true
is_before x y h = grind (arith, nat_tests)

-- where a moment comes after the first one, it comes into the rest
goes_on : (e : (ℕ × ℕ) × Moment) (es new : List ((ℕ × ℕ) × Moment)) (at : ℕ) (moment : Moment) → ltb at e.0.0 ≡ false →
    due_of new ≡ put at moment (due_of es) → due_of (e ∷ new) ≡ put at moment (due_of (e ∷ es))
goes_on e es new at moment after_it rest =
    ap (λ ds. record { at = e.0.0; moment = e.1 } ∷ ds) rest
    ∙ sym (ap (λ b. cond b (record { at = at; moment = moment } ∷ due_of (e ∷ es)) (record { at = e.0.0; moment = e.1 } ∷ put at moment (due_of es))) after_it)

pub put_in : (entries : List ((ℕ × ℕ) × Moment)) (at next : ℕ) (moment : Moment) → AreBefore next entries →
    due_of (insert_entry key_cmp entries (at, next) moment) ≡ put at moment (due_of entries)
put_in [] at next moment before = refl
put_in (e ∷ es) at next moment before =
    let rest : due_of (insert_entry key_cmp es (at, next) moment) ≡ put at moment (due_of es) = put_in es at next moment before.1 in
    elim (cases_order at e.0.0) [
      | inl same ↦
          ap (λ o. due_of (match_ordering o (((at, next), moment) ∷ e ∷ es) ((e.0, moment) ∷ es) (e ∷ insert_entry key_cmp es (at, next) moment)))
          (ap (λ o. ordering_then o (nat_cmp next e.0.1)) (is_same at e.0.0 same) ∙ is_more next e.0.1 before.0)
          ∙ goes_on e es (insert_entry key_cmp es (at, next) moment) at moment (not_before at e.0.0 (omega arith)) rest
      | inr (inl less) ↦
          ap (λ o. due_of (match_ordering o (((at, next), moment) ∷ e ∷ es) ((e.0, moment) ∷ es) (e ∷ insert_entry key_cmp es (at, next) moment)))
          (ap (λ o. ordering_then o (nat_cmp next e.0.1)) (is_less at e.0.0 less))
          ∙ sym (ap (λ b. cond b (record { at = at; moment = moment } ∷ due_of (e ∷ es)) (record { at = e.0.0; moment = e.1 } ∷ put at moment (due_of es)))
          (is_before at e.0.0 less))
      | inr (inr more) ↦
          ap (λ o. due_of (match_ordering o (((at, next), moment) ∷ e ∷ es) ((e.0, moment) ∷ es) (e ∷ insert_entry key_cmp es (at, next) moment)))
          (ap (λ o. ordering_then o (nat_cmp next e.0.1)) (is_more at e.0.0 more))
          ∙ goes_on e es (insert_entry key_cmp es (at, next) moment) at moment (not_before at e.0.0 (omega arith)) rest
    ]

-- the numbers stay below the next one
more_before : (entries : List ((ℕ × ℕ) × Moment)) (next : ℕ) → AreBefore next entries → AreBefore (next + 1) entries
more_before [] next before = tt
more_before (e ∷ es) next before = (omega (arith, before.0), more_before es next before.1)

pub put_before : (entries : List ((ℕ × ℕ) × Moment)) (at next : ℕ) (moment : Moment) → AreBefore next entries →
    AreBefore (next + 1) (insert_entry key_cmp entries (at, next) moment)
put_before [] at next moment before = (omega arith, tt)
put_before (e ∷ es) at next moment before =
    elim (key_cmp (at, next) e.0) as
    (λ o. AreBefore (next + 1) (match_ordering o (((at, next), moment) ∷ e ∷ es) ((e.0, moment) ∷ es) (e ∷ insert_entry key_cmp es (at, next) moment))) [
      | Less ↦ (omega arith, more_before (e ∷ es) next before)
      | Equal ↦ (omega (arith, before.0), more_before es next before.1)
      | Greater ↦ (omega (arith, before.0), put_before es at next moment before.1)
    ]

pub first_in : (entries : List ((ℕ × ℕ) × Moment)) (p : (ℕ × ℕ) × Moment) → slice_get entries 0 ≡ Some p →
    first_time (due_of entries) ≡ Some p.0.0
first_in [] p e = cc
first_in (q ∷ es) p e = (let same : q ≡ p = cc in ap (λ (r : (ℕ × ℕ) × Moment). Some r.0.0) same)

pub none_in : (entries : List ((ℕ × ℕ) × Moment)) → length entries ≡ 0 → due_of entries ≡ []
none_in [] e = refl
none_in (q ∷ es) e = absurd (omega arith)

pub ruleset putting = (put_in, put_before, first_in, none_in)
