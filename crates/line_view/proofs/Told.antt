-- Why the status of an account came whose text is written once its script was read.
use Rattle.std.proofs.Common.{◌≡◌, ◌≤◌, ◌⊎◌, ℕ, Bool, List, [], ◌++◌, Option, None, Some, refl, sym, ap, subst, ◌∙◌, arith, inl, inr}
use Rattle.std.specs.Prelude.{is_some}
use Rattle.std.specs.Io.KnownBytes.{Appends}
use Rattle.plc_base.specs.Streams.{SourceState, SinkState, SourceRose, SinkRose}
use Rattle.script_lines.specs.declared.machine.Exit.{Exit}
use Rattle.script_lines.specs.declared.machine.Exit.TheVariants as exits
use Rattle.script_lines.specs.Clauses.{Comes}
use Rattle.script_lines.specs.Outcomes.{Outcome}
use Rattle.script_runs.specs.TakenLines.{first_bad}
use Rattle.script_runs.specs.declared.status.Status.{Status}
use Rattle.script_runs.specs.declared.status.Status.TheVariants as status
use Rattle.line_view.specs.RunMachines.{FollowsRun, RunRules, found_status, outcome_by}
use Rattle.line_view.specs.Tool.{Names, WritesBy}
use Rattle.line_view.proofs.StatusNames.{no_read, no_write, status_names}

-- # What was held

no_none : (octets : List ℕ) → None ≡ Some octets → ⊥
no_none octets is = cc

same_some : (xs octets : List ℕ) → Some xs ≡ Some octets → xs ≡ octets
same_some xs octets is = cc

-- what was written where nothing was before is all that is there
pub held_is : (before after : Option (List ℕ)) (octets w : List ℕ) → before ≡ Some [] → after ≡ Some octets → Appends before after w → octets ≡ w
held_is None after octets w none is appends = absurd (no_none [] none)
held_is (Some xs) None octets w none is appends = absurd (no_none octets is)
held_is (Some xs) (Some ys) octets w none is appends =
    sym (same_some ys octets is) ∙ appends ∙ ap (λ (front : List ℕ). front ++ w) (same_some xs [] none)

-- # Statuses of a text

memory_no_read : status.Memory ≡ status.ReadFault → ⊥
memory_no_read is = cc

memory_no_write : status.Memory ≡ status.WriteFault → ⊥
memory_no_write is = cc

write_no_read : status.WriteFault ≡ status.ReadFault → ⊥
write_no_read is = cc

read_no_write : status.ReadFault ≡ status.WriteFault → ⊥
read_no_write is = cc

bad_no_read : status.BadScript ≡ status.ReadFault → ⊥
bad_no_read is = cc

bad_no_write : status.BadScript ≡ status.WriteFault → ⊥
bad_no_write is = cc

by_read : {A B C : Type 0} (done result : Status) → ((result ≡ done) × A) ⊎ ((result ≡ status.WriteFault) × B × C)
    → (done ≡ status.ReadFault → ⊥) → result ≡ status.ReadFault → ⊥
by_read done result (inl d) never is = never (sym d.0 ∙ is)
by_read done result (inr f) never is = write_no_read (sym f.0 ∙ is)

by_write : {A B C : Type 0} (done result : Status) → ((result ≡ done) × A) ⊎ ((result ≡ status.WriteFault) × B × C)
    → (done ≡ status.WriteFault → ⊥) → result ≡ status.WriteFault → B
by_write done result (inl d) never is = absurd (never (sym d.0 ∙ is))
by_write done result (inr f) never is = f.1

by_named : {A B C : Type 0} (done result : Status) (bad : Bool) → ((result ≡ done) × A) ⊎ ((result ≡ status.WriteFault) × B × C)
    → Names done bad → Names result bad
by_named done result bad (inl d) names = subst (λ (x : Status). Names x bad) (sym d.0) names
by_named done result bad (inr f) names = subst (λ (x : Status). Names x bad) (sym f.0) tt

-- # Statuses of an account

module _ {M : Type 0} (rules : RunRules M) (says : M → List ℕ → Type 0) (last : M) (held : List ℕ) (sink0 sink1 : SinkState) (result : Status) where
  -- the source failed
  pub told_read : (outcome : List ℕ → Bool → Outcome M) (source0 source1 : SourceState) (held0 held1 : SinkState) (b w : List ℕ) (exit : Exit)
      → Comes outcome last source0 source1 held0 held1 b w exit → WritesBy rules.finding says last held exit sink0 sink1 result
      → result ≡ status.ReadFault → SourceRose source0 source1
  told_read outcome source0 source1 held0 held1 b w exits.Fine comes (inl t) is =
      absurd (by_read (found_status (rules.finding last)) result t.2.by (no_read (rules.finding last)) is)
  told_read outcome source0 source1 held0 held1 b w exits.Fine comes (inr none) is = absurd (memory_no_read (sym none.0 ∙ is))
  told_read outcome source0 source1 held0 held1 b w exits.BadScript comes wrote is = absurd (by_read status.BadScript result wrote.by bad_no_read is)
  told_read outcome source0 source1 held0 held1 b w exits.ReadFault comes none is = comes.0
  told_read outcome source0 source1 held0 held1 b w exits.Memory comes none is = absurd (memory_no_read (sym none.0 ∙ is))
  told_read outcome source0 source1 held0 held1 b w exits.WriteFault comes none is = absurd (memory_no_read (sym none.0 ∙ is))

  -- the sink failed
  pub told_write : (exit : Exit) → WritesBy rules.finding says last held exit sink0 sink1 result → result ≡ status.WriteFault → SinkRose sink0 sink1
  told_write exits.Fine (inl t) is = by_write (found_status (rules.finding last)) result t.2.by (no_write (rules.finding last)) is
  told_write exits.Fine (inr none) is = absurd (memory_no_write (sym none.0 ∙ is))
  told_write exits.BadScript wrote is = by_write status.BadScript result wrote.by bad_no_write is
  told_write exits.ReadFault none is = absurd (read_no_write (sym none.0 ∙ is))
  told_write exits.Memory none is = absurd (memory_no_write (sym none.0 ∙ is))
  told_write exits.WriteFault none is = absurd (memory_no_write (sym none.0 ∙ is))

  same_faults : sink1 ≡ sink0 → sink0.faults ≤ sink1.faults
  same_faults is = let f : sink1.faults ≡ sink0.faults = λ i. (is i).faults in omega (arith, f)

  -- the sink's count of faults does not fall
  pub told_sink : (exit : Exit) → WritesBy rules.finding says last held exit sink0 sink1 result → sink0.faults ≤ sink1.faults
  told_sink exits.Fine (inl t) = t.2.faults.later
  told_sink exits.Fine (inr none) = same_faults none.1
  told_sink exits.BadScript wrote = wrote.faults.later
  told_sink exits.ReadFault none = same_faults none.1
  told_sink exits.Memory none = same_faults none.1
  told_sink exits.WriteFault none = same_faults none.1

  nothing_names : (why : Status) (bad : Bool) → result ≡ why → Names why bad → Names result bad
  nothing_names why bad is names = subst (λ (x : Status). Names x bad) (sym is) names

  -- the status says whether a line is bad
  pub told_names : (first : M) → FollowsRun rules first → (source0 source1 : SourceState) (held0 held1 : SinkState) (b w : List ℕ) (exit : Exit)
      → Comes (outcome_by rules first) last source0 source1 held0 held1 b w exit → WritesBy rules.finding says last held exit sink0 sink1 result
      → Names result (is_some (first_bad b source1.ended))
  told_names first follows source0 source1 held0 held1 b w exits.Fine comes (inl t) =
      by_named (found_status (rules.finding last)) result (is_some (first_bad b source1.ended)) t.2.by
      (status_names rules first follows source0 source1 held0 held1 b w last exits.Fine (rules.finding last) (found_status (rules.finding last)) comes refl)
  told_names first follows source0 source1 held0 held1 b w exits.Fine comes (inr none) =
      nothing_names status.Memory (is_some (first_bad b source1.ended)) none.0 tt
  told_names first follows source0 source1 held0 held1 b w exits.BadScript comes wrote =
      by_named status.BadScript result (is_some (first_bad b source1.ended)) wrote.by
      (status_names rules first follows source0 source1 held0 held1 b w last exits.BadScript (rules.finding last) status.BadScript comes refl)
  told_names first follows source0 source1 held0 held1 b w exits.ReadFault comes none =
      nothing_names status.ReadFault (is_some (first_bad b source1.ended)) none.0 tt
  told_names first follows source0 source1 held0 held1 b w exits.Memory comes none =
      nothing_names status.Memory (is_some (first_bad b source1.ended)) none.0 tt
  told_names first follows source0 source1 held0 held1 b w exits.WriteFault comes none =
      nothing_names status.Memory (is_some (first_bad b source1.ended)) none.0 tt
