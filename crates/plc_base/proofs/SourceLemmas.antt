-- What reads give, and leave of a source's plan and faults.
use Rattle.std.proofs.Common.{◌≡◌, ℕ, List, [], ◌++◌, Option, Some, None, IfSome, Result, Ok, Bool, true, false, ◌||◌, IsTrue, refl, sym, ◌∙◌, ap, subst, arith}
use Rattle.std.proofs.Common.{append_assoc, append-nil}
use Rattle.std.proofs.lemmas.Bool.{eq-eqb}
use Rattle.std.proofs.KnownBytes.{Consumes-nil, Consumes-trans, Consumes-kept}
use Rattle.std.specs.Io.KnownBytes.{IsAtEnd}
use Rattle.plc_base.specs.Streams.{Gives, GivesNone, SourceState, ReadPlan, FollowsReadPlan, Reads, PlansNoFailedRead, SourceFaults, ReadFaults}

-- ---- what was given

pub gives_none : (s : SourceState) → Gives s s []
gives_none s = record { given = sym (append-nil s.given); left = Consumes-nil s.left }

-- some octets after others
pub gives_both : {first middle last : SourceState} (xs ys : List ℕ) → Gives first middle xs → Gives middle last ys → Gives first last (xs ++ ys)
gives_both {first} {middle} {last} xs ys g h = record {
  given = h.given ∙ ap (λ (l : List ℕ). l ++ ys) g.given ∙ append_assoc first.given xs ys;
  left = Consumes-trans first.left middle.left last.left xs ys g.left h.left;
}

-- nothing after some octets
pub gives_kept : {first middle last : SourceState} (xs : List ℕ) → Gives first middle xs → GivesNone middle last → Gives first last xs
gives_kept {first} {middle} {last} xs g h = record {
  given = h.given ∙ g.given;
  left = Consumes-kept first.left middle.left last.left xs g.left h.left;
}

-- ---- the plan and the faults

pub no_reads : (s : SourceState) → SourceFaults s s
no_reads s = record { later = omega arith; none = λ plan. (plan, refl) }

-- some reads after others
pub both_reads : {first middle last : SourceState} → SourceFaults first middle → SourceFaults middle last → SourceFaults first last
both_reads f g = record {
  later = omega (arith, f.later, g.later);
  none = λ plan. let before = f.none plan in let after = g.none before.0 in (after.0, after.1 ∙ before.1);
}

-- a read fails only where the count rose, and not where none is listed
pub one_read : {E : Type 0} {old new : SourceState} {result : Result ℕ E} {buf : List ℕ} → Reads old new result buf → ReadFaults old new result
one_read {E} {old} {new} {result} {buf} r = record {
  faults = record { later = r.cause.later; none = by old.plan r.planned };
  failed = r.cause.failed;
}
  where
    by : (p : Option ReadPlan) → IfSome p (λ plan. FollowsReadPlan plan old new result buf) → PlansNoFailedRead p
        → PlansNoFailedRead new.plan × (new.faults ≡ old.faults)
    by None planned none = absurd none
    by (Some plan) planned none = (subst PlansNoFailedRead (sym planned.plan_is) none, planned.faults_is ∙ rw none refl)

or_true : (b : Bool) → (b || true) ≡ true
or_true true = refl
or_true false = refl

-- after an answer of 0 the source has ended, and none is left
pub ends_there : {E : Type 0} {old new : SourceState} {buf : List ℕ} (n : ℕ) → Reads {E = E} old new (Ok n) buf → n ≡ 0 → IsTrue new.ended × IsAtEnd new.left
ends_there {E} {old} {new} n r none = let over : IsTrue new.ended = r.ends ∙ rw (eq-eqb n 0 none) (or_true old.ended) in (over, r.none_left over)
