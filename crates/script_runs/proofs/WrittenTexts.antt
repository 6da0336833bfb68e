-- What was written of a text.
use Rattle.std.proofs.Common.{◌≡◌, inl, inr, ℕ, List, [], ◌++◌, Result, refl, sym, ◌∙◌, ap}
use Rattle.std.proofs.lemmas.List.{append-nil}
use Rattle.plc_base.specs.Streams.{SinkState, SinkRose, HasWritten}
use Rattle.script_runs.specs.declared.status.Status.{Status}
use Rattle.script_runs.specs.declared.status.Status.TheVariants as status
use Rattle.script_runs.specs.Texts.{WritesText}

module _ {T E : Type 0} {s0 s1 : SinkState} {r : Result T E} {text : List ℕ} (done : Status) (h : HasWritten s0 s1 r text) where
  -- all of a text was written
  pub wrote_all : h.rest ≡ [] → WritesText text done s0 s1 done
  wrote_all none = record {
    w = h.front;
    wrote = h.appends;
    by = inl (refl, sym (h.whole ∙ ap (λ (l : List ℕ). h.front ++ l) none ∙ append-nil h.front));
    faults = h.faults;
  }

  -- the sink failed
  pub wrote_part : SinkRose s0 s1 → WritesText text done s0 s1 status.WriteFault
  wrote_part rose = record {
    w = h.front;
    wrote = h.appends;
    by = inr (refl, rose, record { rest = h.rest; whole = h.whole });
    faults = h.faults;
  }
