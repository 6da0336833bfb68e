-- What was written.
use Rattle.std.proofs.Common.{◌≡◌, ◌≤◌, ℕ, Bool, true, false, not, nat_lt, List, length, refl, sym, ap, subst, arith}
use Rattle.std.proofs.lemmas.Bool.Decides.{nat_tests}
use Rattle.std.specs.Prelude.{All, AllPairs}
use Rattle.plc_base.specs.Streams.{SinkState}
use Rattle.line_simulation.specs.Turns.{Ran}
use Rattle.line_sim.specs.declared.command.Mode.{Mode}
use Rattle.script_runs.specs.declared.status.Status.{Status}
use Rattle.script_runs.specs.Texts.{WritesText}
use Rattle.line_sim.specs.Arrivals.{IsCausal, InOrder, arrivals}
use Rattle.line_sim.specs.Recorders.{Recorded}
use Rattle.line_sim.specs.Scripts.{LeadsTo, InjectsNothing}
use Rattle.line_sim.specs.Times.{IsUpTo, times}
use Rattle.line_sim.specs.Tool.{IsRun, IsTextOf, status_of, WritesRun}

not_true : (test : Bool) → not test ≡ true → test ≡ false
not_true true is = cc
not_true false is = refl

none_inject : (n : ℕ) → nat_lt 0 n ≡ false → n ≡ 0
none_inject n is = grind (arith, nat_tests)

-- the script of a recorder that records injections, or none, is that of a run
pub is_run : (injects : ℕ) (recorder : Recorded) → LeadsTo recorder.script recorder.world → length recorder.script ≤ 67108864
    → (injects ≡ 0 → InjectsNothing recorder.script) → All IsCausal (arrivals recorder.script) → AllPairs InOrder (arrivals recorder.script)
    → AllPairs IsUpTo (times recorder.script) → IsRun (not (nat_lt 0 injects)) recorder.script recorder.world
is_run injects recorder leads fits silent causal in_order clock = record {
  leads = leads;
  fits = fits;
  silent = λ quiet. silent (none_inject injects (not_true (nat_lt 0 injects) quiet));
  causal = causal;
  in_order = in_order;
  clock = clock;
}

-- what was asked for of a run was written
pub wrote_run : {mode : Mode} {injects : Bool} {ran : Ran Recorded} {s0 s1 : SinkState} {result : Status} (recorder : Recorded) (whole : Bool)
    (done : Status) (text : List ℕ) → IsRun (not injects) recorder.script recorder.world → ran.whole ≡ whole → ran.simulated.recorder ≡ recorder
    → IsTextOf mode recorder.script text → done ≡ status_of whole recorder.world.forged → WritesText text done s0 s1 result
    → WritesRun mode injects ran s0 s1 result
wrote_run {mode} {injects} {ran} {s0} {s1} {result} recorder whole done text run ended left text_is done_is written = record {
  script = recorder.script;
  world = recorder.world;
  run = run;
  whole = whole;
  left = record {
    script_is = ap (λ (r : Recorded). r.script) (sym left);
    world_is = ap (λ (r : Recorded). r.world) (sym left);
    whole_is = sym ended;
  };
  text = text;
  text_is = text_is;
  written = subst (λ (d : Status). WritesText text d s0 s1 result) done_is written;
}
