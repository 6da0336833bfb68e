use Rattle.std.proofs.Common.{true, false, refl}
use Rattle.frame_counters.specs.SendCounter.{limit_write}
use Rattle.store_tables.proofs.WritesLemmas.{wrote_one}
use Rattle.node_rules.specs.Plans.{resting}
use Rattle.plc_station.proofs.CarriedPlans.{on_memory, lines_are}
use Rattle.plc_station.proofs.station.Station.keep_counter.Goals as goal

pub returns-in_default-clause-carries : goal.returns-in_default-clause-carries
unfolding resting
returns-in_default-clause-carries g c =
    rw (← c.self.view_is) (on_memory c.self.inside.halted _ _ (λ running.
    record { done = false; wrote = wrote_one _ _ (limit_write c.args.value) _ c.in_default.ensures.store; answer_is = refl; out_is = refl; new_is = refl }))

pub returns-clause-carries : goal.returns-clause-carries
unfolding resting
returns-clause-carries g c =
    rw (← c.self.view_is) (on_memory c.self.inside.halted _ _ (λ running.
    record {
      done = true;
      wrote = wrote_one _ _ (limit_write c.args.value) _ c.in-Ok.ensures.store;
      answer_is = refl;
      out_is = refl;
      new_is = lines_are _ _ _ _ refl c.in-Ok.ensures.counter refl refl refl refl refl refl;
    }))
