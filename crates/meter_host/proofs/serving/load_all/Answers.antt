use Rattle.std.proofs.Common.{refl, ◌∙◌}
use Rattle.host_calls.specs.Answers.{status_text}
use Rattle.meter_host.specs.ProgramRuns.{Loads}
use Rattle.meter_host.proofs.Serves.{begun, taken_in, one_more, ends_writing}
use Rattle.meter_host.proofs.serving.load_all.Goals as goal

pub loop-turn-init : goal.loop-turn-init
loop-turn-init g c = record {
  so_far = begun (Loads c.args.loading.now) (g.S.Source.state c.args.source.now) (g.K.Sink.state c.args.sink.now);
  none = refl;
}

pub returns-in-Err-write_status-clause-loads : goal.returns-in-Err-write_status-clause-loads
returns-in-Err-write_status-clause-loads g c =
    ends_writing c.loop-turn.invariant.so_far.items (record { kind = c.in-Ok.kind; octets = c.next_item.new.item }) (status_text c.take_in-status.result)
    (Loads c.take_in-status.new.loading) c.in-Err-write_status.field-0 c.in-Ok.ensures.next c.in-Ok.ensures.faults
    (taken_in (record { kind = c.in-Ok.kind; octets = c.next_item.new.item }) c.take_in-status.result (status_text c.take_in-status.result)
    c.if-kind-eq-OPEN.false (rw c.octets.ensures.value at c.take_in-status.ensures.taken) refl)
    c.in-Err-write_status.ensures

pub loop-turn-preserved : goal.loop-turn-preserved
loop-turn-preserved g c = record {
  so_far =
      one_more c.loop-turn.invariant.so_far (record { kind = c.in-Ok.kind; octets = c.next_item.new.item }) (status_text c.take_in-status.result)
      (Loads c.take_in-status.new.loading) c.in-Ok.ensures.next c.in-Ok.ensures.faults
      (taken_in (record { kind = c.in-Ok.kind; octets = c.next_item.new.item }) c.take_in-status.result (status_text c.take_in-status.result)
      c.if-kind-eq-OPEN.false (rw c.octets.ensures.value at c.take_in-status.ensures.taken) refl)
      c.in-Ok-write_status.ensures;
  none = c.take_in-status.ensures.none ∙ c.loop-turn.invariant.none;
}
