use Rattle.meter_host.specs.ProgramRuns.{Runs}
use Rattle.meter_host.proofs.Serves.{begun, one_more_call, ends_calling}
use Rattle.meter_host.proofs.serving.answer_all.Goals as goal

pub loop-turn-init : goal.loop-turn-init
loop-turn-init g c = record {
  so_far = begun (Runs c.args.host.now) (g.S.Source.state c.args.source.now) (g.K.Sink.state c.args.sink.now);
  none = c.requires.none;
}

pub returns-in-Err-answer-clause-serves : goal.returns-in-Err-answer-clause-serves
returns-in-Err-answer-clause-serves g c =
    ends_calling c.loop-turn.invariant.so_far.items c.in-Ok.kind c.next_item.new.item c.in-Err-answer.field-0 c.in-Ok.ensures.next c.in-Ok.ensures.faults
    (rw c.octets.ensures.value at c.in-Err-answer.ensures.answers)

pub loop-turn-preserved : goal.loop-turn-preserved
loop-turn-preserved g c = record {
  so_far =
      one_more_call c.loop-turn.invariant.so_far c.in-Ok.kind c.next_item.new.item c.in-Ok.ensures.next c.in-Ok.ensures.faults
      (rw c.octets.ensures.value at c.in-Ok-answer.ensures.answers);
  none = c.answer.ensures.none;
}
