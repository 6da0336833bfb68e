use Rattle.meter_host.specs.ProgramRuns.{Loads, no_records}
use Rattle.meter_host.proofs.Serves.{ends_at_once, ends_unopened, ends_unsaid, has_opened, serves_after}
use Rattle.meter_host.proofs.serving.serve_all.Goals as goal

pub returns-in_default : goal.returns-in_default
returns-in_default g c = ends_at_once (Loads no_records) (g.S.Source.state c.args.source.now) (g.K.Sink.state c.args.sink.now)

pub returns-in_default-new : goal.returns-in_default-new
returns-in_default-new g c = ends_at_once (Loads no_records) (g.S.Source.state c.args.source.now) (g.K.Sink.state c.args.sink.now)

pub returns-in-Err-open : goal.returns-in-Err-open
returns-in-Err-open g c =
    ends_unopened (rw c.in-Ok.ensures at c.in-Ok-load_all.ensures.loads) c.in-Err-open.status c.refuse.result
    (rw c.octets.ensures.value at c.in-Err-open.ensures.opens) c.refuse.ensures

pub returns-in-Ok-write_status : goal.returns-in-Ok-write_status
returns-in-Ok-write_status g c =
    serves_after c.answer_all.result (has_opened (rw c.in-Ok.ensures at c.in-Ok-load_all.ensures.loads) c.in-Ok-open.host
    (rw c.octets.ensures.value at c.in-Ok-open.ensures.opens) c.in-Ok-write_status.ensures) c.answer_all.ensures.serves c.answer_all.ensures.began

pub returns : goal.returns
returns g c =
    ends_unsaid (rw c.in-Ok.ensures at c.in-Ok-load_all.ensures.loads) c.in-Ok-open.host c.in-Err-write_status.field-0
    (rw c.octets.ensures.value at c.in-Ok-open.ensures.opens) c.in-Err-write_status.ensures
