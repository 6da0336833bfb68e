use Rattle.meter_host.proofs.LoadedSlots.{same_list}
use Rattle.meter_host.proofs.serving.take_in.Goals as goal

pub returns-then-kind-eq-LOAD-clause-none : goal.returns-then-kind-eq-LOAD-clause-none
returns-then-kind-eq-LOAD-clause-none c =
    same_list c.args.octets.now c.args.loading.now c.load.result c.load.new.self c.load.ensures.loaded
