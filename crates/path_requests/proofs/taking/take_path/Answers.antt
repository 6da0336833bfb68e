use Rattle.std.proofs.Common.{arith}
use Rattle.plc_base.specs.Addresses.{IsAddress}
use Rattle.path_requests.proofs.Steps.{taken_fits}
use Rattle.path_requests.proofs.taking.take_path.Goals as goal

pub returns-clause-message : goal.returns-clause-message
returns-clause-message c =
    let fits : IsAddress c.args.own = omega (arith, c.number-address.ensures.value, c.number-address.ensures.valid) in
    rw c.step_of.ensures (taken_fits c.args.own c.args.from c.args.next c.args.message.now fits c.requires)
