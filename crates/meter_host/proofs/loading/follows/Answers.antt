use Rattle.std.proofs.Common.{arith}
use Rattle.meter_host.proofs.LoadedSlots.{slot_before}
use Rattle.meter_host.proofs.loading.follows.Goals as goal

pub get-requires : goal.get-requires
get-requires c = slot_before c.args.first c.args.slot c.requires (omega (arith, c.if-slot-first.false)) (omega (arith, c.if-slot-end.false))
