use Rattle.std.proofs.Common.{arith, ◌<◌, length}
use Rattle.plc_base.specs.Cells.{place_of}
use Rattle.plc_base.proofs.CellsLemmas.{records_in-set}
use Rattle.plc_base.proofs.mem_keeper.MemKeeper.write.Goals as goal

pub returns : goal.returns
returns c =
    let cells = c.reach.new.cells.items in
    let within : place_of c.args.slot < length cells = omega (arith, c.place_of-place.ensures.value, c.reach.ensures.there) in
    let inserted = records_in-set cells c.args.slot c.args.octets.now c.requires within in
    rw (← c.self.view_is, c.copied.ensures, c.place_of-place.ensures.value, inserted, c.reach.ensures.records)
