use Rattle.std.proofs.Common.{sym, ◌∙◌}
use Rattle.plc_station.proofs.Shows.{peer_is}
use Rattle.plc_station.proofs.showing.peer_shown.Goals as goal

pub returns : goal.returns
returns c = peer_is c.args.marks.now c.args.from c.in-Some.mark (sym c.in-Some.is ∙ c.mark.ensures)
