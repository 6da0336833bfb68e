use Rattle.std.proofs.Common.{◌<◌, ◌≤◌, arith}
use Rattle.std.proofs.lemmas.Bool.Decides.{nat_tests}
use Rattle.routing_set.proofs.Entries.{entry_in-octets_of}
use Rattle.routing_set.proofs.entry.RoutingEntrySlotEntry.record.Goals as goal

pub returns-clause-reads_back : goal.returns-clause-reads_back
returns-clause-reads_back c =
    let short : c.args.self.now.address < 0xFFFE = omega (arith, c.number.ensures.value, c.number.ensures.valid) in
    let low : 1 ≤ c.args.self.now.rank.number = grind (arith, nat_tests, c.requires.storable) in
    entry_in-octets_of c.args.self.now short low (omega arith) (omega arith)
