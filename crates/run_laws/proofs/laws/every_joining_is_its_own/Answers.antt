-- The law, by how often a random value is given and done.
use Rattle.line_laws.proofs.LineRuns.{lawful}
use Rattle.node_rules.specs.Ciphers.{network}
use Rattle.run_laws.proofs.JoiningsApart.{each_is_own}
use Rattle.run_laws.proofs.laws.every_joining_is_its_own.Goals as goal

pub returns : goal.returns
returns c entries run differ =
    let fits = c.network_keeps_ranges.ensures in
    each_is_own fits entries (lawful network fits entries run (c.every_flight_is_octets.ensures entries run)) differ
