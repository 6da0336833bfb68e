-- The law, by induction over the run, from what holds along it.
use Rattle.line_rules.specs.Runs.{sends}
use Rattle.line_laws.proofs.LineRuns.{lawful}
use Rattle.node_rules.specs.Ciphers.{network}
use Rattle.run_laws.proofs.Agreements.{agree_on_grants}
use Rattle.run_laws.proofs.laws.every_joining_agrees_on_its_grant.Goals as goal

pub returns : goal.returns
returns c entries run =
    let fits = c.network_keeps_ranges.ensures in
    let octets = c.every_flight_is_octets.ensures entries run in
    let h = c.every_run_holds_throughout.ensures entries run in
    agree_on_grants fits (sends entries) h.home entries (lawful network fits entries run octets) h.holds
    (c.every_joining_agrees.ensures network fits entries run octets) (c.every_forgery_is_reported.ensures network entries run)
    (c.every_count_is_right.ensures network entries run) (c.every_trace_is_right.ensures network entries run)
