-- The law, by induction over the run, from what holds along it.
use Rattle.std.specs.Prelude.{[]}
use Rattle.node_rules.specs.Ciphers.{network}
use Rattle.line_rules.specs.Runs.{sends}
use Rattle.line_rules.specs.Worlds.{start}
use Rattle.run_laws.proofs.DatagramFates.{all_have, at_start}
use Rattle.run_laws.proofs.laws.every_send_has_a_fate.Goals as goal

pub returns : goal.returns
returns c entries r honest =
    let h = c.every_run_holds_throughout.ensures entries r in
    let fits = c.network_keeps_ranges.ensures in
    let octets = c.every_flight_is_octets.ensures entries r in
    let rises = c.every_tag_rises.ensures network fits entries r octets in
    all_have h.home h.apart (sends entries) rises [] start (at_start h.home h.apart (sends entries) rises (c.the_start_holds.ensures (sends entries) h.home))
    entries
    (record {
      says = r.events;
      run = r.run;
      honest = honest;
      holds = h.holds;
      differ = c.every_nonce_differs.ensures network fits entries r octets;
      right = c.every_forgery_is_reported.ensures network entries r;
      falls = c.every_flight_falls.ensures network fits entries r octets;
      counts = c.every_count_is_right.ensures network entries r;
    })
