-- The law, by the laws of single events.
use Rattle.line_rules.specs.Worlds.{start}
use Rattle.run_laws.proofs.Datagrams.{moved, nobody_yet}
use Rattle.run_laws.proofs.laws.every_datagram_is_moved.Goals as goal

pub returns : goal.returns
returns c entries run =
    moved c.datagrams_came.ensures c.sends_fly.ensures c.deliveries_have_fates.ensures c.pieces_arrive.ensures c.events_keep_bodies.ensures
    c.events_keep_pieces.ensures c.events_keep_flights.ensures start nobody_yet entries run.run (c.every_run_holds.ensures entries run)
