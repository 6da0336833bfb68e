-- The law, by induction over the run: no flight is there before the first event.
use Rattle.std.proofs.Common.{arith}
use Rattle.std.proofs.lemmas.List.Elements.{All-nil}
use Rattle.line_laws.specs.Laws.{IsFrame}
use Rattle.line_rules.specs.Worlds.{start}
use Rattle.node_rules.specs.Ciphers.{network}
use Rattle.run_laws.proofs.Forgeries.{first_is_forgery}
use Rattle.run_laws.proofs.laws.every_first_forgery_is_in_the_game.Goals as goal

pub returns : goal.returns
returns c entries run =
    first_is_forgery start entries (All-nil (IsFrame network)) (λ i j d lt within. absurd (omega arith))
    (c.every_flight_is_spelled.ensures.frames network entries run)
    (c.every_nonce_differs.ensures network c.network_keeps_ranges.ensures entries run (c.every_flight_is_octets.ensures entries run))
    (c.every_forgery_is_reported.ensures network entries run)
