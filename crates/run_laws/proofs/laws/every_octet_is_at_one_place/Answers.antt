-- The law, by the custody of each world, with live flights and with open ones.
use Rattle.std.specs.Prelude.{[]}
use Rattle.line_rules.specs.Runs.{sends}
use Rattle.line_rules.specs.Worlds.{start}
use Rattle.run_laws.proofs.OctetPlaces.{stay_at_one}
use Rattle.run_laws.proofs.laws.every_octet_is_at_one_place.Goals as goal

pub returns : goal.returns
returns c entries run =
    let h = c.every_run_holds_throughout.ensures entries run in
    stay_at_one (sends entries) h.home [] [] start entries h.holds (c.every_run_stays_in_open_custody.ensures entries run)
