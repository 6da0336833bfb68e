-- The law, by the places of octets and what was handed up.
use Rattle.run_laws.proofs.FatePlaces.{fates_are_at_one}
use Rattle.run_laws.proofs.laws.every_fate_is_at_one_place.Goals as goal

pub returns : goal.returns
returns c entries run honest =
    fates_are_at_one entries honest (c.every_octet_is_at_one_place.ensures entries run) (c.every_datagram_was_sent.ensures entries run)
