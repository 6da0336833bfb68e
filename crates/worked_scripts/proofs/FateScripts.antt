-- What becomes of datagrams, units, bodies and pieces: the runs are computed.
use Rattle.std.proofs.Common.{refl}
use Rattle.worked_scripts.proofs.ComputedScripts.{computed}
use Rattle.worked_scripts.specs.FateScripts.{ASendHasEachFate, AUnitHasEachFate, ALostFlightComes, ABodyHasEachFate, APieceHasEachFate}

pub a_send_has_each_fate : ASendHasEachFate
unfolding computed ASendHasEachFate
a_send_has_each_fate = (refl, refl, refl, refl, refl)

pub a_unit_has_each_fate : AUnitHasEachFate
unfolding computed AUnitHasEachFate
a_unit_has_each_fate = (refl, refl, refl, refl, refl, refl, refl, refl, refl)

pub a_lost_flight_comes : ALostFlightComes
unfolding computed ALostFlightComes
a_lost_flight_comes = (refl, refl)

pub a_body_has_each_fate : ABodyHasEachFate
unfolding computed ABodyHasEachFate
a_body_has_each_fate = (refl, refl, refl, refl, refl, refl, refl, refl)

pub a_piece_has_each_fate : APieceHasEachFate
unfolding computed APieceHasEachFate
a_piece_has_each_fate = (refl, refl, refl, refl, refl, refl, refl, refl, refl)
