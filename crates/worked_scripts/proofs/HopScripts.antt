-- What becomes of datagrams and units over one hop and over several: the runs are computed.
use Rattle.std.proofs.Common.{refl}
use Rattle.worked_scripts.proofs.ComputedScripts.{computed}
use Rattle.worked_scripts.specs.HopScripts.{ARepeatIsRefused, DatagramsOfEverySize, DiscoveryOverTwoRelays, ABrokenRouteStaysBroken, ALostFlightComesNoMore}
use Rattle.worked_scripts.specs.HopScripts.{AUnitGoesOnWhileHopsAreLeft, EveryUnitGoesOn, AUnitWithoutARouteIsReported, GoingOnTakesACounter}
use Rattle.worked_scripts.specs.HopScripts.{AnErrorGoesOnToItsTarget, AnErrorThatGoesOnTakesACounter, AnErrorForItsTargetGoesOn, WhatIsShownIsInOrder}

pub a_repeat_is_refused : ARepeatIsRefused
unfolding computed ARepeatIsRefused
a_repeat_is_refused = (refl, refl)

pub datagrams_of_every_size : DatagramsOfEverySize
unfolding computed DatagramsOfEverySize
datagrams_of_every_size = (refl, refl)

pub discovery_over_two_relays : DiscoveryOverTwoRelays
unfolding computed DiscoveryOverTwoRelays
discovery_over_two_relays = (refl, refl, refl, refl, refl)

pub a_broken_route_stays_broken : ABrokenRouteStaysBroken
unfolding computed ABrokenRouteStaysBroken
a_broken_route_stays_broken = (refl, refl, refl)

pub a_lost_flight_comes_no_more : ALostFlightComesNoMore
unfolding computed ALostFlightComesNoMore
a_lost_flight_comes_no_more = (refl, refl)

pub a_unit_goes_on_while_hops_are_left : AUnitGoesOnWhileHopsAreLeft
unfolding computed AUnitGoesOnWhileHopsAreLeft
a_unit_goes_on_while_hops_are_left = (refl, refl, refl, refl, refl, refl, refl)

pub every_unit_goes_on : EveryUnitGoesOn
unfolding computed EveryUnitGoesOn
every_unit_goes_on = (refl, refl, refl)

pub a_unit_without_a_route_is_reported : AUnitWithoutARouteIsReported
unfolding computed AUnitWithoutARouteIsReported
a_unit_without_a_route_is_reported = (refl, refl, refl, refl, refl, refl)

pub going_on_takes_a_counter : GoingOnTakesACounter
unfolding computed GoingOnTakesACounter
going_on_takes_a_counter = (refl, refl)

pub an_error_goes_on_to_its_target : AnErrorGoesOnToItsTarget
unfolding computed AnErrorGoesOnToItsTarget
an_error_goes_on_to_its_target = (refl, refl, refl, refl, refl, refl, refl, refl, refl, refl, refl, refl, refl, refl)

pub an_error_that_goes_on_takes_a_counter : AnErrorThatGoesOnTakesACounter
unfolding computed AnErrorThatGoesOnTakesACounter
an_error_that_goes_on_takes_a_counter = (refl, refl, refl)

pub an_error_for_its_target_goes_on : AnErrorForItsTargetGoesOn
unfolding computed AnErrorForItsTargetGoesOn
an_error_for_its_target_goes_on = (refl, refl, refl, refl, refl, refl)

pub what_is_shown_is_in_order : WhatIsShownIsInOrder
unfolding computed WhatIsShownIsInOrder
what_is_shown_is_in_order = refl
