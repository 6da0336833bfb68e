-- Single commands and calls of further reach, which are computed.
use Rattle.std.proofs.Common.{refl}
use Rattle.reach_rules.proofs.ComputedScripts.{computed}
use Rattle.reach_rules.specs.ReachCases.{StrangeCommandsAreDropped, BroadcastsAreJudgedInOrder, ABroadcastStoresItsMark, OwnBroadcastsAreJudgedInOrder}
use Rattle.reach_rules.specs.ReachCases.{PathsAreJudgedInOrder, AsksAreJudgedInOrder, DiscoveryIsJudgedInOrder, DiscoveryIsKnownByItsType, OnlyTheUnjoinedScan}
use Rattle.reach_rules.specs.ReachCases.{AnAcknowledgementTakesACounter, ARelayIsCheckedToo}

pub strange_commands_are_dropped : StrangeCommandsAreDropped
unfolding computed StrangeCommandsAreDropped
strange_commands_are_dropped = (refl, refl, refl, refl, refl, refl, refl, refl)

pub broadcasts_are_judged_in_order : BroadcastsAreJudgedInOrder
unfolding computed BroadcastsAreJudgedInOrder
broadcasts_are_judged_in_order = (refl, refl, refl, refl, refl, refl, refl)

pub a_broadcast_stores_its_mark : ABroadcastStoresItsMark
unfolding computed ABroadcastStoresItsMark
a_broadcast_stores_its_mark = (refl, refl, refl, refl)

pub own_broadcasts_are_judged_in_order : OwnBroadcastsAreJudgedInOrder
unfolding computed OwnBroadcastsAreJudgedInOrder
own_broadcasts_are_judged_in_order = (refl, refl, refl, refl, refl, refl, refl)

pub paths_are_judged_in_order : PathsAreJudgedInOrder
unfolding computed PathsAreJudgedInOrder
paths_are_judged_in_order = (refl, refl, refl, refl, refl, refl, refl, refl, refl)

pub asks_are_judged_in_order : AsksAreJudgedInOrder
unfolding computed AsksAreJudgedInOrder
asks_are_judged_in_order = (refl, refl, refl, refl, refl, refl)

pub discovery_is_judged_in_order : DiscoveryIsJudgedInOrder
unfolding computed DiscoveryIsJudgedInOrder
discovery_is_judged_in_order = (refl, refl, refl, refl, refl, refl, refl, refl, refl, refl)

pub discovery_is_known_by_its_type : DiscoveryIsKnownByItsType
unfolding computed DiscoveryIsKnownByItsType
discovery_is_known_by_its_type = (refl, refl, refl, refl)

pub only_the_unjoined_scan : OnlyTheUnjoinedScan
unfolding computed OnlyTheUnjoinedScan
only_the_unjoined_scan = (refl, refl, refl, refl)

pub an_acknowledgement_takes_a_counter : AnAcknowledgementTakesACounter
unfolding computed AnAcknowledgementTakesACounter
an_acknowledgement_takes_a_counter = (refl, refl, refl)

pub a_relay_is_checked_too : ARelayIsCheckedToo
unfolding computed ARelayIsCheckedToo
a_relay_is_checked_too = (refl, refl)
