-- What a step stores, in which order, and what is left where a write fails: the runs are computed.
use Rattle.std.proofs.Common.{refl}
use Rattle.worked_scripts.proofs.ComputedScripts.{computed}
use Rattle.worked_scripts.specs.StoreScripts.{AFailedWriteHalts, EachWriteMayFail, ASendStoresItsTagFirst, TagsBeginAgain, TheWorkshopStores, OrdersAreStored}
use Rattle.worked_scripts.specs.StoreScripts.{WhatDoesNotChangeIsNotStored, EachCallMayFail, AJoiningStoresItsKeys, AKickIsStoredFirst, LimitsStopAtTheEnd}
use Rattle.worked_scripts.specs.StoreScripts.{AStepPassesTheLimitOnce, MarksAreStoredAhead, NumbersAreStoredAhead}

pub a_failed_write_halts : AFailedWriteHalts
unfolding computed AFailedWriteHalts
a_failed_write_halts = (refl, refl, refl)

pub each_write_may_fail : EachWriteMayFail
unfolding computed EachWriteMayFail
each_write_may_fail = (refl, refl, refl, refl, refl, refl, refl, refl, refl, refl, refl, refl, refl, refl, refl, refl)

pub a_send_stores_its_tag_first : ASendStoresItsTagFirst
unfolding computed ASendStoresItsTagFirst
a_send_stores_its_tag_first = (refl, refl, refl, refl, refl, refl, refl, refl, refl, refl)

pub tags_begin_again : TagsBeginAgain
unfolding computed TagsBeginAgain
tags_begin_again = (refl, refl)

pub the_workshop_stores : TheWorkshopStores
unfolding computed TheWorkshopStores
the_workshop_stores = (refl, refl, refl, refl, refl)

pub orders_are_stored : OrdersAreStored
unfolding computed OrdersAreStored
orders_are_stored = (refl, refl, refl, refl)

pub what_does_not_change_is_not_stored : WhatDoesNotChangeIsNotStored
unfolding computed WhatDoesNotChangeIsNotStored
what_does_not_change_is_not_stored = (refl, refl)

pub each_call_may_fail : EachCallMayFail
unfolding computed EachCallMayFail
each_call_may_fail = refl

pub a_joining_stores_its_keys : AJoiningStoresItsKeys
unfolding computed AJoiningStoresItsKeys
a_joining_stores_its_keys = (refl, refl, refl)

pub a_kick_is_stored_first : AKickIsStoredFirst
unfolding computed AKickIsStoredFirst
a_kick_is_stored_first = (refl, refl, refl)

pub limits_stop_at_the_end : LimitsStopAtTheEnd
unfolding computed LimitsStopAtTheEnd
limits_stop_at_the_end = refl

pub a_step_passes_the_limit_once : AStepPassesTheLimitOnce
unfolding computed AStepPassesTheLimitOnce
a_step_passes_the_limit_once = (refl, refl, refl)

pub marks_are_stored_ahead : MarksAreStoredAhead
unfolding computed MarksAreStoredAhead
marks_are_stored_ahead = (refl, refl, refl)

pub numbers_are_stored_ahead : NumbersAreStoredAhead
unfolding computed NumbersAreStoredAhead
numbers_are_stored_ahead = (refl, refl)
