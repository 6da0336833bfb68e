-- What becomes of bodies that wait for a route, and of what a node sends with few counters left: the runs are computed.
use Rattle.std.proofs.Common.{refl}
use Rattle.worked_scripts.proofs.ComputedScripts.{computed}
use Rattle.worked_scripts.specs.WaitingScripts.{WhatWaitsLeavesInOrder, WhatWaitsLeavesBeforeTheAnswer, EightBodiesWait, EightyBlocksWait}
use Rattle.worked_scripts.specs.WaitingScripts.{WaitingEndsAfterHalfAMinute, SeekingTakesANumber, SeekingTakesACounter, WaitingPiecesTakeCounters}
use Rattle.worked_scripts.specs.WaitingScripts.{NothingIsSentWhenSpent}

pub what_waits_leaves_in_order : WhatWaitsLeavesInOrder
unfolding computed WhatWaitsLeavesInOrder
what_waits_leaves_in_order = (refl, refl, refl, refl, refl, refl, refl, refl, refl, refl, refl, refl)

pub what_waits_leaves_before_the_answer : WhatWaitsLeavesBeforeTheAnswer
unfolding computed WhatWaitsLeavesBeforeTheAnswer
what_waits_leaves_before_the_answer = (refl, refl, refl)

pub eight_bodies_wait : EightBodiesWait
unfolding computed EightBodiesWait
eight_bodies_wait = (refl, refl, refl, refl)

pub eighty_blocks_wait : EightyBlocksWait
unfolding computed EightyBlocksWait
eighty_blocks_wait = refl

pub waiting_ends_after_half_a_minute : WaitingEndsAfterHalfAMinute
unfolding computed WaitingEndsAfterHalfAMinute
waiting_ends_after_half_a_minute = (refl, refl, refl, refl, refl, refl)

pub seeking_takes_a_number : SeekingTakesANumber
unfolding computed SeekingTakesANumber
seeking_takes_a_number = (refl, refl, refl)

pub seeking_takes_a_counter : SeekingTakesACounter
unfolding computed SeekingTakesACounter
seeking_takes_a_counter = (refl, refl)

pub waiting_pieces_take_counters : WaitingPiecesTakeCounters
unfolding computed WaitingPiecesTakeCounters
waiting_pieces_take_counters = (refl, refl, refl, refl, refl, refl, refl, refl, refl)

pub nothing_is_sent_when_spent : NothingIsSentWhenSpent
unfolding computed NothingIsSentWhenSpent
nothing_is_sent_when_spent = (refl, refl, refl)
