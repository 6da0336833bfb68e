-- How meters are read.
use Rattle.std.specs.Prelude.{ℕ, ◌+◌, ◌-◌, min, eqb, ltb, leb, not, ◌&&◌, ◌||◌, cond, Bool, true, false, length, map}
use Rattle.air_draws.specs.Draws.{below}
use Rattle.plan_tables.specs.declared.tables.Way.TheVariants.{Push, Poll as PollWay}
use Rattle.line_owner.specs.declared.asked.Reading.{Reading}
use Rattle.line_owner.specs.declared.acts.Act.TheVariants.{Step, Put, Do, Say}
use Rattle.line_owner.specs.declared.acts.Acts.TheVariants.{One, Two}
use Rattle.line_owner.specs.declared.acts.Command.TheVariants.{Tell, Leave, Seek}
use Rattle.line_owner.specs.declared.messages.Kind.{Kind}
use Rattle.line_owner.specs.declared.messages.Kind.TheVariants as kinds
use Rattle.line_owner.specs.declared.messages.Message.{Message}
use Rattle.line_owner.specs.declared.acts.Saying.TheVariants.{Leaves}
use Rattle.line_owner.specs.declared.acts.Task.TheVariants.{Read, ReadLater, OpenPolls, NextPoll, Poll, Answer, Reply}
use Rattle.line_owner.specs.Members.{more, member_at, unpolled}
use Rattle.line_owner.specs.Asked.{reading_at}
use Rattle.line_owner.specs.States.{OwnerState, Turned, does, rests, timed, with_node, with_asked}
use Rattle.line_owner.specs.Times.{micros, later}

abbrev pub message : Kind → ℕ → ℕ → Message
message kind node round = record { kind = kind; node = node; round = round }

-- one try more of a reading
abbrev pub tried : ℕ → ℕ → OwnerState → OwnerState
tried node round o =
    let r = reading_at node round o.readings in with_asked node round (record r { tries = r.tries + 1 }) o

-- it is known that a reading came
abbrev pub noted : ℕ → ℕ → OwnerState → OwnerState
noted node round o = with_asked node round (record (reading_at node round o.readings) { known = true }) o

abbrev pub is_spent : ℕ → ℕ → OwnerState → Bool
is_spent node round o = leb o.settings.readings.tries (reading_at node round o.readings).tries

-- # Readings that meters send

-- an unanswered reading more: after some, where that is said, a meter leaves and joins again
abbrev pub leaves_after : ℕ → OwnerState → Turned
leaves_after node o =
    let m = member_at node o.members in
    cond (not (eqb o.settings.care.rejoin_after 0) && (leb o.settings.care.rejoin_after m.missed && (m.joined && m.powered)))
    (does o (Two (Say (Leaves node)) (Step (Leave node)))) (rests o)

abbrev pub misses : ℕ → OwnerState → OwnerState
misses node o = let m = member_at node o.members in with_node node (record m { missed = cond (ltb m.missed 1000000) (m.missed + 1) m.missed }) o

-- a reading that is not tried again
unfoldable pub gives_reading_up : ℕ → OwnerState → Turned
gives_reading_up node o = cond o.settings.readings.answered (leaves_after node (misses node o)) (rests o)

abbrev pub may_speak : ℕ → OwnerState → Bool
may_speak node o = let m = member_at node o.members in m.powered && m.joined

unfoldable pub reads : ℕ → ℕ → OwnerState → Turned
reads node round o =
    cond (reading_at node round o.readings).known (rests o)
    (cond (is_spent node round o) (gives_reading_up node o)
    (does (tried node round o)
    (cond (may_speak node o) (Two (Step (Tell (message kinds.Reading node round))) (Do (ReadLater node round))) (One (Do (ReadLater node round))))))

-- an answer is awaited, or the meter could not send: it tries again after a while
unfoldable pub reads_later : ℕ → ℕ → ℕ → OwnerState → Turned
reads_later now node round o =
    cond (o.settings.readings.answered || not (may_speak node o))
    (does (timed o) (One (Put (later (later now (micros o.settings.readings.retry)) (below 10000000 o.times)) (Read node round))))
    (rests o)

-- # Readings that are asked for

unfoldable pub begins_polls : ℕ → OwnerState → Turned
begins_polls round o =
    does (record o { members = map unpolled o.members; polls = record { next = 1; round = round } })
    (One (Do (OpenPolls (min o.settings.readings.at_once (length o.members)))))

unfoldable pub opens_polls : ℕ → OwnerState → Turned
opens_polls count o = cond (eqb count 0) (rests o) (does o (Two (Do NextPoll) (Do (OpenPolls (count - 1)))))

-- the next meter is asked and waited for
unfoldable pub polls_next : OwnerState → Turned
polls_next o =
    let node = o.polls.next in
    cond (ltb node (length o.members))
    (does (record (with_node node (record (member_at node o.members) { polled = true }) o) { polls = record o.polls { next = more node } })
    (One (Do (Poll node o.polls.round))))
    (rests o)

-- a meter is waited for no more: the next one is asked, where this one was
unfoldable pub ends_poll : ℕ → OwnerState → Turned
ends_poll node o =
    let m = member_at node o.members in
    cond m.polled (does (with_node node (record m { polled = false }) o) (One (Do NextPoll))) (rests o)

unfoldable pub polls : ℕ → ℕ → ℕ → OwnerState → Turned
polls now node round o =
    cond (reading_at node round o.readings).known (rests o)
    (cond (is_spent node round o) (ends_poll node o)
    (does (tried node round o)
    (cond (member_at node o.members).joined
    (Two (Step (Tell (message kinds.Ask node round))) (Put (later now (micros o.settings.readings.retry)) (Poll node round)))
    (One (Put (later now (micros o.settings.readings.retry)) (Poll node round))))))

-- # What comes up

-- the coordinator answers a reading, where it has power and the meter is joined
unfoldable pub answers : ℕ → ℕ → OwnerState → Turned
answers node round o =
    cond ((member_at 0 o.members).powered && (member_at node o.members).joined)
    (does o (One (Step (Tell (message kinds.Receipt node round))))) (rests o)

-- a meter sends what was asked for, where it has power
unfoldable pub replies : ℕ → ℕ → OwnerState → Turned
replies node round o =
    cond (member_at node o.members).powered (does o (One (Step (Tell (message kinds.Reply node round))))) (rests o)

unfoldable pub refreshes : OwnerState → Turned
refreshes o = cond o.settings.readings.refresh (does o (One (Step Seek))) (rests o)

-- a reading came to the coordinator
abbrev pub reading_came : ℕ → ℕ → ℕ → OwnerState → Turned
reading_came now node round o =
    elim o.settings.readings.way as (λ _. Turned) [
      | Push ↦ cond o.settings.readings.answered (does o (One (Put now (Answer node round)))) (rests o)
      | PollWay ↦ ends_poll node (noted node round o)
    ]

abbrev pub receipt_came : ℕ → ℕ → OwnerState → OwnerState
receipt_came node round o =
    with_node node (record (member_at node o.members) { missed = 0 }) (noted node round o)

abbrev pub came_by : Kind → ℕ → ℕ → ℕ → ℕ → OwnerState → Turned
came_by kinds.Reading now at node round o = cond (eqb at 0) (reading_came now node round o) (rests o)
came_by kinds.Reply now at node round o = cond (eqb at 0) (reading_came now node round o) (rests o)
came_by kinds.Ask now at node round o = cond (eqb at node) (does o (One (Put now (Reply node round)))) (rests o)
came_by kinds.Receipt now at node round o = cond (eqb at node) (rests (receipt_came node round o)) (rests o)

-- a message came up at a node
unfoldable pub comes : ℕ → ℕ → Message → OwnerState → Turned
comes now at m o = came_by m.kind now at m.node m.round o
