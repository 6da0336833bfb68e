-- How the group key of a line is changed.
use Rattle.std.specs.Prelude.{ℕ, ◌+◌, ◌-◌, ◌^◌, min, eqb, leb, cond, Bool, true, false, length, Option, None, Some, is_some}
use Rattle.air_draws.specs.Draws.{below, key_octets}
use Rattle.plan_tables.specs.declared.tables.Order.{Order as Way}
use Rattle.plan_tables.specs.declared.tables.Order.TheVariants.{CoordinatorFirst, CoordinatorLast, MeterByMeter}
use Rattle.line_owner.specs.declared.member.Choice.TheVariants.{Waiting, Challenged, Settled}
use Rattle.line_owner.specs.declared.member.Phase.{Phase}
use Rattle.line_owner.specs.declared.member.Phase.TheVariants.{Out, Waits, Open, Done, Unreached}
use Rattle.line_owner.specs.declared.owner.Change.{Change}
use Rattle.line_owner.specs.declared.acts.Act.TheVariants.{Step, Put, Do, Say}
use Rattle.line_owner.specs.declared.acts.Acts.{Acts}
use Rattle.line_owner.specs.declared.acts.Acts.TheVariants.{One, Two, Three, Four}
use Rattle.line_owner.specs.declared.acts.Command.TheVariants.{Rekey, Activate, Challenge as ChallengeNow, Order as OrderNow}
use Rattle.line_owner.specs.declared.acts.Saying.TheVariants.{KeyDrawn, Unreached as NotReached}
use Rattle.line_owner.specs.declared.acts.Task.TheVariants.{Give, OpenChallenges, NextChallenge, Challenge, Order, EndChange}
use Rattle.line_owner.specs.Members.{more, member_at, nth_of, all_wait}
use Rattle.line_owner.specs.States.{OwnerState, Turned, does, rests, timed, keyed, with_node}
use Rattle.line_owner.specs.Times.{micros, later}

-- a key is drawn for an index
unfoldable pub begins_change : ℕ → OwnerState → Turned
begins_change index o = does (keyed o) (One (Step (Rekey index (key_octets o.keys))))

-- the coordinator seals with the new key first where that is said, and meters are challenged, some at one time
abbrev pub change_acts : Way → ℕ → ℕ → Acts
change_acts CoordinatorFirst index count = Three (Say (KeyDrawn index)) (Step (Activate 0 index)) (Do (OpenChallenges count))
change_acts CoordinatorLast index count = Two (Say (KeyDrawn index)) (Do (OpenChallenges count))
change_acts MeterByMeter index count = Two (Say (KeyDrawn index)) (Do (OpenChallenges count))

-- the key was drawn: every meter in the book is to be challenged
unfoldable pub has_drawn : ℕ → OwnerState → Turned
has_drawn index o =
    does (record o { members = all_wait o.members; change = Some (record { index = index; ordering = false }) })
    (change_acts o.settings.rotation.order index (min o.settings.rotation.at_once (length o.members)))

unfoldable pub opens_challenges : ℕ → OwnerState → Turned
opens_challenges count o =
    cond (eqb count 0) (rests o) (does o (Two (Do NextChallenge) (Do (OpenChallenges (count - 1)))))

abbrev pub with_phase : ℕ → Phase → OwnerState → OwnerState
with_phase node phase o = with_node node (record (member_at node o.members) { phase = phase }) o

-- all were challenged: they are ordered after a while, once
abbrev pub begins_orders : ℕ → Change → OwnerState → Turned
begins_orders now c o =
    cond (is_some (nth_of Challenged 0 0 o.members)) (rests o)
    (cond c.ordering (rests o)
    (does (record o { change = Some (record c { ordering = true }) }) (One (Put (later now (micros o.settings.rotation.gap)) (Order 0 0)))))

abbrev pub challenges_next_of : ℕ → Change → Option ℕ → OwnerState → Turned
challenges_next_of now c (Some node) o = does (with_phase node Open o) (One (Do (Challenge node)))
challenges_next_of now c None o = begins_orders now c o

abbrev pub challenges_next_in : ℕ → Option Change → OwnerState → Turned
challenges_next_in now None o = rests o
challenges_next_in now (Some c) o = challenges_next_of now c (nth_of Waiting 0 0 o.members) o

-- the next meter that was not challenged yet
unfoldable pub challenges_next : ℕ → OwnerState → Turned
challenges_next now o = challenges_next_in now o.change o

-- whether a meter is challenged in a change of the key
abbrev pub is_open_in : Option Change → Phase → Bool
is_open_in None phase = false
is_open_in (Some c) Out = false
is_open_in (Some c) Waits = false
is_open_in (Some c) Open = true
is_open_in (Some c) Done = false
is_open_in (Some c) Unreached = false

abbrev pub is_open : ℕ → OwnerState → Bool
is_open node o = is_open_in o.change (member_at node o.members).phase

-- when a challenge is repeated
abbrev pub challenge_again : ℕ → OwnerState → ℕ
challenge_again now o = later (later now (micros o.settings.rotation.retry)) (below 10000000 o.times)

-- both ends hold random values, and the coordinator challenges; what has no power is given none
abbrev pub challenge_acts : ℕ → ℕ → Bool → Acts
challenge_acts at node true = Four (Do (Give 0 2)) (Do (Give node 1)) (Step (ChallengeNow node)) (Put at (Challenge node))
challenge_acts at node false = Three (Do (Give 0 2)) (Step (ChallengeNow node)) (Put at (Challenge node))

unfoldable pub challenges : ℕ → ℕ → OwnerState → Turned
challenges now node o =
    let m = member_at node o.members in
    cond (is_open node o)
    (cond (leb o.settings.rotation.tries m.challenges)
    (does (with_phase node Unreached o) (Two (Say (NotReached node m.challenges)) (Do NextChallenge)))
    (does (timed (with_node node (record m { challenges = m.challenges + 1 }) o)) (challenge_acts (challenge_again now o) node m.powered)))
    (rests o)

abbrev pub done_acts : Way → ℕ → Option Change → Acts
done_acts MeterByMeter node (Some c) = Two (Step (Activate node c.index)) (Do NextChallenge)
done_acts MeterByMeter node None = One (Do NextChallenge)
done_acts CoordinatorFirst node c = One (Do NextChallenge)
done_acts CoordinatorLast node c = One (Do NextChallenge)

-- a meter that was challenged has the new key
unfoldable pub ends_challenge : ℕ → OwnerState → Turned
ends_challenge node o =
    cond (is_open node o) (does (with_phase node Done o) (done_acts o.settings.rotation.order node o.change)) (rests o)

-- the kth meter is ordered, all of them some times; the coordinator comes last
abbrev pub orders_of : ℕ → ℕ → ℕ → Change → Option ℕ → OwnerState → Turned
orders_of now k nth c (Some node) o =
    does o (Two (Step (OrderNow node c.index)) (Put (later now (micros o.settings.rotation.gap)) (Order (more k) nth)))
orders_of now k nth c None o =
    cond (leb o.settings.rotation.orders (min (nth + 1) (2 ^ 64 - 1))) (does o (One (Put (later now 31000000) EndChange)))
    (does o (One (Put (later now 31000000) (Order 0 (min (nth + 1) (2 ^ 64 - 1))))))

abbrev pub orders_in : ℕ → ℕ → ℕ → Option Change → OwnerState → Turned
orders_in now k nth None o = rests o
orders_in now k nth (Some c) o = orders_of now k nth c (nth_of Settled k 0 o.members) o

unfoldable pub orders : ℕ → ℕ → ℕ → OwnerState → Turned
orders now k nth o = orders_in now k nth o.change o

abbrev pub ends_change_of : Option Change → OwnerState → Turned
ends_change_of None o = rests o
ends_change_of (Some c) o = does (record o { change = None }) (One (Step (Activate 0 c.index)))

-- last the coordinator seals with the new key
unfoldable pub ends_change : OwnerState → Turned
ends_change o = ends_change_of o.change o
