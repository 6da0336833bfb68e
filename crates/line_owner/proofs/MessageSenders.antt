-- Each message that a task brings has its sender.
use Rattle.std.proofs.Common.{◌≡◌, ℕ, ◌+◌, ◌-◌, ◌^◌, min, ltb, leb, eqb, not, ◌&&◌, ◌||◌, cond, Bool, true, false, List, Option, Some, None, length, refl}
use Rattle.std.proofs.lemmas.Bool.{and_parts}
use Rattle.line_place.specs.declared.link.Link.{Link}
use Rattle.plan_tables.specs.declared.tables.Way.{Way}
use Rattle.plan_tables.specs.declared.tables.Way.TheVariants.{Push, Poll as PollWay}
use Rattle.line_owner.specs.declared.acts.Act.TheVariants.{Step, Put}
use Rattle.line_owner.specs.declared.acts.Acts.TheVariants.{One, Two}
use Rattle.line_owner.specs.declared.acts.Command.TheVariants.{Restart}
use Rattle.line_owner.specs.declared.acts.Task.TheVariants as tasks
use Rattle.line_owner.specs.declared.acts.Task.TheVariants.{TryJoin}
use Rattle.line_owner.specs.declared.agents.Agent.{Agent}
use Rattle.line_owner.specs.declared.member.Choice.TheVariants.{Waiting, Challenged, Settled}
use Rattle.line_owner.specs.Members.{member_at, nth_of}
use Rattle.line_owner.specs.Agents.{agent_of_turn}
use Rattle.line_owner.specs.Asked.{reading_at}
use Rattle.line_owner.specs.Times.{micros, later}
use Rattle.std.specs.Prelude.{is_some}
use Rattle.line_owner.specs.declared.owner.Change.{Change}
use Rattle.line_owner.specs.declared.acts.Acts.{Acts}
use Rattle.line_owner.specs.States.{OwnerState, Turned, does, with_node, gives, fails, restores}
use Rattle.line_owner.specs.Setups.{makes, enters, draws_join, round_at, refreshes_before, round_acts_by, puts_round, draws_read}
use Rattle.line_owner.specs.Joins.{joins_by, joins_with_power, tries_to_join}
use Rattle.line_owner.specs.Reads.{is_spent, may_speak, misses, leaves_after, gives_reading_up, reads, reads_later, begins_polls, opens_polls, polls_next}
use Rattle.line_owner.specs.Reads.{ends_poll, polls, answers, replies, refreshes}
use Rattle.line_owner.specs.Changes.{begins_change, opens_challenges, begins_orders, is_open, challenges_next_of, challenges_next_in, challenges_next}
use Rattle.line_owner.specs.Changes.{challenge_again, challenge_acts, challenges, orders_of, orders_in, orders, ends_change_of, ends_change}
use Rattle.line_owner.specs.Turns.{turn}
use Rattle.line_owner.specs.Sends.{HaveSenders, OnlyMembersSend}

-- the messages of a turn have their senders, as they were before it
record Sends (o : OwnerState) (t : Turned) : Type 0 where
  sends : HaveSenders o t.acts

either : {o : OwnerState} {x y : Turned} (b : Bool) → (b ≡ true → Sends o x) → Sends o y → Sends o (cond b x y)
either true x y = x refl
either false x y = y

-- the same of acts alone
either_acts : {o p : OwnerState} (x y : Acts) (b : Bool) → (b ≡ true → HaveSenders o x) → HaveSenders o y → Sends o (does p (cond b x y))
either_acts x y true h k = record { sends = h refl }
either_acts x y false h k = record { sends = k }

make_sends : (o : OwnerState) (node : ℕ) → Sends o (makes node o)
unfolding makes
make_sends o node =
    either (ltb node (length o.members)) (λ _. either (ltb 0 node) (λ _. record { sends = (tt, tt) }) (record { sends = (tt, tt) }))
    (either (o.settings.readings.refresh) (λ _. record { sends = (tt, (tt, tt)) }) (record { sends = tt }))

enter_sends : (o : OwnerState) (node : ℕ) → Sends o (enters node o)
unfolding enters
enter_sends o node =
    either (ltb node (length o.members)) (λ _. either (o.settings.joining.depot) (λ _. record { sends = (tt, tt) }) (record { sends = (tt, tt) }))
    (either (o.settings.joining.depot) (λ _. record { sends = tt }) (record { sends = tt }))

draw_join_sends : (o : OwnerState) (node : ℕ) → Sends o (draws_join node o)
unfolding draws_join
draw_join_sends o node = either (ltb node (length o.members)) (λ _. record { sends = (tt, tt) }) (record { sends = tt })

round_sends : (o : OwnerState) (way : Way) (refresh : Bool) (round at : ℕ) → Sends o (does o (round_acts_by way refresh round at))
round_sends o Push refresh round at = either_acts _ _ refresh (λ _. (tt, tt)) tt
round_sends o PollWay refresh round at = either_acts _ _ refresh (λ _. (tt, (tt, tt))) (tt, tt)

put_round_sends : (o : OwnerState) (round : ℕ) → Sends o (puts_round round o)
unfolding puts_round
put_round_sends o round =
    either (leb round o.settings.readings.times) (λ _. either (ltb (round_at o.settings round) (micros o.settings.length))
    (λ _. round_sends o o.settings.readings.way (refreshes_before o.settings round) round (round_at o.settings round)) (record { sends = tt }))
    (record { sends = tt })

draw_read_sends : (o : OwnerState) (round node : ℕ) → Sends o (draws_read round node o)
unfolding draws_read
draw_read_sends o round node = either (ltb node (length o.members)) (λ _. record { sends = (tt, tt) }) (record { sends = tt })

give_sends : (o : OwnerState) (node least : ℕ) → Sends o (gives node least o)
unfolding gives
give_sends o node least = either (ltb (member_at node o.members).rands least) (λ _. record { sends = tt }) (record { sends = tt })

join_by_sends : (o : OwnerState) (now node : ℕ) (agent : Option Agent) → Sends o (joins_by now node agent o)
join_by_sends o now node None = record { sends = tt }
join_by_sends o now node (Some agent) = record { sends = (tt, (tt, (tt, tt))) }

try_join_sends : (o : OwnerState) (rows : List (List Link)) (now node : ℕ) → Sends o (tries_to_join rows now node o)
unfolding tries_to_join joins_with_power
try_join_sends o rows now node =
    let m = member_at node o.members in
    either (m.joined || leb o.settings.joining.tries m.join_tries) (λ _. record { sends = tt })
    (either (m.powered) (λ _. join_by_sends o now node (agent_of_turn rows o.members node m.turns)) (record { sends = tt }))

leave_sends : (o p : OwnerState) (node : ℕ) → Sends o (leaves_after node p)
leave_sends o p node =
    let m = member_at node p.members in
    either (not (eqb p.settings.care.rejoin_after 0) && (leb p.settings.care.rejoin_after m.missed && (m.joined && m.powered)))
    (λ _. record { sends = (tt, tt) }) (record { sends = tt })

give_up_sends : (o : OwnerState) (node : ℕ) → Sends o (gives_reading_up node o)
unfolding gives_reading_up
give_up_sends o node =
    either (o.settings.readings.answered) (λ _. leave_sends o (misses node o) node) (record { sends = tt })

read_sends : (o : OwnerState) (node round : ℕ) → Sends o (reads node round o)
unfolding reads
read_sends o node round =
    let m = member_at node o.members in
    either ((reading_at node round o.readings).known) (λ _. record { sends = tt })
    (either (is_spent node round o) (λ _. give_up_sends o node) (either_acts _ _ (m.powered && m.joined) (λ both. (and_parts m.powered m.joined both, tt)) tt))

read_later_sends : (o : OwnerState) (now node round : ℕ) → Sends o (reads_later now node round o)
unfolding reads_later
read_later_sends o now node round = either (o.settings.readings.answered || not (may_speak node o)) (λ _. record { sends = tt }) (record { sends = tt })

refresh_sends : (o : OwnerState) → Sends o (refreshes o)
unfolding refreshes
refresh_sends o = either (o.settings.readings.refresh) (λ _. record { sends = tt }) (record { sends = tt })

begin_polls_sends : (o : OwnerState) (round : ℕ) → Sends o (begins_polls round o)
unfolding begins_polls
begin_polls_sends o round = record { sends = tt }

open_polls_sends : (o : OwnerState) (count : ℕ) → Sends o (opens_polls count o)
unfolding opens_polls
open_polls_sends o count = either (eqb count 0) (λ _. record { sends = tt }) (record { sends = (tt, tt) })

poll_next_sends : (o : OwnerState) → Sends o (polls_next o)
unfolding polls_next
poll_next_sends o = either (ltb o.polls.next (length o.members)) (λ _. record { sends = tt }) (record { sends = tt })

end_poll_sends : (o : OwnerState) (node : ℕ) → Sends o (ends_poll node o)
unfolding ends_poll
end_poll_sends o node = either ((member_at node o.members).polled) (λ _. record { sends = tt }) (record { sends = tt })

poll_sends : (o : OwnerState) (now node round : ℕ) → Sends o (polls now node round o)
unfolding polls
poll_sends o now node round =
    either ((reading_at node round o.readings).known) (λ _. record { sends = tt })
    (either (is_spent node round o) (λ _. end_poll_sends o node) (either_acts _ _ (member_at node o.members).joined (λ joined. (joined, tt)) tt))

answer_sends : (o : OwnerState) (node round : ℕ) → Sends o (answers node round o)
unfolding answers
answer_sends o node round =
    let c = member_at 0 o.members in
    let m = member_at node o.members in
    either (c.powered && m.joined) (λ both. record { sends = and_parts c.powered m.joined both }) (record { sends = tt })

reply_sends : (o : OwnerState) (node round : ℕ) → Sends o (replies node round o)
unfolding replies
reply_sends o node round = either (member_at node o.members).powered (λ powered. record { sends = powered }) (record { sends = tt })

begin_change_sends : (o : OwnerState) (index : ℕ) → Sends o (begins_change index o)
unfolding begins_change
begin_change_sends o index = record { sends = tt }

open_challenges_sends : (o : OwnerState) (count : ℕ) → Sends o (opens_challenges count o)
unfolding opens_challenges
open_challenges_sends o count = either (eqb count 0) (λ _. record { sends = tt }) (record { sends = (tt, tt) })

begin_orders_sends : (o : OwnerState) (now : ℕ) (c : Change) → Sends o (begins_orders now c o)
begin_orders_sends o now c =
    either (is_some (nth_of Challenged 0 0 o.members)) (λ _. record { sends = tt }) (either (c.ordering) (λ _. record { sends = tt }) (record { sends = tt }))

next_of_sends : (o : OwnerState) (now : ℕ) (c : Change) (found : Option ℕ) → Sends o (challenges_next_of now c found o)
next_of_sends o now c (Some node) = record { sends = tt }
next_of_sends o now c None = begin_orders_sends o now c

next_in_sends : (o : OwnerState) (now : ℕ) (change : Option Change) → Sends o (challenges_next_in now change o)
next_in_sends o now None = record { sends = tt }
next_in_sends o now (Some c) = next_of_sends o now c (nth_of Waiting 0 0 o.members)

challenge_next_sends : (o : OwnerState) (now : ℕ) → Sends o (challenges_next now o)
unfolding challenges_next
challenge_next_sends o now = next_in_sends o now o.change

challenge_acts_send : (o p : OwnerState) (at node : ℕ) (powered : Bool) → Sends o (does p (challenge_acts at node powered))
challenge_acts_send o p at node true = record { sends = (tt, (tt, (tt, tt))) }
challenge_acts_send o p at node false = record { sends = (tt, (tt, tt)) }

challenge_sends : (o : OwnerState) (now node : ℕ) → Sends o (challenges now node o)
unfolding challenges
challenge_sends o now node =
    let m = member_at node o.members in
    either (is_open node o) (λ _. either (leb o.settings.rotation.tries m.challenges) (λ _. record { sends = (tt, tt) })
    (challenge_acts_send o _ (challenge_again now o) node m.powered)) (record { sends = tt })

order_of_sends : (o : OwnerState) (now k nth : ℕ) (c : Change) (found : Option ℕ) → Sends o (orders_of now k nth c found o)
order_of_sends o now k nth c (Some node) = record { sends = (tt, tt) }
order_of_sends o now k nth c None = either (leb o.settings.rotation.orders (min (nth + 1) (2 ^ 64 - 1))) (λ _. record { sends = tt }) (record { sends = tt })

order_in_sends : (o : OwnerState) (now k nth : ℕ) (change : Option Change) → Sends o (orders_in now k nth change o)
order_in_sends o now k nth None = record { sends = tt }
order_in_sends o now k nth (Some c) = order_of_sends o now k nth c (nth_of Settled k 0 o.members)

order_sends : (o : OwnerState) (now k nth : ℕ) → Sends o (orders now k nth o)
unfolding orders
order_sends o now k nth = order_in_sends o now k nth o.change

end_of_sends : (o : OwnerState) (change : Option Change) → Sends o (ends_change_of change o)
end_of_sends o None = record { sends = tt }
end_of_sends o (Some c) = record { sends = tt }

end_change_sends : (o : OwnerState) → Sends o (ends_change o)
unfolding ends_change
end_change_sends o = end_of_sends o o.change

fail_sends : (o : OwnerState) (now node seconds : ℕ) → Sends o (fails now node seconds o)
unfolding fails
fail_sends o now node seconds = either ((member_at node o.members).powered) (λ _. record { sends = (tt, tt) }) (record { sends = tt })

restore_sends : (o : OwnerState) (now node : ℕ) → Sends o (restores now node o)
unfolding restores
restore_sends o now node = by_test (eqb node 0) (member_at node o.members).joined
  where
    by_test : (is_first joined : Bool) → Sends o (does (with_node node (record (member_at node o.members) { powered = true; rands = 0 }) o)
        (cond is_first (One (Step (Restart node)))
        (cond joined (One (Step (Restart node))) (Two (Step (Restart node)) (Put (later now 1000000) (TryJoin node))))))
    by_test true joined = record { sends = tt }
    by_test false true = record { sends = tt }
    by_test false false = record { sends = (tt, tt) }

pub only_members_send : OnlyMembersSend
unfolding turn
only_members_send rows now (tasks.Make node) o = (make_sends o node).sends
only_members_send rows now (tasks.Enter node) o = (enter_sends o node).sends
only_members_send rows now (tasks.DrawJoins node) o = (draw_join_sends o node).sends
only_members_send rows now (tasks.PutRounds round) o = (put_round_sends o round).sends
only_members_send rows now (tasks.DrawReads round node) o = (draw_read_sends o round node).sends
only_members_send rows now (tasks.Give node least) o = (give_sends o node least).sends
only_members_send rows now (tasks.TryJoin node) o = (try_join_sends o rows now node).sends
only_members_send rows now (tasks.Read node round) o = (read_sends o node round).sends
only_members_send rows now (tasks.ReadLater node round) o = (read_later_sends o now node round).sends
only_members_send rows now tasks.Refresh o = (refresh_sends o).sends
only_members_send rows now (tasks.BeginPolls round) o = (begin_polls_sends o round).sends
only_members_send rows now (tasks.OpenPolls count) o = (open_polls_sends o count).sends
only_members_send rows now tasks.NextPoll o = (poll_next_sends o).sends
only_members_send rows now (tasks.Poll node round) o = (poll_sends o now node round).sends
only_members_send rows now (tasks.Answer node round) o = (answer_sends o node round).sends
only_members_send rows now (tasks.Reply node round) o = (reply_sends o node round).sends
only_members_send rows now (tasks.BeginChange index) o = (begin_change_sends o index).sends
only_members_send rows now (tasks.OpenChallenges count) o = (open_challenges_sends o count).sends
only_members_send rows now tasks.NextChallenge o = (challenge_next_sends o now).sends
only_members_send rows now (tasks.Challenge node) o = (challenge_sends o now node).sends
only_members_send rows now (tasks.Order k nth) o = (order_sends o now k nth).sends
only_members_send rows now tasks.EndChange o = (end_change_sends o).sends
only_members_send rows now (tasks.Fail node seconds) o = (fail_sends o now node seconds).sends
only_members_send rows now (tasks.Restore node) o = (restore_sends o now node).sends
