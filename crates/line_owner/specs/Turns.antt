-- What the owner does at each task, after each command, and at what it notices.
use Rattle.std.specs.Prelude.{ℕ, true, false, List}
use Rattle.line_place.specs.declared.link.Link.{Link}
use Rattle.line_owner.specs.declared.acts.Act.TheVariants.{Do, Say}
use Rattle.line_owner.specs.declared.acts.Acts.{Acts}
use Rattle.line_owner.specs.declared.acts.Acts.TheVariants.{Nothing, One, Two}
use Rattle.line_owner.specs.declared.acts.Command.{Command}
use Rattle.line_owner.specs.declared.acts.Command.TheVariants as commands
use Rattle.line_owner.specs.declared.messages.Kind.{Kind}
use Rattle.line_owner.specs.declared.messages.Kind.TheVariants.{Reading, Reply, Ask, Receipt}
use Rattle.line_owner.specs.declared.messages.Message.{Message}
use Rattle.line_owner.specs.declared.acts.Notice.{Notice}
use Rattle.line_owner.specs.declared.acts.Notice.TheVariants as notices
use Rattle.line_owner.specs.declared.acts.Outcome.{Outcome}
use Rattle.line_owner.specs.declared.acts.Outcome.TheVariants.{Taken, Refused, StoreFailed}
use Rattle.line_owner.specs.declared.acts.Saying.TheVariants as sayings
use Rattle.line_owner.specs.declared.acts.Task.{Task}
use Rattle.line_owner.specs.declared.acts.Task.TheVariants as tasks
use Rattle.line_owner.specs.Members.{more, member_at}
use Rattle.line_owner.specs.States.{OwnerState, Turned, does, rests, with_node, gives, spends, fails, fails_at_write, restores, off_after_write}
use Rattle.line_owner.specs.Setups.{makes, enters, draws_join, puts_round, draws_read}
use Rattle.line_owner.specs.Joins.{tries_to_join, takes_grant, has_left}
use Rattle.line_owner.specs.Reads.{reads, reads_later, begins_polls, opens_polls, polls_next, polls, answers, replies, refreshes, comes}
use Rattle.line_owner.specs.Changes.{begins_change, has_drawn, opens_challenges, challenges_next, challenges, ends_challenge, orders, ends_change}

-- # Tasks

unfoldable pub turn : List (List Link) → ℕ → Task → OwnerState → Turned
turn rows now (tasks.Make node) o = makes node o
turn rows now (tasks.Enter node) o = enters node o
turn rows now (tasks.DrawJoins node) o = draws_join node o
turn rows now (tasks.PutRounds round) o = puts_round round o
turn rows now (tasks.DrawReads round node) o = draws_read round node o
turn rows now (tasks.Give node least) o = gives node least o
turn rows now (tasks.TryJoin node) o = tries_to_join rows now node o
turn rows now (tasks.Read node round) o = reads node round o
turn rows now (tasks.ReadLater node round) o = reads_later now node round o
turn rows now tasks.Refresh o = refreshes o
turn rows now (tasks.BeginPolls round) o = begins_polls round o
turn rows now (tasks.OpenPolls count) o = opens_polls count o
turn rows now tasks.NextPoll o = polls_next o
turn rows now (tasks.Poll node round) o = polls now node round o
turn rows now (tasks.Answer node round) o = answers node round o
turn rows now (tasks.Reply node round) o = replies node round o
turn rows now (tasks.BeginChange index) o = begins_change index o
turn rows now (tasks.OpenChallenges count) o = opens_challenges count o
turn rows now tasks.NextChallenge o = challenges_next now o
turn rows now (tasks.Challenge node) o = challenges now node o
turn rows now (tasks.Order k nth) o = orders now k nth o
turn rows now tasks.EndChange o = ends_change o
turn rows now (tasks.Fail node seconds) o = fails now node seconds o
turn rows now (tasks.Restore node) o = restores now node o

-- # Commands

abbrev pub joins_line : ℕ → OwnerState → Turned
joins_line node o = rests (with_node node (record (member_at node o.members) { joined = true; booked = true }) o)

abbrev pub books : ℕ → OwnerState → Turned
books node o = rests (with_node node (record (member_at node o.members) { booked = true }) o)

-- a node holds a random value more, and is given another where it lacks one
abbrev pub receives : ℕ → ℕ → OwnerState → Turned
receives node least o =
    let m = member_at node o.members in
    does (with_node node (record m { rands = more m.rands }) o) (One (Do (tasks.Give node least)))

-- a command was taken
unfoldable pub taken : ℕ → Command → OwnerState → Turned
taken now (commands.Coordinator key) o = joins_line 0 o
taken now (commands.Meter node key) o = rests o
taken now (commands.Depot node) o = joins_line node o
taken now (commands.Allow node) o = books node o
taken now (commands.RandomOctets node least value) o = receives node least o
taken now (commands.Join node agent) o = rests o
taken now (commands.Leave node) o = has_left now node o
taken now (commands.Tell m) o = rests o
taken now commands.Seek o = rests o
taken now (commands.Rekey index key) o = has_drawn index o
taken now (commands.Challenge node) o = rests (spends 0 o)
taken now (commands.Activate node index) o = rests o
taken now (commands.Order node index) o = rests o
taken now (commands.Restart node) o = rests o

-- the refusal of a message becomes a remark where the owner sent it by itself
abbrev pub telling_refused_by : Kind → Message → Acts
telling_refused_by Reading m = One (Say (sayings.Refused (commands.Tell m)))
telling_refused_by Reply m = Nothing
telling_refused_by Ask m = One (Say (sayings.Refused (commands.Tell m)))
telling_refused_by Receipt m = Nothing

abbrev pub telling_refused : Message → Acts
telling_refused m = telling_refused_by m.kind m

-- what follows a command that was refused
abbrev pub refused : Command → Acts
refused (commands.Coordinator key) = Nothing
refused (commands.Meter node key) = Nothing
refused (commands.Depot node) = Nothing
refused (commands.Allow node) = Nothing
refused (commands.RandomOctets node least value) = Nothing
refused (commands.Join node agent) = Nothing
refused (commands.Leave node) = Nothing
refused (commands.Tell m) = telling_refused m
refused commands.Seek = Nothing
refused (commands.Rekey index key) = One (Say (sayings.KeyDrawn index))
refused (commands.Challenge node) = Nothing
refused (commands.Activate node index) = Nothing
refused (commands.Order node index) = One (Say (sayings.Refused (commands.Order node index)))
refused (commands.Restart node) = Nothing

-- a write of the store failed: of a meter that sends a reading the owner sees that its power fails
abbrev pub telling_failed_by : Kind → Message → OwnerState → Acts
telling_failed_by Reading m o =
    Two (Say (sayings.Refused (commands.Tell m))) (Do (tasks.Fail m.node (off_after_write (member_at m.node o.members))))
telling_failed_by Reply m o = telling_refused m
telling_failed_by Ask m o = telling_refused m
telling_failed_by Receipt m o = telling_refused m

abbrev pub telling_failed : Message → OwnerState → Acts
telling_failed m o = telling_failed_by m.kind m o

-- what follows a command in which a write of the store failed
abbrev pub failed : Command → OwnerState → Acts
failed (commands.Coordinator key) o = refused (commands.Coordinator key)
failed (commands.Meter node key) o = refused (commands.Meter node key)
failed (commands.Depot node) o = refused (commands.Depot node)
failed (commands.Allow node) o = refused (commands.Allow node)
failed (commands.RandomOctets node least value) o = refused (commands.RandomOctets node least value)
failed (commands.Join node agent) o = refused (commands.Join node agent)
failed (commands.Leave node) o = refused (commands.Leave node)
failed (commands.Tell m) o = telling_failed m o
failed commands.Seek o = refused commands.Seek
failed (commands.Rekey index key) o = refused (commands.Rekey index key)
failed (commands.Challenge node) o = refused (commands.Challenge node)
failed (commands.Activate node index) o = refused (commands.Activate node index)
failed (commands.Order node index) o = refused (commands.Order node index)
failed (commands.Restart node) o = refused (commands.Restart node)

-- how a command ended
unfoldable pub answered : ℕ → Command → Outcome → OwnerState → Turned
answered now command Taken o = taken now command o
answered now command Refused o = does o (refused command)
answered now command StoreFailed o = does o (failed command o)

-- # What is noticed

abbrev pub told_to_leave : ℕ → OwnerState → Turned
told_to_leave node o =
    does (with_node node (record (member_at node o.members) { joined = false }) o) (One (Say (sayings.ToldToLeave node)))

abbrev pub will_tear : ℕ → ℕ → OwnerState → Turned
will_tear node seconds o = rests (with_node node (record (member_at node o.members) { off_for = seconds }) o)

unfoldable pub noticed : ℕ → Notice → OwnerState → Turned
noticed now notices.Challenged o = rests (spends 0 o)
noticed now (notices.Replied node) o = rests (spends node o)
noticed now (notices.ToldToLeave node) o = told_to_leave node o
noticed now (notices.StoreFailed node) o = fails_at_write now node o
noticed now (notices.Came node m) o = comes now node m o
noticed now (notices.Took node) o = takes_grant node o
noticed now (notices.Done node) o = ends_challenge node o
noticed now (notices.Torn node seconds) o = will_tear node seconds o
