-- Who sends: a reading a meter that has joined and has power, what was asked for a meter with power, a question and a receipt the coordinator to a
-- meter that has joined, the receipt with power.
use Rattle.std.specs.Prelude.{◌≡◌, ℕ, true, List}
use Rattle.line_place.specs.declared.link.Link.{Link}
use Rattle.line_owner.specs.declared.acts.Act.{Act}
use Rattle.line_owner.specs.declared.acts.Act.TheVariants.{Step, Put, Do, Say, Dark}
use Rattle.line_owner.specs.declared.acts.Acts.{Acts}
use Rattle.line_owner.specs.declared.acts.Acts.TheVariants.{Nothing, One, Two, Three, Four}
use Rattle.line_owner.specs.declared.acts.Command.{Command}
use Rattle.line_owner.specs.declared.acts.Command.TheVariants as commands
use Rattle.line_owner.specs.declared.acts.Task.{Task}
use Rattle.line_owner.specs.declared.messages.Kind.{Kind}
use Rattle.line_owner.specs.declared.messages.Kind.TheVariants.{Reading, Reply, Ask, Receipt}
use Rattle.line_owner.specs.Members.{member_at}
use Rattle.line_owner.specs.States.{OwnerState}
use Rattle.line_owner.specs.Turns.{turn}

abbrev pub IsSender : OwnerState → ℕ → Kind → Type 0
IsSender o node Reading = ((member_at node o.members).powered ≡ true) × ((member_at node o.members).joined ≡ true)
IsSender o node Reply = (member_at node o.members).powered ≡ true
IsSender o node Ask = (member_at node o.members).joined ≡ true
IsSender o node Receipt = ((member_at 0 o.members).powered ≡ true) × ((member_at node o.members).joined ≡ true)

abbrev pub MaySend : OwnerState → Command → Type 0
MaySend o (commands.Coordinator key) = Unit {0}
MaySend o (commands.Meter node key) = Unit {0}
MaySend o (commands.Depot node) = Unit {0}
MaySend o (commands.Allow node) = Unit {0}
MaySend o (commands.RandomOctets node least value) = Unit {0}
MaySend o (commands.Join node agent) = Unit {0}
MaySend o (commands.Leave node) = Unit {0}
MaySend o (commands.Tell m) = IsSender o m.node m.kind
MaySend o commands.Seek = Unit {0}
MaySend o (commands.Rekey index key) = Unit {0}
MaySend o (commands.Challenge node) = Unit {0}
MaySend o (commands.Activate node index) = Unit {0}
MaySend o (commands.Order node index) = Unit {0}
MaySend o (commands.Restart node) = Unit {0}

abbrev pub MayDo : OwnerState → Act → Type 0
MayDo o (Step command) = MaySend o command
MayDo o (Put at task) = Unit {0}
MayDo o (Do task) = Unit {0}
MayDo o (Say saying) = Unit {0}
MayDo o (Dark node seconds) = Unit {0}

-- each message among acts has its sender
abbrev pub HaveSenders : OwnerState → Acts → Type 0
HaveSenders o Nothing = Unit {0}
HaveSenders o (One a) = MayDo o a
HaveSenders o (Two a b) = MayDo o a × MayDo o b
HaveSenders o (Three a b c) = MayDo o a × (MayDo o b × MayDo o c)
HaveSenders o (Four a b c d) = MayDo o a × (MayDo o b × (MayDo o c × MayDo o d))

-- whatever the task
abbrev pub OnlyMembersSend : Type 0
OnlyMembersSend = (rows : List (List Link)) (now : ℕ) (task : Task) (o : OwnerState) → HaveSenders o (turn rows now task o).acts
