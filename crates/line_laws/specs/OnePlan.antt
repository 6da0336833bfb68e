-- The one plan by which a node with further reach hears a frame (`reach_rules`), and the two moves that the line makes of it: they leave the same node
-- and send the same, whichever write fails.
use Rattle.std.specs.Prelude.{◌≡◌, ℕ, Bool, true, false, [], ◌++◌, is_ok, is_some, Some, None, Result, Err}
use Rattle.plc_base.specs.declared.key.Key.{Key}
use Rattle.loadng_messages.specs.declared.message.Message.TheVariants.{Rrep}
use Rattle.node_rules.specs.Accepted.{Accepted}
use Rattle.node_rules.specs.declared.heard.Path.TheVariants as paths
use Rattle.node_rules.specs.declared.heard.Reply.{Reply}
use Rattle.node_rules.specs.declared.refusal.Dropped.{Dropped}
use Rattle.node_rules.specs.declared.refusal.Dropped.TheVariants as drops
use Rattle.node_rules.specs.Ciphers.{Ciphers}
use Rattle.node_rules.specs.Coordinators.{CoordinatorIdentity, hear_coordinator}
use Rattle.node_rules.specs.Meters.{Identity, hear_meter}
use Rattle.node_rules.specs.Memory.{Memory, Node}
use Rattle.node_rules.specs.MemoryDrafts.{in_memory}
use Rattle.node_rules.specs.NodeSteps.{NodeStep, acts}
use Rattle.node_rules.specs.Plans.{Plan}
use Rattle.reach_rules.specs.CheckedReplies.{acknowledged, acknowledges, is_unbelieved, message_of}
use Rattle.reach_rules.specs.ReachingNodes.{Beside, command_answer, followed_by, known_answer}
use Rattle.reach_rules.specs.FurtherReceptions.{NeighbourCommand, command_of, hear_command, hear_reaching}
use Rattle.reach_rules.specs.declared.refusal.ReachDropped.TheVariants as reach_drops
use Rattle.line_rules.specs.Answers.{coordinator_reception, meter_reception}
use Rattle.line_rules.specs.Further.{acknowledging, is_reply_taken, reaches}
use Rattle.line_rules.specs.Steps.{hearing_step}

-- What a node did by one plan is what it did by two, of which the second finds no pair tag right. Where a write of either failed, nothing is sent and
-- no tag is made: so the line takes back what the first one sent (`sends_nothing`).
pub record IsInTurn {A B : Type 0} (whole first : NodeStep A) (second : NodeStep B) : Type 0 where
  pub node : whole.node ≡ second.node
  pub opened : whole.opened ≡ first.opened
  pub answers : is_some second.node.memory ≡ true → whole.answer ≡ first.answer
  pub frames : is_some second.node.memory ≡ true → whole.frames ≡ first.frames ++ second.frames
  pub made : is_some second.node.memory ≡ true → whole.made ≡ first.made ++ second.made
  pub unsent : is_some second.node.memory ≡ false → whole.frames ≡ []
  pub unmade : is_some second.node.memory ≡ false → whole.made ≡ []

-- so it is where a reply is acknowledged after what was done for it, whatever power is lost
abbrev pub AcknowledgesInTurn : Type 0 → Type 0
AcknowledgesInTurn A =
    (x : Node) (halted : A) (p : Memory → Plan Memory A) (reply : Reply)
    → IsInTurn (acts x halted (λ m. followed_by (p m) (acknowledges in_memory reply.to reply.number reply.origin))) (acts x halted p)
    (acknowledging (acts x halted p).node reply)

-- What a node did by one plan is what it did by another, whose answer is read as another one.
pub record IsSameMove {A B : Type 0} (reads : B → A) (whole : NodeStep A) (move : NodeStep B) : Type 0 where
  pub node : whole.node ≡ move.node
  pub answer : whole.answer ≡ reads move.answer
  pub frames : whole.frames ≡ move.frames
  pub made : whole.made ≡ move.made
  pub opened : whole.opened ≡ move.opened

-- So it is of a command for the neighbours, by the plan of a node with further reach (`hear_reaching`), and by the line: its first move leaves the
-- node as it is, and its second is the rule of the command. The plan has the rule for other frames as p, which it does not use here.
abbrev pub CommandsInTurn : Type 0 → Type 0
CommandsInTurn H =
    (ciphers : Ciphers) (x : Node) (b : Beside) (on : Bool) (got : Accepted) (cost note now : ℕ) (c : NeighbourCommand) → command_of got ≡ Some c
    → (p : Memory → Plan Memory (Result H Dropped))
    → IsSameMove command_answer (reaches x b (Err (reach_drops.Known drops.Store)) (λ y. hear_reaching in_memory on y got now (p y.memory)))
    (reaches (hearing_step ciphers x got cost note now).node b (Err (reach_drops.Known drops.Store)) (λ y. hear_command in_memory y c))

-- So it is of every other frame where checks are off: the line has its first move alone.
abbrev pub OthersInTurn : Type 0 → Type 0
OthersInTurn H =
    (x : Node) (b : Beside) (got : Accepted) (now : ℕ) → command_of got ≡ None → (p : Memory → Plan Memory (Result H Dropped))
    → IsSameMove known_answer (reaches x b (Err (reach_drops.Known drops.Store)) (λ y. hear_reaching in_memory false y got now (p y.memory)))
    (acts x (Err drops.Store) p)

-- Where checks are on, a request of a listed neighbour is dropped: the node is left as it is, and sends nothing. Every other frame that carries no command
-- is heard by its own rule, and acknowledged if it is a reply that was taken.
abbrev pub ChecksInTurn : Type 0 → Type 0
ChecksInTurn H =
    (x : Node) (b : Beside) (got : Accepted) (now : ℕ) → command_of got ≡ None → (p : Memory → Plan Memory (Result H Dropped))
    → let one = reaches x b (Err (reach_drops.Known drops.Store)) (λ y. hear_reaching in_memory true y got now (p y.memory)) in
    (is_unbelieved b.checks got.path (message_of got) ≡ true → (one.node ≡ x) × (one.frames ≡ []))
    × (is_unbelieved b.checks got.path (message_of got) ≡ false
    → IsSameMove known_answer one (acts x (Err drops.Store) (λ m. acknowledged in_memory got.path (message_of got) (p m))))

-- The replies that a line acknowledges, by the word of what its node made of them (Learned or Relayed), are those that the plan acknowledges: those that
-- their own rule did not refuse.
abbrev pub RepliesTakenAlike : Type 0
RepliesTakenAlike =
    (got : Accepted) (cost note now : ℕ) (from : ℕ) (key : Key) (number c origin to : ℕ) → got.path ≡ paths.Sealed from false key
    → message_of got ≡ Some (Rrep number c origin to) → (m : Memory)
    → ((own : CoordinatorIdentity) → is_reply_taken (coordinator_reception (hear_coordinator own m got cost note now).answer).answer
    ≡ is_ok (hear_coordinator own m got cost note now).answer)
    × ((own : Identity) → is_reply_taken (meter_reception (hear_meter own m got cost note now).answer).answer
    ≡ is_ok (hear_meter own m got cost note now).answer)
