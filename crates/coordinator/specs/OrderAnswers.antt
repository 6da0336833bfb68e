-- What becomes of the command that an order sends, as the answer of the order.
use Rattle.std.specs.Prelude.{Result, Ok, Err}
use Rattle.node_rules.specs.declared.heard.SentHow.{SentHow}
use Rattle.node_rules.specs.declared.refusal.SendRefusal.{SendRefusal}
use Rattle.node_rules.specs.declared.refusal.SendRefusal.TheVariants as sends
use Rattle.node_rules.specs.declared.refusal.CoordinatorRefusal.{CoordinatorRefusal}
use Rattle.node_rules.specs.declared.refusal.CoordinatorRefusal.TheVariants as refusal

-- the refusals of a command among those of an order; the coordinator is joined, and no command has a bad size or is refused for its
-- target
abbrev pub order_refusal : SendRefusal → CoordinatorRefusal
order_refusal sends.Halted = refusal.Halted
order_refusal sends.NotJoined = refusal.Halted
order_refusal sends.BadSize = refusal.Store
order_refusal sends.ToSelf = refusal.Store
order_refusal sends.WaitingFull = refusal.WaitingFull
order_refusal sends.SeqSpent = refusal.SeqSpent
order_refusal sends.CounterSpent = refusal.CounterSpent
order_refusal sends.Store = refusal.Store

-- the answer of a command as that of an order
abbrev pub order_answer : Result SentHow SendRefusal → Result (Unit {0}) CoordinatorRefusal
order_answer (Ok how) = Ok tt
order_answer (Err reason) = Err (order_refusal reason)
