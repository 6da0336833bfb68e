-- What a command lacks, in the words of a frame that is dropped.
use Rattle.node_rules.specs.declared.refusal.Dropped.{Dropped}
use Rattle.node_rules.specs.declared.refusal.Dropped.TheVariants as drops
use Rattle.node_rules.specs.declared.refusal.SendRefusal.{SendRefusal}
use Rattle.node_rules.specs.declared.refusal.SendRefusal.TheVariants as sends

-- a refusal that no joined station gives for want of room counts as a failed write
abbrev pub dropped_send : SendRefusal → Dropped
dropped_send sends.WaitingFull = drops.BufferFull
dropped_send sends.SeqSpent = drops.SeqSpent
dropped_send sends.CounterSpent = drops.CounterSpent
dropped_send sends.Halted = drops.Store
dropped_send sends.NotJoined = drops.Store
dropped_send sends.BadSize = drops.Store
dropped_send sends.ToSelf = drops.Store
dropped_send sends.Store = drops.Store
