-- Which refusal of a call it was, as a number. The refusals of a call are numbered from 1, in the order in which they are declared; what drops a
-- frame that was accepted comes after what does not accept one. Halted of the first two, and NotJoined, come last: a host, whose meter runs, never
-- meets them.
use Rattle.std.specs.Prelude.{ℕ}
use Rattle.node_rules.specs.declared.refusal.RingRefusal.{RingRefusal}
use Rattle.node_rules.specs.declared.refusal.RingRefusal.TheVariants as rings
use Rattle.node_rules.specs.declared.refusal.PresetFault.{PresetFault}
use Rattle.node_rules.specs.declared.refusal.PresetFault.TheVariants as presets
use Rattle.node_rules.specs.declared.refusal.RandomFault.{RandomFault}
use Rattle.node_rules.specs.declared.refusal.RandomFault.TheVariants as randoms
use Rattle.node_rules.specs.declared.refusal.JoinRefusal.{JoinRefusal}
use Rattle.node_rules.specs.declared.refusal.JoinRefusal.TheVariants as joins
use Rattle.node_rules.specs.declared.refusal.LeaveRefusal.{LeaveRefusal}
use Rattle.node_rules.specs.declared.refusal.LeaveRefusal.TheVariants as leaves
use Rattle.node_rules.specs.declared.refusal.SendRefusal.{SendRefusal}
use Rattle.node_rules.specs.declared.refusal.SendRefusal.TheVariants as sends
use Rattle.node_rules.specs.declared.refusal.FrameRefusal.{FrameRefusal}
use Rattle.node_rules.specs.declared.refusal.FrameRefusal.TheVariants as frames
use Rattle.node_rules.specs.declared.refusal.Dropped.{Dropped}
use Rattle.node_rules.specs.declared.refusal.Dropped.TheVariants as droppeds
use Rattle.node_rules.specs.declared.refusal.Halted.{Halted}
use Rattle.node_rules.specs.declared.refusal.Unheard.{Unheard}
use Rattle.node_rules.specs.declared.refusal.Unheard.TheVariants as unheard

abbrev pub ring_number : RingRefusal → ℕ
ring_number rings.NotHeld = 1
ring_number rings.Store = 2
ring_number rings.Halted = 3
ring_number rings.NotJoined = 4

abbrev pub preset_number : PresetFault → ℕ
preset_number presets.NotBetter = 1
preset_number presets.RoutesFull = 2
preset_number presets.Store = 3
preset_number presets.Halted = 4

abbrev pub random_number : RandomFault → ℕ
random_number randoms.Halted = 1
random_number randoms.RandomsFull = 2

abbrev pub join_number : JoinRefusal → ℕ
join_number joins.Halted = 1
join_number joins.AlreadyJoined = 2

abbrev pub leave_number : LeaveRefusal → ℕ
leave_number leaves.Halted = 1
leave_number leaves.NotJoined = 2
leave_number leaves.Store = 3

abbrev pub send_number : SendRefusal → ℕ
send_number sends.Halted = 1
send_number sends.NotJoined = 2
send_number sends.BadSize = 3
send_number sends.ToSelf = 4
send_number sends.WaitingFull = 5
send_number sends.SeqSpent = 6
send_number sends.CounterSpent = 7
send_number sends.Store = 8

abbrev pub frame_number : FrameRefusal → ℕ
frame_number frames.Halted = 1
frame_number frames.Malformed = 2
frame_number frames.NotForMe = 3
frame_number frames.NoKey = 4
frame_number frames.BadTag = 5
frame_number frames.Replayed = 6
frame_number frames.PeersFull = 7
frame_number frames.Store = 8

abbrev pub dropped_number : Dropped → ℕ
dropped_number droppeds.BadUnit = 9
dropped_number droppeds.NoRoute = 10
dropped_number droppeds.HopsSpent = 11
dropped_number droppeds.NotBetter = 12
dropped_number droppeds.CostSpent = 13
dropped_number droppeds.RoutesFull = 14
dropped_number droppeds.NotAllowed = 15
dropped_number droppeds.NoSession = 16
dropped_number droppeds.SessionsFull = 17
dropped_number droppeds.NoRandom = 18
dropped_number droppeds.Form = 19
dropped_number droppeds.OtherSession = 20
dropped_number droppeds.BadMac = 21
dropped_number droppeds.BadChannel = 22
dropped_number droppeds.NoSuccess = 23
dropped_number droppeds.NotHeld = 24
dropped_number droppeds.BufferFull = 25
dropped_number droppeds.SeqSpent = 26
dropped_number droppeds.CounterSpent = 27
dropped_number droppeds.Store = 28

abbrev pub unheard_number : Unheard → ℕ
unheard_number unheard.Halted = 1
unheard_number unheard.Store = 8
unheard_number (unheard.Refused reason) = frame_number reason
unheard_number (unheard.Dropped reason) = dropped_number reason

abbrev pub halted_number : Halted → ℕ
halted_number h = 1
