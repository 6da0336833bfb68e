-- The words of the report for what the calls of a node answer.
use Rattle.std.specs.Prelude.{ℕ, List, Option, Some, None, Result, Ok, Err}
use Rattle.plc_base.specs.declared.address.Eui.{Eui}
use Rattle.plc_base.specs.Grant.{Granted}
use Rattle.eap_psk.specs.declared.server.Agreed.{Agreed}
use Rattle.line_events.specs.declared.event.Answer.{Answer}
use Rattle.line_events.specs.declared.event.Answer.TheVariants as answers
use Rattle.node_rules.specs.declared.refusal.FrameRefusal.{FrameRefusal}
use Rattle.node_rules.specs.declared.refusal.FrameRefusal.TheVariants as frames
use Rattle.node_rules.specs.declared.refusal.Dropped.{Dropped}
use Rattle.node_rules.specs.declared.refusal.Dropped.TheVariants as drops
use Rattle.node_rules.specs.declared.refusal.SendRefusal.{SendRefusal}
use Rattle.node_rules.specs.declared.refusal.SendRefusal.TheVariants as sends
use Rattle.node_rules.specs.declared.refusal.RandomFault.{RandomFault}
use Rattle.node_rules.specs.declared.refusal.RandomFault.TheVariants as randoms
use Rattle.node_rules.specs.declared.refusal.JoinRefusal.{JoinRefusal}
use Rattle.node_rules.specs.declared.refusal.JoinRefusal.TheVariants as joins
use Rattle.node_rules.specs.declared.refusal.LeaveRefusal.{LeaveRefusal}
use Rattle.node_rules.specs.declared.refusal.LeaveRefusal.TheVariants as leaves
use Rattle.node_rules.specs.declared.refusal.CoordinatorRefusal.{CoordinatorRefusal}
use Rattle.node_rules.specs.declared.refusal.CoordinatorRefusal.TheVariants as orders
use Rattle.node_rules.specs.declared.heard.SentHow.{SentHow}
use Rattle.node_rules.specs.declared.heard.SentHow.TheVariants as how
use Rattle.node_rules.specs.declared.heard.Heard.{Heard}
use Rattle.node_rules.specs.declared.heard.Heard.TheVariants as station
use Rattle.node_rules.specs.declared.heard.MeterHeard.{MeterHeard}
use Rattle.node_rules.specs.declared.heard.MeterHeard.TheVariants as meter
use Rattle.node_rules.specs.declared.heard.CoordinatorHeard.{CoordinatorHeard}
use Rattle.node_rules.specs.declared.heard.CoordinatorHeard.TheVariants as coordinator_heard
use Rattle.reach_rules.specs.declared.heard.CommandHeard.{CommandHeard}
use Rattle.reach_rules.specs.declared.heard.CommandHeard.TheVariants as further
use Rattle.reach_rules.specs.declared.heard.DiscoveryHeard.{DiscoveryHeard}
use Rattle.reach_rules.specs.declared.heard.DiscoveryHeard.TheVariants as discovered
use Rattle.reach_rules.specs.declared.refusal.ReachDropped.{ReachDropped}
use Rattle.reach_rules.specs.declared.refusal.ReachDropped.TheVariants as reach_drops
use Rattle.reach_rules.specs.declared.refusal.DiscoveryDropped.{DiscoveryDropped}
use Rattle.reach_rules.specs.declared.refusal.DiscoveryDropped.TheVariants as discovery_drops
use Rattle.reach_rules.specs.declared.refusal.BroadcastRefusal.{BroadcastRefusal}
use Rattle.reach_rules.specs.declared.refusal.BroadcastRefusal.TheVariants as broadcasts
use Rattle.reach_rules.specs.declared.refusal.AskRefusal.{AskRefusal}
use Rattle.reach_rules.specs.declared.refusal.AskRefusal.TheVariants as asks
use Rattle.reach_rules.specs.declared.refusal.ScanRefusal.{ScanRefusal}
use Rattle.reach_rules.specs.declared.refusal.ScanRefusal.TheVariants as scans

-- # Refusals

-- the word of a frame that was refused
abbrev pub frame_word : FrameRefusal → Answer
frame_word frames.Halted = answers.Halted
frame_word frames.Malformed = answers.Malformed
frame_word frames.NotForMe = answers.NotForMe
frame_word frames.NoKey = answers.NoKey
frame_word frames.BadTag = answers.BadTag
frame_word frames.Replayed = answers.Replayed
frame_word frames.PeersFull = answers.PeersFull
frame_word frames.Store = answers.Store

-- the word of a frame that was accepted and dropped
abbrev pub drop_word : Dropped → Answer
drop_word drops.BadUnit = answers.BadUnit
drop_word drops.NoRoute = answers.NoRoute
drop_word drops.HopsSpent = answers.HopsSpent
drop_word drops.NotBetter = answers.NotBetter
drop_word drops.CostSpent = answers.CostSpent
drop_word drops.RoutesFull = answers.RoutesFull
drop_word drops.NotAllowed = answers.NotAllowed
drop_word drops.NoSession = answers.NoSession
drop_word drops.SessionsFull = answers.SessionsFull
drop_word drops.NoRandom = answers.NoRandom
drop_word drops.Form = answers.Form
drop_word drops.OtherSession = answers.OtherSession
drop_word drops.BadMac = answers.BadMac
drop_word drops.BadChannel = answers.BadChannel
drop_word drops.NoSuccess = answers.NoSuccess
drop_word drops.NotHeld = answers.NotHeld
drop_word drops.BufferFull = answers.BufferFull
drop_word drops.SeqSpent = answers.SeqSpent
drop_word drops.CounterSpent = answers.CounterSpent
drop_word drops.Store = answers.Store

-- the word of a send that was refused
abbrev pub send_word : SendRefusal → Answer
send_word sends.Halted = answers.Halted
send_word sends.NotJoined = answers.NotJoined
send_word sends.BadSize = answers.BadSize
send_word sends.ToSelf = answers.ToSelf
send_word sends.WaitingFull = answers.WaitingFull
send_word sends.SeqSpent = answers.SeqSpent
send_word sends.CounterSpent = answers.CounterSpent
send_word sends.Store = answers.Store

-- the word of an order that was refused
abbrev pub order_word : CoordinatorRefusal → Answer
order_word orders.Halted = answers.Halted
order_word orders.MetersFull = answers.MetersFull
order_word orders.NotAllowed = answers.NotAllowed
order_word orders.IndexActive = answers.IndexActive
order_word orders.NotHeld = answers.NotHeld
order_word orders.NotIssued = answers.NotIssued
order_word orders.SessionsFull = answers.SessionsFull
order_word orders.NoRandom = answers.NoRandom
order_word orders.WaitingFull = answers.WaitingFull
order_word orders.SeqSpent = answers.SeqSpent
order_word orders.CounterSpent = answers.CounterSpent
order_word orders.Store = answers.Store

-- # Answers of calls

-- the word of a send
abbrev pub sent_word : Result SentHow SendRefusal → Answer
sent_word (Ok how.Sent) = answers.Sent
sent_word (Ok how.Waiting) = answers.Waiting
sent_word (Err reason) = send_word reason

-- the word of a random value that was given
abbrev pub random_word : Result (Unit {0}) RandomFault → Answer
random_word (Ok u) = answers.Given
random_word (Err randoms.Halted) = answers.Halted
random_word (Err randoms.RandomsFull) = answers.RandomsFull

-- the word of a meter that begins to join
abbrev pub join_word : Result (Unit {0}) JoinRefusal → Answer
join_word (Ok u) = answers.Asked
join_word (Err joins.Halted) = answers.Halted
join_word (Err joins.AlreadyJoined) = answers.AlreadyJoined

-- the word of a meter that leaves
abbrev pub leave_word : Result (Unit {0}) LeaveRefusal → Answer
leave_word (Ok u) = answers.Left
leave_word (Err leaves.Halted) = answers.Halted
leave_word (Err leaves.NotJoined) = answers.NotJoined
leave_word (Err leaves.Store) = answers.Store

-- of an order that was carried out
abbrev pub ordered_word : {A : Type 0} → Answer → Result A CoordinatorRefusal → Answer
ordered_word word (Ok a) = word
ordered_word word (Err reason) = order_word reason

-- # Words of further reach

-- the word of a command that was dropped, or a request that was not believed
abbrev pub reach_drop_word : ReachDropped → Answer
reach_drop_word (reach_drops.Known reason) = drop_word reason
reach_drop_word reach_drops.Blacklisted = answers.Blacklisted
reach_drop_word reach_drops.NotAwaited = answers.NotAwaited
reach_drop_word reach_drops.Old = answers.Old
reach_drop_word reach_drops.OriginsFull = answers.OriginsFull
reach_drop_word reach_drops.Revisited = answers.Revisited
reach_drop_word reach_drops.PathLong = answers.PathLong

-- the word of a command that was heard
abbrev pub command_word : Result CommandHeard ReachDropped → Answer
command_word (Ok further.Acked) = answers.Acked
command_word (Ok (further.Broadcast origin number octets)) = answers.Bup
command_word (Ok further.Relayed) = answers.Relayed
command_word (Ok further.Answered) = answers.Answered
command_word (Ok (further.Path walk)) = answers.Path
command_word (Err reason) = reach_drop_word reason

-- the word of a frame of discovery
abbrev pub discovery_word : Result DiscoveryHeard DiscoveryDropped → Answer
discovery_word (Ok discovered.Beacon) = answers.Beacon
discovery_word (Ok discovered.Beaconed) = answers.Beaconed
discovery_word (Err discovery_drops.Halted) = answers.Halted
discovery_word (Err discovery_drops.Malformed) = answers.Malformed
discovery_word (Err discovery_drops.NotForMe) = answers.NotForMe
discovery_word (Err discovery_drops.NotScanning) = answers.NotScanning
discovery_word (Err discovery_drops.NoRoute) = answers.NoRoute

-- the word of a broadcast
abbrev pub broadcast_word : Result (Unit {0}) BroadcastRefusal → Answer
broadcast_word (Ok u) = answers.Sent
broadcast_word (Err broadcasts.Halted) = answers.Halted
broadcast_word (Err broadcasts.NotJoined) = answers.NotJoined
broadcast_word (Err broadcasts.BadSize) = answers.BadSize
broadcast_word (Err broadcasts.NumberSpent) = answers.NumberSpent
broadcast_word (Err broadcasts.CounterSpent) = answers.CounterSpent
broadcast_word (Err broadcasts.Store) = answers.Store

-- the word of an ask
abbrev pub ask_word : Result (Unit {0}) AskRefusal → Answer
ask_word (Ok u) = answers.Traced
ask_word (Err asks.Halted) = answers.Halted
ask_word (Err asks.NotJoined) = answers.NotJoined
ask_word (Err asks.ToSelf) = answers.ToSelf
ask_word (Err asks.NoRoute) = answers.NoRoute
ask_word (Err asks.CounterSpent) = answers.CounterSpent
ask_word (Err asks.Store) = answers.Store

-- the word of a scan
abbrev pub scan_word : Result (Unit {0}) ScanRefusal → Answer
scan_word (Ok u) = answers.Scanning
scan_word (Err scans.Halted) = answers.Halted
scan_word (Err scans.AlreadyJoined) = answers.AlreadyJoined

-- # What a node made of a frame

-- A datagram that was handed up, under the note that came with it.
pub record Up : Type 0 where
  pub note : ℕ
  pub octets : List ℕ

-- A grant that went out to a meter, and a joining that is done with one.
pub record SentGrant : Type 0 where
  pub eui : Eui
  pub granted : Granted

-- A joining that came to its end at the coordinator: the meter's EUI, and the random values that both ends agreed on.
pub record CompletedJoining : Type 0 where
  pub eui : Eui
  pub agreed : Agreed

-- What a node made of a frame: its word, and what the report and the history have of it beside that.
pub record Reception : Type 0 where
  pub answer : Answer
  pub up : Option Up
  pub keyed : Option SentGrant
  pub took : Option Agreed
  pub done : Option CompletedJoining

-- a word and nothing beside it
abbrev pub only : Answer → Reception
only answer = record { answer = answer; up = None; keyed = None; took = None; done = None }

-- a joining command is never left unread by a node, and no line of a script uses the commands 03, 04 and 05 yet
abbrev pub station_reception : Heard → Reception
station_reception (station.Up from note octets) =
    record (only answers.Up) { up = Some (record { note = note; octets = octets }) }
station_reception station.Held = only answers.Held
station_reception station.Relayed = only answers.Relayed
station_reception station.Answered = only answers.Answered
station_reception station.Learned = only answers.Learned
station_reception station.Broken = only answers.Broken
station_reception station.Reported = only answers.Reported
station_reception (station.Joining way body) = only answers.BadUnit
station_reception (station.Local from all code body) = only answers.BadUnit

-- what a meter made of a frame
abbrev pub meter_reception : Result MeterHeard Dropped → Reception
meter_reception (Ok (meter.Station h)) = station_reception h
meter_reception (Ok meter.Carried) = only answers.Carried
meter_reception (Ok meter.Replied) = only answers.Replied
meter_reception (Ok (meter.Took agreed)) = record (only answers.Took) { took = Some agreed }
meter_reception (Ok meter.Noted) = only answers.Noted
meter_reception (Ok meter.Declined) = only answers.Declined
meter_reception (Ok meter.Left) = only answers.Left
meter_reception (Ok meter.Activated) = only answers.Activated
meter_reception (Err reason) = only (drop_word reason)

-- what the coordinator made of a frame
abbrev pub coordinator_reception : Result CoordinatorHeard Dropped → Reception
coordinator_reception (Ok (coordinator_heard.Station h)) = station_reception h
coordinator_reception (Ok coordinator_heard.Challenged) = only answers.Challenged
coordinator_reception (Ok (coordinator_heard.Keyed eui granted)) =
    record (only answers.Keyed) { keyed = Some (record { eui = eui; granted = granted }) }
coordinator_reception (Ok (coordinator_heard.Done eui agreed)) =
    record (only answers.Done) { done = Some (record { eui = eui; agreed = agreed }) }
coordinator_reception (Ok coordinator_heard.Declined) = only answers.Declined
coordinator_reception (Err reason) = only (drop_word reason)
