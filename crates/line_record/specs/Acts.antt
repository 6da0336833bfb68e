-- What a record keeps of an event: all but its octets and keys.
use Rattle.std.specs.Prelude.{ℕ, length}
use Rattle.line_events.specs.declared.event.Event.{Event}
use Rattle.line_events.specs.declared.event.Event.TheVariants as events
use Rattle.line_record.specs.declared.act.Act.{Act}
use Rattle.line_record.specs.declared.act.Act.TheVariants as acts

abbrev pub act_of : Event → Act
act_of (events.Coordinator eui key) = acts.Coordinator eui
act_of (events.Meter eui psk) = acts.Meter eui
act_of (events.Depot node) = acts.Depot node
act_of (events.Near a b cost) = acts.Near a b
act_of (events.Counter node value) = acts.Counter node
act_of (events.Number node value) = acts.Number node
act_of (events.Allow node) = acts.Allow node
act_of (events.RandomOctets node value) = acts.RandomOctets node
act_of (events.Join node agent) = acts.Join node agent
act_of (events.Leave node) = acts.Leave node
act_of (events.Send from to datagram) = acts.Send from to (length datagram)
act_of (events.Deliver flight node cost) = acts.Deliver flight node cost
act_of (events.Inject node cost octets) = acts.Inject node cost (length octets)
act_of (events.Lose flight) = acts.Lose flight
act_of (events.Break node next) = acts.Break node next
act_of (events.Tick seconds) = acts.Tick seconds
act_of (events.Restart node) = acts.Restart node
act_of (events.Cut node nth keeps_new) = acts.Cut node nth keeps_new
act_of (events.Rekey index key) = acts.Rekey index
act_of (events.Challenge node) = acts.Challenge node
act_of (events.Activate node index) = acts.Activate node index
act_of (events.Kick node) = acts.Kick node
act_of (events.Show node) = acts.Show node
act_of events.Checks = acts.Checks
act_of (events.Bcast node datagram) = acts.Bcast node (length datagram)
act_of (events.Scan node) = acts.Scan node
act_of (events.Choose node k) = acts.Choose node k
act_of (events.Path from to) = acts.Path from to

-- the flight that comes to a node at an event, where one with the number `same` has the octets that are injected; 0 where none comes
abbrev pub flight_come : Act → ℕ → ℕ
flight_come (acts.Deliver flight node cost) same = flight
flight_come (acts.Inject node cost octets) same = same
flight_come _ same = 0
