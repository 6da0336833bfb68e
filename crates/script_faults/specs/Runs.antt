-- What of a run helps to say why it does not take an event.
use Rattle.std.specs.Prelude.{ℕ, ◌+◌, ◌-◌, ◌==◌, ◌&&◌, ◌||◌, Bool, true, false, List, [], ◌∷◌, Option, None, Some, if◌then◌else◌, nat_le}
use Rattle.std.specs.Prelude.{nat_lt, position, slice_get}
use Rattle.std.specs.List.{count_by}
use Rattle.std.specs.Str.{bytes_eq}
use Rattle.plc_base.specs.declared.address.Eui.{Eui}
use Rattle.line_events.specs.declared.event.Answer.{Answer}
use Rattle.line_events.specs.declared.event.Answer.TheVariants as answers
use Rattle.line_events.specs.declared.event.Event.{Event}
use Rattle.line_events.specs.declared.event.Event.TheVariants as events
use Rattle.line_record.specs.declared.act.Act.{Act}
use Rattle.line_record.specs.declared.act.Act.TheVariants as acts
use Rattle.line_record.specs.declared.recorded.RecordedEvent.{RecordedEvent}
use Rattle.line_record.specs.Kinds.{is_refused}
use Rattle.script_faults.specs.declared.run.Made.{Made}
use Rattle.script_faults.specs.declared.run.Named.{Named}
use Rattle.script_faults.specs.declared.run.Place.{Place}
use Rattle.script_faults.specs.declared.run.Place.TheVariants.{Second, Third}
use Rattle.script_faults.specs.declared.run.Wanted.{Wanted}
use Rattle.script_faults.specs.declared.run.Wanted.TheVariants.{Joined, Near, Lost}

-- The first event that is not part of the setup: its line, 0 if there is none, and the first of its octets.
pub record Other : Type 0 where
  pub row : ℕ
  pub text : List ℕ

-- # The nodes that an event names

abbrev pub naming : Place → ℕ → Option Named
naming place node = Some (record { place = place; node = node })

abbrev pub first_named : Event → Option Named
first_named (events.Depot node) = naming Second node
first_named (events.Near a b cost) = naming Second a
first_named (events.Counter node value) = naming Second node
first_named (events.Number node value) = naming Second node
first_named (events.Allow node) = naming Second node
first_named (events.RandomOctets node value) = naming Second node
first_named (events.Join node agent) = naming Second node
first_named (events.Leave node) = naming Second node
first_named (events.Send from to datagram) = naming Second from
first_named (events.Deliver flight node cost) = naming Third node
first_named (events.Inject node cost octets) = naming Second node
first_named (events.Break node next) = naming Second node
first_named (events.Restart node) = naming Second node
first_named (events.Cut node nth keeps_new) = naming Second node
first_named (events.Challenge node) = naming Second node
first_named (events.Activate node index) = naming Second node
first_named (events.Kick node) = naming Second node
first_named (events.Show node) = naming Second node
first_named (events.Bcast node datagram) = naming Second node
first_named (events.Scan node) = naming Second node
first_named (events.Choose node k) = naming Second node
first_named (events.Path from to) = naming Second from
first_named _ = None

abbrev pub second_named : Event → Option Named
second_named (events.Near a b cost) = naming Third b
second_named (events.Join node agent) = naming Third agent
second_named (events.Send from to datagram) = naming Third to
second_named (events.Break node next) = naming Third next
second_named (events.Path from to) = naming Third to
second_named _ = None

-- the flight that an event names; 0 is no flight
abbrev pub flight_named : Event → ℕ
flight_named (events.Deliver flight node cost) = flight
flight_named (events.Lose flight) = flight
flight_named _ = 0

-- # The nodes that there are

abbrev pub row_by : Option Made → ℕ
row_by None = 0
row_by (Some m) = m.row

-- the line that made a node
abbrev pub made_row : List Made → ℕ → ℕ
made_row made node = row_by (slice_get made node)

-- the node with an EUI-64
abbrev pub node_with : List Made → Eui → Option ℕ
node_with made eui = position (λ (m : Made). bytes_eq m.eui.0 eui.0) made

-- # The lines that matter

abbrev pub is_lost : Answer → Bool
is_lost answers.Lost = true
is_lost _ = false

-- whether two nodes are these two
abbrev pub are : ℕ → ℕ → ℕ → ℕ → Bool
are a b x y = (a == x && b == y) || (a == y && b == x)

-- whether an event is what is looked for
abbrev pub act_is : Act → Answer → Wanted → Bool
act_is (acts.Depot node) _ (Joined meter) = node == meter
act_is (acts.Near a b) _ (Near x y) = are a b x y
act_is (acts.Lose flight) how (Lost number) = flight == number && is_lost how
act_is _ _ _ = false

-- the line of the first such event, 0 if there is none
abbrev pub row_of : Wanted → List RecordedEvent → ℕ
row_of wanted [] = 0
row_of wanted (e ∷ es) = if act_is e.act e.answer wanted then e.line else row_of wanted es

-- the line that joined a node, 0 where none did
abbrev pub joined_row : List Made → List RecordedEvent → ℕ → ℕ
joined_row made es meter = if meter == 0 then made_row made 0 else row_of (Joined meter) es

abbrev pub is_neighbour : ℕ → Act → Bool
is_neighbour node (acts.Near a b) = a == node || b == node
is_neighbour node _ = false

-- how many neighbours a node was given
abbrev pub neighbours : List RecordedEvent → ℕ → ℕ
neighbours es node = count_by (λ (e : RecordedEvent). is_neighbour node e.act) es

-- whether an event sent a flight
abbrev pub sent_it : ℕ → RecordedEvent → Bool
sent_it flight e = nat_le e.first_flight flight && nat_lt (flight - e.first_flight) e.flights

-- the number of the last refusal, from 1, after those before this place; 0 if there is none
abbrev pub refusal_from : ℕ → ℕ → List RecordedEvent → ℕ
refusal_from at last [] = last
refusal_from at last (e ∷ es) = refusal_from (at + 1) (if is_refused e.answer then at + 1 else last) es

unfoldable pub last_refusal : List RecordedEvent → ℕ
last_refusal es = refusal_from 0 0 es
