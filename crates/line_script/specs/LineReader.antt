-- What a line of a script says.
use Rattle.std.specs.Str.{bytes_eq}
use Rattle.std.specs.Prelude.{ℕ, ◌==◌, List, [], ◌∷◌, if◌then◌else◌, Option, None, Some}
use Rattle.line_events.specs.declared.event.Event.{Event}
use Rattle.line_events.specs.declared.event.Event.TheVariants.{Coordinator, Meter, Depot, Near, Counter, Number, Allow, RandomOctets as GiveRand, Join, Leave}
use Rattle.line_events.specs.declared.event.Event.TheVariants.{Send}
use Rattle.line_events.specs.declared.event.Event.TheVariants.{Deliver, Inject, Lose, Break, Tick, Restart, Cut, Rekey, Challenge, Activate, Kick, Show, Checks}
use Rattle.line_events.specs.declared.event.Event.TheVariants.{Bcast, Scan, Choose, Path}
use Rattle.line_script.specs.declared.kind.EventKind.{EventKind}
use Rattle.line_script.specs.declared.kind.EventKind.TheVariants as kinds
use Rattle.line_script.specs.declared.reading.Reading.{Reading}
use Rattle.line_script.specs.declared.reading.Reading.TheVariants.{Quiet, NoForm, Reads}
use Rattle.line_script.specs.Kinds.{kind_word, kind_named}
use Rattle.line_script.specs.Words.{◌>>=◌, Field, field, number, number_within, cost, eui, sixteen_octets, hex_octets, keeps_new}

-- # The words after the first, by kind

-- <eui> <key>
unfoldable pub coordinator_of : List ℕ → Option Event
coordinator_of octets = do
  first ← field octets
  who ← eui first.word
  value ← sixteen_octets first.rest
  Some (Coordinator who (record { 0 = value }))

-- <eui> <psk>
unfoldable pub meter_of : List ℕ → Option Event
meter_of octets = do
  first ← field octets
  who ← eui first.word
  value ← sixteen_octets first.rest
  Some (Meter who (record { 0 = value }))

-- <n>
unfoldable pub depot_of : List ℕ → Option Event
depot_of octets = do
  node ← number octets
  Some (Depot node)

-- <a> <b> <cost>
unfoldable pub near_of : List ℕ → Option Event
near_of octets = do
  first ← field octets
  a ← number first.word
  second ← field first.rest
  b ← number second.word
  link ← cost second.rest
  Some (Near a b link)

-- <n> <value>
unfoldable pub counter_of : List ℕ → Option Event
counter_of octets = do
  first ← field octets
  node ← number first.word
  value ← number first.rest
  Some (Counter node value)

-- <n> <value>
unfoldable pub number_of : List ℕ → Option Event
number_of octets = do
  first ← field octets
  node ← number first.word
  value ← number_within 1 65535 first.rest
  Some (Number node value)

-- <n>
unfoldable pub allow_of : List ℕ → Option Event
allow_of octets = do
  node ← number octets
  Some (Allow node)

-- <n> <value>
unfoldable pub rand_of : List ℕ → Option Event
rand_of octets = do
  first ← field octets
  node ← number first.word
  value ← sixteen_octets first.rest
  Some (GiveRand node (record { 0 = value }))

-- <n> <agent>
unfoldable pub join_of : List ℕ → Option Event
join_of octets = do
  first ← field octets
  node ← number first.word
  agent ← number first.rest
  Some (Join node agent)

-- <n>
unfoldable pub leave_of : List ℕ → Option Event
leave_of octets = do
  node ← number octets
  Some (Leave node)

-- <from> <to> <hex>
unfoldable pub send_of : List ℕ → Option Event
send_of octets = do
  first ← field octets
  from ← number first.word
  second ← field first.rest
  to ← number second.word
  datagram ← hex_octets second.rest
  Some (Send from to datagram)

-- <flight> <n> <cost>
unfoldable pub deliver_of : List ℕ → Option Event
deliver_of octets = do
  first ← field octets
  flight ← number first.word
  second ← field first.rest
  node ← number second.word
  link ← cost second.rest
  Some (Deliver flight node link)

-- <n> <cost> <hex>
unfoldable pub inject_of : List ℕ → Option Event
inject_of octets = do
  first ← field octets
  node ← number first.word
  second ← field first.rest
  link ← cost second.word
  brought ← hex_octets second.rest
  Some (Inject node link brought)

-- <flight>
unfoldable pub lose_of : List ℕ → Option Event
lose_of octets = do
  flight ← number octets
  Some (Lose flight)

-- <a> <b>
unfoldable pub break_of : List ℕ → Option Event
break_of octets = do
  first ← field octets
  node ← number first.word
  next ← number first.rest
  Some (Break node next)

-- <seconds>
unfoldable pub tick_of : List ℕ → Option Event
tick_of octets = do
  seconds ← number_within 1 86400 octets
  Some (Tick seconds)

-- <n>
unfoldable pub restart_of : List ℕ → Option Event
restart_of octets = do
  node ← number octets
  Some (Restart node)

-- <n> <k> <old or new>
unfoldable pub cut_of : List ℕ → Option Event
cut_of octets = do
  first ← field octets
  node ← number first.word
  second ← field first.rest
  nth ← number_within 1 1000 second.word
  keeps ← keeps_new second.rest
  Some (Cut node nth keeps)

-- <index> <key>
unfoldable pub rekey_of : List ℕ → Option Event
rekey_of octets = do
  first ← field octets
  index ← number_within 0 1 first.word
  value ← sixteen_octets first.rest
  Some (Rekey index (record { 0 = value }))

-- <n>
unfoldable pub challenge_of : List ℕ → Option Event
challenge_of octets = do
  node ← number octets
  Some (Challenge node)

-- <n> <index>
unfoldable pub activate_of : List ℕ → Option Event
activate_of octets = do
  first ← field octets
  node ← number first.word
  index ← number_within 0 1 first.rest
  Some (Activate node index)

-- <n>
unfoldable pub kick_of : List ℕ → Option Event
kick_of octets = do
  node ← number octets
  Some (Kick node)

-- <n>
unfoldable pub show_of : List ℕ → Option Event
show_of octets = do
  node ← number octets
  Some (Show node)

-- <n> <hex>
unfoldable pub bcast_of : List ℕ → Option Event
bcast_of octets = do
  first ← field octets
  node ← number first.word
  datagram ← hex_octets first.rest
  Some (Bcast node datagram)

-- <n>
unfoldable pub scan_of : List ℕ → Option Event
scan_of octets = do
  node ← number octets
  Some (Scan node)

-- <n> <k>
unfoldable pub choose_of : List ℕ → Option Event
choose_of octets = do
  first ← field octets
  node ← number first.word
  k ← number_within 1 16 first.rest
  Some (Choose node k)

-- <a> <b>
unfoldable pub path_of : List ℕ → Option Event
path_of octets = do
  first ← field octets
  from ← number first.word
  to ← number first.rest
  Some (Path from to)

-- # Lines

-- the event of a kind, by the words after the first
unfoldable pub event_by : EventKind → List ℕ → Option Event
event_by kinds.Coordinator rest = coordinator_of rest
event_by kinds.Meter rest = meter_of rest
event_by kinds.Depot rest = depot_of rest
event_by kinds.Near rest = near_of rest
event_by kinds.Counter rest = counter_of rest
event_by kinds.Number rest = number_of rest
event_by kinds.Allow rest = allow_of rest
event_by kinds.RandomOctets rest = rand_of rest
event_by kinds.Join rest = join_of rest
event_by kinds.Leave rest = leave_of rest
event_by kinds.Send rest = send_of rest
event_by kinds.Deliver rest = deliver_of rest
event_by kinds.Inject rest = inject_of rest
event_by kinds.Lose rest = lose_of rest
event_by kinds.Break rest = break_of rest
event_by kinds.Tick rest = tick_of rest
event_by kinds.Restart rest = restart_of rest
event_by kinds.Cut rest = cut_of rest
event_by kinds.Rekey rest = rekey_of rest
event_by kinds.Challenge rest = challenge_of rest
event_by kinds.Activate rest = activate_of rest
event_by kinds.Kick rest = kick_of rest
event_by kinds.Show rest = show_of rest
event_by kinds.Checks rest = None
event_by kinds.Bcast rest = bcast_of rest
event_by kinds.Scan rest = scan_of rest
event_by kinds.Choose rest = choose_of rest
event_by kinds.Path rest = path_of rest

-- the event of a line of one word
unfoldable pub event_alone : List ℕ → Option Event
event_alone octets = if bytes_eq octets (kind_word kinds.Checks) then Some Checks else None

-- the event of a line, by its first word and the words after it, if there are any
abbrev pub event_with : List ℕ → Option Field → Option Event
event_with octets None = event_alone octets
event_with octets (Some first) = kind_named first.word >>= λ kind. event_by kind first.rest

unfoldable pub event_of : List ℕ → Option Event
event_of octets = event_with octets (field octets)

abbrev pub reads : Option Event → Reading
reads (Some event) = Reads event
reads None = NoForm

-- what a line says: an empty line and one that begins with # say nothing
unfoldable pub reading : List ℕ → Reading
reading [] = Quiet
reading (c ∷ cs) = if c == 35 then Quiet else reads (event_of (c ∷ cs))
