-- What events and answers are to a story.
use Rattle.std.specs.Prelude.{ℕ, ◌&&◌, Bool, true, false, not, Option, None, Some}
use Rattle.line_events.specs.declared.event.Answer.{Answer}
use Rattle.line_events.specs.declared.event.Answer.TheVariants as answers
use Rattle.line_events.specs.Answers.{is_ok}
use Rattle.line_record.specs.declared.act.Act.{Act}
use Rattle.line_record.specs.declared.act.Act.TheVariants as acts
use Rattle.line_record.specs.declared.kind.StoryKind.{StoryKind}
use Rattle.line_record.specs.declared.kind.StoryKind.TheVariants as kinds

-- lines of the setup have one story together
abbrev pub is_setup : Act → Bool
is_setup (acts.Coordinator eui) = true
is_setup (acts.Meter eui) = true
is_setup (acts.Depot node) = true
is_setup (acts.Near a b) = true
is_setup (acts.Counter node) = true
is_setup (acts.Number node) = true
is_setup acts.Checks = true
is_setup _ = false

-- the story that an event begins
abbrev pub begins : Act → Option StoryKind
begins (acts.Send from to octets) = Some kinds.Datagram
begins (acts.Join node agent) = Some kinds.Joining
begins (acts.Choose node k) = Some kinds.Joining
begins (acts.Challenge node) = Some kinds.Renewal
begins (acts.Activate node index) = Some kinds.Order
begins (acts.Kick node) = Some kinds.Order
begins (acts.Inject node cost octets) = Some kinds.Injection
begins (acts.Bcast node octets) = Some kinds.Broadcast
begins (acts.Path from to) = Some kinds.Walk
begins _ = None

-- the node that a story is about
abbrev pub person_of : Act → ℕ
person_of (acts.Send from to octets) = from
person_of (acts.Join node agent) = node
person_of (acts.Choose node k) = node
person_of (acts.Challenge node) = node
person_of (acts.Activate node index) = node
person_of (acts.Kick node) = node
person_of (acts.Inject node cost octets) = node
person_of (acts.Bcast node octets) = node
person_of (acts.Path from to) = from
person_of _ = 0

-- the meter whose joining or renewal an event begins
abbrev pub joins : Act → Option ℕ
joins (acts.Join node agent) = Some node
joins (acts.Choose node k) = Some node
joins (acts.Challenge node) = Some node
joins _ = None

-- the node that an event prepares for a joining, 0 for the coordinator
abbrev pub prepares : Act → Option ℕ
prepares (acts.Allow node) = Some node
prepares (acts.RandomOctets node) = Some node
prepares _ = None

-- the flight whose story an event goes on with
abbrev pub goes_on_with : Act → Option ℕ
goes_on_with (acts.Deliver flight node cost) = Some flight
goes_on_with (acts.Lose flight) = Some flight
goes_on_with _ = None

-- the node that may obey at an event
abbrev pub obeys_at : Act → Option ℕ
obeys_at (acts.Deliver flight node cost) = Some node
obeys_at (acts.Inject node cost octets) = Some node
obeys_at (acts.Activate node index) = Some node
obeys_at _ = None

-- the node that an event is about: the one that does what it says, or hears the frame; the coordinator where it is about no other
abbrev pub actor_of : Act → ℕ
actor_of (acts.Depot node) = node
actor_of (acts.Near a b) = a
actor_of (acts.Counter node) = node
actor_of (acts.Number node) = node
actor_of (acts.RandomOctets node) = node
actor_of (acts.Join node agent) = node
actor_of (acts.Leave node) = node
actor_of (acts.Send from to octets) = from
actor_of (acts.Deliver flight node cost) = node
actor_of (acts.Inject node cost octets) = node
actor_of (acts.Break node next) = node
actor_of (acts.Restart node) = node
actor_of (acts.Cut node nth keeps_new) = node
actor_of (acts.Show node) = node
actor_of (acts.Bcast node octets) = node
actor_of (acts.Scan node) = node
actor_of (acts.Choose node k) = node
actor_of (acts.Path from to) = from
actor_of _ = 0

-- whether an event made a node
abbrev pub makes_node : Act → Bool
makes_node (acts.Coordinator eui) = true
makes_node (acts.Meter eui) = true
makes_node _ = false

abbrev pub is_sent : Answer → Bool
is_sent answers.Sent = true
is_sent answers.Waiting = true
is_sent _ = false

-- whether an event is a send: sends are numbered
abbrev pub sends : Act → Answer → Bool
sends (acts.Send from to octets) answer = is_sent answer
sends _ _ = false

-- whether a node that a frame is for goes on with it: any ok but Reported
abbrev pub takes_on : Answer → Bool
takes_on answers.Left = true
takes_on answers.Broken = true
takes_on answers.Challenged = true
takes_on answers.Activated = true
takes_on answers.Up = true
takes_on answers.Held = true
takes_on answers.Relayed = true
takes_on answers.Answered = true
takes_on answers.Learned = true
takes_on answers.Carried = true
takes_on answers.Replied = true
takes_on answers.Took = true
takes_on answers.Noted = true
takes_on answers.Declined = true
takes_on answers.Keyed = true
takes_on answers.Done = true
takes_on answers.Acked = true
takes_on answers.Bup = true
takes_on answers.Beacon = true
takes_on answers.Beaconed = true
takes_on answers.Path = true
takes_on _ = false

abbrev pub is_reported : Answer → Bool
is_reported answers.Reported = true
is_reported _ = false

-- whether a datagram ended at a node that had accepted its frame, and nobody was told
abbrev pub is_dropped : Answer → Bool
is_dropped answers.NoRoute = true
is_dropped answers.HopsSpent = true
is_dropped answers.CounterSpent = true
is_dropped answers.BufferFull = true
is_dropped answers.BadUnit = true
is_dropped _ = false

-- whether the counter of a frame that is answered so is taken: a frame of the same sender with a counter that is not above it is refused from then on
abbrev pub takes_counter : Answer → Bool
takes_counter answers.NotForMe = false
takes_counter answers.Halted = false
takes_counter answers.Store = false
takes_counter answers.NoKey = false
takes_counter answers.BadTag = false
takes_counter answers.Replayed = false
takes_counter answers.PeersFull = false
takes_counter _ = true

-- whether a node holds a piece of a datagram now
abbrev pub is_piece_held : Answer → Bool
is_piece_held answers.Held = true
is_piece_held _ = false

-- whether a frame came to a node that it is not for
abbrev pub is_for_another : Answer → Bool
is_for_another answers.NotForMe = true
is_for_another _ = false

-- whether something was refused, and not since its frame is for another node
abbrev pub is_refused : Answer → Bool
is_refused answer = not (is_ok answer) && not (is_for_another answer)

abbrev pub is_declined : Answer → Bool
is_declined answers.Declined = true
is_declined _ = false

-- whether a meter obeyed
abbrev pub is_heeded : Answer → Bool
is_heeded answers.Activated = true
is_heeded answers.Left = true
is_heeded _ = false

abbrev pub is_path : Answer → Bool
is_path answers.Path = true
is_path _ = false

-- the stories with which joining messages stay
abbrev pub keeps_joinings : StoryKind → Bool
keeps_joinings kinds.Joining = true
keeps_joinings kinds.Renewal = true
keeps_joinings kinds.Order = true
keeps_joinings _ = false

abbrev pub is_line : StoryKind → Bool
is_line kinds.Line = true
is_line _ = false

abbrev pub is_setup_kind : StoryKind → Bool
is_setup_kind kinds.Setup = true
is_setup_kind _ = false
