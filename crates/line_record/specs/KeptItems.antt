-- What a node keeps of a story for a while: a datagram or a message that waits for a route, a piece that is gathered; and how an event ends that.
use Rattle.std.specs.Prelude.{ℕ, ◌-◌, ◌==◌, ◌&&◌, ◌||◌, Bool, true, false, not, nat_le, nat_lt, if◌then◌else◌}
use Rattle.fragment_buffers.specs.declared.times.TheConstants.{REASSEMBLY_TIME, WAITING_TIME}
use Rattle.line_events.specs.declared.event.Answer.{Answer}
use Rattle.line_events.specs.declared.event.Answer.TheVariants as answers
use Rattle.line_record.specs.declared.act.Act.{Act}
use Rattle.line_record.specs.declared.act.Act.TheVariants as acts
use Rattle.line_record.specs.declared.recorded.RecordedEvent.{RecordedEvent}
use Rattle.line_record.specs.declared.kept.Kept.{Kept}
use Rattle.line_record.specs.declared.kept.KeptEnd.{KeptEnd}
use Rattle.line_record.specs.declared.kept.KeptEnd.TheVariants as kept_ends
use Rattle.line_record.specs.Kinds.{actor_of}

-- # How it ends

abbrev pub is_tick : Act → Bool
is_tick (acts.Tick seconds) = true
is_tick _ = false

abbrev pub is_restart : ℕ → Act → Bool
is_restart node (acts.Restart other) = other == node
is_restart node _ = false

abbrev pub restarts : Act → Bool
restarts (acts.Restart node) = true
restarts _ = false

abbrev pub is_left : Answer → Bool
is_left answers.Left = true
is_left _ = false

abbrev pub is_power_lost : Answer → Bool
is_power_lost answers.Store = true
is_power_lost _ = false

abbrev pub at_node : Bool → RecordedEvent → ℕ → Bool
at_node holds e node = holds && (actor_of e.act == node)

-- for how long a node keeps it, in seconds
abbrev pub time_of : Bool → ℕ
time_of true = REASSEMBLY_TIME
time_of false = WAITING_TIME

-- how an event of this number ends what is kept
abbrev pub end_of : ℕ → RecordedEvent → Kept → KeptEnd
end_of n e k =
    if is_tick e.act && nat_le (time_of k.gathered) (e.clock - k.clock) then kept_ends.Aged n (e.clock - k.clock)
    else (if is_restart k.node e.act then kept_ends.Restarted n
    else (if at_node (is_left e.answer) e k.node then kept_ends.Left n
    else (if at_node (is_power_lost e.answer) e k.node then kept_ends.Halted n else kept_ends.Still)))

-- whether an event may end what some node keeps
abbrev pub may_end : RecordedEvent → Bool
may_end e = if is_tick e.act || (is_left e.answer || is_power_lost e.answer) then true else restarts e.act

abbrev pub is_still : KeptEnd → Bool
is_still kept_ends.Still = true
is_still _ = false

-- # What is kept

-- whether an answer says that a joining message was made, which flies or waits for a route
abbrev pub makes_message : Answer → Bool
makes_message answers.Challenged = true
makes_message answers.Replied = true
makes_message answers.Keyed = true
makes_message answers.Took = true
makes_message answers.Carried = true
makes_message answers.Ordered = true
makes_message _ = false

abbrev pub is_thing : Bool → Bool → Bool
is_thing true kept = kept
is_thing false kept = not kept

-- whether it is what a node keeps of a story: a piece, or what waits for a route
abbrev pub is_kept_of : Bool → ℕ → ℕ → Kept → Bool
is_kept_of gathered story node k = is_thing gathered k.gathered && (k.story == story && (k.node == node))

-- whether it is a message about a meter that waits at a node
abbrev pub is_message : ℕ → ℕ → Kept → Bool
is_message node about k = not k.gathered && (nat_lt 0 k.about && (k.node == node && (k.about == about)))
