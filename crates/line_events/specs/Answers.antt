-- Which answers say that an event was done.
use Rattle.std.specs.Prelude.{Bool, true, false}
use Rattle.line_events.specs.declared.event.Answer.{Answer}
use Rattle.line_events.specs.declared.event.Answer.TheVariants.{Made, Joined, Set, Allowed, Given, Asked, Left, Sent, Waiting, Lost, Broken, Ticked}
use Rattle.line_events.specs.declared.event.Answer.TheVariants.{Restarted, Drawn, Challenged, Activated, Ordered, Kicked, Shown, Up, Held, Relayed}
use Rattle.line_events.specs.declared.event.Answer.TheVariants.{Answered, Learned, Reported, Carried, Replied, Took, Noted, Declined, Keyed, Done, Acked}
use Rattle.line_events.specs.declared.event.Answer.TheVariants.{Bup, Scanning, Beacon, Beaconed, Traced, Path}

-- whether an answer is an ok, and no refusal
abbrev pub is_ok : Answer → Bool
is_ok Made = true
is_ok Joined = true
is_ok Set = true
is_ok Allowed = true
is_ok Given = true
is_ok Asked = true
is_ok Left = true
is_ok Sent = true
is_ok Waiting = true
is_ok Lost = true
is_ok Broken = true
is_ok Ticked = true
is_ok Restarted = true
is_ok Drawn = true
is_ok Challenged = true
is_ok Activated = true
is_ok Ordered = true
is_ok Kicked = true
is_ok Shown = true
is_ok Up = true
is_ok Held = true
is_ok Relayed = true
is_ok Answered = true
is_ok Learned = true
is_ok Reported = true
is_ok Carried = true
is_ok Replied = true
is_ok Took = true
is_ok Noted = true
is_ok Declined = true
is_ok Keyed = true
is_ok Done = true
is_ok Acked = true
is_ok Bup = true
is_ok Scanning = true
is_ok Beacon = true
is_ok Beaconed = true
is_ok Traced = true
is_ok Path = true
is_ok _ = false
