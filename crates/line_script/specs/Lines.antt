-- The line of an event, and which events are in the ranges of lines.
use Rattle.std.specs.Prelude.{ℕ, Bool, true, false, List, ◌++◌, codes}
use Rattle.std.specs.Fmt.{decimal}
use Rattle.hex.specs.Hex.{encode_lower}
use Rattle.line_events.specs.declared.event.Event.{Event}
use Rattle.line_events.specs.declared.event.Event.TheVariants.{Coordinator, Meter, Depot, Near, Counter, Number, Allow, RandomOctets as GiveRand, Join, Leave}
use Rattle.line_events.specs.declared.event.Event.TheVariants.{Send}
use Rattle.line_events.specs.declared.event.Event.TheVariants.{Deliver, Inject, Lose, Break, Tick, Restart, Cut, Rekey, Challenge, Activate, Kick, Show, Checks}
use Rattle.line_events.specs.declared.event.Event.TheVariants.{Bcast, Scan, Choose, Path}
use Rattle.line_events.specs.Events.{IsEvent}
use Rattle.line_script.specs.declared.kind.EventKind.TheVariants as kinds
use Rattle.line_script.specs.declared.reading.Reading.{Reading}
use Rattle.line_script.specs.declared.reading.Reading.TheVariants.{Quiet, NoForm, Reads}
use Rattle.line_script.specs.Kinds.{kind_word}

-- a word and what comes after it, with one space between them
abbrev pub spaced : List ℕ → List ℕ → List ℕ
spaced word rest = word ++ (codes " " ++ rest)

-- which record a write that fails leaves
abbrev pub kept_word : Bool → List ℕ
kept_word true = codes "new"
kept_word false = codes "old"

-- the line that asks for an event, with digits in lower case
abbrev pub line_of : Event → List ℕ
line_of (Coordinator eui key) = spaced (kind_word kinds.Coordinator) (spaced (encode_lower eui.0) (encode_lower key.0))
line_of (Meter eui psk) = spaced (kind_word kinds.Meter) (spaced (encode_lower eui.0) (encode_lower psk.0))
line_of (Depot node) = spaced (kind_word kinds.Depot) (decimal node)
line_of (Near a b cost) = spaced (kind_word kinds.Near) (spaced (decimal a) (spaced (decimal b) (decimal cost)))
line_of (Counter node value) = spaced (kind_word kinds.Counter) (spaced (decimal node) (decimal value))
line_of (Number node value) = spaced (kind_word kinds.Number) (spaced (decimal node) (decimal value))
line_of (Allow node) = spaced (kind_word kinds.Allow) (decimal node)
line_of (GiveRand node value) = spaced (kind_word kinds.RandomOctets) (spaced (decimal node) (encode_lower value.0))
line_of (Join node agent) = spaced (kind_word kinds.Join) (spaced (decimal node) (decimal agent))
line_of (Leave node) = spaced (kind_word kinds.Leave) (decimal node)
line_of (Send from to datagram) =
    spaced (kind_word kinds.Send) (spaced (decimal from) (spaced (decimal to) (encode_lower datagram)))
line_of (Deliver flight node cost) =
    spaced (kind_word kinds.Deliver) (spaced (decimal flight) (spaced (decimal node) (decimal cost)))
line_of (Inject node cost octets) =
    spaced (kind_word kinds.Inject) (spaced (decimal node) (spaced (decimal cost) (encode_lower octets)))
line_of (Lose flight) = spaced (kind_word kinds.Lose) (decimal flight)
line_of (Break node next) = spaced (kind_word kinds.Break) (spaced (decimal node) (decimal next))
line_of (Tick seconds) = spaced (kind_word kinds.Tick) (decimal seconds)
line_of (Restart node) = spaced (kind_word kinds.Restart) (decimal node)
line_of (Cut node nth keeps_new) =
    spaced (kind_word kinds.Cut) (spaced (decimal node) (spaced (decimal nth) (kept_word keeps_new)))
line_of (Rekey index key) = spaced (kind_word kinds.Rekey) (spaced (decimal index) (encode_lower key.0))
line_of (Challenge node) = spaced (kind_word kinds.Challenge) (decimal node)
line_of (Activate node index) = spaced (kind_word kinds.Activate) (spaced (decimal node) (decimal index))
line_of (Kick node) = spaced (kind_word kinds.Kick) (decimal node)
line_of (Show node) = spaced (kind_word kinds.Show) (decimal node)
line_of Checks = kind_word kinds.Checks
line_of (Bcast node datagram) = spaced (kind_word kinds.Bcast) (spaced (decimal node) (encode_lower datagram))
line_of (Scan node) = spaced (kind_word kinds.Scan) (decimal node)
line_of (Choose node k) = spaced (kind_word kinds.Choose) (spaced (decimal node) (decimal k))
line_of (Path from to) = spaced (kind_word kinds.Path) (spaced (decimal from) (decimal to))

-- what is read is an event that a line can say
abbrev pub IsInRange : Reading → Type 0
IsInRange Quiet = Unit {0}
IsInRange NoForm = Unit {0}
IsInRange (Reads event) = IsEvent event
