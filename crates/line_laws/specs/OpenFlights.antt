-- Custody where those flights count that no node has accepted so far: whether or not a node would still admit them.
use Rattle.std.specs.Prelude.{◌≡◌, ℕ, Bool, true, false, List, [], ◌∷◌, ◌++◌, Option, Some, None, Result, Ok, Err, if◌then◌else◌}
use Rattle.std.specs.Option.{option_and_then}
use Rattle.plc_base.specs.declared.key.Key.{Key}
use Rattle.node_rules.specs.Accepted.{Accepted}
use Rattle.node_rules.specs.declared.heard.Path.{Path}
use Rattle.node_rules.specs.declared.heard.Path.TheVariants as paths
use Rattle.node_rules.specs.declared.refusal.FrameRefusal.{FrameRefusal}
use Rattle.node_rules.specs.Ciphers.{network}
use Rattle.node_rules.specs.Memory.{Node}
use Rattle.line_events.specs.declared.event.Event.{Event}
use Rattle.line_events.specs.declared.event.Event.TheVariants as events
use Rattle.line_rules.specs.Forgery.{accepting}
use Rattle.line_rules.specs.Runs.{Entry, IsLineRun, one_of, ups}
use Rattle.line_rules.specs.Worlds.{World, Flight, flight_at, has_octets, node_at, start}
use Rattle.line_laws.specs.Places.{IsInCustody}

-- # What was opened

-- Octets that a node accepted as a sealed frame to it alone, and their key.
pub record Opening : Type 0 where
  pub octets : List ℕ
  pub key : Key

abbrev pub opening_on : List ℕ → Path → Option Opening
opening_on octets (paths.Sealed from true key) = None
opening_on octets (paths.Sealed from false key) = Some (record { octets = octets; key = key })
opening_on octets (paths.Up from) = None
opening_on octets (paths.Down from) = None

abbrev pub opening_by : List ℕ → Result Accepted FrameRefusal → Option Opening
opening_by octets (Ok got) = opening_on octets got.path
opening_by octets (Err reason) = None

-- what the node of a number opens of octets that come to it
abbrev pub opening_at : World → ℕ → List ℕ → Option Opening
opening_at w number octets = option_and_then (λ (x : Node). opening_by octets (accepting network x octets).answer) (node_at w number)

-- what is opened in an event
abbrev pub opening : World → Event → Option Opening
opening w (events.Deliver flight number cost) = option_and_then (λ (f : Flight). opening_at w number f.octets) (flight_at w flight)
opening w (events.Inject number cost octets) = opening_at w number octets
opening w _ = None

-- a flight is open while its octets were not opened under its key
abbrev pub is_open : List Opening → Flight → Bool
is_open [] f = true
is_open (o ∷ rest) f = if has_octets o.octets o.key f then false else is_open rest f

-- # Runs

-- each octet of each datagram that was sent is at one place at most, where the open flights count; what was opened, the last first
abbrev pub StayInOpenCustody : List Opening → (before : List Entry) → World → List Entry → Type 0
StayInOpenCustody opened before w [] = Unit {0}
StayInOpenCustody opened before w (x ∷ xs) =
    x.trace.happenings.forged ≡ false
    → IsInCustody network (λ _ f. is_open (one_of (opening w x.event) ++ opened) f) x.after (ups (before ++ x ∷ []))
    × StayInOpenCustody (one_of (opening w x.event) ++ opened) (before ++ x ∷ []) x.after xs

-- so it is in every run of the network, up to its first forged event
abbrev pub EveryRunStaysInOpenCustody : Type 0
EveryRunStaysInOpenCustody = (entries : List Entry) → IsLineRun network entries → StayInOpenCustody [] [] start entries
