-- At how many places the octet at a position of the datagram of a note is.
use Rattle.std.specs.Prelude.{◌≡◌, ℕ, ◌+◌, ◌<◌, ◌≤◌, Bool, true, false, cond, nat_le, ◌&&◌, if◌then◌else◌, suc, List, [], ◌∷◌, ◌++◌, length, Option, Some, None}
use Rattle.std.specs.Prelude.{Result, Ok, Err, slice_get, slice_set}
use Rattle.std.specs.List.{sum_by}
use Rattle.std.specs.Option.{option_map, option_map_or, option_and_then}
use Rattle.plc_base.specs.declared.key.Key.{Key}
use Rattle.mesh_header.specs.declared.unit.Unit.{Unit as MeshUnit}
use Rattle.mesh_header.specs.Reader.{unit_in}
use Rattle.node_rules.specs.Ciphers.{Ciphers}
use Rattle.node_rules.specs.Frames.{arrived, Arrived}
use Rattle.node_rules.specs.Memory.{Memory, Node}
use Rattle.node_rules.specs.Accepted.{Accepted}
use Rattle.node_rules.specs.declared.heard.Path.{Path}
use Rattle.node_rules.specs.declared.heard.Path.TheVariants as paths
use Rattle.node_rules.specs.declared.refusal.FrameRefusal.{FrameRefusal}
use Rattle.line_rules.specs.Worlds.{Flight, World, has_octets}
use Rattle.line_events.specs.declared.happenings.Handed.{Handed}
use Rattle.line_laws.specs.Custody.{weigh, below, content_is, keeps}

-- what a node keeps, and a halted one nothing
abbrev pub node_keeps : ℕ → ℕ → Option Memory → ℕ
node_keeps n i memory = option_map_or (λ (m : Memory). keeps n i m.station) memory 0

-- the unit that a flight carries, as its key opens it
abbrev pub unit_of : Ciphers → Flight → Option MeshUnit
unit_of ciphers f =
    option_and_then (λ (key : Key). option_and_then (λ (a : Arrived). option_and_then unit_in (a.opened key))
    (arrived ciphers f.octets)) f.key

abbrev pub flight_is : Ciphers → ℕ → ℕ → Flight → ℕ
flight_is ciphers n i f = weigh n f.note (option_map_or (content_is i) (unit_of ciphers f) 0)

abbrev pub handed_is : ℕ → ℕ → Handed → ℕ
handed_is n i u = weigh n u.note (below i (length u.octets))

-- so much of each live flight: one that its node would still admit
abbrev pub live_is : Ciphers → (Flight → Bool) → ℕ → ℕ → Flight → ℕ
live_is ciphers live n i f = cond (live f) (flight_is ciphers n i f) 0

-- in waiting bodies and gathered pieces, in live flights, and handed up before
abbrev pub places : Ciphers → (World → Flight → Bool) → ℕ → ℕ → World → List Handed → ℕ
places ciphers live n i w ups =
    (sum_by (λ (x : Node). node_keeps n i x.memory) w.nodes + sum_by (live_is ciphers (live w) n i) w.flights) + sum_by
    (handed_is n i) ups

-- 1 where a send has this note: they are numbered from 1
abbrev pub issued : ℕ → ℕ → ℕ
issued n sends = cond (nat_le 1 n && nat_le n sends) 1 0

-- Each octet of each datagram that was sent is at one place at most.
pub record IsInCustody (ciphers : Ciphers) (live : World → Flight → Bool) (w : World) (ups : List Handed) : Type 0 where
  pub at_most : (n i : ℕ) → 0 < n → places ciphers live n i w ups ≤ issued n w.sends

-- One node did something: what it was and what it is, and what it sent.
pub record OneNode (w v : World) (x y : Node) (new : List Flight) : Type 0 where
  pub number : ℕ
  pub here : slice_get w.nodes number ≡ Some x
  pub nodes : v.nodes ≡ slice_set w.nodes number y
  pub flights : v.flights ≡ w.flights ++ new

-- What is owed of marks and counters: no flight comes to life again, and one that was opened was live and is no more.
pub record LiveFalls (live : World → Flight → Bool) (w v : World) (opened : Option ℕ) : Type 0 where
  pub falls : (f : Flight) → live v f ≡ true → live w f ≡ true
  pub passes : (place : ℕ) (f : Flight) → opened ≡ Some place → slice_get w.flights place ≡ Some f
      → (live w f ≡ true) × (live v f ≡ false)

-- the place of the first flight with these octets under this key
unfoldable pub first_place : List Flight → List ℕ → Key → Option ℕ
first_place [] octets key = None
first_place (f ∷ rest) octets key =
    if has_octets octets key f then Some 0 else option_map (λ (k : ℕ). suc k) (first_place rest octets key)

-- the flight to one node that a node opened when it accepted octets, if it opened one: what goes to all carries no datagram
abbrev pub opened_by : World → List ℕ → Path → Option ℕ
opened_by w octets (paths.Sealed from true key) = None
opened_by w octets (paths.Sealed from false key) = first_place w.flights octets key
opened_by w octets (paths.Up from) = None
opened_by w octets (paths.Down from) = None

abbrev pub opened_at : World → List ℕ → Result Accepted FrameRefusal → Option ℕ
opened_at w octets (Ok got) = opened_by w octets got.path
opened_at w octets (Err reason) = None
