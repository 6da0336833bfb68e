-- What becomes of a datagram that is to be sent: in one step of a station, and in an event of a line.
use Rattle.std.specs.Prelude.{◌≡◌, ℕ, ◌+◌, ◌≤◌, length, map, true, false, List, [], ◌∷◌, ◌++◌, Some, Ok, Err, IfSome}
use Rattle.fragment_buffers.specs.Loads.{all_go, units_of}
use Rattle.node_rules.specs.declared.heard.SentHow.TheVariants as how
use Rattle.node_rules.specs.declared.refusal.SendRefusal.{SendRefusal}
use Rattle.node_rules.specs.Calls.{Sending, send}
use Rattle.node_rules.specs.Drafts.{sealed_by}
use Rattle.node_rules.specs.Ciphers.{Ciphers}
use Rattle.node_rules.specs.Frames.{Sent, spelled}
use Rattle.node_rules.specs.Memory.{StationMemory, Memory, Node, Datagram, address_of, next_hop, node_address}
use Rattle.line_events.specs.declared.event.Answer.TheVariants as answers
use Rattle.line_events.specs.declared.event.Event.{Event}
use Rattle.line_events.specs.declared.event.Event.TheVariants as events
use Rattle.line_rules.specs.Further.{line_step}
use Rattle.line_rules.specs.Steps.{flight_by, is_taken}
use Rattle.line_rules.specs.Worlds.{World, Trace, Sending as SentDatagram, node_at}
use Rattle.line_progress.specs.Stations.{station_at}

-- # A datagram that is to be sent

-- What becomes of it: it has at most 1,280 octets and its units go out by the next hop under its note, or it waits for a route, or the call refuses
-- it and nothing changes.
pub data SendFate (l : StationMemory) (to : ℕ) (datagram : List ℕ) (note now : ℕ) (p : Sending) : Type 0 where
  WentOut : (own hop : ℕ) → length datagram ≤ 1280 → address_of l ≡ Some own → next_hop l to ≡ Some hop → p.answer ≡ Ok how.Sent
      → p.frames ≡ sealed_by l.ring l.counter.next (all_go hop note (units_of own to (Datagram datagram l.next_tag)))
      → SendFate l to datagram note now p
  Waits : p.answer ≡ Ok how.Waiting
      → p.memory.waiting ≡ l.waiting ++ record { to = to; note = note; since = now; load = Datagram datagram l.next_tag } ∷ []
      → SendFate l to datagram note now p
  Refused : (reason : SendRefusal) → p.answer ≡ Err reason → p.memory ≡ l → p.frames ≡ [] → SendFate l to datagram note now p

abbrev pub SendsHaveFates : Type 0
SendsHaveFates =
    (l : StationMemory) (to : ℕ) (datagram : List ℕ) (note now : ℕ) → SendFate l to datagram note now (send l to datagram note now)

-- # In an event of a line

-- What an event makes of it: its units are the new flights, it is the last body that waits, or it is not taken and no flight is new.
pub data SendEventFate (ciphers : Ciphers) (w : World) (from dest : ℕ) (datagram : List ℕ) (l : StationMemory) (r : World × Trace) : Type 0 where
  Flew : (own hop : ℕ) → length datagram ≤ 1280 → address_of l ≡ Some own → next_hop l dest ≡ Some hop → r.1.happenings.answer ≡ answers.Sent
      → r.0.flights
      ≡ w.flights ++ map (λ (frame : Sent). flight_by from (spelled ciphers frame))
      (sealed_by l.ring l.counter.next (all_go hop (w.sends + 1) (units_of own dest (Datagram datagram l.next_tag))))
      → SendEventFate ciphers w from dest datagram l r
  Stayed : (now : StationMemory) → r.1.happenings.answer ≡ answers.Waiting → station_at r.0 from ≡ Some now
      → now.waiting
      ≡ l.waiting ++ record { to = dest; note = w.sends + 1; since = w.clock; load = Datagram datagram l.next_tag } ∷ []
      → SendEventFate ciphers w from dest datagram l r
  NotTaken : is_taken r.1.happenings.answer ≡ false → r.0.flights ≡ w.flights → r.0.sends ≡ w.sends
      → SendEventFate ciphers w from dest datagram l r

-- Whatever power is lost: an event in which a node that runs is to send a datagram to a node with an address.
abbrev pub SendEventsHaveFates : Type 0
SendEventsHaveFates =
    (ciphers : Ciphers) (w : World) (from to dest : ℕ) (datagram : List ℕ) (x y : Node) (m : Memory)
    → node_at w from ≡ Some x → node_at w to ≡ Some y → node_address y ≡ Some dest → x.memory ≡ Some m
    → (r : World × Trace) × (line_step ciphers w (events.Send from to datagram) ≡ Ok r)
    × SendEventFate ciphers w from dest datagram m.station r

-- A datagram that the history has as sent is that of the event's line, and of a node that ran; its units are the new flights under the number
-- of the send, or it is the last body that waits.
pub record SendFlew (ciphers : Ciphers) (w : World) (event : Event) (s : SentDatagram) (r : World × Trace) : Type 0 where
  pub line : event ≡ events.Send s.from s.to s.datagram
  pub node : Node
  pub there : node_at w s.from ≡ Some node
  pub memory : Memory
  pub runs : node.memory ≡ Some memory
  pub target : Node
  pub is_target : node_at w s.to ≡ Some target
  pub address : ℕ
  pub has_address : node_address target ≡ Some address
  pub tag : s.tag ≡ memory.station.next_tag
  pub taken : is_taken r.1.happenings.answer ≡ true
  pub fate : SendEventFate ciphers w s.from address s.datagram memory.station r

-- Whatever power is lost, and whatever is forged: so it is of each event of a line.
abbrev pub SendsFly : Type 0
SendsFly =
    (ciphers : Ciphers) (w v : World) (event : Event) (d : Trace) → line_step ciphers w event ≡ Ok (v, d)
    → IfSome d.sent (λ (s : SentDatagram). SendFlew ciphers w event s (v, d))
