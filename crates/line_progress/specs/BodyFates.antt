-- What becomes of a body that waits for a route, where a frame is heard: in one step of a station, and in an event of a line.
use Rattle.std.specs.Prelude.{◌≡◌, ℕ, List, Some}
use Rattle.plc_base.specs.declared.key.Key.{Key}
use Rattle.plc_base.specs.Grant.{Granted}
use Rattle.fragment_buffers.specs.Loads.{UnsealedUnit}
use Rattle.fragment_buffers.specs.WaitingBodies.{units_by}
use Rattle.node_rules.specs.Accepted.{Accepted}
use Rattle.node_rules.specs.Drafts.{sealing_key}
use Rattle.node_rules.specs.Ciphers.{Ciphers}
use Rattle.node_rules.specs.Frames.{Sent, Sealed, spelled}
use Rattle.node_rules.specs.HearingRules.{Hearing, hear}
use Rattle.node_rules.specs.Memory.{StationMemory, Body}
use Rattle.line_rules.specs.Steps.{flight_by}
use Rattle.line_rules.specs.Worlds.{Flight}
use Rattle.line_progress.specs.Lists.{Among}

-- # A body that waits

-- a frame of the node carries this unit
pub record IsSentAs (g : Granted) (key : Key) (o : UnsealedUnit) (frames : List Sent) : Type 0 where
  pub counter : ℕ
  pub is : Among (Sealed (record {
    to = o.to;
    from = g.address;
    counter = counter;
    index = g.active;
    key = key;
    unit = o.unit;
    note = o.note;
  })) frames

-- What becomes of it where a frame is heard: it waits still, or all its units go out by a hop, under its note.
pub data BodyFate (g : Granted) (key : Key) (b : Body) (p : Hearing) : Type 0 where
  WaitsOn : Among b p.memory.waiting → BodyFate g key b p
  Leaves : (hop : ℕ) → ((o : UnsealedUnit) → Among o (units_by g.address hop b) → IsSentAs g key o p.frames) → BodyFate g key b p

abbrev pub BodiesHaveFates : Type 0
BodiesHaveFates =
    (l : StationMemory) (g : Granted) (key : Key) (got : Accepted) (cost note now : ℕ) (b : Body)
    → l.ring ≡ Some g → sealing_key g ≡ Some key → Among b l.waiting → BodyFate g key b (hear l got cost note now)

-- # In an event of a line

-- a flight of the node carries this unit
pub record IsFlown (ciphers : Ciphers) (number : ℕ) (g : Granted) (key : Key) (o : UnsealedUnit) (flights : List Flight) : Type 0 where
  pub counter : ℕ
  pub is : Among (flight_by number (spelled ciphers (Sealed (record {
    to = o.to;
    from = g.address;
    counter = counter;
    index = g.active;
    key = key;
    unit = o.unit;
    note = o.note;
  })))) flights
