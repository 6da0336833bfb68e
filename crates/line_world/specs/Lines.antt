-- A line as the program holds it, and the world that it is.
use Rattle.std.specs.Prelude.{◌≤◌}
use Rattle.line_rules.specs.Worlds.{World}
use Rattle.line_world.specs.declared.line.Line.{Line}

-- the world that a line is: what is reserved, and what the last node gave out, are no part of it
abbrev pub world_of : Line → World
world_of l = record {
  clock = l.clock;
  events = l.events;
  running = l.running;
  nodes = l.nodes;
  flights = l.flights.flights;
  made = l.made.tags;
  sends = l.sends;
  ups = l.ups;
  forged = l.forged;
  done = l.done;
  checks_on = l.checks_on;
  beside = l.beside.items;
}

-- Memory is reserved for all that one event may add: 24 frames of 400 octets, and two tags.
pub record HasRoom (l : Line) : Type 0 where
  pub places : 24 ≤ l.flights.places
  pub room : 9600 ≤ l.flights.room
  pub tags : 2 ≤ l.made.places
