-- What the sentence of an event goes by, and the words that several sentences share.
use Rattle.std.specs.Prelude.{ℕ, ◌==◌, Bool, List, [], ◌∷◌, ◌++◌, codes, Option, None, Some, if◌then◌else◌}
use Rattle.std.specs.List.{find}
use Rattle.std.specs.Option.{option_copied}
use Rattle.plc_base.specs.declared.address.Eui.{Eui}
use Rattle.node_rules.specs.declared.shown.Shown.{Shown}
use Rattle.node_rules.specs.declared.shown.ShownRoute.{ShownRoute}
use Rattle.line_record.specs.declared.recorded.RecordedEvent.{RecordedEvent}
use Rattle.line_record.specs.declared.recorded.RecordedFlight.{RecordedFlight}
use Rattle.sentence_parts.specs.declared.part.Who.{Who}
use Rattle.sentence_parts.specs.declared.part.Part.{Part}
use Rattle.sentence_parts.specs.declared.part.Part.TheVariants.{Words, Number, Place}
use Rattle.sentence_parts.specs.Parts.{parts_text}
use Rattle.sentence_parts.specs.Whos.{who_at}
use Rattle.event_sentences.specs.declared.flights.Meant.{Meant}
use Rattle.event_sentences.specs.declared.flights.Meant.TheVariants as meants
use Rattle.event_sentences.specs.declared.heard.Heard.{Heard}
use Rattle.event_sentences.specs.declared.moment.Moment.{Moment}
use Rattle.event_sentences.specs.declared.moment.Way.{Way}
use Rattle.event_sentences.specs.Flights.{bracketed_text, first_target, leaving_text, meant_from, named_text}
use Rattle.event_sentences.specs.Watches.{Watched}

-- one event, what came with it, and the states about it
pub record Scene : Type 0 where
  -- what the event was and how it ended
  pub recorded : RecordedEvent
  -- the flights that it made
  pub flights : List RecordedFlight
  -- the frame that came, if one did
  pub heard : Option Heard
  -- the node that it is about, and what that shows after it
  pub node : ℕ
  pub shown : Shown
  -- what is kept of the node beside that
  pub watch : Option Watched
  -- whether a route of it ended at the event
  pub ended : Bool
  -- the flight of each counter of each sender
  pub counters : List ((ℕ × ℕ) × ℕ)
  -- the node of each short address, and the EUI-64 of each node
  pub homes : List ℕ
  pub euis : List Eui

abbrev pub scene_of : Moment → Scene
scene_of m =
    record {
      recorded = m.recorded;
      flights = m.flights.now;
      heard = option_copied m.heard;
      node = m.node;
      shown = m.shown.now;
      watch = option_copied m.watch;
      ended = m.ended;
      counters = m.counters.now;
      homes = m.homes.now;
      euis = m.euis.now;
    }

-- # Flights

abbrev pub numbers : Meant → Scene → List ℕ
numbers meant s = meant_from meant s.recorded.first_flight s.flights

abbrev pub named : Meant → Scene → List ℕ
named meant s = named_text (numbers meant s)

abbrev pub bracketed : Meant → Scene → List ℕ
bracketed meant s = bracketed_text (numbers meant s)

-- what waited and leaves
abbrev pub leaving : Scene → List ℕ
leaving s = leaving_text (numbers meants.Waiting s)

-- whom the first is for that is meant
abbrev pub target : Meant → Scene → Who
target meant s = first_target meant s.flights s.homes s.euis

-- some words, and the flights of the event in brackets
abbrev pub with_flights : List Part → Scene → List ℕ
with_flights parts s = parts_text parts ++ bracketed meants.All s

-- # Nodes and routes

-- the node with an address
abbrev pub at : ℕ → Scene → Part
at address s = Place (who_at address s.homes)

abbrev pub leads_to : ℕ → ShownRoute → Bool
leads_to dest route = route.dest == dest

-- the rank that is kept of an address
abbrev pub route : ℕ → Scene → Option ShownRoute
route dest s = find (leads_to dest) s.shown.routes

abbrev pub way_by : Option ℕ → ℕ → Option Way
way_by None cost = None
way_by (Some next) cost = Some (record { next = next; cost = cost })

-- where a route goes, if it is valid
abbrev pub way_of : Option ShownRoute → Option Way
way_of None = None
way_of (Some route) = way_by route.next route.cost

abbrev pub way_to : ℕ → Scene → Option Way
way_to dest s = way_of (route dest s)

-- by which node a route leads to an address
abbrev pub by_text : ℕ → ℕ → Scene → List ℕ
by_text dest next s =
    if next == dest then parts_text (Words (codes "directly") ∷ []) else parts_text (Words (codes "by ") ∷ at next s ∷ [])

abbrev pub reaches_text : ℕ → Way → Scene → List ℕ
reaches_text dest way s =
    parts_text
    (Words (codes ": it reaches ") ∷ at dest s ∷ Words (codes " ") ∷ Words (by_text dest way.next s) ∷ Words (codes " now, at cost ")
    ∷ Number way.cost ∷ [])

abbrev pub leads_text : ℕ → Way → Scene → List ℕ
leads_text dest way s =
    parts_text (Words (codes ": ") ∷ Words (by_text dest way.next s) ∷ Words (codes ", at cost ") ∷ Number way.cost ∷ [])

abbrev pub reaches_by : ℕ → Option Way → Scene → List ℕ
reaches_by dest None s = parts_text []
reaches_by dest (Some way) s = reaches_text dest way s

-- that the node reaches the origin of a route message now, where it does
abbrev pub way_text : ℕ → Scene → List ℕ
way_text origin s = reaches_by origin (way_to origin s) s

abbrev pub leads_by : ℕ → Option Way → Scene → List ℕ
leads_by dest None s = parts_text []
leads_by dest (Some way) s = leads_text dest way s

-- the same without the origin
abbrev pub short_way_text : ℕ → Scene → List ℕ
short_way_text origin s = leads_by origin (way_to origin s) s

abbrev pub way_and_leaving : ℕ → Scene → List ℕ
way_and_leaving origin s = way_text origin s ++ leaving s

-- what follows from a request or a reply: the flights that are meant, the way back to its origin, and what waited for that
abbrev pub follows_text : Meant → ℕ → Scene → List ℕ
follows_text meant origin s = bracketed meant s ++ way_and_leaving origin s

abbrev pub leads_and_leaving : ℕ → Scene → List ℕ
leads_and_leaving origin s = short_way_text origin s ++ leaving s
