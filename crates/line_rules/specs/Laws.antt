-- What holds of each step of the world.
use Rattle.std.specs.Prelude.{◌≡◌, ◌+◌, ◌≤◌, true, List, [], ◌∷◌, ◌++◌, length, Ok}
use Rattle.plc_base.specs.declared.tags.PairTag.{PairTag}
use Rattle.node_rules.specs.Ciphers.{Ciphers}
use Rattle.line_events.specs.declared.event.Event.{Event}
use Rattle.line_rules.specs.Worlds.{World, Flight, Trace}
use Rattle.line_rules.specs.Steps.{step}
use Rattle.line_rules.specs.Further.{line_step}

-- A flight as it was, lost or not; one that was lost stays so.
pub record SameFlight (f g : Flight) : Type 0 where
  pub from : g.from ≡ f.from
  pub octets : g.octets ≡ f.octets
  pub key : g.key ≡ f.key
  pub note : g.note ≡ f.note
  pub lost : f.lost ≡ true → g.lost ≡ true

-- the flights of the one list stand before the other, but for what was lost since
abbrev pub KeepsFlights : List Flight → List Flight → Type 0
KeepsFlights [] later = Unit {0}
KeepsFlights (f ∷ flights) [] = ⊥
KeepsFlights (f ∷ flights) (g ∷ later) = SameFlight f g × KeepsFlights flights later

-- A world one event later: nothing that was sent or made is taken back, no node goes, and the clock does not fall.
pub record GoesOn (w v : World) : Type 0 where
  pub events : v.events ≡ w.events + 1
  pub clock : w.clock ≤ v.clock
  pub running : w.running ≡ true → v.running ≡ true
  pub nodes : length w.nodes ≤ length v.nodes
  pub flights : KeepsFlights w.flights v.flights
  pub made : (more : List PairTag) × (v.made ≡ w.made ++ more)

-- every event that is taken leads one event on, with further reach as without
abbrev pub LineStepsGoOn : Type 0
LineStepsGoOn =
    (ciphers : Ciphers) (w v : World) (event : Event) (d : Trace) → line_step ciphers w event ≡ Ok (v, d) → GoesOn w v

-- every event that is taken leads one event on
abbrev pub StepsGoOn : Type 0
StepsGoOn =
    (ciphers : Ciphers) (w v : World) (event : Event) (d : Trace) → step ciphers w event ≡ Ok (v, d) → GoesOn w v
