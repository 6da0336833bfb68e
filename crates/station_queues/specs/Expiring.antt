-- What has waited for a route for the whole time.
use Rattle.std.specs.Prelude.{ℕ, not, List, map}
use Rattle.std.specs.List.{filter}
use Rattle.plc_base.specs.Times.{is_within}
use Rattle.fragment_buffers.specs.WaitingBodies.{Body}
use Rattle.fragment_buffers.specs.declared.times.TheConstants.{WAITING_TIME}
use Rattle.station_queues.specs.Bodies.{Slot}

-- the notes of the bodies that do not wait any longer at this time, in the order in which they came
abbrev pub notes_of_expiring : ℕ → List Body → List ℕ
notes_of_expiring now bodies = map (λ (b : Body). b.note) (filter (λ (b : Body). not (is_within WAITING_TIME now b.since)) bodies)

-- the same of bodies whose octets a pool holds
abbrev pub notes_of_old : ℕ → List Slot → List ℕ
notes_of_old now slots = map (λ (w : Slot). w.note) (filter (λ (w : Slot). not (is_within WAITING_TIME now w.since)) slots)
