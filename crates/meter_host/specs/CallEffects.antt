-- What a call makes a meter do, and how it ends: the rules of node_rules, carried out.
use Rattle.std.specs.Prelude.{◌≡◌, ℕ, ◌++◌, nat_lt, if◌then◌else◌, Bool, true, false, List, [], length, Option, None, Result, Ok, Err, IfSome}
use Rattle.std.specs.Option.{option_map, option_and_then}
use Rattle.byteorder.specs.Endian.{big_bytes}
use Rattle.plc_base.specs.declared.out_frame.Out.{Out}
use Rattle.node_rules.specs.declared.heard.MeterHeard.{MeterHeard}
use Rattle.node_rules.specs.declared.heard.MeterHeard.TheVariants.{Station, Took}
use Rattle.node_rules.specs.declared.heard.Heard.TheVariants.{Up}
use Rattle.node_rules.specs.declared.refusal.Unheard.{Unheard}
use Rattle.node_rules.specs.Ciphers.{network}
use Rattle.node_rules.specs.Frames.{arrived}
use Rattle.node_rules.specs.Memory.{StationMemory, Memory, address_of}
use Rattle.node_rules.specs.Plans.{Plan}
use Rattle.node_rules.specs.CarriedPlans.{Carries, nothing}
use Rattle.node_rules.specs.Acceptance.{accept}
use Rattle.node_rules.specs.MemoryDrafts.{give_random}
use Rattle.node_rules.specs.Calls as calls
use Rattle.node_rules.specs.Meters as meters
use Rattle.node_rules.specs.NodeSteps.{of_station}
use Rattle.node_rules.specs.Receives.{Receives}
use Rattle.meter_node.specs.MeterStates.{MeterState, node_of, identity_of}
use Rattle.host_calls.specs.declared.answers.Given.{Given}
use Rattle.host_calls.specs.declared.calls.Call.{Call}
use Rattle.host_calls.specs.declared.calls.Call.TheVariants as call
use Rattle.host_calls.specs.declared.status.Status.{Status}
use Rattle.host_calls.specs.declared.status.Status.TheVariants.{Done, Refused}
use Rattle.host_calls.specs.Answers.{none_given}
use Rattle.meter_host.specs.Refusals.{ring_number, preset_number, random_number, join_number, leave_number, send_number}
use Rattle.meter_host.specs.Refusals.{unheard_number}

-- how a call of the meter ended, by its answer
abbrev pub status_of : {T E : Type 0} → (E → ℕ) → Result T E → Status
status_of number (Ok value) = Done
status_of number (Err reason) = Refused (number reason)

-- A rule of meters was carried out.
pub record NodeDid {T E : Type 0} (number : E → ℕ) (rule : Memory → Plan Memory (Result T E)) (old : MeterState) (status : Status) (out : Out)
    (new : MeterState) : Type 0 where
  pub answer : Result T E
  pub ended : status ≡ status_of number answer
  pub carries : IfSome (node_of old).memory (λ m. Carries (node_of old) (rule m) answer out (node_of new))
  pub same_psk : new.psk ≡ old.psk

-- A rule of stations was carried out, and what the meter keeps beside its station is as before.
pub record StationDid {T E : Type 0} (number : E → ℕ) (rule : StationMemory → Plan StationMemory (Result T E)) (old : MeterState) (status : Status) (out : Out)
    (new : MeterState) : Type 0 where
  pub answer : Result T E
  pub ended : status ≡ status_of number answer
  pub carries : IfSome old.station.memory (λ l. Carries old.station (rule l) answer out new.station)
  pub beside : new ≡ record old { station = new.station }

-- # A frame that came

-- what is handed up: the sender, the note and the datagram, which has 1,280 octets at most
abbrev pub up_of : Result MeterHeard Unheard → List ℕ
up_of (Ok (Station (Up from note octets))) = if nat_lt 1280 (length octets) then [] else (big_bytes 2 from ++ big_bytes 4 note) ++ octets
up_of (Ok heard) = []
up_of (Err reason) = []

-- whether the meter has joined, and the short address that it has then
abbrev pub is_joined_by : Result MeterHeard Unheard → Bool
is_joined_by (Ok (Took agreed)) = true
is_joined_by answer = false

abbrev pub joined_by : Result MeterHeard Unheard → MeterState → Option ℕ
joined_by answer m = if is_joined_by answer then option_and_then address_of m.station.memory else None

-- A frame is accepted or refused, and one that was accepted is heard.
pub record Hears (frame : List ℕ) (cost note now : ℕ) (old : MeterState) (status : Status) (given : Given) (new : MeterState) : Type 0 where
  pub answer : Result MeterHeard Unheard
  pub ended : status ≡ status_of unheard_number answer
  pub received : IfSome (node_of old).memory (λ m. Receives (of_station m (accept m.station old.station.eui (arrived network frame)))
      (λ got k. meters.hear_meter (identity_of old) k got cost note now) (node_of old) answer given.out (node_of new))
  pub same_psk : new.psk ≡ old.psk
  pub joined : given.joined ≡ joined_by answer new
  pub handed_up : given.up ≡ up_of answer

-- # Each call

-- a call of a meter that is not halted, and how it ended; where a put failed, the meter is halted after it
abbrev pub Made : Call → MeterState → Status → Given → MeterState → Type 0
Made (call.Provision grant) old status given new = NodeDid ring_number (λ m. meters.provision m grant) old status nothing new × (given ≡ none_given)
Made (call.Near to cost now) old status given new =
    StationDid preset_number (λ l. calls.preset_near l to cost now) old status nothing new × (given ≡ none_given)
Made (call.Random value) old status given new = NodeDid random_number (λ m. give_random m value) old status nothing new × (given ≡ none_given)
Made (call.Join agent now) old status given new =
    NodeDid join_number (λ m. meters.join (identity_of old) m agent now) old status given.out new × (given.joined ≡ None) × (given.up ≡ [])
Made call.Leave old status given new = NodeDid leave_number (λ m. meters.leave m) old status nothing new × (given ≡ none_given)
Made (call.Tick now) old status given new =
    (status ≡ Done) × (node_of new ≡ record (node_of old) { memory = option_map (meters.tick now) (node_of old).memory }) × (new.psk ≡ old.psk)
    × (given ≡ none_given)
Made (call.Send to note now datagram) old status given new =
    StationDid send_number (λ l. calls.send l to datagram note now) old status given.out new × (given.joined ≡ None) × (given.up ≡ [])
Made (call.Hear cost note now frame) old status given new = Hears frame cost note now old status given new
Made (call.Broke next) old status given new =
    (status ≡ Done) × (new ≡ record old { station = record old.station { memory = option_map (calls.broke next) old.station.memory } })
    × (given ≡ none_given)
