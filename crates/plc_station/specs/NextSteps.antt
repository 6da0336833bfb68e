-- What a body for an address would do, and does.
use Rattle.std.specs.Prelude.{◌≡◌, ◌+◌, ◌<◌, ◌≤◌, ℕ, Bool, false, nat_lt, if◌then◌else◌, Option, Some, None, Result, Ok, Err}
use Rattle.plc_base.specs.declared.limits.TheConstants.{GREATEST_COUNTER}
use Rattle.node_rules.specs.declared.refusal.SendRefusal.{SendRefusal}
use Rattle.node_rules.specs.declared.refusal.SendRefusal.TheVariants.{WaitingFull, SeqSpent, CounterSpent}
use Rattle.node_rules.specs.declared.heard.SentHow.TheVariants.{Sent, Waiting}
use Rattle.node_rules.specs.Memory.{StationMemory, Load, next_hop}
use Rattle.node_rules.specs.Drafts.{Draft, alone, body_goes, counters_left, is_awaited, no_room, numbers_spent, refused, sealing}
use Rattle.node_rules.specs.Drafts as drafts
use Rattle.node_rules.specs.Calls.{Sending, sending_ends}
use Rattle.plc_station.specs.declared.next_steps.NextStep.{NextStep}
use Rattle.plc_station.specs.declared.next_steps.NextStep.TheVariants.{Goes, Waits, Seeks}

-- without a route, by what is tested in turn: it waits, and where nothing waits for the address yet a route is sought
abbrev pub step_without : (full awaited numbers counters : Bool) → Result NextStep SendRefusal
step_without full awaited numbers counters =
    if full then Err WaitingFull
    else (if awaited then Ok Waits else (if numbers then Err SeqSpent else (if counters then Err CounterSpent else Ok Seeks)))

-- by the route to its address
abbrev pub step_by : StationMemory → (to octets frames : ℕ) → Option ℕ → Result NextStep SendRefusal
step_by l to octets frames (Some hop) = if nat_lt (counters_left l) frames then Err CounterSpent else Ok (Goes hop)
step_by l to octets frames None =
    step_without (no_room l octets) (is_awaited l to) (numbers_spent l) (nat_lt (counters_left l) 1)

-- what a body of this many octets for an address would do, where it goes out in this many frames
abbrev pub next_step : StationMemory → (to octets frames : ℕ) → Result NextStep SendRefusal
next_step l to octets frames = step_by l to octets frames (next_hop l to)

-- There is room for a body of this many octets, an own number, and a counter.
pub record CanSeek (l : StationMemory) (octets : ℕ) : Type 0 where
  pub room : no_room l octets ≡ false
  pub number : l.own_number.last < 65535
  pub left : l.counter.next + 1 ≤ GREATEST_COUNTER

-- what each step needs is there
abbrev pub CanStep : StationMemory → (octets frames : ℕ) → NextStep → Type 0
CanStep l octets frames (Goes hop) = l.counter.next + frames ≤ GREATEST_COUNTER
CanStep l octets frames Waits = no_room l octets ≡ false
CanStep l octets frames Seeks = CanSeek l octets

-- whether there is a step
abbrev pub step_answer : Result NextStep SendRefusal → Result (Unit {0}) SendRefusal
step_answer (Ok step) = Ok tt
step_answer (Err reason) = Err reason

-- what a body does that is carried so, after what is done of it already
abbrev pub stepping : StationMemory → (own to note now : ℕ) → Load → Draft StationMemory → Result NextStep SendRefusal → Sending
stepping l own to note now load d (Ok (Goes hop)) = sealing alone sending_ends (body_goes own hop to note load d) Sent
stepping l own to note now load d (Ok Waits) = sealing alone sending_ends (drafts.waits to note load now d) Waiting
stepping l own to note now load d (Ok Seeks) = sealing alone sending_ends (drafts.waits to note load now (drafts.seeks own to d)) Waiting
stepping l own to note now load d (Err reason) = refused sending_ends l reason
