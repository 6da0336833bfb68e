-- What a run of the program does: its items are answered in order, and why it ends.
use Rattle.std.specs.Prelude.{◌≡◌, ◌≢◌, ◌⊎◌, ⊤, codes, ℕ, ◌-◌, ◌^◌, ◌≤◌, List, [], ◌++◌, length, Result, Ok, Err, Some, None}
use Rattle.std.specs.Result.{result_ok}
use Rattle.std.specs.FinMap as map
use Rattle.std.specs.Io.KnownBytes.{Consumes}
use Rattle.plc_base.specs.Keeper.{Store}
use Rattle.plc_base.specs.Fields.{part}
use Rattle.plc_base.specs.declared.streams.Failed.{Failed}
use Rattle.plc_base.specs.Streams.{SourceState, SinkState, SourceFaults, HasWritten}
use Rattle.node_rules.specs.Memory as memory
use Rattle.node_rules.specs.RestartStates.{memory_of}
use Rattle.meter_node.specs.MeterStates.{MeterState, node_of}
use Rattle.host_calls.specs.Calls.{number_at}
use Rattle.host_calls.specs.Items.{Item, spelling}
use Rattle.host_calls.specs.ItemReader.{IsOver, HasFailed, IsTorn, IsLong}
use Rattle.host_calls.specs.declared.answers.Given.{Given}
use Rattle.host_calls.specs.declared.status.Status.{Status}
use Rattle.host_calls.specs.declared.status.Status.TheVariants as status
use Rattle.host_calls.specs.Answers.{status_text, answer_text}
use Rattle.meter_host.specs.LoadedRecords.{IsLoaded}
use Rattle.meter_host.specs.ItemCalls.{Called, NotOpened, all_stored, puts_in}
use Rattle.meter_host.specs.declared.serving.Outcome.{Outcome}
use Rattle.meter_host.specs.declared.serving.Outcome.TheVariants.{Ended, Unusable, Usage, Memory, ReadFault, WriteFault}

-- the number that it ends with
abbrev pub outcome_number : Outcome → ℕ
outcome_number Ended = 0
outcome_number Unusable = 1
outcome_number Usage = 2
outcome_number Memory = 3
outcome_number ReadFault = 4
outcome_number WriteFault = 5

-- why it ends where the meter was not opened
abbrev pub outcome_of : Status → Outcome
outcome_of status.Memory = Memory
outcome_of _ = Unusable

-- what it says of itself, where a word was given
abbrev pub usage_text : List ℕ
usage_text = codes "meter_host holds a meter, and talks in items of octets: docs/FORMATS.md, \"Calls of a meter and their answers\"\nusage: meter_host\n"

abbrev pub Explains : Outcome → Type 0
Explains Usage = ⊤
Explains WriteFault = ⊤
Explains outcome = ⊥

-- # One item

-- what the program holds: the records that were taken in; then the meter; or none, where that was not opened
pub data Phase : Type 0 where
  Loads : (store : Store) → Phase
  Runs : (meter : MeterState) → Phase
  Closed : (ended : Status) → Phase

-- no record yet
abbrev pub no_records : Store
no_records = record { records = map.empty; pending = None; faults = 0; known_cut = None; listed = Some [] }

-- Two octets are the version of the items.
pub record IsVersion (octets : List ℕ) : Type 0 where
  pub long : length octets ≡ 2
  pub one : number_at 2 0 octets ≡ 1

-- whether the program speaks the version of these octets
abbrev pub SaysVersion : List ℕ → Status → Type 0
SaysVersion octets status.Done = IsVersion octets
SaysVersion octets status.Malformed = IsVersion octets → ⊥
SaysVersion octets ended = ⊥

-- Before the meter is opened: the record of an item is taken in, or the version that it asks for is this one, or it is none of the two.
abbrev pub IsTaken : (kind : ℕ) → List ℕ → Store → Status → Store → Type 0
IsTaken kind octets old ended new =
    ((kind ≡ 1) × IsLoaded octets old ended new) ⊎ (((kind ≡ 12) × SaysVersion octets ended × (new ≡ old))
    ⊎ ((kind ≢ 1) × (kind ≢ 12) × (ended ≡ status.Malformed) × (new ≡ old)))

-- The meter of 24 octets, its EUI-64 and its pair key, over the records that were taken in.
pub record IsOpened (old : Store) (octets : List ℕ) (new : MeterState) : Type 0 where
  pub long : length octets ≡ 24
  pub store : new.station.store ≡ old
  pub eui : new.station.eui ≡ record { 0 = part 0 8 octets }
  pub psk : new.psk ≡ record { 0 = part 8 16 octets }
  pub memory : (node_of new).memory ≡ result_ok (memory_of (memory.Meter (record { 0 = part 8 16 octets })) old.records)

-- why the meter was not opened: there are not 24 octets; or a record has no reading, or there is no memory
abbrev pub Refuses : Store → List ℕ → Status → Type 0
Refuses old octets status.Malformed = length octets ≢ 24
Refuses old octets ended =
    (length octets ≡ 24) × NotOpened (memory_of (memory.Meter (record { 0 = part 8 16 octets })) old.records) ended

abbrev pub Opens : Store → List ℕ → Result MeterState Status → Type 0
Opens old octets (Ok new) = IsOpened old octets new
Opens old octets (Err ended) = Refuses old octets ended

-- An item before the meter is opened, which does not open it.
pub record TakesIn (old : Store) (item : Item) (said : List ℕ) (new : Store) : Type 0 where
  pub other : item.kind ≢ 2
  pub ended : Status
  pub taken : IsTaken item.kind item.octets old ended new
  pub is_said : said ≡ status_text ended

-- The meter is to be opened, and was opened or not.
pub record OpensBy (old : Store) (item : Item) (said : List ℕ) (result : Result MeterState Status) (ended : Status) : Type 0 where
  pub is_open : item.kind ≡ 2
  pub opens : Opens old item.octets result
  pub is_said : said ≡ status_text ended

-- The meter makes the call of an item.
pub record IsAnswered (old : MeterState) (item : Item) (said : List ℕ) (new : MeterState) : Type 0 where
  pub mid : MeterState
  pub ended : Status
  pub given : Given
  pub called : Called item.kind item.octets old ended given mid
  pub stored : new ≡ all_stored mid
  pub is_said : said ≡ answer_text (puts_in mid.station.store) given ended

-- an item is answered with this text
abbrev pub Turn : Phase → Item → List ℕ → Phase → Type 0
Turn (Loads old) item said (Loads new) = TakesIn old item said new
Turn (Loads old) item said (Runs new) = OpensBy old item said (Ok new) status.Done
Turn (Loads old) item said (Closed ended) = OpensBy old item said (Err ended) ended
Turn (Runs old) item said (Runs new) = IsAnswered old item said new
Turn old item said new = ⊥

-- # A run

-- Octets that spell items, one after another, and the answers of these items, in the same order.
pub data Answered : Phase → List ℕ → List ℕ → Phase → Type 0 where
  begins : (phase : Phase) → Answered phase [] [] phase
  goes_on : (first old new : Phase) (read said : List ℕ) (item : Item) (answer : List ℕ) → Answered first read said old
      → Turn old item answer new → Answered first (read ++ spelling item) (said ++ answer) new

-- Items of the source were answered so far, and the sink took the answers.
pub record HasAnswered (first : Phase) (source0 source1 : SourceState) (sink0 sink1 : SinkState) (last : Phase) : Type 0 where
  pub read : List ℕ
  pub said : List ℕ
  pub answered : Answered first read said last
  pub gave : Consumes source0.left source1.left read
  pub written : HasWritten {T = Unit {0}} {E = Failed} sink0 sink1 (Ok tt) said
  pub source : SourceFaults source0 source1

-- an item that came next, with these octets
abbrev pub IsNext : SourceState → SourceState → (octets : List ℕ) → (kind : ℕ) → Type 0
IsNext old new octets kind = Consumes old.left new.left (spelling (record { kind = kind; octets = octets }))

-- the source gave no item: it is at its end, it ends within one or one is too long, or a read failed
abbrev pub GaveNone : Outcome → SourceState → SourceState → Type 0
GaveNone Ended old new = Consumes old.left new.left [] × IsOver new
GaveNone Unusable old new = IsTorn old new ⊎ IsLong old new
GaveNone ReadFault old new = HasFailed old new
GaveNone outcome old new = ⊥

abbrev pub NextIs : SourceState → SourceState → (octets : List ℕ) → Result ℕ Outcome → Type 0
NextIs old new octets (Ok kind) = IsNext old new octets kind
NextIs old new octets (Err outcome) = GaveNone outcome old new

-- whether the sink took all of the answers, by the outcome
abbrev pub taken_by : Outcome → Result (Unit {0}) Failed
taken_by WriteFault = Err (record {})
taken_by outcome = Ok tt

-- how the opening ended, where the meter was not opened
abbrev pub ClosedAs : Outcome → Phase → Type 0
ClosedAs outcome (Closed ended) = outcome ≡ outcome_of ended
ClosedAs outcome phase = ⊥

-- Why a run ends that has answered items of these octets and then holds this: the source gave no more, which it does before 2^64 items; the
-- meter was not opened; there was no memory to begin; or a write failed.
abbrev pub EndsAs : Outcome → Phase → List ℕ → SourceState → SourceState → Type 0
EndsAs WriteFault last read mid new = new ≡ mid
EndsAs Memory last read mid new = ((read ≡ []) ⊎ ClosedAs Memory last) × (new ≡ mid)
EndsAs Ended last read mid new = GaveNone Ended mid new ⊎ ((2 ^ 64 - 1 ≤ length read) × (new ≡ mid))
EndsAs Unusable last read mid new = GaveNone Unusable mid new ⊎ (ClosedAs Unusable last × (new ≡ mid))
EndsAs ReadFault last read mid new = GaveNone ReadFault mid new
EndsAs Usage last read mid new = ⊥

-- The items that the source gave are answered in order. The sink took their answers, or a prefix of them where a write failed. And why that
-- ended so.
pub record Serves (first : Phase) (source0 source1 : SourceState) (sink0 sink1 : SinkState) (outcome : Outcome) : Type 0 where
  pub read : List ℕ
  pub said : List ℕ
  pub last : Phase
  pub answered : Answered first read said last
  -- where these items end
  pub mid : SourceState
  pub gave : Consumes source0.left mid.left read
  pub written : HasWritten sink0 sink1 (taken_by outcome) said
  pub ends : EndsAs outcome last read mid source1
  pub before : SourceFaults source0 mid
  pub after : SourceFaults mid source1

-- The records that came were answered, and the item that opens the meter came.
pub record IsToOpen (first : Phase) (source0 source1 : SourceState) (sink0 sink1 : SinkState) (store : Store) (octets : List ℕ) : Type 0 where
  pub mid : SourceState
  pub so_far : HasAnswered first source0 mid sink0 sink1 (Loads store)
  pub next : IsNext mid source1 octets 2
  pub source : SourceFaults mid source1

abbrev pub LoadsAll : Phase → SourceState → SourceState → SinkState → SinkState → Store → List ℕ → Result (Unit {0}) Outcome → Type 0
LoadsAll first source0 source1 sink0 sink1 store octets (Ok _) = IsToOpen first source0 source1 sink0 sink1 store octets
LoadsAll first source0 source1 sink0 sink1 store octets (Err outcome) = Serves first source0 source1 sink0 sink1 outcome

-- A text was written, and the program ends so; or a prefix of it, where a write failed.
abbrev pub Says : SinkState → SinkState → List ℕ → Outcome → Outcome → Type 0
Says sink0 sink1 text done WriteFault = HasWritten {T = Unit {0}} {E = Failed} sink0 sink1 (Err (record {})) text
Says sink0 sink1 text done outcome = (outcome ≡ done) × HasWritten {T = Unit {0}} {E = Failed} sink0 sink1 (Ok tt) text
