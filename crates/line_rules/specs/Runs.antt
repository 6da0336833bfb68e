-- Runs of the world, and the history of each.
use Rattle.std.specs.Prelude.{◌≡◌, ℕ, ◌+◌, ◌-◌, ◌<◌, ◌==◌, nat_lt, false, List, [], ◌∷◌, ◌++◌, map, All, Option, Some, None, Ok, Err, slice_get, if◌then◌else◌}
use Rattle.line_events.specs.declared.event.Event.{Event}
use Rattle.line_events.specs.Events.{IsEvent, AreEvents}
use Rattle.line_events.specs.declared.event.TheConstants.{MAX_EVENTS}
use Rattle.node_rules.specs.Ciphers.{Ciphers, network}
use Rattle.line_rules.specs.Worlds.{World, Sending, Issued, Pairing, Trace, start}
use Rattle.line_events.specs.declared.happenings.Handed.{Handed}
use Rattle.line_rules.specs.Steps.{Step}
use Rattle.line_rules.specs.Further.{line_step}

-- # Runs

-- One event that was taken. The list of the entries is the history of a run: nothing is ever taken out of it.
pub record Entry : Type 0 where
  -- the number of the event, from 1
  pub number : ℕ
  pub event : Event
  pub trace : Trace
  -- the world after it
  pub after : World

-- an event that is taken is an entry, and the rest follows; one that is not taken ends the run
abbrev pub entries_of : World → Event → Step → (World → List Entry) → List Entry
entries_of w event (Ok r) rest = record { number = w.events + 1; event = event; trace = r.1; after = r.0 } ∷ rest r.0
entries_of w event (Err fault) rest = []

-- the run of events from a world on, up to the first that is not taken; it has at most MAX_EVENTS events
abbrev pub run : Ciphers → World → List Event → List Entry
run ciphers w [] = []
run ciphers w (event ∷ events) =
    if nat_lt w.events MAX_EVENTS
    then entries_of w event (line_step ciphers w event) (λ next. run ciphers next events) else []

-- the entries are a run from a world on
abbrev pub IsRun : Ciphers → World → List Entry → Type 0
IsRun ciphers w [] = Unit {0}
IsRun ciphers w (x ∷ xs) =
    (w.events < MAX_EVENTS) × (x.number ≡ w.events + 1) × (line_step ciphers w x.event ≡ Ok (x.after, x.trace))
    × IsRun ciphers x.after xs

-- the events of a run
abbrev pub events_of : List Entry → List Event
events_of entries = map (λ (x : Entry). x.event) entries

-- A run of the line from its beginning, whose events are ones that lines can say.
pub record IsLineRun (ciphers : Ciphers) (entries : List Entry) : Type 0 where
  pub events : AreEvents (events_of entries)
  pub run : IsRun ciphers start entries

-- the world after all events of a run from a world on
abbrev pub last_world : World → List Entry → World
last_world w [] = w
last_world w (x ∷ xs) = last_world x.after xs

-- The history of a world: a run of the network from the beginning that ends in it.
pub record IsHistory (entries : List Entry) (w : World) : Type 0 where
  pub run : IsLineRun network entries
  pub ends : last_world start entries ≡ w

-- A world that has a history.
pub record IsReached (w : World) : Type 0 where
  pub entries : List Entry
  pub history : IsHistory entries w

-- the world of the beginning has one, with no event
abbrev pub TheStartIsReached : Type 0
TheStartIsReached = IsHistory [] start

-- a history goes on by each event that is taken
abbrev pub HistoriesGoOn : Type 0
HistoriesGoOn =
    (entries : List Entry) (w v : World) (event : Event) (trace : Trace) → IsHistory entries w → w.events < MAX_EVENTS → IsEvent event
    → line_step network w event ≡ Ok (v, trace)
    → IsHistory (entries ++ record { number = w.events + 1; event = event; trace = trace; after = v } ∷ []) v

-- # What a history has

-- what each entry gives, in order
abbrev pub all_of : {A : Type 0} → (Trace → List A) → List Entry → List A
all_of listed [] = []
all_of listed (x ∷ xs) = listed x.trace ++ all_of listed xs

-- a list of what is there
abbrev pub one_of : {A : Type 0} → Option A → List A
one_of None = []
one_of (Some a) = a ∷ []

-- the sends, by their numbers from 1
abbrev pub sends : List Entry → List Sending
sends entries = all_of (λ d. one_of d.sent) entries

-- what was handed up, in order
abbrev pub ups : List Entry → List Handed
ups entries = all_of (λ d. one_of d.happenings.up) entries

-- the keys that were issued, in order
abbrev pub issued : List Entry → List Issued
issued entries = all_of (λ d. d.issued) entries

-- the joinings that meters took, in order
abbrev pub takings : List Entry → List Pairing
takings entries = all_of (λ d. one_of d.taken) entries

-- the send of a number
abbrev pub send_at : List Sending → ℕ → Option Sending
send_at sent number = if number == 0 then None else slice_get sent (number - 1)

-- no event of a run is forged
abbrev pub NoneForged : List Entry → Type 0
NoneForged entries = All (λ (x : Entry). x.trace.happenings.forged ≡ false) entries
