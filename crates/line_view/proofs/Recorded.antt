-- What an event does to a recording, from the step of the world, and flights that are added one by one.
use Rattle.std.proofs.Common.{◌≡◌, ℕ, ◌+◌, ◌-◌, ◌<◌, zero, suc, Bool, false, List, [], ◌∷◌, ◌++◌, length, slice_get, Option, None, Some, refl, ap}
use Rattle.std.proofs.Common.{◌∙◌, arith}
use Rattle.std.specs.Prelude.{◌==◌, if◌then◌else◌}
use Rattle.std.proofs.lemmas.Bool.{lt-ltb}
use Rattle.std.proofs.lemmas.Grind.{common_steps}
use Rattle.plc_base.specs.declared.key.Key.{Key}
use Rattle.line_events.specs.declared.event.Event.{Event}
use Rattle.line_events.specs.declared.happenings.Happenings.{Happenings}
use Rattle.line_events.specs.declared.event.TheConstants.{MAX_EVENTS}
use Rattle.node_rules.specs.Ciphers.{network}
use Rattle.line_rules.specs.Worlds.{World}
use Rattle.line_rules.specs.Further.{line_step}
use Rattle.line_rules.specs.Runs.{Entry}
use Rattle.line_record.specs.declared.recorded.RecordedEvent.{RecordedEvent}
use Rattle.line_record.specs.RunRecords.{numbered}
use Rattle.line_world.specs.Steps.{Takes}
use Rattle.script_runs.specs.TakenLines.{event_taking}
use Rattle.line_view.specs.Recordings.{Recording, Recorded, event_recorded, flight_recorded, flights_recorded, in_world, recording_after}
use Rattle.line_view.specs.Recordings.{event_of_entry, with_octets}

-- an event was taken and recorded
pub event_kept : (row before : ℕ) (r0 r1 : Recording) (next : World) (e : Event) (h : Happenings) → r0.world.events < MAX_EVENTS
    → Takes h next (line_step network r0.world e) → before ≡ length r0.world.flights → r1 ≡ event_recorded row e h before (in_world next r0)
    → Recorded row e r0 r1 (event_taking r0.world e) None
event_kept row before r0 r1 next e h room is counts keeps =
    rw (lt-ltb r0.world.events MAX_EVENTS room, is.taken) (
      refl,
      (
        refl,
        keeps
            ∙ ap (λ (n : ℕ). event_recorded row e h n (in_world next r0)) counts
            ∙ ap (λ (x : Happenings). event_recorded row e x (length r0.world.flights) (in_world next r0)) is.reported,
      ),
    )

-- one flight more
pub one_more : (before i : ℕ) (first old new : Recording) → old ≡ flights_recorded before i first → new ≡ flight_recorded (before + i + 1) old
    → new ≡ flights_recorded before (i + 1) first
one_more before i first old new was is =
    let more : i + 1 ≡ suc i = omega arith in rw more (is ∙ ap (λ (x : Recording). flight_recorded (before + i + 1) x) was)

-- # A recording has the world of its last entry

with_world : (o : Option (List ℕ)) (number from note : ℕ) (key : Option Key) (r : Recording) → (with_octets o number from note key r).world ≡ r.world
with_world None number from note key r = refl
with_world (Some octets) number from note key r = refl

flight_world : (number : ℕ) (r : Recording) → (flight_recorded number r).world ≡ r.world
unfolding flight_recorded
flight_world number r = with_world _ _ _ _ _ r

flights_world : (before n : ℕ) (r : Recording) → (flights_recorded before n r).world ≡ r.world
flights_world before zero r = refl
flights_world before (suc n) r = flight_world _ (flights_recorded before n r) ∙ flights_world before n r

pub recorded_world : (row : ℕ) (entry : Entry) (r : Recording) → (recording_after row entry r).world ≡ entry.after
unfolding event_recorded
recorded_world row entry r = flights_world (length r.world.flights) _ _

-- # A recording has its last entry last

with_octets_events : (o : Option (List ℕ)) (number from note : ℕ) (key : Option Key) (r : Recording) → (with_octets o number from note key r).events ≡ r.events
with_octets_events None number from note key r = refl
with_octets_events (Some octets) number from note key r = refl

flight_keeps_events : (number : ℕ) (r : Recording) → (flight_recorded number r).events ≡ r.events
unfolding flight_recorded
flight_keeps_events number r = with_octets_events _ _ _ _ _ r

flights_keep_events : (before n : ℕ) (r : Recording) → (flights_recorded before n r).events ≡ r.events
flights_keep_events before zero r = refl
flights_keep_events before (suc n) r = flight_keeps_events _ (flights_recorded before n r) ∙ flights_keep_events before n r

pub recording_events : (row : ℕ) (entry : Entry) (r : Recording) → (recording_after row entry r).events ≡ r.events ++ (event_of_entry row entry r ∷ [])
unfolding event_recorded
recording_events row entry r = flights_keep_events (length r.world.flights) _ _

more : {A : Type 0} (xs : List A) (x : A) → length (xs ++ (x ∷ [])) ≡ suc (length xs)
more [] x = refl
more (y ∷ xs) x = ap suc (more xs x)

get_last : {A : Type 0} (xs : List A) (x : A) → slice_get (xs ++ (x ∷ [])) (length xs) ≡ Some x
get_last [] x = refl
get_last (y ∷ xs) x = get_last xs x

pub above_zero : (k : ℕ) → 0 < k → (k == 0) ≡ false
above_zero k h = grind (arith, common_steps)

last_at : {A : Type 0} (xs : List A) (x : A) (k : ℕ) → k ≡ suc (length xs) → numbered (xs ++ (x ∷ [])) k ≡ Some x
last_at xs x k e =
    ap (λ (b : Bool). if b then None else slice_get (xs ++ (x ∷ [])) (k - 1)) (above_zero k (omega (arith, e)))
    ∙ ap (λ (j : ℕ). slice_get (xs ++ (x ∷ [])) j) (omega (arith, e))
    ∙ get_last xs x

-- what is recorded last is that of the entry that was recorded last
pub last_recorded : (row : ℕ) (entry : Entry) (r : Recording)
    → numbered (recording_after row entry r).events (length (recording_after row entry r).events) ≡ Some (event_of_entry row entry r)
last_recorded row entry r =
    ap (λ (es : List RecordedEvent). numbered es (length es)) (recording_events row entry r)
    ∙ last_at r.events (event_of_entry row entry r) (length (r.events ++ (event_of_entry row entry r ∷ []))) (more r.events (event_of_entry row entry r))
