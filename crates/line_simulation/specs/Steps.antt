-- Events and remarks, one by one, and the ticks before them.
use Rattle.std.specs.Prelude.{ℕ, zero, suc, ◌+◌, ◌-◌, ◌/◌, ◌%◌, ◌^◌, min, eqb, ltb, cond, List, Option, Some, None}
use Rattle.line_events.specs.declared.event.Event.{Event}
use Rattle.line_events.specs.declared.event.Event.TheVariants as events
use Rattle.line_simulation.specs.declared.facts.Facts.{Facts}
use Rattle.line_simulation.specs.declared.remarks.Remark.{Remark}
use Rattle.line_simulation.specs.declared.work.PendingWork.TheVariants as works
use Rattle.line_simulation.specs.Recorders.{Recorder, Recorded, Taken, Refused, Full, Remarked, Written, Unwritten}
use Rattle.line_simulation.specs.RemarkTexts.{remark_text}
use Rattle.line_simulation.specs.Runs.{Run, Goes, Stops, then}
use Rattle.line_simulation.specs.Simulations.{Simulated, to_do}

-- # Events

abbrev pub stepped_by : {R : Type 0} → Recorded R → Simulated R → Run (Simulated R) (Option Facts)
stepped_by (Taken after facts) s = Goes (Some facts) (record s { recorder = after })
stepped_by (Refused after) s = Goes None (record s { recorder = after })
stepped_by (Full after) s = Stops (record s { recorder = after })

-- an event is recorded; it brings nothing where the line does not take it
unfoldable pub stepped_now : {R : Type 0} → Recorder R → Event → Simulated R → Run (Simulated R) (Option Facts)
stepped_now recorder event s = stepped_by (recorder.recorded event s.recorder) s

-- # The clock

-- the longest tick has a day
abbrev pub tick_of : ℕ → ℕ
tick_of gap = min gap 86400

-- how many ticks this many seconds are
abbrev pub ticks_of : ℕ → ℕ
ticks_of gap = gap / 86400 + cond (eqb (gap % 86400) 0) 0 1

-- this many ticks, of this many seconds in all
unfoldable pub ticked : {R : Type 0} → Recorder R → ℕ → ℕ → Simulated R → Run (Simulated R) (Unit {0})
ticked recorder zero gap s = Goes tt s
ticked recorder (suc ticks) gap s =
    then (stepped_now recorder (events.Tick (tick_of gap)) s) (λ facts t. ticked recorder ticks (gap - tick_of gap) t)

-- how many seconds the clock of the line is behind the time
abbrev pub behind : {R : Type 0} → Recorder R → Simulated R → ℕ
behind recorder s = s.now / 1000000 - recorder.clock s.recorder

-- the clock of the line comes to the whole second, where the ticks and this many events fit into the script
unfoldable pub on_time : {R : Type 0} → Recorder R → ℕ → Simulated R → Run (Simulated R) (Unit {0})
on_time recorder count s =
    let gap = behind recorder s in
    cond (ltb (recorder.room s.recorder) (min (ticks_of gap + count) (2 ^ 64 - 1))) (Stops s) (ticked recorder (ticks_of gap) gap s)

-- an event at the time
unfoldable pub stepped : {R : Type 0} → Recorder R → Event → Simulated R → Run (Simulated R) (Option Facts)
stepped recorder event s = then (on_time recorder 1 s) (λ u t. stepped_now recorder event t)

-- what an event brought, if it was taken, is taken up next
abbrev pub taken_next : {R : Type 0} → Option Facts → Simulated R → Run (Simulated R) (Unit {0})
taken_next None s = Goes tt s
taken_next (Some facts) s = Goes tt (to_do (works.Facts facts 0) s)

-- an event at the time, and what it brings
unfoldable pub stepped_and_taken : {R : Type 0} → Recorder R → Event → Simulated R → Run (Simulated R) (Unit {0})
stepped_and_taken recorder event s = then (stepped recorder event s) taken_next

-- # Remarks

abbrev pub written_by : {R : Type 0} → Remarked R → Simulated R → Run (Simulated R) (Unit {0})
written_by (Written after) s = Goes tt (record s { recorder = after })
written_by (Unwritten after) s = Stops (record s { recorder = after })

-- a text is remarked at the time
unfoldable pub texted : {R : Type 0} → Recorder R → List ℕ → Simulated R → Run (Simulated R) (Unit {0})
texted recorder text s = written_by (recorder.remarked (s.now / 1000) text s.recorder) s

abbrev pub remarked : {R : Type 0} → Recorder R → Remark → Simulated R → Run (Simulated R) (Unit {0})
remarked recorder remark s = texted recorder (remark_text remark) s
