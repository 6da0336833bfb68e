-- A run: one moment of the calendar after the other, and all that each leads to before the next.
use Rattle.std.specs.Prelude.{ℕ, zero, suc, ◌+◌, ◌-◌, ltb, cond, Bool, true, false, List, [], ◌∷◌, map, Option, Some, None, slice_get}
use Rattle.line_air.specs.declared.calendar.Due.{Due}
use Rattle.line_air.specs.declared.calendar.Moment.{Moment}
use Rattle.line_air.specs.declared.calendar.Moment.TheVariants as moments
use Rattle.line_air.specs.Turns.{sky_after_end}
use Rattle.line_owner.specs.declared.acts.Task.TheVariants as tasks
use Rattle.line_owner.specs.Times.{micros}
use Rattle.plan_tables.specs.declared.incidents.Incident.{Incident}
use Rattle.line_simulation.specs.declared.remarks.Remark.TheVariants as remarks
use Rattle.line_simulation.specs.declared.turns.TheConstants.{MOST_TURNS, MOST_WORK}
use Rattle.line_simulation.specs.declared.work.Job.{Job}
use Rattle.line_simulation.specs.declared.work.Job.TheVariants as jobs
use Rattle.line_simulation.specs.declared.work.PendingWork.{PendingWork}
use Rattle.line_simulation.specs.declared.work.PendingWork.TheVariants as works
use Rattle.line_simulation.specs.OwnerActs.{acted, job_put}
use Rattle.line_simulation.specs.Attacks.{replayed, released, flight_injected, join_forged}
use Rattle.line_simulation.specs.Effects.{answered_so, taken_up, flew, came_up, has_noticed, has_turned}
use Rattle.line_simulation.specs.Arrivals.{attempted, has_ended, route_broken}
use Rattle.line_simulation.specs.Incidents.{happened, torn, kicked}
use Rattle.line_simulation.specs.Recorders.{Recorder}
use Rattle.line_simulation.specs.RemarkTexts.{title_text}
use Rattle.line_simulation.specs.Runs.{Run, Goes, Stops, then}
use Rattle.line_simulation.specs.Simulations.{Simulated, to_do}
use Rattle.line_simulation.specs.Steps.{remarked, texted}

-- # PendingWork

-- a node and those around it go on sending
abbrev pub gone_on : {R : Type 0} → ℕ → Simulated R → Simulated R
gone_on node s = record s { sky = sky_after_end s.now node s.sky }

-- one thing is done
unfoldable pub carried_out : {R : Type 0} → Recorder R → PendingWork → Simulated R → Run (Simulated R) (Unit {0})
carried_out recorder (works.Act act) s = acted recorder act s
carried_out recorder (works.Task task) s = has_turned recorder task s
carried_out recorder (works.Answered command outcome) s = Goes tt (answered_so command outcome s)
carried_out recorder (works.Notice notice) s = Goes tt (has_noticed notice s)
carried_out recorder (works.Facts facts hops) s = Goes tt (taken_up facts hops s)
carried_out recorder (works.Fly flight hops) s = Goes tt (flew recorder flight hops s)
carried_out recorder (works.Came came hops) s = Goes tt (came_up came s)
carried_out recorder (works.Break node next) s = route_broken recorder node next s
carried_out recorder (works.GoOn node) s = Goes tt (gone_on node s)
carried_out recorder (works.Tear node write leaves) s = torn recorder node write leaves s
carried_out recorder (works.Kick node) s = kicked recorder node s
carried_out recorder (works.Replay node count) s = replayed recorder node count s
carried_out recorder (works.Release node) s = released recorder node s
carried_out recorder (works.Inject node cost flight) s = flight_injected recorder node cost flight s
carried_out recorder (works.FalseJoin node) s = join_forged recorder node s

abbrev pub work_of : Option PendingWork → List PendingWork → List PendingWork
work_of None work = work
work_of (Some w) work = w ∷ work

abbrev pub with_work : {R : Type 0} → List PendingWork → Simulated R → Simulated R
with_work work s = record s { work = work }

abbrev pub carried_first : {R : Type 0} → Recorder R → List PendingWork → Simulated R → Run (Simulated R) Bool
carried_first recorder [] s = Goes false s
carried_first recorder (w ∷ ws) s = then (carried_out recorder w (with_work ws s)) (λ u t. Goes true t)

-- the next thing is done, if there is one
unfoldable pub carried_one : {R : Type 0} → Recorder R → Simulated R → Run (Simulated R) Bool
carried_one recorder s = carried_first recorder s.work s

abbrev pub on_while : {S : Type 0} → (S → Run S (Unit {0})) → Bool → S → Run S (Unit {0})
on_while on true s = on s
on_while on false s = Goes tt s

-- all is done that is to be done: this many things at most
unfoldable pub carried_on : {R : Type 0} → Recorder R → ℕ → Simulated R → Run (Simulated R) (Unit {0})
carried_on recorder zero s = Stops s
carried_on recorder (suc turns) s = then (carried_one recorder s) (on_while (carried_on recorder turns))

-- # Moments

abbrev pub job_begun : {R : Type 0} → Recorder R → Option Job → Simulated R → Run (Simulated R) (Unit {0})
job_begun recorder None s = Goes tt s
job_begun recorder (Some (jobs.Task task)) s = Goes tt (to_do (works.Task task) s)
job_begun recorder (Some (jobs.Incident nth)) s = happened recorder nth s
job_begun recorder (Some (jobs.Release node)) s = Goes tt (to_do (works.Release node) s)

-- a moment comes
unfoldable pub begun : {R : Type 0} → Recorder R → Moment → Simulated R → Run (Simulated R) (Unit {0})
begun recorder (moments.Attempt node) s = attempted recorder node s
begun recorder (moments.End node flight segments) s = has_ended recorder node flight segments s
begun recorder (moments.Task number) s = job_begun recorder (slice_get s.jobs number) s

abbrev pub at_time : {R : Type 0} → ℕ → Simulated R → Simulated R
at_time now s = record s { now = now }

-- a moment comes, and all that it leads to
unfoldable pub moment_done : {R : Type 0} → Recorder R → Due → Simulated R → Run (Simulated R) (Unit {0})
moment_done recorder d s = then (begun recorder d.moment (at_time d.at s)) (λ u t. carried_on recorder MOST_WORK t)

abbrev pub with_due : {R : Type 0} → List Due → Simulated R → Simulated R
with_due due s = record s { sky = record s.sky { due = due } }

-- nothing more is due up to a time
abbrev pub is_past : ℕ → List Due → Bool
is_past end [] = true
is_past end (d ∷ ds) = ltb end d.at

-- a run ends where nothing more is due up to its end
abbrev pub first_done : {R : Type 0} → Recorder R → ℕ → List Due → Simulated R → Run (Simulated R) Bool
first_done recorder end [] s = Goes false s
first_done recorder end (d ∷ ds) s =
    cond (ltb end d.at) (Goes false s) (then (moment_done recorder d (with_due ds s)) (λ u t. Goes true t))

-- the next moment up to a time, if there is one
unfoldable pub turn_done : {R : Type 0} → Recorder R → ℕ → Simulated R → Run (Simulated R) Bool
turn_done recorder end s = first_done recorder end s.sky.due s

-- one moment after the other: this many at most
unfoldable pub turns_done : {R : Type 0} → Recorder R → ℕ → ℕ → Simulated R → Run (Simulated R) (Unit {0})
turns_done recorder end zero s = Stops s
turns_done recorder end (suc turns) s = then (turn_done recorder end s) (on_while (turns_done recorder end turns))

-- # A run

abbrev pub time_of : Incident → ℕ
time_of i = micros i.at

-- incidents are put on the calendar at their times, from one number on
unfoldable pub incidents_put : {R : Type 0} → ℕ → List ℕ → Simulated R → Run (Simulated R) (Unit {0})
incidents_put nth [] s = Goes tt s
incidents_put nth (time ∷ times) s = then (job_put time (jobs.Incident nth) s) (λ u t. incidents_put (nth + 1) times t)

-- the nodes are made, and what is to happen is put on the calendar
unfoldable pub set_up : {R : Type 0} → Recorder R → Simulated R → Run (Simulated R) (Unit {0})
set_up recorder s =
    then (carried_on recorder MOST_WORK (to_do (works.Task (tasks.Make 0)) s)) (λ u t. incidents_put 0 (map time_of t.plan.incidents) t)

-- a run up to a time
unfoldable pub ran : {R : Type 0} → Recorder R → ℕ → Simulated R → Run (Simulated R) (Unit {0})
ran recorder end s = then (set_up recorder s) (λ u t. turns_done recorder end MOST_TURNS t)

abbrev pub spare_remarked : {R : Type 0} → Recorder R → Bool → Simulated R → Run (Simulated R) (Unit {0})
spare_remarked recorder false s = Goes tt s
spare_remarked recorder true s = remarked recorder (remarks.Spare s.book.nodes) s

abbrev pub line_remarked : {R : Type 0} → Recorder R → Simulated R → Run (Simulated R) (Unit {0})
line_remarked recorder s = remarked recorder (remarks.Line (s.book.nodes - 1) s.plan.seed) s

-- the remarks at the head of a script
unfoldable pub headed : {R : Type 0} → Recorder R → Simulated R → Run (Simulated R) (Unit {0})
headed recorder s =
    then (texted recorder (title_text s.plan.title) s) (λ u t.
    then (line_remarked recorder t) (λ v w. spare_remarked recorder w.plan.owner.readings.refresh w))

unfoldable pub ran_from_head : {R : Type 0} → Recorder R → Simulated R → Run (Simulated R) (Unit {0})
ran_from_head recorder s = then (headed recorder s) (λ u t. ran recorder (micros t.plan.length) t)

-- # How it ends

-- Whether a run went on to the end of its time, and where it ended.
pub record Ran (R : Type 0) : Type 0 where
  pub whole : Bool
  pub simulated : Simulated R

abbrev pub left_by : {S A : Type 0} → Run S A → S
left_by (Goes a s) = s
left_by (Stops s) = s

abbrev pub limit_remarked : {R : Type 0} → Recorder R → Simulated R → Simulated R
limit_remarked recorder s = left_by (remarked recorder remarks.Limit s)

abbrev pub ran_whole : {R : Type 0} → Recorder R → Run (Simulated R) (Unit {0}) → Ran R
ran_whole recorder (Goes u s) = record { whole = true; simulated = s }
ran_whole recorder (Stops s) = record { whole = false; simulated = limit_remarked recorder s }

-- the run of a simulation as a whole; where it ends before its time, a remark says so, if there is room for it
unfoldable pub whole_run : {R : Type 0} → Recorder R → Simulated R → Ran R
whole_run recorder s = ran_whole recorder (ran_from_head recorder s)
