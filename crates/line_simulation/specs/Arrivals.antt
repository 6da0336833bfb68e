-- Frames on the air: attempts, and ends.
use Rattle.std.specs.Prelude.{ℕ, ◌+◌, ◌-◌, max, eqb, cond, true, false, Bool, List, [], ◌∷◌, ◌++◌, length, Option, Some, None, find, slice_get}
use Rattle.std.specs.Option.{unwrap_or, option_map}
use Rattle.line_air.specs.declared.air.Attempt.{Attempt}
use Rattle.line_air.specs.declared.air.Attempt.TheVariants as attempts
use Rattle.line_air.specs.declared.air.Ended.{Ended}
use Rattle.line_air.specs.declared.air.Ended.TheVariants as ends
use Rattle.line_air.specs.declared.air.Hearing.{Hearing}
use Rattle.line_air.specs.declared.air.Hearing.TheVariants as hearings
use Rattle.line_air.specs.declared.chances.End.{End}
use Rattle.line_air.specs.declared.frame.Frame.{Frame}
use Rattle.line_air.specs.declared.frame.Target.{Target}
use Rattle.line_air.specs.declared.frame.Target.TheVariants.{All, Node, Nobody}
use Rattle.line_air.specs.Ends.{Ending, ending_of}
use Rattle.line_air.specs.Turns.{Attempted, attempt_by}
use Rattle.line_events.specs.declared.event.Answer.{Answer}
use Rattle.line_events.specs.declared.event.Answer.TheVariants as answers
use Rattle.line_events.specs.declared.event.Event.TheVariants as events
use Rattle.line_figures.specs.declared.frames.Loss.{Loss}
use Rattle.line_figures.specs.declared.frames.Loss.TheVariants as losses
use Rattle.line_owner.specs.declared.acts.Notice.{Notice}
use Rattle.line_owner.specs.declared.acts.Notice.TheVariants as notices
use Rattle.line_place.specs.declared.link.Link.{Link}
use Rattle.line_place.specs.Rows.{hearers}
use Rattle.line_simulation.specs.declared.arrivals.Brought.{Brought}
use Rattle.line_simulation.specs.declared.facts.Facts.{Facts}
use Rattle.line_simulation.specs.declared.remarks.Remark.TheVariants as remarks
use Rattle.line_simulation.specs.declared.simulation.Flown.{Flown}
use Rattle.line_simulation.specs.declared.simulation.Kept.{Kept}
use Rattle.line_simulation.specs.declared.work.PendingWork.TheVariants as works
use Rattle.line_simulation.specs.Effects.{flown_or, with_air}
use Rattle.line_simulation.specs.Recorders.{Recorder}
use Rattle.line_simulation.specs.Runs.{Run, Goes, then}
use Rattle.line_simulation.specs.Simulations.{Simulated, with_sky, to_do}
use Rattle.line_simulation.specs.Steps.{on_time, stepped_now, stepped_and_taken, remarked}

-- what is known of a flight
unfoldable pub flown_at : ℕ → List Flown → Flown
flown_at flight flown = flown_or (slice_get flown (flight - 1))

-- # Attempts

abbrev pub attempted_by : {R : Type 0} → Recorder R → ℕ → Attempt → Simulated R → Run (Simulated R) (Unit {0})
attempted_by recorder node attempts.Idle s = Goes tt s
attempted_by recorder node attempts.Busy s = Goes tt s
attempted_by recorder node (attempts.Dropped flight) s = remarked recorder (remarks.Dropped flight node) s
attempted_by recorder node (attempts.Sent flight) s = Goes tt s

abbrev pub attempted_as : {R : Type 0} → Recorder R → ℕ → Attempted → Simulated R → Run (Simulated R) (Unit {0})
attempted_as recorder node a s = attempted_by recorder node a.answer (with_sky a.sky s)

-- the attempt of a node is due
unfoldable pub attempted : {R : Type 0} → Recorder R → ℕ → Simulated R → Run (Simulated R) (Unit {0})
attempted recorder node s = attempted_as recorder node (attempt_by s.now node s.sky) s

-- # Arrivals

-- what a link costs, at least 1, as events have it
abbrev pub event_cost : ℕ → ℕ
event_cost cost = max cost 1

-- what a frame of a node costs at another, 1 where it is not heard there
unfoldable pub cost_between : List (List Link) → ℕ → ℕ → ℕ
cost_between rows from to = unwrap_or (option_map (λ (l : Link). l.cost) (find (λ (l : Link). eqb l.to to) (hearers rows from))) 1

-- what a flight brought at a node, where its event was taken
abbrev pub with_brought : ℕ → Option Facts → List Brought → List Brought
with_brought node None brought = brought
with_brought node (Some facts) brought = brought ++ (record { node = node; facts = facts } ∷ [])

abbrev pub delivered_to : {R : Type 0} → Recorder R → ℕ → ℕ → ℕ → Simulated R → Run (Simulated R) (Option Facts)
delivered_to recorder from flight node s =
    stepped_now recorder (events.Deliver flight node (event_cost (cost_between s.sky.air.rows from node))) s

abbrev pub delivered_one : {R : Type 0} → Recorder R → ℕ → ℕ → ℕ → List Brought → Simulated R → Run (Simulated R) (List Brought)
delivered_one recorder from flight node brought s =
    then (delivered_to recorder from flight node s) (λ facts t. Goes (with_brought node facts brought) t)

-- a flight comes to nodes, one event after the other; what it brought before is listed
unfoldable pub delivered_each : {R : Type 0} → Recorder R → ℕ → ℕ → List ℕ → List Brought → Simulated R → Run (Simulated R) (List Brought)
delivered_each recorder from flight [] brought s = Goes brought s
delivered_each recorder from flight (node ∷ nodes) brought s =
    then (delivered_one recorder from flight node brought s) (λ more t. delivered_each recorder from flight nodes more t)

-- what the owner notices by itself of what a node did with a frame
abbrev pub noticed_at : ℕ → Answer → Option Notice
noticed_at node answers.Challenged = Some notices.Challenged
noticed_at node answers.Replied = Some (notices.Replied node)
noticed_at node answers.Left = Some (notices.ToldToLeave node)
noticed_at node answers.Store = Some (notices.StoreFailed node)
noticed_at node _ = None

abbrev pub with_notice : {R : Type 0} → Option Notice → Simulated R → Simulated R
with_notice None s = s
with_notice (Some notice) s = to_do (works.Notice notice) s

abbrev pub with_facts : {R : Type 0} → ℕ → Brought → Simulated R → Simulated R
with_facts hops b s = with_notice (noticed_at b.node b.facts.answer) (to_do (works.Facts b.facts hops) s)

-- what nodes did with a frame is taken up next, the first of them first
unfoldable pub all_brought : {R : Type 0} → ℕ → List Brought → Simulated R → Simulated R
all_brought hops [] s = s
all_brought hops (b ∷ bs) s = with_facts hops b (all_brought hops bs s)

abbrev pub all_taken : {R : Type 0} → ℕ → List Brought → Simulated R → Run (Simulated R) (Unit {0})
all_taken flight brought s = Goes tt (all_brought (flown_at flight s.flown).hops brought s)

-- a flight comes to the nodes that it came to; then what each brought is taken up
unfoldable pub delivered : {R : Type 0} → Recorder R → ℕ → ℕ → List ℕ → Simulated R → Run (Simulated R) (Unit {0})
delivered recorder from flight [] s = Goes tt s
delivered recorder from flight (node ∷ nodes) s =
    then (on_time recorder (length (node ∷ nodes)) s) (λ u t.
    then (delivered_each recorder from flight (node ∷ nodes) [] t) (all_taken flight))

-- # Ends

abbrev pub loss_of : Hearing → Option Loss
loss_of hearings.Came = None
loss_of hearings.Collision = Some losses.Collision
loss_of hearings.Noise = Some losses.Noise
loss_of hearings.Off = Some losses.Off
loss_of hearings.Withheld = Some losses.Withheld

abbrev pub kept_for : Target → ℕ → ℕ → Option Kept
kept_for All from flight = None
kept_for (Node to) from flight = Some (record { node = to; from = from; flight = flight })
kept_for Nobody from flight = None

-- what an attacker keeps of a frame
abbrev pub kept_of : Hearing → Target → ℕ → ℕ → Option Kept
kept_of hearings.Came target from flight = None
kept_of hearings.Collision target from flight = None
kept_of hearings.Noise target from flight = None
kept_of hearings.Off target from flight = None
kept_of hearings.Withheld target from flight = kept_for target from flight

abbrev pub with_kept : {R : Type 0} → Option Kept → Simulated R → Simulated R
with_kept None s = s
with_kept (Some k) s = record s { kept = s.kept ++ (k ∷ []) }

-- an attacker keeps what it withheld
unfoldable pub heard_so : {R : Type 0} → ℕ → Frame → Hearing → Simulated R → Simulated R
heard_so from frame hearing s = with_kept (kept_of hearing frame.target from frame.flight) s

abbrev pub node_in : Target → Option ℕ
node_in All = None
node_in (Node to) = Some to
node_in Nobody = None

abbrev pub reason_of : Bool → Hearing → Option Loss
reason_of came hearing = cond came None (loss_of hearing)

abbrev pub breaks_to : {R : Type 0} → ℕ → Bool → Option ℕ → Simulated R → Simulated R
breaks_to from false to s = s
breaks_to from true None s = s
breaks_to from true (Some to) s = to_do (works.Break from to) s

-- a frame to one node is not sent again
unfoldable pub has_given_up : {R : Type 0} → Recorder R → ℕ → Frame → Hearing → Bool → Bool → Simulated R → Run (Simulated R) (Unit {0})
has_given_up recorder from frame hearing came broke s =
    then (remarked recorder (remarks.GivenUp frame.flight from (node_in frame.target) (reason_of came hearing)) s)
    (λ u t. Goes tt (breaks_to from broke (node_in frame.target) t))

abbrev pub ended_by : {R : Type 0} → Recorder R → ℕ → ℕ → List ℕ → Ended → Simulated R → Run (Simulated R) (Unit {0})
ended_by recorder node flight came ends.CutShort s = Goes tt s
ended_by recorder node flight came (ends.ToAll frame) s = delivered recorder node flight came s
ended_by recorder node flight came (ends.ToOne frame hearing acknowledged) s =
    delivered recorder node flight came (heard_so node frame hearing s)
ended_by recorder node flight came (ends.GivenUp frame hearing before broke) s =
    then (has_given_up recorder node frame hearing before broke (heard_so node frame hearing s)) (λ u t. delivered recorder node flight came t)

abbrev pub ended_as : {R : Type 0} → Recorder R → ℕ → ℕ → Ending → Simulated R → Run (Simulated R) (Unit {0})
ended_as recorder node flight e s = ended_by recorder node flight e.came e.ended (with_air e.air s)

abbrev pub end_at : ℕ → ℕ → ℕ → ℕ → End
end_at now node flight segments = record { at = now; node = node; flight = flight; segments = segments }

-- how the frame of a node ends now
abbrev pub ending_at : {R : Type 0} → ℕ → ℕ → ℕ → Simulated R → Ending
ending_at node flight segments s = ending_of (end_at s.now node flight segments) s.sky.air

-- the frame of a node ends; when all that it brings is done, the node and those around it go on
unfoldable pub has_ended : {R : Type 0} → Recorder R → ℕ → ℕ → ℕ → Simulated R → Run (Simulated R) (Unit {0})
has_ended recorder node flight segments s =
    ended_as recorder node flight (ending_at node flight segments s) (to_do (works.GoOn node) s)

-- a node loses the route over a neighbour
abbrev pub route_broken : {R : Type 0} → Recorder R → ℕ → ℕ → Simulated R → Run (Simulated R) (Unit {0})
route_broken recorder node next s = stepped_and_taken recorder (events.Break node next) s
