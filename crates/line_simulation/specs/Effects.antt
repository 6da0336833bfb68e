-- What events bring: flights, what came up, addresses, what the owner notices.
use Rattle.std.specs.Prelude.{ℕ, zero, suc, ◌+◌, ◌-◌, ◌^◌, min, cond, Bool, true, false, not, List, [], ◌∷◌, ◌++◌, Option, Some, None}
use Rattle.line_air.specs.declared.frame.Frame.{Frame}
use Rattle.line_air.specs.Ends.{with_node}
use Rattle.line_air.specs.Nodes.{with_joined}
use Rattle.line_air.specs.Turns.{AirState, sky_after_send}
use Rattle.line_events.specs.declared.event.Answer.{Answer}
use Rattle.line_events.specs.declared.event.Answer.TheVariants as answers
use Rattle.line_events.specs.Answers.{is_ok}
use Rattle.line_figures.specs.declared.frames.FrameKind.{FrameKind}
use Rattle.line_figures.specs.declared.frames.FrameKind.TheVariants as kinds
use Rattle.line_owner.specs.declared.acts.Act.{Act}
use Rattle.line_owner.specs.declared.acts.Acts.{Acts}
use Rattle.line_owner.specs.declared.acts.Acts.TheVariants.{Nothing, One, Two, Three, Four}
use Rattle.line_owner.specs.declared.acts.Command.{Command}
use Rattle.line_owner.specs.declared.acts.Notice.{Notice}
use Rattle.line_owner.specs.declared.acts.Notice.TheVariants as notices
use Rattle.line_owner.specs.declared.acts.Outcome.{Outcome}
use Rattle.line_owner.specs.declared.acts.Outcome.TheVariants as outcomes
use Rattle.line_owner.specs.declared.acts.Task.{Task}
use Rattle.line_owner.specs.declared.acts.Task.TheVariants as tasks
use Rattle.line_owner.specs.declared.asked.Reading.{Reading}
use Rattle.line_owner.specs.Asked.{reading_at, with_reading}
use Rattle.line_owner.specs.States.{Turned}
use Rattle.line_owner.specs.Turns.{turn, noticed, answered}
use Rattle.line_simulation.specs.declared.book.Outline.{Outline}
use Rattle.line_simulation.specs.declared.facts.Came.{Came}
use Rattle.line_simulation.specs.declared.facts.Facts.{Facts}
use Rattle.line_simulation.specs.declared.facts.Granted.{Granted}
use Rattle.line_simulation.specs.declared.remarks.Remark.TheVariants as remarks
use Rattle.line_simulation.specs.declared.simulation.Flown.{Flown}
use Rattle.line_simulation.specs.declared.work.PendingWork.TheVariants as works
use Rattle.line_simulation.specs.Books.{Addresses, granted, outline_of}
use Rattle.line_simulation.specs.Recorders.{Recorder}
use Rattle.line_simulation.specs.Runs.{Run, Goes, then}
use Rattle.line_simulation.specs.Simulations.{Simulated, to_do}
use Rattle.line_simulation.specs.Steps.{remarked}

-- # What is to be done

-- acts are done next, the first of them first
abbrev pub with_acts : {R : Type 0} → Acts → Simulated R → Simulated R
with_acts Nothing s = s
with_acts (One a) s = to_do (works.Act a) s
with_acts (Two a b) s = to_do (works.Act a) (to_do (works.Act b) s)
with_acts (Three a b c) s = to_do (works.Act a) (to_do (works.Act b) (to_do (works.Act c) s))
with_acts (Four a b c d) s = to_do (works.Act a) (to_do (works.Act b) (to_do (works.Act c) (to_do (works.Act d) s)))

-- the owner took a turn, and what it does is done next
abbrev pub turned : {R : Type 0} → Turned → Simulated R → Simulated R
turned t s = with_acts t.acts (record s { owner = t.owner })

-- # Facts

-- the flights from a first one on go to the queues of their senders, in their order
unfoldable pub with_flights : {R : Type 0} → ℕ → ℕ → ℕ → Simulated R → Simulated R
with_flights first zero hops s = s
with_flights first (suc k) hops s = with_flights first k hops (to_do (works.Fly (min (first + k) (2 ^ 32 - 1)) hops) s)

abbrev pub with_came : {R : Type 0} → Option Came → ℕ → Simulated R → Simulated R
with_came None hops s = s
with_came (Some came) hops s = to_do (works.Came came hops) s

abbrev pub with_took : {R : Type 0} → Option ℕ → Simulated R → Simulated R
with_took None s = s
with_took (Some node) s = to_do (works.Notice (notices.Took node)) s

abbrev pub with_done : {R : Type 0} → Option ℕ → Simulated R → Simulated R
with_done None s = s
with_done (Some node) s = to_do (works.Notice (notices.Done node)) s

abbrev pub with_grant : {R : Type 0} → Option Granted → Simulated R → Simulated R
with_grant None s = s
with_grant (Some g) s = record s { book = granted g.node g.address s.book }

-- how many hops the flights of an event have behind them: what is relayed goes on
unfoldable pub hops_after : Answer → ℕ → ℕ
hops_after answers.Relayed hops = min (hops + 1) (2 ^ 32 - 1)
hops_after _ hops = 1

-- What an event brought is taken up: first the flights, so that the next frames of their sender wait behind them; then what came up, a grant that was taken,
-- and a joining that is done.
unfoldable pub taken_up : {R : Type 0} → Facts → ℕ → Simulated R → Simulated R
taken_up f hops s =
    with_flights f.first_flight f.flights (hops_after f.answer hops) (with_came f.came hops (with_grant f.granted (with_took f.took (with_done f.done s))))

-- # Flights

abbrev pub is_data : FrameKind → Bool
is_data kinds.Plain = false
is_data kinds.Request = false
is_data kinds.Reply = false
is_data kinds.Error = false
is_data kinds.Data = true

abbrev pub is_plain : FrameKind → Bool
is_plain kinds.Plain = true
is_plain kinds.Request = false
is_plain kinds.Reply = false
is_plain kinds.Error = false
is_plain kinds.Data = false

abbrev pub flown_as : Outline → ℕ → Flown
flown_as outline hops = record { kind = outline.kind; hops = cond (is_data outline.kind) hops 0 }

-- a flight as a frame of the air
abbrev pub frame_of : ℕ → Outline → Frame
frame_of flight outline =
    record { flight = flight; octets = outline.octets; target = outline.target; counts = not (is_plain outline.kind) }

unfoldable pub flown_by : {R : Type 0} → ℕ → ℕ → ℕ → Outline → Simulated R → Simulated R
flown_by flight hops node outline s =
    record s {
      flown = s.flown ++ (flown_as outline hops ∷ []);
      sky = sky_after_send s.now node (frame_of flight outline) s.sky;
    }

abbrev pub flown_to : {R : Type 0} → ℕ → ℕ → Option ℕ → Option Outline → Simulated R → Simulated R
flown_to flight hops _ None s = s
flown_to flight hops None (Some outline) s = s
flown_to flight hops (Some node) (Some outline) s = flown_by flight hops node outline s

abbrev pub outline_if : Option (List ℕ) → Addresses → Option Outline
outline_if None book = None
outline_if (Some octets) book = Some (outline_of octets book)

-- a flight goes to the queue of its sender
unfoldable pub flew : {R : Type 0} → Recorder R → ℕ → ℕ → Simulated R → Simulated R
flew recorder flight hops s = flown_to flight hops (recorder.sender flight s.recorder) (outline_if (recorder.flight flight s.recorder) s.book) s

-- what is known of a flight
abbrev pub flown_or : Option Flown → Flown
flown_or None = record { kind = kinds.Data; hops = 1 }
flown_or (Some flown) = flown

-- # What the owner notices

-- a message came up
abbrev pub came_up : {R : Type 0} → Came → Simulated R → Simulated R
came_up came s = to_do (works.Notice (notices.Came came.node came.message)) s

-- frames to all come to joined nodes alone
abbrev pub air_noticing : Notice → AirState → AirState
air_noticing notices.Challenged air = air
air_noticing (notices.Replied node) air = air
air_noticing (notices.ToldToLeave node) air = with_node node (with_joined false) air
air_noticing (notices.StoreFailed node) air = air
air_noticing (notices.Came node m) air = air
air_noticing (notices.Took node) air = with_node node (with_joined true) air
air_noticing (notices.Done node) air = air
air_noticing (notices.Torn node seconds) air = air

abbrev pub with_air : {R : Type 0} → AirState → Simulated R → Simulated R
with_air air s = record s { sky = record s.sky { air = air } }

unfoldable pub has_noticed : {R : Type 0} → Notice → Simulated R → Simulated R
has_noticed notice s = turned (noticed s.now notice s.owner) (with_air (air_noticing notice s.sky.air) s)

-- the owner goes on after a command
abbrev pub answered_so : {R : Type 0} → Command → Outcome → Simulated R → Simulated R
answered_so command outcome s = turned (answered s.now command outcome s.owner) s

-- # Tasks

-- one try more
abbrev pub tried_more : Reading → Reading
tried_more r = record r { tries = min (r.tries + 1) (2 ^ 64 - 1) }

abbrev pub tries_more : {R : Type 0} → ℕ → ℕ → Simulated R → Reading
tries_more node round s = tried_more (reading_at node round s.tried)

abbrev pub with_try : {R : Type 0} → ℕ → ℕ → Reading → Simulated R → Simulated R
with_try node round reading s = record s { tried = with_reading node round reading s.tried }

-- a reading was tried
unfoldable pub has_tried : {R : Type 0} → Recorder R → ℕ → ℕ → Simulated R → Run (Simulated R) (Unit {0})
has_tried recorder node round s =
    remarked recorder (remarks.Try node round (tries_more node round s).tries) (with_try node round (tries_more node round s) s)

abbrev pub tries_at : {R : Type 0} → Recorder R → Task → Simulated R → Run (Simulated R) (Unit {0})
tries_at recorder (tasks.Make node) s = Goes tt s
tries_at recorder (tasks.Enter node) s = Goes tt s
tries_at recorder (tasks.DrawJoins node) s = Goes tt s
tries_at recorder (tasks.PutRounds round) s = Goes tt s
tries_at recorder (tasks.DrawReads round node) s = Goes tt s
tries_at recorder (tasks.Give node least) s = Goes tt s
tries_at recorder (tasks.TryJoin node) s = Goes tt s
tries_at recorder (tasks.Read node round) s = Goes tt s
tries_at recorder (tasks.ReadLater node round) s = has_tried recorder node round s
tries_at recorder tasks.Refresh s = Goes tt s
tries_at recorder (tasks.BeginPolls round) s = Goes tt s
tries_at recorder (tasks.OpenPolls count) s = Goes tt s
tries_at recorder tasks.NextPoll s = Goes tt s
tries_at recorder (tasks.Poll node round) s = Goes tt s
tries_at recorder (tasks.Answer node round) s = Goes tt s
tries_at recorder (tasks.Reply node round) s = Goes tt s
tries_at recorder (tasks.BeginChange index) s = Goes tt s
tries_at recorder (tasks.OpenChallenges count) s = Goes tt s
tries_at recorder tasks.NextChallenge s = Goes tt s
tries_at recorder (tasks.Challenge node) s = Goes tt s
tries_at recorder (tasks.Order k nth) s = Goes tt s
tries_at recorder tasks.EndChange s = Goes tt s
tries_at recorder (tasks.Fail node seconds) s = Goes tt s
tries_at recorder (tasks.Restore node) s = Goes tt s

abbrev pub task_turned : {R : Type 0} → Task → Simulated R → Simulated R
task_turned task s = turned (turn s.sky.air.rows s.now task s.owner) s

-- a task of the owner's
unfoldable pub has_turned : {R : Type 0} → Recorder R → Task → Simulated R → Run (Simulated R) (Unit {0})
has_turned recorder task s = then (tries_at recorder task s) (λ u t. Goes tt (task_turned task t))

-- # Outcomes

abbrev pub is_store : Answer → Bool
is_store answers.Store = true
is_store _ = false

-- how a command of the owner's ended
unfoldable pub outcome_of : Facts → Outcome
outcome_of f =
    cond (is_store f.answer) outcomes.StoreFailed
    (cond (is_ok f.answer) outcomes.Taken outcomes.Refused)
