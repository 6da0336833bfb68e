-- How a line is set up: its nodes, and what is put on the calendar before it begins.
use Rattle.std.specs.Prelude.{ℕ, ◌-◌, ◌*◌, ◌/◌, ◌^◌, min, max, ltb, leb, eqb, ◌&&◌, ◌||◌, cond, Bool, length}
use Rattle.air_draws.specs.Draws.{below, key_octets}
use Rattle.plan_tables.specs.declared.tables.Way.{Way}
use Rattle.plan_tables.specs.declared.tables.Way.TheVariants.{Push, Poll as PollWay}
use Rattle.line_owner.specs.declared.settings.Settings.{Settings}
use Rattle.line_owner.specs.declared.acts.Act.TheVariants.{Step, Put, Do}
use Rattle.line_owner.specs.declared.acts.Acts.{Acts}
use Rattle.line_owner.specs.declared.acts.Acts.TheVariants.{One, Two, Three}
use Rattle.line_owner.specs.declared.acts.Command.TheVariants.{Coordinator, Meter, Depot, Allow}
use Rattle.line_owner.specs.declared.acts.Task.TheVariants.{Make, Enter, DrawJoins, PutRounds, DrawReads, TryJoin, Read, Refresh, BeginPolls}
use Rattle.line_owner.specs.Members.{more}
use Rattle.line_owner.specs.States.{OwnerState, Turned, does, rests, timed, keyed}
use Rattle.line_owner.specs.Times.{micros, later}

-- the first node is the coordinator, all others are meters; where a line is refreshed, a spare meter comes last that is on no line
unfoldable pub makes : ℕ → OwnerState → Turned
makes node o =
    cond (ltb node (length o.members))
    (cond (ltb 0 node)
    (does (keyed o) (Two (Step (Meter node (key_octets o.keys))) (Do (Make (more node)))))
    (does (keyed o) (Two (Step (Coordinator (key_octets o.keys))) (Do (Make (more node))))))
    (cond o.settings.readings.refresh
    (does (keyed o) (Three (Step (Meter node (key_octets o.keys))) (Step (Depot node)) (Do (Enter 1))))
    (does o (One (Do (Enter 1)))))

-- the meters join in the workshop, or are allowed and draw when they join
unfoldable pub enters : ℕ → OwnerState → Turned
enters node o =
    cond (ltb node (length o.members))
    (cond o.settings.joining.depot (does o (Two (Step (Depot node)) (Do (Enter (more node)))))
    (does o (Two (Step (Allow node)) (Do (Enter (more node))))))
    (cond o.settings.joining.depot (does o (One (Do (PutRounds 1)))) (does o (One (Do (DrawJoins 1)))))

-- a moment within this many seconds, in whole milliseconds: of a span of 49 days at most
abbrev pub span : ℕ → ℕ
span seconds = min (max 1 (min (seconds * 1000) (2 ^ 64 - 1))) (2 ^ 32 - 1)

unfoldable pub draws_join : ℕ → OwnerState → Turned
draws_join node o =
    cond (ltb node (length o.members))
    (does (timed o)
    (Two (Put (later (micros o.settings.joining.from) (below (span o.settings.joining.within) o.times * 1000)) (TryJoin node))
    (Do (DrawJoins (more node)))))
    (does o (One (Do (PutRounds 1))))

-- how long after the first round of readings a round begins
unfoldable pub since_first : Settings → ℕ → ℕ
since_first settings round = min ((round - 1) * micros settings.readings.every) (2 ^ 64 - 1)

-- when a round of readings begins
abbrev pub round_at : Settings → ℕ → ℕ
round_at settings round = later (micros settings.readings.from) (since_first settings round)

-- in which span of time a round begins, of those after which routes are given anew, counted from the first round on
abbrev pub refresh_span : Settings → ℕ → ℕ
refresh_span settings round = since_first settings round / micros settings.readings.refresh_every

-- whether the coordinator gives routes anew before a round: before the first of each span, or before each round where no span is named
unfoldable pub refreshes_before : Settings → ℕ → Bool
refreshes_before settings round =
    settings.readings.refresh && (eqb (micros settings.readings.refresh_every) 0 || (leb round 1
    || ltb (refresh_span settings (round - 1)) (refresh_span settings round)))

-- who begins a reading: the meters draw when they send, or all are asked
abbrev pub round_acts_by : Way → Bool → ℕ → ℕ → Acts
round_acts_by Push refresh round at = cond refresh (Two (Put at Refresh) (Do (DrawReads round 1))) (One (Do (DrawReads round 1)))
round_acts_by PollWay refresh round at =
    cond refresh (Three (Put at Refresh) (Put at (BeginPolls round)) (Do (PutRounds (more round))))
    (Two (Put at (BeginPolls round)) (Do (PutRounds (more round))))

abbrev pub round_acts : Settings → ℕ → ℕ → Acts
round_acts settings round at = round_acts_by settings.readings.way (refreshes_before settings round) round at

-- a round begins before the end of the run, as often as all are read
unfoldable pub puts_round : ℕ → OwnerState → Turned
puts_round round o =
    let at = round_at o.settings round in
    cond (leb round o.settings.readings.times) (cond (ltb at (micros o.settings.length)) (does o (round_acts o.settings round at)) (rests o)) (rests o)

-- after a refreshing a reading is sent half a minute later
abbrev pub after_refresh : Settings → ℕ → ℕ
after_refresh settings round = cond (refreshes_before settings round) 30000000 0

unfoldable pub draws_read : ℕ → ℕ → OwnerState → Turned
draws_read round node o =
    cond (ltb node (length o.members))
    (does (timed o)
    (Two (Put (later (later (round_at o.settings round) (after_refresh o.settings round)) (below (span o.settings.readings.within) o.times * 1000))
    (Read node round))
    (Do (DrawReads round (more node)))))
    (does o (One (Do (PutRounds (more round)))))
