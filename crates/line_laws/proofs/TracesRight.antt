-- What the history has of an event is what the report says of it, and the counts of the world are those of its history.
use Rattle.std.proofs.Common.{◌≡◌, ◌⊎◌, inl, inr, ℕ, ◌+◌, ◌-◌, Bool, true, false, ⊎_elim, List, [], ◌++◌, length, Option, Some, None, Result, Ok, Err, refl}
use Rattle.std.proofs.Common.{sym, ap, ◌∙◌, subst, append-nil, arith}
use Rattle.std.specs.Prelude.{◌↔◌, ◌||◌, IfSome, is_some, if◌then◌else◌, slice_get}
use Rattle.std.specs.List.{list_any}
use Rattle.std.specs.Option.{option_map, option_map_or}
use Rattle.std.proofs.lemmas.List.{length-append, length-set, length-map}
use Rattle.std.proofs.lemmas.Option.{same_Some}
use Rattle.plc_base.specs.declared.key.Key.{Key}
use Rattle.plc_base.specs.declared.keeper.BadStore.{BadStore}
use Rattle.plc_base.specs.declared.tags.PairTag.{PairTag}
use Rattle.eap_psk.specs.declared.server.Agreed.{Agreed}
use Rattle.line_events.specs.declared.event.Answer.{Answer}
use Rattle.line_events.specs.declared.event.Answer.TheVariants as answers
use Rattle.line_events.specs.declared.event.Event.{Event}
use Rattle.line_events.specs.declared.event.Event.TheVariants as events
use Rattle.line_events.specs.declared.happenings.Happenings.{Happenings}
use Rattle.line_events.specs.declared.happenings.Handed.{Handed}
use Rattle.node_rules.specs.Accepted.{Accepted}
use Rattle.node_rules.specs.declared.heard.CoordinatorHeard.{CoordinatorHeard}
use Rattle.node_rules.specs.declared.heard.CoordinatorHeard.TheVariants as coordinator_heard
use Rattle.node_rules.specs.declared.heard.Heard.{Heard}
use Rattle.node_rules.specs.declared.heard.Heard.TheVariants as station_heard
use Rattle.node_rules.specs.declared.heard.MeterHeard.{MeterHeard}
use Rattle.node_rules.specs.declared.heard.MeterHeard.TheVariants as meter_heard
use Rattle.node_rules.specs.declared.heard.Path.{Path}
use Rattle.node_rules.specs.declared.heard.Path.TheVariants as paths
use Rattle.node_rules.specs.declared.heard.SentHow.{SentHow}
use Rattle.node_rules.specs.declared.heard.SentHow.TheVariants as how
use Rattle.node_rules.specs.declared.refusal.CoordinatorRefusal.{CoordinatorRefusal}
use Rattle.node_rules.specs.declared.refusal.CoordinatorRefusal.TheVariants as orders
use Rattle.node_rules.specs.declared.refusal.Dropped.{Dropped}
use Rattle.node_rules.specs.declared.refusal.Dropped.TheVariants as drops
use Rattle.node_rules.specs.declared.refusal.FrameRefusal.{FrameRefusal}
use Rattle.node_rules.specs.declared.refusal.FrameRefusal.TheVariants as frames
use Rattle.node_rules.specs.declared.refusal.JoinRefusal.{JoinRefusal}
use Rattle.node_rules.specs.declared.refusal.JoinRefusal.TheVariants as joins
use Rattle.node_rules.specs.declared.refusal.LeaveRefusal.{LeaveRefusal}
use Rattle.node_rules.specs.declared.refusal.LeaveRefusal.TheVariants as leaves
use Rattle.node_rules.specs.declared.refusal.RandomFault.{RandomFault}
use Rattle.node_rules.specs.declared.refusal.RandomFault.TheVariants as randoms
use Rattle.node_rules.specs.declared.refusal.SendRefusal.{SendRefusal}
use Rattle.node_rules.specs.declared.refusal.SendRefusal.TheVariants as sends
use Rattle.node_rules.specs.Ciphers.{Ciphers}
use Rattle.node_rules.specs.Memory.{Memory, Role, Coordinator, Meter, Node}
use Rattle.node_rules.specs.MemoryDrafts.{with_station}
use Rattle.node_rules.specs.Calls as calls
use Rattle.node_rules.specs.Meters as meters
use Rattle.node_rules.specs.Coordinators as coordinator_rules
use Rattle.node_rules.specs.Frames.{arrived}
use Rattle.node_rules.specs.NodeSteps.{NodeStep, acts, stays, answering, changing, of_station, left_by}
use Rattle.node_rules.specs.Plans.{Plan, carry_out, resting}
use Rattle.node_rules.specs.RestartStates.{memory_of}
use Rattle.line_rules.specs.Answers.{Reception, Up, SentGrant, drop_word, send_word, order_word, frame_word, random_word, join_word, leave_word, sent_word}
use Rattle.line_rules.specs.Answers.{ordered_word, station_reception, meter_reception, coordinator_reception}
use Rattle.line_rules.specs.Worlds.{World, Flight, Trace, Pairing, node_at, flight_at, is_forged_tag, nothing_further}
use Rattle.line_rules.specs.Steps.{Step, is_taken, set_up, running_world, world_after, flights_of, node_outcome, trace_of, happenings, sending, sent_if, tag_of}
use Rattle.line_rules.specs.Steps.{offered_near}
use Rattle.line_rules.specs.Steps.{hearing_step}
use Rattle.line_rules.specs.Steps.{received, forged_by, note_by, number_if, handed_by, issued_of, identity, restart_word, restarts, made_node}
use Rattle.line_rules.specs.Runs.{Entry, one_of}
use Rattle.line_rules.specs.Forgery.{Comes, OfFlight, OfScript, accepting, AcceptsSealed, NoneFlew, IsForged, ByFrame, ByTag}
use Rattle.line_rules.specs.Traces.{Adds, IsSendOf, IsIssue, ComesTo, is_up, is_took, is_done, is_issue}
use Rattle.line_laws.proofs.StoreMarks.{accept_is}
use Rattle.line_laws.proofs.Quiet.{acts_quiet, counter_quiet, number_quiet, near_quiet, install_quiet, allow_quiet, depot_quiet, accept_quiet}
use Rattle.line_laws.proofs.Untagged.{acts_untagged, allow_untagged, depot_untagged, rekey_untagged, activate_self_untagged, challenge_untagged}
use Rattle.line_laws.proofs.Untagged.{activate_untagged, kick_untagged, send_untagged, near_untagged, counter_untagged, number_untagged, rested_untagged}
use Rattle.line_laws.proofs.Untagged.{random_untagged, provision_untagged, accept_untagged}
use Rattle.line_laws.proofs.IssueMeters.{joins_opened, leaves_opened}
use Rattle.line_laws.proofs.IssueNodes.{acts_opened}
use Rattle.line_laws.proofs.ForgeryRight.{some_passes, any_at, none_flew, flew_none, none_made, made_none}
use Rattle.line_laws.proofs.StepKinds.{IsCall, Gives, Joins, Leaves, Sends, Breaks, Nears, Counts, Numbers, Accepts, Provisions, Depots, Allows, Rekeys, Turns}
use Rattle.line_laws.proofs.StepKinds.{Challenges, Activates, Kicks, workshop, IsPreset, OfCounter, OfNumber, IsBrought, IsWord, OfRandom, OfJoin, OfLeave}
use Rattle.line_laws.proofs.StepKinds.{OfDraw, OfChallenge, OfTurn, OfOrder, OfKick, IsMade, OfCoordinator, OfMeter, IsStep, Fails, Makes, Rests, Shows, Acts}
use Rattle.line_laws.proofs.StepKinds.{BreaksLink, SendsFrom, AllowsMeter, Sets, SetsTwo, Provides, TurnsDown, Hears, Loses, Ticks, Restarts, Cuts}

-- # Words of the report

-- nothing was sent, handed up, taken, done or issued
abbrev pub Plain : Answer → Type 0
Plain a = (is_taken a ≡ false) × (is_up a ≡ false) × (is_took a ≡ false) × (is_done a ≡ false) × (is_issue a ≡ false)

send_plain : (r : SendRefusal) → Plain (send_word r)
send_plain sends.Halted = (refl, refl, refl, refl, refl)
send_plain sends.NotJoined = (refl, refl, refl, refl, refl)
send_plain sends.BadSize = (refl, refl, refl, refl, refl)
send_plain sends.ToSelf = (refl, refl, refl, refl, refl)
send_plain sends.WaitingFull = (refl, refl, refl, refl, refl)
send_plain sends.SeqSpent = (refl, refl, refl, refl, refl)
send_plain sends.CounterSpent = (refl, refl, refl, refl, refl)
send_plain sends.Store = (refl, refl, refl, refl, refl)

order_plain : (r : CoordinatorRefusal) → Plain (order_word r)
order_plain orders.Halted = (refl, refl, refl, refl, refl)
order_plain orders.MetersFull = (refl, refl, refl, refl, refl)
order_plain orders.NotAllowed = (refl, refl, refl, refl, refl)
order_plain orders.IndexActive = (refl, refl, refl, refl, refl)
order_plain orders.NotHeld = (refl, refl, refl, refl, refl)
order_plain orders.NotIssued = (refl, refl, refl, refl, refl)
order_plain orders.SessionsFull = (refl, refl, refl, refl, refl)
order_plain orders.NoRandom = (refl, refl, refl, refl, refl)
order_plain orders.WaitingFull = (refl, refl, refl, refl, refl)
order_plain orders.SeqSpent = (refl, refl, refl, refl, refl)
order_plain orders.CounterSpent = (refl, refl, refl, refl, refl)
order_plain orders.Store = (refl, refl, refl, refl, refl)

frame_plain : (r : FrameRefusal) → Plain (frame_word r)
frame_plain frames.Halted = (refl, refl, refl, refl, refl)
frame_plain frames.Malformed = (refl, refl, refl, refl, refl)
frame_plain frames.NotForMe = (refl, refl, refl, refl, refl)
frame_plain frames.NoKey = (refl, refl, refl, refl, refl)
frame_plain frames.BadTag = (refl, refl, refl, refl, refl)
frame_plain frames.Replayed = (refl, refl, refl, refl, refl)
frame_plain frames.PeersFull = (refl, refl, refl, refl, refl)
frame_plain frames.Store = (refl, refl, refl, refl, refl)

ordered_plain : {A : Type 0} (word : Answer) → Plain word → (r : Result A CoordinatorRefusal) → Plain (ordered_word word r)
ordered_plain word h (Ok a) = h
ordered_plain word h (Err reason) = order_plain reason

word_plain : (A : Type 0) (reads : A → Answer) (event : Event) → IsWord A reads event → (a : A) → Plain (reads a)
word_plain A reads event (OfRandom number value) a = by_case a
  where
    by_case : (r : Result (Unit {0}) RandomFault) → Plain (random_word r)
    by_case (Ok u) = (refl, refl, refl, refl, refl)
    by_case (Err randoms.Halted) = (refl, refl, refl, refl, refl)
    by_case (Err randoms.RandomsFull) = (refl, refl, refl, refl, refl)
word_plain A reads event (OfJoin number agent) a = by_case a
  where
    by_case : (r : Result (Unit {0}) JoinRefusal) → Plain (join_word r)
    by_case (Ok u) = (refl, refl, refl, refl, refl)
    by_case (Err joins.Halted) = (refl, refl, refl, refl, refl)
    by_case (Err joins.AlreadyJoined) = (refl, refl, refl, refl, refl)
word_plain A reads event (OfLeave number) a = by_case a
  where
    by_case : (r : Result (Unit {0}) LeaveRefusal) → Plain (leave_word r)
    by_case (Ok u) = (refl, refl, refl, refl, refl)
    by_case (Err leaves.Halted) = (refl, refl, refl, refl, refl)
    by_case (Err leaves.NotJoined) = (refl, refl, refl, refl, refl)
    by_case (Err leaves.Store) = (refl, refl, refl, refl, refl)
word_plain A reads event (OfDraw B index key) a = ordered_plain answers.Drawn (refl, refl, refl, refl, refl) a
word_plain A reads event (OfChallenge B number) a = ordered_plain answers.Challenged (refl, refl, refl, refl, refl) a
word_plain A reads event (OfTurn B number index) a = ordered_plain answers.Activated (refl, refl, refl, refl, refl) a
word_plain A reads event (OfOrder B number index) a = ordered_plain answers.Ordered (refl, refl, refl, refl, refl) a
word_plain A reads event (OfKick B number) a = ordered_plain answers.Kicked (refl, refl, refl, refl, refl) a

word_quiet : (A : Type 0) (reads : A → Answer) (event : Event) → IsWord A reads event → IsBrought event → ⊥
word_quiet A reads event (OfRandom number value) b = b
word_quiet A reads event (OfJoin number agent) b = b
word_quiet A reads event (OfLeave number) b = b
word_quiet A reads event (OfDraw B index key) b = b
word_quiet A reads event (OfChallenge B number) b = b
word_quiet A reads event (OfTurn B number index) b = b
word_quiet A reads event (OfOrder B number index) b = b
word_quiet A reads event (OfKick B number) b = b

-- # What a node makes of a frame

-- The word of a frame that was heard, with what the history has of it.
pub record Fits (r : Reception) : Type 0 where
  pub taken : is_taken r.answer ≡ false
  pub up : is_some r.up ≡ is_up r.answer
  pub took : is_some r.took ≡ is_took r.answer
  pub done : is_some r.done ≡ is_done r.answer
  pub keyed : is_some r.keyed ≡ is_issue r.answer

pub drop_fits : (reason : Dropped) → Plain (drop_word reason)
drop_fits drops.BadUnit = (refl, refl, refl, refl, refl)
drop_fits drops.NoRoute = (refl, refl, refl, refl, refl)
drop_fits drops.HopsSpent = (refl, refl, refl, refl, refl)
drop_fits drops.NotBetter = (refl, refl, refl, refl, refl)
drop_fits drops.CostSpent = (refl, refl, refl, refl, refl)
drop_fits drops.RoutesFull = (refl, refl, refl, refl, refl)
drop_fits drops.NotAllowed = (refl, refl, refl, refl, refl)
drop_fits drops.NoSession = (refl, refl, refl, refl, refl)
drop_fits drops.SessionsFull = (refl, refl, refl, refl, refl)
drop_fits drops.NoRandom = (refl, refl, refl, refl, refl)
drop_fits drops.Form = (refl, refl, refl, refl, refl)
drop_fits drops.OtherSession = (refl, refl, refl, refl, refl)
drop_fits drops.BadMac = (refl, refl, refl, refl, refl)
drop_fits drops.BadChannel = (refl, refl, refl, refl, refl)
drop_fits drops.NoSuccess = (refl, refl, refl, refl, refl)
drop_fits drops.NotHeld = (refl, refl, refl, refl, refl)
drop_fits drops.BufferFull = (refl, refl, refl, refl, refl)
drop_fits drops.SeqSpent = (refl, refl, refl, refl, refl)
drop_fits drops.CounterSpent = (refl, refl, refl, refl, refl)
drop_fits drops.Store = (refl, refl, refl, refl, refl)

dropped_fits : (reason : Dropped) → Fits (record { answer = drop_word reason; up = None; keyed = None; took = None; done = None })
dropped_fits reason = let p = drop_fits reason in record { taken = p.0; up = sym p.1; took = sym p.2; done = sym p.3; keyed = sym p.4 }

station_fits : (h : Heard) → Fits (station_reception h)
station_fits (station_heard.Up from note octets) = record { taken = refl; up = refl; took = refl; done = refl; keyed = refl }
station_fits station_heard.Held = record { taken = refl; up = refl; took = refl; done = refl; keyed = refl }
station_fits station_heard.Relayed = record { taken = refl; up = refl; took = refl; done = refl; keyed = refl }
station_fits station_heard.Answered = record { taken = refl; up = refl; took = refl; done = refl; keyed = refl }
station_fits station_heard.Learned = record { taken = refl; up = refl; took = refl; done = refl; keyed = refl }
station_fits station_heard.Broken = record { taken = refl; up = refl; took = refl; done = refl; keyed = refl }
station_fits station_heard.Reported = record { taken = refl; up = refl; took = refl; done = refl; keyed = refl }
station_fits (station_heard.Joining way body) = record { taken = refl; up = refl; took = refl; done = refl; keyed = refl }
station_fits (station_heard.Local from all code body) = record { taken = refl; up = refl; took = refl; done = refl; keyed = refl }

meter_fits : (r : Result MeterHeard Dropped) → Fits (meter_reception r)
meter_fits (Ok (meter_heard.Station h)) = station_fits h
meter_fits (Ok meter_heard.Carried) = record { taken = refl; up = refl; took = refl; done = refl; keyed = refl }
meter_fits (Ok meter_heard.Replied) = record { taken = refl; up = refl; took = refl; done = refl; keyed = refl }
meter_fits (Ok (meter_heard.Took agreed)) = record { taken = refl; up = refl; took = refl; done = refl; keyed = refl }
meter_fits (Ok meter_heard.Noted) = record { taken = refl; up = refl; took = refl; done = refl; keyed = refl }
meter_fits (Ok meter_heard.Declined) = record { taken = refl; up = refl; took = refl; done = refl; keyed = refl }
meter_fits (Ok meter_heard.Left) = record { taken = refl; up = refl; took = refl; done = refl; keyed = refl }
meter_fits (Ok meter_heard.Activated) = record { taken = refl; up = refl; took = refl; done = refl; keyed = refl }
meter_fits (Err reason) = dropped_fits reason

coordinator_fits : (r : Result CoordinatorHeard Dropped) → Fits (coordinator_reception r)
coordinator_fits (Ok (coordinator_heard.Station h)) = station_fits h
coordinator_fits (Ok coordinator_heard.Challenged) = record { taken = refl; up = refl; took = refl; done = refl; keyed = refl }
coordinator_fits (Ok (coordinator_heard.Keyed eui granted)) = record { taken = refl; up = refl; took = refl; done = refl; keyed = refl }
coordinator_fits (Ok (coordinator_heard.Done eui agreed)) = record { taken = refl; up = refl; took = refl; done = refl; keyed = refl }
coordinator_fits (Ok coordinator_heard.Declined) = record { taken = refl; up = refl; took = refl; done = refl; keyed = refl }
coordinator_fits (Err reason) = dropped_fits reason

hears_fits : (ciphers : Ciphers) (x : Node) (got : Accepted) (cost note now : ℕ) → Fits (hearing_step ciphers x got cost note now).answer
hears_fits ciphers x got cost note now = by_role x.role
  where
    hears_as : Role → NodeStep Reception
    hears_as Coordinator = answering coordinator_reception
        (acts x (Err drops.Store) (λ m. coordinator_rules.hear_coordinator (record { eui = x.eui; ciphers = ciphers }) m got cost note now))
    hears_as (Meter psk) = answering meter_reception (acts x (Err drops.Store) (λ m. meters.hear_meter (identity ciphers x psk) m got cost note now))

    by_role : (role : Role) → Fits (hears_as role).answer
    by_role Coordinator = coordinator_fits
        (acts x (Err drops.Store) (λ m. coordinator_rules.hear_coordinator (record { eui = x.eui; ciphers = ciphers }) m got cost note now)).answer
    by_role (Meter psk) = meter_fits (acts x (Err drops.Store) (λ m. meters.hear_meter (identity ciphers x psk) m got cost note now)).answer

-- # Calls find no pair tag right

call_opened : (ciphers : Ciphers) (w : World) (number : ℕ) (x : Node) (A : Type 0) (halted : A) (plan : Memory → Plan Memory A)
    → IsCall ciphers w number x A halted plan → (m : Memory) → (plan m).opened ≡ []
call_opened ciphers w number x A halted plan (Gives value are) m = (random_untagged m value).1
call_opened ciphers w number x A halted plan (Joins psk a ne pair other) m = joins_opened (identity ciphers x psk) m a w.clock
call_opened ciphers w number x A halted plan (Leaves ne) m = leaves_opened m
call_opened ciphers w number x A halted plan (Sends a datagram other are) m = (send_untagged m a datagram (w.sends + 1) w.clock).1
call_opened ciphers w number x A halted plan (Breaks a other) m = (rested_untagged (with_station (calls.broke a m.station) m) answers.Broken answers.Broken).1
call_opened ciphers w number x A halted plan (Nears a cost open_is other low) m = (near_untagged m a cost w.clock).1
call_opened ciphers w number x A halted plan (Counts value open_is fits) m = (counter_untagged m value).1
call_opened ciphers w number x A halted plan (Numbers value open_is low fits) m = (number_untagged m value).1
call_opened ciphers w number x A halted plan (Accepts octets event says comes) m = (accept_untagged m x.eui (arrived ciphers octets)).1
call_opened ciphers w number x A halted plan (Provisions psk c g ne pair there is) m = (provision_untagged m g).1
call_opened ciphers w number x A halted plan (Depots meter y psk first open_is at pair) m = (depot_untagged m y.eui psk).1
call_opened ciphers w number x A halted plan (Allows meter y psk first at pair) m = (allow_untagged m y.eui psk).1
call_opened ciphers w number x A halted plan (Rekeys index key first low long) m = (rekey_untagged m index key).1
call_opened ciphers w number x A halted plan (Turns index first low) m = (activate_self_untagged m index).1
call_opened ciphers w number x A halted plan (Challenges meter y first at) m = (challenge_untagged m x.eui y.eui w.clock).1
call_opened ciphers w number x A halted plan (Activates meter y index first at low) m = (activate_untagged m y.eui index w.clock).1
call_opened ciphers w number x A halted plan (Kicks meter y first at) m = (kick_untagged m y.eui).1

-- # Octets that come

pub comes_brought : (w : World) (event : Event) (number : ℕ) (octets : List ℕ) → Comes w event number octets → IsBrought event
comes_brought w event number octets (OfFlight flight n cost f e) = tt
comes_brought w event number octets (OfScript n cost o) = tt

pub comes_to : (w : World) (event : Event) (number : ℕ) (octets : List ℕ) → Comes w event number octets → ComesTo event number
comes_to w event number octets (OfFlight flight n cost f e) = refl
comes_to w event number octets (OfScript n cost o) = refl

-- what comes in an event, to which node
abbrev pub Is : World → Event → ℕ → List ℕ → Type 0
Is w (events.Deliver flight node cost) number octets = (node ≡ number) × ((f : Flight) × (flight_at w flight ≡ Some f) × (octets ≡ f.octets))
Is w (events.Inject node cost own) number octets = (node ≡ number) × (own ≡ octets)
Is w _ number octets = ⊥

pub comes_is : (w : World) (event : Event) (number : ℕ) (octets : List ℕ) → Comes w event number octets → Is w event number octets
comes_is w event number octets (OfFlight flight n cost f e) = (refl, (f, e, refl))
comes_is w event number octets (OfScript n cost o) = (refl, refl)

pub is_same : (w : World) (event : Event) (m n : ℕ) (xs ys : List ℕ) → Is w event m xs → Is w event n ys → (m ≡ n) × (xs ≡ ys)
is_same w (events.Deliver flight node cost) m n xs ys h k =
    (sym h.0 ∙ k.0, h.1.2 ∙ ap (λ (f : Flight). f.octets) (same_Some h.1.0 k.1.0 (sym h.1.1 ∙ k.1.1)) ∙ sym k.1.2)
is_same w (events.Inject node cost own) m n xs ys h k = (sym h.0 ∙ k.0, sym h.1 ∙ k.1)
is_same w _ m n xs ys h k = absurd (h)

-- # What is right of an event

-- What the history has of an event that is no broadcast is there exactly where the answer says so.
pub record IsTracedSo (w : World) (x : Entry) : Type 0 where
  pub sent : is_some x.trace.sent ≡ is_taken x.trace.happenings.answer
  pub send : IfSome x.trace.sent (IsSendOf w x.event)
  pub up : is_some x.trace.happenings.up ≡ is_up x.trace.happenings.answer
  pub up_at : IfSome x.trace.happenings.up (λ (u : Handed). ComesTo x.event u.node)
  pub taken : is_some x.trace.taken ≡ is_took x.trace.happenings.answer
  pub taken_at : IfSome x.trace.taken (λ (p : Pairing). ComesTo x.event p.node)
  pub took : x.trace.happenings.took ≡ option_map (λ (p : Pairing). p.node) x.trace.taken
  pub done : is_some x.trace.done ≡ is_done x.trace.happenings.answer
  pub done_node : x.trace.happenings.done ≡ option_map (λ (p : Pairing). p.node) x.trace.done
  pub issues : is_issue x.trace.happenings.answer ≡ true → IsIssue w x.event x.trace.issued
  pub none_issued : is_issue x.trace.happenings.answer ≡ false → x.trace.issued ≡ []

pub record Right (ciphers : Ciphers) (w : World) (x : Entry) : Type 0 where
  pub adds : Adds w x
  pub traced : IsTracedSo w x
  pub forged : (x.trace.happenings.forged ≡ true) ↔ IsForged ciphers w x.event x.trace.opened

abbrev pub entry : ℕ → Event → World × Trace → Entry
entry number event r = record { number = number; event = event; trace = r.1; after = r.0 }

-- One event more, and nothing else is counted.
pub record Counted (w v : World) : Type 0 where
  pub events : v.events ≡ w.events + 1
  pub sends : v.sends ≡ w.sends
  pub ups : v.ups ≡ w.ups
  pub forged : v.forged ≡ w.forged
  pub done : v.done ≡ w.done

pub ran_counted : (w : World) → Counted w (running_world w)
ran_counted w = record { events = refl; sends = refl; ups = refl; forged = refl; done = refl }

set_up_counted : (w : World) → Counted w (set_up w)
set_up_counted w = record { events = refl; sends = refl; ups = refl; forged = refl; done = refl }

pub after_counted : {A : Type 0} (ciphers : Ciphers) (w u : World) (number : ℕ) (d : NodeStep A) → Counted w u → Counted w (world_after ciphers u number d)
unfolding world_after
after_counted ciphers w u number d c = record { events = c.events; sends = c.sends; ups = c.ups; forged = c.forged; done = c.done }

pub after_flights : {A : Type 0} (ciphers : Ciphers) (u : World) (number : ℕ) (d : NodeStep A)
    → length (world_after ciphers u number d).flights ≡ length u.flights + length d.frames
unfolding world_after
after_flights ciphers u number d = length-append u.flights (flights_of ciphers number d) ∙ ap (λ n. length u.flights + n) (length-map d.frames _)

pub made_after : {A : Type 0} (ciphers : Ciphers) (u : World) (number : ℕ) (d : NodeStep A) → (world_after ciphers u number d).made ≡ u.made ++ d.made
unfolding world_after
made_after ciphers u number d = refl

pub false_true : false ≡ true → ⊥
false_true e = cc

none_at : (place : ℕ) (tag : PairTag) (opened : List PairTag) → opened ≡ [] → slice_get opened place ≡ Some tag → ⊥
none_at place tag opened none e = nothing place (sym (ap (λ xs. slice_get xs place) none) ∙ e)
  where
    nothing : (place : ℕ) → slice_get [] place ≡ Some tag → ⊥
    nothing place e = cc

module _ (ciphers : Ciphers) (w : World) where
  -- what is said where nothing was heard
  abbrev quiet_trace : Happenings → List PairTag → List PairTag → Trace
  quiet_trace h made opened =
      record { happenings = h; sent = None; issued = []; taken = None; done = None; made = made; opened = opened; further = nothing_further }

  abbrev pub NoneCame : Event → Type 0
  NoneCame event = (octets : List ℕ) (key : Key) → AcceptsSealed ciphers w event octets key → ⊥

  pub unbrought : (event : Event) → (IsBrought event → ⊥) → NoneCame event
  unbrought event quiet octets key a = quiet (comes_brought w event a.number octets a.comes)

  pub unforged : (event : Event) (forged : Bool) (opened : List PairTag) → forged ≡ false → opened ≡ [] → NoneCame event
      → (forged ≡ true) ↔ IsForged ciphers w event opened
  unforged event forged opened not_it none came = (λ e. absurd (false_true (sym not_it ∙ e)), never)
    where
      never : IsForged ciphers w event opened → forged ≡ true
      never (ByFrame octets key a unflown) = absurd (came octets key a)
      never (ByTag place tag there unmade) = absurd (none_at place tag opened none there)

  pub quiet_adds : (number : ℕ) (event : Event) (v : World) (h : Happenings) (made opened : List PairTag) → h.forged ≡ false → h.up ≡ None → Counted w v
      → h.first_flight ≡ length w.flights + 1 → length v.flights ≡ length w.flights + h.flights → v.made ≡ w.made ++ made
      → Adds w (entry number event (v, quiet_trace h made opened))
  quiet_adds number event v h made opened unforged_is none c first flights made_is = record {
    events = c.events;
    sends = let e = c.sends in omega arith;
    ups = c.ups ∙ rw none (omega arith);
    forged = c.forged ∙ rw unforged_is (omega arith);
    done = let e = c.done in omega arith;
    first = first;
    flights = flights;
    made = made_is;
  }

  quiet_traced : (number : ℕ) (event : Event) (v : World) (h : Happenings) (made opened : List PairTag) → Plain h.answer → h.up ≡ None → h.took ≡ None
      → h.done ≡ None → IsTracedSo w (entry number event (v, quiet_trace h made opened))
  quiet_traced number event v h made opened p up took done = record {
    sent = sym p.0;
    send = tt;
    up = rw up (sym p.1);
    up_at = rw up tt;
    taken = sym p.2;
    taken_at = tt;
    took = took;
    done = sym p.3;
    done_node = done;
    issues = λ e. absurd (false_true (sym p.4 ∙ e));
    none_issued = λ e. refl;
  }

  pub quiet_right : (number : ℕ) (event : Event) (v : World) (h : Happenings) (made opened : List PairTag) → Plain h.answer → h.forged ≡ false → h.up ≡ None
      → h.took ≡ None → h.done ≡ None → opened ≡ [] → NoneCame event
      → Counted w v → h.first_flight ≡ length w.flights + 1 → length v.flights ≡ length w.flights + h.flights → v.made ≡ w.made ++ made
      → Right ciphers w (entry number event (v, quiet_trace h made opened))
  quiet_right number event v h made opened p not_it up took done none came c first flights made_is = record {
    adds = quiet_adds number event v h made opened not_it up c first flights made_is;
    traced = quiet_traced number event v h made opened p up took done;
    forged = unforged event h.forged opened not_it none came;
  }

  -- a word, and nothing sent or made
  pub still_right : (number : ℕ) (event : Event) (v : World) (answer : Answer) → Plain answer → NoneCame event → Counted w v
      → length v.flights ≡ length w.flights + 0 → v.made ≡ w.made ++ []
      → Right ciphers w (entry number event (v, trace_of (happenings w answer)))
  still_right number event v answer p came c flights made_is =
      quiet_right number event v (happenings w answer) [] [] p refl refl refl refl refl came c refl flights made_is

  pub acted_right : (n : ℕ) (event : Event) (number : ℕ) (d : NodeStep Answer) → Plain d.answer → d.opened ≡ [] → NoneCame event
      → Right ciphers w (entry n event (node_outcome ciphers w number d))
  acted_right n event number d p none came =
      quiet_right n event (world_after ciphers (running_world w) number d) (record (happenings w d.answer) { flights = length d.frames })
      d.made d.opened p refl refl refl refl none came
      (after_counted ciphers w (running_world w) number d (ran_counted w)) refl (after_flights ciphers (running_world w) number d)
      (made_after ciphers (running_world w) number d)

  none_after : {A : Type 0} (u : World) (number : ℕ) (d : NodeStep A) → d.frames ≡ [] → d.made ≡ []
      → (length (world_after ciphers u number d).flights ≡ length u.flights + 0) × ((world_after ciphers u number d).made ≡ u.made ++ [])
  none_after u number d frames made =
      (after_flights ciphers u number d ∙ ap (λ fs. length u.flights + length fs) frames, made_after ciphers u number d ∙ ap (λ ts. u.made ++ ts) made)

  none_twice : {A B : Type 0} (u : World) (a b : ℕ) (d : NodeStep A) (e : NodeStep B) → d.frames ≡ [] → d.made ≡ [] → e.frames ≡ [] → e.made ≡ []
      → (length (world_after ciphers (world_after ciphers u a d) b e).flights ≡ length u.flights + 0)
      × ((world_after ciphers (world_after ciphers u a d) b e).made ≡ u.made ++ [])
  none_twice u a b d e f m g k =
      let one = none_after u a d f m in
      let two = none_after (world_after ciphers u a d) b e g k in (
        two.0 ∙ ap (λ n. n + 0) one.0 ∙ omega arith,
        two.1 ∙ append-nil _ ∙ one.1,
      )

  -- # A send

  sent_right : (n from to : ℕ) (datagram : List ℕ) (x : Node) (d : NodeStep Answer) → node_at w from ≡ Some x
      → (is_up d.answer ≡ false) × (is_took d.answer ≡ false) × (is_done d.answer ≡ false) × (is_issue d.answer ≡ false) → d.opened ≡ []
      → Right ciphers w (entry n (events.Send from to datagram) (sending ciphers w from to datagram (tag_of x) d))
  sent_right n from to datagram x d there p none = by_taken (is_taken d.answer) refl
    where
      by_taken : (b : Bool) → is_taken d.answer ≡ b
          → Right ciphers w (entry n (events.Send from to datagram) (sent_if w from to datagram (tag_of x) b (node_outcome ciphers w from d)))
      by_taken false e = acted_right n (events.Send from to datagram) from d (e, p.0, p.1, p.2, p.3) none (unbrought (events.Send from to datagram) (λ b. b))
      by_taken true e =
          let c = after_counted ciphers w (running_world w) from d (ran_counted w) in
          record {
            adds = record {
              events = c.events;
              sends = ap (λ k. k + 1) c.sends;
              ups = let k = c.ups in omega arith;
              forged = let k = c.forged in omega arith;
              done = let k = c.done in omega arith;
              first = refl;
              flights = after_flights ciphers (running_world w) from d;
              made = made_after ciphers (running_world w) from d;
            };
            traced = record {
              sent = sym e;
              send = record { fields = refl; node = x; there = there; tag = refl };
              up = sym p.0;
              up_at = tt;
              taken = sym p.1;
              taken_at = tt;
              took = refl;
              done = sym p.2;
              done_node = refl;
              issues = λ k. absurd (false_true (sym p.3 ∙ k));
              none_issued = λ k. refl;
            };
            forged = unforged (events.Send from to datagram) false d.opened refl none (unbrought (events.Send from to datagram) (λ b. b));
          }

  -- # A frame that is heard

  some_mapped : {A B : Type 0} (f : A → B) (o : Option A) → is_some (option_map f o) ≡ is_some o
  some_mapped f None = refl
  some_mapped f (Some a) = refl

  number_mapped : {A B : Type 0} (f : A → B) (o : Option A) (n : ℕ) → number_if (is_some o) n ≡ n + length (one_of (option_map f o))
  number_mapped f None n = omega arith
  number_mapped f (Some a) n = refl

  handed_to : (event : Event) (number : ℕ) → ComesTo event number → (o : Option Up) → IfSome (handed_by number o) (λ (u : Handed). ComesTo event u.node)
  handed_to event number c None = tt
  handed_to event number c (Some u) = c

  taken_to : (event : Event) (number : ℕ) → ComesTo event number → (o : Option Agreed)
      → IfSome (option_map (λ (a : Agreed). record { node = number; agreed = a }) o) (λ (p : Pairing). ComesTo event p.node)
  taken_to event number c None = tt
  taken_to event number c (Some a) = c

  took_same : (number : ℕ) (o : Option Agreed)
      → option_map (λ (a : Agreed). number) o ≡ option_map (λ (p : Pairing). p.node) (option_map (λ (a : Agreed). record { node = number; agreed = a }) o)
  took_same number None = refl
  took_same number (Some a) = refl

  keyed_issue : (event : Event) → IsBrought event → (o : Option SentGrant) → is_some o ≡ true → IsIssue w event (issued_of o)
  keyed_issue event brought None e = absurd (false_true e)
  keyed_issue event brought (Some k) e = record { eui = k.eui; granted = k.granted; keys = refl; depot = λ number is. absurd (subst IsBrought is brought) }

  none_keyed : (o : Option SentGrant) → is_some o ≡ false → issued_of o ≡ []
  none_keyed None e = refl
  none_keyed (Some k) e = absurd (cc)

  forged_count : (b : Bool) (n : ℕ) → number_if b n ≡ n + (if b then 1 else 0)
  forged_count true n = refl
  forged_count false n = omega arith

  pub received_right : (n : ℕ) (event : Event) (number : ℕ) (octets : List ℕ) (forged : Bool) (d : NodeStep Reception) → Comes w event number octets
      → Fits d.answer → (forged ≡ true) ↔ IsForged ciphers w event d.opened
      → Right ciphers w (entry n event (received ciphers w number forged d))
  received_right n event number octets forged d comes fits is =
      let c = after_counted ciphers w (running_world w) number d (ran_counted w) in
      let to = comes_to w event number octets comes in
      record {
        adds = record {
          events = c.events;
          sends = let k = c.sends in omega arith;
          ups = number_mapped (λ (u : Up). record { node = number; note = u.note; octets = u.octets }) d.answer.up w.ups;
          forged = forged_count forged w.forged;
          done = number_mapped _ d.answer.done w.done;
          first = refl;
          flights = after_flights ciphers (running_world w) number d;
          made = made_after ciphers (running_world w) number d;
        };
        traced = record {
          sent = sym fits.taken;
          send = tt;
          up = some_mapped _ d.answer.up ∙ fits.up;
          up_at = handed_to event number to d.answer.up;
          taken = some_mapped _ d.answer.took ∙ fits.took;
          taken_at = taken_to event number to d.answer.took;
          took = took_same number d.answer.took;
          done = some_mapped _ d.answer.done ∙ fits.done;
          done_node = refl;
          issues = λ e. keyed_issue event (comes_brought w event number octets comes) d.answer.keyed (fits.keyed ∙ e);
          none_issued = λ e. none_keyed d.answer.keyed (fits.keyed ∙ e);
        };
        forged = is;
      }

  or_parts_true : (a b : Bool) → (a || b) ≡ true → (a ≡ true) ⊎ (b ≡ true)
  or_parts_true true b e = inl refl
  or_parts_true false b e = inr e

  or_left : (a b : Bool) → a ≡ true → (a || b) ≡ true
  or_left true b e = refl
  or_left false b e = absurd (false_true e)

  or_right : (a b : Bool) → b ≡ true → (a || b) ≡ true
  or_right true b e = refl
  or_right false b e = e

  ok_same : (r : Result Accepted FrameRefusal) (a b : Accepted) → r ≡ Ok a → r ≡ Ok b → a ≡ b
  ok_same r a b e f = let both : Ok a ≡ Ok b = sym e ∙ f in cc (both)

  module _ (event : Event) (number : ℕ) (x : Node) (octets : List ℕ) (got : Accepted) (there : node_at w number ≡ Some x) (comes : Comes w event number octets)
      (is : (accepting ciphers x octets).answer ≡ Ok got) where
    -- the one frame that was accepted is this one
    one_frame : (own : List ℕ) (key : Key) → (a : AcceptsSealed ciphers w event own key) → (own ≡ octets) × (got.path ≡ paths.Sealed a.from a.to_all key)
    one_frame own key a =
        let same = is_same w event a.number number own octets (comes_is w event a.number own a.comes) (comes_is w event number octets comes) in
        let node : a.node ≡ x = same_Some _ _ (sym a.there ∙ ap (node_at w) same.0 ∙ there) in
        let accepted : (accepting ciphers x octets).answer ≡ Ok a.got = (λ i. (accepting ciphers (sym node i) (sym same.1 i)).answer) ∙ a.is in
        let this : a.got ≡ got = ok_same (accepting ciphers x octets).answer a.got got accepted is in
        (same.1, ap (λ (z : Accepted). z.path) (sym this) ∙ a.path)

    forged_path : (p : Path) → got.path ≡ p → forged_by w octets p ≡ true → (opened : List PairTag) → IsForged ciphers w event opened
    forged_path (paths.Sealed from all key) e t opened = ByFrame octets key
        (record { number = number; comes = comes; node = x; there = there; got = got; is = is; from = from; to_all = all; path = e })
        (none_flew w.flights octets key t)
    forged_path (paths.Up from) e t opened = absurd (false_true t)
    forged_path (paths.Down from) e t opened = absurd (false_true t)

    pub forged_right : (opened : List PairTag)
        → ((forged_by w octets got.path || list_any (is_forged_tag w.made) opened) ≡ true) ↔ IsForged ciphers w event opened
    forged_right opened = (
      λ e. ⊎_elim (λ t. forged_path got.path refl t opened)
          (λ t. let p = some_passes (is_forged_tag w.made) opened t in ByTag p.place p.one p.there (none_made w.made p.one p.is)) (or_parts_true _ _ e),
      back,
    )
      where
        back : IsForged ciphers w event opened → (forged_by w octets got.path || list_any (is_forged_tag w.made) opened) ≡ true
        back (ByFrame own key a unflown) =
            let one = one_frame own key a in
            or_left _ _ (subst (λ p. forged_by w octets p ≡ true) (sym one.1)
            (flew_none w.flights octets key (subst (λ z. NoneFlew w.flights z key) one.0 unflown)))
        back (ByTag place tag at unmade) = or_right _ _ (any_at (is_forged_tag w.made) opened place tag at (made_none w.made tag unmade))

  -- # Every event

  abbrev pub Good : ℕ → Event → Step → Type 0
  Good n event (Ok r) = Right ciphers w (entry n event r)
  Good n event (Err fault) = Unit {0}

  send_unsaid : (r : Result SentHow SendRefusal)
      → (is_up (sent_word r) ≡ false) × (is_took (sent_word r) ≡ false) × (is_done (sent_word r) ≡ false) × (is_issue (sent_word r) ≡ false)
  send_unsaid (Ok how.Sent) = (refl, refl, refl, refl)
  send_unsaid (Ok how.Waiting) = (refl, refl, refl, refl)
  send_unsaid (Err reason) = let p = send_plain reason in (p.1, p.2, p.3, p.4)

  made_quiet : (event : Event) (x : Node) → IsMade w event x → IsBrought event → ⊥
  made_quiet event x (OfCoordinator eui key none known long) b = b
  made_quiet event x (OfMeter eui psk some few new known long) b = b

  breaks_plain : (x : Node) (a : ℕ) → Plain (acts x answers.Halted (λ m. changing answers.Broken (with_station (calls.broke a m.station) m))).answer
  unfolding acts carry_out resting
  breaks_plain x a = by_memory x.memory
    where
      by_memory : (o : Option Memory) → Plain (option_map_or (λ m. left_by x
          (carry_out x.store.records x.store.cut (changing answers.Broken (with_station (calls.broke a m.station) m)))) o (stays x answers.Halted)).answer
      by_memory None = (refl, refl, refl, refl, refl)
      by_memory (Some m) = (refl, refl, refl, refl, refl)

  restart_plain : (r : Result Memory BadStore) → Plain (restart_word r)
  restart_plain (Ok m) = (refl, refl, refl, refl, refl)
  restart_plain (Err bad) = (refl, refl, refl, refl, refl)

  allowed_plain : (r : Result ℕ CoordinatorRefusal) → Plain (ordered_word answers.Allowed r)
  allowed_plain r = ordered_plain answers.Allowed (refl, refl, refl, refl, refl) r

  preset_none : (x : Node) (plan : _) → IsPreset plan → let d : NodeStep _ = acts x (Ok tt) (λ m. of_station m (plan m.station)) in
      (d.frames ≡ []) × (d.made ≡ [])
  preset_none x plan (OfCounter value fits) =
      (acts_quiet x (Ok tt) _ (λ m. counter_quiet m.station value), (acts_untagged x (Ok tt) _ (λ m. counter_untagged m value)).0)
  preset_none x plan (OfNumber value low fits) =
      (acts_quiet x (Ok tt) _ (λ m. number_quiet m.station value), (acts_untagged x (Ok tt) _ (λ m. number_untagged m value)).0)

  near_none : (x : Node) (to cost : ℕ) → ((offered_near x to cost w.clock).frames ≡ []) × ((offered_near x to cost w.clock).made ≡ [])
  near_none x to cost = (
    acts_quiet x (Ok tt) (λ m. of_station m (calls.preset_near m.station to cost w.clock)) (λ m. near_quiet m.station to cost w.clock),
    (acts_untagged x (Ok tt) (λ m. of_station m (calls.preset_near m.station to cost w.clock)) (λ m. near_untagged m to cost w.clock)).0,
  )

  depot_none : (c : Node) (x : Node) (psk : Key) → ((workshop c x.eui psk).frames ≡ []) × ((workshop c x.eui psk).made ≡ [])
  depot_none c x psk = (
    acts_quiet c (Err orders.Halted) (λ m. coordinator_rules.depot m x.eui psk) (λ m. depot_quiet m x.eui psk),
    (acts_untagged c (Err orders.Halted) (λ m. coordinator_rules.depot m x.eui psk) (λ m. depot_untagged m x.eui psk)).0,
  )

  pub right : (event : Event) (s : Step) → IsStep ciphers w event s → (n : ℕ) → Good n event s
  right event s (Fails e fault) n = tt
  right event s (Makes e x is) n = still_right n event (made_node w x).0 answers.Made (refl, refl, refl, refl, refl) (unbrought event (made_quiet event x is))
      (record { events = refl; sends = refl; ups = refl; forged = refl; done = refl }) (omega arith) (sym (append-nil w.made))
  right event s (Rests e quiet) n =
      still_right n event (running_world w) answers.NoAddress (refl, refl, refl, refl, refl) (unbrought event quiet) (ran_counted w) (omega arith)
      (sym (append-nil w.made))
  right event s (Shows number x) n = quiet_right n (events.Show number) (running_world w) _ [] [] (refl, refl, refl, refl, refl) refl refl refl refl refl
      (unbrought (events.Show number) (λ b. b)) (ran_counted w) refl (omega arith) (sym (append-nil w.made))
  right event s (Acts e number x A halted plan reads there call word asked) n =
      acted_right n event number (answering reads (acts x halted plan)) (word_plain A reads event word (acts x halted plan).answer)
      (acts_opened x halted plan (call_opened ciphers w number x A halted plan call)) (unbrought event (word_quiet A reads event word))
  right event s (BreaksLink number next x a there call) n =
      acted_right n (events.Break number next) number _ (breaks_plain x a)
      (acts_opened x answers.Halted _ (call_opened ciphers w number x _ answers.Halted _ call))
      (unbrought (events.Break number next) (λ b. b))
  right event s (SendsFrom from to datagram x a there call target) n =
      sent_right n from to datagram x (answering sent_word (acts x (Err sends.Halted)
      (λ m. of_station m (calls.send m.station a datagram (w.sends + 1) w.clock)))) there
      (send_unsaid (acts x (Err sends.Halted) (λ m. of_station m (calls.send m.station a datagram (w.sends + 1) w.clock))).answer)
      (acts_opened x (Err sends.Halted) (λ m. of_station m (calls.send m.station a datagram (w.sends + 1) w.clock))
      (call_opened ciphers w from x _ (Err sends.Halted) _ call))
  right event s (AllowsMeter number y c psk there call meter) n =
      let d = acts c (Err orders.Halted) (λ m. coordinator_rules.allow m y.eui psk) in
      let none = none_after (running_world w) 0 d (acts_quiet c (Err orders.Halted) _ (λ m. allow_quiet m y.eui psk))
      (acts_untagged c (Err orders.Halted) _ (λ m. allow_untagged m y.eui psk)).0 in
      quiet_right n (events.Allow number) (world_after ciphers (running_world w) 0 d) _ [] [] (allowed_plain d.answer) refl refl refl refl refl
      (unbrought (events.Allow number) (λ b. b)) (after_counted ciphers w (running_world w) 0 d (ran_counted w)) refl none.0 none.1
  right event s (Sets e quiet number x plan there open_is is) n =
      let d = acts x (Ok tt) (λ m. of_station m (plan m.station)) in
      let p = preset_none x plan is in
      let none = none_after (set_up w) number d p.0 p.1 in
      still_right n event (world_after ciphers (set_up w) number d) answers.Set (refl, refl, refl, refl, refl) (unbrought event quiet)
      (after_counted ciphers w (set_up w) number d (set_up_counted w)) none.0 none.1
  right event s (SetsTwo e quiet a b cost x y p q hx hy apart open_is first second fresh near) n =
      let d = offered_near x q cost w.clock in
      let k = offered_near y p cost w.clock in
      let u = near_none x q cost in
      let v = near_none y p cost in
      let none = none_twice (set_up w) a b d k u.0 u.1 v.0 v.1 in
      still_right n event _ answers.Set (refl, refl, refl, refl, refl) (unbrought event quiet)
      (after_counted ciphers w _ b k (after_counted ciphers w (set_up w) a d (set_up_counted w))) none.0 none.1
  right event s (Provides number x c psk g d ne open_is hx hc pair same is) n =
      let k = acts x (Ok tt) (λ m. meters.provision m g) in
      let none = depot_none c x psk in
      let both = none_twice (set_up w) 0 number d k (ap (λ (z : NodeStep _). z.frames) same ∙ none.0) (ap (λ (z : NodeStep _). z.made) same ∙ none.1)
      (acts_quiet x (Ok tt) (λ m. meters.provision m g) (λ m. install_quiet m.station g))
      (acts_untagged x (Ok tt) (λ m. meters.provision m g) (λ m. provision_untagged m g)).0 in
      let counted = after_counted ciphers w _ number k (after_counted ciphers w (set_up w) 0 d (set_up_counted w)) in
      let one = none_after (set_up w) 0 d (ap (λ (z : NodeStep _). z.frames) same ∙ none.0) (ap (λ (z : NodeStep _). z.made) same ∙ none.1) in
      record {
        adds = record {
          events = counted.events;
          sends = let e = counted.sends in omega arith;
          ups = let e = counted.ups in omega arith;
          forged = let e = counted.forged in omega arith;
          done = let e = counted.done in omega arith;
          first = ap (λ k. k + 1) one.0 ∙ omega arith;
          flights = both.0;
          made = both.1;
        };
        traced = record {
          sent = refl;
          send = tt;
          up = refl;
          up_at = tt;
          taken = refl;
          taken_at = tt;
          took = refl;
          done = refl;
          done_node = refl;
          issues = λ e. record { eui = x.eui; granted = g; keys = refl; depot = λ m same_event. (x, depot_at number m same_event hx, refl) };
          none_issued = λ e. absurd (cc);
        };
        forged = unforged (events.Depot number) false [] refl refl (unbrought (events.Depot number) (λ b. b));
      }
    where
      depot_at : (a b : ℕ) → events.Depot a ≡ events.Depot b → node_at w a ≡ Some x → node_at w b ≡ Some x
      depot_at a b e h = let same : a ≡ b = cc (e) in ap (node_at w) (sym same) ∙ h
  right event s (TurnsDown e number x octets reason d there says comes same is) n =
      let quiet : d.frames ≡ [] = ap (λ (z : NodeStep _). z.frames) same
      ∙ acts_quiet x (Err frames.Halted) _ (λ m. accept_quiet m.station _ _ (accept_is m.station x.eui (arrived ciphers octets))) in
      let bare : d.made ≡ [] = ap (λ (z : NodeStep _). z.made) same
      ∙ (acts_untagged x (Err frames.Halted) _ (λ m. accept_untagged m x.eui (arrived ciphers octets))).0 in
      let none = none_after (running_world w) number d quiet bare in
      still_right n event (world_after ciphers (running_world w) number d) (frame_word reason) (frame_plain reason) turned
      (after_counted ciphers w (running_world w) number d (ran_counted w)) none.0 none.1
    where
      not_ok : (r : FrameRefusal) (got : Accepted) → Err r ≡ Ok got → ⊥
      not_ok r got e = cc

      turned : NoneCame event
      turned own key a =
          let both = is_same w event a.number number own octets (comes_is w event a.number own a.comes) (comes_is w event number octets comes) in
          let node : a.node ≡ x = same_Some _ _ (sym a.there ∙ ap (node_at w) both.0 ∙ there) in
          let accepted : (accepting ciphers x octets).answer ≡ Ok a.got = (λ i. (accepting ciphers (sym node i) (sym both.1 i)).answer) ∙ a.is in
          not_ok reason a.got (sym is ∙ ap (λ (z : NodeStep _). z.answer) same ∙ accepted)
  right event s (Hears e number x octets cost got there says comes low is) n =
      let y = (accepting ciphers x octets).node in
      let d = hearing_step ciphers y got cost (note_by w octets got.path) w.clock in
      received_right n event number octets (forged_by w octets got.path || list_any (is_forged_tag w.made) d.opened) d comes
      (hears_fits ciphers y got cost (note_by w octets got.path) w.clock) (forged_right event number x octets got there comes is d.opened)
  right event s (Loses number f there) n =
      still_right n (events.Lose number) _ answers.Lost (refl, refl, refl, refl, refl) (unbrought (events.Lose number) (λ b. b))
      (record { events = refl; sends = refl; ups = refl; forged = refl; done = refl })
      (length-set w.flights (number - 1) (record f { lost = true }) ∙ omega arith) (sym (append-nil w.made))
  right event s (Ticks seconds) n =
      still_right n (events.Tick seconds) _ answers.Ticked (refl, refl, refl, refl, refl) (unbrought (events.Tick seconds) (λ b. b))
      (record { events = refl; sends = refl; ups = refl; forged = refl; done = refl }) (omega arith) (sym (append-nil w.made))
  right event s (Restarts number x there) n = acted_right n (events.Restart number) number (restarts x) (restart_plain (memory_of x.role x.store.records)) refl
      (unbrought (events.Restart number) (λ b. b))
  right event s (Cuts number nth keeps_new x there) n =
      acted_right n (events.Cut number nth keeps_new) number _ (refl, refl, refl, refl, refl) refl (unbrought (events.Cut number nth keeps_new) (λ b. b))
