-- Words that further reach does not use: nothing was handed up, reported, acknowledged, heard or begun, and no meter allowed.
use Rattle.std.proofs.Common.{◌≡◌, Bool, true, false, ℕ, List, Option, Some, None, Result, Ok, Err, refl, ap}
use Rattle.std.specs.Prelude.{if◌then◌else◌}
use Rattle.std.specs.Option.{option_map_or}
use Rattle.line_laws.proofs.ReachSteps.{is_idle}
use Rattle.line_laws.proofs.StepKinds.{IsWord, OfRandom, OfJoin, OfLeave, OfDraw, OfChallenge, OfTurn, OfOrder, OfKick}
use Rattle.line_laws.specs.AdmittedRight.{is_admitted}
use Rattle.line_laws.specs.ReachTraces.{as_bcast, is_acked, is_beaconed, is_bup, is_path, is_scanning, is_sent, sent_to_all}
use Rattle.line_rules.specs.Answers.{Reception, ask_word, broadcast_word, coordinator_reception, discovery_word, drop_word, frame_word, join_word, leave_word}
use Rattle.line_rules.specs.Answers.{meter_reception, order_word, ordered_word, random_word, reach_drop_word, send_word, sent_word, station_reception}
use Rattle.line_rules.specs.Further.{choice_word}
use Rattle.line_rules.specs.Forgery.{Comes, OfFlight, OfScript}
use Rattle.line_rules.specs.Worlds.{World}
use Rattle.reach_rules.specs.declared.refusal.ReachDropped.{ReachDropped}
use Rattle.reach_rules.specs.declared.refusal.ReachDropped.TheVariants as reach_drops
use Rattle.reach_rules.specs.declared.refusal.DiscoveryDropped.{DiscoveryDropped}
use Rattle.reach_rules.specs.declared.refusal.DiscoveryDropped.TheVariants as discovery_drops
use Rattle.line_rules.specs.Steps.{hearing_step, identity, restart_word}
use Rattle.line_events.specs.declared.event.Answer.TheVariants as answers
use Rattle.line_events.specs.declared.event.Answer.{Answer}
use Rattle.line_events.specs.declared.event.Event.{Event}
use Rattle.node_rules.specs.Calls as calls
use Rattle.node_rules.specs.Ciphers.{Ciphers}
use Rattle.node_rules.specs.Coordinators as coordinator_rules
use Rattle.node_rules.specs.Memory.{Coordinator, Memory, Meter, Node, Role}
use Rattle.node_rules.specs.MemoryDrafts.{with_station}
use Rattle.node_rules.specs.Meters as meters
use Rattle.node_rules.specs.NodeSteps.{NodeStep, acts, answering, changing, left_by, stays}
use Rattle.node_rules.specs.Plans.{carry_out, resting}
use Rattle.node_rules.specs.Accepted.{Accepted}
use Rattle.node_rules.specs.declared.heard.CoordinatorHeard.TheVariants as coordinator_heard
use Rattle.node_rules.specs.declared.heard.CoordinatorHeard.{CoordinatorHeard}
use Rattle.node_rules.specs.declared.heard.Heard.TheVariants as station_heard
use Rattle.node_rules.specs.declared.heard.Heard.{Heard}
use Rattle.node_rules.specs.declared.heard.MeterHeard.TheVariants as meter_heard
use Rattle.node_rules.specs.declared.heard.MeterHeard.{MeterHeard}
use Rattle.node_rules.specs.declared.heard.SentHow.TheVariants as how
use Rattle.node_rules.specs.declared.heard.SentHow.{SentHow}
use Rattle.node_rules.specs.declared.refusal.CoordinatorRefusal.TheVariants as orders
use Rattle.node_rules.specs.declared.refusal.CoordinatorRefusal.{CoordinatorRefusal}
use Rattle.node_rules.specs.declared.refusal.Dropped.TheVariants as drops
use Rattle.node_rules.specs.declared.refusal.Dropped.{Dropped}
use Rattle.node_rules.specs.declared.refusal.FrameRefusal.TheVariants as frames
use Rattle.node_rules.specs.declared.refusal.FrameRefusal.{FrameRefusal}
use Rattle.node_rules.specs.declared.refusal.JoinRefusal.TheVariants as joins
use Rattle.node_rules.specs.declared.refusal.JoinRefusal.{JoinRefusal}
use Rattle.node_rules.specs.declared.refusal.LeaveRefusal.TheVariants as leaves
use Rattle.node_rules.specs.declared.refusal.LeaveRefusal.{LeaveRefusal}
use Rattle.node_rules.specs.declared.refusal.RandomFault.TheVariants as randoms
use Rattle.node_rules.specs.declared.refusal.RandomFault.{RandomFault}
use Rattle.node_rules.specs.declared.refusal.SendRefusal.TheVariants as sends
use Rattle.node_rules.specs.declared.refusal.SendRefusal.{SendRefusal}
use Rattle.plc_base.specs.declared.keeper.BadStore.{BadStore}
use Rattle.reach_rules.specs.Beacons.{ChosenAgent}
use Rattle.reach_rules.specs.declared.refusal.AskRefusal.TheVariants as asks
use Rattle.reach_rules.specs.declared.refusal.AskRefusal.{AskRefusal}
use Rattle.reach_rules.specs.declared.refusal.BroadcastRefusal.TheVariants as broadcasts
use Rattle.reach_rules.specs.declared.refusal.BroadcastRefusal.{BroadcastRefusal}
use Rattle.reach_rules.specs.declared.refusal.ChooseRefusal.TheVariants as choices
use Rattle.reach_rules.specs.declared.refusal.ChooseRefusal.{ChooseRefusal}

-- whether a word is of a broadcast, a walk, a check, a scan or a beacon
abbrev pub is_new : Answer → Bool
is_new answers.Bup = true
is_new answers.Path = true
is_new answers.Acked = true
is_new answers.NotAwaited = true
is_new answers.Blacklisted = true
is_new answers.Scanning = true
is_new answers.Beaconed = true
is_new _ = false

abbrev pub NotNew : Answer → Type 0
NotNew a = is_new a ≡ false

-- whether it is one of these, or of a meter that is allowed
abbrev pub is_told : Answer → Bool
is_told answers.Allowed = true
is_told a = is_new a

abbrev pub Quiet : Answer → Type 0
Quiet a = is_told a ≡ false

pub not_new : (a : Answer) → Quiet a → NotNew a
not_new answers.Allowed e = refl
not_new answers.Bup e = e
not_new answers.Path e = e
not_new answers.Acked e = e
not_new answers.NotAwaited e = e
not_new answers.Blacklisted e = e
not_new answers.Scanning e = e
not_new answers.Beaconed e = e
not_new _ e = refl

-- no meter is allowed
pub not_admitted : (a : Answer) → Quiet a → is_admitted a ≡ false
not_admitted answers.Allowed e = absurd (cc (e))
not_admitted _ e = refl

-- no broadcast was handed up, no walk reported, no acknowledgement and no beacon taken, and no scan begun
abbrev pub Unreported : Answer → Type 0
Unreported a = (is_bup a ≡ false) × (is_path a ≡ false) × (is_acked a ≡ false) × (is_scanning a ≡ false) × (is_beaconed a ≡ false)

pub none_new : (a : Answer) → NotNew a → Unreported a
none_new answers.Bup e = absurd (cc (e))
none_new answers.Path e = absurd (cc (e))
none_new answers.Acked e = absurd (cc (e))
none_new answers.Scanning e = absurd (cc (e))
none_new answers.Beaconed e = absurd (cc (e))
none_new _ e = (refl, refl, refl, refl, refl)

pub unreported : (a : Answer) → Quiet a → Unreported a
unreported a q = none_new a (not_new a q)

pub send_quiet : (r : SendRefusal) → Quiet (send_word r)
send_quiet sends.Halted = refl
send_quiet sends.NotJoined = refl
send_quiet sends.BadSize = refl
send_quiet sends.ToSelf = refl
send_quiet sends.WaitingFull = refl
send_quiet sends.SeqSpent = refl
send_quiet sends.CounterSpent = refl
send_quiet sends.Store = refl

pub order_quiet : (r : CoordinatorRefusal) → Quiet (order_word r)
order_quiet orders.Halted = refl
order_quiet orders.MetersFull = refl
order_quiet orders.NotAllowed = refl
order_quiet orders.IndexActive = refl
order_quiet orders.NotHeld = refl
order_quiet orders.NotIssued = refl
order_quiet orders.SessionsFull = refl
order_quiet orders.NoRandom = refl
order_quiet orders.WaitingFull = refl
order_quiet orders.SeqSpent = refl
order_quiet orders.CounterSpent = refl
order_quiet orders.Store = refl

pub frame_quiet : (r : FrameRefusal) → Quiet (frame_word r)
frame_quiet frames.Halted = refl
frame_quiet frames.Malformed = refl
frame_quiet frames.NotForMe = refl
frame_quiet frames.NoKey = refl
frame_quiet frames.BadTag = refl
frame_quiet frames.Replayed = refl
frame_quiet frames.PeersFull = refl
frame_quiet frames.Store = refl

pub ordered_quiet : {A : Type 0} (word : Answer) → Quiet word → (r : Result A CoordinatorRefusal) → Quiet (ordered_word word r)
ordered_quiet word h (Ok a) = h
ordered_quiet word h (Err reason) = order_quiet reason

pub word_quiet : (A : Type 0) (reads : A → Answer) (event : Event) → IsWord A reads event → (a : A) → Quiet (reads a)
word_quiet A reads event (OfRandom number value) a = by_case a
  where
    by_case : (r : Result (Unit {0}) RandomFault) → Quiet (random_word r)
    by_case (Ok u) = refl
    by_case (Err randoms.Halted) = refl
    by_case (Err randoms.RandomsFull) = refl
word_quiet A reads event (OfJoin number agent) a = by_case a
  where
    by_case : (r : Result (Unit {0}) JoinRefusal) → Quiet (join_word r)
    by_case (Ok u) = refl
    by_case (Err joins.Halted) = refl
    by_case (Err joins.AlreadyJoined) = refl
word_quiet A reads event (OfLeave number) a = by_case a
  where
    by_case : (r : Result (Unit {0}) LeaveRefusal) → Quiet (leave_word r)
    by_case (Ok u) = refl
    by_case (Err leaves.Halted) = refl
    by_case (Err leaves.NotJoined) = refl
    by_case (Err leaves.Store) = refl
word_quiet A reads event (OfDraw B index key) a = ordered_quiet answers.Drawn refl a
word_quiet A reads event (OfChallenge B number) a = ordered_quiet answers.Challenged refl a
word_quiet A reads event (OfTurn B number index) a = ordered_quiet answers.Activated refl a
word_quiet A reads event (OfOrder B number index) a = ordered_quiet answers.Ordered refl a
word_quiet A reads event (OfKick B number) a = ordered_quiet answers.Kicked refl a

pub drop_quiet : (reason : Dropped) → Quiet (drop_word reason)
drop_quiet drops.BadUnit = refl
drop_quiet drops.NoRoute = refl
drop_quiet drops.HopsSpent = refl
drop_quiet drops.NotBetter = refl
drop_quiet drops.CostSpent = refl
drop_quiet drops.RoutesFull = refl
drop_quiet drops.NotAllowed = refl
drop_quiet drops.NoSession = refl
drop_quiet drops.SessionsFull = refl
drop_quiet drops.NoRandom = refl
drop_quiet drops.Form = refl
drop_quiet drops.OtherSession = refl
drop_quiet drops.BadMac = refl
drop_quiet drops.BadChannel = refl
drop_quiet drops.NoSuccess = refl
drop_quiet drops.NotHeld = refl
drop_quiet drops.BufferFull = refl
drop_quiet drops.SeqSpent = refl
drop_quiet drops.CounterSpent = refl
drop_quiet drops.Store = refl

pub ask_quiet : (r : Result (Unit {0}) AskRefusal) → Quiet (ask_word r)
ask_quiet (Ok u) = refl
ask_quiet (Err asks.Halted) = refl
ask_quiet (Err asks.NotJoined) = refl
ask_quiet (Err asks.ToSelf) = refl
ask_quiet (Err asks.NoRoute) = refl
ask_quiet (Err asks.CounterSpent) = refl
ask_quiet (Err asks.Store) = refl

pub choice_quiet : (r : Result ChosenAgent ChooseRefusal) → Quiet (choice_word r)
choice_quiet (Ok agent) = refl
choice_quiet (Err choices.Halted) = refl
choice_quiet (Err choices.AlreadyJoined) = refl
choice_quiet (Err choices.NoBeacon) = refl

pub sent_quiet : (r : Result SentHow SendRefusal) → Quiet (sent_word r)
sent_quiet (Ok how.Sent) = refl
sent_quiet (Ok how.Waiting) = refl
sent_quiet (Err reason) = send_quiet reason

pub broadcast_quiet : (r : Result (Unit {0}) BroadcastRefusal) → Quiet (broadcast_word r)
broadcast_quiet (Ok u) = refl
broadcast_quiet (Err broadcasts.Halted) = refl
broadcast_quiet (Err broadcasts.NotJoined) = refl
broadcast_quiet (Err broadcasts.BadSize) = refl
broadcast_quiet (Err broadcasts.NumberSpent) = refl
broadcast_quiet (Err broadcasts.CounterSpent) = refl
broadcast_quiet (Err broadcasts.Store) = refl

pub restart_quiet : (r : Result Memory BadStore) → Quiet (restart_word r)
restart_quiet (Ok m) = refl
restart_quiet (Err bad) = refl

pub breaks_quiet : (x : Node) (a : ℕ) → Quiet (acts x answers.Halted (λ m. changing answers.Broken (with_station (calls.broke a m.station) m))).answer
unfolding acts carry_out resting
breaks_quiet x a = by_memory x.memory
  where
    by_memory : (o : Option Memory) → Quiet (option_map_or (λ m. left_by x (carry_out x.store.records x.store.cut
        (changing answers.Broken (with_station (calls.broke a m.station) m)))) o (stays x answers.Halted)).answer
    by_memory None = refl
    by_memory (Some m) = refl

-- # What a node makes of a frame by its rule for other frames

station_quiet : (h : Heard) → Quiet (station_reception h).answer
station_quiet (station_heard.Up from note octets) = refl
station_quiet station_heard.Held = refl
station_quiet station_heard.Relayed = refl
station_quiet station_heard.Answered = refl
station_quiet station_heard.Learned = refl
station_quiet station_heard.Broken = refl
station_quiet station_heard.Reported = refl
station_quiet (station_heard.Joining way body) = refl
station_quiet (station_heard.Local from all code body) = refl

meter_quiet : (r : Result MeterHeard Dropped) → Quiet (meter_reception r).answer
meter_quiet (Ok (meter_heard.Station h)) = station_quiet h
meter_quiet (Ok meter_heard.Carried) = refl
meter_quiet (Ok meter_heard.Replied) = refl
meter_quiet (Ok (meter_heard.Took agreed)) = refl
meter_quiet (Ok meter_heard.Noted) = refl
meter_quiet (Ok meter_heard.Declined) = refl
meter_quiet (Ok meter_heard.Left) = refl
meter_quiet (Ok meter_heard.Activated) = refl
meter_quiet (Err reason) = drop_quiet reason

coordinator_quiet : (r : Result CoordinatorHeard Dropped) → Quiet (coordinator_reception r).answer
coordinator_quiet (Ok (coordinator_heard.Station h)) = station_quiet h
coordinator_quiet (Ok coordinator_heard.Challenged) = refl
coordinator_quiet (Ok (coordinator_heard.Keyed eui granted)) = refl
coordinator_quiet (Ok (coordinator_heard.Done eui agreed)) = refl
coordinator_quiet (Ok coordinator_heard.Declined) = refl
coordinator_quiet (Err reason) = drop_quiet reason

pub hears_quiet : (ciphers : Ciphers) (x : Node) (got : Accepted) (cost note now : ℕ) → Quiet (hearing_step ciphers x got cost note now).answer.answer
hears_quiet ciphers x got cost note now = by_role x.role
  where
    hears_as : Role → NodeStep Reception
    hears_as Coordinator = answering coordinator_reception
        (acts x (Err drops.Store) (λ m. coordinator_rules.hear_coordinator (record { eui = x.eui; ciphers = ciphers }) m got cost note now))
    hears_as (Meter psk) = answering meter_reception (acts x (Err drops.Store) (λ m. meters.hear_meter (identity ciphers x psk) m got cost note now))

    by_role : (role : Role) → Quiet (hears_as role).answer.answer
    by_role Coordinator = coordinator_quiet
        (acts x (Err drops.Store) (λ m. coordinator_rules.hear_coordinator (record { eui = x.eui; ciphers = ciphers }) m got cost note now)).answer
    by_role (Meter psk) = meter_quiet (acts x (Err drops.Store) (λ m. meters.hear_meter (identity ciphers x psk) m got cost note now)).answer

pub reach_unreported : (r : ReachDropped) → Unreported (reach_drop_word r)
reach_unreported (reach_drops.Known reason) = unreported (drop_word reason) (drop_quiet reason)
reach_unreported reach_drops.Blacklisted = (refl, refl, refl, refl, refl)
reach_unreported reach_drops.NotAwaited = (refl, refl, refl, refl, refl)
reach_unreported reach_drops.Old = (refl, refl, refl, refl, refl)
reach_unreported reach_drops.OriginsFull = (refl, refl, refl, refl, refl)
reach_unreported reach_drops.Revisited = (refl, refl, refl, refl, refl)
reach_unreported reach_drops.PathLong = (refl, refl, refl, refl, refl)

pub lost_quiet : (r : DiscoveryDropped) → Quiet (discovery_word (Err r))
lost_quiet discovery_drops.Halted = refl
lost_quiet discovery_drops.Malformed = refl
lost_quiet discovery_drops.NotForMe = refl
lost_quiet discovery_drops.NotScanning = refl
lost_quiet discovery_drops.NoRoute = refl

-- # Words that send nothing to all

abbrev pub IsUnsent : Event → Answer → Type 0
IsUnsent event a = sent_to_all event a ≡ None

pub unsent_event : (event : Event) (a : Answer) → as_bcast event ≡ None → IsUnsent event a
unsent_event event a none = by_test (is_sent a)
  where
    by_test : (t : Bool) → (if t then as_bcast event else None) ≡ None
    by_test true = none
    by_test false = refl

pub unsent_answer : (event : Event) (a : Answer) → is_sent a ≡ false → IsUnsent event a
unsent_answer event a none = ap (λ t. if t then as_bcast event else None) none

pub unsent_word : (A : Type 0) (reads : A → Answer) (event : Event) → IsWord A reads event → as_bcast event ≡ None
unsent_word A reads event (OfRandom number value) = refl
unsent_word A reads event (OfJoin number agent) = refl
unsent_word A reads event (OfLeave number) = refl
unsent_word A reads event (OfDraw B index key) = refl
unsent_word A reads event (OfChallenge B number) = refl
unsent_word A reads event (OfTurn B number index) = refl
unsent_word A reads event (OfOrder B number index) = refl
unsent_word A reads event (OfKick B number) = refl

pub unsent_octets : {w : World} {event : Event} {number : ℕ} {octets : List ℕ} → Comes w event number octets → as_bcast event ≡ None
unsent_octets (OfFlight flight number cost f e) = refl
unsent_octets (OfScript number cost octets) = refl

-- a node that does nothing
pub idle_quiet : (a : Answer) → is_idle a ≡ true → Quiet a × (is_sent a ≡ false)
idle_quiet answers.Halted e = (refl, refl)
idle_quiet answers.NoAddress e = (refl, refl)
idle_quiet answers.NoBeacon e = (refl, refl)
idle_quiet _ e = absurd (cc (e))
