-- What holds of a line of nodes holds after every event of a line with further reach, and no more than 24 frames are sent.
use Rattle.std.proofs.Common.{⊎_elim, zero-le, inr, ◌≡◌, ℕ, ◌+◌, ◌≤◌, ◌<◌, Bool, true, false, List, [], ◌∷◌, ◌++◌, length, Option, Some}
use Rattle.std.proofs.Common.{None, Result, Ok, Err, refl, sym, ap, ◌∙◌, subst, arith}
use Rattle.std.specs.Prelude.{if◌then◌else◌, All, IfSome, IsSome, is_some, ◌==◌, nat_lt, map}
use Rattle.std.specs.Option.{option_map_or}
use Rattle.std.proofs.lemmas.Bool.{ltb-false}
use Rattle.std.proofs.lemmas.List.{append_assoc, length-append}
use Rattle.std.proofs.lemmas.List.Elements.{All-cons, All-head, All-nil, All-tail}
use Rattle.plc_base.specs.declared.tags.PairTag.{PairTag}
use Rattle.store_tables.proofs.SlotTables.{slice_get-set}
use Rattle.store_tables.proofs.MarkEntries.{keep_write-within, room_has}
use Rattle.plc_base.proofs.Faults.{then_none}
use Rattle.plc_base.specs.declared.keeper.BadStore.{BadStore}
use Rattle.plc_base.specs.declared.key.Key.{Key}
use Rattle.plc_base.specs.Keeper.{Write}
use Rattle.store_tables.specs.Writes.{puts_of}
use Rattle.broadcast_log.specs.declared.fault.LogFault.{LogFault}
use Rattle.broadcast_log.specs.declared.fault.LogFault.TheVariants as log_faults
use Rattle.broadcast_log.specs.Laws.{IsLogIn}
use Rattle.broadcast_log.specs.Log.{Log}
use Rattle.broadcast_log.specs.OriginMarks.{keep_write, room_for}
use Rattle.broadcast_log.proofs.ReopenedLogs.{reopens}
use Rattle.mesh_header.specs.declared.unit.Unit.{Unit as MeshUnit}
use Rattle.mesh_header.specs.declared.unit.Unit.TheVariants as units
use Rattle.mesh_header.specs.Reader.{unit_in}
use Rattle.loadng_messages.specs.declared.message.Message.{Message}
use Rattle.loadng_messages.specs.declared.message.Message.TheVariants.{Rreq, Rrep, Rerr}
use Rattle.neighbour_checks.specs.Acks.{ack_spelling}
use Rattle.node_rules.specs.Accepted.{Accepted}
use Rattle.node_rules.specs.declared.heard.Path.{Path}
use Rattle.node_rules.specs.declared.heard.Path.TheVariants as paths
use Rattle.node_rules.specs.declared.heard.Heard.TheVariants as heard_words
use Rattle.node_rules.specs.declared.heard.Reply.{Reply}
use Rattle.node_rules.specs.declared.refusal.Dropped.TheVariants as drops
use Rattle.node_rules.specs.declared.refusal.FrameRefusal.{FrameRefusal}
use Rattle.node_rules.specs.declared.refusal.FrameRefusal.TheVariants as frames
use Rattle.node_rules.specs.declared.refusal.LocalRefusal.{LocalRefusal}
use Rattle.node_rules.specs.declared.refusal.LocalRefusal.TheVariants as locals
use Rattle.node_rules.specs.Acceptance.{accept}
use Rattle.node_rules.specs.Ciphers.{Ciphers}
use Rattle.node_rules.specs.Coordinators as coordinator_rules
use Rattle.node_rules.specs.Meters as meters
use Rattle.node_rules.specs.Drafts.{alone, choose as choose_plan, counters_left, empty_draft, goes, refused, sealed, sealing}
use Rattle.node_rules.specs.Frames.{arrived}
use Rattle.node_rules.specs.HearingRules.{Hearing, hear, hear_sealed, drop_it, hear_unit_in}
use Rattle.node_rules.specs.Memory.{StationMemory, Memory, Node, Role, Coordinator, Meter, address_of, node_address}
use Rattle.node_rules.specs.MemoryDrafts.{in_memory, unread, with_station}
use Rattle.node_rules.specs.Neighbours.{local_draft, local_ends}
use Rattle.node_rules.specs.NodeSteps.{NodeStep, acts, answering, left_by, of_station, stays}
use Rattle.node_rules.specs.Plans.{Plan, carry_out, resting, within}
use Rattle.node_rules.specs.Replies.{reply_among}
use Rattle.node_rules.proofs.ReplyFrames.{coordinators_replies_few, meters_replies_few}
use Rattle.reach_rules.specs.declared.refusal.ReachDropped.TheVariants as reach_drops
use Rattle.reach_rules.specs.declared.refusal.BroadcastRefusal.TheVariants as broadcasts
use Rattle.reach_rules.specs.declared.refusal.AskRefusal.TheVariants as asks
use Rattle.reach_rules.specs.declared.refusal.ChooseRefusal.TheVariants as choices
use Rattle.reach_rules.specs.declared.refusal.ChooseRefusal.{ChooseRefusal}
use Rattle.pan_discovery.specs.Agents.{kth_of}
use Rattle.reach_rules.specs.Beacons.{ChosenAgent, begin_scan, choose_agent, choosing_ends, hear_discovery, is_discovery, joins_by}
use Rattle.reach_rules.specs.Broadcasts.{broadcast, broadcast_fault, mark_fault}
use Rattle.reach_rules.specs.CheckedReplies.{acknowledges, message_of}
use Rattle.reach_rules.specs.PathRequests.{ask_path}
use Rattle.reach_rules.specs.ReachingNodes.{Beside, restarted, restarted_by, tick_beside}
use Rattle.reach_rules.specs.FurtherReceptions.{NeighbourCommand, command_of, command_on, command_with, hear_command as hear_neighbours}
use Rattle.line_events.specs.declared.event.Answer.{Answer}
use Rattle.line_events.specs.declared.event.Answer.TheVariants as answers
use Rattle.line_events.specs.declared.event.Event.{Event}
use Rattle.line_events.specs.declared.event.Event.TheVariants as events
use Rattle.line_events.specs.declared.event.StepFault.TheVariants as faults
use Rattle.line_rules.specs.Answers.{Reception, coordinator_reception, frame_word, meter_reception, only}
use Rattle.line_events.specs.Events.{IsEvent}
use Rattle.line_rules.specs.Further.{line_step, checks, bcast, broadcasts_by, path, asks_by, scan, scans_by, choose, chooses_by, discovers_by}
use Rattle.line_rules.specs.Further.{discovery_flights, commanded, checked, acknowledged_if, acknowledged, acknowledging, adds_frames, sends_nothing}
use Rattle.line_rules.specs.Further.{unbelieved, hearing_outcome_by, further_hearing_outcome, is_dropped, accepted_further, comes, delivers, injects, ticks}
use Rattle.line_rules.specs.Further.{after_ok, due}
use Rattle.line_rules.specs.Further.{with_check, restarts_by, restarts_further, beside_at, reaches, with_beside, of_memory}
use Rattle.line_rules.specs.Logs.{LogIn, LogsKept}
use Rattle.line_rules.specs.Steps.{Step, set_up, running_world, world_after, flights_of, happenings, trace_of, once_begun}
use Rattle.line_rules.specs.Steps.{on_node}
use Rattle.line_rules.specs.Steps.{on_meter}
use Rattle.line_rules.specs.Steps.{psk_of, identity, hearing_step, hearing_outcome, forged_by, note_by, restarts, tick}
use Rattle.line_rules.specs.Worlds.{World, Flight, Trace, node_at, flight_at}
use Rattle.line_rules.proofs.LogSteps.{logged_at}
use Rattle.line_laws.specs.FurtherLines.{LineHolds, LineStepsHold, LogFits, LogsFit, StepHolds, TablesAreShort}
use Rattle.line_laws.specs.Later.{IsOfLog}
use Rattle.line_laws.specs.Keyed.{Each}
use Rattle.line_laws.specs.Lines.{FlightFits, IsBelow, NodeOk, WorldOk, frontier}
use Rattle.line_laws.specs.Live.{marks_of}
use Rattle.line_laws.specs.Owed.{AreOctets, KeepsRanges}
use Rattle.line_laws.specs.Sizes.{IsMemorySized}
use Rattle.line_laws.proofs.Answered.{acts_answered}
use Rattle.line_laws.proofs.CoordinatorCalls.{accept_failed, accept_ok, accepted_routes}
use Rattle.line_laws.proofs.Frontiers.{numbered_le, numbered_lower, same_low}
use Rattle.line_laws.proofs.FurtherForms.{AnyUnits, IsFurther, Goes, Rests, further_ok}
use Rattle.line_laws.proofs.FurtherLines.{calls_keep, commands_keep, discovery_keeps}
use Rattle.line_laws.proofs.MarkOrder.{raised_same, raised_trans}
use Rattle.line_laws.proofs.NodeCalls.{RoutesFit, join_ok}
use Rattle.line_laws.proofs.Nodes.{DidOk, PlanOk, acts_ok, node_kept, ring_readable, sealed_few}
use Rattle.node_rules.proofs.FailedWrites.{clean}
use Rattle.node_rules.specs.Laws.{IsCutOff, IsWhole}
use Rattle.line_laws.proofs.Quiet.{acts_quiet, accept_quiet}
use Rattle.line_laws.proofs.NodesOk as steps_below
use Rattle.line_laws.proofs.StepsOk as steps
use Rattle.line_laws.proofs.StepsOk.{StepGood, Fails, Taken, hears_ok, none_more, after_more, after_none}
use Rattle.line_laws.proofs.NodesOk.{resting_ok, true_false}
use Rattle.line_laws.proofs.StoreMarks.{accept_is}
use Rattle.line_laws.proofs.Worlds.{at_place, counts_ok, ok_after, within as place_within}

-- # What a log gives

fault_room : (r : Result (Unit {0}) LogFault) → mark_fault r ≡ None → r ≡ Ok (tt {0})
fault_room (Ok u) is = refl
fault_room (Err log_faults.NumberSpent) is = absurd (cc (is))
fault_room (Err log_faults.Store) is = absurd (cc (is))
fault_room (Err log_faults.Old) is = absurd (cc (is))
fault_room (Err log_faults.OriginsFull) is = absurd (cc (is))

pub logs_fit : LogsFit
unfolding broadcast_fault
logs_fit b records h own c e =
    let room : room_for b.log.marks c.origin c.number ≡ Ok (tt {0}) = fault_room _ (then_none _ _ e).1 in
    by_write (keep_write b.log.marks c.origin c.number)
    (keep_write-within 0x0300 32 b.log.marks c.origin c.number h.sound
    (room_has 0x0300 32 log_faults.Old log_faults.OriginsFull b.log.marks c.origin c.number h.sound.short room))
  where
    by_write : (o : Option Write) → IfSome o (λ w. (0x0300 ≤ w.slot) × (w.slot ≤ 0x031F)) → Each IsOfLog (puts_of o)
    by_write None k = tt
    by_write (Some w) k = (inr (k.0, omega (arith, k.1)), tt)

pub tables_short : TablesAreShort
tables_short w ok number x m there here =
    let k = node_kept x m (at_place NodeOk w.nodes number x there ok.nodes) here in
    record { marks = let s = k.station.marks.short in omega arith; ranks = let s = k.station.routing.ranks.short in omega arith }

-- # One node after itself

pub did_on : {A B : Type 0} (x : Node) (d : NodeStep A) (e : NodeStep B) → DidOk x d → DidOk d.node e → DidOk x e
did_on x d e one two = record {
  node = two.node;
  role = two.role ∙ one.role;
  eui = two.eui ∙ one.eui;
  few = two.few;
  rises = numbered_lower (frontier x) (frontier d.node) (frontier e.node) e.frames (numbered_le (frontier x) (frontier d.node) d.frames one.rises) two.rises;
  from = two.from;
  marked = raised_trans (marks_of x) (marks_of d.node) (marks_of e.node) one.marked two.marked;
}

pub rests_ok : {A : Type 0} (x : Node) (answer : A) → NodeOk x → DidOk x (stays x answer)
rests_ok x answer ok = record { node = ok; role = refl; eui = refl; few = zero-le; rises = same_low (frontier x); from = tt; marked = raised_same (marks_of x) }

-- an acknowledgement is a further plan of one unit
pub ack_is : (m : Memory) (reply : Reply) → IsFurther AnyUnits m (acknowledges in_memory reply.to reply.number reply.origin m)
unfolding sealed resting goes empty_draft
ack_is m reply = by_left (nat_lt (counters_left m.station) 1) refl
  where
    by_left : (b : Bool) → nat_lt (counters_left m.station) 1 ≡ b
        → IsFurther AnyUnits m (within (λ l. with_station l m) (λ a. a)
        (if b then refused local_ends m.station local_ends.spent
        else sealing alone local_ends (local_draft m.station 3 (Some reply.to) (ack_spelling reply.number reply.origin)) (tt {0})))
    by_left true e = Rests (Err locals.CounterSpent) (Err locals.Store)
    by_left false e = Goes (Ok (tt {0})) (Err locals.Store) []
        (record { to = reply.to; unit = units.Local 3 (ack_spelling reply.number reply.origin); note = 0 } ∷ []) tt tt (omega arith) (ltb-false _ _ e)

-- what a node sends is no more than its plan has
acts_little : {A : Type 0} (x : Node) (halted : A) (plan : Memory → Plan Memory A) (most : ℕ)
    → ((m : Memory) → x.memory ≡ Some m → length (plan m).frames ≤ most) → length (acts x halted plan).frames ≤ most
unfolding acts
acts_little {A} x halted plan most few = by_memory x.memory refl
  where
    by_outcome : (m : Memory) → length (plan m).frames ≤ most → length (carry_out x.store.records x.store.cut (plan m)).frames ≤ most
    by_outcome m f = ⊎_elim (λ (w : IsWhole x.store.records x.store.cut (plan m) (carry_out x.store.records x.store.cut (plan m))). subst
        (λ fs. length fs ≤ most) (sym w.frames) f)
        (λ (c : IsCutOff x.store.records x.store.cut (plan m) (carry_out x.store.records x.store.cut (plan m))). subst (λ fs. length fs ≤ most) (sym c.frames)
        zero-le) (clean x.store.records x.store.cut (plan m))

    by_memory : (o : Option Memory) → x.memory ≡ o
        → length (option_map_or (λ m. left_by x (carry_out x.store.records x.store.cut (plan m))) o (stays x halted)).frames ≤ most
    by_memory None e = zero-le
    by_memory (Some m) e = by_outcome m (few m e)

planned_few : (m : Memory) (p : Plan Memory (Result (Unit {0}) LocalRefusal)) → IsFurther AnyUnits m p → length p.frames ≤ 1
unfolding resting
planned_few m p (Rests answer failed) = zero-le
planned_few m p (Goes answer failed ps us logs says few left) = let short = sealed_few m.station.ring m.station.counter.next us in omega arith

-- an acknowledgement sends one frame at most
ack_few : (x : Node) (reply : Reply) → length (acknowledging x reply).frames ≤ 1
ack_few x reply =
    acts_little x (Err locals.Store) (λ m. acknowledges in_memory reply.to reply.number reply.origin m) 1 (λ m e. planned_few m _ (ack_is m reply))

node_sized : (x : Node) (m : Memory) → NodeOk x → x.memory ≡ Some m → IsMemorySized m
node_sized x m ok here = subst (λ o. IfSome o IsMemorySized) here ok.sized

pub ack_did : (x : Node) (reply : Reply) → NodeOk x → DidOk x (acknowledging x reply)
ack_did x reply ok = acts_ok x (Err locals.Store) (λ m. acknowledges in_memory reply.to reply.number reply.origin m) ok
    (λ m here kept sized. further_ok AnyUnits x.role m sized _ (ack_is m reply))

-- a choice is a joining, or nothing
pub choice_ok : (role : Role) (m : Memory) (sized : IsMemorySized m) (ciphers : Ciphers) (fits : KeepsRanges ciphers) (own : meters.Identity)
    (same : own.ciphers ≡ ciphers) (b : Beside) (k now : ℕ) → PlanOk role m (with_beside b (λ y. choose_agent own y k now) m)
unfolding choose_plan resting
choice_ok role m sized ciphers fits own same b k now = by_joined (meters.is_joined m)
  where
    none_ok : (reason : ChooseRefusal) → PlanOk role m (of_memory (refused {H = ChosenAgent} choosing_ends (record { memory = m; beside = b }) reason))
    none_ok reason = resting_ok role m sized (Err reason) (Err choices.Halted)

    by_agent : (o : Option (ℕ × ℕ)) → PlanOk role m (of_memory (joins_by own (record { memory = m; beside = b }) now o))
    by_agent None = none_ok choices.NoBeacon
    by_agent (Some (address, total)) =
        let j = join_ok role m sized ciphers fits own same address now in
        record {
          leads = j.leads;
          sized = j.sized;
          few = j.few;
          rises = λ f. let r = j.rises f in record { high = r.high; with_own_number = r.with_own_number };
          from = j.from;
          marked = j.marked;
        }

    by_joined : (t : Bool) → PlanOk role m (of_memory (if t then refused choosing_ends (record { memory = m; beside = b }) choices.AlreadyJoined
        else joins_by own (record { memory = m; beside = b }) now (kth_of b.scan.agents k)))
    by_joined true = none_ok choices.AlreadyJoined
    by_joined false = by_agent (kth_of b.scan.agents k)

-- # What nodes without further reach make of a command: nothing

pub hears_nothing : (l : StationMemory) (got : Accepted) (cost note now : ℕ) (c : NeighbourCommand) → command_of got ≡ Some c
    → ((hear l got cost note now).frames ≡ []) × (unread (hear l got cost note now).answer ≡ None) × ((hear l got cost note now).memory ≡ l)
unfolding resting choose_plan
hears_nothing l got cost note now c e = by_path got.path (unit_in got.payload) e
  where
    Nothing : Hearing → Type 0
    Nothing p = (p.frames ≡ []) × (unread p.answer ≡ None) × (p.memory ≡ l)

    by_code : (own from : ℕ) (all : Bool) (code : ℕ) (body : List ℕ) (s t : Bool) (m p : Hearing)
        → (if s then None else (if t then None else Some (record { from = from; to_all = all; code = code; body = body }))) ≡ Some c
        → Nothing (if s then m else (if t then p else resting l (Ok (heard_words.Local from all code body)) (Err drops.Store)))
    by_code own from all code body true t m p is = absurd (cc (is))
    by_code own from all code body false true m p is = absurd (cc (is))
    by_code own from all code body false false m p is = (refl, refl, refl)

    by_address : (o : Option ℕ) (from : ℕ) (all : Bool) (unit : MeshUnit) → command_with from all (Some unit) ≡ Some c
        → Nothing (option_map_or (λ a. hear_sealed l a from all unit cost note now) o (drop_it l drops.BadUnit))
    by_address None from all unit is = (refl, refl, refl)
    by_address (Some own) from all (units.Local code body) is = by_code own from all code body (code == 1) (code == 2) _ _ is
    by_address (Some own) from all (units.Whole mesh octets) is = absurd (cc (is))
    by_address (Some own) from all (units.Part mesh piece) is = absurd (cc (is))
    by_address (Some own) from all (units.Carried mesh body) is = absurd (cc (is))

    by_path : (p : Path) (o : Option MeshUnit) → command_on p o ≡ Some c → Nothing (hear_unit_in l p o cost note now)
    by_path p None is = (refl, refl, refl)
    by_path (paths.Sealed from all key) (Some unit) is = by_address (address_of l) from all unit is
    by_path (paths.Up from) (Some unit) is = absurd (cc (is))
    by_path (paths.Down from) (Some unit) is = absurd (cc (is))

-- what a node hears of a command, and how much of a reply
module _ (ciphers : Ciphers) (x : Node) (got : Accepted) (cost note now : ℕ) where
  abbrev hears_as : Role → NodeStep Reception
  hears_as Coordinator = answering coordinator_reception
      (acts x (Err drops.Store) (λ m. coordinator_rules.hear_coordinator (record { eui = x.eui; ciphers = ciphers }) m got cost note now))
  hears_as (Meter psk) = answering meter_reception (acts x (Err drops.Store) (λ m. meters.hear_meter (identity ciphers x psk) m got cost note now))

  pub command_silent : (c : NeighbourCommand) → command_of got ≡ Some c → (r : Role) → (hears_as r).frames ≡ []
  command_silent c e Coordinator =
      acts_quiet x (Err drops.Store) (λ m. coordinator_rules.hear_coordinator (record { eui = x.eui; ciphers = ciphers }) m got cost note now)
      (λ m. let n = hears_nothing m.station got cost note now c e in
      subst (λ o. (coordinator_rules.heard_by (record { eui = x.eui; ciphers = ciphers }) m now (hear m.station got cost note now) o).frames ≡ []) (sym n.1)
      n.0)
  command_silent c e (Meter psk) = acts_quiet x (Err drops.Store) (λ m. meters.hear_meter (identity ciphers x psk) m got cost note now)
      (λ m. let n = hears_nothing m.station got cost note now c e in
      subst (λ o. (meters.heard_by (identity ciphers x psk) m now (hear m.station got cost note now) o).frames ≡ []) (sym n.1) n.0)

  reply_few : NodeOk x → (from : ℕ) (all : Bool) (key : Key) (number c origin to : ℕ) → got.path ≡ paths.Sealed from all key
      → message_of got ≡ Some (Rrep number c origin to) → (r : Role) → length (hears_as r).frames ≤ 22
  reply_few ok from all key number c origin to way e Coordinator =
      acts_little x (Err drops.Store) (λ m. coordinator_rules.hear_coordinator (record { eui = x.eui; ciphers = ciphers }) m got cost note now) 22
      (λ m here. coordinators_replies_few (record { eui = x.eui; ciphers = ciphers }) m got cost note now from all key number c origin to
      (node_sized x m ok here).station.waiting way e)
  reply_few ok from all key number c origin to way e (Meter psk) =
      acts_little x (Err drops.Store) (λ m. meters.hear_meter (identity ciphers x psk) m got cost note now) 22
      (λ m here. meters_replies_few (identity ciphers x psk) m got cost note now from all key number c origin to (node_sized x m ok here).station.waiting way e)

-- a node that is not halted was not halted before
pub acts_down : {A : Type 0} (x : Node) (halted : A) (plan : Memory → Plan Memory A) (m : Memory) → (acts x halted plan).node.memory ≡ Some m → IsSome x.memory
unfolding acts
acts_down x halted plan m e = by_memory x.memory refl e
  where
    by_memory : (o : Option Memory) → x.memory ≡ o
        → (option_map_or (λ n. left_by x (carry_out x.store.records x.store.cut (plan n))) o (stays x halted)).node.memory ≡ Some m → IsSome o
    by_memory None is k = absurd (cc (is, k))
    by_memory (Some n) is k = refl

pub hears_down : (ciphers : Ciphers) (x : Node) (got : Accepted) (cost note now : ℕ) (m : Memory) (r : Role)
    → (hears_as ciphers x got cost note now r).node.memory ≡ Some m → IsSome x.memory
hears_down ciphers x got cost note now m Coordinator e =
    acts_down x (Err drops.Store) (λ n. coordinator_rules.hear_coordinator (record { eui = x.eui; ciphers = ciphers }) n got cost note now) m e
hears_down ciphers x got cost note now m (Meter psk) e = acts_down x (Err drops.Store) (λ n. meters.hear_meter (identity ciphers x psk) n got cost note now) m e

-- the flights that were there stay
all_front : {A : Type 0} (P : A → Type 0) (xs ys : List A) → All P (xs ++ ys) → All P xs
all_front P [] ys h = All-nil P
all_front P (x ∷ xs) ys h = All-cons P x xs (All-head P x (xs ++ ys) h) (all_front P xs ys (All-tail P x (xs ++ ys) h))

unsent_ok : (w v : World) → WorldOk w → WorldOk v → (rest : List Flight) → v.flights ≡ w.flights ++ rest → v.running ≡ true
    → (made : List PairTag) (bs : List Beside) → WorldOk (record v { flights = w.flights; made = made; beside = bs })
unsent_ok w v ok good rest e runs made bs = record {
  nodes = good.nodes;
  fits = good.fits;
  first = good.first;
  count = good.count;
  rising = record {
    below = λ n y here. all_front (IsBelow n (frontier y)) w.flights rest (subst (All (IsBelow n (frontier y))) e (good.rising.below n y here));
    pairs = ok.rising.pairs;
    homes = all_front (λ (f : Flight). f.from < length v.nodes) w.flights rest (subst (All (λ (f : Flight). f.from < length v.nodes)) e good.rising.homes);
  };
  quiet = λ still. absurd (true_false (sym runs ∙ still));
}

-- the store of a node gives a log
pub restarts_read : (ciphers : Ciphers) (w : World) → LogsKept w → (number : ℕ) (x : Node) → node_at w number ≡ Some x → (bad : BadStore)
    → restarted x.store.records ≡ Err bad → ⊥
restarts_read ciphers w logs number x there bad e = by_memory x.memory (logged_at w.beside w.nodes number x logs there)
  where
    is_read : (log : Log) → IsLogIn log x.store.records → ⊥
    is_read log h = cc (e, ap restarted_by (reopens log x.store.records h))

    by_memory : (o : Option Memory) → LogIn (beside_at w number).log x.store.records o → ⊥
    by_memory None h = is_read h.value h.kept
    by_memory (Some m) h = is_read _ h

-- # Events

module _ (ciphers : Ciphers) (fits : KeepsRanges ciphers) (w : World) (ok : WorldOk w) (flown : All FlightFits w.flights) (logs : LogsKept w) where
  once : (s : Step) → StepGood w s → StepGood w (once_begun w s)
  once s h = steps.once ciphers fits w ok flown s h

  at_node : (number : ℕ) (f : Node → Step) → ((x : Node) → node_at w number ≡ Some x → StepGood w (f x)) → StepGood w (on_node w number f)
  at_node number f h = steps.at_node ciphers fits w ok flown number f h

  at_meter : (number : ℕ) (f : Node → Step) → ((x : Node) → node_at w number ≡ Some x → StepGood w (f x)) → StepGood w (on_meter w number f)
  at_meter number f h = steps.at_meter ciphers fits w ok flown number f h

  ran_ok : WorldOk (running_world w)
  ran_ok = steps.ran_ok ciphers fits w ok flown

  node_ok : (number : ℕ) (x : Node) → node_at w number ≡ Some x → NodeOk x
  node_ok number x there = steps.node_ok ciphers fits w ok flown number x there

  -- nothing is done but that other things stand beside
  aside : (v : World) (t : Trace) (bs : List Beside) → StepGood w (Ok (v, t)) → StepGood w (Ok (record v { beside = bs }, t))
  aside v t bs (Taken r good few world_after) = Taken _ (counts_ok v (record v { beside = bs }) good refl refl (λ e. e)) few world_after

  checks_good : StepGood w (checks w)
  unfolding checks
  checks_good = steps.setup ciphers fits w ok flown _ (steps.branch ciphers fits w ok flown w.checks_on (Err faults.Setup)
      (Ok (record (set_up w) { checks_on = true }, trace_of (happenings w answers.Set))) (λ _. Fails faults.Setup)
      (λ _. Taken _ (counts_ok w (record (set_up w) { checks_on = true }) ok refl refl (λ e. e)) zero-le
      (none_more w (record (set_up w) { checks_on = true }) refl)))

  bcast_good : (number : ℕ) (datagram : List ℕ) → StepGood w (bcast ciphers w number datagram)
  unfolding bcast
  bcast_good number datagram = once _ (at_node number _ (λ x there.
      let h = (calls_keep ciphers fits w ok number x there).0 datagram in
      Taken (broadcasts_by ciphers w number x datagram) h.0 h.1
      (after_more ciphers (running_world w) number (reaches x (beside_at w number) (Err broadcasts.Halted) (λ y. broadcast in_memory y datagram)))))

  asks_good : (number : ℕ) (x : Node) → node_at w number ≡ Some x → (target : Option ℕ) → StepGood w (Ok (asks_by ciphers w number x target))
  asks_good number x there None = Taken _ ran_ok zero-le (none_more w (running_world w) refl)
  asks_good number x there (Some target) =
      let h = (calls_keep ciphers fits w ok number x there).1 (Some target) in
      Taken (asks_by ciphers w number x (Some target)) h.0 h.1
      (after_more ciphers (running_world w) number (reaches x (beside_at w number) (Err asks.Halted) (λ y. ask_path in_memory y target)))

  path_good : (from to : ℕ) → StepGood w (path ciphers w from to)
  unfolding path
  path_good from to = once _ (at_node from _ (λ x there. at_node to _ (λ y other. asks_good from x there (node_address y))))

  scans_good : (number : ℕ) (x : Node) → node_at w number ≡ Some x → StepGood w (Ok (scans_by w number x.memory))
  scans_good number x there = by_memory x.memory (discovery_keeps w ok number x there).0
    where
      by_memory : (o : Option Memory) → LineHolds (scans_by w number o) → StepGood w (Ok (scans_by w number o))
      by_memory None h = Taken _ h.0 h.1 (none_more w (running_world w) refl)
      by_memory (Some m) h = Taken _ h.0 h.1 (length-append w.flights (discovery_flights number (begin_scan m (beside_at w number).scan).sent))

  scan_good : (number : ℕ) → StepGood w (scan w number)
  unfolding scan
  scan_good number = once _ (at_meter number _ (λ x there. scans_good number x there))

  discovers_good : (number : ℕ) (x : Node) → node_at w number ≡ Some x → (octets : List ℕ) (link : ℕ)
      → StepGood w (Ok (discovers_by w number x octets link x.memory))
  discovers_good number x there octets link = by_memory x.memory ((discovery_keeps w ok number x there).1 octets link)
    where
      by_memory : (o : Option Memory) → LineHolds (discovers_by w number x octets link o) → StepGood w (Ok (discovers_by w number x octets link o))
      by_memory None h = Taken _ h.0 h.1 (none_more w (running_world w) refl)
      by_memory (Some m) h =
          Taken _ h.0 h.1 (length-append w.flights (discovery_flights number (hear_discovery x.role m.station (beside_at w number).scan octets link).sent))

  chooses_good : (number : ℕ) (x : Node) → node_at w number ≡ Some x → (k : ℕ) (psk : Option Key) → StepGood w (Ok (chooses_by ciphers w number x k psk))
  chooses_good number x there k None = Taken _ ran_ok zero-le (none_more w (running_world w) refl)
  chooses_good number x there k (Some psk) =
      let d : NodeStep (Result ChosenAgent ChooseRefusal) = reaches x (beside_at w number) (Err choices.Halted)
      (λ y. choose_agent (identity ciphers x psk) y k w.clock) in
      let did : DidOk x d = acts_ok x (Err choices.Halted) (with_beside (beside_at w number) (λ y. choose_agent (identity ciphers x psk) y k w.clock))
      (node_ok number x there)
      (λ m here kept sized. choice_ok x.role m sized ciphers fits (identity ciphers x psk) refl (beside_at w number) k w.clock) in
      let v : World = world_after ciphers (running_world w) number d in
      Taken (chooses_by ciphers w number x k (Some psk)) (counts_ok v (chooses_by ciphers w number x k (Some psk)).0
      (ok_after ciphers fits (running_world w) number x d ran_ok there did (λ e. absurd (true_false e))) refl refl (λ e. e)) did.few
      (after_more ciphers (running_world w) number d)

  choose_good : (number k : ℕ) → StepGood w (choose ciphers w number k)
  unfolding choose
  choose_good number k = once _ (at_meter number _ (λ x there. chooses_good number x there k (psk_of x)))

  ticks_good : (seconds : ℕ) → StepGood w (ticks w seconds)
  unfolding ticks
  ticks_good seconds = by_step (tick w seconds) (steps.tick_good ciphers fits w ok flown seconds)
    where
      by_step : (s : Step) → StepGood w s → StepGood w (after_ok (λ r. (record r.0 { beside = map (tick_beside (w.clock + seconds)) w.beside }, r.1)) s)
      by_step (Err fault) h = Fails fault
      by_step (Ok r) h = aside r.0 r.1 (map (tick_beside (w.clock + seconds)) w.beside) h

  -- # Octets that come

  -- a node of the line that has accepted octets
  module _ (number : ℕ) (x y : Node) (there : node_at w number ≡ Some x) (first : NodeStep (Result Accepted FrameRefusal)) (same : first.node ≡ y)
      (did : DidOk x first) (down : (m : Memory) → y.memory ≡ Some m → IsSome x.memory) (octets : List ℕ) where
    good : NodeOk y
    good = subst NodeOk same did.node

    and_then : {A : Type 0} (e : NodeStep A) → DidOk y e → DidOk x e
    and_then e h = did_on x first e did (subst (λ z. DidOk z e) (sym same) h)

    module _ (got : Accepted) (cost : ℕ) (routes : RoutesFit got) where
      abbrev d : NodeStep Reception
      d = hearing_step ciphers y got cost (note_by w octets got.path) w.clock

      abbrev r : World × Trace
      r = hearing_outcome ciphers w number y octets got cost

      heard_did : DidOk x d
      heard_did = and_then d (hears_ok ciphers fits w ok flown y got cost (note_by w octets got.path) w.clock good routes)

      pub heard_ok : WorldOk r.0
      heard_ok =
          counts_ok (world_after ciphers (running_world w) number d) r.0
          (ok_after ciphers fits (running_world w) number x d ran_ok there heard_did (λ e. absurd (true_false e)))
          refl refl (λ e. e)

      heard_good : StepGood w (Ok r)
      heard_good = Taken r heard_ok heard_did.few (after_more ciphers (running_world w) number d)

      now_there : node_at r.0 number ≡ Some d.node
      unfolding world_after
      now_there = slice_get-set w.nodes number d.node (place_within w.nodes number x there)

      goes_on : r.0.running ≡ true
      unfolding world_after
      goes_on = refl

      fits_now : (m : Memory) → d.node.memory ≡ Some m → LogFits (beside_at r.0 number)
      unfolding world_after
      fits_now m here = by_memory x.memory (from_y y.memory refl (hears_down ciphers y got cost (note_by w octets got.path) w.clock m y.role here))
          (logged_at w.beside w.nodes number x logs there)
        where
          from_y : (o : Option Memory) → y.memory ≡ o → IsSome o → IsSome x.memory
          from_y None e s = absurd (cc (s))
          from_y (Some n) e s = down n e

          by_memory : (o : Option Memory) → IsSome o → LogIn (beside_at w number).log x.store.records o → LogFits (beside_at w number)
          by_memory None s h = absurd (cc (s))
          by_memory (Some n) s h = logs_fit (beside_at w number) x.store.records h

      commanded_good : (c : NeighbourCommand) → command_of got ≡ Some c → StepGood w (Ok (commanded ciphers number d.node c r))
      commanded_good c e =
          let none : d.frames ≡ [] = command_silent ciphers y got cost (note_by w octets got.path) w.clock c e y.role in
          let silent : r.1.happenings.flights ≡ 0 = ap length none in
          let h : LineHolds (commanded ciphers number d.node c r) = commands_keep ciphers fits r heard_ok goes_on silent number d.node now_there fits_now c in
          let more = after_more ciphers r.0 number
          (reaches d.node (beside_at r.0 number) (Err (reach_drops.Known drops.Store)) (λ z. hear_neighbours in_memory z c)) in
          let first_more : length r.0.flights ≡ length w.flights + length d.frames = after_more ciphers (running_world w) number d in
          Taken (commanded ciphers number d.node c r) h.0 h.1 (omega arith)

      -- a reply that is acknowledged sends little
      none_if : {A : Type 0} (b : Bool) (a : A) → (if b then None else None) ≡ Some a → ⊥
      none_if true a e = cc
      none_if false a e = cc

      due_few : (p : Path) (m : Option Message) (answer : Answer) (reply : Reply) → got.path ≡ p → message_of got ≡ m → due p m answer ≡ Some reply
          → length d.frames ≤ 22
      due_few (paths.Sealed from false key) (Some (Rrep n c origin to)) answer reply ep em e =
          reply_few ciphers y got cost (note_by w octets got.path) w.clock good from false key n c origin to ep em y.role
      due_few (paths.Sealed from false key) (Some (Rreq n c origin dest)) answer reply ep em e = absurd (none_if _ reply e)
      due_few (paths.Sealed from false key) (Some (Rerr lost to)) answer reply ep em e = absurd (none_if _ reply e)
      due_few (paths.Sealed from false key) None answer reply ep em e = absurd (none_if _ reply e)
      due_few (paths.Sealed from true key) m answer reply ep em e = absurd (cc (e))
      due_few (paths.Up from) m answer reply ep em e = absurd (cc (e))
      due_few (paths.Down from) m answer reply ep em e = absurd (cc (e))

      abbrev with_it : World × Trace
      with_it = with_check w number (reply_among d.frames) r

      with_ok : WorldOk with_it.0
      with_ok = counts_ok r.0 with_it.0 heard_ok refl refl (λ e. e)

      first_more : length with_it.0.flights ≡ length w.flights + length d.frames
      first_more = after_more ciphers (running_world w) number d

      acknowledged_good : (reply : Reply) → length d.frames ≤ 22 → StepGood w (Ok (acknowledged ciphers w number (acknowledging d.node reply) with_it))
      unfolding world_after
      acknowledged_good reply few = by_memory (is_some a.node.memory)
        where
          a : NodeStep (Result (Unit {0}) LocalRefusal)
          a = acknowledging d.node reply

          v : World
          v = world_after ciphers with_it.0 number a

          v_ok : WorldOk v
          v_ok = ok_after ciphers fits with_it.0 number d.node a with_ok now_there (ack_did d.node reply heard_did.node)
              (λ e. absurd (true_false (sym goes_on ∙ e)))

          v_more : length v.flights ≡ length with_it.0.flights + length a.frames
          v_more = after_more ciphers with_it.0 number a

          flies : v.flights ≡ w.flights ++ (flights_of ciphers number d ++ flights_of ciphers number a)
          flies = append_assoc w.flights (flights_of ciphers number d) (flights_of ciphers number a)

          runs : v.running ≡ true
          runs = refl

          by_memory : (t : Bool) → StepGood w (Ok (if t then adds_frames v with_it.1 a else sends_nothing w (v, with_it.1)))
          by_memory true = let one = ack_few d.node reply in let two = v_more in let three = first_more in
              Taken (adds_frames v with_it.1 a) v_ok (omega arith) (omega arith)
          by_memory false = Taken (sends_nothing w (v, with_it.1))
              (unsent_ok w v ok v_ok (flights_of ciphers number d ++ flights_of ciphers number a) flies runs w.made w.beside) zero-le (none_more w w refl)

      checked_good : StepGood w (Ok (checked ciphers w number got d r))
      checked_good = by_due (due got.path (message_of got) d.answer.answer) refl
        where
          by_due : (o : Option Reply) → due got.path (message_of got) d.answer.answer ≡ o → StepGood w (Ok (acknowledged_if ciphers w number d.node o with_it))
          by_due None e = Taken with_it with_ok heard_did.few (after_more ciphers (running_world w) number d)
          by_due (Some reply) e = acknowledged_good reply (due_few got.path (message_of got) d.answer.answer reply refl refl e)

      heard_by_good : (o : Option NeighbourCommand) → command_of got ≡ o → StepGood w (Ok (hearing_outcome_by ciphers w number y octets got cost o))
      heard_by_good None e = by_checks w.checks_on
        where
          by_checks : (b : Bool) → StepGood w (Ok (if b then checked ciphers w number got d r else r))
          by_checks true = checked_good
          by_checks false = heard_good
      heard_by_good (Some c) e = commanded_good c e

      further_good : StepGood w (Ok (further_hearing_outcome ciphers w number y octets got cost))
      further_good = by_dropped (is_dropped w number got)
        where
          by_dropped : (b : Bool) → StepGood w
              (Ok (if b then unbelieved ciphers w number y octets got else hearing_outcome_by ciphers w number y octets got cost (command_of got)))
          by_dropped true = steps.received_good ciphers fits w ok flown number x (forged_by w octets got.path) (stays y (only answers.Blacklisted)) there
              (and_then (stays y (only answers.Blacklisted)) (rests_ok y (only answers.Blacklisted) good))
          by_dropped false = heard_by_good (command_of got) refl

  comes_good : (number : ℕ) (x : Node) (octets : List ℕ) (cost : ℕ) → node_at w number ≡ Some x → AreOctets octets
      → StepGood w (Ok (comes ciphers w number x octets cost))
  unfolding comes
  comes_good number x octets cost there are = by_kind (is_discovery octets)
    where
      plan : Memory → Plan Memory (Result Accepted FrameRefusal)
      plan m = of_station m (accept m.station x.eui (arrived ciphers octets))

      first : NodeStep (Result Accepted FrameRefusal)
      first = acts x (Err frames.Halted) plan

      did : DidOk x first
      did = acts_ok x (Err frames.Halted) plan (node_ok number x there) (λ m here kept sized. accept_ok ciphers fits octets are x.role m x.eui sized)

      routes : (got : Accepted) → first.answer ≡ Ok got → RoutesFit got
      routes got e =
          let a = acts_answered x frames.Halted frames.Store plan
          (λ m. accept_failed ciphers fits octets are m.station _ (accept_is m.station x.eui (arrived ciphers octets))) got e in
          accepted_routes ciphers fits octets are a.memory.station (ring_readable x a.memory (node_ok number x there) a.there) _ got
          (accept_is a.memory.station x.eui (arrived ciphers octets)) a.is

      by_answer : (r : Result Accepted FrameRefusal) → first.answer ≡ r → StepGood w (Ok (accepted_further ciphers w number octets cost first))
      by_answer (Err reason) e =
          let k : NodeStep (Result Accepted FrameRefusal) = record first { answer = Err reason } in
          rw e (Taken (world_after ciphers (running_world w) number k, trace_of (happenings w (frame_word reason)))
          (ok_after ciphers fits (running_world w) number x k ran_ok there (record {
            node = did.node;
            role = did.role;
            eui = did.eui;
            few = did.few;
            rises = did.rises;
            from = did.from;
            marked = did.marked;
          }) (λ e. absurd (true_false e))) zero-le
          (after_none ciphers (running_world w) number k
          (acts_quiet x (Err frames.Halted) plan (λ m. accept_quiet m.station _ _ (accept_is m.station x.eui (arrived ciphers octets))))))
      by_answer (Ok got) e =
          rw e (further_good number x first.node there first refl did (λ m here. acts_down x (Err frames.Halted) plan m here) octets got cost (routes got e))

      by_kind : (b : Bool) → StepGood w (Ok (if b then discovers_by w number x octets cost x.memory else accepted_further ciphers w number octets cost first))
      by_kind true = discovers_good number x there octets cost
      by_kind false = by_answer first.answer refl

  delivers_good : (flight number cost : ℕ) → StepGood w (delivers ciphers w flight number cost)
  unfolding delivers
  delivers_good flight number cost = once _ (at_node number _ (λ x there. by_flight x there (flight_at w flight) refl))
    where
      by_lost : (x : Node) → node_at w number ≡ Some x → (f : Flight) (b : Bool) → flight_at w flight ≡ Some f
          → StepGood w (if b then Err faults.Flight else Ok (comes ciphers w number x f.octets cost))
      by_lost x there f true is = Fails faults.Flight
      by_lost x there f false is = comes_good number x f.octets cost there (steps.flight_octets ciphers fits w ok flown flight f is)

      by_flight : (x : Node) → node_at w number ≡ Some x → (o : Option Flight) → flight_at w flight ≡ o
          → StepGood w (option_map_or (λ f. if f.lost then Err faults.Flight else Ok (comes ciphers w number x f.octets cost)) o (Err faults.Flight))
      by_flight x there None is = Fails faults.Flight
      by_flight x there (Some f) is = by_lost x there f f.lost is

  injects_good : (number cost : ℕ) (octets : List ℕ) → AreOctets octets → StepGood w (injects ciphers w number cost octets)
  unfolding injects
  injects_good number cost octets are = once _ (at_node number _ (λ x there. comes_good number x octets cost there are))

  -- # Restarts

  restarts_good : (number : ℕ) (x : Node) → node_at w number ≡ Some x → (o : Result Beside BadStore) → restarted x.store.records ≡ o
      → StepGood w (Ok (restarts_by ciphers w number x o))
  restarts_good number x there (Ok b) e =
      aside _ _ _ (steps.acted_good ciphers fits w ok flown number x (restarts x) there (steps_below.restarts_ok x (node_ok number x there)))
  restarts_good number x there (Err bad) e = absurd (restarts_read ciphers w logs number x there bad e)

  restart_good : (number : ℕ) → StepGood w (restarts_further ciphers w number)
  unfolding restarts_further
  restart_good number = once _ (at_node number _ (λ x there. restarts_good number x there (restarted x.store.records) refl))

  line_good : (event : Event) → IsEvent event → StepGood w (line_step ciphers w event)
  line_good (events.Coordinator eui key) e = steps.step_good ciphers fits w ok flown (events.Coordinator eui key) e
  line_good (events.Meter eui psk) e = steps.step_good ciphers fits w ok flown (events.Meter eui psk) e
  line_good (events.Depot node) e = steps.step_good ciphers fits w ok flown (events.Depot node) e
  line_good (events.Near a b cost) e = steps.step_good ciphers fits w ok flown (events.Near a b cost) e
  line_good (events.Counter node value) e = steps.step_good ciphers fits w ok flown (events.Counter node value) e
  line_good (events.Number node value) e = steps.step_good ciphers fits w ok flown (events.Number node value) e
  line_good (events.Allow node) e = steps.step_good ciphers fits w ok flown (events.Allow node) e
  line_good (events.RandomOctets node value) e = steps.step_good ciphers fits w ok flown (events.RandomOctets node value) e
  line_good (events.Join node agent) e = steps.step_good ciphers fits w ok flown (events.Join node agent) e
  line_good (events.Leave node) e = steps.step_good ciphers fits w ok flown (events.Leave node) e
  line_good (events.Send from to datagram) e = steps.step_good ciphers fits w ok flown (events.Send from to datagram) e
  line_good (events.Deliver flight node cost) e = delivers_good flight node cost
  line_good (events.Inject node cost octets) e = injects_good node cost octets e.2.2
  line_good (events.Lose flight) e = steps.step_good ciphers fits w ok flown (events.Lose flight) e
  line_good (events.Break node next) e = steps.step_good ciphers fits w ok flown (events.Break node next) e
  line_good (events.Tick seconds) e = ticks_good seconds
  line_good (events.Restart node) e = restart_good node
  line_good (events.Cut node nth keeps_new) e = steps.step_good ciphers fits w ok flown (events.Cut node nth keeps_new) e
  line_good (events.Rekey index key) e = steps.step_good ciphers fits w ok flown (events.Rekey index key) e
  line_good (events.Challenge node) e = steps.step_good ciphers fits w ok flown (events.Challenge node) e
  line_good (events.Activate node index) e = steps.step_good ciphers fits w ok flown (events.Activate node index) e
  line_good (events.Kick node) e = steps.step_good ciphers fits w ok flown (events.Kick node) e
  line_good (events.Show node) e = steps.step_good ciphers fits w ok flown (events.Show node) e
  line_good events.Checks e = checks_good
  line_good (events.Bcast node datagram) e = bcast_good node datagram
  line_good (events.Scan node) e = scan_good node
  line_good (events.Choose node k) e = choose_good node k
  line_good (events.Path from to) e = path_good from to

step_holds : (w : World) (s : Step) → StepGood w s → StepHolds w s
step_holds w s (Fails fault) = tt
step_holds w s (Taken r good few world_after) = ((good, few), world_after)

pub line_steps_hold : LineStepsHold
line_steps_hold ciphers fits w ok flown logs event says = step_holds w (line_step ciphers w event) (line_good ciphers fits w ok flown logs event says)
