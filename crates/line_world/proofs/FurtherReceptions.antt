-- What further reach adds to a frame that a node heard: commands for the neighbours, checks, and requests that are not believed.
use Rattle.std.proofs.Common.{◌≡◌, ◌≢◌, ℕ, ◌+◌, ◌<◌, ◌≤◌, Bool, true, false, ◌||◌, ◌&&◌, List, ◌++◌, length, map, Option, Some, None}
use Rattle.std.proofs.Common.{Result, Ok, Err, refl, sym, ap, subst, ◌∙◌, if◌then◌else◌, append_assoc, arith}
use mathlib.Core.List.{map-append}
use Rattle.std.specs.Prelude.{◌==◌, IfSome, IsSome, is_some, nat_lt, slice_get, slice_set}
use Rattle.std.specs.List.{list_any}
use Rattle.std.specs.Option.{option_and_then, option_map, option_map_or}
use Rattle.std.proofs.lemmas.List.{append-nil, length-append, length-set}
use Rattle.std.proofs.lemmas.Option.{none-some, same_Some, slice_get_within}
use Rattle.store_tables.proofs.SlotTables.{slice_get-set}
use Rattle.store_tables.specs.Writes.{Written, write}
use Rattle.plc_base.specs.declared.address.Eui.{Eui}
use Rattle.plc_base.specs.declared.key.Key.{Key}
use Rattle.plc_base.specs.declared.out_frame.Out.{Out}
use Rattle.plc_base.specs.Grant.{Granted}
use Rattle.mesh_header.specs.declared.unit.Unit.{Unit as MeshUnit}
use Rattle.mesh_header.specs.declared.unit.Unit.TheVariants as units
use Rattle.mesh_header.specs.Reader.{unit_in}
use Rattle.loadng_messages.specs.declared.message.Message.{Message}
use Rattle.loadng_messages.specs.declared.message.Message.TheVariants.{Rreq, Rrep, Rerr}
use Rattle.loadng_messages.specs.Reader.{message_in}
use Rattle.routing_set.specs.declared.rank.Rank.{Rank}
use Rattle.node_rules.specs.Accepted.{Accepted}
use Rattle.node_rules.specs.declared.heard.CoordinatorHeard.{CoordinatorHeard}
use Rattle.node_rules.specs.declared.heard.CoordinatorHeard.TheVariants as coordinator_words
use Rattle.node_rules.specs.declared.heard.Heard.{Heard}
use Rattle.node_rules.specs.declared.heard.Heard.TheVariants as heard_words
use Rattle.node_rules.specs.declared.heard.MeterHeard.{MeterHeard}
use Rattle.node_rules.specs.declared.heard.MeterHeard.TheVariants as meter_words
use Rattle.node_rules.specs.declared.heard.Path.{Path}
use Rattle.node_rules.specs.declared.heard.Path.TheVariants as paths
use Rattle.node_rules.specs.declared.heard.Reply.{Reply}
use Rattle.node_rules.specs.declared.refusal.Dropped.{Dropped}
use Rattle.node_rules.specs.declared.refusal.Dropped.TheVariants as drops
use Rattle.node_rules.specs.declared.refusal.LocalRefusal.{LocalRefusal}
use Rattle.node_rules.specs.declared.refusal.LocalRefusal.TheVariants as locals
use Rattle.node_rules.specs.CarriedPlans.{nothing}
use Rattle.node_rules.specs.Ciphers.{network}
use Rattle.node_rules.specs.Coordinators as coordinator_rules
use Rattle.node_rules.specs.Drafts.{Draft, alone, choose as choose_plan, checked as checked_plan, counters_left, empty_draft, goes, leave, refused, sealed}
use Rattle.node_rules.specs.Drafts.{sealing, with_rank}
use Rattle.node_rules.specs.Frames.{spelled}
use Rattle.node_rules.specs.HearingRules.{Hearing, dropped, drop_it, hear, hear_message_in, hear_reply, hear_reply_for, hear_sealed, hear_unit, hear_unit_in}
use Rattle.node_rules.specs.HearingRules.{rank_over}
use Rattle.node_rules.specs.Laws.{WaitingFits}
use Rattle.node_rules.specs.Memory.{Memory, Node, Role, Coordinator, Meter, StationMemory, address_of, next_hop}
use Rattle.node_rules.specs.Meters as meters
use Rattle.node_rules.specs.Neighbours.{followed}
use Rattle.node_rules.specs.NodeSteps.{NodeStep, acts, left_by, stays}
use Rattle.node_rules.specs.Plans.{Plan, carry_out, finished, halted as cut_off, resting}
use Rattle.node_rules.specs.Replies.{reply_among, route_message}
use Rattle.node_rules.proofs.ReplyFrames.{coordinators_replies_few, meters_replies_few}
use Rattle.reach_rules.specs.CheckedReplies.{asks_unbelieved, checks_after, is_unbelieved, message_of}
use Rattle.reach_rules.specs.ReachingNodes.{Beside}
use Rattle.reach_rules.specs.FurtherReceptions.{NeighbourCommand, command_of, command_on}
use Rattle.line_flights.specs.declared.flights.Origin.{Origin}
use Rattle.line_events.specs.declared.event.Answer.{Answer}
use Rattle.line_events.specs.declared.event.Answer.TheVariants as answers
use Rattle.line_events.specs.declared.event.TheConstants.{MAX_EVENTS}
use Rattle.line_events.specs.declared.happenings.Happenings.{Happenings}
use Rattle.line_rules.specs.Answers.{CompletedJoining, Reception, coordinator_reception, meter_reception, station_reception}
use Rattle.line_rules.specs.Further.{acknowledged, acknowledged_if, acknowledging, adds_frames, beside_at, due}
use Rattle.line_rules.specs.Further.{due_of, is_dropped, is_reply_taken, sends_nothing, set_beside, with_check}
use Rattle.line_rules.specs.Steps.{done_by, flight_by, handed_by, happenings, hearing_step, identity, number_if, number_of, received, world_after}
use Rattle.line_rules.specs.Worlds.{Pairing, Trace, World, is_forged_tag}
use Rattle.line_world.specs.declared.nodes.reception.Reception as receiving
use Rattle.line_world.specs.Arrivals.{Acknowledges, acknowledging_if, outcome_of_checked, in_run, left_of, reception_happenings, with_check_of}
use Rattle.line_world.specs.Bounds.{IsBounded}
use Rattle.line_world.specs.NodeOutcomes.{given_by}
use Rattle.line_world.specs.FurtherOutcomes.{given_after}
use Rattle.line_world.specs.Receptions.{Received, handed_up}
use Rattle.line_world.specs.Steps.{Steps}
use Rattle.line_world.proofs.Arrivals.{acts_eui, at_node_after, hears_eui, left_bounded, received_left, received_many, received_said, same_number}
use Rattle.line_world.proofs.EventSteps.{is_taken_so, many_given, steps_as, after_is}
use Rattle.line_world.proofs.ReportedReplies.{messages_unread}
use Rattle.line_world.proofs.HeardCommands.{done_pointwise, hears_as, set_same}

-- # Checks

-- A reply that is due to be acknowledged came to one node, and was taken.
pub record IsDue (path : Path) (message : Option Message) (answer : Answer) : Type 0 where
  pub from : ℕ
  pub key : Key
  pub path_is : path ≡ paths.Sealed from false key
  pub number : ℕ
  pub link : ℕ
  pub origin : ℕ
  pub to : ℕ
  pub message_is : message ≡ Some (Rrep number link origin to)
  pub taken : is_reply_taken answer ≡ true

pub is_due : (path : Path) (message : Option Message) (answer : Answer) (reply : Reply) → due path message answer ≡ Some reply → IsDue path message answer
is_due (paths.Sealed from false key) message answer reply e = by_taken (is_reply_taken answer) refl message e
  where
    by_message : is_reply_taken answer ≡ true → (m : Option Message) → due_of from m ≡ Some reply → IsDue (paths.Sealed from false key) m answer
    by_message taken (Some (Rrep number link origin to)) h =
        record { from = from; key = key; path_is = refl; number = number; link = link; origin = origin; to = to; message_is = refl; taken = taken }
    by_message taken (Some (Rreq number link origin dest)) h = absurd (cc (h))
    by_message taken (Some (Rerr lost to)) h = absurd (cc (h))
    by_message taken None h = absurd (cc (h))

    by_taken : (b : Bool) → is_reply_taken answer ≡ b → (m : Option Message) → (if b then due_of from m else None) ≡ Some reply
        → IsDue (paths.Sealed from false key) m answer
    by_taken true taken m h = by_message taken m h
    by_taken false taken m h = absurd (cc (h))
is_due (paths.Sealed from true key) message answer reply e = absurd (cc (e))
is_due (paths.Up from) message answer reply e = absurd (cc (e))
is_due (paths.Down from) message answer reply e = absurd (cc (e))

-- what the nodes hear of a reply leaves room for one frame more
acts_few : {A : Type 0} (x : Node) (halted : A) (plan : Memory → Plan Memory A) (most : ℕ) → ((m : Memory) → x.memory ≡ Some m → length (plan m).frames ≤ most)
    → length (acts x halted plan).frames ≤ most
unfolding acts carry_out
acts_few {A} x halted plan most few = by_memory x.memory refl
  where
    by_whole : (b : Bool) (m : Memory) (w : Written) → length (plan m).frames ≤ most
        → length (if b then finished w (plan m) else cut_off w (plan m)).frames ≤ most
    by_whole true m w f = f
    by_whole false m w f = omega arith

    by_memory : (o : Option Memory) → x.memory ≡ o
        → length (option_map_or (λ m. left_by x (carry_out x.store.records x.store.cut (plan m))) o (stays x halted)).frames ≤ most
    by_memory None e = omega arith
    by_memory (Some m) e =
        let w : Written = write (plan m).puts x.store.cut x.store.records in
        by_whole w.whole m w (few m e)

module _ (x : Node) (got : Accepted) (cost note now : ℕ) (from : ℕ) (all : Bool) (key : Key) (number link origin to : ℕ)
    (way : got.path ≡ paths.Sealed from all key)
    (message : message_of got ≡ Some (Rrep number link origin to)) (waits : IfSome x.memory (λ m. WaitingFits m.station)) where
  waits_at : (m : Memory) → x.memory ≡ Some m → WaitingFits m.station
  waits_at m e = subst (λ (o : Option Memory). IfSome o (λ k. WaitingFits k.station)) e waits

  few_by : (role : Role) → length (hears_as x got cost note now role).frames ≤ 22
  few_by Coordinator = acts_few x (Err drops.Store) (λ m. coordinator_rules.hear_coordinator (record { eui = x.eui; ciphers = network }) m got cost note now) 22
      (λ m e. coordinators_replies_few (record { eui = x.eui; ciphers = network }) m got cost note now from all key number link origin to (waits_at m e) way
      message)
  few_by (Meter psk) = acts_few x (Err drops.Store) (λ m. meters.hear_meter (identity network x psk) m got cost note now) 22
      (λ m e. meters_replies_few (identity network x psk) m got cost note now from all key number link origin to (waits_at m e) way message)

  pub reply_few : length (hearing_step network x got cost note now).frames ≤ 22
  reply_few = few_by x.role

-- # The ring of a node that took a reply

module _ (l : StationMemory) where
  -- a plan leaves the ring
  abbrev KeepsRing : Hearing → Type 0
  KeepsRing p = p.memory.ring ≡ l.ring

  sealed_keeps : (d : Draft StationMemory) (answer : Heard) → d.memory.ring ≡ l.ring → KeepsRing (sealed alone dropped l d answer)
  unfolding sealed resting
  sealed_keeps d answer e = by (nat_lt (counters_left l) (length d.units))
    where
      by : (b : Bool) → KeepsRing (if b then refused dropped l dropped.spent else sealing alone dropped d answer)
      by true = refl
      by false = e

  checked_keeps : (fault : Option Dropped) (p : Hearing) → KeepsRing p → KeepsRing (checked_plan dropped l fault p)
  unfolding checked_plan resting
  checked_keeps None p h = h
  checked_keeps (Some reason) p h = refl

  choose_keeps : (b : Bool) (p q : Hearing) → KeepsRing p → KeepsRing q → KeepsRing (choose_plan b p q)
  unfolding choose_plan
  choose_keeps true p q h k = h
  choose_keeps false p q h k = k

  dropped_keeps : (reason : Dropped) → KeepsRing (drop_it l reason)
  unfolding resting
  dropped_keeps reason = refl

  by_hop : (own by origin to : ℕ) (rank : Rank) (now : ℕ) (hop : Option ℕ) → KeepsRing (hear_reply_for l own by origin to rank now hop)
  unfolding goes leave with_rank empty_draft
  by_hop own by origin to rank now None = dropped_keeps drops.NoRoute
  by_hop own by origin to rank now (Some hop) = checked_keeps _ _ (sealed_keeps _ heard_words.Relayed refl)

  reply_keeps : (own by origin to : ℕ) (rank : Rank) (now : ℕ) → KeepsRing (hear_reply l own by origin to rank now)
  unfolding leave with_rank empty_draft
  reply_keeps own by origin to rank now =
      choose_keeps (to == own) _ _ (checked_keeps _ _ (sealed_keeps _ heard_words.Learned refl)) (by_hop own by origin to rank now (next_hop l to))

  module _ (number link origin to : ℕ) where
    code_keeps : (own by : ℕ) (cost now : ℕ) (first : Bool) (m : Option Message) (other : Hearing)
        → (if first then m else None) ≡ Some (Rrep number link origin to)
        → KeepsRing (choose_plan first (hear_message_in l own by false cost now m) other)
    unfolding choose_plan
    code_keeps own by cost now true m other e =
        subst (λ (o : Option Message). KeepsRing (hear_message_in l own by false cost now o)) (sym e)
        (reply_keeps own by origin to (rank_over number link cost) now)
    code_keeps own by cost now false m other e = absurd (cc (e))

    unit_keeps : (own by : ℕ) (unit : MeshUnit) (cost note now : ℕ) → route_message unit ≡ Some (Rrep number link origin to)
        → KeepsRing (hear_sealed l own by false unit cost note now)
    unit_keeps own by (units.Local code body) cost note now e = code_keeps own by cost now (code == 1) (message_in body) _ e
    unit_keeps own by (units.Whole mesh octets) cost note now e = absurd (cc (e))
    unit_keeps own by (units.Part mesh piece) cost note now e = absurd (cc (e))
    unit_keeps own by (units.Carried mesh body) cost note now e = absurd (cc (e))

    addressed_keeps : (own : Option ℕ) (by : ℕ) (unit : MeshUnit) (cost note now : ℕ) → route_message unit ≡ Some (Rrep number link origin to)
        → KeepsRing (option_map_or (λ a. hear_sealed l a by false unit cost note now) own (drop_it l drops.BadUnit))
    addressed_keeps None by unit cost note now e = dropped_keeps drops.BadUnit
    addressed_keeps (Some own) by unit cost note now e = unit_keeps own by unit cost note now e

    -- so does one that carries a reply, of a sealed frame to one node
    frame_keeps : (path : Path) (unit : Option MeshUnit) (from : ℕ) (key : Key) (cost note now : ℕ) → path ≡ paths.Sealed from false key
        → option_and_then route_message unit ≡ Some (Rrep number link origin to) → KeepsRing (hear_unit_in l path unit cost note now)
    frame_keeps path None from key cost note now p e = absurd (cc (e))
    frame_keeps path (Some unit) from key cost note now p e =
        subst (λ (k : Path). KeepsRing (hear_unit l k unit cost note now)) (sym p) (addressed_keeps (address_of l) from unit cost note now e)

  -- and a station without an address takes none
  nowhere : (path : Path) (unit : Option MeshUnit) (from : ℕ) (key : Key) (cost note now : ℕ) → path ≡ paths.Sealed from false key → l.ring ≡ None
      → (hear_unit_in l path unit cost note now).answer ≡ Err drops.BadUnit
  unfolding resting
  nowhere path None from key cost note now p e = refl
  nowhere path (Some unit) from key cost note now p e =
      subst (λ (k : Path). (hear_unit l k unit cost note now).answer ≡ Err drops.BadUnit) (sym p)
      (subst (λ (r : Option Granted). (option_map_or (λ own. hear_sealed l own from false unit cost note now) (option_map (λ g. g.address) r)
      (drop_it l drops.BadUnit)).answer ≡ Err drops.BadUnit) (sym e) refl)

-- A node that is not halted after a step carried a plan out.
record Left {A : Type 0} (x : Node) (plan : Memory → Plan Memory A) (answer : A) (n : Memory) : Type 0 where
  memory : Memory
  there : x.memory ≡ Some memory
  left : (plan memory).memory ≡ n
  answered : answer ≡ (plan memory).answer

acts_left : {A : Type 0} (x : Node) (halted : A) (plan : Memory → Plan Memory A) (n : Memory) → (acts x halted plan).node.memory ≡ Some n
    → Left x plan (acts x halted plan).answer n
unfolding acts carry_out
acts_left {A} x halted plan n = by_memory x.memory refl
  where
    did : Option Memory → NodeStep A
    did o = option_map_or (λ m. left_by x (carry_out x.store.records x.store.cut (plan m))) o (stays x halted)

    by_whole : (b : Bool) (m : Memory) (w : Written) → x.memory ≡ Some m → (if b then finished w (plan m) else cut_off w (plan m)).memory ≡ Some n
        → Left x plan (if b then finished w (plan m) else cut_off w (plan m)).answer n
    by_whole true m w there e = record { memory = m; there = there; left = same_Some _ _ e; answered = refl }
    by_whole false m w there e = absurd (cc (e))

    by_memory : (o : Option Memory) → x.memory ≡ o → (did o).node.memory ≡ Some n → Left x plan (did o).answer n
    by_memory None there e = absurd (none-some n (sym there ∙ e))
    by_memory (Some m) there e =
        let w : Written = write (plan m).puts x.store.cut x.store.records in
        by_whole w.whole m w there e

-- the words of a reply that was taken say nothing beside themselves
abbrev pub IsOnly : Reception → Type 0
IsOnly r = (r.up ≡ None) × (r.took ≡ None) × (r.done ≡ None)

station_only : (h : Heard) → is_reply_taken (station_reception h).answer ≡ true → IsOnly (station_reception h)
station_only (heard_words.Up from note octets) e = absurd (cc (e))
station_only heard_words.Held e = (refl, refl, refl)
station_only heard_words.Relayed e = (refl, refl, refl)
station_only heard_words.Answered e = (refl, refl, refl)
station_only heard_words.Learned e = (refl, refl, refl)
station_only heard_words.Broken e = (refl, refl, refl)
station_only heard_words.Reported e = (refl, refl, refl)
station_only (heard_words.Joining way body) e = (refl, refl, refl)
station_only (heard_words.Local from all code body) e = (refl, refl, refl)

coordinator_only : (r : Result CoordinatorHeard Dropped) → is_reply_taken (coordinator_reception r).answer ≡ true → IsOnly (coordinator_reception r)
coordinator_only (Ok (coordinator_words.Station h)) e = station_only h e
coordinator_only (Ok coordinator_words.Challenged) e = (refl, refl, refl)
coordinator_only (Ok (coordinator_words.Keyed eui granted)) e = (refl, refl, refl)
coordinator_only (Ok (coordinator_words.Done eui agreed)) e = absurd (cc (e))
coordinator_only (Ok coordinator_words.Declined) e = (refl, refl, refl)
coordinator_only (Err reason) e = (refl, refl, refl)

meter_only : (r : Result MeterHeard Dropped) → is_reply_taken (meter_reception r).answer ≡ true → IsOnly (meter_reception r)
meter_only (Ok (meter_words.Station h)) e = station_only h e
meter_only (Ok meter_words.Carried) e = (refl, refl, refl)
meter_only (Ok meter_words.Replied) e = (refl, refl, refl)
meter_only (Ok (meter_words.Took agreed)) e = absurd (cc (e))
meter_only (Ok meter_words.Noted) e = (refl, refl, refl)
meter_only (Ok meter_words.Declined) e = (refl, refl, refl)
meter_only (Ok meter_words.Left) e = (refl, refl, refl)
meter_only (Ok meter_words.Activated) e = (refl, refl, refl)
meter_only (Err reason) e = (refl, refl, refl)

pub hears_only : (x : Node) (got : Accepted) (cost note now : ℕ) → is_reply_taken (hearing_step network x got cost note now).answer.answer ≡ true
    → IsOnly (hearing_step network x got cost note now).answer
hears_only x got cost note now = by x.role
  where
    by : (role : Role) → is_reply_taken (hears_as x got cost note now role).answer.answer ≡ true → IsOnly (hears_as x got cost note now role).answer
    by Coordinator e = coordinator_only _ e
    by (Meter psk) e = meter_only _ e

-- a node that took a reply and goes on has a ring
module _ (x : Node) (got : Accepted) (cost note now : ℕ) (n : Memory) where
  keeps_ring : (l : StationMemory) (answer : Answer) → IsDue got.path (message_of got) answer → l.ring ≢ None → (hear l got cost note now).memory.ring ≢ None
  keeps_ring l answer due some none =
      some (sym (frame_keeps l due.number due.link due.origin due.to got.path (unit_in got.payload) due.from due.key cost note now due.path_is due.message_is)
      ∙ none)

  ring_some : (r : Option Granted) → r ≢ None → IsSome r
  ring_some None h = absurd (h refl)
  ring_some (Some g) h = refl

  coordinator_joined : (m : Memory) → IsDue got.path (message_of got)
      (coordinator_reception (coordinator_rules.hear_coordinator (record { eui = x.eui; ciphers = network }) m got cost note now).answer).answer
      → IsSome (coordinator_rules.hear_coordinator (record { eui = x.eui; ciphers = network }) m got cost note now).memory.station.ring
  coordinator_joined m due =
      let own : coordinator_rules.CoordinatorIdentity = record { eui = x.eui; ciphers = network } in
      let unread_none = messages_unread m.station cost note now got (subst (λ (o : Option Message). IsSome o) (sym due.message_is) refl) in
      let plain : coordinator_rules.hear_coordinator own m got cost note now ≡ coordinator_rules.heard_by own m now (hear m.station got cost note now) None =
      ap (λ o. coordinator_rules.heard_by own m now (hear m.station got cost note now) o) unread_none in
      let taken = subst (λ (p : Plan Memory (Result CoordinatorHeard Dropped)). is_reply_taken (coordinator_reception p.answer).answer ≡ true) plain
      due.taken in
      let some : m.station.ring ≢ None =
      λ none. let bad = subst (λ (r : Result Heard Dropped). is_reply_taken (coordinator_reception (coordinator_rules.heard_by_station r)).answer ≡ true)
      (nowhere m.station got.path (unit_in got.payload) due.from due.key cost note now due.path_is none) taken in absurd (cc (bad)) in
      subst (λ (p : Plan Memory (Result CoordinatorHeard Dropped)). IsSome p.memory.station.ring) (sym plain) (ring_some _ (keeps_ring m.station _ due some))

  meter_joined : (psk : Key) (m : Memory)
      → IsDue got.path (message_of got) (meter_reception (meters.hear_meter (identity network x psk) m got cost note now).answer).answer
      → IsSome (meters.hear_meter (identity network x psk) m got cost note now).memory.station.ring
  meter_joined psk m due =
      let unread_none = messages_unread m.station cost note now got (subst (λ (o : Option Message). IsSome o) (sym due.message_is) refl) in
      let plain : meters.hear_meter (identity network x psk) m got cost note now
      ≡ meters.heard_by (identity network x psk) m now (hear m.station got cost note now) None =
      ap (λ o. meters.heard_by (identity network x psk) m now (hear m.station got cost note now) o) unread_none in
      let taken = subst (λ (p : Plan Memory (Result MeterHeard Dropped)). is_reply_taken (meter_reception p.answer).answer ≡ true) plain due.taken in
      let some : m.station.ring ≢ None =
      λ none. let bad = subst (λ (r : Result Heard Dropped). is_reply_taken (meter_reception (meters.heard_by_station r)).answer ≡ true)
      (nowhere m.station got.path (unit_in got.payload) due.from due.key cost note now due.path_is none) taken in absurd (cc (bad)) in
      subst (λ (p : Plan Memory (Result MeterHeard Dropped)). IsSome p.memory.station.ring) (sym plain) (ring_some _ (keeps_ring m.station _ due some))

  joined_by : (role : Role) → IsDue got.path (message_of got) (hears_as x got cost note now role).answer.answer
      → (hears_as x got cost note now role).node.memory ≡ Some n → IsSome n.station.ring
  joined_by Coordinator due here =
      let own : coordinator_rules.CoordinatorIdentity = record { eui = x.eui; ciphers = network } in
      let k = acts_left x (Err drops.Store) (λ m. coordinator_rules.hear_coordinator own m got cost note now) n here in
      subst (λ (q : Memory). IsSome q.station.ring) k.left
      (coordinator_joined k.memory (subst (λ (r : Result CoordinatorHeard Dropped). IsDue got.path (message_of got) (coordinator_reception r).answer) k.answered
      due))
  joined_by (Meter psk) due here =
      let k = acts_left x (Err drops.Store) (λ m. meters.hear_meter (identity network x psk) m got cost note now) n here in
      subst (λ (q : Memory). IsSome q.station.ring) k.left
      (meter_joined psk k.memory (subst (λ (r : Result MeterHeard Dropped). IsDue got.path (message_of got) (meter_reception r).answer) k.answered due))

  pub joined : IsDue got.path (message_of got) (hearing_step network x got cost note now).answer.answer
      → (hearing_step network x got cost note now).node.memory ≡ Some n
      → IsSome n.station.ring
  joined due here = joined_by x.role due here

-- # A frame that was heard where neighbours are checked

-- what is reported where an acknowledgement failed
abbrev pub unacknowledged : receiving.Reception
unacknowledged = record { answer = answers.Store; up = None; took = false; done = None; replied = None }

module _ (w v2 new : World) (number : ℕ) (x : Node) (got : Accepted) (origin : Origin) (cost : ℕ) (r : receiving.Reception) (before out : Out)
    (nodes : List Node)
    (forged : Bool)
    (due_now : Option Reply) (h : Happenings) (bounded : IsBounded (in_run w)) (room : w.events < MAX_EVENTS) (frames : length out.frames ≤ 24)
    (tags : length out.tags.made ≤ 2)
    (at : slice_get w.nodes number ≡ Some x) (rec : Received (hearing_step network x got cost origin.note w.clock) w.nodes number r before nodes)
    (is_forged : forged ≡ (origin.is_forged || list_any (is_forged_tag w.made) before.tags.opened))
    (due_is : due got.path (message_of got) (hearing_step network x got cost origin.note w.clock).answer.answer ≡ due_now) where
  abbrev d : NodeStep Reception
  d = hearing_step network x got cost origin.note w.clock

  abbrev z : Node
  z = d.node

  pub at_heard : slice_get nodes number ≡ Some z
  at_heard = ap (λ (ns : List Node). slice_get ns number) rec.did.nodes_are ∙ slice_get-set w.nodes number z (slice_get_within w.nodes number x at)

  abbrev right : Bool
  right = origin.is_forged || list_any (is_forged_tag w.made) d.opened

  forgery : forged ≡ right
  forgery = is_forged ∙ ap (λ (o : Out). origin.is_forged || list_any (is_forged_tag w.made) o.tags.opened) rec.did.out_is

  abbrev heard : World × Trace
  heard = received network w number right d

  abbrev bb : Beside
  bb = record (beside_at w number) { checks = checks_after (beside_at w number).checks (reply_among d.frames) w.clock }

  abbrev bs : List Beside
  bs = slice_set w.beside number bb

  abbrev noted : World × Trace
  noted = with_check w number (reply_among d.frames) heard

  abbrev v : World
  v = left_of (record w { nodes = nodes }) number before forged r

  first : heard.0 ≡ v
  first = received_left w number x d r before nodes right forged at (hears_eui x got cost origin.note w.clock) rec forgery

  abbrev s : Happenings
  s = reception_happenings (record w { nodes = nodes }) number before forged r

  said_first : s ≡ heard.1.happenings
  said_first = received_said w number x d r before nodes right forged at (hears_eui x got cost origin.note w.clock) rec forgery

  many : length nodes ≡ length w.nodes
  many = received_many w number x d r before nodes right forged at (hears_eui x got cost origin.note w.clock) rec forgery

  -- the nodes that are left, by the acknowledgement
  abbrev left : Option Reply → List Node
  left o = slice_set nodes number (acknowledging_if z o).node

  left_many : (o : Option Reply) → length (left o) ≡ length w.nodes
  left_many o = length-set nodes number (acknowledging_if z o).node ∙ many

  numbers : (reply : Reply) (eui : Eui) → number_of (record w { nodes = left (Some reply); beside = bs }) eui ≡ number_of (record w { nodes = nodes }) eui
  numbers reply eui = same_number (record w { nodes = nodes }) number z (acknowledging z reply).node eui at_heard (acts_eui z (Err locals.Store) _)

  -- what it gave out, where the acknowledgement went out
  given_more : (a : NodeStep (Result (Unit {0}) LocalRefusal)) → is_some a.node.memory ≡ true → out ≡ given_after before a → out ≡ followed before (given_by a)
  given_more a up is = is ∙ ap (λ (b : Bool). if b then followed before (given_by a) else nothing) up

  acknowledged_so : (o : Option Reply) → Acknowledges (record w { nodes = nodes }) number z o before true out v2
      → h ≡ reception_happenings (record w { nodes = left o; beside = bs }) number out forged r
      → new ≡ left_of (record w { nodes = left o; beside = bs }) number out forged r
      → Steps true w (Ok h) new (Ok (acknowledged_if network w number z o noted))
  unfolding world_after
  acknowledged_so None ack said is =
      let nodes_same : slice_set nodes number z ≡ nodes = set_same nodes number z at_heard in
      let world : noted.0 ≡ new =
      ap (λ (u : World). set_beside number bb u) first
      ∙ (λ i. left_of (record w { nodes = sym nodes_same i; beside = bs }) number (sym ack.kept i) forged r) ∙ sym is in
      is_taken_so true w new (Ok noted) noted.1 h (λ i. Ok (world i, noted.1))
      (said ∙ (λ i. reception_happenings (record w { nodes = nodes_same i; beside = bs }) number (ack.kept i) forged r) ∙ said_first)
      (subst IsBounded (sym is) (left_bounded w number (left None) bs out forged r bounded room (left_many None) frames tags))
  acknowledged_so (Some reply) ack said is =
      let a = acknowledging z reply in
      let up : is_some a.node.memory ≡ true = sym ack.done_is in
      let all : out ≡ followed before (given_by a) = given_more a up ack.out_is in
      let step : World × Trace = adds_frames (world_after network noted.0 number a) noted.1 a in
      let by_up : acknowledged network w number a noted ≡ step =
      ap (λ (b : Bool). if b then adds_frames (world_after network noted.0 number a) noted.1 a
      else sends_nothing w (world_after network noted.0 number a, noted.1)) up in
      let ns : List Node = left (Some reply) in
      let world : world_after network noted.0 number a ≡ new =
      ap (λ (u : World). world_after network (set_beside number bb u) number a) first
      ∙ after_is (set_beside number bb v) number a ns (given_by a) refl refl
      ∙ (λ i. record (set_beside number bb v) {
        nodes = ns;
        flights = (append_assoc w.flights (map (flight_by number) before.frames) (map (flight_by number) (given_by a).frames)
            ∙ ap (λ fs. w.flights ++ fs) (sym (map-append (flight_by number) before.frames (given_by a).frames))
            ∙ ap (λ (o : Out). w.flights ++ map (flight_by number) o.frames) (sym all)) i;
        made = (append_assoc w.made before.tags.made (given_by a).tags.made ∙ ap (λ (o : Out). w.made ++ o.tags.made) (sym all)) i;
      })
      ∙ sym is in
      let count : length out.frames ≡ length before.frames + length a.frames =
      ap (λ (o : Out). length o.frames) all ∙ length-append before.frames (given_by a).frames
      ∙ ap (λ n. length before.frames + n) (many_given (spelled network) a.frames) in
      let report_is : h ≡ step.1.happenings =
      said
      ∙ (λ i. record s {
        done = done_pointwise (record w { nodes = ns; beside = bs }) (record w { nodes = nodes }) (numbers reply) r.done i;
        flights = count i;
      })
      ∙ ap (λ (k : Happenings). record k { flights = k.flights + length a.frames }) said_first in
      steps_as _ _ (ap (λ (q : World × Trace). Ok q) by_up)
      (is_taken_so true w new (Ok step) step.1 h (λ i. Ok (world i, step.1)) report_is
      (subst IsBounded (sym is) (left_bounded w number ns bs out forged r bounded room (left_many (Some reply)) frames tags)))

  -- what is said and what is left of a frame, the acknowledgement that was due sent
  pub was_checked : (v3 : World) (sent : Option Reply)
      → IfSome (slice_get nodes number) (λ y. Acknowledges (record w { nodes = nodes }) number y due_now before true out v2)
      → sent ≡ reply_among d.frames → v3 ≡ with_check_of v2 number sent → h ≡ reception_happenings v3 number out forged r → new ≡ left_of v3 number out forged r
      → Steps true w (Ok h) new (Ok (outcome_of_checked network w number x got origin cost))
  was_checked v3 sent acknowledges sent_is checks said is =
      let ack : Acknowledges (record w { nodes = nodes }) number z due_now before true out v2 =
      at_node_after nodes number z (λ y. Acknowledges (record w { nodes = nodes }) number y due_now before true out v2) at_heard acknowledges in
      let v3_is : v3 ≡ record w { nodes = left due_now; beside = bs } =
      checks ∙ ap (λ (u : World). with_check_of u number sent) ack.world_is
      ∙ ap (λ (o : Option Reply). with_check_of (record w { nodes = left due_now }) number o) sent_is in
      steps_as _ _ (ap (λ (o : Option Reply). Ok (acknowledged_if network w number z o noted)) due_is)
      (acknowledged_so due_now ack (said ∙ ap (λ (u : World). reception_happenings u number out forged r) v3_is)
      (is ∙ ap (λ (u : World). left_of u number out forged r) v3_is))

  plain_up : IsOnly d.answer → r.up ≡ None
  plain_up only_it = rec.reports.up ∙ ap (λ o. option_map handed_up o) only_it.0

  plain_done : IsOnly d.answer → r.done ≡ None
  plain_done only_it = rec.reports.done ∙ ap (λ (o : Option CompletedJoining). option_map (λ (c : CompletedJoining). c.eui) o) only_it.2

  failed_so : (o : Option Reply) → due got.path (message_of got) d.answer.answer ≡ o → Acknowledges (record w { nodes = nodes }) number z o before false out v2
      → h ≡ reception_happenings v2 number out forged unacknowledged → new ≡ left_of v2 number out forged unacknowledged
      → Steps true w (Ok h) new (Ok (acknowledged_if network w number z o noted))
  unfolding world_after
  failed_so None e ack said is = let bad : false ≡ true = ack.done_is in absurd (cc (bad))
  failed_so (Some reply) e ack said is =
      let a = acknowledging z reply in
      let down : is_some a.node.memory ≡ false = sym ack.done_is in
      let none : out ≡ nothing = ack.out_is ∙ ap (λ (b : Bool). if b then followed before (given_by a) else nothing) down in
      let only_it = hears_only x got cost origin.note w.clock (is_due got.path (message_of got) d.answer.answer reply e).taken in
      let step : World × Trace = sends_nothing w (world_after network noted.0 number a, noted.1) in
      let by_down : acknowledged network w number a noted ≡ step =
      ap (λ (b : Bool). if b then adds_frames (world_after network noted.0 number a) noted.1 a
      else sends_nothing w (world_after network noted.0 number a, noted.1)) down in
      let ns : List Node = left (Some reply) in
      let up = plain_up only_it in
      let done = plain_done only_it in
      let rest : World = left_of (record w { nodes = ns }) number nothing forged unacknowledged in
      let world : step.0 ≡ new =
      ap (λ (u : World). record (world_after network (set_beside number bb u) number a) { flights = w.flights; made = w.made; beside = w.beside }) first
      ∙ ap (λ (u : World). record u { flights = w.flights; made = w.made; beside = w.beside })
      (after_is (set_beside number bb v) number a ns (given_by a) refl refl)
      ∙ (λ i. record v {
        nodes = ns;
        flights = sym (append-nil w.flights) i;
        made = sym (append-nil w.made) i;
        ups = number_if (is_some (up i)) w.ups;
        done = number_if (is_some (done i)) w.done;
      })
      ∙ ap (λ (o : Out). left_of (record w { nodes = ns }) number o forged unacknowledged) (sym none)
      ∙ ap (λ (u : World). left_of u number out forged unacknowledged) (sym ack.world_is) ∙ sym is in
      let report_is : h ≡ step.1.happenings =
      said ∙ ap (λ (u : World). reception_happenings u number out forged unacknowledged) ack.world_is
      ∙ ap (λ (o : Out). reception_happenings (record w { nodes = ns }) number o forged unacknowledged) none
      ∙ (λ i. record (happenings w answers.Store) {
        forged = forgery i;
        up = handed_by number (sym only_it.0 i);
        took = option_map (λ _. number) (sym only_it.1 i);
        done = option_map (λ (p : Pairing). p.node) (done_by w (sym only_it.2 i));
      }) in
      steps_as _ _ (ap (λ (q : World × Trace). Ok q) by_down)
      (is_taken_so true w new (Ok step) step.1 h (λ i. Ok (world i, step.1)) report_is
      (subst IsBounded (sym (is ∙ ap (λ (u : World). left_of u number out forged unacknowledged) ack.world_is))
      (left_bounded w number ns w.beside out forged unacknowledged bounded room (left_many (Some reply)) frames tags)))

  -- the same, where its put failed
  pub was_unacknowledged : IfSome (slice_get nodes number) (λ y. Acknowledges (record w { nodes = nodes }) number y due_now before false out v2)
      → h ≡ reception_happenings v2 number out forged unacknowledged → new ≡ left_of v2 number out forged unacknowledged
      → Steps true w (Ok h) new (Ok (outcome_of_checked network w number x got origin cost))
  was_unacknowledged acknowledges said is =
      let ack : Acknowledges (record w { nodes = nodes }) number z due_now before false out v2 =
      at_node_after nodes number z (λ y. Acknowledges (record w { nodes = nodes }) number y due_now before false out v2) at_heard acknowledges in
      steps_as _ _ (ap (λ (o : Option Reply). Ok (acknowledged_if network w number z o noted)) due_is) (failed_so due_now due_is ack said is)

-- # Which rule a frame comes to

-- a command for the neighbours is no request, so it is never dropped unbelieved
pub command_heard : (w : World) (number : ℕ) (got : Accepted) (c : NeighbourCommand) → command_of got ≡ Some c → is_dropped w number got ≡ false
command_heard w number got c e = by_on w.checks_on (not_unbelieved got.path (unit_in got.payload) e)
  where
    by_on : (b : Bool) → is_unbelieved (beside_at w number).checks got.path (message_of got) ≡ false
        → (b && is_unbelieved (beside_at w number).checks got.path (message_of got)) ≡ false
    by_on true h = h
    by_on false h = refl

    by_code : (from : ℕ) (all : Bool) (code : ℕ) (body : List ℕ) (s t : Bool)
        → (if s then None else (if t then None else Some (record { from = from; to_all = all; code = code; body = body }))) ≡ Some c
        → asks_unbelieved (beside_at w number).checks from (if s then message_in body else None) ≡ false
    by_code from all code body true t is = absurd (cc (is))
    by_code from all code body false t is = refl

    not_unbelieved : (p : Path) (o : Option MeshUnit) → command_on p o ≡ Some c
        → is_unbelieved (beside_at w number).checks p (option_and_then route_message o) ≡ false
    not_unbelieved (paths.Sealed from false key) o is = refl
    not_unbelieved (paths.Sealed from true key) None is = absurd (cc (is))
    not_unbelieved (paths.Sealed from true key) (Some (units.Local code body)) is = by_code from true code body (code == 1) (code == 2) is
    not_unbelieved (paths.Sealed from true key) (Some (units.Whole mesh octets)) is = absurd (cc (is))
    not_unbelieved (paths.Sealed from true key) (Some (units.Part mesh piece)) is = absurd (cc (is))
    not_unbelieved (paths.Sealed from true key) (Some (units.Carried mesh body)) is = absurd (cc (is))
    not_unbelieved (paths.Up from) o is = refl
    not_unbelieved (paths.Down from) o is = refl
