-- What a node does about a command for the neighbours that hear it, and about a request that is not believed.
use Rattle.std.proofs.Common.{◌≡◌, ℕ, zero, suc, ◌+◌, ◌<◌, ◌≤◌, Bool, true, false, ◌||◌, List, [], ◌∷◌, ◌++◌, length, map, Option, Some, None}
use Rattle.std.proofs.Common.{Result, Ok, Err, refl, sym, ap, subst, ◌∙◌, if◌then◌else◌, arith}
use Rattle.std.specs.Prelude.{◌==◌, All, IfSome, is_some, slice_get, slice_set, unwrap_or}
use Rattle.std.specs.List.{list_any}
use Rattle.std.specs.Option.{option_map_or}
use Rattle.std.proofs.lemmas.List.{append-nil, length-set}
use Rattle.std.proofs.lemmas.List.Elements.{All-nil}
use Rattle.std.proofs.lemmas.Option.{same_Some, slice_get_within}
use Rattle.store_tables.proofs.SlotTables.{slice_get-set}
use Rattle.store_tables.specs.Writes.{Written, write}
use Rattle.plc_base.specs.declared.address.Eui.{Eui}
use Rattle.plc_base.specs.declared.key.Key.{Key}
use Rattle.plc_base.specs.declared.out_frame.Out.{Out}
use Rattle.plc_base.specs.Keeper.{Write}
use Rattle.mesh_header.specs.declared.unit.Unit.{Unit as MeshUnit}
use Rattle.mesh_header.specs.declared.unit.Unit.TheVariants as units
use Rattle.mesh_header.specs.Reader.{unit_in}
use Rattle.broadcast_log.specs.Log.{AgreesWith}
use Rattle.node_rules.specs.Accepted.{Accepted}
use Rattle.node_rules.specs.declared.heard.Heard.TheVariants as heard_words
use Rattle.node_rules.specs.declared.heard.Path.{Path}
use Rattle.node_rules.specs.declared.heard.Path.TheVariants as paths
use Rattle.node_rules.specs.declared.refusal.Dropped.TheVariants as drops
use Rattle.node_rules.specs.CarriedPlans.{nothing}
use Rattle.node_rules.specs.Ciphers.{network}
use Rattle.node_rules.specs.Coordinators as coordinator_rules
use Rattle.node_rules.specs.Drafts.{choose as choose_plan}
use Rattle.node_rules.specs.Frames.{spelled}
use Rattle.node_rules.specs.HearingRules.{Hearing, drop_it, hear, hear_sealed, hear_unit_in}
use Rattle.node_rules.specs.LogSlots.{IsBesideLog, LeavesLog}
use Rattle.node_rules.specs.Memory.{Memory, Node, Role, Coordinator, Meter, StationMemory, address_of}
use Rattle.node_rules.specs.MemoryDrafts.{in_memory, unread}
use Rattle.node_rules.specs.Meters as meters
use Rattle.node_rules.specs.Neighbours.{followed}
use Rattle.node_rules.specs.NodeSteps.{NodeStep, acts, answering, left_by, stays}
use Rattle.node_rules.specs.Plans.{Plan, carry_out, finished, halted as cut_off, resting}
use Rattle.reach_rules.specs.declared.heard.CommandHeard.{CommandHeard}
use Rattle.reach_rules.specs.declared.refusal.ReachDropped.{ReachDropped}
use Rattle.reach_rules.specs.declared.refusal.ReachDropped.TheVariants.{Known}
use Rattle.reach_rules.specs.ReachingNodes.{Beside, Reaching, nothing_beside}
use Rattle.reach_rules.specs.FurtherReceptions.{NeighbourCommand, command_of, command_on, command_with, hear_command}
use Rattle.line_flights.specs.declared.flights.Origin.{Origin}
use Rattle.line_events.specs.declared.event.Answer.TheVariants as answers
use Rattle.line_events.specs.declared.event.TheConstants.{MAX_EVENTS}
use Rattle.line_events.specs.declared.happenings.Happenings.{Happenings}
use Rattle.line_rules.specs.Answers.{Reception, command_word, coordinator_reception, meter_reception, only}
use Rattle.line_rules.specs.Further.{beside_after, beside_at, broadcast_up, command_trace, has_reached, path_line, reaches, set_beside}
use Rattle.line_rules.specs.Logs.{LogIn}
use Rattle.line_rules.specs.Steps.{flight_by, hearing_step, identity, number_of, received, world_after}
use Rattle.line_rules.specs.Worlds.{Trace, World, is_forged_tag}
use Rattle.line_rules.proofs.LogSteps.{NodeIn, Quiet, acts_quiet}
use Rattle.line_world.specs.declared.nodes.command.Commanded.{Commanded}
use Rattle.line_world.specs.declared.nodes.reception.Reception as receiving
use Rattle.line_world.specs.Arrivals.{done_in, in_run, left_of, reception_happenings, outcome_of_unbelieved, outcome_of_command as heard_by_command}
use Rattle.line_world.specs.Bounds.{IsBounded}
use Rattle.line_world.specs.NodeOutcomes.{given_by}
use Rattle.line_world.specs.FurtherOutcomes.{DidAfter, IsLogOf, ReachedCommand, given_after}
use Rattle.line_world.specs.Receptions.{Received}
use Rattle.line_world.specs.Steps.{Steps}
use Rattle.line_world.proofs.Arrivals.{acts_eui, at_node_after, hears_eui, left_bounded, received_left, received_many, received_said, same_number, was_received}
use Rattle.line_world.proofs.EventSteps.{after, is_taken_so, many_given, after_is}

-- # Lists of nodes and of what stands beside them

pub set_same : (nodes : List Node) (number : ℕ) (x : Node) → slice_get nodes number ≡ Some x → slice_set nodes number x ≡ nodes
set_same [] number x at = absurd (cc (at))
set_same (y ∷ nodes) zero x at = ap (λ (z : Node). z ∷ nodes) (sym (same_Some _ _ at))
set_same (y ∷ nodes) (suc number) x at = ap (λ (ns : List Node). y ∷ ns) (set_same nodes number x at)

-- what stands beside a node stays
pub beside_same : (bs : List Beside) (number : ℕ) → slice_set bs number (unwrap_or (slice_get bs number) nothing_beside) ≡ bs
beside_same [] number = refl
beside_same (b ∷ bs) zero = refl
beside_same (b ∷ bs) (suc number) = ap (λ (cs : List Beside). b ∷ cs) (beside_same bs number)

-- # A request that is not believed

-- what is reported of it
abbrev pub blacklisted : receiving.Reception
blacklisted = record { answer = answers.Blacklisted; up = None; took = false; done = None; replied = None }

pub was_unbelieved : (w new : World) (number : ℕ) (x : Node) (origin : Origin) (out : Out) (forged : Bool) (h : Happenings) → IsBounded (in_run w)
    → w.events < MAX_EVENTS
    → length out.frames ≤ 24 → length out.tags.made ≤ 2 → slice_get w.nodes number ≡ Some x → out ≡ nothing
    → forged ≡ (origin.is_forged || list_any (is_forged_tag w.made) out.tags.opened)
    → h ≡ reception_happenings w number out forged blacklisted → new ≡ left_of w number out forged blacklisted
    → Steps true w (Ok h) new (Ok (outcome_of_unbelieved network w number x origin))
was_unbelieved w new number x origin out forged h b room frames tags at none is_forged said is =
    was_received w new number x origin (stays x (only answers.Blacklisted)) blacklisted out w.nodes forged h b room frames tags at refl
    (record {
      reports = record { answer = refl; up = refl; took = refl; done = refl };
      did = record { answer_is = refl; out_is = none; nodes_are = sym (set_same w.nodes number x at) };
    }) is_forged said is

-- # Commands, by the rules without further reach

-- a plan that stores, sends and makes nothing
abbrev Silent : {M A : Type 0} → Plan M A → Type 0
Silent p = (p.puts ≡ []) × (p.frames ≡ []) × (p.made ≡ [])

station_silent : (l : StationMemory) (got : Accepted) (cost note now : ℕ) (c : NeighbourCommand) → command_of got ≡ Some c
    → Silent (hear l got cost note now) × (unread (hear l got cost note now).answer ≡ None)
unfolding resting choose_plan
station_silent l got cost note now c e = by_path got.path (unit_in got.payload) e
  where
    Nothing : Hearing → Type 0
    Nothing p = Silent p × (unread p.answer ≡ None)

    by_code : (own from : ℕ) (all : Bool) (code : ℕ) (body : List ℕ) (s t : Bool) (m p : Hearing)
        → (if s then None else (if t then None else Some (record { from = from; to_all = all; code = code; body = body }))) ≡ Some c
        → Nothing (if s then m else (if t then p else resting l (Ok (heard_words.Local from all code body)) (Err drops.Store)))
    by_code own from all code body true t m p is = absurd (cc (is))
    by_code own from all code body false true m p is = absurd (cc (is))
    by_code own from all code body false false m p is = ((refl, refl, refl), refl)

    by_address : (o : Option ℕ) (from : ℕ) (all : Bool) (unit : MeshUnit) → command_with from all (Some unit) ≡ Some c
        → Nothing (option_map_or (λ a. hear_sealed l a from all unit cost note now) o (drop_it l drops.BadUnit))
    by_address None from all unit is = ((refl, refl, refl), refl)
    by_address (Some own) from all (units.Local code body) is = by_code own from all code body (code == 1) (code == 2) _ _ is
    by_address (Some own) from all (units.Whole mesh octets) is = absurd (cc (is))
    by_address (Some own) from all (units.Part mesh piece) is = absurd (cc (is))
    by_address (Some own) from all (units.Carried mesh body) is = absurd (cc (is))

    by_path : (p : Path) (o : Option MeshUnit) → command_on p o ≡ Some c → Nothing (hear_unit_in l p o cost note now)
    by_path p None is = ((refl, refl, refl), refl)
    by_path (paths.Sealed from all key) (Some unit) is = by_address (address_of l) from all unit is
    by_path (paths.Up from) (Some unit) is = absurd (cc (is))
    by_path (paths.Down from) (Some unit) is = absurd (cc (is))

-- what a node carries out that stores, sends and makes nothing
acts_silent : {A : Type 0} (x : Node) (halted : A) (plan : Memory → Plan Memory A) → ((m : Memory) → Silent (plan m))
    → ((acts x halted plan).frames ≡ []) × ((acts x halted plan).made ≡ [])
unfolding acts carry_out
acts_silent {A} x halted plan silent = by_memory x.memory
  where
    by_whole : (b : Bool) (m : Memory) (w : Written)
        → ((if b then finished w (plan m) else cut_off w (plan m)).frames ≡ []) × ((if b then finished w (plan m) else cut_off w (plan m)).made ≡ [])
    by_whole true m w = ((silent m).1, (silent m).2)
    by_whole false m w = (refl, refl)

    by_memory : (o : Option Memory) → ((option_map_or (λ m. left_by x (carry_out x.store.records x.store.cut (plan m))) o (stays x halted)).frames ≡ [])
        × ((option_map_or (λ m. left_by x (carry_out x.store.records x.store.cut (plan m))) o (stays x halted)).made ≡ [])
    by_memory None = (refl, refl)
    by_memory (Some m) =
        let w : Written = write (plan m).puts x.store.cut x.store.records in
        by_whole w.whole m w

-- A node sends and makes nothing of a command, and its log stays.
pub record HearsNothing (x : Node) (d : NodeStep Reception) : Type 0 where
  pub frames : d.frames ≡ []
  pub made : d.made ≡ []
  pub quiet : Quiet x d.node

-- what a node hears, by its role
abbrev pub hears_as : Node → Accepted → (cost note now : ℕ) → Role → NodeStep Reception
hears_as x got cost note now Coordinator =
    answering coordinator_reception
    (acts x (Err drops.Store) (λ m. coordinator_rules.hear_coordinator (record { eui = x.eui; ciphers = network }) m got cost note now))
hears_as x got cost note now (Meter psk) =
    answering meter_reception (acts x (Err drops.Store) (λ m. meters.hear_meter (identity network x psk) m got cost note now))

module _ (x : Node) (got : Accepted) (cost note now : ℕ) (c : NeighbourCommand) (e : command_of got ≡ Some c) where
  abbrev own : coordinator_rules.CoordinatorIdentity
  own = record { eui = x.eui; ciphers = network }

  coordinator_silent : (m : Memory) → Silent (coordinator_rules.hear_coordinator own m got cost note now)
  coordinator_silent m =
      let s = station_silent m.station got cost note now c e in
      subst (λ o. Silent (coordinator_rules.heard_by own m now (hear m.station got cost note now) o)) (sym s.1) s.0

  meter_silent : (psk : Key) (m : Memory) → Silent (meters.hear_meter (identity network x psk) m got cost note now)
  meter_silent psk m =
      let s = station_silent m.station got cost note now c e in
      subst (λ o. Silent (meters.heard_by (identity network x psk) m now (hear m.station got cost note now) o)) (sym s.1) s.0

  leaves : {A : Type 0} (p : Plan Memory A) → Silent p → LeavesLog p
  leaves p s = subst (λ (ps : List Write). All IsBesideLog ps) (sym s.0) (All-nil IsBesideLog)

  by_role : (role : Role) → HearsNothing x (hears_as x got cost note now role)
  by_role Coordinator =
      let s = acts_silent x (Err drops.Store) (λ m. coordinator_rules.hear_coordinator own m got cost note now) coordinator_silent in
      record {
        frames = s.0;
        made = s.1;
        quiet = acts_quiet x (Err drops.Store) (λ m. coordinator_rules.hear_coordinator own m got cost note now)
            (λ m here. leaves (coordinator_rules.hear_coordinator own m got cost note now) (coordinator_silent m));
      }
  by_role (Meter psk) =
      let s = acts_silent x (Err drops.Store) (λ m. meters.hear_meter (identity network x psk) m got cost note now) (meter_silent psk) in
      record {
        frames = s.0;
        made = s.1;
        quiet = acts_quiet x (Err drops.Store) (λ m. meters.hear_meter (identity network x psk) m got cost note now)
            (λ m here. leaves (meters.hear_meter (identity network x psk) m got cost note now) (meter_silent psk m));
      }

  pub command_silent : HearsNothing x (hearing_step network x got cost note now)
  command_silent = by_role x.role

-- the log beside a node is what its store gives, unless it is halted
pub log_of : (b : Beside) (x : Node) → NodeIn b.log x → IsLogOf b x
log_of b x h = by x.memory h
  where
    by : (o : Option Memory) → LogIn b.log x.store.records o → IfSome o (λ _. AgreesWith b.log x.store.records)
    by None k = tt
    by (Some m) k = k.kept

-- # A command that was heard

abbrev heard_halted : Result CommandHeard ReachDropped
heard_halted = Err (Known drops.Store)

abbrev hears_command : NeighbourCommand → Reaching Memory → Plan (Reaching Memory) (Result CommandHeard ReachDropped)
hears_command c y = hear_command in_memory y c

-- a node that has halted gives nothing out
halted_silent : {A : Type 0} (x : Node) (halted : A) (plan : Memory → Plan Memory A) → is_some (acts x halted plan).node.memory ≡ false
    → ((acts x halted plan).frames ≡ []) × ((acts x halted plan).made ≡ [])
unfolding acts carry_out
halted_silent {A} x halted plan = by_memory x.memory
  where
    did : Option Memory → NodeStep A
    did o = option_map_or (λ m. left_by x (carry_out x.store.records x.store.cut (plan m))) o (stays x halted)

    by_whole : (b : Bool) (m : Memory) (w : Written) → is_some (if b then finished w (plan m) else cut_off w (plan m)).memory ≡ false
        → ((if b then finished w (plan m) else cut_off w (plan m)).frames ≡ []) × ((if b then finished w (plan m) else cut_off w (plan m)).made ≡ [])
    by_whole true m w e = absurd (cc (e))
    by_whole false m w e = (refl, refl)

    by_memory : (o : Option Memory) → is_some (did o).node.memory ≡ false → ((did o).frames ≡ []) × ((did o).made ≡ [])
    by_memory None e = (refl, refl)
    by_memory (Some m) e =
        let w : Written = write (plan m).puts x.store.cut x.store.records in
        by_whole w.whole m w e

-- what it gives out after nothing
given_frames : {A : Type 0} (before : Out) (d : NodeStep A) → before.frames ≡ [] → before.tags.made ≡ []
    → (is_some d.node.memory ≡ false → (d.frames ≡ []) × (d.made ≡ []))
    → ((given_after before d).frames ≡ (given_by d).frames) × ((given_after before d).tags.made ≡ (given_by d).tags.made)
given_frames before d frames made down = by (is_some d.node.memory) down
  where
    by : (b : Bool) → (b ≡ false → (d.frames ≡ []) × (d.made ≡ []))
        → ((if b then followed before (given_by d) else nothing).frames ≡ (given_by d).frames)
        × ((if b then followed before (given_by d) else nothing).tags.made ≡ (given_by d).tags.made)
    by true h = (ap (λ fs. fs ++ (given_by d).frames) frames, ap (λ ts. ts ++ (given_by d).tags.made) made)
    by false h = (sym (ap (map (spelled network)) (h refl).0), sym (h refl).1)

pub done_pointwise : (v u : World) → ((eui : Eui) → number_of v eui ≡ number_of u eui) → (o : Option Eui) → done_in v o ≡ done_in u o
done_pointwise v u same None = refl
done_pointwise v u same (Some eui) = ap Some (same eui)

-- what is said and what is left of a frame with a command for the neighbours
pub was_commanded : (w new : World) (number : ℕ) (x : Node) (got : Accepted) (c : NeighbourCommand) (origin : Origin) (cost : ℕ) (r : receiving.Reception)
    (before out : Out)
    (nodes left : List Node) (forged : Bool) (commanded : Commanded) (b after_b : Beside) (h : Happenings) → IsBounded (in_run w) → w.events < MAX_EVENTS
    → length out.frames ≤ 24 → length out.tags.made ≤ 2 → slice_get w.nodes number ≡ Some x → command_of got ≡ Some c
    → Received (hearing_step network x got cost origin.note w.clock) w.nodes number r before nodes → b ≡ beside_at w number
    → IfSome (slice_get nodes number) (λ y. ReachedCommand y b c nodes number commanded before out left after_b)
    → forged ≡ (origin.is_forged || list_any (is_forged_tag w.made) before.tags.opened)
    → h ≡ record (reception_happenings (record w { nodes = left; beside = slice_set w.beside number after_b }) number out forged r)
    { answer = commanded.answer; bup = commanded.bup; path = commanded.path }
    → new ≡ left_of (record w { nodes = left; beside = slice_set w.beside number after_b }) number out forged r
    → Steps true w (Ok h) new (Ok (heard_by_command network w number x got origin cost (Some c)))
unfolding world_after
was_commanded w new number x got c origin cost r before out nodes left forged commanded b after_b h bounded room frames tags at command rec held reached
    is_forged said is =
    let d : NodeStep Reception = hearing_step network x got cost origin.note w.clock in
    let z : Node = d.node in
    let silent = command_silent x got cost origin.note w.clock c command in
    let at_z : slice_get nodes number ≡ Some z =
    ap (λ (ns : List Node). slice_get ns number) rec.did.nodes_are ∙ slice_get-set w.nodes number z (slice_get_within w.nodes number x at) in
    let a : NodeStep (Result CommandHeard ReachDropped) = reaches z (beside_at w number) heard_halted (hears_command c) in
    let rc : ReachedCommand z (beside_at w number) c nodes number commanded before out left after_b =
    subst (λ (k : Beside). ReachedCommand z k c nodes number commanded before out left after_b) held
    (at_node_after nodes number z (λ y. ReachedCommand y b c nodes number commanded before out left after_b) at_z reached) in
    let did : DidAfter a nodes number a.answer before out left = rc.reached.did in
    let right : Bool = origin.is_forged || list_any (is_forged_tag w.made) d.opened in
    let forgery : forged ≡ right = is_forged ∙ ap (λ (o : Out). origin.is_forged || list_any (is_forged_tag w.made) o.tags.opened) rec.did.out_is in
    let none : before.frames ≡ [] = ap (λ (o : Out). o.frames) rec.did.out_is ∙ ap (map (spelled network)) silent.frames in
    let none_made : before.tags.made ≡ [] = ap (λ (o : Out). o.tags.made) rec.did.out_is ∙ silent.made in
    let given = given_frames before a none none_made (halted_silent z heard_halted _) in
    let out_frames : out.frames ≡ (given_by a).frames = ap (λ (o : Out). o.frames) did.out_is ∙ given.0 in
    let out_made : out.tags.made ≡ (given_by a).tags.made = ap (λ (o : Out). o.tags.made) did.out_is ∙ given.1 in
    let v : World = left_of (record w { nodes = nodes }) number before forged r in
    let first = received_left w number x d r before nodes right forged at (hears_eui x got cost origin.note w.clock) rec forgery in
    let heard : World × Trace = received network w number right d in
    let bs : List Beside = slice_set w.beside number after_b in
    let second : has_reached network v number z heard_halted (hears_command c) a ≡ set_beside number after_b (after v number left (given_by a)) =
    ap (λ (u : World). set_beside number (beside_after z (beside_at w number) (hears_command c) a.node) u)
    (after_is v number a left (given_by a) refl did.nodes_are)
    ∙ ap (λ (k : Beside). set_beside number k (after v number left (given_by a))) (sym rc.reached.beside) in
    let third : set_beside number after_b (after v number left (given_by a)) ≡ left_of (record w { nodes = left; beside = bs }) number out forged r =
    λ i. record v {
      nodes = left;
      flights = (ap (λ fs. (w.flights ++ map (flight_by number) fs) ++ map (flight_by number) (given_by a).frames) none
          ∙ ap (λ fs. fs ++ map (flight_by number) (given_by a).frames) (append-nil w.flights)
          ∙ ap (λ fs. w.flights ++ map (flight_by number) fs) (sym out_frames)) i;
      made = (ap (λ ts. (w.made ++ ts) ++ (given_by a).tags.made) none_made ∙ ap (λ ts. ts ++ (given_by a).tags.made) (append-nil w.made)
          ∙ ap (λ ts. w.made ++ ts) (sym out_made)) i;
      beside = bs;
    } in
    let world : has_reached network heard.0 number z heard_halted (hears_command c) (reaches z (beside_at heard.0 number) heard_halted (hears_command c))
    ≡ new =
    ap (λ (u : World). has_reached network u number z heard_halted (hears_command c) (reaches z (beside_at u number) heard_halted (hears_command c))) first
    ∙ second ∙ third ∙ sym is in
    let trace : Trace = command_trace number z c heard.1 a in
    let numbers : (eui : Eui) → number_of (record w { nodes = left; beside = bs }) eui ≡ number_of (record w { nodes = nodes }) eui =
    λ eui. ap (λ (ns : List Node). number_of (record w { nodes = ns }) eui) did.nodes_are
    ∙ same_number (record w { nodes = nodes }) number z a.node eui at_z (acts_eui z heard_halted _) in
    let many : length out.frames ≡ length before.frames + length a.frames =
    (let o : length out.frames ≡ length a.frames = ap (λ fs. length fs) out_frames ∙ many_given (spelled network) a.frames in
    let n : length before.frames ≡ 0 = ap (λ fs. length fs) none in omega (arith, o, n)) in
    let s : Happenings = reception_happenings (record w { nodes = nodes }) number before forged r in
    let report_is : h ≡ trace.happenings =
    said
    ∙ (λ i. record s {
      answer = rc.reports.answer i;
      bup = rc.reports.bup i;
      path = rc.reports.path i;
      done = done_pointwise (record w { nodes = left; beside = bs }) (record w { nodes = nodes }) numbers r.done i;
      flights = many i;
    })
    ∙ ap (λ (k : Happenings). record k {
      answer = command_word a.answer;
      bup = broadcast_up number a.answer;
      path = path_line number a.answer;
      flights = k.flights + length a.frames;
    }) (received_said w number x d r before nodes right forged at (hears_eui x got cost origin.note w.clock) rec forgery) in
    let same : length left ≡ length w.nodes =
    ap (λ (ns : List Node). length ns) did.nodes_are ∙ length-set nodes number a.node
    ∙ received_many w number x d r before nodes right forged at (hears_eui x got cost origin.note w.clock) rec forgery in
    is_taken_so true w new (Ok (
      has_reached network heard.0 number z heard_halted (hears_command c)
          (reaches z (beside_at heard.0 number) heard_halted (hears_command c)),
      trace,
    )) trace h
    (λ i. Ok (world i, trace)) report_is
    (subst IsBounded (sym is) (left_bounded w number left bs out forged r bounded room same frames tags))
