-- Flights that come to a node or are lost, and what a node makes of octets that come to it.
use Rattle.std.proofs.Common.{◌≡◌, ℕ, zero, suc, ◌+◌, ◌<◌, ◌≤◌, Bool, true, false, cond, ◌||◌, List, [], ◌∷◌, length, Option, Some, None, Result, Ok, Err, refl}
use Rattle.std.proofs.Common.{sym, ap, subst, ◌∙◌, if◌then◌else◌, arith}
use Rattle.std.specs.Prelude.{◌==◌, IfSome, IfOk, IsOk, MatchOption, is_ok, is_some, nat_lt, slice_get, slice_set}
use Rattle.std.specs.List.{list_any}
use Rattle.std.specs.Option.{option_copied, option_map, option_map_or}
use denote.Ref.{Bor}
use Rattle.std.proofs.lemmas.List.{append-nil, length-set, set-set}
use Rattle.std.proofs.lemmas.List.Folds.{position_or_len-set}
use Rattle.std.proofs.lemmas.Option.{get_or_from_slice_get, same_Some, slice_get_within}
use Rattle.store_tables.proofs.SlotTables.{slice_get-set}
use Rattle.plc_base.specs.declared.address.Eui.{Eui}
use Rattle.plc_base.specs.declared.out_frame.Out.{Out}
use Rattle.plc_base.specs.Fields.{AreOctets}
use Rattle.plc_base.specs.declared.tags.PairTag.{PairTag}
use Rattle.mesh_header.specs.declared.unit.Unit.{Unit as MeshUnit}
use Rattle.mesh_header.specs.declared.unit.Unit.TheVariants as units
use Rattle.mesh_header.specs.Reader.{unit_in}
use Rattle.mesh_header.proofs.UnitOctets.{read_octets}
use Rattle.eap_psk.specs.declared.server.Agreed.{Agreed}
use Rattle.node_rules.specs.Accepted.{Accepted}
use Rattle.node_rules.specs.declared.heard.Path.{Path}
use Rattle.node_rules.specs.declared.heard.Path.TheVariants as paths
use Rattle.node_rules.specs.declared.refusal.Dropped.TheVariants as drops
use Rattle.node_rules.specs.declared.refusal.FrameRefusal.{FrameRefusal}
use Rattle.node_rules.specs.declared.refusal.FrameRefusal.TheVariants as frame_refusals
use Rattle.node_rules.specs.declared.heard.Reply.{Reply}
use Rattle.node_rules.specs.Acceptance.{accept, same_eui}
use Rattle.node_rules.specs.CarriedPlans.{nothing}
use Rattle.node_rules.specs.Ciphers.{network}
use Rattle.node_rules.specs.Coordinators as coordinator_rules
use Rattle.node_rules.specs.Frames.{arrived, spelled}
use Rattle.node_rules.specs.Memory.{Memory, Node, Role, Coordinator, Meter}
use Rattle.node_rules.specs.Meters as meters
use Rattle.node_rules.specs.NodeSteps.{NodeStep, acts, answering, left_by, of_station, stays}
use Rattle.node_rules.specs.Plans.{Plan, carry_out}
use Rattle.node_rules.specs.Replies.{reply_among}
use Rattle.node_rules.specs.Tables.{HasShortTables}
use Rattle.node_rules.proofs.LogPuts.{stations_leave_log}
use Rattle.pan_discovery.specs.declared.message.Discovery.{Discovery}
use Rattle.pan_discovery.specs.Reader.{discovery_in}
use Rattle.reach_rules.specs.Beacons.{is_discovery}
use Rattle.reach_rules.specs.CheckedReplies.{message_of}
use Rattle.reach_rules.specs.ReachingNodes.{Beside}
use Rattle.reach_rules.specs.FurtherReceptions.{NeighbourCommand, command_of, command_on, command_with}
use Rattle.line_flights.specs.declared.flights.Origin.{Origin}
use Rattle.line_flights.specs.Flown.{Flown, not_lost}
use Rattle.line_world.specs.declared.nodes.reception.Reception as receiving
use Rattle.line_world.specs.NodeOutcomes.{Did}
use Rattle.line_world.specs.Receptions.{Received, handed_up}
use Rattle.line_events.specs.declared.event.StepFault.TheVariants as faults
use Rattle.line_events.specs.declared.event.TheConstants.{MAX_EVENTS}
use Rattle.line_events.specs.declared.happenings.Happenings.{Happenings}
use Rattle.line_events.specs.declared.event.Answer.TheVariants as answers
use Rattle.line_rules.specs.Answers.{CompletedJoining, Reception, Up, coordinator_reception, frame_word, meter_reception, only}
use Rattle.line_rules.specs.Forgery.{accepting}
use Rattle.line_rules.specs.Further.{accepted_further, acknowledged_if, checked, comes, commanded, discovers_by, due, hearing_outcome_by}
use Rattle.line_rules.specs.Further.{further_hearing_outcome, injects, is_dropped, unbelieved, with_check, delivers as delivers_by}
use Rattle.line_rules.specs.Logs.{AreLogged, LogsKept}
use Rattle.line_rules.proofs.LogSteps.{Quiet, acts_quiet, log_at, logged_at, quiet_in, set_node}
use Rattle.line_rules.specs.Worlds.{Flight, Pairing, Trace, World, flight_at, is_forged_tag, node_at}
use Rattle.line_rules.specs.Steps.{Step, done_by, forged_by, handed_by, happenings, hearing_outcome, has_begun, hearing_step, identity, note_by, number_if}
use Rattle.line_rules.specs.Steps.{number_of, on_flight, running_world, received, reception_trace, world_after, trace_of}
use Rattle.line_world.specs.Arrivals.{outcome_of_checked, outcome_of_arrival, done_in, forged_in, handed_in, outcome_of_further, outcome_of_hearing, in_run}
use Rattle.line_world.specs.Arrivals.{left_of, note_in, outcome_of_reception, reception_happenings, taker_in, outcome_of_unbelieved}
use Rattle.line_world.specs.Arrivals.{outcome_of_command as heard_by_command}
use Rattle.line_world.specs.Bounds.{IsBounded}
use Rattle.line_world.specs.Discovery.{discovered_by, discovered_in}
use Rattle.line_world.specs.NamedNodes.{found}
use Rattle.line_world.specs.Soundness.{AreShort, IsShort}
use Rattle.line_world.specs.Steps.{Steps}
use Rattle.line_world.proofs.EventSteps.{IsThere, after, at_node, begun, bounded_after, has_coordinator, is_taken_so, is_there, many_given, refused, steps_as}
use Rattle.line_world.proofs.EventSteps.{after_is}

-- # Flights

-- a flight that is none, or was lost, does not come
pub not_flying : (w : World) (number : ℕ) (k : Flight → Step) → not_lost (flight_at w number) ≡ None → on_flight w number k ≡ Err faults.Flight
not_flying w number k is = by (flight_at w number) is
  where
    by_lost : (f : Flight) (lost : Bool) → (if lost then None else Some f) ≡ None → (if lost then Err faults.Flight else k f) ≡ Err faults.Flight
    by_lost f true is = refl
    by_lost f false is = absurd (cc)

    by : (o : Option Flight) → not_lost o ≡ None → option_map_or (λ f. if f.lost then Err faults.Flight else k f) o (Err faults.Flight) ≡ Err faults.Flight
    by None is = refl
    by (Some f) is = by_lost f f.lost is

-- one that was not lost does
pub flying : (w : World) (number : ℕ) (k : Flight → Step) (f : Flight) → not_lost (flight_at w number) ≡ Some f → on_flight w number k ≡ k f
flying w number k f is = by (flight_at w number) is
  where
    by_lost : (g : Flight) (lost : Bool) → (if lost then None else Some g) ≡ Some f → (if lost then Err faults.Flight else k g) ≡ k f
    by_lost g true is = absurd (cc)
    by_lost g false is = let same : g ≡ f = cc in ap k same

    by : (o : Option Flight) → not_lost o ≡ Some f → option_map_or (λ g. if g.lost then Err faults.Flight else k g) o (Err faults.Flight) ≡ k f
    by None is = absurd (cc)
    by (Some g) is = by_lost g g.lost is

-- a flight that could not be lost does not fly, and the flights are as they were
pub not_lost_now : (o : Option Flight) (old new : Flown) (lose : Flight → Flown)
    → MatchOption o ((false ≡ false) × (new ≡ old)) (λ f. (false ≡ true) × (new ≡ lose f))
    → (o ≡ None) × (new ≡ old)
not_lost_now None old new lose is = (refl, is.1)
not_lost_now (Some f) old new lose is = let e : false ≡ true = is.0 in absurd (cc)

-- A flight that was lost flew.
pub record Loses (o : Option Flight) (new : Flown) (lose : Flight → Flown) : Type 0 where
  pub flight : Flight
  pub flew : o ≡ Some flight
  pub left : new ≡ lose flight

pub lost_now : (o : Option Flight) (old new : Flown) (lose : Flight → Flown)
    → MatchOption o ((true ≡ false) × (new ≡ old)) (λ f. (true ≡ true) × (new ≡ lose f)) → Loses o new lose
lost_now None old new lose is = let e : true ≡ false = is.0 in absurd (cc)
lost_now (Some f) old new lose is = record { flight = f; flew = refl; left = is.1 }

-- A flight of these octets flies.
pub record Flies (o : Option Flight) (octets : List ℕ) : Type 0 where
  pub flight : Flight
  pub at : o ≡ Some flight
  pub same : octets ≡ flight.octets

pub flies : (o : Option Flight) (octets : List ℕ) → Some octets ≡ option_map (λ (f : Flight). f.octets) o → Flies o octets
flies None octets is = absurd (cc)
flies (Some f) octets is = record { flight = f; at = refl; same = let same : octets ≡ f.octets = cc in same }

pub flies_none : (o : Option Flight) → None ≡ option_map (λ (f : Flight). f.octets) o → o ≡ None
flies_none None is = refl
flies_none (Some f) is = absurd (cc)

-- a slice that is not lent has no octets
pub none_copied : (o : Option (Bor (List ℕ))) → is_some o ≡ false → None ≡ option_copied o
none_copied None is = refl
none_copied (Some octets) is = absurd (cc)

pub some_copied : (o : Option (Bor (List ℕ))) → is_some o ≡ true → (octets : List ℕ) × (Some octets ≡ option_copied o)
some_copied None is = absurd (cc)
some_copied (Some octets) is = (octets.now, refl)

-- # The node of a number

-- a number below their count is that of a node
pub at_some : (nodes : List Node) (number : ℕ) → number < length nodes → (x : Node) × (slice_get nodes number ≡ Some x)
at_some [] number less = absurd (omega (arith, less))
at_some (x ∷ xs) zero less = (x, refl)
at_some (x ∷ xs) (suc n) less = let below : n < length xs = omega (arith, less) in at_some xs n below

-- what is reported of the node of a number
pub at_node_after : (nodes : List Node) (number : ℕ) (x : Node) (P : Node → Type 0) → slice_get nodes number ≡ Some x → IfSome (slice_get nodes number) P → P x
at_node_after nodes number x P at world_after = subst (λ (o : Option Node). IfSome o P) at world_after

-- # The bounds while octets come

pub in_run_bounded : (w : World) (nodes : List Node) → IsBounded w → length nodes ≡ length w.nodes → IsBounded (in_run (record w { nodes = nodes }))
in_run_bounded w nodes b same = record {
  events = b.events;
  clock = b.clock;
  nodes = let e = b.nodes in omega (arith, e, same);
  flights = b.flights;
  made = b.made;
  sends = b.sends;
  ups = b.ups;
  forged = b.forged;
  done = b.done;
  uncut = λ is. absurd (cc);
}

pub in_run_again : (w : World) (nodes : List Node) → IsBounded (in_run w) → length nodes ≡ length w.nodes → IsBounded (in_run (record w { nodes = nodes }))
in_run_again w nodes b same = in_run_bounded (in_run w) nodes b same

if_more : (test : Bool) (n events : ℕ) → n ≤ events → number_if test n ≤ events + 1
if_more true n events less = let l = less in omega (arith, l)
if_more false n events less = let l = less in omega (arith, l)

-- # What a step keeps of a node

pub acts_eui : {A : Type 0} (x : Node) (halted : A) (plan : Memory → Plan Memory A) → (acts x halted plan).node.eui ≡ x.eui
unfolding acts
acts_eui {A} x halted plan = by x.memory
  where
    by : (o : Option Memory) → (option_map_or (λ m. left_by x (carry_out x.store.records x.store.cut (plan m))) o (stays x halted)).node.eui ≡ x.eui
    by None = refl
    by (Some m) = refl

pub hears_eui : (x : Node) (got : Accepted) (cost note now : ℕ) → (hearing_step network x got cost note now).node.eui ≡ x.eui
hears_eui x got cost note now = by x.role
  where
    hears_as : Role → NodeStep Reception
    hears_as Coordinator = answering coordinator_reception
        (acts x (Err drops.Store) (λ m. coordinator_rules.hear_coordinator (record { eui = x.eui; ciphers = network }) m got cost note now))
    hears_as (Meter psk) = answering meter_reception (acts x (Err drops.Store) (λ m. meters.hear_meter (identity network x psk) m got cost note now))

    by : (role : Role) → (hears_as role).node.eui ≡ x.eui
    by Coordinator = acts_eui x (Err drops.Store) _
    by (Meter psk) = acts_eui x (Err drops.Store) _

-- no node changes its EUI, so each EUI keeps its number
pub same_number : (w : World) (number : ℕ) (x y : Node) (eui : Eui) → slice_get w.nodes number ≡ Some x → y.eui ≡ x.eui
    → number_of (record w { nodes = slice_set w.nodes number y }) eui ≡ number_of w eui
same_number w number x y eui at same =
    let test : Node → Bool = λ (z : Node). same_eui z.eui eui in
    let passes : test y ≡ test x = ap (λ (e : Eui). same_eui e eui) same in
    let first = position_or_len-set test w.nodes number y x (passes ∙ ap test (sym (get_or_from_slice_get w.nodes number x x at))) in
    let many = length-set w.nodes number y in
    λ i. option_map_or (λ (n : ℕ). n) (cond (nat_lt (first i) (many i)) (Some (first i)) None) 0

-- # A frame that is heard

is_some_map : {A B : Type 0} (f : A → B) (o : Option A) → is_some (option_map f o) ≡ is_some o
is_some_map f None = refl
is_some_map f (Some a) = refl

-- a datagram that was handed up
handed_as : (number : ℕ) (up : Option Up) → handed_in number (option_map handed_up up) ≡ handed_by number up
handed_as number None = refl
handed_as number (Some u) = refl

took_as : (number : ℕ) (took : Option Agreed) → taker_in number (is_some took) ≡ option_map (λ _. number) took
took_as number None = refl
took_as number (Some agreed) = refl

done_as : (v w : World) (done : Option CompletedJoining) → ((eui : Eui) → number_of v eui ≡ number_of w eui)
    → done_in v (option_map (λ (d : CompletedJoining). d.eui) done) ≡ option_map (λ (p : Pairing). p.node) (done_by w done)
done_as v w None same = refl
done_as v w (Some d) same = ap Some (same d.eui)

pairing_as : (v w : World) (done : Option CompletedJoining) → ((eui : Eui) → number_of v eui ≡ number_of w eui) → done_by v done ≡ done_by w done
pairing_as v w None same = refl
pairing_as v w (Some d) same = λ i. Some (record { node = same d.eui i; agreed = d.agreed })

-- what is left and what is said of a frame that a node heard
module _ (w : World) (number : ℕ) (x : Node) (d : NodeStep Reception) (r : receiving.Reception) (out : Out) (nodes : List Node) (right forged : Bool)
    (at : slice_get w.nodes number ≡ Some x)
    (same : d.node.eui ≡ x.eui) (rec : Received d w.nodes number r out nodes) (forgery : forged ≡ right) where
  ups_as : is_some r.up ≡ is_some d.answer.up
  ups_as = ap is_some rec.reports.up ∙ is_some_map _ d.answer.up

  ends_as : is_some r.done ≡ is_some d.answer.done
  ends_as = ap is_some rec.reports.done ∙ is_some_map _ d.answer.done

  pub received_left : (received network w number right d).0 ≡ left_of (record w { nodes = nodes }) number out forged r
  received_left =
      ap (λ (t : World). record t {
        ups = number_if (is_some d.answer.up) w.ups;
        forged = number_if right w.forged;
        done = number_if (is_some d.answer.done) w.done;
      }) (after_is (running_world w) number d nodes out rec.did.out_is rec.did.nodes_are)
      ∙ (λ i. record (after (running_world w) number nodes out) {
        ups = number_if (sym ups_as i) w.ups;
        forged = number_if (sym forgery i) w.forged;
        done = number_if (sym ends_as i) w.done;
      })

  numbers_as : (eui : Eui) → number_of (record w { nodes = nodes }) eui ≡ number_of w eui
  numbers_as eui = ap (λ (ns : List Node). number_of (record w { nodes = ns }) eui) rec.did.nodes_are ∙ same_number w number x d.node eui at same

  pub received_said : reception_happenings (record w { nodes = nodes }) number out forged r ≡ (reception_trace w number right d).happenings
  received_said =
      let up = ap (λ o. handed_in number o) rec.reports.up ∙ handed_as number d.answer.up in
      let took = ap (λ t. taker_in number t) rec.reports.took ∙ took_as number d.answer.took in
      let done = ap (λ o. done_in (record w { nodes = nodes }) o) rec.reports.done ∙ done_as (record w { nodes = nodes }) w d.answer.done numbers_as in
      let many : length out.frames ≡ length d.frames = ap (λ (o : Out). length o.frames) rec.did.out_is ∙ many_given (spelled network) d.frames in
      λ i. record (happenings w (rec.reports.answer i)) { forged = forgery i; up = up i; took = took i; done = done i; flights = many i }

  pub received_many : length nodes ≡ length w.nodes
  received_many = ap (λ (ns : List Node). length ns) rec.did.nodes_are ∙ length-set w.nodes number d.node

-- the bounds after that
pub left_bounded : (w : World) (number : ℕ) (nodes : List Node) (beside : List Beside) (out : Out) (forged : Bool) (r : receiving.Reception)
    → IsBounded (in_run w) → w.events < MAX_EVENTS
    → length nodes ≡ length w.nodes → length out.frames ≤ 24 → length out.tags.made ≤ 2
    → IsBounded (left_of (record w { nodes = nodes; beside = beside }) number out forged r)
left_bounded w number nodes beside out forged r b room same frames tags =
    let counted : IsBounded (after (running_world w) number nodes out) = bounded_after (in_run w) number nodes out b room same frames tags in
    record {
      events = counted.events;
      clock = counted.clock;
      nodes = counted.nodes;
      flights = counted.flights;
      made = counted.made;
      sends = counted.sends;
      ups = if_more (is_some r.up) w.ups w.events b.ups;
      forged = if_more forged w.forged w.events b.forged;
      done = if_more (is_some r.done) w.done w.events b.done;
      uncut = counted.uncut;
    }

-- what is said and what is left of a frame, whatever its node made of it
pub was_received : (w new : World) (number : ℕ) (x : Node) (origin : Origin) (d : NodeStep Reception) (r : receiving.Reception) (out : Out) (nodes : List Node)
    (forged : Bool) (h : Happenings) → IsBounded (in_run w) → w.events < MAX_EVENTS → length out.frames ≤ 24 → length out.tags.made ≤ 2
    → slice_get w.nodes number ≡ Some x
    → d.node.eui ≡ x.eui → Received d w.nodes number r out nodes → forged ≡ (origin.is_forged || list_any (is_forged_tag w.made) out.tags.opened)
    → h ≡ reception_happenings (record w { nodes = nodes }) number out forged r → new ≡ left_of (record w { nodes = nodes }) number out forged r
    → Steps true w (Ok h) new (Ok (outcome_of_reception network w number origin d))
was_received w new number x origin d r out nodes forged h b room frames tags at same rec is_forged said is =
    let right : Bool = origin.is_forged || list_any (is_forged_tag w.made) d.opened in
    let forgery : forged ≡ right = is_forged ∙ ap (λ (o : Out). origin.is_forged || list_any (is_forged_tag w.made) o.tags.opened) rec.did.out_is in
    let left = received_left w number x d r out nodes right forged at same rec forgery ∙ sym is in
    is_taken_so true w new (Ok (received network w number right d)) (reception_trace w number right d) h
    (λ i. Ok (left i, reception_trace w number right d))
    (said ∙ received_said w number x d r out nodes right forged at same rec forgery)
    (subst IsBounded (sym is) (left_bounded w number nodes w.beside out forged r b room
    (received_many w number x d r out nodes right forged at same rec forgery) frames tags))

-- what is said and what is left of a frame that a node heard
pub outcome_of_command : (w new : World) (number : ℕ) (x : Node) (got : Accepted) (origin : Origin) (cost : ℕ) (r : receiving.Reception) (out : Out)
    (nodes : List Node)
    (forged : Bool) (h : Happenings) → IsBounded (in_run w) → w.events < MAX_EVENTS → length out.frames ≤ 24 → length out.tags.made ≤ 2
    → slice_get w.nodes number ≡ Some x
    → Received (hearing_step network x got cost origin.note w.clock) w.nodes number r out nodes
    → forged ≡ (origin.is_forged || list_any (is_forged_tag w.made) out.tags.opened)
    → h ≡ reception_happenings (record w { nodes = nodes }) number out forged r → new ≡ left_of (record w { nodes = nodes }) number out forged r
    → Steps true w (Ok h) new (Ok (outcome_of_hearing network w number x got origin cost))
outcome_of_command w new number x got origin cost r out nodes forged h b room frames tags at rec is_forged said is =
    was_received w new number x origin (hearing_step network x got cost origin.note w.clock) r out nodes forged h b room frames tags at
    (hears_eui x got cost origin.note w.clock) rec is_forged said is

-- # Octets that come

-- what a node answers that looks at octets
abbrev pub looks : Node → List ℕ → NodeStep (Result Accepted FrameRefusal)
looks x octets = acts x (Err frame_refusals.Halted) (λ m. of_station m (accept m.station x.eui (arrived network octets)))

-- two steps of one node leave what the second leaves
after_twice : {A : Type 0} (w : World) (number : ℕ) (y : Node) (d : NodeStep A)
    → world_after network (record w { nodes = slice_set w.nodes number y }) number d ≡ world_after network w number d
unfolding world_after
after_twice w number y d = λ i. record (world_after network w number d) { nodes = set-set w.nodes number y d.node i }

-- a frame is heard after its node was looked at as it is before
received_as : (w : World) (number : ℕ) (x y : Node) (forged : Bool) (d : NodeStep Reception) → slice_get w.nodes number ≡ Some x → y.eui ≡ x.eui
    → received network (record w { nodes = slice_set w.nodes number y }) number forged d ≡ received network w number forged d
received_as w number x y forged d at same =
    let done = pairing_as (record w { nodes = slice_set w.nodes number y }) w d.answer.done (λ eui. same_number w number x y eui at same) in
    λ i. (
      record (after_twice (running_world w) number y d i) {
        ups = number_if (is_some d.answer.up) w.ups;
        forged = number_if forged w.forged;
        done = number_if (is_some d.answer.done) w.done;
      },
      record (reception_trace w number forged d) {
        happenings = record (reception_trace w number forged d).happenings { done = option_map (λ (p : Pairing). p.node) (done i) };
        done = done i;
      },
    )

note_as : (w : World) (octets : List ℕ) (path : Path) → note_in w.flights octets path ≡ note_by w octets path
note_as w octets (paths.Sealed from to_all key) = refl
note_as w octets (paths.Up from) = refl
note_as w octets (paths.Down from) = refl

forged_as : (w : World) (octets : List ℕ) (path : Path) → forged_in w.flights octets path ≡ forged_by w octets path
forged_as w octets (paths.Sealed from to_all key) = refl
forged_as w octets (paths.Up from) = refl
forged_as w octets (paths.Down from) = refl

no_tags : (made : List PairTag) (b : Bool) → (b || list_any (is_forged_tag made) []) ≡ b
no_tags made true = refl
no_tags made false = refl

-- A frame is heard, with what further reach adds, after its node was looked at as it is before.
module _ (w : World) (number : ℕ) (x y : Node) (octets : List ℕ) (got : Accepted) (origin : Origin) (cost : ℕ) (at : slice_get w.nodes number ≡ Some x)
    (same : y.eui ≡ x.eui)
    (f : origin.is_forged ≡ forged_by w octets got.path) (n : origin.note ≡ note_by w octets got.path) where
  abbrev seen_world : World
  seen_world = record w { nodes = slice_set w.nodes number y }

  abbrev heard_with : ℕ → NodeStep Reception
  heard_with note = hearing_step network y got cost note w.clock

  hears_as : outcome_of_hearing network seen_world number y got origin cost ≡ hearing_outcome network w number y octets got cost
  hears_as =
      (λ i. received network seen_world number (f i || list_any (is_forged_tag w.made) (heard_with (n i)).opened) (heard_with (n i)))
      ∙ received_as w number x y (forged_by w octets got.path || list_any (is_forged_tag w.made) (heard_with (note_by w octets got.path)).opened)
      (heard_with (note_by w octets got.path)) at same

  unbelieved_as : outcome_of_unbelieved network seen_world number y origin ≡ unbelieved network w number y octets got
  unbelieved_as =
      ap (λ (b : Bool). received network seen_world number b (stays y (only answers.Blacklisted))) (no_tags w.made origin.is_forged ∙ f)
      ∙ received_as w number x y (forged_by w octets got.path) (stays y (only answers.Blacklisted)) at same

  acknowledged_as : (z : Node) (o : Option Reply) (r : World × Trace) → acknowledged_if network seen_world number z o r ≡ acknowledged_if network w number z o r
  acknowledged_as z None r = refl
  acknowledged_as z (Some reply) r = refl

  checked_as : outcome_of_checked network seen_world number y got origin cost
      ≡ checked network w number got (heard_with (note_by w octets got.path)) (hearing_outcome network w number y octets got cost)
  checked_as =
      (λ i. checked network seen_world number got (heard_with (n i)) (hears_as i))
      ∙ acknowledged_as (heard_with (note_by w octets got.path)).node (due got.path (message_of got) (heard_with (note_by w octets got.path)).answer.answer)
      (with_check w number (reply_among (heard_with (note_by w octets got.path)).frames) (hearing_outcome network w number y octets got cost))

  by_command : (o : Option NeighbourCommand)
      → heard_by_command network seen_world number y got origin cost o ≡ hearing_outcome_by network w number y octets got cost o
  by_command (Some c) = λ i. commanded network number (heard_with (n i)).node c (hears_as i)
  by_command None = λ i. if w.checks_on then checked_as i else hears_as i

  pub heard_further_as : outcome_of_further network seen_world number y got origin cost ≡ further_hearing_outcome network w number y octets got cost
  heard_further_as = λ i. if is_dropped w number got then unbelieved_as i else by_command (command_of got) i

-- what comes of octets that a node looked at is what the rules say of octets that come to it
comes_as : (w : World) (number : ℕ) (x : Node) (octets : List ℕ) (cost : ℕ) (accepted : Result Accepted FrameRefusal) (origin : Origin) (nodes : List Node)
    → is_discovery octets ≡ false → slice_get w.nodes number ≡ Some x → Did (looks x octets) w.nodes number accepted nothing nodes
    → IfOk accepted (λ got. origin.is_forged ≡ forged_in w.flights octets got.path) → IfOk accepted (λ got. origin.note ≡ note_in w.flights octets got.path)
    → outcome_of_arrival network (record w { nodes = nodes }) number (looks x octets).node accepted origin cost ≡ comes network w number x octets cost
unfolding comes
comes_as w number x octets cost accepted origin nodes plain at did forged note =
    by accepted forged note ∙ ap by_answer did.answer_is
    ∙ sym (ap (λ (b : Bool). if b then discovers_by w number x octets cost x.memory else accepted_further network w number octets cost (looks x octets)) plain)
  where
    by_answer : Result Accepted FrameRefusal → World × Trace
    by_answer (Ok got) = further_hearing_outcome network w number (looks x octets).node octets got cost
    by_answer (Err reason) = (world_after network (running_world w) number (looks x octets), trace_of (happenings w (frame_word reason)))

    by : (a : Result Accepted FrameRefusal) → IfOk a (λ got. origin.is_forged ≡ forged_in w.flights octets got.path)
        → IfOk a (λ got. origin.note ≡ note_in w.flights octets got.path)
        → outcome_of_arrival network (record w { nodes = nodes }) number (looks x octets).node a origin cost ≡ by_answer a
    by (Ok got) forged note =
        let y : Node = (looks x octets).node in
        ap (λ (ns : List Node). outcome_of_further network (record w { nodes = ns }) number y got origin cost) did.nodes_are
        ∙ heard_further_as w number x y octets got origin cost at (acts_eui x (Err frame_refusals.Halted) _) (forged ∙ forged_as w octets got.path)
        (note ∙ note_as w octets got.path)
    by (Err reason) forged note =
        let left : world_after network (running_world w) number (looks x octets) ≡ record (running_world w) { nodes = nodes } =
        after_is (running_world w) number (looks x octets) nodes nothing did.out_is did.nodes_are
        ∙ (λ i. record (running_world w) { nodes = nodes; flights = append-nil w.flights i; made = append-nil w.made i }) in
        λ i. (sym left i, trace_of (happenings w (frame_word reason)))

-- what is said and what is left of octets that came to a node
pub came : (w new : World) (number : ℕ) (x : Node) (octets : List ℕ) (cost : ℕ) (accepted : Result Accepted FrameRefusal) (origin : Origin) (nodes : List Node)
    (h : Happenings)
    → is_discovery octets ≡ false → slice_get w.nodes number ≡ Some x
    → IfSome (slice_get w.nodes number) (λ y. Did (looks y octets) w.nodes number accepted nothing nodes)
    → IfOk accepted (λ got. origin.is_forged ≡ forged_in w.flights octets got.path) → IfOk accepted (λ got. origin.note ≡ note_in w.flights octets got.path)
    → IfSome (slice_get nodes number)
    (λ y. Steps true (record w { nodes = nodes }) (Ok h) new (Ok (outcome_of_arrival network (record w { nodes = nodes }) number y accepted origin cost)))
    → Steps true w (Ok h) new (Ok (comes network w number x octets cost))
came w new number x octets cost accepted origin nodes h plain at looked forged note s =
    let did : Did (looks x octets) w.nodes number accepted nothing nodes =
    subst (λ (o : Option Node). IfSome o (λ y. Did (looks y octets) w.nodes number accepted nothing nodes)) at looked in
    let left : slice_get nodes number ≡ Some (looks x octets).node =
    ap (λ (ns : List Node). slice_get ns number) did.nodes_are ∙ slice_get-set w.nodes number (looks x octets).node (slice_get_within w.nodes number x at) in
    let steps : Steps true (record w { nodes = nodes }) (Ok h) new
    (Ok (outcome_of_arrival network (record w { nodes = nodes }) number (looks x octets).node accepted origin cost)) =
    subst (λ (o : Option Node). IfSome o
    (λ y. Steps true (record w { nodes = nodes }) (Ok h) new (Ok (outcome_of_arrival network (record w { nodes = nodes }) number y accepted origin cost)))) left
    s in
    subst (λ (r : World × Trace). Steps true w (Ok h) new (Ok r)) (comes_as w number x octets cost accepted origin nodes plain at did forged note)
    (record { gives = steps.gives; memory = tt; bounds = steps.bounds })

-- octets of discovery are read, and what is made of them is what the rules say
discovers_as : (w : World) (number : ℕ) (x : Node) (octets : List ℕ) (cost : ℕ) (frame : Option Discovery) → is_discovery octets ≡ true
    → discovery_in octets ≡ frame
    → discovered_in w number x frame cost ≡ comes network w number x octets cost
unfolding comes
discovers_as w number x octets cost frame is read =
    ap (λ (f : Option Discovery). discovered_in w number x f cost) (sym read) ∙ by x.memory
    ∙ sym (ap (λ (b : Bool). if b then discovers_by w number x octets cost x.memory else accepted_further network w number octets cost (looks x octets)) is)
  where
    by : (o : Option Memory) → discovered_by w number x o (discovery_in octets) cost ≡ discovers_by w number x octets cost o
    by None = refl
    by (Some m) = refl

-- what a command carries is part of a payload
command_octets : (got : Accepted) (c : NeighbourCommand) → AreOctets got.payload → command_of got ≡ Some c → AreOctets c.body
command_octets got c are = by_path got.path
  where
    by_code : (from : ℕ) (all : Bool) (code : ℕ) (body : List ℕ) (s t : Bool) → AreOctets body
        → (if s then None else (if t then None else Some (record { from = from; to_all = all; code = code; body = body }))) ≡ Some c → AreOctets c.body
    by_code from all code body true t is e = absurd (cc (e))
    by_code from all code body false true is e = absurd (cc (e))
    by_code from all code body false false is e = subst (λ (d : NeighbourCommand). AreOctets d.body) (same_Some _ _ e) is

    by_unit : (from : ℕ) (all : Bool) (o : Option MeshUnit) → unit_in got.payload ≡ o → command_with from all o ≡ Some c → AreOctets c.body
    by_unit from all None u e = absurd (cc (e))
    by_unit from all (Some (units.Local code body)) u e =
        by_code from all code body (code == 1) (code == 2) (read_octets (units.Local code body) got.payload are u).1 e
    by_unit from all (Some (units.Whole mesh octets)) u e = absurd (cc (e))
    by_unit from all (Some (units.Part mesh piece)) u e = absurd (cc (e))
    by_unit from all (Some (units.Carried mesh body)) u e = absurd (cc (e))

    by_path : (p : Path) → command_on p (unit_in got.payload) ≡ Some c → AreOctets c.body
    by_path (paths.Sealed from all key) e = by_unit from all (unit_in got.payload) refl e
    by_path (paths.Up from) e = absurd (cc (e))
    by_path (paths.Down from) e = absurd (cc (e))

-- the tables of the node of a number are short
pub short_at : (nodes : List Node) (number : ℕ) (x : Node) (m : Memory) → AreShort nodes → slice_get nodes number ≡ Some x → x.memory ≡ Some m
    → HasShortTables m.station
short_at nodes number x m short at here =
    subst (λ (o : Option Memory). IfSome o (λ k. HasShortTables k.station)) here
    (subst IsShort (get_or_from_slice_get nodes number x x at) (short number x (slice_get_within nodes number x at)))

-- the nodes are as many as before
pub as_many : {A : Type 0} (d : NodeStep A) (old : List Node) (number : ℕ) (answer : A) (out : Out) (nodes : List Node) → Did d old number answer out nodes
    → length nodes ≡ length old
as_many d old number answer out nodes did = ap (λ (ns : List Node). length ns) did.nodes_are ∙ length-set old number d.node

-- the node that was found, by the number that it was found under
pub found_at : {w : World} {number found : ℕ} (there : IsThere w number found) → slice_get w.nodes found ≡ Some there.node
found_at {w} there = ap (λ n. slice_get w.nodes n) there.same ∙ there.at

-- Octets come to a node that was found, after memory was reserved for what it gives out.
module _ (v w : World) (node number : ℕ) (octets : List ℕ) (accepted : Result Accepted FrameRefusal) (nodes : List Node) (same : v ≡ w)
    (is : Ok number ≡ found w node)
    (looked : IfSome (slice_get v.nodes number) (λ y. Did (looks y octets) v.nodes number accepted nothing nodes)) where
  again : IsThere v node number
  again = subst (λ (it : World). IsThere it node number) (sym same) (is_there w node number is)

  looked_many : length nodes ≡ length v.nodes
  looked_many =
      as_many (looks again.node octets) v.nodes number accepted nothing nodes
      (at_node_after v.nodes number again.node (λ y. Did (looks y octets) v.nodes number accepted nothing nodes) (found_at again) looked)

  pub still_within : number < length nodes
  still_within = subst (λ n. number < n) (sym looked_many) again.within

  pub still_bounded : IsBounded w → IsBounded (in_run (record v { nodes = nodes }))
  still_bounded bounds = in_run_bounded v nodes (subst IsBounded (sym same) bounds) looked_many

  -- each node has something beside it, as before
  pub still_many : length w.beside ≡ length w.nodes → length v.beside ≡ length nodes
  still_many long = subst (λ (it : World). length it.beside ≡ length it.nodes) (sym same) long ∙ sym looked_many

  -- what is said and what is left of them
  pub came_to : (new : World) (cost : ℕ) (origin : Origin) (h : Happenings) → is_discovery octets ≡ false
      → IfOk accepted (λ got. origin.is_forged ≡ forged_in v.flights octets got.path) → IfOk accepted (λ got. origin.note ≡ note_in v.flights octets got.path)
      → IfSome (slice_get nodes number)
      (λ y. Steps true (record v { nodes = nodes }) (Ok h) new (Ok (outcome_of_arrival network (record v { nodes = nodes }) number y accepted origin cost)))
      → Steps true w (Ok h) new (injects network w node cost octets)
  unfolding injects
  came_to new cost origin h plain forged note s =
      let has : true ≡ has_begun v = subst (λ (it : World). true ≡ has_begun it) (sym same) (has_coordinator w node number is) in
      subst (λ (it : World). Steps true it (Ok h) new (injects network it node cost octets)) same
      (steps_as _ _ (begun v _ has ∙ at_node v node again.node (λ x. Ok (comes network v node x octets cost)) again.at
      ∙ ap (λ n. Ok (comes network v n again.node octets cost)) (sym again.same))
      (came v new number again.node octets cost accepted origin nodes h plain (found_at again) looked forged note s))

  -- the logs are those of before, since accepting stores nothing of them
  pub still_logged : AreShort v.nodes → LogsKept w → LogsKept (record v { nodes = nodes })
  still_logged short kept =
      let x = again.node in
      let did : Did (looks x octets) v.nodes number accepted nothing nodes =
      at_node_after v.nodes number x (λ y. Did (looks y octets) v.nodes number accepted nothing nodes) (found_at again) looked in
      let logs : LogsKept v = subst LogsKept (sym same) kept in
      let quiet : Quiet x (looks x octets).node =
      acts_quiet x (Err frame_refusals.Halted) (λ m. of_station m (accept m.station x.eui (arrived network octets)))
      (λ m e. (stations_leave_log m.station (short_at v.nodes number x m short (found_at again) e)).accepts x.eui (arrived network octets)) in
      subst (λ (ns : List Node). AreLogged v.beside ns) (sym did.nodes_are)
      (set_node v.beside v.nodes number (looks x octets).node logs
      (quiet_in (log_at v.beside number) x (looks x octets).node quiet (logged_at v.beside v.nodes number x logs (found_at again))))

  -- a command that it brings is octets, since what was accepted is
  pub brings_octets : IfOk accepted (λ got. AreOctets got.payload) → (z : Node) → node_at w node ≡ Some z → (got : Accepted) (c : NeighbourCommand)
      → (accepting network z octets).answer ≡ Ok got
      → command_of got ≡ Some c → AreOctets c.body
  brings_octets are z there got c is_got has =
      let x = again.node in
      let did : Did (looks x octets) v.nodes number accepted nothing nodes =
      at_node_after v.nodes number x (λ y. Did (looks y octets) v.nodes number accepted nothing nodes) (found_at again) looked in
      let here : z ≡ x = same_Some _ _ (sym there ∙ ap (λ (it : World). node_at it node) (sym same) ∙ again.at) in
      let answered : accepted ≡ Ok got = did.answer_is ∙ ap (λ (y : Node). (looks y octets).answer) (sym here) ∙ is_got in
      command_octets got c (subst (λ (a : Result Accepted FrameRefusal). IfOk a (λ g. AreOctets g.payload)) answered are) has

-- Octets of discovery come to a node that was found, after memory was reserved.
pub came_discovery : (v w new : World) (node number : ℕ) (octets : List ℕ) (cost : ℕ) (frame : Option Discovery) (h : Happenings) → v ≡ w
    → Ok number ≡ found w node → is_discovery octets ≡ true
    → discovery_in octets ≡ frame → IfSome (slice_get v.nodes number) (λ x. Steps true v (Ok h) new (Ok (discovered_in v number x frame cost)))
    → Steps true w (Ok h) new (injects network w node cost octets)
unfolding injects
came_discovery v w new node number octets cost frame h same is kind read s =
    let again : IsThere v node number = subst (λ (it : World). IsThere it node number) (sym same) (is_there w node number is) in
    let has : true ≡ has_begun v = subst (λ (it : World). true ≡ has_begun it) (sym same) (has_coordinator w node number is) in
    subst (λ (it : World). Steps true it (Ok h) new (injects network it node cost octets)) same
    (steps_as _ _ (begun v _ has ∙ at_node v node again.node (λ x. Ok (comes network v node x octets cost)) again.at
    ∙ ap (λ n. Ok (comes network v n again.node octets cost)) (sym again.same)
    ∙ ap (λ (r : World × Trace). Ok r) (sym (discovers_as v number again.node octets cost frame kind read)))
    (at_node_after v.nodes number again.node (λ x. Steps true v (Ok h) new (Ok (discovered_in v number x frame cost))) (found_at again) s))

-- the number that was found before memory was reserved, after that
pub found_still : (v w : World) (node number : ℕ) → v ≡ w → Ok number ≡ found w node → number < length v.nodes
found_still v w node number same is = subst (λ (it : World). number < length it.nodes) (sym same) (is_there w node number is).within

-- an event is taken where its node is found, and its flight, if it has one, still flies
pub inject_taken : (w : World) (node number cost : ℕ) (octets : List ℕ) → Ok number ≡ found w node → IsOk (injects network w node cost octets)
unfolding injects
inject_taken w node number cost octets is =
    let there = is_there w node number is in
    ap is_ok (begun w _ (has_coordinator w node number is) ∙ at_node w node there.node (λ x. Ok (comes network w node x octets cost)) there.at)

-- a flight that comes to a node is octets that do
pub delivers : (w : World) (node number flight cost : ℕ) (octets : List ℕ) → Ok number ≡ found w node → Flies (not_lost (flight_at w flight)) octets
    → delivers_by network w flight node cost ≡ injects network w node cost octets
unfolding delivers_by injects
delivers w node number flight cost octets is f =
    let there = is_there w node number is in
    let has = has_coordinator w node number is in
    begun w _ has ∙ at_node w node there.node (λ x. on_flight w flight (λ g. Ok (comes network w node x g.octets cost))) there.at
    ∙ flying w flight _ f.flight f.at
    ∙ ap (λ o. Ok (comes network w node there.node o cost)) (sym f.same)
    ∙ sym (begun w _ has ∙ at_node w node there.node (λ x. Ok (comes network w node x octets cost)) there.at)

pub deliver_taken : (w : World) (node number flight cost : ℕ) (octets : List ℕ) → Ok number ≡ found w node → Flies (not_lost (flight_at w flight)) octets
    → IsOk (delivers_by network w flight node cost)
deliver_taken w node number flight cost octets is f =
    subst IsOk (sym (delivers w node number flight cost octets is f)) (inject_taken w node number cost octets is)

-- one that does not fly comes to none
pub no_flight : (w : World) (node number flight cost : ℕ) → IsBounded w → Ok number ≡ found w node → not_lost (flight_at w flight) ≡ None
    → Steps true w (Err faults.Flight) w (delivers_by network w flight node cost)
unfolding delivers_by
no_flight w node number flight cost bounds is none =
    let there = is_there w node number is in
    refused faults.Flight refl true w _ bounds (begun w _ (has_coordinator w node number is)
    ∙ at_node w node there.node (λ x. on_flight w flight (λ g. Ok (comes network w node x g.octets cost))) there.at ∙ not_flying w flight _ none)
