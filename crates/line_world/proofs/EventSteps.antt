-- How an event is taken: why it is not, and what a node's step makes of the world.
use Rattle.std.proofs.Common.{◌≡◌, ℕ, suc, ◌+◌, ◌<◌, ◌≤◌, Bool, true, false, List, [], ◌∷◌, ◌++◌, length, map, Option, Some, None, Result, Ok, Err, refl, sym}
use Rattle.std.proofs.Common.{ap, subst, ◌∙◌, if◌then◌else◌, arith}
use Rattle.std.specs.Prelude.{IfSome, IsOk, is_some, slice_get, slice_set}
use Rattle.std.specs.Option.{option_map_or}
use Rattle.std.proofs.lemmas.List.{append-nil, length-append, length-set}
use Rattle.std.proofs.lemmas.Option.{slice_get_within}
use Rattle.plc_base.specs.declared.out_frame.Out.{Out}
use Rattle.node_rules.specs.CarriedPlans.{nothing}
use Rattle.node_rules.specs.Ciphers.{network}
use Rattle.node_rules.specs.Frames.{Sent, spelled}
use Rattle.node_rules.specs.Memory.{Node, node_address}
use Rattle.node_rules.specs.NodeSteps.{NodeStep, answering}
use Rattle.line_world.specs.NodeOutcomes.{Did, given_by}
use Rattle.line_events.specs.declared.event.Answer.{Answer}
use Rattle.line_events.specs.declared.event.StepFault.{StepFault}
use Rattle.line_events.specs.declared.event.StepFault.TheVariants as faults
use Rattle.line_events.specs.declared.event.TheConstants.{MAX_EVENTS}
use Rattle.line_events.specs.declared.happenings.Happenings.{Happenings}
use Rattle.line_rules.specs.Worlds.{World, Flight, Trace, node_at}
use Rattle.line_rules.specs.Steps.{Step, node_outcome, flight_by, flights_of, happenings, has_begun, on_node, once_begun, running_world, node_trace}
use Rattle.line_rules.specs.Steps.{world_after}
use Rattle.line_world.specs.Bounds.{IsBounded}
use Rattle.line_world.specs.NamedNodes.{found}
use Rattle.line_world.specs.Steps.{Gives, HasMemory, Steps, has_address, is_memory}

-- # Events that are not taken

pub refused : (fault : StepFault) → is_memory fault ≡ false → (takes : Bool) (w : World) (step : Step) → IsBounded w → step ≡ Err fault
    → Steps takes w (Err fault) w step
refused fault plain takes w step bounds is = record { gives = by fault plain is; memory = by_kind takes; bounds = bounds }
  where
    by : (f : StepFault) → is_memory f ≡ false → step ≡ Err f → Gives w (Err f) w step
    by faults.Memory plain is = absurd (cc)
    by faults.Setup plain is = (is, refl)
    by faults.Node plain is = (is, refl)
    by faults.Flight plain is = (is, refl)

    by_kind : (t : Bool) → HasMemory t (Err fault)
    by_kind true = tt
    by_kind false = plain

-- memory ran out for an event that the rules take
pub out_of_memory : (w new : World) (step : Step) → IsBounded w → new ≡ w → IsOk step → Steps true w (Err faults.Memory) new step
out_of_memory w new step bounds same taken = record { gives = (taken, same); memory = tt; bounds = subst IsBounded (sym same) bounds }

-- so it did where none could be reserved
pub unreserved : (w new : World) (step : Step) (fault : StepFault) → IsBounded w → new ≡ w → IsOk step
    → ◌≡◌ {A = Result (Unit {0}) StepFault} (Err fault) (Err faults.Memory)
    → Steps true w (Err fault) new step
unreserved w new step fault bounds same taken is =
    let memory : faults.Memory ≡ fault = cc in
    subst (λ (f : StepFault). Steps true w (Err f) new step) memory (out_of_memory w new step bounds same taken)

-- an event that takes memory in its case
pub taking : {takes : Bool} {w new : World} {r : Result Happenings StepFault} {step : Step} → takes ≡ true → Steps true w r new step → Steps takes w r new step
taking {takes} {w} {new} {r} {step} is s = subst (λ (b : Bool). Steps b w r new step) (sym is) s

-- the same of a step by another name
pub steps_as : {takes : Bool} {w new : World} {r : Result Happenings StepFault} (named step : Step) → named ≡ step → Steps takes w r new step
    → Steps takes w r new named
steps_as {takes} {w} {new} {r} named step is s = subst (λ (it : Step). Steps takes w r new it) (sym is) s

-- # The tests before a step

pub unbegun : (w : World) (step : Step) → false ≡ has_begun w → once_begun w step ≡ Err faults.Setup
unbegun w step is = ap (λ (b : Bool). if b then step else Err faults.Setup) (sym is)

pub begun : (w : World) (step : Step) → true ≡ has_begun w → once_begun w step ≡ step
begun w step is = ap (λ (b : Bool). if b then step else Err faults.Setup) (sym is)

pub at_node : (w : World) (number : ℕ) (x : Node) (k : Node → Step) → node_at w number ≡ Some x → on_node w number k ≡ k x
at_node w number x k is = ap (λ (o : Option Node). option_map_or k o (Err faults.Node)) is

-- A number that is found is that of a node.
pub record IsThere (w : World) (number found : ℕ) : Type 0 where
  pub node : Node
  pub at : node_at w number ≡ Some node
  pub same : found ≡ number
  pub within : found < length w.nodes

pub is_there : (w : World) (number at : ℕ) → Ok at ≡ found w number → IsThere w number at
is_there w number at is = by (node_at w number) refl (once (has_begun w) is)
  where
    once : (b : Bool) → ◌≡◌ {A = Result ℕ StepFault} (Ok at)
        (if b then option_map_or (λ (x : Node). Ok number) (node_at w number) (Err faults.Node) else Err faults.Setup)
        → ◌≡◌ {A = Result ℕ StepFault} (Ok at) (option_map_or (λ (x : Node). Ok number) (node_at w number) (Err faults.Node))
    once true h = h
    once false h = absurd (cc)

    by : (o : Option Node) → node_at w number ≡ o → ◌≡◌ {A = Result ℕ StepFault} (Ok at) (option_map_or (λ (x : Node). Ok number) o (Err faults.Node))
        → IsThere w number at
    by None e h = absurd (cc)
    by (Some x) e h = let same : at ≡ number = cc in
        record { node = x; at = e; same = same; within = subst (λ n. n < length w.nodes) (sym same) (slice_get_within w.nodes number x e) }

-- and there is a coordinator then
pub has_coordinator : (w : World) (number at : ℕ) → Ok at ≡ found w number → true ≡ has_begun w
has_coordinator w number at is = by (has_begun w) is
  where
    by : (b : Bool) → ◌≡◌ {A = Result ℕ StepFault} (Ok at)
        (if b then option_map_or (λ (x : Node). Ok number) (node_at w number) (Err faults.Node) else Err faults.Setup) → true ≡ b
    by true h = refl
    by false h = absurd (cc)

-- an event of a node that was not found is not taken
pub not_found : (takes : Bool) (w : World) (number : ℕ) (k : Node → Step) (fault : StepFault) → IsBounded w → Err fault ≡ found w number
    → Steps takes w (Err fault) w (once_begun w (on_node w number k))
not_found takes w number k fault bounds is = by (has_begun w) (node_at w number) is
  where
    by : (b : Bool) (o : Option Node)
        → ◌≡◌ {A = Result ℕ StepFault} (Err fault) (if b then option_map_or (λ (x : Node). Ok number) o (Err faults.Node) else Err faults.Setup)
        → Steps takes w (Err fault) w (if b then option_map_or k o (Err faults.Node) else Err faults.Setup)
    by false o h =
        let same : fault ≡ faults.Setup = cc in refused fault (ap is_memory same) takes w (Err faults.Setup) bounds (ap (λ (f : StepFault). Err f) (sym same))
    by true None h =
        let same : fault ≡ faults.Node = cc in refused fault (ap is_memory same) takes w (Err faults.Node) bounds (ap (λ (f : StepFault). Err f) (sym same))
    by true (Some x) h = absurd (cc)

-- nor one of a second node that was not found
pub second_not_found : (takes : Bool) (w : World) (number at other : ℕ) (k : Node → Node → Step) (fault : StepFault) → IsBounded w → Ok at ≡ found w number
    → Err fault ≡ found w other
    → Steps takes w (Err fault) w (once_begun w (on_node w number (λ x. on_node w other (k x))))
second_not_found takes w number at other k fault bounds first is =
    let there = is_there w number at first in
    let has = has_coordinator w number at first in
    steps_as _ _ (begun w _ has ∙ at_node w number there.node (λ x. on_node w other (k x)) there.at ∙ sym (begun w (on_node w other (k there.node)) has))
    (not_found takes w other (k there.node) fault bounds is)

-- what is reported of the node of the number that was found, of that node
pub holds_there : {w : World} {number found : ℕ} (there : IsThere w number found) (P : Node → Type 0) → IfSome (slice_get w.nodes found) P → P there.node
holds_there {w} {number} {found} there P is = subst (λ (o : Option Node). IfSome o P) (ap (λ n. slice_get w.nodes n) there.same ∙ there.at) is

-- a node that was found and has an address
pub addressed : {w : World} {number found : ℕ} (there : IsThere w number found) (address : ℕ)
    → IfSome (slice_get w.nodes found) (λ x. ◌≡◌ {A = Option ℕ} (Some address) (node_address x))
    → has_address w number ≡ true
addressed {w} {number} {found} there address at =
    ap (λ (o : Option Node). option_map_or (λ (x : Node). is_some (node_address x)) o false) there.at
    ∙ ap (λ (o : Option ℕ). is_some o) (sym (holds_there there (λ (x : Node). ◌≡◌ {A = Option ℕ} (Some address) (node_address x)) at))

-- # What a node's step makes of the world

flown : (number : ℕ) (frames : List Sent)
    → map (λ frame. flight_by number (spelled network frame)) frames ≡ map (flight_by number) (map (spelled network) frames)
flown number [] = refl
flown number (x ∷ xs) = ap (λ (l : List Flight). flight_by number (spelled network x) ∷ l) (flown number xs)

-- the world that a node's step leaves, by the nodes that are left and by what was given out
abbrev pub after : World → ℕ → List Node → Out → World
after w number nodes out =
    record w { nodes = nodes; flights = w.flights ++ map (flight_by number) out.frames; made = w.made ++ out.tags.made }

pub after_is : {A : Type 0} (w : World) (number : ℕ) (d : NodeStep A) (nodes : List Node) (out : Out) → out ≡ given_by d
    → nodes ≡ slice_set w.nodes number d.node
    → world_after network w number d ≡ after w number nodes out
unfolding world_after
after_is w number d nodes out o n =
    let frames : flights_of network number d
    ≡ map (flight_by number) out.frames = flown number d.frames ∙ ap (λ (x : Out). map (flight_by number) x.frames) (sym o) in
    let tags : d.made ≡ out.tags.made = ap (λ (x : Out). x.tags.made) (sym o) in
    λ i. record w { nodes = sym n i; flights = w.flights ++ frames i; made = w.made ++ tags i }

pub many_given : {A B : Type 0} (f : A → B) (xs : List A) → length (map f xs) ≡ length xs
many_given f [] = refl
many_given f (x ∷ xs) = ap (λ n. suc n) (many_given f xs)

-- the bounds after an event of no setup kind at which a node gave this out
pub bounded_after : (w : World) (number : ℕ) (nodes : List Node) (out : Out) → IsBounded w → w.events < MAX_EVENTS → length nodes ≡ length w.nodes
    → length out.frames ≤ 24 → length out.tags.made ≤ 2 → IsBounded (after (running_world w) number nodes out)
bounded_after w number nodes out b room same frames tags = record {
  events = let e = room in omega (arith, e);
  clock = let e = b.clock in omega (arith, e);
  nodes = let e = b.nodes in omega (arith, e, same);
  flights =
      let e = b.flights in omega (arith, e, frames, length-append w.flights (map (flight_by number) out.frames), many_given (flight_by number) out.frames);
  made = let e = b.made in omega (arith, e, tags, length-append w.made out.tags.made);
  sends = let e = b.sends in omega (arith, e);
  ups = let e = b.ups in omega (arith, e);
  forged = let e = b.forged in omega (arith, e);
  done = let e = b.done in omega (arith, e);
  uncut = λ is. absurd (cc);
}

-- # An event at which one node acted

-- what is said and what is left of an event, where a node that was found did this
pub node_acted : {A : Type 0} (takes : Bool) (w new : World) {number found : ℕ} (there : IsThere w number found) (k : Node → NodeStep A) (word : A → Answer)
    (answer : A) (out : Out)
    (nodes : List Node) (h : Happenings) → IsBounded w → w.events < MAX_EVENTS → length out.frames ≤ 24 → length out.tags.made ≤ 2
    → IfSome (slice_get w.nodes found) (λ y. Did (k y) w.nodes found answer out nodes) → h ≡ record (happenings w (word answer)) { flights = length out.frames }
    → new ≡ after (running_world w) found nodes out → Steps takes w (Ok h) new (Ok (node_outcome network w number (answering word (k there.node))))
node_acted takes w new {number} {found} there k word answer out nodes h b room frames tags did said is =
    let x = there.node in
    let at : slice_get w.nodes found ≡ Some x = ap (λ n. slice_get w.nodes n) there.same ∙ there.at in
    let d : Did (k x) w.nodes found answer out nodes = subst (λ o. IfSome o (λ y. Did (k y) w.nodes found answer out nodes)) at did in
    let left : world_after network (running_world w) number (answering word (k x)) ≡ new =
    ap (λ n. world_after network (running_world w) n (answering word (k x))) (sym there.same)
    ∙ after_is (running_world w) found (answering word (k x)) nodes out d.out_is d.nodes_are
    ∙ sym is in
    let count : length out.frames ≡ length (k x).frames = ap (λ (o : Out). length o.frames) d.out_is ∙ many_given (spelled network) (k x).frames in
    let same : length nodes ≡ length w.nodes = ap (λ (ns : List Node). length ns) d.nodes_are ∙ length-set w.nodes found (k x).node in
    record {
      gives = record {
        trace = node_trace w (answering word (k x));
        taken = λ i. Ok (left i, node_trace w (answering word (k x)));
        reported = said ∙ (λ i. record (happenings w (word (d.answer_is i))) { flights = count i });
      };
      memory = by takes;
      bounds = subst IsBounded (sym is) (bounded_after w found nodes out b room same frames tags);
    }
  where
    by : (t : Bool) → HasMemory t (Ok h)
    by true = tt
    by false = tt

-- the same where nothing was given out
pub node_answered : {A : Type 0} (takes : Bool) (w new : World) {number found : ℕ} (there : IsThere w number found) (k : Node → NodeStep A) (word : A → Answer)
    (answer : A)
    (nodes : List Node) (h : Happenings) → IsBounded w → w.events < MAX_EVENTS
    → IfSome (slice_get w.nodes found) (λ y. Did (k y) w.nodes found answer nothing nodes)
    → h ≡ happenings w (word answer) → new ≡ record (running_world w) { nodes = nodes }
    → Steps takes w (Ok h) new (Ok (node_outcome network w number (answering word (k there.node))))
node_answered takes w new there k word answer nodes h b room did said is =
    node_acted takes w new there k word answer nothing nodes h b room (omega arith) (omega arith) did said
    (is ∙ (λ i. record (running_world w) { nodes = nodes; flights = sym (append-nil w.flights) i; made = sym (append-nil w.made) i }))

-- the same where the node answers a word of the report itself
pub node_said : (takes : Bool) (w new : World) {number found : ℕ} (there : IsThere w number found) (k : Node → NodeStep Answer) (answer : Answer)
    (nodes : List Node) (h : Happenings)
    → IsBounded w → w.events < MAX_EVENTS → IfSome (slice_get w.nodes found) (λ y. Did (k y) w.nodes found answer nothing nodes) → h ≡ happenings w answer
    → new ≡ record (running_world w) { nodes = nodes } → Steps takes w (Ok h) new (Ok (node_outcome network w number (k there.node)))
node_said takes w new there k answer nodes h b room did said is =
    node_answered takes w new there k (λ (a : Answer). a) answer nodes h b room did said is

-- # An event at which no node acted

-- the bounds after an event of no setup kind, by what it changed of the world beside counting itself
pub bounded_by : (w : World) (clock : ℕ) (nodes : List Node) (flights : List Flight) → IsBounded w → w.events < MAX_EVENTS → clock < w.clock + 4294967296
    → length nodes ≡ length w.nodes
    → length flights ≡ length w.flights → IsBounded (record (running_world w) { clock = clock; nodes = nodes; flights = flights })
bounded_by w clock nodes flights b room time same flown = record {
  events = let e = room in omega (arith, e);
  clock = let e = b.clock in omega (arith, e, time);
  nodes = let e = b.nodes in omega (arith, e, same);
  flights = let e = b.flights in omega (arith, e, flown);
  made = let e = b.made in omega (arith, e);
  sends = let e = b.sends in omega (arith, e);
  ups = let e = b.ups in omega (arith, e);
  forged = let e = b.forged in omega (arith, e);
  done = let e = b.done in omega (arith, e);
  uncut = λ is. absurd (cc);
}

-- an event that was taken, by the world that it left and what is said of it
pub is_taken_so : (takes : Bool) (w new : World) (step : Step) (trace : Trace) (h : Happenings) → step ≡ Ok (new, trace) → h ≡ trace.happenings → IsBounded new
    → Steps takes w (Ok h) new step
is_taken_so takes w new step trace h taken said bounds =
    record { gives = record { trace = trace; taken = taken; reported = said }; memory = by takes; bounds = bounds }
  where
    by : (t : Bool) → HasMemory t (Ok h)
    by true = tt
    by false = tt

-- an event that changes nothing but what it counts
pub only_ran : (takes : Bool) (w new : World) (trace : Trace) (h : Happenings) → IsBounded w → w.events < MAX_EVENTS → h ≡ trace.happenings
    → new ≡ running_world w
    → Steps takes w (Ok h) new (Ok (running_world w, trace))
only_ran takes w new trace h b room said is =
    is_taken_so takes w new (Ok (running_world w, trace)) trace h (λ i. Ok (sym is i, trace)) said
    (subst IsBounded (sym is) (bounded_by w w.clock w.nodes w.flights b room (omega arith) refl refl))
