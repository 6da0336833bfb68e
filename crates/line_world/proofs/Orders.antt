-- The meters and the coordinator that an event is about, and what an event leaves for which memory was reserved.
use Rattle.std.proofs.Common.{◌≡◌, ℕ, zero, suc, ◌<◌, ◌≤◌, Bool, true, false, List, [], ◌∷◌, length, Option, Some, Result, Ok, Err, refl, sym, ap, subst, ◌∙◌}
use Rattle.std.proofs.Common.{arith}
use Rattle.std.specs.Prelude.{◌==◌, if◌then◌else◌, is_ok, nat_lt, IfSome, IsOk, slice_get}
use Rattle.std.proofs.Math.Dec.{eqb-suc-zero}
use Rattle.std.proofs.lemmas.List.{append-nil, length-set}
use Rattle.plc_base.specs.declared.address.Eui.{Eui}
use Rattle.plc_base.specs.declared.out_frame.Out.{Out}
use Rattle.node_rules.specs.declared.refusal.CoordinatorRefusal.{CoordinatorRefusal}
use Rattle.node_rules.specs.declared.refusal.CoordinatorRefusal.TheVariants as orders
use Rattle.node_rules.specs.CarriedPlans.{nothing}
use Rattle.node_rules.specs.Ciphers.{network}
use Rattle.node_rules.specs.Memory.{Memory, Node}
use Rattle.node_rules.specs.NodeSteps.{NodeStep, acts}
use Rattle.node_rules.specs.Plans.{Plan}
use Rattle.line_world.specs.NodeOutcomes.{Did}
use Rattle.line_events.specs.declared.event.Answer.{Answer}
use Rattle.line_events.specs.declared.event.StepFault.{StepFault}
use Rattle.line_events.specs.declared.event.StepFault.TheVariants as faults
use Rattle.line_events.specs.declared.event.TheConstants.{MAX_EVENTS}
use Rattle.line_events.specs.declared.happenings.Happenings.{Happenings}
use Rattle.line_rules.specs.Answers.{ordered_word}
use Rattle.line_rules.specs.Worlds.{World, Trace}
use Rattle.line_rules.specs.Steps.{Step, admission_by, allowed, allowed_word, at_coordinator, by_coordinator, happenings, has_begun, on_meter, on_node}
use Rattle.line_rules.specs.Steps.{once_begun, running_world, world_after, trace_of}
use Rattle.line_world.specs.Bounds.{IsBounded}
use Rattle.line_world.specs.NamedNodes.{found, found_meter}
use Rattle.line_world.specs.Steps.{HasMemory, Steps, is_memory}
use Rattle.line_world.proofs.EventSteps.{IsThere, after, at_node, begun, bounded_after, is_there, node_acted, not_found, refused, steps_as, after_is}

-- # The coordinator

-- once the line has begun, the coordinator is there
pub first_there : (w : World) → true ≡ has_begun w → IsThere w 0 0
first_there w is = by w.nodes refl is
  where
    by : (nodes : List Node) → w.nodes ≡ nodes → true ≡ nat_lt 0 (length nodes) → IsThere w 0 0
    by [] same is = absurd (cc)
    by (x ∷ xs) same is = record {
      node = x;
      at = ap (λ (l : List Node). slice_get l 0) same;
      same = refl;
      within = subst (λ (l : List Node). 0 < length l) (sym same) (omega arith);
    }

-- # Meters

-- A number that is found is that of a meter.
pub record IsMeter (w : World) (number found : ℕ) : Type 0 where
  pub some : (number == 0) ≡ false
  pub there : IsThere w number found
  pub meter : 1 ≤ found

some_number : (n : ℕ) → (n == 0) ≡ false → 1 ≤ n
some_number zero e = absurd (cc)
some_number (suc n) e = omega arith

pub is_meter : (w : World) (number at : ℕ) → Ok at ≡ found_meter w number → IsMeter w number at
is_meter w number at is = by (number == 0) refl (once (has_begun w) is)
  where
    once : (b : Bool) → ◌≡◌ {A = Result ℕ StepFault} (Ok at) (if b then (if number == 0 then Err faults.Node else found w number) else Err faults.Setup)
        → ◌≡◌ {A = Result ℕ StepFault} (Ok at) (if number == 0 then Err faults.Node else found w number)
    once true h = h
    once false h = absurd (cc)

    by : (b : Bool) → (number == 0) ≡ b → ◌≡◌ {A = Result ℕ StepFault} (Ok at) (if b then Err faults.Node else found w number) → IsMeter w number at
    by true e h = absurd (cc)
    by false e h =
        let there = is_there w number at h in
        record { some = e; there = there; meter = let same = there.same in let some = some_number number e in omega (arith, same, some) }

-- and there is a coordinator then
pub meter_begun : (w : World) (number at : ℕ) → Ok at ≡ found_meter w number → true ≡ has_begun w
meter_begun w number at is = by (has_begun w) is
  where
    by : (b : Bool) → ◌≡◌ {A = Result ℕ StepFault} (Ok at) (if b then (if number == 0 then Err faults.Node else found w number) else Err faults.Setup)
        → true ≡ b
    by true h = refl
    by false h = absurd (cc)

-- an event of a meter that was not found is not taken
pub meter_not_found : (takes : Bool) (w : World) (number : ℕ) (k : Node → Step) (fault : StepFault) → IsBounded w → Err fault ≡ found_meter w number
    → Steps takes w (Err fault) w (once_begun w (on_meter w number k))
meter_not_found takes w number k fault bounds is = by (has_begun w) refl is
  where
    by_number : true ≡ has_begun w → (b : Bool) → ◌≡◌ {A = Result ℕ StepFault} (Err fault) (if b then Err faults.Node else found w number)
        → Steps takes w (Err fault) w (if b then Err faults.Node else on_node w number k)
    by_number has true h =
        let same : fault ≡ faults.Node = cc in refused fault (ap is_memory same) takes w (Err faults.Node) bounds (ap (λ (f : StepFault). Err f) (sym same))
    by_number has false h = steps_as _ _ (sym (begun w (on_node w number k) has)) (not_found takes w number k fault bounds h)

    by : (b : Bool) → has_begun w ≡ b
        → ◌≡◌ {A = Result ℕ StepFault} (Err fault) (if b then (if number == 0 then Err faults.Node else found w number) else Err faults.Setup)
        → Steps takes w (Err fault) w (if b then on_meter w number k else Err faults.Setup)
    by false e h =
        let same : fault ≡ faults.Setup = cc in refused fault (ap is_memory same) takes w (Err faults.Setup) bounds (ap (λ (f : StepFault). Err f) (sym same))
    by true e h = by_number (sym e) (number == 0) h

pub at_meter : {w : World} {number found : ℕ} (m : IsMeter w number found) (k : Node → Step) → on_meter w number k ≡ k m.there.node
at_meter {w} {number} m k =
    ap (λ (b : Bool). if b then Err faults.Node else on_node w number k) m.some ∙ at_node w number m.there.node k m.there.at

-- nor one of an agent that was not found
pub agent_not_found : (takes : Bool) (w : World) (number at agent : ℕ) (k : Node → Node → Step) (fault : StepFault) → IsBounded w → Ok at ≡ found_meter w number
    → Err fault ≡ found w agent
    → Steps takes w (Err fault) w (once_begun w (on_meter w number (λ x. on_node w agent (k x))))
agent_not_found takes w number at agent k fault bounds first is =
    let m = is_meter w number at first in
    let has = meter_begun w number at first in
    steps_as _ _ (begun w _ has ∙ at_meter m (λ x. on_node w agent (k x)) ∙ sym (begun w (on_node w agent (k m.there.node)) has))
    (not_found takes w agent (k m.there.node) fault bounds is)

-- what is said of the node of a number holds of the node that was found
pub of_found : {w : World} {number found : ℕ} (there : IsThere w number found) (P : Node → Type 0) → IfSome (slice_get w.nodes found) P → P there.node
of_found {w} {number} {found} there P h =
    let at : slice_get w.nodes found ≡ Some there.node = ap (λ n. slice_get w.nodes n) there.same ∙ there.at in
    subst (λ (o : Option Node). IfSome o P) at h

pub as_found : {w : World} {number found : ℕ} (there : IsThere w number found) (P : Node → Type 0) → P there.node → IfSome (slice_get w.nodes found) P
as_found {w} {number} {found} there P h =
    let at : slice_get w.nodes found ≡ Some there.node = ap (λ n. slice_get w.nodes n) there.same ∙ there.at in
    subst (λ (o : Option Node). IfSome o P) (sym at) h

-- a number that was found and is not 0 is that of a meter
pub is_some_meter : {w : World} {number found : ℕ} → IsThere w number found → 1 ≤ found → (number == 0) ≡ false
is_some_meter {w} {number} {found} there some = let same = there.same in by number (omega (arith, same, some))
  where
    by : (n : ℕ) → 1 ≤ n → (n == 0) ≡ false
    by zero h = absurd (omega (arith, h))
    by (suc n) h = eqb-suc-zero n

-- the number of a meter that was found fits
pub within_line : {w : World} {number found : ℕ} → IsBounded w → IsThere w number found → found < 1000
within_line {w} {number} {found} b there = let n = b.nodes in let t = there.within in omega (arith, n, t)

-- # Memory that was reserved

-- an event is one of the world that it met, since reserving changed nothing of it
pub reserved : {new : World} {r : Result Happenings StepFault} (kept w : World) (event : World → Step) → kept ≡ w → Steps true kept r new (event kept)
    → Steps true w r new (event w)
reserved {new} {r} kept w event same s = subst (λ (it : World). Steps true it r new (event it)) same s

-- What an event begins with that is taken: the line has begun, its counts are within their bounds, and it takes one more event.
pub record Runs (w : World) : Type 0 where
  pub begun : true ≡ has_begun w
  pub bounds : IsBounded w
  pub room : w.events < MAX_EVENTS

pub still_runs : {kept w : World} → kept ≡ w → Runs w → Runs kept
still_runs same r = subst (λ (it : World). Runs it) (sym same) r

-- # An event at which the coordinator acted

-- a step of the coordinator, of its own, about a node, and about a meter
pub by_first : {w : World} (r : Runs w) (k : Node → Step) → once_begun w (at_coordinator w k) ≡ k (first_there w r.begun).node
by_first {w} r k = let there = first_there w r.begun in begun w _ r.begun ∙ at_node w 0 there.node k there.at

pub about_node : {w : World} {number found : ℕ} (r : Runs w) (at : IsThere w number found) (k : Node → Node → Step)
    → once_begun w (on_node w number (λ x. at_coordinator w (λ c. k x c))) ≡ k at.node (first_there w r.begun).node
about_node {w} {number} r at k =
    let there = first_there w r.begun in
    begun w _ r.begun ∙ at_node w number at.node (λ x. at_coordinator w (λ c. k x c)) at.at ∙ at_node w 0 there.node (λ c. k at.node c) there.at

pub about_meter : {w : World} {number found : ℕ} (r : Runs w) (m : IsMeter w number found) (k : Node → Node → Step)
    → once_begun w (on_meter w number (λ x. at_coordinator w (λ c. k x c))) ≡ k m.there.node (first_there w r.begun).node
about_meter {w} {number} {found} r m k =
    let there = first_there w r.begun in
    begun w _ r.begun ∙ at_meter m (λ x. at_coordinator w (λ c. k x c)) ∙ at_node w 0 there.node (λ c. k m.there.node c) there.at

-- so an event of the coordinator about a meter that was found is taken
pub about_taken : (w : World) (number at : ℕ) → IsBounded w → w.events < MAX_EVENTS → Ok at ≡ found_meter w number → (k : Node → Node → World × Trace)
    → IsOk (once_begun w (on_meter w number (λ x. at_coordinator w (λ c. Ok (k x c)))))
about_taken w number at bounds room is k =
    ap is_ok (about_meter (record { begun = meter_begun w number at is; bounds = bounds; room = room }) (is_meter w number at is) (λ x c. Ok (k x c)))

-- what is said of an event at which frames went out, its word being another's
pub said_with : (w : World) (word answer_word : Answer) (count : ℕ) (h : Happenings) → h ≡ record (happenings w answer_word) { flights = count }
    → answer_word ≡ word
    → h ≡ record (happenings w word) { flights = count }
said_with w word answer_word count h said is = said ∙ (λ i. record (happenings w (is i)) { flights = count })

-- what is left of an order about a meter that may give something out, after memory was reserved for it
module _ (w kept new : World) (number at : ℕ) (same : kept ≡ w) (bounds : IsBounded w) (room : w.events < MAX_EVENTS) (is : Ok at ≡ found_meter w number) where
  runs : Runs kept
  runs = still_runs same (record { begun = meter_begun w number at is; bounds = bounds; room = room })

  pub about : IsMeter kept number at
  about = subst (λ (it : World). IsMeter it number at) (sym same) (is_meter w number at is)

  pub has_ordered : (rule : World → Step) (word : Answer) (order : Node → Eui → Memory → Plan Memory (Result (Unit {0}) CoordinatorRefusal)) (eui : Eui)
      (done : Result (Unit {0}) CoordinatorRefusal) (out : Out)
      (nodes : List Node) (answer_word : Answer) (h : Happenings)
      → rule kept ≡ once_begun kept (on_meter kept number (λ x. at_coordinator kept (λ c. Ok (by_coordinator network kept c word (order c x.eui)))))
      → IfSome (slice_get kept.nodes at) (λ x. eui ≡ x.eui)
      → IfSome (slice_get kept.nodes 0) (λ c. Did (acts c (Err orders.Halted) (order c eui)) kept.nodes 0 done out nodes)
      → length out.frames ≤ 24 → length out.tags.made ≤ 2 → answer_word ≡ ordered_word word done
      → h ≡ record (happenings kept answer_word) { flights = length out.frames }
      → new ≡ after (running_world kept) 0 nodes out → Steps true w (Ok h) new (rule w)
  has_ordered rule word order eui done out nodes answer_word h named eui_is did frames tags word_is said is_new =
      let first = first_there kept runs.begun in
      let own = of_found about.there (λ (x : Node). eui ≡ x.eui) eui_is in
      reserved kept w rule same
      (steps_as _ _ (named ∙ about_meter runs about (λ x c. Ok (by_coordinator network kept c word (order c x.eui)))
      ∙ ap (λ e. Ok (by_coordinator network kept first.node word (order first.node e))) (sym own))
      (node_acted true kept new first (λ c. acts c (Err orders.Halted) (order c eui)) (ordered_word word) done out nodes h
      runs.bounds runs.room frames tags did (said_with kept _ _ _ _ said word_is) is_new))

-- what is left of an event, where the coordinator allowed a meter or refused that
pub has_allowed : (w new : World) (number : ℕ) (there : IsThere w 0 0) (k : Node → NodeStep (Result ℕ CoordinatorRefusal))
    (answer : Result ℕ CoordinatorRefusal) (nodes : List Node)
    (h : Happenings) → IsBounded w → w.events < MAX_EVENTS → IfSome (slice_get w.nodes 0) (λ y. Did (k y) w.nodes 0 answer nothing nodes)
    → h ≡ record (happenings w (allowed_word answer)) { grant = admission_by number answer } → new ≡ record (running_world w) { nodes = nodes }
    → Steps false w (Ok h) new (Ok (allowed network w number (k there.node)))
has_allowed w new number there k answer nodes h b room did said is =
    let d : Did (k there.node) w.nodes 0 answer nothing nodes = of_found there (λ y. Did (k y) w.nodes 0 answer nothing nodes) did in
    let all : new ≡ after (running_world w) 0 nodes nothing = is
    ∙ (λ i. record (running_world w) { nodes = nodes; flights = sym (append-nil w.flights) i; made = sym (append-nil w.made) i }) in
    let left : world_after network (running_world w) 0 (k there.node)
    ≡ new = after_is (running_world w) 0 (k there.node) nodes nothing d.out_is d.nodes_are ∙ sym all in
    let same : length nodes ≡ length w.nodes = ap (λ (l : List Node). length l) d.nodes_are ∙ length-set w.nodes 0 (k there.node).node in
    let trace : Result ℕ CoordinatorRefusal → Trace = λ a. trace_of (record (happenings w (allowed_word a)) { grant = admission_by number a }) in
    record {
      gives = record {
        trace = trace (k there.node).answer;
        taken = λ i. Ok (left i, trace (k there.node).answer);
        reported = said ∙ (λ i. (trace (d.answer_is i)).happenings);
      };
      memory = tt;
      bounds = subst IsBounded (sym all) (bounded_after w 0 nodes nothing b room same (omega arith) (omega arith));
    }

-- # An event of which there is nothing but a word

pub only_said : (takes : Bool) (w new : World) (answer : Answer) (h : Happenings) → IsBounded w → w.events < MAX_EVENTS → h ≡ happenings w answer
    → new ≡ running_world w
    → Steps takes w (Ok h) new (Ok (running_world w, trace_of (happenings w answer)))
only_said takes w new answer h b room said is = record {
  gives = record { trace = trace_of (happenings w answer); taken = λ i. Ok (sym is i, trace_of (happenings w answer)); reported = said };
  memory = by takes;
  bounds = subst IsBounded (sym (is ∙ all)) (bounded_after w 0 w.nodes nothing b room refl (omega arith) (omega arith));
}
  where
    all : running_world w ≡ after (running_world w) 0 w.nodes nothing
    all = λ i. record (running_world w) { flights = sym (append-nil w.flights) i; made = sym (append-nil w.made) i }

    by : (t : Bool) → HasMemory t (Ok h)
    by true = tt
    by false = tt
