-- A send that a node took is counted, and one that it refused is not.
use Rattle.std.proofs.Common.{◌≡◌, ℕ, ◌+◌, ◌<◌, ◌≤◌, Bool, true, false, List, length, Result, Ok, Err, refl, sym, ap, subst, ◌∙◌, arith}
use Rattle.std.specs.Prelude.{IfSome, is_ok, slice_get}
use mir.Val.{bool_byte}
use Rattle.plc_base.specs.declared.out_frame.Out.{Out}
use Rattle.node_rules.specs.Ciphers.{network}
use Rattle.node_rules.specs.Memory.{Node}
use Rattle.node_rules.specs.NodeSteps.{NodeStep, answering}
use Rattle.node_rules.specs.declared.heard.SentHow.{SentHow}
use Rattle.node_rules.specs.declared.heard.SentHow.TheVariants as how
use Rattle.node_rules.specs.declared.refusal.SendRefusal.{SendRefusal}
use Rattle.node_rules.specs.declared.refusal.SendRefusal.TheVariants as sends
use Rattle.line_world.specs.NodeOutcomes.{Did}
use Rattle.line_events.specs.declared.event.TheConstants.{MAX_EVENTS}
use Rattle.line_events.specs.declared.happenings.Happenings.{Happenings}
use Rattle.line_rules.specs.Answers.{sent_word}
use Rattle.line_rules.specs.Worlds.{World, Trace}
use Rattle.line_rules.specs.Steps.{happenings, is_taken, running_world, sending, sent_if}
use Rattle.line_world.specs.Bounds.{IsBounded}
use Rattle.line_world.specs.Steps.{Steps, Takes}
use Rattle.line_world.proofs.EventSteps.{IsThere, after, node_acted, holds_there}

-- the word of a send takes it exactly where the node took it
taken_as : (sent : Result SentHow SendRefusal) → is_taken (sent_word sent) ≡ is_ok sent
taken_as (Ok how.Sent) = refl
taken_as (Ok how.Waiting) = refl
taken_as (Err sends.Halted) = refl
taken_as (Err sends.NotJoined) = refl
taken_as (Err sends.BadSize) = refl
taken_as (Err sends.ToSelf) = refl
taken_as (Err sends.WaitingFull) = refl
taken_as (Err sends.SeqSpent) = refl
taken_as (Err sends.CounterSpent) = refl
taken_as (Err sends.Store) = refl

abbrev inside : {A B : Type 0} → A → Result A B → A
inside a (Ok b) = b
inside a (Err e) = a

-- what is left of an event, with its send counted where it was taken
counted_if : (w before : World) (from to : ℕ) (datagram : List ℕ) (tag : ℕ) (r : World × Trace) (h : Happenings) (counted : ℕ) (taken : Bool)
    → before.sends < before.events
    → counted ≡ bool_byte taken → Steps true w (Ok h) before (Ok r)
    → Steps true w (Ok h) (record before { sends = before.sends + counted }) (Ok (sent_if w from to datagram tag taken r))
counted_if w before from to datagram tag r h counted false less count s =
    let none : counted ≡ 0 = count in
    let same : before.sends ≡ before.sends + counted = omega (arith, none) in
    subst (λ (n : ℕ). Steps true w (Ok h) (record before { sends = n }) (Ok r)) same s
counted_if w before from to datagram tag r h counted true less count s =
    let one : counted ≡ 1 = count in
    let more : before.sends + 1 ≡ before.sends + counted = omega (arith, one) in
    let b : IsBounded before = s.bounds in
    let t : Takes h before (Ok r) = s.gives in
    let same : r ≡ (before, t.trace) = ap (inside r) t.taken in
    let next : World × Trace → World × Trace = λ (q : World × Trace). sent_if w from to datagram tag true q in
    let left : next r ≡ (record before { sends = before.sends + counted }, (next (before, t.trace)).1) =
    ap next same ∙ (λ i. (record before { sends = more i }, (next (before, t.trace)).1)) in
    record {
      gives = record {
        trace = (next (before, t.trace)).1;
        taken = ap (λ (q : World × Trace). Ok q) left;
        reported = t.reported;
      };
      memory = tt;
      bounds = record {
        events = b.events;
        clock = b.clock;
        nodes = b.nodes;
        flights = b.flights;
        made = b.made;
        sends = let l = less in omega (arith, l, one);
        ups = b.ups;
        forged = b.forged;
        done = b.done;
        uncut = b.uncut;
      };
    }

-- what is said and what is left of a send, where the node that was found did this
pub node_sent : (w new : World) {number found : ℕ} (there : IsThere w number found) (to : ℕ) (datagram : List ℕ) (tag : ℕ)
    (k : Node → NodeStep (Result SentHow SendRefusal))
    (sent : Result SentHow SendRefusal) (out : Out) (nodes : List Node) (counted : ℕ) (h : Happenings) → IsBounded w → w.events < MAX_EVENTS
    → length out.frames ≤ 24
    → length out.tags.made ≤ 2 → IfSome (slice_get w.nodes found) (λ y. Did (k y) w.nodes found sent out nodes) → counted ≡ bool_byte (is_ok sent)
    → h ≡ record (happenings w (sent_word sent)) { flights = length out.frames }
    → new ≡ record (after (running_world w) found nodes out) { sends = w.sends + counted }
    → Steps true w (Ok h) new (Ok (sending network w number to datagram tag (answering sent_word (k there.node))))
node_sent w new {number} {found} there to datagram tag k sent out nodes counted h b room frames tags did count said is =
    let d : Did (k there.node) w.nodes found sent out nodes = holds_there there (λ y. Did (k y) w.nodes found sent out nodes) did in
    let taken : is_ok sent ≡ is_taken (sent_word (k there.node).answer) = sym (taken_as sent) ∙ ap (λ a. is_taken (sent_word a)) d.answer_is in
    let less : w.sends < w.events + 1 = let e = b.sends in omega (arith, e) in
    subst (λ (n : World). Steps true w (Ok h) n (Ok (sending network w number to datagram tag (answering sent_word (k there.node))))) (sym is)
    (counted_if w (after (running_world w) found nodes out) number to datagram tag _ h counted _ less (count ∙ ap bool_byte taken)
    (node_acted true w (after (running_world w) found nodes out) there k sent_word sent out nodes h b room frames tags did said refl))
