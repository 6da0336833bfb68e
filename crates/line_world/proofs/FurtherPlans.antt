-- What a station does by a plan of its further rules.
use Rattle.std.proofs.Common.{◌≡◌, ◌≢◌, ℕ, ◌*◌, ◌≤◌, Bool, true, false, List, [], ◌∷◌, length, Option, Some, None, Result, Ok, Err, refl, sym, ap, subst, ◌∙◌}
use Rattle.std.proofs.Common.{arith}
use Rattle.std.specs.Prelude.{◌==◌, IfNone, IfSome, IsSome, is_some, nat_lt, if◌then◌else◌}
use Rattle.std.specs.Option.{option_map, option_map_or}
use Rattle.plc_base.specs.Grant.{Granted}
use Rattle.group_keys.specs.KeyRing.{Ring}
use Rattle.std.proofs.lemmas.Bool.{eq-eqb, ne_eqb}
use Rattle.std.proofs.lemmas.List.{append-nil}
use Rattle.plc_base.specs.declared.out_frame.Out.{Out}
use Rattle.neighbour_checks.specs.Acks.{ack_in}
use Rattle.neighbour_checks.specs.Neighbours.{Neighbours, acked_after, is_awaited}
use Rattle.broadcast_log.specs.declared.broadcast.Broadcast.{Broadcast}
use Rattle.broadcast_log.specs.declared.fault.LogFault.{LogFault}
use Rattle.broadcast_log.specs.Log.{Log}
use Rattle.broadcast_log.specs.OriginMarks.{room_for}
use Rattle.path_requests.specs.declared.message.PathMessage.{PathMessage}
use Rattle.path_requests.specs.declared.message.PathMessage.TheVariants.{Ask, Tell}
use Rattle.path_requests.specs.Messages.{IsPath, path_spelling}
use Rattle.path_requests.specs.Walks.{walk_octets}
use Rattle.node_rules.specs.declared.refusal.Dropped.TheVariants.{BadUnit}
use Rattle.node_rules.specs.CarriedPlans.{Carries, nothing}
use Rattle.node_rules.specs.declared.refusal.LocalRefusal.{LocalRefusal}
use Rattle.node_rules.specs.declared.refusal.LocalRefusal.TheVariants as locals
use Rattle.node_rules.specs.Drafts.{Ends, alone, choose, counters_left, empty_draft, goes, refused, sealed, sealing}
use Rattle.node_rules.specs.Memory.{StationMemory, address_of, station_route}
use Rattle.node_rules.specs.Neighbours.{CarriesAfter, followed, local_draft, local_ends, send_local}
use Rattle.node_rules.specs.Plans.{Plan, resting, within}
use Rattle.node_rules.specs.States.{State}
use Rattle.plc_station.proofs.CarriedPlans.{resting_carried}
use Rattle.reach_rules.specs.declared.refusal.ReachDropped.{ReachDropped}
use Rattle.reach_rules.specs.declared.refusal.ReachDropped.TheVariants.{Known, NotAwaited, Old}
use Rattle.reach_rules.specs.Broadcasts.{broadcast_fault, mark_fault}
use Rattle.reach_rules.specs.declared.refusal.AskRefusal.TheVariants as asks
use Rattle.reach_rules.specs.PathRequests.{ask_ends, ask_path, asks_from}
use Rattle.reach_rules.specs.declared.heard.CommandHeard.{CommandHeard}
use Rattle.reach_rules.specs.declared.heard.CommandHeard.TheVariants.{Acked}
use Rattle.reach_rules.specs.CheckedReplies.{hear_acknowledgement_in}
use Rattle.reach_rules.specs.ReachingNodes.{Beside, Reaching, drop_it, in_reach, nothing_beside, remembers, adds_local, with_checks}
use Rattle.reach_rules.specs.FurtherReceptions.{NeighbourCommand}
use Rattle.line_rules.specs.Further.{without_log}
use Rattle.line_world.specs.FurtherOutcomes.{EndsCheck, Reaches, ReachesFirst, beside_left, check_ended, of_held}

-- # How long path messages are

walk_long : (walk : List ℕ) → length (walk_octets walk) ≡ 2 * length walk
walk_long [] = refl
walk_long (x ∷ xs) = let more = walk_long xs in omega (arith, more)

pub path_short : (message : PathMessage) → IsPath message → length (path_spelling message) ≤ 379
path_short (Ask target walk) p = let long = walk_long walk in let few = p.2 in omega (arith, long, few)
path_short (Tell walk) p = let long = walk_long walk in let few = p.1 in omega (arith, long, few)

-- # Why a broadcast is not admitted

pub fault_own : (own : ℕ) (log : Log) (b : Broadcast) → b.origin ≡ own → Some Old ≡ broadcast_fault own log b
unfolding broadcast_fault
fault_own own log b is = let same : (b.origin == own) ≡ true = eq-eqb b.origin own is in rw same refl

pub fault_other : (own : ℕ) (log : Log) (b : Broadcast) (r : Result (Unit {0}) LogFault) → b.origin ≢ own → r ≡ room_for log.marks b.origin b.number
    → mark_fault r ≡ broadcast_fault own log b
unfolding broadcast_fault
fault_other own log b r apart is = let other : (b.origin == own) ≡ false = ne_eqb b.origin own apart in rw (other, is) refl

-- # Ending a check

-- the checks, with nothing else of a node
abbrev pub checks_alone : Neighbours → Reaching (Unit {0})
checks_alone s = record { memory = tt; beside = record nothing_beside { checks = s } }

-- how a check ends, by whom the command went to, and what is read
abbrev ended_by : Neighbours → ℕ → Bool → Option (ℕ × ℕ) → Plan (Reaching (Unit {0})) (Result CommandHeard ReachDropped)
ended_by s from all read = choose all (drop_it (checks_alone s) (Known BadUnit)) (hear_acknowledgement_in (checks_alone s) from read)

-- the same by whether it was awaited
abbrev ended_at : Neighbours → ℕ → ℕ → ℕ → Bool → Plan (Reaching (Unit {0})) (Result CommandHeard ReachDropped)
ended_at s from number origin awaited =
    choose awaited (remembers (with_checks (acked_after s from number origin) (checks_alone s)) Acked) (drop_it (checks_alone s) NotAwaited)

pub ends_all : (s : Neighbours) (c : NeighbourCommand) → c.to_all ≡ true → EndsCheck s c (Err (Known BadUnit)) s
unfolding choose resting
ends_all s c is = record { answer = rw is refl; checks = rw is refl }

pub ends_unread : (s : Neighbours) (c : NeighbourCommand) → c.to_all ≡ false → ack_in c.body ≡ None → EndsCheck s c (Err (Known BadUnit)) s
unfolding choose resting
ends_unread s c one is =
    let answer : (check_ended s c).0 ≡ Err (Known BadUnit) = λ i. (ended_by s c.from (one i) (is i)).answer in
    let checks : (check_ended s c).1 ≡ s = λ i. (ended_by s c.from (one i) (is i)).memory.beside.checks in
    record { answer = sym answer; checks = sym checks }

module _ (s : Neighbours) (c : NeighbourCommand) (number origin : ℕ) (one : c.to_all ≡ false) (is : ack_in c.body ≡ Some (number, origin)) where
  -- an acknowledgement was read
  ended_read : ended_by s c.from c.to_all (ack_in c.body) ≡ ended_at s c.from number origin (is_awaited s c.from number origin)
  unfolding choose
  ended_read = λ i. ended_by s c.from (one i) (is i)

  pub ends_unawaited : is_awaited s c.from number origin ≡ false → EndsCheck s c (Err NotAwaited) s
  unfolding choose resting
  ends_unawaited none =
      let answer : (ended_at s c.from number origin (is_awaited s c.from number origin)).answer
      ≡ Err NotAwaited = λ i. (ended_at s c.from number origin (none i)).answer in
      let checks : (ended_at s c.from number origin (is_awaited s c.from number origin)).memory.beside.checks
      ≡ s = λ i. (ended_at s c.from number origin (none i)).memory.beside.checks in
      record {
        answer = sym (ap (λ (p : Plan (Reaching (Unit {0})) (Result CommandHeard ReachDropped)). p.answer) ended_read ∙ answer);
        checks = sym (ap (λ (p : Plan (Reaching (Unit {0})) (Result CommandHeard ReachDropped)). p.memory.beside.checks) ended_read ∙ checks);
      }

  pub ends_awaited : is_awaited s c.from number origin ≡ true → EndsCheck s c (Ok tt) (acked_after s c.from number origin)
  unfolding choose resting
  ends_awaited some =
      let answer : (ended_at s c.from number origin (is_awaited s c.from number origin)).answer
      ≡ Ok Acked = λ i. (ended_at s c.from number origin (some i)).answer in
      let checks : (ended_at s c.from number origin (is_awaited s c.from number origin)).memory.beside.checks ≡ acked_after s c.from number origin =
      λ i. (ended_at s c.from number origin (some i)).memory.beside.checks in
      record {
        answer = sym (ap (λ (p : Plan (Reaching (Unit {0})) (Result CommandHeard ReachDropped)). p.answer) ended_read ∙ answer);
        checks = sym (ap (λ (p : Plan (Reaching (Unit {0})) (Result CommandHeard ReachDropped)). p.memory.beside.checks) ended_read ∙ checks);
      }

-- # What a station holds

pub held_by : (o : Option StationMemory) → IsSome o → (l : StationMemory) × (o ≡ Some l)
held_by None some = absurd (cc)
held_by (Some l) some = (l, refl)

-- its address, as its ring says it
pub own_of : (l : StationMemory) (r : Ring) (own : Option ℕ) → r ≡ l.ring → own ≡ option_map (λ (g : Granted). g.address) r → address_of l ≡ own
own_of l r own is says = sym (says ∙ ap (λ (o : Ring). option_map (λ (g : Granted). g.address) o) is)

-- # Plans

module _ {A : Type 0} (s : State StationMemory) (b : Beside) (halted : A) (plan : Reaching StationMemory → Plan (Reaching StationMemory) A) where
  -- a halted station does nothing
  pub first_stayed : s.memory ≡ None → ReachesFirst s b halted plan halted nothing s b
  first_stayed e = record {
    stayed =
        subst (λ (o : Option StationMemory). IfNone o ((halted ≡ halted) × ((nothing ≡ nothing) × ((s ≡ s) × (b ≡ b))))) (sym e) (refl, (refl, (refl, refl)));
    carried = subst (λ (o : Option StationMemory). IfSome o (λ l. Carries s (of_held b plan l) halted nothing s)) (sym e) tt;
    beside = subst (λ (o : Option StationMemory). IfSome o (λ l. b ≡ beside_left b plan l s.memory)) (sym e) tt;
  }

  pub stayed_after : (before : Out) → s.memory ≡ None → Reaches s b halted plan halted before nothing s b
  stayed_after before e = record {
    stayed =
        subst (λ (o : Option StationMemory). IfNone o ((halted ≡ halted) × ((nothing ≡ nothing) × ((s ≡ s) × (b ≡ b))))) (sym e) (refl, (refl, (refl, refl)));
    carried = subst (λ (o : Option StationMemory). IfSome o (λ l. CarriesAfter s (of_held b plan l) halted before nothing s)) (sym e) tt;
    beside = subst (λ (o : Option StationMemory). IfSome o (λ l. b ≡ beside_left b plan l s.memory)) (sym e) tt;
  }

  module _ (l : StationMemory) (running : s.memory ≡ Some l) where
    pub none_stayed : (P : Type 0) → IfNone s.memory P
    none_stayed P = subst (λ (o : Option StationMemory). IfNone o P) (sym running) tt

    pub some_is : (P : StationMemory → Type 0) → P l → IfSome s.memory P
    some_is P p = subst (λ (o : Option StationMemory). IfSome o P) (sym running) p

    -- nothing is done
    rests_so : (answer failed : A) → plan (record { memory = l; beside = b }) ≡ resting (record { memory = l; beside = b }) answer failed
        → Carries s (of_held b plan l) answer nothing s
    unfolding resting
    rests_so answer failed is =
        subst (λ (p : Plan (Reaching StationMemory) A). Carries s (within (λ y. y.memory) (λ a. a) p) answer nothing s) (sym is)
        (resting_carried s l answer failed running)

    rests_beside : (answer failed : A) → plan (record { memory = l; beside = b }) ≡ resting (record { memory = l; beside = b }) answer failed
        → b ≡ beside_left b plan l s.memory
    unfolding resting
    rests_beside answer failed is =
        subst (λ (o : Option StationMemory). b ≡ beside_left b plan l o) (sym running) (sym (ap (λ (p : Plan (Reaching StationMemory) A). p.memory.beside) is))

    pub first_rests : (answer failed : A) → plan (record { memory = l; beside = b }) ≡ resting (record { memory = l; beside = b }) answer failed
        → ReachesFirst s b halted plan answer nothing s b
    first_rests answer failed is = record {
      stayed = none_stayed _;
      carried = some_is (λ k. Carries s (of_held b plan k) answer nothing s) (rests_so answer failed is);
      beside = some_is (λ k. b ≡ beside_left b plan k s.memory) (rests_beside answer failed is);
    }

    -- what was given out before stays
    pub before_stays : (before : Out) → before ≡ followed before nothing
    before_stays before = λ i. record {
      frames = sym (append-nil before.frames) i;
      tags = record { made = sym (append-nil before.tags.made) i; opened = sym (append-nil before.tags.opened) i };
    }

    pub rests_after : (before : Out) (answer failed : A) → plan (record { memory = l; beside = b }) ≡ resting (record { memory = l; beside = b }) answer failed
        → Reaches s b halted plan answer before before s b
    rests_after before answer failed is = record {
      stayed = none_stayed _;
      carried = some_is (λ k. CarriesAfter s (of_held b plan k) answer before before s) (record {
        added = nothing;
        carries = rests_so answer failed is;
        out_is = subst (λ (o : Option StationMemory). before ≡ (if is_some o then followed before nothing else nothing)) (sym running) (before_stays before);
      });
      beside = some_is (λ k. b ≡ beside_left b plan k s.memory) (rests_beside answer failed is);
    }

    -- a command is sent, and nothing else is done; its answer is read as another
    sent_so : {B : Type 0} (reads : B → A) (q : Plan StationMemory B) (answer : B) (out : Out) (t : State StationMemory)
        → plan (record { memory = l; beside = b }) ≡ within (λ k. record { memory = k; beside = b }) reads q → Carries s q answer out t
        → Carries s (of_held b plan l) (reads answer) out t
    sent_so {B} reads q answer out t is c =
        subst (λ (p : Plan (Reaching StationMemory) A). Carries s (within (λ y. y.memory) (λ a. a) p) (reads answer) out t) (sym is)
        (record { done = c.done; wrote = c.wrote; answer_is = ap reads c.answer_is ∙ by c.done; out_is = c.out_is; new_is = c.new_is })
      where
        by : (d : Bool) → reads (if d then q.answer else q.failed) ≡ (if d then reads q.answer else reads q.failed)
        by true = refl
        by false = refl

    pub sent_first : {B : Type 0} (reads : B → A) (q : Plan StationMemory B) (answer : B) (out : Out) (t : State StationMemory) (c : Beside)
        → plan (record { memory = l; beside = b }) ≡ within (λ k. record { memory = k; beside = b }) reads q → Carries s q answer out t
        → c ≡ (if is_some t.memory then b else without_log b) → ReachesFirst s b halted plan (reads answer) out t c
    sent_first {B} reads q answer out t c is carried left = record {
      stayed = none_stayed _;
      carried = some_is (λ k. Carries s (of_held b plan k) (reads answer) out t) (sent_so reads q answer out t is carried);
      beside = some_is (λ k. c ≡ beside_left b plan k t.memory)
          (left ∙ ap (λ (d : Beside). if is_some t.memory then d else without_log b) (sym (ap (λ (p : Plan (Reaching StationMemory) A). p.memory.beside) is)));
    }

    pub sent_after : {B : Type 0} (reads : B → A) (q : Plan StationMemory B) (answer : B) (before out : Out) (t : State StationMemory) (c : Beside)
        → plan (record { memory = l; beside = b }) ≡ within (λ k. record { memory = k; beside = b }) reads q → CarriesAfter s q answer before out t
        → c ≡ (if is_some t.memory then b else without_log b) → Reaches s b halted plan (reads answer) before out t c
    sent_after {B} reads q answer before out t c is carried left = record {
      stayed = none_stayed _;
      carried = some_is (λ k. CarriesAfter s (of_held b plan k) (reads answer) before out t)
          (record { added = carried.added; carries = sent_so reads q answer carried.added t is carried.carries; out_is = carried.out_is });
      beside = some_is (λ k. c ≡ beside_left b plan k t.memory)
          (left ∙ ap (λ (d : Beside). if is_some t.memory then d else without_log b) (sym (ap (λ (p : Plan (Reaching StationMemory) A). p.memory.beside) is)));
    }

-- # A command that is sent, and nothing else

-- what is answered to it, by how a rule says that counters are spent, and that a write failed
abbrev pub local_answer : {H E : Type 0} → Ends E → H → Result (Unit {0}) LocalRefusal → Result H E
local_answer ends answer (Ok u) = Ok answer
local_answer ends answer (Err locals.Halted) = Err ends.store
local_answer ends answer (Err locals.NotJoined) = Err ends.store
local_answer ends answer (Err locals.CounterSpent) = Err ends.spent
local_answer ends answer (Err locals.Store) = Err ends.store

module _ {H E : Type 0} (ends : Ends E) (l : StationMemory) (b : Beside) (to code : ℕ) (body : List ℕ) (answer : H) where
  pub sealed_answer : sealed (in_reach alone) ends (record { memory = l; beside = b })
      (adds_local to code body (empty_draft (record { memory = l; beside = b }))) answer
      ≡ within (λ k. record { memory = k; beside = b }) (local_answer ends answer) (send_local l code (Some to) body)
  unfolding sealed adds_local goes empty_draft resting
  sealed_answer = by (nat_lt (counters_left l) 1)
    where
      by : (t : Bool) → (if t then refused ends (record { memory = l; beside = b }) ends.spent
          else sealing (in_reach alone) ends (adds_local to code body (empty_draft (record { memory = l; beside = b }))) answer)
          ≡ within (λ k. record { memory = k; beside = b }) (local_answer ends answer)
          (if t then refused local_ends l locals.CounterSpent else sealing alone local_ends (local_draft l code (Some to) body) tt)
      by true = refl
      by false = refl

-- # Asking for a path

module _ (l : StationMemory) (b : Beside) (target : ℕ) where
  pub asks_unjoined : address_of l ≡ None
      → ask_path alone (record { memory = l; beside = b }) target ≡ refused ask_ends (record { memory = l; beside = b }) asks.NotJoined
  asks_unjoined is =
      ap (λ (o : Option ℕ). option_map_or (λ own. asks_from alone (record { memory = l; beside = b }) own target) o
      (refused ask_ends (record { memory = l; beside = b }) asks.NotJoined)) is

  joined : (own : ℕ) → address_of l ≡ Some own
      → ask_path alone (record { memory = l; beside = b }) target ≡ asks_from alone (record { memory = l; beside = b }) own target
  joined own is =
      ap (λ (o : Option ℕ). option_map_or (λ own. asks_from alone (record { memory = l; beside = b }) own target) o
      (refused ask_ends (record { memory = l; beside = b }) asks.NotJoined)) is

  pub asks_itself : (own : ℕ) → address_of l ≡ Some own → target ≡ own
      → ask_path alone (record { memory = l; beside = b }) target ≡ refused ask_ends (record { memory = l; beside = b }) asks.ToSelf
  unfolding choose
  asks_itself own is same = joined own is ∙ (let e : (target == own) ≡ true = eq-eqb target own same in rw e refl)

  pub asks_nowhere : (own : ℕ) → address_of l ≡ Some own → target ≢ own → station_route l target ≡ None
      → ask_path alone (record { memory = l; beside = b }) target ≡ refused ask_ends (record { memory = l; beside = b }) asks.NoRoute
  unfolding choose
  asks_nowhere own is apart none = joined own is ∙ (let e : (target == own) ≡ false = ne_eqb target own apart in rw (e, none) refl)

  pub asks_hop : (own hop : ℕ) → address_of l ≡ Some own → target ≢ own → station_route l target ≡ Some hop
      → ask_path alone (record { memory = l; beside = b }) target
      ≡ within (λ k. record { memory = k; beside = b }) (local_answer ask_ends tt) (send_local l 5 (Some hop) (path_spelling (Ask target (own ∷ []))))
  unfolding choose
  asks_hop own hop is apart some =
      joined own is ∙ (let e : (target == own) ≡ false = ne_eqb target own apart in rw (e, some) refl)
      ∙ sealed_answer ask_ends l b hop 5 (path_spelling (Ask target (own ∷ []))) tt
