-- What a station does by a plan that puts a record of its log first, and then does what another plan does; and which of these are broadcasts.
use Rattle.std.proofs.Common.{◌≡◌, ◌≢◌, ℕ, ◌+◌, ◌≤◌, ◌<◌, Bool, true, false, List, [], ◌++◌, length, Option, Some, None, Result, Ok, Err, refl, sym, ap, subst}
use Rattle.std.proofs.Common.{◌∙◌, arith}
use Rattle.std.specs.Prelude.{◌==◌, ◌||◌, IfNone, IfSome, IsSome, is_some, nat_lt, if◌then◌else◌}
use Rattle.std.specs.Option.{option_map, option_map_or}
use Rattle.std.proofs.lemmas.Bool.{eq-eqb, ne_eqb}
use Rattle.std.proofs.lemmas.Bool.Decides.{nat_tests}
use Rattle.std.proofs.lemmas.List.{append-nil}
use Rattle.plc_base.specs.Grant.{Granted}
use Rattle.group_keys.specs.KeyRing.{Ring}
use Rattle.plc_base.specs.declared.out_frame.Out.{Out}
use Rattle.plc_base.specs.Faults.{◌then◌, ◌when◌}
use Rattle.plc_base.specs.Keeper.{Stores, Write}
use Rattle.store_tables.specs.Writes.{puts_of}
use Rattle.store_tables.proofs.WritesLemmas.{wrote_one, wrote_append, wrote_append_stop}
use Rattle.broadcast_log.specs.declared.broadcast.Broadcast.{Broadcast}
use Rattle.broadcast_log.specs.declared.fault.LogFault.{LogFault}
use Rattle.broadcast_log.specs.declared.fault.LogFault.TheVariants as log_faults
use Rattle.broadcast_log.specs.Grammar.{spelling}
use Rattle.broadcast_log.specs.Log.{Log, admitted_log, empty_log, numbered_log}
use Rattle.broadcast_log.specs.NextNumber.{Numbering, is_spent, number_put}
use Rattle.broadcast_log.specs.OriginMarks.{keep_write, room_for}
use Rattle.broadcast_log.specs.Reader.{broadcast_in}
use Rattle.node_rules.specs.CarriedPlans.{Carries, given, nothing}
use Rattle.node_rules.specs.ComposedPlans.{behind}
use Rattle.node_rules.specs.Drafts.{Ends, alone, checked, choose, counters_left, empty_draft, goes, refused, sealed, sealing}
use Rattle.node_rules.specs.declared.refusal.Dropped.TheVariants.{BadUnit, CounterSpent, Store as PutFailed}
use Rattle.node_rules.specs.declared.refusal.LocalRefusal.{LocalRefusal}
use Rattle.node_rules.specs.declared.refusal.LocalRefusal.TheVariants as locals
use Rattle.node_rules.specs.Memory.{StationMemory, address_of}
use Rattle.node_rules.specs.Neighbours.{CarriesAfter, followed, local_draft, local_ends, send_local}
use Rattle.node_rules.specs.Plans.{Plan, resting, within}
use Rattle.node_rules.specs.States.{State}
use Rattle.node_rules.proofs.ComposedPlans.{reserve_none, reserved_none}
use Rattle.plc_station.proofs.CarriedPlans.{at_some, resting_carried}
use Rattle.plc_station.proofs.EndedSteps.{sealed_none}
use Rattle.plc_station.proofs.Ways.{enough, too_few}
use Rattle.reach_rules.specs.declared.heard.CommandHeard.{CommandHeard}
use Rattle.reach_rules.specs.declared.heard.CommandHeard.TheVariants as heard
use Rattle.reach_rules.specs.declared.refusal.BroadcastRefusal.TheVariants as refusals
use Rattle.reach_rules.specs.declared.refusal.ReachDropped.{ReachDropped}
use Rattle.reach_rules.specs.declared.refusal.ReachDropped.TheVariants.{Known, Old}
use Rattle.reach_rules.specs.Broadcasts.{admits_broadcast, broadcast, broadcast_ends, broadcast_fault, broadcast_from, datagram_fault, goes_further}
use Rattle.reach_rules.specs.Broadcasts.{hear_broadcast, hear_broadcast_in, hop_less, mark_fault, own_broadcast, with_broadcast_mark, with_broadcast_number}
use Rattle.reach_rules.specs.ReachingNodes.{Beside, Reaching, in_reach, reach_ends, adds_local}
use Rattle.line_events.specs.declared.event.Answer.TheVariants as answers
use Rattle.line_rules.specs.Further.{without_log}
use Rattle.line_world.specs.FurtherOutcomes.{Reaches, ReachesCommand, ReachesFirst, beside_left, handed_up, of_held, ended_by}
use Rattle.line_world.proofs.FurtherPlans.{first_rests, rests_after, local_answer}

-- # A record first

-- a station with something beside it
abbrev pub beside : StationMemory → Beside → Reaching StationMemory
beside l b = record { memory = l; beside = b }

-- a record is put, after which this stands beside the station, and then another plan follows, whose answer is read as this one's
abbrev pub logged : {A B : Type 0} → Option Write → Beside → (B → A) → Plan StationMemory B → Plan (Reaching StationMemory) A
logged put left reads q = behind (puts_of put) (within (λ k. beside k left) reads q)

-- Only the store is another one, and the memory.
pub record OnlyPut (s : State StationMemory) (put : Option Write) (done : Bool) (m : State StationMemory) : Type 0 where
  pub stores : Stores s.store put done m.store
  pub state : m ≡ record s { store = m.store; memory = if done then s.memory else None }

module _ {A : Type 0} (s : State StationMemory) (b : Beside) (halted : A) (plan : Reaching StationMemory → Plan (Reaching StationMemory) A)
    (l : StationMemory) (running : s.memory ≡ Some l) where
  not_halted : (P : Type 0) → IfNone s.memory P
  not_halted P = subst (λ (o : Option StationMemory). IfNone o P) (sym running) tt

  holds : (P : StationMemory → Type 0) → P l → IfSome s.memory P
  holds P p = subst (λ (o : Option StationMemory). IfSome o P) (sym running) p

  module _ {B : Type 0} (put : Option Write) (left : Beside) (reads : B → A) (q : Plan StationMemory B) (is : plan (beside l b) ≡ logged put left reads q) where
    -- the put failed
    stops_so : (m : State StationMemory) → q.opened ≡ [] → OnlyPut s put false m → Carries s (of_held b plan l) (reads q.failed) nothing m
    stops_so m empty p =
        subst (λ (k : Plan (Reaching StationMemory) A). Carries s (within (λ y. y.memory) (λ a. a) k) (reads q.failed) nothing m) (sym is) (record {
          done = false;
          wrote = wrote_append_stop s.store m.store (puts_of put) q.puts (wrote_one s.store m.store put false p.stores);
          answer_is = refl;
          out_is = λ i. record { frames = []; tags = record { made = []; opened = sym empty i } };
          new_is = λ i. record { store = m.store; eui = (p.state i).eui; memory = (p.state i).memory; replied = m.replied };
        })

    stops_beside : (m : State StationMemory) → OnlyPut s put false m → without_log b ≡ beside_left b plan l m.memory
    stops_beside m p =
        subst (λ (o : Option StationMemory). without_log b ≡ beside_left b plan l o) (sym (ap (λ (k : State StationMemory). k.memory) p.state)) refl

    pub put_failed : (before : Out) (m : State StationMemory) → q.opened ≡ [] → OnlyPut s put false m
        → Reaches s b halted plan (reads q.failed) before nothing m (without_log b)
    put_failed before m empty p = record {
      stayed = not_halted _;
      carried = holds (λ k. CarriesAfter s (of_held b plan k) (reads q.failed) before nothing m) (record {
        added = nothing;
        carries = stops_so m empty p;
        out_is = subst (λ (o : Option StationMemory). nothing ≡ (if is_some o then followed before nothing else nothing))
            (sym (ap (λ (k : State StationMemory). k.memory) p.state)) refl;
      });
      beside = holds (λ k. without_log b ≡ beside_left b plan k m.memory) (stops_beside m p);
    }

    -- it was done, and the other plan was carried out
    goes_on : (m t : State StationMemory) (answer : B) (out : Out) → OnlyPut s put true m → Carries m q answer out t
        → Carries s (of_held b plan l) (reads answer) out t
    goes_on m t answer out p c =
        subst (λ (k : Plan (Reaching StationMemory) A). Carries s (within (λ y. y.memory) (λ a. a) k) (reads answer) out t) (sym is) (record {
          done = c.done;
          wrote = wrote_append s.store m.store t.store (puts_of put) q.puts c.done (wrote_one s.store m.store put true p.stores) c.wrote;
          answer_is = ap reads c.answer_is ∙ read_so c.done;
          out_is = c.out_is;
          new_is = c.new_is ∙ (λ i. record { store = t.store; eui = (p.state i).eui; memory = if c.done then Some q.memory else None; replied = t.replied });
        })
      where
        read_so : (d : Bool) → reads (if d then q.answer else q.failed) ≡ (if d then reads q.answer else reads q.failed)
        read_so true = refl
        read_so false = refl

    pub put_and_goes : (before out : Out) (m t : State StationMemory) (answer : B) (c : Beside) → OnlyPut s put true m → CarriesAfter m q answer before out t
        → c ≡ (if is_some t.memory then left else without_log left) → without_log left ≡ without_log b → Reaches s b halted plan (reads answer) before out t c
    put_and_goes before out m t answer c p carried stands same = record {
      stayed = not_halted _;
      carried = holds (λ k. CarriesAfter s (of_held b plan k) (reads answer) before out t)
          (record { added = carried.added; carries = goes_on m t answer carried.added p carried.carries; out_is = carried.out_is });
      beside = holds (λ k. c ≡ beside_left b plan k t.memory)
          (stands
          ∙ (λ i. if is_some t.memory then (sym (ap (λ (k : Plan (Reaching StationMemory) A). k.memory.beside) is) i) else same i));
    }

-- # What comes first in a step

-- what a plan gives out that checks no tags is the plan's alone, where nothing was given out before
pub comes_first : {A : Type 0} (s t : State StationMemory) (b c : Beside) (halted answer : A) (plan : Reaching StationMemory → Plan (Reaching StationMemory) A)
    (out : Out) (l : StationMemory)
    → s.memory ≡ Some l → (plan (beside l b)).opened ≡ [] → Reaches s b halted plan answer nothing out t c → ReachesFirst s b halted plan answer out t c
comes_first {A} s t b c halted answer plan out l running empty r = record {
  stayed = r.stayed;
  carried = subst (λ (o : Option StationMemory). IfSome o (λ k. Carries s (of_held b plan k) answer out t)) (sym running)
      (alone_so (at_some s.memory (λ k. CarriesAfter s (of_held b plan k) answer nothing out t) l running r.carried));
  beside = r.beside;
}
  where
    alone_so : CarriesAfter s (of_held b plan l) answer nothing out t → Carries s (of_held b plan l) answer out t
    alone_so a = record {
      done = a.carries.done;
      wrote = a.carries.wrote;
      answer_is = a.carries.answer_is;
      out_is = out_so a.carries.done refl;
      new_is = a.carries.new_is;
    }
      where
        left : (d : Bool) → a.carries.done ≡ d → t.memory ≡ (if d then Some (of_held b plan l).memory else None)
        left d e = ap (λ (k : State StationMemory). k.memory) a.carries.new_is ∙ ap (λ (x : Bool). if x then Some (of_held b plan l).memory else None) e

        out_so : (d : Bool) → a.carries.done ≡ d → out ≡ given (of_held b plan l) d
        out_so true e =
            a.out_is ∙ ap (λ (o : Option StationMemory). if is_some o then followed nothing a.added else nothing) (left true e)
            ∙ (a.carries.out_is ∙ ap (λ (x : Bool). given (of_held b plan l) x) e)
        out_so false e =
            a.out_is ∙ ap (λ (o : Option StationMemory). if is_some o then followed nothing a.added else nothing) (left false e)
            ∙ (λ i. record { frames = []; tags = record { made = []; opened = sym empty i } })

-- # How many counters are left

-- none is, where this many are
pub spent_at : (l : StationMemory) (left : ℕ) → left + l.counter.next ≡ 4294967295 → left ≡ 0 → nat_lt (counters_left l) 1 ≡ true
spent_at l left is none = sym (too_few left l.counter.next 1 is (omega (arith, none)))

pub left_at : (l : StationMemory) (left : ℕ) → left + l.counter.next ≡ 4294967295 → left ≢ 0 → nat_lt (counters_left l) 1 ≡ false
left_at l left is some = sym (enough left l.counter.next 1 is (omega (arith, some)))

pub is_last : (hops : ℕ) → hops < 2 → nat_lt hops 2 ≡ true
is_last hops few = grind (arith, nat_tests)

pub is_not_last : (hops : ℕ) → 2 ≤ hops → nat_lt hops 2 ≡ false
is_not_last hops more = grind (arith, nat_tests)

-- # How many numbers are left

pub spent_number : (c : Numbering) (left : ℕ) → left + c.next ≡ 4294967295 → left ≡ 0 → is_spent c ≡ true
spent_number c left is none = eq-eqb c.next 4294967295 (omega (arith, is, none))

pub left_number : (c : Numbering) (left : ℕ) → left + c.next ≡ 4294967295 → left ≢ 0 → is_spent c ≡ false
left_number c left is some = ne_eqb c.next 4294967295 (λ e. some (omega (arith, is, e)))

-- # A broadcast of its own

module _ (l : StationMemory) (b : Beside) (own : ℕ) (datagram : List ℕ) where
  pub refuses_size : ((length datagram == 0) || nat_lt 360 (length datagram)) ≡ true
      → broadcast_from alone (beside l b) own datagram ≡ refused broadcast_ends (beside l b) refusals.BadSize
  unfolding checked datagram_fault
  refuses_size wrong = rw wrong refl

  pub refuses_spent : ((length datagram == 0) || nat_lt 360 (length datagram)) ≡ false → is_spent b.log.numbering ≡ true
      → broadcast_from alone (beside l b) own datagram ≡ refused broadcast_ends (beside l b) refusals.NumberSpent
  unfolding checked datagram_fault
  refuses_spent right spent = rw (right, spent) refl

  pub refuses_uncounted : ((length datagram == 0) || nat_lt 360 (length datagram)) ≡ false → is_spent b.log.numbering ≡ false
      → nat_lt (counters_left l) 1 ≡ true
      → broadcast_from alone (beside l b) own datagram ≡ refused broadcast_ends (beside l b) refusals.CounterSpent
  unfolding checked datagram_fault sealed adds_local with_broadcast_number empty_draft
  refuses_uncounted right left none = rw (right, left, none) refl

  pub own_goes : ((length datagram == 0) || nat_lt 360 (length datagram)) ≡ false → is_spent b.log.numbering ≡ false → nat_lt (counters_left l) 1 ≡ false
      → broadcast_from alone (beside l b) own datagram
      ≡ logged (number_put b.log.numbering) (record b { log = numbered_log b.log }) (local_answer broadcast_ends tt)
      (send_local l 4 None (spelling (own_broadcast own b.log datagram)))
  unfolding checked datagram_fault sealed adds_local goes with_broadcast_number empty_draft resting
  own_goes right left some = rw (right, left, some) refl

-- # A broadcast that is heard

module _ (l : StationMemory) (b : Beside) (y : Broadcast) where
  pub admits_uncounted : nat_lt y.hops 2 ≡ false → nat_lt (counters_left l) 1 ≡ true
      → admits_broadcast alone (beside l b) y ≡ refused reach_ends (beside l b) (Known CounterSpent)
  unfolding sealed goes_further adds_local with_broadcast_mark empty_draft
  admits_uncounted more none = rw (more, none) refl

  pub admits_on : nat_lt y.hops 2 ≡ false → nat_lt (counters_left l) 1 ≡ false
      → admits_broadcast alone (beside l b) y
      ≡ logged (keep_write b.log.marks y.origin y.number) (record b { log = admitted_log b.log y.origin y.number })
      (local_answer reach_ends (heard.Broadcast y.origin y.number y.octets))
      (send_local l 4 None (spelling (hop_less y)))
  unfolding sealed goes_further adds_local goes with_broadcast_mark empty_draft resting
  admits_on more some = rw (more, some) refl

  pub admits_last : nat_lt y.hops 2 ≡ true → l.counter.next ≤ l.counter.limit
      → admits_broadcast alone (beside l b) y
      ≡ logged (keep_write b.log.marks y.origin y.number) (record b { log = admitted_log b.log y.origin y.number }) (λ a. a)
      (resting l (Ok (heard.Broadcast y.origin y.number y.octets)) (Err reach_ends.store))
  unfolding sealed goes_further with_broadcast_mark empty_draft resting
  admits_last last below = rw last (by (nat_lt (counters_left l) 0) none_more)
    where
      none_more : nat_lt (counters_left l) 0 ≡ false
      none_more = grind (arith, nat_tests)

      by : (t : Bool) → t ≡ false
          → (if t then refused reach_ends (beside l b) (Known CounterSpent)
          else sealing (in_reach alone) reach_ends (with_broadcast_mark y.origin y.number (empty_draft (beside l b)))
          (heard.Broadcast y.origin y.number y.octets))
          ≡ logged (keep_write b.log.marks y.origin y.number) (record b { log = admitted_log b.log y.origin y.number }) (λ a. a)
          (resting l (Ok (heard.Broadcast y.origin y.number y.octets)) (Err reach_ends.store))
      by true e = absurd (cc)
      by false e = λ i. record {
        answer = Ok (heard.Broadcast y.origin y.number y.octets);
        failed = Err reach_ends.store;
        puts = puts_of (keep_write b.log.marks y.origin y.number) ++ puts_of (reserve_none l.counter below i);
        memory = beside (record l { counter = reserved_none l.counter below i }) (record b { log = admitted_log b.log y.origin y.number });
        frames = sealed_none l.ring l.counter.next i;
        made = [];
        opened = [];
      }

  pub hears_fault : (own : ℕ) (reason : ReachDropped) → broadcast_fault own b.log y ≡ Some reason
      → hear_broadcast_in alone (beside l b) own (Some y) ≡ refused reach_ends (beside l b) reason
  unfolding checked
  hears_fault own reason is = rw is refl

  pub hears_right : (own : ℕ) → broadcast_fault own b.log y ≡ None → hear_broadcast_in alone (beside l b) own (Some y) ≡ admits_broadcast alone (beside l b) y
  unfolding checked
  hears_right own is = rw is refl

-- # What is answered

-- how a command ended, in the words of the broadcast that it was
pub own_after : (sent : Result (Unit {0}) LocalRefusal) → local_answer broadcast_ends tt sent ≡ ended_by refusals.CounterSpent refusals.Store sent
own_after (Ok u) = refl
own_after (Err locals.Halted) = refl
own_after (Err locals.NotJoined) = refl
own_after (Err locals.CounterSpent) = refl
own_after (Err locals.Store) = refl

pub heard_reported : (y : Broadcast) (sent : Result (Unit {0}) LocalRefusal)
    → local_answer reach_ends (heard.Broadcast y.origin y.number y.octets) sent ≡ handed_up y (ended_by (Known CounterSpent) (Known PutFailed) sent)
heard_reported y (Ok u) = refl
heard_reported y (Err locals.Halted) = refl
heard_reported y (Err locals.NotJoined) = refl
heard_reported y (Err locals.CounterSpent) = refl
heard_reported y (Err locals.Store) = refl

-- # Plans that are the same for what a station holds

module _ {A : Type 0} (s t : State StationMemory) (b c : Beside) (halted answer : A) (p q : Reaching StationMemory → Plan (Reaching StationMemory) A)
    (l : StationMemory)
    (running : s.memory ≡ Some l) (same : p (beside l b) ≡ q (beside l b)) where
  same_beside : IfSome s.memory (λ k. c ≡ beside_left b p k t.memory) → IfSome s.memory (λ k. c ≡ beside_left b q k t.memory)
  same_beside stands =
      subst (λ (o : Option StationMemory). IfSome o (λ k. c ≡ beside_left b q k t.memory)) (sym running)
      (at_some s.memory (λ k. c ≡ beside_left b p k t.memory) l running stands
      ∙ ap (λ (k : Plan (Reaching StationMemory) A). if is_some t.memory then k.memory.beside else without_log b) same)

  pub same_first : (out : Out) → ReachesFirst s b halted p answer out t c → ReachesFirst s b halted q answer out t c
  same_first out r = record {
    stayed = r.stayed;
    carried = subst (λ (o : Option StationMemory). IfSome o (λ k. Carries s (of_held b q k) answer out t)) (sym running)
        (subst (λ (k : Plan (Reaching StationMemory) A). Carries s (within (λ y. y.memory) (λ a. a) k) answer out t) same
        (at_some s.memory (λ k. Carries s (of_held b p k) answer out t) l running r.carried));
    beside = same_beside r.beside;
  }

  pub same_after : (before out : Out) → Reaches s b halted p answer before out t c → Reaches s b halted q answer before out t c
  same_after before out r = record {
    stayed = r.stayed;
    carried = subst (λ (o : Option StationMemory). IfSome o (λ k. CarriesAfter s (of_held b q k) answer before out t)) (sym running)
        (subst (λ (k : Plan (Reaching StationMemory) A). CarriesAfter s (within (λ y. y.memory) (λ a. a) k) answer before out t) same
        (at_some s.memory (λ k. CarriesAfter s (of_held b p k) answer before out t) l running r.carried));
    beside = same_beside r.beside;
  }

-- # Broadcasts as calls and commands

module _ (l : StationMemory) (b : Beside) where
  pub unjoined : (datagram : List ℕ) → address_of l ≡ None → broadcast alone (beside l b) datagram ≡ refused broadcast_ends (beside l b) refusals.NotJoined
  unjoined datagram is =
      ap (λ (o : Option ℕ). option_map_or (λ own. broadcast_from alone (beside l b) own datagram) o (refused broadcast_ends (beside l b) refusals.NotJoined)) is

  pub joined_so : (own : ℕ) (datagram : List ℕ) → address_of l ≡ Some own
      → broadcast_from alone (beside l b) own datagram ≡ broadcast alone (beside l b) datagram
  joined_so own datagram is =
      ap (λ (o : Option ℕ). option_map_or (λ own. broadcast_from alone (beside l b) own datagram) o (refused broadcast_ends (beside l b) refusals.NotJoined))
      (sym is)

  pub to_one : (own : ℕ) (all : Bool) (body : List ℕ) → all ≡ false
      → hear_broadcast alone (beside l b) own all body ≡ refused reach_ends (beside l b) (Known BadUnit)
  unfolding choose
  to_one own all body is = rw is refl

  pub no_broadcast : (own : ℕ) (all : Bool) (body : List ℕ) → all ≡ true → broadcast_in body ≡ None
      → hear_broadcast alone (beside l b) own all body ≡ refused reach_ends (beside l b) (Known BadUnit)
  unfolding choose
  no_broadcast own all body is none = rw (is, none) refl

  pub is_broadcast : (own : ℕ) (all : Bool) (body : List ℕ) (y : Broadcast) → all ≡ true → broadcast_in body ≡ Some y
      → hear_broadcast_in alone (beside l b) own (Some y) ≡ hear_broadcast alone (beside l b) own all body
  unfolding choose
  is_broadcast own all body y is some = rw (is, some) refl

-- a command that is no broadcast is dropped
pub dropped_command : (s : State StationMemory) (b : Beside) (plan : Reaching StationMemory → Plan (Reaching StationMemory) (Result CommandHeard ReachDropped))
    (number : ℕ) (l : StationMemory) (before : Out)
    → s.memory ≡ Some l → plan (beside l b) ≡ refused reach_ends (beside l b) (Known BadUnit)
    → ReachesCommand s b plan (record { answer = answers.BadUnit; bup = None; path = None }) number before before s b
dropped_command s b plan number l before running is = record {
  answer = Err (Known BadUnit);
  reports = record { answer = refl; bup = refl; path = refl };
  reaches = rests_after s b (Err (Known PutFailed)) plan l running before (Err (Known BadUnit)) (Err (Known PutFailed)) is;
}

-- # A command after a record

-- what is then left beside the station
pub log_left : (b : Beside) (log kept left : Log) (runs : Bool) → left ≡ (if runs then kept else empty_log) → kept ≡ log
    → record b { log = left } ≡ (if runs then record b { log = log } else without_log b)
log_left b log kept left true is same = λ i. record b { log = (is ∙ same) i }
log_left b log kept left false is same = λ i. record b { log = is i }

-- where no record could be put
pub log_lost : (b : Beside) (left : Log) → left ≡ empty_log → record b { log = left } ≡ without_log b
log_lost b left is = λ i. record b { log = is i }

module _ (l : StationMemory) (code : ℕ) (to : Option ℕ) (body : List ℕ) where
  local_opens : (send_local l code to body).opened ≡ []
  unfolding sealed goes empty_draft resting
  local_opens = by (nat_lt (counters_left l) 1)
    where
      by : (t : Bool) → (if t then refused {H = Unit {0}} local_ends l locals.CounterSpent
          else sealing {H = Unit {0}} alone local_ends (local_draft l code to body) tt).opened ≡ []
      by true = refl
      by false = refl

  local_fails : (send_local l code to body).failed ≡ Err locals.Store
  unfolding sealed goes empty_draft resting
  local_fails = by (nat_lt (counters_left l) 1)
    where
      by : (t : Bool) → (if t then refused {H = Unit {0}} local_ends l locals.CounterSpent
          else sealing {H = Unit {0}} alone local_ends (local_draft l code to body) tt).failed ≡ Err locals.Store
      by true = refl
      by false = refl

module _ {H E : Type 0} (ends : Ends E) (s : State StationMemory) (b : Beside) (halted : Result H E)
    (plan : Reaching StationMemory → Plan (Reaching StationMemory) (Result H E))
    (l : StationMemory) (running : s.memory ≡ Some l) (put : Option Write) (log : Log) (answer : H) (code : ℕ) (to : Option ℕ) (body : List ℕ)
    (is : plan (beside l b) ≡ logged put (record b { log = log }) (local_answer ends answer) (send_local l code to body)) where
  pub unrecorded : (before : Out) (m : State StationMemory) → OnlyPut s put false m → Reaches s b halted plan (Err ends.store) before nothing m (without_log b)
  unrecorded before m p =
      subst (λ (r : Result H E). Reaches s b halted plan r before nothing m (without_log b)) (ap (local_answer ends answer) (local_fails l code to body))
      (put_failed s b halted plan l running put (record b { log = log }) (local_answer ends answer) (send_local l code to body) is before m
      (local_opens l code to body) p)

  pub recorded : (before out : Out) (m t : State StationMemory) (sent : Result (Unit {0}) LocalRefusal) (c : Beside) → OnlyPut s put true m
      → CarriesAfter m (send_local l code to body) sent before out t → c ≡ (if is_some t.memory then record b { log = log } else without_log b)
      → Reaches s b halted plan (local_answer ends answer sent) before out t c
  recorded before out m t sent c p carried stands =
      put_and_goes s b halted plan l running put (record b { log = log }) (local_answer ends answer) (send_local l code to body) is before out m t sent c p
      carried
      stands refl

  -- the same of what comes first in a step
  opens_none : (plan (beside l b)).opened ≡ []
  opens_none = ap (λ (k : Plan (Reaching StationMemory) (Result H E)). k.opened) is ∙ local_opens l code to body

  pub first_unrecorded : (out : Out) (m : State StationMemory) → out ≡ nothing → OnlyPut s put false m
      → ReachesFirst s b halted plan (Err ends.store) out m (without_log b)
  first_unrecorded out m empty p =
      subst (λ (o : Out). ReachesFirst s b halted plan (Err ends.store) o m (without_log b)) (sym empty)
      (comes_first s m b (without_log b) halted (Err ends.store) plan nothing l running opens_none (unrecorded nothing m p))

  pub first_recorded : (before out : Out) (m t : State StationMemory) (sent : Result (Unit {0}) LocalRefusal) (c : Beside) → before ≡ nothing
      → OnlyPut s put true m
      → CarriesAfter m (send_local l code to body) sent before out t → c ≡ (if is_some t.memory then record b { log = log } else without_log b)
      → ReachesFirst s b halted plan (local_answer ends answer sent) out t c
  first_recorded before out m t sent c empty p carried stands =
      comes_first s t b c halted (local_answer ends answer sent) plan out l running opens_none
      (subst (λ (o : Out). Reaches s b halted plan (local_answer ends answer sent) o out t c) empty (recorded before out m t sent c p carried stands))

-- # Refusals

module _ {H E : Type 0} (ends : Ends E) (s : State StationMemory) (b : Beside) (halted : Result H E)
    (plan : Reaching StationMemory → Plan (Reaching StationMemory) (Result H E))
    (l : StationMemory) (running : s.memory ≡ Some l) (reason : E) (is : plan (beside l b) ≡ refused ends (beside l b) reason) where
  pub refused_first : (out : Out) → out ≡ nothing → ReachesFirst s b halted plan (Err reason) out s b
  refused_first out empty =
      subst (λ (o : Out). ReachesFirst s b halted plan (Err reason) o s b) (sym empty) (first_rests s b halted plan l running (Err reason) (Err ends.store) is)

  pub refused_after : (before : Out) → Reaches s b halted plan (Err reason) before before s b
  refused_after before = rests_after s b halted plan l running before (Err reason) (Err ends.store) is

-- # A record, and nothing else

module _ {A : Type 0} (s : State StationMemory) (b : Beside) (halted : A) (plan : Reaching StationMemory → Plan (Reaching StationMemory) A)
    (l : StationMemory) (running : s.memory ≡ Some l) (put : Option Write) (log : Log) (answer failed : A)
    (is : plan (beside l b) ≡ logged put (record b { log = log }) (λ a. a) (resting l answer failed)) where
  pub only_unrecorded : (before : Out) (m : State StationMemory) → OnlyPut s put false m → Reaches s b halted plan failed before nothing m (without_log b)
  unfolding resting
  only_unrecorded before m p = put_failed s b halted plan l running put (record b { log = log }) (λ a. a) (resting l answer failed) is before m refl p

  pub only_recorded : (before : Out) (m : State StationMemory) → OnlyPut s put true m → Reaches s b halted plan answer before before m (record b { log = log })
  only_recorded before m p =
      put_and_goes s b halted plan l running put (record b { log = log }) (λ a. a) (resting l answer failed) is before before m m answer
      (record b { log = log }) p
      (record { added = nothing; carries = resting_carried m l answer failed held; out_is = out_so })
      (subst (λ (o : Option StationMemory). record b { log = log } ≡ (if is_some o then record b { log = log } else without_log b)) (sym held) refl) refl
    where
      held : m.memory ≡ Some l
      held = ap (λ (k : State StationMemory). k.memory) p.state ∙ running

      stays : before ≡ followed before nothing
      stays = λ i. record {
        frames = sym (append-nil before.frames) i;
        tags = record { made = sym (append-nil before.tags.made) i; opened = sym (append-nil before.tags.opened) i };
      }

      out_so : before ≡ (if is_some m.memory then followed before nothing else nothing)
      out_so = subst (λ (o : Option StationMemory). before ≡ (if is_some o then followed before nothing else nothing)) (sym held) stays

-- # What a command that was sent did

-- a station holds what it held before the record
pub still_held : (s m : State StationMemory) (put : Option Write) (l : StationMemory) → OnlyPut s put true m → s.memory ≡ Some l → m.memory ≡ Some l
still_held s m put l p running = ap (λ (k : State StationMemory). k.memory) p.state ∙ running

pub sent_as : (m t : State StationMemory) (l : StationMemory) (code : ℕ) (to : Option ℕ) (xs ys : List ℕ) (sent : Result (Unit {0}) LocalRefusal)
    (before out : Out) → m.memory ≡ Some l → xs ≡ ys
    → IfSome m.memory (λ k. CarriesAfter m (send_local k code to xs) sent before out t) → CarriesAfter m (send_local l code to ys) sent before out t
sent_as m t l code to xs ys sent before out held same c =
    subst (λ (zs : List ℕ). CarriesAfter m (send_local l code to zs) sent before out t) same
    (at_some m.memory (λ k. CarriesAfter m (send_local k code to xs) sent before out t) l held c)

-- # What the calls ask

-- who has an address has a ring
pub ring_of : (r : Ring) (own : ℕ) → option_map (λ (g : Granted). g.address) r ≡ Some own → IsSome r
ring_of None own is = absurd (cc)
ring_of (Some g) own is = refl

pub joined_by : (o : Option StationMemory) (l : StationMemory) (own : ℕ) → o ≡ Some l → address_of l ≡ Some own → IfSome o (λ k. IsSome k.ring)
joined_by o l own running is = subst (λ (k : Option StationMemory). IfSome k (λ m. IsSome m.ring)) (sym running) (ring_of l.ring own is)

-- what is not at fault has room
pub right_marks : (own : ℕ) (log : Log) (y : Broadcast) → broadcast_fault own log y ≡ None → room_for log.marks y.origin y.number ≡ Ok tt
unfolding broadcast_fault
right_marks own log y is = by (y.origin == own) (room_for log.marks y.origin y.number) is
  where
    by : (t : Bool) (r : Result (Unit {0}) LogFault) → (Some Old when t then mark_fault r) ≡ None → r ≡ Ok tt
    by true r h = absurd (cc)
    by false (Ok u) h = refl
    by false (Err log_faults.NumberSpent) h = absurd (cc)
    by false (Err log_faults.Store) h = absurd (cc)
    by false (Err log_faults.Old) h = absurd (cc)
    by false (Err log_faults.OriginsFull) h = absurd (cc)
