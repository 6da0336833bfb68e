-- Laws of plans that are carried out, for those who make their plans of what a station does.
use Rattle.std.proofs.Common.{◌≡◌, ℕ, ◌+◌, ◌≤◌, Bool, true, false, List, [], ◌∷◌, ◌++◌, length, map, Option, Some, None, Result, Ok, Err, refl, sym, ap, subst}
use Rattle.std.proofs.Common.{◌∙◌, arith, add-zero}
use Rattle.std.specs.Prelude.{if◌then◌else◌, is_some, nat_lt}
use Rattle.std.specs.Option.{option_map}
use Rattle.std.proofs.lemmas.Bool.Decides.{nat_tests}
use Rattle.std.proofs.lemmas.List.{map-append, append-nil, append_assoc}
use Rattle.plc_base.specs.declared.address.Eui.{Eui}
use Rattle.plc_base.specs.declared.tags.PairTag.{PairTag}
use Rattle.plc_base.specs.declared.out_frame.Out.{Out}
use Rattle.plc_base.specs.Keeper.{Store, Write}
use Rattle.store_tables.specs.Writes.{Wrote, puts_of}
use Rattle.store_tables.proofs.WritesLemmas.{wrote_append, wrote_append_stop}
use Rattle.frame_counters.specs.SendCounter.{Counting, reserved, reserve_write, passes, raised}
use Rattle.node_rules.specs.Ciphers.{network}
use Rattle.node_rules.specs.Frames.{Sent, spelled}
use Rattle.node_rules.specs.Plans.{Plan, within}
use Rattle.group_keys.specs.KeyRing.{Ring, ring_write}
use Rattle.plc_base.specs.declared.key.Key.{Key}
use Rattle.std.specs.Option.{option_map_or}
use Rattle.routing_set.specs.OwnNumber.{advance_write, advanced}
use Rattle.mesh_header.specs.declared.unit.Unit.TheVariants.{Local}
use Rattle.loadng_messages.specs.declared.message.Message.TheVariants.{Rreq}
use Rattle.loadng_messages.specs.Grammar.{spelling as message_spelling}
use Rattle.node_rules.specs.Memory.{StationMemory, Memory, Load, Command, next_hop, address_of}
use Rattle.node_rules.specs.Frames.{to_all}
use Rattle.node_rules.specs.Plans.{resting}
use Rattle.node_rules.specs.Drafts.{Draft, Ends, empty_draft, sealing, sealed, sealed_by, sealing_key, sealed_units, counters_left, sets_out, body_goes, waits}
use Rattle.node_rules.specs.Drafts.{seeks_once, goes, with_own_number, is_awaited, all_go, units_of, Lack, lack, checked, refused, with_ring}
use Rattle.node_rules.specs.Calls.{Ringing, sending_ends, lacking, room_fault, command_frames, command_from, send_command, ring_ends, install, command_fault}
use Rattle.node_rules.specs.MemoryDrafts.{with_station, in_memory, on_station}
use Rattle.node_rules.specs.declared.refusal.SendRefusal.{SendRefusal}
use Rattle.plc_base.specs.Faults.{◌then◌, ◌when◌}
use Rattle.plc_base.specs.Grant.{Granted}
use Rattle.node_rules.specs.declared.refusal.RingRefusal.{RingRefusal}
use Rattle.node_rules.specs.declared.refusal.RingRefusal.TheVariants.{Store as RingStore}
use Rattle.node_rules.specs.declared.refusal.SendRefusal.TheVariants.{NotJoined, CounterSpent}
use Rattle.node_rules.specs.States.{State}
use Rattle.node_rules.specs.CarriedPlans.{Carries, given}
use Rattle.node_rules.specs.ComposedPlans.{behind, adding, out_with, seen, begun, answer_if_sent, command_alone, HasRoom}

-- # A part of what a node holds

map_if : {M N : Type 0} (whole : M → N) (done : Bool) (m : M) → option_map whole (if done then Some m else None) ≡ (if done then Some (whole m) else None)
map_if whole true m = refl
map_if whole false m = refl

read_if : {A B : Type 0} (reads : A → B) (done : Bool) (x y : A) → reads (if done then x else y) ≡ (if done then reads x else reads y)
read_if reads true x y = refl
read_if reads false x y = refl

-- a plan that was carried out over a part was carried out over the whole
pub carries_within : {M N A B : Type 0} (whole : M → N) (reads : A → B) (old : State N) (before new : State M) (p : Plan M A) (answer : A) (out : Out)
    → old.store ≡ before.store → old.eui ≡ before.eui → Carries before p answer out new → Carries old (within whole reads p) (reads answer) out (seen whole new)
carries_within {M} {N} {A} {B} whole reads old before new p answer out store eui c = record {
  done = c.done;
  wrote = subst (λ (k : Store). Wrote k p.puts c.done new.store) (sym store) c.wrote;
  answer_is = ap reads c.answer_is ∙ read_if reads c.done p.answer p.failed;
  out_is = c.out_is;
  new_is = ap (seen whole) c.new_is ∙ (λ i. record (seen whole new) { eui = sym eui i; memory = map_if whole c.done p.memory i });
}

-- # One plan after another

-- a state with this identity and this memory
pub state_is : {M : Type 0} (t : State M) (eui : Eui) (memory : Option M) → t.eui ≡ eui → t.memory ≡ memory → t ≡ record t { eui = eui; memory = memory }
state_is t eui memory e m = λ i. record t { eui = e i; memory = m i }

-- puts that were done, and a plan that was carried out after them
pub carries_behind : {M A : Type 0} (s t u : State M) (ws : List Write) (p : Plan M A) (answer : A) (out : Out)
    → Wrote s.store ws true t.store → s.eui ≡ t.eui → Carries t p answer out u → Carries s (behind ws p) answer out u
carries_behind {M} {A} s t u ws p answer out wrote eui c = record {
  done = c.done;
  wrote = wrote_append s.store t.store u.store ws p.puts c.done wrote c.wrote;
  answer_is = c.answer_is;
  out_is = c.out_is;
  new_is = c.new_is ∙ (λ i. record u { eui = sym eui i; memory = if c.done then Some p.memory else None });
}

-- one of the puts before it failed
pub carries_stopped : {M A : Type 0} (s t : State M) (ws vs : List Write) (p : Plan M A) (out : Out)
    → Wrote s.store ws false t.store → p.puts ≡ ws ++ vs → out ≡ given p false → t.eui ≡ s.eui → t.memory ≡ None → Carries s p p.failed out t
carries_stopped {M} {A} s t ws vs p out wrote puts is eui memory = record {
  done = false;
  wrote = subst (λ (k : List Write). Wrote s.store k false t.store) (sym puts) (wrote_append_stop s.store t.store ws vs wrote);
  answer_is = refl;
  out_is = is;
  new_is = state_is t s.eui None eui memory;
}

-- # What more is given out

given_adding : {M A : Type 0} (frames : List Sent) (made opened : List PairTag) (p : Plan M A) (done : Bool)
    → out_with frames made opened done (given p done) ≡ given (adding frames made opened p) done
given_adding frames made opened p true =
    λ i. record { frames = sym (map-append (spelled network) frames p.frames) i; tags = record { made = made ++ p.made; opened = opened ++ p.opened } }
given_adding frames made opened p false = refl

is_done : {M : Type 0} (done : Bool) (m : M) → is_some (if done then Some m else None) ≡ done
is_done true m = refl
is_done false m = refl

pub carries_adding : {M A : Type 0} (frames : List Sent) (made opened : List PairTag) (s t : State M) (p : Plan M A) (answer : A) (out more : Out)
    → Carries s p answer out t → more ≡ out_with frames made opened (is_some t.memory) out → Carries s (adding frames made opened p) answer more t
carries_adding {M} {A} frames made opened s t p answer out more c is =
    let known : is_some t.memory ≡ c.done = ap (λ (k : State M). is_some k.memory) c.new_is ∙ is_done c.done p.memory in
    record {
      done = c.done;
      wrote = c.wrote;
      answer_is = c.answer_is;
      out_is =
          is ∙ ap (λ d. out_with frames made opened d out) known ∙ ap (out_with frames made opened c.done) c.out_is ∙ given_adding frames made opened p c.done;
      new_is = c.new_is;
    }

-- # No counter

no_put : (c : Counting) → c.next ≤ c.limit → passes c 0 ≡ false
no_put c below = grind (arith, nat_tests)

-- no counter is taken for no frame
pub reserve_none : (c : Counting) → c.next ≤ c.limit → reserve_write c 0 ≡ None
reserve_none c below = rw (no_put c below) refl

pub reserved_none : (c : Counting) → c.next ≤ c.limit → reserved c 0 ≡ c
reserved_none c below = λ i. record { limit = same i; next = add-zero c.next i }
  where
    same : (if passes c 0 then raised c.limit else c.limit) ≡ c.limit
    same = rw (no_put c below) refl

-- # A doing that seals nothing

spelled_nil : (frames : List Sent) → map (spelled network) (frames ++ []) ≡ map (spelled network) frames
spelled_nil frames = ap (map (spelled network)) (append-nil frames)

sealed_none : (r : Ring) (first : ℕ) → sealed_by r first [] ≡ []
sealed_none None first = refl
sealed_none (Some g) first = by_key (sealing_key g)
  where
    by_key : (k : Option Key) → option_map_or (λ key. sealed_units g key first []) k [] ≡ []
    by_key None = refl
    by_key (Some key) = refl

-- the words before the sealing, with what is given out and stored by then
pub quiet_plan : {H E : Type 0} (ends : Ends E) (puts : List Write) (m : Memory) (plain : List Sent) (made opened : List PairTag) (answer : H)
    → m.station.counter.next ≤ m.station.counter.limit
    → adding plain made opened (behind puts (resting m (Ok answer) (Err ends.store))) ≡ sealing in_memory ends (begun puts m plain made opened) answer
unfolding resting
quiet_plan {H} {E} ends puts m plain made opened answer below = λ i. record {
  answer = Ok answer;
  failed = Err ends.store;
  puts = puts ++ puts_of (sym (reserve_none m.station.counter below) i);
  memory = record m { station = record m.station { counter = sym (reserved_none m.station.counter below) i } };
  frames = plain ++ sym (sealed_none m.station.ring m.station.counter.next) i;
  made = append-nil made i;
  opened = append-nil opened i;
}

-- all puts were done, and nothing is sealed
pub carries_quiet : {H E : Type 0} (ends : Ends E) (s t : State Memory) (puts : List Write) (m : Memory) (plain : List Sent) (made opened : List PairTag)
    (answer : H) (out : Out)
    → m.station.counter.next ≤ m.station.counter.limit → Wrote s.store puts true t.store
    → out ≡ record { frames = map (spelled network) plain; tags = record { made = made; opened = opened } } → t.eui ≡ s.eui → t.memory ≡ Some m
    → Carries s (sealing in_memory ends (begun puts m plain made opened) answer) (Ok answer) out t
unfolding resting
carries_quiet {H} {E} ends s t puts m plain made opened answer out below wrote is eui memory =
    subst (λ (p : Plan Memory (Result H E)). Carries s p (Ok answer) out t) (quiet_plan ends puts m plain made opened answer below) (record {
      done = true;
      wrote = subst (λ (k : List Write). Wrote s.store k true t.store) (sym (append-nil puts)) wrote;
      answer_is = refl;
      out_is = is ∙ (λ i. record { frames = sym (spelled_nil plain) i; tags = record { made = sym (append-nil made) i; opened = sym (append-nil opened) i } });
      new_is = state_is t s.eui (Some m) eui memory;
    })

-- one of the first puts failed
pub carries_unsealed : {H E : Type 0} (ends : Ends E) (s t : State Memory) (d : Draft Memory) (ws vs : List Write) (answer : H) (out : Out)
    → Wrote s.store ws false t.store → d.puts ≡ ws ++ vs → out ≡ record { frames = []; tags = record { made = []; opened = d.opened } } → t.eui ≡ s.eui
    → t.memory ≡ None
    → Carries s (sealing in_memory ends d answer) (Err ends.store) out t
carries_unsealed {H} {E} ends s t d ws vs answer out wrote puts is eui memory =
    carries_stopped s t ws (vs ++ puts_of (reserve_write d.memory.station.counter (length d.units))) (sealing in_memory ends d answer) out wrote
    (ap (λ (k : List Write). k ++ puts_of (reserve_write d.memory.station.counter (length d.units))) puts ∙ append_assoc ws vs _) is eui memory

-- a doing without units is never too long for the counters
pub sealed_quiet : {H E : Type 0} (ends : Ends E) (m : Memory) (d : Draft Memory) (answer : H) → d.units ≡ []
    → sealing in_memory ends d answer ≡ sealed in_memory ends m d answer
unfolding sealed
sealed_quiet {H} {E} ends m d answer none = rw (none, never_less (counters_left m.station)) refl
  where
    never_less : (n : ℕ) → nat_lt n 0 ≡ false
    never_less n = grind (arith, nat_tests)

-- # A command

module _ {H E : Type 0} (ends : Ends E) (puts : List Write) (m : Memory) (plain : List Sent) (made opened : List PairTag) (own to : ℕ) (load : Load) (now : ℕ)
    (answer : H) where
  abbrev CommandPlan : Type 0
  CommandPlan =
      adding plain made opened (behind puts (within (λ l. with_station l m) (answer_if_sent ends answer) (command_alone m.station own to load now)))
      ≡ sealing in_memory ends (on_station (sets_out own to 0 load now) (begun puts m plain made opened)) answer

  by_hop : (hop : ℕ) → next_hop m.station to ≡ Some hop → CommandPlan
  unfolding empty_draft on_station body_goes
  by_hop hop e = rw e (λ i. record {
    answer = Ok answer;
    failed = Err ends.store;
    puts = puts ++ puts_of (reserve_write m.station.counter (length (all_go hop 0 (units_of own to load))));
    memory = record m { station = record m.station { counter = reserved m.station.counter (length (all_go hop 0 (units_of own to load))) } };
    frames = plain ++ sealed_by m.station.ring m.station.counter.next (all_go hop 0 (units_of own to load));
    made = append-nil made i;
    opened = append-nil opened i;
  })

  by_waiting : next_hop m.station to ≡ None → is_awaited m.station to ≡ true → CommandPlan
  unfolding empty_draft on_station waits seeks_once
  by_waiting e awaited = rw (e, awaited) (λ i. record {
    answer = Ok answer;
    failed = Err ends.store;
    puts = puts ++ puts_of (reserve_write m.station.counter 0);
    memory = record m {
      station = record m.station
          { counter = reserved m.station.counter 0; waiting = m.station.waiting ++ record { to = to; note = 0; since = now; load = load } ∷ [] };
    };
    frames = plain ++ sealed_by m.station.ring m.station.counter.next [];
    made = append-nil made i;
    opened = append-nil opened i;
  })

  by_seeking : next_hop m.station to ≡ None → is_awaited m.station to ≡ false → CommandPlan
  unfolding empty_draft on_station waits seeks_once goes with_own_number
  by_seeking e awaited = rw (e, awaited) (λ i. record {
    answer = Ok answer;
    failed = Err ends.store;
    puts = sym (append_assoc puts (puts_of (advance_write m.station.own_number)) (puts_of (reserve_write m.station.counter 1))) i;
    memory = record m {
      station = record m.station {
        counter = reserved m.station.counter 1;
        own_number = advanced m.station.own_number;
        waiting = m.station.waiting ++ record { to = to; note = 0; since = now; load = load } ∷ [];
      };
    };
    frames = plain ++ sealed_by m.station.ring m.station.counter.next
        (record { to = to_all; unit = Local 1 (message_spelling (Rreq (m.station.own_number.last + 1) 0 own to)); note = 0 } ∷ []);
    made = append-nil made i;
    opened = append-nil opened i;
  })

  by_awaited : (b : Bool) → is_awaited m.station to ≡ b → next_hop m.station to ≡ None → CommandPlan
  by_awaited true awaited e = by_waiting e awaited
  by_awaited false awaited e = by_seeking e awaited

  by_route : (hop : Option ℕ) → next_hop m.station to ≡ hop → CommandPlan
  by_route (Some hop) e = by_hop hop e
  by_route None e = by_awaited (is_awaited m.station to) refl e

  pub command_plan : CommandPlan
  command_plan = by_route (next_hop m.station to) refl

-- # Room for a command

-- the ring has no part in it
pub room_kept : (l : StationMemory) (r : Ring) (to octets : ℕ) → HasRoom l to octets → HasRoom (record l { ring = r }) to octets
unfolding lack next_hop
room_kept l r to octets h = record { lacks = h.lacks; left = h.left }

module _ (to octets : ℕ) where
  by_tests : {E : Type 0} (ends : Ends E) (word : Lack → E) (f : SendRefusal → E) (x : Option Lack) (b : Bool) → ((x : Lack) → f (lacking x) ≡ word x)
      → f CounterSpent ≡ ends.spent
      → option_map f (option_map lacking x then Some CounterSpent when b) ≡ (option_map word x then Some ends.spent when b)
  by_tests ends word f (Some x) b lacks spent = ap Some (lacks x)
  by_tests ends word f None true lacks spent = ap Some spent
  by_tests ends word f None false lacks spent = refl

  -- what the station says of the room, in other words
  pub room_fault_as : {E : Type 0} (ends : Ends E) (word : Lack → E) (f : SendRefusal → E) (l : StationMemory) → ((x : Lack) → f (lacking x) ≡ word x)
      → f CounterSpent ≡ ends.spent
      → option_map f (room_fault l to octets) ≡ command_fault ends word l to octets
  room_fault_as ends word f l lacks spent = by_tests ends word f (lack l to octets) (nat_lt (counters_left l) (command_frames l to)) lacks spent

  pub has_room : (l : StationMemory) → room_fault l to octets ≡ None → HasRoom l to octets
  has_room l free = by (lack l to octets) (nat_lt (counters_left l) (command_frames l to)) refl refl free
    where
      by : (x : Option Lack) (b : Bool) → lack l to octets ≡ x → nat_lt (counters_left l) (command_frames l to) ≡ b
          → (option_map lacking x then Some CounterSpent when b) ≡ None → HasRoom l to octets
      by (Some x) b e t h = absurd (cc)
      by None true e t h = absurd (cc)
      by None false e t h = record { lacks = e; left = t }

  -- a command without room is refused
  pub room_refuses : {H E : Type 0} (ends : Ends E) (word : Lack → E) (m : Memory) (d : Draft Memory) (answer : H) (reason : E)
      → command_fault ends word m.station to octets ≡ Some reason
      → length d.units ≡ command_frames m.station to
      → refused ends m reason ≡ checked ends m (option_map word (lack m.station to octets)) (sealed in_memory ends m d answer)
  unfolding checked sealed
  room_refuses {H} {E} ends word m d answer reason fault long =
      by (lack m.station to octets) (nat_lt (counters_left m.station) (command_frames m.station to)) refl refl fault
    where
      by : (x : Option Lack) (b : Bool) → lack m.station to octets ≡ x → nat_lt (counters_left m.station) (command_frames m.station to) ≡ b
          → (option_map word x then Some ends.spent when b) ≡ Some reason
          → refused ends m reason ≡ checked ends m (option_map word (lack m.station to octets)) (sealed in_memory ends m d answer)
      by (Some x) b e t h = rw e (ap (λ r. refused {H = H} ends m r) (sym (some_same h)))
        where
          some_same : Some (word x) ≡ Some reason → word x ≡ reason
          some_same k = cc
      by None true e t h = rw (e, long, t) (ap (λ r. refused {H = H} ends m r) (sym (some_same h)))
        where
          some_same : Some ends.spent ≡ Some reason → ends.spent ≡ reason
          some_same k = cc
      by None false e t h = absurd (cc)

  -- and one with room goes
  pub room_seals : {H E : Type 0} (ends : Ends E) (word : Lack → E) (m : Memory) (d : Draft Memory) (answer : H) → HasRoom m.station to octets
      → length d.units ≡ command_frames m.station to
      → sealing in_memory ends d answer ≡ checked ends m (option_map word (lack m.station to octets)) (sealed in_memory ends m d answer)
  unfolding checked sealed
  room_seals {H} {E} ends word m d answer h long = rw (h.lacks, long, h.left) refl

module _ (own to : ℕ) (octets : List ℕ) (now : ℕ) where
  by_hops : (l : StationMemory) (hop : Option ℕ) (b : Bool) → next_hop l to ≡ hop → is_awaited l to ≡ b
      → length (sets_out own to 0 (Command octets) now (empty_draft l)).units ≡ command_frames l to
  unfolding empty_draft body_goes waits seeks_once goes with_own_number
  by_hops l (Some hop) b e a = rw e refl
  by_hops l None true e a = rw (e, a) refl
  by_hops l None false e a = rw (e, a) refl

  sent_from : (l : StationMemory) → HasRoom l to (length octets) → command_alone l own to (Command octets) now ≡ command_from l own to octets now
  unfolding checked sealed
  sent_from l h = rw (h.lacks, by_hops l (next_hop l to) (is_awaited l to) refl refl, h.left) refl

  -- a command with room is sent as it is
  pub command_sent : (l : StationMemory) → address_of l ≡ Some own → HasRoom l to (length octets)
      → command_alone l own to (Command octets) now ≡ send_command l to octets now
  command_sent l address h =
      sent_from l h ∙ ap (λ (a : Option ℕ). option_map_or (λ from. command_from l from to octets now) a (refused sending_ends l NotJoined)) (sym address)

  by_ways : (puts : List Write) (m : Memory) (plain : List Sent) (made opened : List PairTag) (hop : Option ℕ) (b : Bool) → next_hop m.station to ≡ hop
      → is_awaited m.station to ≡ b
      → length (on_station (sets_out own to 0 (Command octets) now) (begun puts m plain made opened)).units ≡ command_frames m.station to
  unfolding on_station body_goes waits seeks_once goes with_own_number
  by_ways puts m plain made opened (Some hop) b e a = rw e refl
  by_ways puts m plain made opened None true e a = rw (e, a) refl
  by_ways puts m plain made opened None false e a = rw (e, a) refl

  -- how many frames it is
  pub command_units : (puts : List Write) (m : Memory) (plain : List Sent) (made opened : List PairTag)
      → length (on_station (sets_out own to 0 (Command octets) now) (begun puts m plain made opened)).units ≡ command_frames m.station to
  command_units puts m plain made opened = by_ways puts m plain made opened (next_hop m.station to) (is_awaited m.station to) refl refl

-- # What became of a plan, by its answer

-- The plan was carried out whole.
pub record Whole {M A : Type 0} (s : State M) (p : Plan M A) (answer : A) (out : Out) (t : State M) : Type 0 where
  pub wrote : Wrote s.store p.puts true t.store
  pub answer_is : answer ≡ p.answer
  pub memory : t.memory ≡ Some p.memory
  pub eui : t.eui ≡ s.eui
  pub out_is : out ≡ given p true

-- One of its puts failed.
pub record CutOff {M A : Type 0} (s : State M) (p : Plan M A) (out : Out) (t : State M) : Type 0 where
  pub wrote : Wrote s.store p.puts false t.store
  pub memory : t.memory ≡ None
  pub eui : t.eui ≡ s.eui
  pub out_is : out ≡ given p false

pub carried_whole : {M H E : Type 0} (s t : State M) (p : Plan M (Result H E)) (x : H) (reason : E) (out : Out) → p.failed ≡ Err reason
    → Carries s p (Ok x) out t → Whole s p (Ok x) out t
carried_whole {M} {H} {E} s t p x reason out failed c = by c.done refl
  where
    by : (d : Bool) → c.done ≡ d → Whole s p (Ok x) out t
    by true e = record {
      wrote = subst (λ (d : Bool). Wrote s.store p.puts d t.store) e c.wrote;
      answer_is = c.answer_is ∙ ap (λ (d : Bool). if d then p.answer else p.failed) e;
      memory = ap (λ (k : State M). k.memory) c.new_is ∙ ap (λ (d : Bool). if d then Some p.memory else None) e;
      eui = ap (λ (k : State M). k.eui) c.new_is;
      out_is = c.out_is ∙ ap (given p) e;
    }
    by false e = absurd (differ (c.answer_is ∙ ap (λ (d : Bool). if d then p.answer else p.failed) e ∙ failed))
      where
        differ : ◌≡◌ {A = Result H E} (Ok x) (Err reason) → ⊥
        differ h = cc

pub carried_cut : {M H E : Type 0} (s t : State M) (p : Plan M (Result H E)) (x : H) (reason : E) (out : Out) → p.answer ≡ Ok x → Carries s p (Err reason) out t
    → CutOff s p out t
carried_cut {M} {H} {E} s t p x reason out answer c = by c.done refl
  where
    by : (d : Bool) → c.done ≡ d → CutOff s p out t
    by false e = record {
      wrote = subst (λ (d : Bool). Wrote s.store p.puts d t.store) e c.wrote;
      memory = ap (λ (k : State M). k.memory) c.new_is ∙ ap (λ (d : Bool). if d then Some p.memory else None) e;
      eui = ap (λ (k : State M). k.eui) c.new_is;
      out_is = c.out_is ∙ ap (given p) e;
    }
    by true e = absurd (differ (c.answer_is ∙ ap (λ (d : Bool). if d then p.answer else p.failed) e ∙ answer))
      where
        differ : ◌≡◌ {A = Result H E} (Err reason) (Ok x) → ⊥
        differ h = cc

-- # The ring

-- the ring alone, and what a put of it leaves
abbrev pub ring_alone : StationMemory → Ring → Ringing
ring_alone l r =
    record { answer = Ok tt; failed = Err RingStore; puts = puts_of (ring_write r); memory = record l { ring = r }; frames = []; made = []; opened = [] }

pub ring_plan : (l : StationMemory) (r : Ring) → l.counter.next ≤ l.counter.limit → ring_ends (with_ring r (empty_draft l)) ≡ ring_alone l r
unfolding with_ring empty_draft
ring_plan l r below = λ i. record {
  answer = Ok tt;
  failed = Err RingStore;
  puts = puts_of (ring_write r) ++ puts_of (reserve_none l.counter below i);
  memory = record l { ring = r; counter = reserved_none l.counter below i };
  frames = sealed_none r l.counter.next i;
  made = [];
  opened = [];
}

-- a grant is installed, or its put failed
pub installed : (s t : State StationMemory) (l : StationMemory) (g : Granted) (u : Unit {0}) (out : Out) → l.counter.next ≤ l.counter.limit
    → Carries s (install l g) (Ok u) out t → Whole s (ring_alone l (Some g)) (Ok u) out t
installed s t l g u out below c =
    carried_whole s t (ring_alone l (Some g)) u RingStore out refl (subst (λ (p : Ringing). Carries s p (Ok u) out t) (ring_plan l (Some g) below) c)

pub not_installed : (s t : State StationMemory) (l : StationMemory) (g : Granted) (reason : RingRefusal) (out : Out) → l.counter.next ≤ l.counter.limit
    → Carries s (install l g) (Err reason) out t → CutOff s (ring_alone l (Some g)) out t
not_installed s t l g reason out below c =
    carried_cut s t (ring_alone l (Some g)) tt reason out refl (subst (λ (p : Ringing). Carries s p (Err reason) out t) (ring_plan l (Some g) below) c)
