-- A doing that is carried to its end.
use Rattle.std.proofs.Common.{◌≡◌, ℕ, ◌≤◌, ◌++◌, Bool, true, false, List, [], length, map, Option, Some, None, Result, Ok, Err, refl, sym, ap, subst, ◌∙◌}
use Rattle.std.proofs.Common.{arith}
use Rattle.std.proofs.lemmas.Bool.Decides.{nat_tests}
use Rattle.std.specs.Prelude.{if◌then◌else◌}
use Rattle.plc_base.specs.Keeper.{Store, Stores, Write}
use Rattle.store_tables.specs.Writes.{Wrote}
use Rattle.plc_base.specs.declared.out_frame.Out.{Out}
use Rattle.store_tables.proofs.WritesLemmas.{wrote_none, wrote_one, wrote_append, wrote_append_stop}
use Rattle.frame_counters.specs.SendCounter.{Counting, passes, reserved, reserve_write}
use Rattle.std.specs.Option.{option_map_or}
use Rattle.plc_base.specs.declared.key.Key.{Key}
use Rattle.group_keys.specs.KeyRing.{Ring}
use Rattle.node_rules.specs.Ciphers.{network}
use Rattle.node_rules.specs.Frames.{Sent as Frame, spelled}
use Rattle.node_rules.specs.Memory.{StationMemory}
use Rattle.node_rules.specs.Plans.{Plan, resting}
use Rattle.node_rules.specs.Drafts.{Draft, Ends, alone, refused, sealing, sealed_by, sealing_key, sealed_units}
use Rattle.node_rules.specs.States.{State}
use Rattle.node_rules.specs.CarriedPlans.{Carries, nothing}
use Rattle.plc_station.specs.SentFrames.{only_frames}
use Rattle.plc_station.proofs.CarriedPlans.{resting_carried}

-- what is sent, and what is left where a put failed
abbrev pub sent : Draft StationMemory → Out
sent d = record {
  frames = map (spelled network) (d.plain ++ sealed_by d.memory.ring d.memory.counter.next d.units);
  tags = record { made = d.made; opened = d.opened };
}

abbrev pub unsent : Draft StationMemory → Out
unsent d = record { frames = []; tags = record { made = []; opened = d.opened } }

-- all puts were done
pub ended : {H E : Type 0} (ends : Ends E) (s t : State StationMemory) (d e : Draft StationMemory) (answer : H) (m : Store) (out : Out) (count : ℕ) → d ≡ e
    → Wrote s.store d.puts true m
    → count ≡ length d.units → Stores m (reserve_write d.memory.counter count) true t.store → out ≡ sent d
    → t ≡ record { store = t.store; eui = s.eui; memory = Some (record d.memory { counter = reserved d.memory.counter count }); replied = t.replied }
    → Carries s (sealing alone ends e answer) (Ok answer) out t
ended {H} {E} ends s t d e answer m out count same wrote few stores is new =
    subst (λ (x : Draft StationMemory). Carries s (sealing alone ends x answer) (Ok answer) out t) same (record {
      done = true;
      wrote = wrote_append s.store m t.store d.puts _ true wrote
          (wrote_one m t.store _ true (subst (λ n. Stores m (reserve_write d.memory.counter n) true t.store) few stores));
      answer_is = refl;
      out_is = is;
      new_is = new ∙ ap (λ n. record {
        store = t.store;
        eui = s.eui;
        memory = Some (record d.memory { counter = reserved d.memory.counter n });
        replied = t.replied;
      }) few;
    })

-- one of the first puts failed
pub stopped : {H E : Type 0} (ends : Ends E) (s t : State StationMemory) (d e : Draft StationMemory) (answer : H) (out : Out) → d ≡ e
    → Wrote s.store d.puts false t.store → out ≡ unsent d
    → t ≡ record { store = t.store; eui = s.eui; memory = None; replied = t.replied } → Carries s (sealing alone ends e answer) (Err ends.store) out t
stopped {H} {E} ends s t d e answer out same wrote is new =
    subst (λ (x : Draft StationMemory). Carries s (sealing alone ends x answer) (Err ends.store) out t) same (record {
      done = false;
      wrote = wrote_append_stop s.store t.store d.puts _ wrote;
      answer_is = refl;
      out_is = is;
      new_is = new;
    })

-- the put of the counter failed
pub uncounted : {H E : Type 0} (ends : Ends E) (s t : State StationMemory) (d e : Draft StationMemory) (answer : H) (m : Store) (out : Out) (count : ℕ) → d ≡ e
    → Wrote s.store d.puts true m
    → count ≡ length d.units → Stores m (reserve_write d.memory.counter count) false t.store → out ≡ unsent d
    → t ≡ record { store = t.store; eui = s.eui; memory = None; replied = t.replied } → Carries s (sealing alone ends e answer) (Err ends.store) out t
uncounted {H} {E} ends s t d e answer m out count same wrote few stores is new =
    subst (λ (x : Draft StationMemory). Carries s (sealing alone ends x answer) (Err ends.store) out t) same (record {
      done = false;
      wrote = wrote_append s.store m t.store d.puts _ false wrote
          (wrote_one m t.store _ false (subst (λ n. Stores m (reserve_write d.memory.counter n) false t.store) few stores));
      answer_is = refl;
      out_is = is;
      new_is = new;
    })

-- no unit, no frame
pub sealed_none : (r : Ring) (first : ℕ) → sealed_by r first [] ≡ []
sealed_none None first = refl
sealed_none (Some g) first = by_key (sealing_key g)
  where
    by_key : (k : Option Key) → option_map_or (λ key. sealed_units g key first []) k [] ≡ []
    by_key None = refl
    by_key (Some key) = refl

-- # Nothing to seal

none_pass : (x : Counting) → x.next ≤ x.limit → false ≡ passes x 0
none_pass x below = grind (arith, nat_tests, below)

-- reserving none writes nothing
pub none_written : (x : Counting) (s : Store) → x.next ≤ x.limit → Stores s (reserve_write x 0) true s
none_written x s below = rw (← none_pass x below) (refl, refl)

-- and leaves the counter
pub none_reserved : (x : Counting) → x.next ≤ x.limit → x ≡ reserved x 0
none_reserved x below = rw (← none_pass x below) (ap (λ (n : ℕ). record { limit = x.limit; next = n }) (omega arith))

-- what is stored and left where nothing goes out
abbrev pub silent : List Write → StationMemory → Draft StationMemory
silent puts l = record { puts = puts; memory = l; units = []; plain = []; made = []; opened = [] }

-- all puts were done, and nothing goes out
pub settled : {H E : Type 0} (ends : Ends E) (s t : State StationMemory) (puts : List Write) (l : StationMemory) (e : Draft StationMemory) (answer : H)
    (out : Out) → silent puts l ≡ e
    → Wrote s.store puts true t.store → l.counter.next ≤ l.counter.limit → out ≡ nothing
    → t ≡ record { store = t.store; eui = s.eui; memory = Some l; replied = t.replied }
    → Carries s (sealing alone ends e answer) (Ok answer) out t
settled {H} {E} ends s t puts l e answer out same wrote below is new =
    ended ends s t (silent puts l) e answer t.store out 0 same wrote refl (none_written l.counter t.store below)
    (is ∙ ap (λ (fs : List Frame). only_frames (map (spelled network) fs)) (sym (sealed_none l.ring l.counter.next)))
    (new ∙ ap (λ (x : Counting). record { store = t.store; eui = s.eui; memory = Some (record l { counter = x }); replied = t.replied })
    (none_reserved l.counter below))

-- nothing is stored, and nothing goes out
pub unsealed : {H E : Type 0} (ends : Ends E) (s t : State StationMemory) (l : StationMemory) (e : Draft StationMemory) (answer : H) (out : Out)
    → silent [] l ≡ e → t.store ≡ s.store → t.eui ≡ s.eui → t.memory ≡ Some l
    → l.counter.next ≤ l.counter.limit → out ≡ nothing → Carries s (sealing alone ends e answer) (Ok answer) out t
unsealed {H} {E} ends s t l e answer out same store eui memory below is =
    settled ends s t [] l e answer out same (rw store (wrote_none s.store)) below is
    (λ i. record { store = t.store; eui = eui i; memory = memory i; replied = t.replied })

-- # Refusals and answers

pub refusal : {H E : Type 0} (ends : Ends E) (s : State StationMemory) (l : StationMemory) (reason : E) (p : Plan StationMemory (Result H E)) (out : Out)
    → s.memory ≡ Some l → refused {H = H} ends l reason ≡ p → out ≡ nothing
    → Carries s p (Err reason) out s
refusal {H} {E} ends s l reason p out m e o =
    subst (λ (q : Plan StationMemory (Result H E)). Carries s q (Err reason) out s) e
    (subst (λ (q : Out). Carries s (refused {H = H} ends l reason) (Err reason) q s) (sym o) (resting_carried s l (Err reason) (Err ends.store) m))

pub carried_by : {A : Type 0} (s t : State StationMemory) (p q : Plan StationMemory A) (answer : A) (out : Out) → p ≡ q → Carries s p answer out t
    → Carries s q answer out t
carried_by {A} s t p q answer out e h = subst (λ (k : Plan StationMemory A). Carries s k answer out t) e h

-- a step that was done, with an answer of its own
pub answered : {H E : Type 0} (ends : Ends E) (s t : State StationMemory) (d : Draft StationMemory) (u : Unit {0}) (answer : H) (out : Out)
    → Carries s (sealing {H = Unit {0}} alone ends d tt) (Ok u) out t
    → Carries s (sealing alone ends d answer) (Ok answer) out t
answered {H} {E} ends s t d u answer out c = record { done = c.done; wrote = c.wrote; answer_is = so c.done c.answer_is; out_is = c.out_is; new_is = c.new_is }
  where
    so : (done : Bool) → ◌≡◌ {A = Result (Unit {0}) E} (Ok u) (if done then Ok tt else Err ends.store)
        → ◌≡◌ {A = Result H E} (Ok answer) (if done then Ok answer else Err ends.store)
    so true e = refl
    so false e = cc

pub failed : {H E : Type 0} (ends : Ends E) (s t : State StationMemory) (d : Draft StationMemory) (reason : E) (answer : H) (out : Out)
    → Carries s (sealing {H = Unit {0}} alone ends d tt) (Err reason) out t
    → Carries s (sealing alone ends d answer) (Err reason) out t
failed {H} {E} ends s t d reason answer out c =
    record { done = c.done; wrote = c.wrote; answer_is = so c.done c.answer_is; out_is = c.out_is; new_is = c.new_is }
  where
    so : (done : Bool) → ◌≡◌ {A = Result (Unit {0}) E} (Err reason) (if done then Ok tt else Err ends.store)
        → ◌≡◌ {A = Result H E} (Err reason) (if done then Ok answer else Err ends.store)
    so true e = cc
    so false e = ap Err (same e)
      where
        same : ◌≡◌ {A = Result (Unit {0}) E} (Err reason) (Err ends.store) → reason ≡ ends.store
        same h = cc

-- a plan that changes nothing
pub rested : {A : Type 0} (s : State StationMemory) (l : StationMemory) (answer fault : A) (p : Plan StationMemory A) (out : Out) → s.memory ≡ Some l
    → resting l answer fault ≡ p → out ≡ nothing → Carries s p answer out s
rested {A} s l answer fault p out m e o =
    subst (λ (q : Plan StationMemory A). Carries s q answer out s) e
    (subst (λ (q : Out). Carries s (resting l answer fault) answer q s) (sym o) (resting_carried s l answer fault m))
