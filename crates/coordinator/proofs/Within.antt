-- Plans of the station that are carried out, in the coordinator.
use Rattle.std.proofs.Common.{◌≡◌, ℕ, ◌≤◌, ◌<◌, ◌++◌, Bool, true, false, List, [], ◌∷◌, Option, Some, None, Result, inl, inr, refl, sym, ap, subst, ◌∙◌, arith}
use Rattle.std.specs.Prelude.{if◌then◌else◌, ◌==◌, IfSome, ⊤}
use Rattle.std.specs.Option.{option_map, option_and_then}
use Rattle.std.specs.FinMap.{get}
use Rattle.plc_base.specs.Grant.{Granted}
use Rattle.plc_base.specs.declared.key.Key.{Key}
use Rattle.plc_base.specs.Keeper.{Records, Store, Write}
use Rattle.store_tables.specs.Writes.{Writes, Wrote, puts_of}
use Rattle.store_tables.specs.SlotTables.{slot_of}
use Rattle.plc_base.specs.declared.out_frame.Out.{Out}
use Rattle.store_tables.proofs.StoreLemmas.{stores_elsewhere}
use Rattle.frame_counters.specs.SendCounter.{Counting, reserve_write, passes, limit_write, raised}
use Rattle.routing_set.specs.OwnNumber as number
use Rattle.group_keys.specs.KeyRing.{Ring, IsOldRingOrAgrees, with_key, with_active}
use Rattle.group_keys.specs.KeyBook as book
use Rattle.node_rules.specs.declared.refusal.CoordinatorRefusal.{CoordinatorRefusal}
use Rattle.node_rules.specs.Memory.{StationMemory, Memory, address_of}
use Rattle.node_rules.specs.MemoryDrafts.{in_memory, with_station, on_station}
use Rattle.node_rules.specs.Plans.{Plan, within}
use Rattle.node_rules.specs.Drafts.{Ends, alone, empty_draft, with_ring, sealing}
use Rattle.node_rules.specs.Coordinators.{orders}
use Rattle.node_rules.specs.Agreement.{AgreesWith, Agrees}
use Rattle.node_rules.specs.States.{State}
use Rattle.node_rules.specs.ComposedPlans.{seen}
use Rattle.node_rules.proofs.ComposedPlans.{carries_within}
use Rattle.node_rules.specs.CarriedPlans.{Carries}
use Rattle.coordinator.specs.CoordinatorAgreement.{CoordinatorAgreesWith, CoordinatorAgrees, HasCoordinatorAddress}

-- so its station did
pub within_carried : {A B : Type 0} (f : StationMemory → Memory) (reads : A → B) (s t : State StationMemory) (p : Plan StationMemory A) (answer : A) (out : Out)
    → Carries s p answer out t
    → Carries (seen f s) (within f reads p) (reads answer) out (seen f t)
within_carried f reads s t p answer out c = carries_within f reads (seen f s) s t p answer out refl refl c

-- another ring of the coordinator
pub ring_plan : (m : Memory) (r : Ring)
    → within (λ l. with_station l m) (λ (a : Result (Unit {0}) CoordinatorRefusal). a) (sealing alone orders (with_ring r (empty_draft m.station)) tt)
    ≡ sealing in_memory orders (on_station (with_ring r) (empty_draft m)) tt
unfolding on_station with_ring empty_draft
ring_plan m r = refl

-- # Puts that are none of the book

abbrev pub AreBelow : List Write → Type 0
AreBelow [] = ⊤
AreBelow (w ∷ rest) = (w.slot < 0x1000) × AreBelow rest

writes_below : (s t : Store) (ps : List Write) (done : Bool) → AreBelow ps → Writes s ps done t → (slot : ℕ) → 0x1000 ≤ slot
    → get t.records slot ≡ get s.records slot
writes_below s t [] done below h slot high = ap (λ (k : Store). get k.records slot) h.1
writes_below s t (w ∷ rest) done below (true, mid, p, more, u) slot high =
    writes_below mid t rest done below.1 more slot high
    ∙ stores_elsewhere s mid (Some w) true w.slot w.slot p (omega arith, omega arith) slot (inr (omega (arith, below.0)))
writes_below s t (w ∷ rest) done below (false, mid, p, u, stop) slot high =
    ap (λ (k : Store). get k.records slot) stop.1
    ∙ stores_elsewhere s mid (Some w) false w.slot w.slot p (omega arith, omega arith) slot (inr (omega (arith, below.0)))

pub book_beside : (b : book.Book) (s t : Store) (ps : List Write) (done : Bool) → AreBelow ps → Wrote s ps done t → book.AgreesWith b s.records
    → book.AgreesWith b t.records
book_beside b s t ps done below h kept = record {
  short = kept.short;
  each = λ q inside. ap (option_map (book.entries.read q)) (writes_below s t ps done below h.by (slot_of book.entries q) (omega arith)) ∙ kept.each q inside;
}

pub append_below : (ps qs : List Write) → AreBelow ps → AreBelow qs → AreBelow (ps ++ qs)
append_below [] qs a b = b
append_below (w ∷ ps) qs a b = (a.0, append_below ps qs a.1 b)

pub number_below : (n : number.Numbering) → AreBelow (puts_of (number.advance_write n))
number_below n = by_passing (number.passes n)
  where
    by_passing : (due : Bool) → AreBelow (puts_of (if due then number.limit_write (number.raised n.limit) else None))
    by_passing true = (omega arith, tt)
    by_passing false = tt

pub counter_below : (c : Counting) (count : ℕ) → AreBelow (puts_of (reserve_write c count))
counter_below c count = by_passing (passes c count)
  where
    by_passing : (due : Bool) → AreBelow (puts_of (if due then limit_write (raised c.limit) else None))
    by_passing true = (omega arith, tt)
    by_passing false = tt

-- A plan of the station leaves the book and the address as they are.
pub record KeepsHome {A : Type 0} (p : Plan StationMemory A) : Type 0 where
  pub below : AreBelow p.puts
  pub home : address_of p.memory ≡ Some 0

-- so the coordinator agrees with its keeper after it
pub home_holds : {A : Type 0} (s t : State StationMemory) (p : Plan StationMemory A) (f : StationMemory → Memory) (answer : A) (out : Out) (b : book.Book)
    → ((n : StationMemory) → (f n).station ≡ n) → ((n : StationMemory) → (f n).book ≡ b)
    → Carries s p answer out t → KeepsHome p → book.AgreesWith b s.store.records → Agrees t → CoordinatorAgrees (seen f t)
home_holds s t p f answer out b at_station at_book c keeps kept agrees = by_done c.done c.wrote (ap (λ (x : State StationMemory). x.memory) c.new_is)
  where
    P : Option StationMemory → Type 0
    P o = IfSome o (λ n. AgreesWith n t.store.records) → IfSome (option_map f o) (λ m. CoordinatorAgreesWith m t.store.records)

    by_done : (done : Bool) → Wrote s.store p.puts done t.store → t.memory ≡ (if done then Some p.memory else None) → CoordinatorAgrees (seen f t)
    by_done false wrote held = subst P (sym held) (λ a. tt) agrees
    by_done true wrote held = subst P (sym held) (λ a. record {
      station = subst (λ (k : StationMemory). AgreesWith k t.store.records) (sym (at_station p.memory)) a;
      book =
          subst (λ (k : book.Book). book.AgreesWith k t.store.records) (sym (at_book p.memory))
          (book_beside b s.store t.store p.puts true keeps.below wrote kept);
      home = ap address_of (at_station p.memory) ∙ keeps.home;
    }) agrees

pub ring_keeps : {H E : Type 0} (ends : Ends E) (answer : H) (l : StationMemory) (r : Ring) → option_map (λ (g : Granted). g.address) r ≡ Some 0
    → KeepsHome (sealing alone ends (with_ring r (empty_draft l)) answer)
unfolding with_ring empty_draft
ring_keeps ends answer l r home = record { below = (omega arith, counter_below l.counter 0); home = home }

pub keyed_home : (r : Ring) (index : ℕ) (key : Key) → option_map (λ (g : Granted). g.address) r ≡ Some 0
    → option_map (λ (g : Granted). g.address) (with_key r index key) ≡ Some 0
keyed_home None index key home = home
keyed_home (Some g) index key home = by_index (index == 0)
  where
    by_index : (first : Bool) → Some ((if first then record g { key0 = Some key } else record g { key1 = Some key }).address) ≡ Some 0
    by_index true = home
    by_index false = home

pub active_home : (r : Ring) (index : ℕ) → option_map (λ (g : Granted). g.address) r ≡ Some 0
    → option_map (λ (g : Granted). g.address) (with_active r index) ≡ Some 0
active_home None index home = home
active_home (Some g) index home = home

-- whatever became of the put of a ring with the address 0, the records hold one
pub ring_home : (r : Ring) (old new : Records) → option_map (λ (g : Granted). g.address) r ≡ Some 0 → IsOldRingOrAgrees r old new → HasCoordinatorAddress old
    → HasCoordinatorAddress new
ring_home r old new home (inl same) h = ap (option_and_then (option_map (λ (g : Granted). g.address))) same ∙ h
ring_home r old new home (inr kept) h = ap (option_and_then (option_map (λ (g : Granted). g.address))) kept.stored ∙ home
