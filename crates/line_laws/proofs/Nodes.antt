-- What holds of a node, and that carrying out a plan keeps it.
use Rattle.std.proofs.Common.{◌≡◌, ℕ, suc, ◌+◌, ◌≤◌, ◌<◌, ◌^◌, List, [], ◌∷◌, length, ⊎_elim, Option, Some, None, Result, refl, sym, ap, subst, arith}
use Rattle.std.specs.Prelude.{IfSome}
use Rattle.std.specs.Option.{option_map_or}
use Rattle.std.proofs.lemmas.List.{length-append}
use Rattle.plc_base.specs.Keeper.{Records}
use Rattle.plc_base.specs.declared.address.Eui.{Eui}
use Rattle.plc_base.specs.declared.key.Key.{Key}
use Rattle.plc_base.specs.Grant.{Granted}
use Rattle.group_keys.specs.declared.key_book.BookEntry.{BookEntry}
use Rattle.group_keys.specs.KeyRing as ring
use Rattle.group_keys.specs.KeyBook as book
use Rattle.routing_set.specs.declared.rank.Rank.{Rank}
use Rattle.routing_set.specs.RoutingSet as routing
use Rattle.node_rules.specs.Memory.{Memory, Role, Coordinator, Meter, Node}
use Rattle.line_laws.proofs.Senders.{AreFrom, acts_from, node_ring, plan_from}
use Rattle.node_rules.specs.Plans.{Plan, Outcome, carry_out, resting}
use Rattle.node_rules.specs.Drafts.{Ends, UnsealedUnit, sealed_units, sealed_by, sealing_key}
use Rattle.node_rules.specs.MemoryDrafts.{in_memory}
use Rattle.node_rules.specs.NodeSteps.{NodeStep, acts, stays, left_by}
use Rattle.node_rules.specs.Laws.{IsWhole, IsCutOff}
use Rattle.node_rules.proofs.Sizes.{pending, pending_bound}
use Rattle.node_rules.proofs.FailedWrites.{clean}
use Rattle.line_laws.specs.Stores.{IsHeld, IsReadable, BookKept, IsKept, HasEui, IsPair}
use Rattle.line_laws.specs.Owed.{AreOctets}
use Rattle.line_laws.specs.Sizes.{IsMemorySized}
use Rattle.line_laws.proofs.KeptMemory.{Leads, Left, carried}
use Rattle.line_laws.proofs.StoreRanks.{EntryFits}
use Rattle.line_laws.proofs.StoreFold.{WordFits}
use Rattle.line_laws.proofs.StorePlans.{plan_leads}
use Rattle.line_laws.proofs.SizeFold.{plan_sized}
use Rattle.line_laws.proofs.Planned.{Planned, Refuses, Keeps, Ended}
use Rattle.line_laws.proofs.Made.{RingWord, Given, Offered}
use Rattle.line_laws.proofs.MadeIn.{MadeIn, EntryChange}
use Rattle.line_laws.proofs.CallForms.{Few}
use Rattle.line_laws.specs.Live.{marks_of}
use Rattle.line_laws.proofs.MarkOrder.{Raised, raised_same}
use Rattle.line_laws.proofs.MarkWrites.{MarksFrom, PlanMarks, plan_marks}
use Rattle.line_laws.proofs.MarkNodes.{AreCovered, marks_held, marks_from, left_raised, left_covered}
use Rattle.line_laws.proofs.Frontiers.{Numbered, PlanRises, plan_rises, frontier, acts_rise}
pub use Rattle.line_laws.specs.Lines.{NodeOk}

-- What a plan keeps.
pub record PlanFits (role : Role) (m : Memory) {A : Type 0} (p : Plan Memory A) : Type 0 where
  pub leads : Leads (IsKept role) m p.puts p.memory
  pub sized : IsMemorySized p.memory
  pub few : length p.frames ≤ 24
  pub marked : PlanMarks m p

-- The same with what it does to the counter.
pub record PlanOk (role : Role) (m : Memory) {A : Type 0} (p : Plan Memory A) : Type 0 where
  pub leads : Leads (IsKept role) m p.puts p.memory
  pub sized : IsMemorySized p.memory
  pub few : length p.frames ≤ 24
  pub rises : m.station.counter.limit < 2 ^ 32 → PlanRises m p
  pub from : AreFrom p.memory.station.ring p.frames
  -- no mark falls
  pub marked : PlanMarks m p

-- What holds of what a node did.
pub record DidFits (x : Node) {A : Type 0} (d : NodeStep A) : Type 0 where
  pub node : NodeOk d.node
  pub role : d.node.role ≡ x.role
  pub eui : d.node.eui ≡ x.eui
  pub few : length d.frames ≤ 24
  pub marked : Raised (marks_of x) (marks_of d.node)

-- The same, and its frames are numbered from its frontier on.
pub record DidOk (x : Node) {A : Type 0} (d : NodeStep A) : Type 0 where
  pub node : NodeOk d.node
  pub role : d.node.role ≡ x.role
  pub eui : d.node.eui ≡ x.eui
  pub few : length d.frames ≤ 24
  pub rises : Numbered (frontier x) (frontier d.node) d.frames
  -- its letters have the address that it has now, and are under the key that it seals with
  pub from : AreFrom (node_ring d.node) d.frames
  -- no mark falls
  pub marked : Raised (marks_of x) (marks_of d.node)

-- # A plan that is carried out

outcome_sized : {A : Type 0} (x : Node) (m : Memory) (p : Plan Memory A) → IsMemorySized p.memory → length p.frames ≤ 24
    → let o : Outcome Memory A = carry_out x.store.records x.store.cut p in IfSome o.memory IsMemorySized × (length o.frames ≤ 24)
outcome_sized {A = A} x m p sized few = ⊎_elim whole cut_off (clean x.store.records x.store.cut p)
  where
    whole : IsWhole x.store.records x.store.cut p (carry_out x.store.records x.store.cut p)
        → let o : Outcome Memory A = carry_out x.store.records x.store.cut p in IfSome o.memory IsMemorySized × (length o.frames ≤ 24)
    whole w = rw (w.memory, w.frames) (sized, few)

    cut_off : IsCutOff x.store.records x.store.cut p (carry_out x.store.records x.store.cut p)
        → let o : Outcome Memory A = carry_out x.store.records x.store.cut p in IfSome o.memory IsMemorySized × (length o.frames ≤ 24)
    cut_off c = rw (c.memory, c.frames) (tt, omega arith)

pub acts_fits : {A : Type 0} (x : Node) (halted : A) (plan : Memory → Plan Memory A) → NodeOk x
    → ((m : Memory) → x.memory ≡ Some m → IsKept x.role m x.store.records → IsMemorySized m → PlanFits x.role m (plan m))
    → DidFits x (acts x halted plan)
unfolding acts
acts_fits {A = A} x halted plan ok f = by_memory x.memory refl ok.kept ok.sized ok.covered
  where
    by_memory : (o : Option Memory) → x.memory ≡ o → Left (IsKept x.role) x.store.records o → IfSome o IsMemorySized → AreCovered o
        → DidFits x (option_map_or (λ m. left_by x (carry_out x.store.records x.store.cut (plan m))) o (stays x halted))
    by_memory None e kept sized covered = record { node = ok; role = refl; eui = refl; few = omega arith; marked = raised_same (marks_of x) }
    by_memory (Some m) e kept sized covered =
        let p = f m e kept sized in
        let o = outcome_sized x m (plan m) p.sized p.few in
        let c : Outcome Memory A = carry_out x.store.records x.store.cut (plan m) in
        let left = carried (IsKept x.role) x.store.records x.store.cut (plan m) m kept p.leads in
        let marks = carried (MarksFrom m.station.marks) x.store.records x.store.cut (plan m) m (marks_from m x.role x.store.records kept covered)
        (p.marked m.station.marks) in
        record {
          node = record { kept = left; sized = o.0; covered = left_covered m.station.marks c.records c.memory marks };
          role = refl;
          eui = refl;
          few = o.1;
          marked = subst (λ (q : Option Memory). Raised (marks_held x.role x.store.records q) (marks_held x.role c.records c.memory)) (sym e)
              (left_raised m.station.marks x.role c.records c.memory left marks);
        }

pub acts_ok : {A : Type 0} (x : Node) (halted : A) (plan : Memory → Plan Memory A) → NodeOk x
    → ((m : Memory) → x.memory ≡ Some m → IsKept x.role m x.store.records → IsMemorySized m → PlanOk x.role m (plan m))
    → DidOk x (acts x halted plan)
acts_ok x halted plan ok f =
    let d = acts_fits x halted plan ok
    (λ m there kept sized. let p = f m there kept sized in record { leads = p.leads; sized = p.sized; few = p.few; marked = p.marked }) in
    record {
      node = d.node;
      role = d.role;
      eui = d.eui;
      few = d.few;
      marked = d.marked;
      rises = acts_rise x halted plan (λ m there.
          let kept : IsKept x.role m x.store.records = subst (λ o. Left (IsKept x.role) x.store.records o) there ok.kept in
          let sized : IsMemorySized m = subst (λ o. IfSome o IsMemorySized) there ok.sized in
          ((f m there kept sized).rises kept.station.range.counter, kept.station.counter.limit, kept.station.counter.below));
      from = acts_from x halted plan (λ m
          there. (f m there (subst (λ o. Left (IsKept x.role) x.store.records o) there ok.kept) (subst (λ o. IfSome o IsMemorySized) there ok.sized)).from);
    }

-- what a node that is not halted keeps
pub node_kept : (x : Node) (m : Memory) → NodeOk x → x.memory ≡ Some m → IsKept x.role m x.store.records
node_kept x m ok there = subst (λ o. Left (IsKept x.role) x.store.records o) there ok.kept

-- its ring is readable
pub ring_readable : (x : Node) (m : Memory) → NodeOk x → x.memory ≡ Some m → IfSome m.station.ring IsReadable
ring_readable x m ok there = (node_kept x m ok there).station.range.ring

-- and a meter's pair key is octets
pub pair_octets : (x : Node) (m : Memory) (psk : Key) → IsKept x.role m x.store.records → x.role ≡ Meter psk → AreOctets psk.0
pair_octets x m psk k is = (subst (λ role. BookKept role m.book x.store.records) is k.book).1

-- # Frames

length-sealed_units : (g : Granted) (key : Key) (first : ℕ) (units : List UnsealedUnit) → length (sealed_units g key first units) ≡ length units
length-sealed_units g key first [] = refl
length-sealed_units g key first (o ∷ rest) = ap suc (length-sealed_units g key (first + 1) rest)

pub sealed_few : (r : ring.Ring) (first : ℕ) (units : List UnsealedUnit) → length (sealed_by r first units) ≤ length units
sealed_few None first units = omega arith
sealed_few (Some g) first units = by_key (sealing_key g)
  where
    by_key : (key : Option Key) → length (option_map_or (λ k. sealed_units g k first units) key []) ≤ length units
    by_key None = omega arith
    by_key (Some key) = let same = length-sealed_units g key first units in omega arith

pub waits_little : (m : Memory) → IsMemorySized m → pending m.station ≤ 21
waits_little m h = pending_bound m.station h.station.waiting

-- # Plans that are made of words

module _ (role : Role) (W : RingWord → Type 0) (L : Granted → Type 0) (P : Eui → Key → Type 0) (E : Eui → Type 0) (g : Given) (m : Memory)
    (words : (w : RingWord) → W w → WordFits w)
    (offers : (address : Option ℕ) (by origin : ℕ) (rank : Rank) → Offered g address by origin rank → EntryFits (routing.offered_entry origin rank by g.now))
    (known : (eui : Eui) → E eui → HasEui eui) (pairs : (eui : Eui) (psk : Key) → P eui psk → IsPair psk)
    (coordinator : (b : book.Book) (e : BookEntry) → EntryChange L P E m b e → role ≡ Coordinator)
    (grants : (r : Records) → IsKept role m r → (granted : Granted) → L granted → IsHeld granted.key0 × IsHeld granted.key1) where
  plan_few : {H F : Type 0} (ends : Ends F) (K : Memory → H → Type 0) (p : Plan Memory (Result H F))
      → Planned in_memory ends m K (λ d a. MadeIn W L P E g m d × Few m.station d) p → pending m.station ≤ 21 → length p.frames ≤ 24
  unfolding resting
  plan_few ends K p (Refuses reason) waits = omega arith
  plan_few ends K p (Keeps n answer k) waits = omega arith
  plan_few ends K p (Ended d answer done left) waits =
      let few = done.1.few waits in
      let sealed_units_few = sealed_few d.memory.station.ring d.memory.station.counter.next d.units in
      let both = length-append d.plain (sealed_by d.memory.station.ring d.memory.station.counter.next d.units) in
      omega arith

  pub plan_ok : {H F : Type 0} (ends : Ends F) (K : Memory → H → Type 0)
      → ((n : Memory) (answer : H) → K n answer → (r : Records) → IsKept role m r → IsKept role n r)
      → ((n : Memory) (answer : H) → K n answer → IsMemorySized m → IsMemorySized n)
      → ((n : Memory) (answer : H) → K n answer → (n.station.counter ≡ m.station.counter) × (n.station.marks ≡ m.station.marks))
      → (p : Plan Memory (Result H F)) → Planned in_memory ends m K (λ d a. MadeIn W L P E g m d × Few m.station d) p → IsMemorySized m → PlanOk role m p
  plan_ok ends K kept sized same p s h = record {
    leads = plan_leads role W L P E g m words offers known pairs coordinator grants ends K kept p s (waits_little m h);
    sized = plan_sized W L P E g m words ends K (λ d a. MadeIn W L P E g m d × Few m.station d) sized (λ d answer x. x.0) p s h;
    few = plan_few ends K p s (waits_little m h);
    rises =
        λ fits. plan_rises W L P E g m ends K (λ d a. MadeIn W L P E g m d × Few m.station d) (λ n answer k. (same n answer k).0) (λ d answer x. x.0) p s fits;
    from = plan_from W L P E g m ends K (λ d a. MadeIn W L P E g m d × Few m.station d) (λ d answer x. x.0) p s;
    marked = plan_marks W L P E g m ends K (λ d a. MadeIn W L P E g m d × Few m.station d) (λ n answer k. (same n answer k).1) (λ d answer x. x.0) p s;
  }
