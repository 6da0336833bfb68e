-- What accepting a frame does to the marks of a node, and what a restart finds of them.
use Rattle.std.proofs.Common.{◌≡◌, ℕ, ◌<◌, ◌^◌, map, Option, Some, None, Result, Ok, refl, sym, subst}
use Rattle.std.specs.Option.{option_map_or}
use Rattle.plc_base.specs.Keeper.{Records, Write}
use Rattle.store_tables.specs.Writes.{puts_of}
use Rattle.store_tables.specs.LeadingPuts.{PutsLead}
use Rattle.store_tables.specs.SlotTables as slots
use Rattle.store_tables.proofs.OpenedTables.{reopened}
use Rattle.frame_counters.specs.PeerMarks as marks
use Rattle.frame_counters.specs.Laws.{AreMarksIn}
use Rattle.frame_counters.proofs.AdmissionPuts.{admission_leads}
use Rattle.node_rules.specs.Memory.{Memory, Role}
use Rattle.node_rules.specs.MemoryDrafts.{with_station}
use Rattle.node_rules.specs.RestartStates.{memory_of}
use Rattle.line_rules.specs.Steps.{memory_by}
use Rattle.line_laws.specs.Live.{marks_in}
use Rattle.line_laws.specs.Stores.{IsKept}
use Rattle.line_laws.proofs.KeptMemory.{Leads, leads_beside, leads_one, Left}
use Rattle.line_laws.proofs.MarkOrder.{Raised, raised_same, raised_trans, rest_raised, kept_covered, kept_raised}
use Rattle.line_laws.proofs.MarkWrites.{MarksFrom}
use Rattle.line_laws.proofs.Restarts.{Again, again}
pub use Rattle.line_laws.specs.Lines.{AreCovered}

-- # A counter that is admitted

module _ (first : marks.Table) (m : Memory) (from counter : ℕ) (address : from < 0xFFFE) (fits : counter < 2 ^ 32)
    (room : marks.room_for m.station.marks from counter ≡ Ok (tt {0})) where
  abbrev marked : Memory
  marked = with_station (record m.station { marks = marks.kept_after m.station.marks from counter }) m

  now_marked : (r : Records) → AreMarksIn (marks.kept_after m.station.marks from counter) r → (q : marks.IsCovered m.station.marks)
      → Raised first m.station.marks → MarksFrom first marked r
  now_marked r stored covered raised = record {
    stored = stored;
    covered = kept_covered m.station.marks from counter fits covered;
    raised = raised_trans first m.station.marks (marks.kept_after m.station.marks from counter) raised (kept_raised m.station.marks from counter fits room);
  }

  pub accept_marks : Leads (MarksFrom first) m (puts_of (marks.keep_write m.station.marks from counter)) marked
  accept_marks = by_write (marks.keep_write m.station.marks from counter) (admission_leads m.station.marks from counter address fits room)
    where
      by_write : (o : Option Write) → PutsLead AreMarksIn m.station.marks (puts_of o) (marks.kept_after m.station.marks from counter)
          → Leads (MarksFrom first) m (puts_of o) marked
      by_write None leads = leads_beside (MarksFrom first) m marked (λ r q. now_marked r (leads.run r q.stored).1 q.covered q.raised)
      by_write (Some w) leads = leads_one (MarksFrom first) m marked w (λ r q. now_marked _ (leads.run r q.stored).1 q.covered q.raised)

-- # A restart

same_ok : {A E : Type 0} (p : Result A E) (x y : A) → p ≡ Ok x → p ≡ Ok y → x ≡ y
same_ok p x y e f = cc

-- the marks that a restart finds are not below those of before
again_raised : (role : Role) (r : Records) (a : Again role r) (first t : marks.Table) → AreMarksIn t r → marks.IsCovered t → Raised first t
    → Raised first a.memory.station.marks
again_raised role r a first t stored covered raised =
    let opened : slots.opened marks.peers r ≡ Ok (map marks.at_rest t) = reopened marks.peers r t (λ e. refl) stored.sound stored.kept in
    let same : map marks.at_rest t ≡ a.memory.station.marks = same_ok (slots.opened marks.peers r) (map marks.at_rest t) a.memory.station.marks opened
    a.marks in
    subst (Raised first) same (raised_trans first t (map marks.at_rest t) raised (rest_raised t covered))

abbrev pub marks_held : Role → Records → Option Memory → marks.Table
marks_held role r o = marks_in (option_map_or (λ (m : Memory). Some m) o (memory_by (memory_of role r)))

pub marks_from : (m : Memory) (role : Role) (r : Records) → IsKept role m r → marks.IsCovered m.station.marks → MarksFrom m.station.marks m r
marks_from m role r kept covered =
    record { stored = record { kept = kept.station.marks; sound = kept.station.range.marks }; covered = covered; raised = raised_same m.station.marks }

-- what is left of a plan
pub left_raised : (first : marks.Table) (role : Role) (r : Records) (o : Option Memory) → Left (IsKept role) r o → Left (MarksFrom first) r o
    → Raised first (marks_held role r o)
left_raised first role r None kept q =
    let a = again role kept.memory r kept.kept in
    subst (λ x. Raised first (marks_in (memory_by x))) (sym a.is)
    (again_raised role r a first q.memory.station.marks q.kept.stored q.kept.covered q.kept.raised)
left_raised first role r (Some m) kept q = q.raised

pub left_covered : (first : marks.Table) (r : Records) (o : Option Memory) → Left (MarksFrom first) r o → AreCovered o
left_covered first r None q = tt
left_covered first r (Some m) q = q.covered

-- a restart
pub restart_raised : (role : Role) (r : Records) (o : Option Memory) (a : Again role r) → Left (IsKept role) r o → AreCovered o
    → Raised (marks_held role r o) a.memory.station.marks
restart_raised role r None a kept covered = subst (λ x. Raised (marks_in (memory_by x)) a.memory.station.marks) (sym a.is) (raised_same a.memory.station.marks)
restart_raised role r (Some m) a kept covered = again_raised role r a m.station.marks m.station.marks
    (record { kept = kept.station.marks; sound = kept.station.range.marks }) covered (raised_same m.station.marks)
