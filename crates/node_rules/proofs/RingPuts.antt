-- What the coordinator does that is not about its ring puts none.
use Rattle.std.proofs.Common.{◌≡◌, Bool, List, refl, sym, ap, ◌∙◌, arith}
use Rattle.std.specs.Prelude.{All}
use Rattle.std.specs.FinMap.{get}
use Rattle.plc_base.specs.Keeper.{Records, Store, Write}
use Rattle.store_tables.specs.Writes.{Wrote}
use Rattle.store_tables.proofs.StoreLemmas.{get-insert_other}
use Rattle.group_keys.specs.declared.key_book.BookEntry.{BookEntry}
use Rattle.group_keys.specs.KeyBook as book
use Rattle.group_keys.specs.KeyRing.{ring_slot}
use Rattle.node_rules.specs.Memory.{StationMemory}
use Rattle.node_rules.specs.MemoryDrafts.{in_memory}
use Rattle.node_rules.specs.Home.{PutsNoRing, CoordinatorsWriteNoRing, WritesKeepRing}
use Rattle.node_rules.proofs.Tables.{Keep, wrote_keeps}
use Rattle.node_rules.proofs.TablePuts.{Membership, RingOf, EntryOf, PutOf, OfFloors, OfNumber, OfRing, OfMark, OfRank, OfEntry, AreOf}
use Rattle.node_rules.proofs.TablePlans.{plan_puts}
use Rattle.node_rules.proofs.CoordinatorShapes.{coordinator_shape_of, allow_shape_of, depot_shape_of, challenge_shape_of, activate_shape_of, kick_shape_of}

-- an entry of any kind, and no ring
abbrev EntryAlone : Membership → Type 0
EntryAlone (RingOf r) = ⊥
EntryAlone (EntryOf e) = Unit {0}

any_entry : (e : BookEntry) → EntryAlone (EntryOf e)
any_entry e = tt

module _ (b : book.Book) (l : StationMemory) where
  no_ring : (w : Write) → PutOf EntryAlone b l w → PutsNoRing w
  no_ring w (OfFloors floors) = λ e. omega arith
  no_ring w (OfNumber at number low high) = λ e. omega arith
  no_ring w (OfRing r h) = absurd h
  no_ring w (OfMark place peer small) = λ e. omega arith
  no_ring w (OfRank place x small) = λ e. omega arith
  no_ring w (OfEntry place x small h) = λ e. omega arith

  no_rings : (puts : List Write) → AreOf EntryAlone b l puts → All PutsNoRing puts
  no_rings puts are k d within = no_ring _ (are k d within)

pub coordinators_write_no_ring : CoordinatorsWriteNoRing
coordinators_write_no_ring own m = record {
  hears = λ got cost note now. at _ (plan_puts EntryAlone m.book m.station in_memory _ m _ (coordinator_shape_of EntryAlone any_entry own m got cost note now));
  allows = λ eui psk. at _ (plan_puts EntryAlone m.book m.station in_memory _ m _ (allow_shape_of EntryAlone any_entry own m eui psk));
  depots = λ eui psk. at _ (plan_puts EntryAlone m.book m.station in_memory _ m _ (depot_shape_of EntryAlone any_entry own m eui psk));
  challenges = λ eui now. at _ (plan_puts EntryAlone m.book m.station in_memory _ m _ (challenge_shape_of EntryAlone any_entry own m eui now));
  activates = λ eui index now. at _ (plan_puts EntryAlone m.book m.station in_memory _ m _ (activate_shape_of EntryAlone any_entry own m eui index now));
  kicks = λ eui. at _ (plan_puts EntryAlone m.book m.station in_memory _ m _ (kick_shape_of EntryAlone any_entry own m eui));
}
  where
    at : (puts : List Write) → AreOf EntryAlone m.book m.station puts → All PutsNoRing puts
    at puts are = no_rings m.book m.station puts are

-- # The record of the ring stays

module _ (old : Records) where
  SameRing : Records → Type 0
  SameRing r = get r ring_slot ≡ get old ring_slot

  keep_same : (puts : List Write) → All PutsNoRing puts → Keep SameRing puts
  unfolding SameRing
  keep_same puts other k d within = λ r h. get-insert_other r _ ring_slot _ (λ e. other k d within (sym e)) ∙ h

  kept_same : (puts : List Write) (done : Bool) (s t : Store) → s.records ≡ old → All PutsNoRing puts → Wrote s puts done t
      → get t.records ring_slot ≡ get old ring_slot
  unfolding SameRing
  kept_same puts done s t is other wrote = wrote_keeps SameRing puts done s t (keep_same puts other) (ap (λ (r : Records). get r ring_slot) is) wrote

pub writes_keep_ring : WritesKeepRing
writes_keep_ring old puts done new other wrote = kept_same old.records puts done old new refl other wrote
