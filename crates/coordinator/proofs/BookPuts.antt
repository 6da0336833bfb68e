-- The put of an entry of the book.
use Rattle.std.proofs.Common.{◌≡◌, Bool, true, false, List, Option, Some, None, refl, sym, subst}
use Rattle.std.specs.Prelude.{IfSome}
use Rattle.std.specs.Option.{option_map}
use Rattle.plc_base.specs.Keeper.{Store, Stores, OutsideStays}
use Rattle.store_tables.specs.Writes.{Wrote, puts_of}
use Rattle.plc_base.specs.declared.key.RandomOctets.{RandomOctets}
use Rattle.store_tables.proofs.WritesLemmas.{wrote_one}
use Rattle.group_keys.specs.declared.key_book.BookEntry.{BookEntry}
use Rattle.group_keys.specs.KeyBook as book
use Rattle.node_rules.specs.Memory.{StationMemory, CoordinatorSession}
use Rattle.node_rules.specs.Drafts.{empty_draft}
use Rattle.node_rules.specs.Coordinators.{with_book_entry}
use Rattle.node_rules.specs.States.{State}
use Rattle.coordinator.specs.CoordinatorStates.{memory_in, state_in}
use Rattle.coordinator.specs.CoordinatorAgreement.{CoordinatorAgreesWith, CoordinatorAgrees}
use Rattle.coordinator.specs.DraftsCarriedOut.{Does}
use Rattle.coordinator.proofs.BookAgreement.{agrees_booked}

module _ (s : State StationMemory) (randoms : List RandomOctets) (sessions : List CoordinatorSession) (b after : book.Book) (e : BookEntry) (before now : Store)
    (same : before ≡ s.store) where
  wrote : (done : Bool) → Stores before (book.change_write b e) done now → Wrote s.store (puts_of (book.change_write b e)) done now
  wrote done stores = subst (λ (k : Store). Wrote k (puts_of (book.change_write b e)) done now) same (wrote_one before now (book.change_write b e) done stores)

  pub booked : (l : StationMemory) → s.memory ≡ Some l → Stores before (book.change_write b e) true now → after ≡ book.with_entry b e
      → Does (state_in s randoms sessions b) (with_book_entry e (empty_draft (memory_in randoms sessions b l))) true
      (state_in (record s { store = now }) randoms sessions after)
  unfolding with_book_entry empty_draft
  booked l running stores is = record {
    wrote = wrote true stores;
    state = λ i. record { store = now; eui = s.eui; memory = option_map (memory_in randoms sessions (is i)) (running i); replied = s.replied };
  }

  pub unbooked : (l : StationMemory) → Stores before (book.change_write b e) false now
      → Does (state_in s randoms sessions b) (with_book_entry e (empty_draft (memory_in randoms sessions b l))) false
      (state_in (record s { store = now; memory = None }) randoms sessions after)
  unfolding with_book_entry empty_draft
  unbooked l stores = record { wrote = wrote false stores; state = refl }

  pub booked_holds : (l : StationMemory) → s.memory ≡ Some l → CoordinatorAgreesWith (memory_in randoms sessions b l) s.store.records
      → OutsideStays 0x1000 0x13E6 before now → book.AgreesWith after now.records
      → CoordinatorAgrees (state_in (record s { store = now }) randoms sessions after)
  booked_holds l running h stays kept =
      subst (λ (o : Option StationMemory). IfSome (option_map (memory_in randoms sessions after) o) (λ m. CoordinatorAgreesWith m now.records)) (sym running)
      (record {
        station = agrees_booked l s.store.records now.records h.station (subst (λ (k : Store). OutsideStays 0x1000 0x13E6 k now) same stays);
        book = kept;
        home = h.home;
      })
