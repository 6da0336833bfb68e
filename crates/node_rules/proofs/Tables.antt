-- No table of a store gets a gap from writes that are in place, whichever of them fails.
use Rattle.std.proofs.Common.{◌≡◌, ◌≢◌, ◌⊎◌, inl, inr, ℕ, ◌<◌, ◌≤◌, Bool, true, false, List, [], ◌∷◌, length, Option, Some, None, refl, sym, ap, ◌∙◌, subst}
use Rattle.std.proofs.Common.{arith}
use Rattle.std.specs.Prelude.{All, if◌then◌else◌, slice_get}
use Rattle.std.specs.Option.{option_map}
use Rattle.std.specs.FinMap.{get, insert}
use Rattle.std.proofs.lemmas.Bool.{cases_eq}
use Rattle.std.proofs.lemmas.List.Elements.{All-head, All-tail}
use Rattle.std.proofs.lemmas.Option.{slice_get-get_or}
use Rattle.plc_base.specs.declared.keeper.Cut.{Cut}
use Rattle.plc_base.specs.Keeper.{Records, Store, Write, Puts, succeeds, cut_after, records_after, writes}
use Rattle.store_tables.specs.Writes.{Writes, Wrote, Written, write}
use Rattle.store_tables.specs.SlotTables as slots
use Rattle.store_tables.proofs.StoreLemmas.{get-insert_same, get-insert_other}
use Rattle.store_tables.proofs.OpenedTables.{stored_gapless}
use Rattle.frame_counters.specs.PeerMarks as marks
use Rattle.group_keys.specs.KeyBook as book
use Rattle.routing_set.specs.RoutingSet as routing
use Rattle.node_rules.specs.Memory.{StationMemory, Role, Coordinator, Meter}
use Rattle.node_rules.specs.Plans.{Plan, Outcome, finished, halted, carry_out}
use Rattle.node_rules.specs.Tables.{IsAtMost, IsInPlace, ArePlaced, OfCoordinator, HasGaplessTables, HoldsTables, WritesKeepTables, CarryingOutKeepsTables}

-- # What each write keeps, all of them keep

module _ (Q : Records → Type 0) where
  -- a write keeps what holds of the records, and so does each of these
  abbrev pub Kept : Write → Type 0
  Kept w = (r : Records) → Q r → Q (insert r w.slot w.octets)

  abbrev pub Keep : List Write → Type 0
  Keep puts = All Kept puts

  pub cut_keeps : (puts : List Write) (cut : Option Cut) (r : Records) → Keep puts → Q r → Q (write puts cut r).records
  cut_keeps [] cut r keep q = q
  cut_keeps (w ∷ rest) cut r keep q =
      by_success (succeeds cut) (cut_keeps rest (cut_after cut) (records_after cut r w.slot w.octets) (All-tail Kept w rest keep) (by_writing (writes cut)))
    where
      by_writing : (b : Bool) → Q (if b then insert r w.slot w.octets else r)
      by_writing true = All-head Kept w rest keep r q
      by_writing false = q

      by_success : (b : Bool) → Q (write rest (cut_after cut) (records_after cut r w.slot w.octets)).records
          → Q (if b then write rest (cut_after cut) (records_after cut r w.slot w.octets)
          else record { whole = false; records = records_after cut r w.slot w.octets; cut = cut_after cut }).records
      by_success true more = more
      by_success false more = by_writing (writes cut)

  put_keeps : (w : Write) (ok : Bool) (old new : Store) → ((r : Records) → Q r → Q (insert r w.slot w.octets)) → Puts old w.slot w.octets ok new → Q old.records
      → Q new.records
  put_keeps w ok old new keep p q = by_outcome p.old_or_new
    where
      by_outcome : (new.records ≡ old.records) ⊎ (new.records ≡ insert old.records w.slot w.octets) → Q new.records
      by_outcome (inl same) = subst Q (sym same) q
      by_outcome (inr put) = subst Q (sym put) (keep old.records q)

  writes_keep : (puts : List Write) (done : Bool) (old new : Store) → Keep puts → Q old.records → Writes old puts done new → Q new.records
  writes_keep [] done old new keep q h = subst (λ (s : Store). Q s.records) (sym h.1) q
  writes_keep (w ∷ rest) done old new keep q (true, mid, p, more, u) =
      writes_keep rest done mid new (All-tail Kept w rest keep) (put_keeps w true old mid (All-head Kept w rest keep) p q) more
  writes_keep (w ∷ rest) done old new keep q (false, mid, p, u, stop) =
      subst (λ (s : Store). Q s.records) (sym stop.1) (put_keeps w false old mid (All-head Kept w rest keep) p q)

  pub wrote_keeps : (puts : List Write) (done : Bool) (old new : Store) → Keep puts → Q old.records → Wrote old puts done new → Q new.records
  wrote_keeps puts done old new keep q h = writes_keep puts done old new keep q h.by

  pub carried_keeps : {M A : Type 0} (r : Records) (cut : Option Cut) (p : Plan M A) → Keep p.puts → Q r → Q (carry_out r cut p).records
  unfolding carry_out
  carried_keeps {M} {A} r cut p keep q = by_whole (write p.puts cut r) (write p.puts cut r).whole (cut_keeps p.puts cut r keep q)
    where
      by_whole : (w : Written) (b : Bool) → Q w.records → let o : Outcome M A = (if b then finished w p else halted w p) in Q o.records
      by_whole w true h = h
      by_whole w false h = h

-- # One table

-- No record stands after the first empty slot, and each of the first places, of which there are this many, has one.
record Holds {A : Type 0} (layout : slots.Layout A) (count : ℕ) (r : Records) : Type 0 where
  gapless : slots.IsGapless layout r
  filled : (i : ℕ) → i < count → i < layout.slots → get r (slots.slot_of layout i) ≢ None

-- a write to one of the first places, or to the one after them, leaves it so
holds_put : {A : Type 0} (layout : slots.Layout A) (count : ℕ) (w : Write) (r : Records) → IsAtMost layout count w → Holds layout count r
    → Holds layout count (insert r w.slot w.octets)
holds_put layout count w r small h = record { gapless = gapless; filled = filled }
  where
    other : (i : ℕ) → slots.slot_of layout i ≢ w.slot → get (insert r w.slot w.octets) (slots.slot_of layout i) ≡ get r (slots.slot_of layout i)
    other i ne = get-insert_other r w.slot (slots.slot_of layout i) w.octets ne

    here : (i : ℕ) → slots.slot_of layout i ≡ w.slot → get (insert r w.slot w.octets) (slots.slot_of layout i) ≢ None
    here i e none = let is = get-insert_same r w.slot (slots.slot_of layout i) w.octets e in absurd (cc)

    filled : (i : ℕ) → i < count → i < layout.slots → get (insert r w.slot w.octets) (slots.slot_of layout i) ≢ None
    filled i few within = elim (cases_eq (slots.slot_of layout i) w.slot) [
      | inl e ↦ here i e
      | inr ne ↦ λ none. h.filled i few within (sym (other i ne) ∙ none)
    ]

    gapless : slots.IsGapless layout (insert r w.slot w.octets)
    gapless i j lt within none = elim (cases_eq (slots.slot_of layout i) w.slot) [
      | inl e ↦ absurd (here i e none)
      | inr ne ↦ after (sym (other i ne) ∙ none)
    ]
      where
        after : get r (slots.slot_of layout i) ≡ None → get (insert r w.slot w.octets) (slots.slot_of layout j) ≡ None
        after empty = elim (cases_eq (slots.slot_of layout j) w.slot) [
          | inl e ↦ let low : j ≤ count = small j within (sym e) in absurd (h.filled i (omega arith) (omega arith) empty)
          | inr ne ↦ other j ne ∙ h.gapless i j lt within empty
        ]

-- a table that is stored
stored_holds : {A : Type 0} (layout : slots.Layout A) (table : List A) (r : Records) → slots.IsStored layout table r → Holds layout (length table) r
stored_holds {A = A} layout table r stored = record {
  gapless = stored_gapless layout table r stored;
  filled = λ i few within none. there table i few (slice_get table i) refl (ap (option_map (layout.read i)) (sym none) ∙ stored.each i within);
}
  where
    there : (t : List A) (i : ℕ) → i < length t → (o : Option A) → slice_get t i ≡ o → None ≡ option_map (λ entry. Some (layout.rest entry)) (slice_get t i) → ⊥
    there [] i few o is e = absurd (omega arith)
    there (x ∷ xs) i few None is e = let d = slice_get-get_or (x ∷ xs) i x few in absurd (cc)
    there (x ∷ xs) i few (Some entry) is e = absurd (cc)

-- # All tables

record HoldAll (role : Role) (l : StationMemory) (b : book.Book) (r : Records) : Type 0 where
  marks : Holds marks.peers (length l.marks) r
  ranks : Holds routing.ranks (length l.routing.entries) r
  entries : OfCoordinator role (Holds book.entries (length b) r)

-- what is said of the coordinator alone follows from what is said of it alone
of_coordinator : (role : Role) (A B : Type 0) → (A → B) → OfCoordinator role A → OfCoordinator role B
of_coordinator Coordinator A B f a = f a
of_coordinator (Meter psk) A B f a = a

module _ (role : Role) (l : StationMemory) (b : book.Book) where
  put_holds : (w : Write) → IsInPlace l b w → (r : Records) → HoldAll role l b r → HoldAll role l b (insert r w.slot w.octets)
  put_holds w p r h = record {
    marks = holds_put marks.peers (length l.marks) w r p.mark h.marks;
    ranks = holds_put routing.ranks (length l.routing.entries) w r p.rank h.ranks;
    entries = of_coordinator role _ _ (holds_put book.entries (length b) w r p.entry) h.entries;
  }

  all_keep : (puts : List Write) → ArePlaced l b puts → Keep (HoldAll role l b) puts
  all_keep puts placed k d within = put_holds _ (placed k d within)

  at_first : (r : Records) → HoldsTables role l b r → HoldAll role l b r
  at_first r h = record {
    marks = stored_holds marks.peers l.marks r h.marks;
    ranks = stored_holds routing.ranks l.routing.entries r h.ranks;
    entries = of_coordinator role _ _ (stored_holds book.entries b r) h.entries;
  }

  gapless : (r : Records) → HoldAll role l b r → HasGaplessTables role r
  gapless r h = record {
    marks = h.marks.gapless;
    ranks = h.ranks.gapless;
    entries = of_coordinator role _ _ (λ (x : Holds book.entries (length b) r). x.gapless) h.entries;
  }

pub writes_keep_tables : WritesKeepTables
writes_keep_tables role l b old puts done new h placed wrote =
    gapless role l b new.records (wrote_keeps (HoldAll role l b) puts done old new (all_keep role l b puts placed) (at_first role l b old.records h) wrote)

pub carrying_out_keeps_tables : {M A : Type 0} → CarryingOutKeepsTables M A
carrying_out_keeps_tables {M} {A} role l b r cut p h placed =
    gapless role l b _ (carried_keeps (HoldAll role l b) r cut p (all_keep role l b p.puts placed) (at_first role l b r h))
