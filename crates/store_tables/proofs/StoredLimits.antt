-- What is stored of a numbering stays what it holds.
use Rattle.std.proofs.Common.{◌≡◌, ◌⊎◌, ℕ, ◌+◌, ◌^◌, ◌<◌, ◌≤◌, Bool, true, false, cond, None, Some, refl, ap, ◌∙◌, arith}
use Rattle.std.specs.Prelude.{if◌then◌else◌, IfSome, unwrap_or}
use Rattle.std.proofs.lemmas.Bool.{ltb-false}
use Rattle.std.specs.FinMap.{get, insert}
use Rattle.store_tables.specs.declared.number_slot.NumberSlot.{NumberSlot}
use Rattle.byteorder.specs.Endian.{big_bytes}
use Rattle.plc_base.specs.Keeper.{Records, Store, Write, Stores, SameOutside}
use Rattle.store_tables.specs.Writes.{puts_of}
use Rattle.store_tables.specs.LeadingPuts.{PutsLead}
use Rattle.store_tables.proofs.StoreLemmas.{stores_elsewhere}
use Rattle.store_tables.proofs.NumberSlots.{stored-insert, number_either}
use Rattle.store_tables.proofs.LeadingPuts.{leads_one, leads_beside}
use Rattle.store_tables.specs.Numberings.{Counting, AgreesWith, IsCountingIn, ReservationsLead, limit_in, limit_write, stored_limit, greatest, raised, passes}
use Rattle.store_tables.specs.Numberings.{reserve_write, reserved}

module _ (at : NumberSlot) where
  -- a limit that was stored is read back
  pub limit_in-insert : (records : Records) (limit : ℕ) → limit < 256 ^ at.width → at.least ≤ limit
      → limit_in at (get (insert records at.slot (big_bytes at.width limit)) at.slot) ≡ Some limit
  limit_in-insert records limit fits low = stored-insert at records limit fits low

  -- what a kept numbering holds is the stored limit
  pub stored_limit-kept : (counting : Counting) (records : Records) → AgreesWith at counting records → stored_limit at records ≡ counting.limit
  stored_limit-kept counting records kept = ap (λ o. unwrap_or o 0) kept.limit

  -- what is stored of the numbering stays where other slots are put
  pub kept_elsewhere : (counting : Counting) (old new : Records) (first last : ℕ) → AgreesWith at counting old → SameOutside first last old new
      → (at.slot < first) ⊎ (last < at.slot) → AgreesWith at counting new
  kept_elsewhere counting old new first last kept same apart = record { limit = ap (limit_in at) (same at.slot apart) ∙ kept.limit; below = kept.below }

  -- whatever became of a put of a limit, the old one is read or the new one
  pub limit_either : (old new : Records) (limit : ℕ) → limit < 256 ^ at.width → at.least ≤ limit
      → (new ≡ old) ⊎ (new ≡ insert old at.slot (big_bytes at.width limit))
      → (limit_in at (get new at.slot) ≡ limit_in at (get old at.slot)) ⊎ (limit_in at (get new at.slot) ≡ Some limit)
  limit_either old new limit fits low stores = number_either at old new limit fits low stores

-- A limit that is read has its octets and is no less than the least one.
pub record Reads (at : NumberSlot) (limit : ℕ) : Type 0 where
  pub fits : limit < 256 ^ at.width
  pub low : at.least ≤ limit

module _ (at : NumberSlot) (stride : ℕ) where
  -- the next limit is such a one
  pub raised_reads : (limit : ℕ) → Reads at limit → Reads at (raised at stride limit)
  raised_reads limit r = let fits = r.fits in let low = r.low in record { fits = omega arith; low = omega arith }

  -- the next number stays within the limit
  reserved_below : (counting : Counting) (count : ℕ) (b : Bool) → passes counting count ≡ b → counting.next ≤ counting.limit → count ≤ stride
      → counting.next + count ≤ greatest at.width → counting.next + count ≤ cond b (raised at stride counting.limit) counting.limit
  reserved_below counting count true e below few left = omega (arith, below)
  reserved_below counting count false e below few left = ltb-false _ _ e

  -- after a reservation that stored what it had to
  pub kept_reserved : (counting : Counting) (count : ℕ) (old new : Store) → AgreesWith at counting old.records → Reads at counting.limit → count ≤ stride
      → counting.next + count ≤ greatest at.width → Stores old (reserve_write at stride counting count) true new
      → AgreesWith at (reserved at stride counting count) new.records
  kept_reserved counting count old new kept reads few left stores =
      record { limit = by_due (passes counting count) stores; below = reserved_below counting count (passes counting count) refl kept.below few left }
    where
      by_due : (b : Bool) → Stores old (cond b (limit_write at (raised at stride counting.limit)) None) true new
          → limit_in at (get new.records at.slot) ≡ Some (cond b (raised at stride counting.limit) counting.limit)
      by_due true s =
          let next = raised_reads counting.limit reads in
          ap (λ m. limit_in at (get m at.slot)) s.stored ∙ limit_in-insert at old.records (raised at stride counting.limit) next.fits next.low
      by_due false s = ap (λ (k : Store). limit_in at (get k.records at.slot)) s.1 ∙ kept.limit

  pub reserved_reads : (counting : Counting) (count : ℕ) → Reads at counting.limit → Reads at (reserved at stride counting count).limit
  reserved_reads counting count reads = by_due (passes counting count)
    where
      by_due : (b : Bool) → Reads at (cond b (raised at stride counting.limit) counting.limit)
      by_due true = raised_reads counting.limit reads
      by_due false = reads

  -- a reservation puts at the slot of the limit
  pub reserve_write-within : (counting : Counting) (count : ℕ)
      → IfSome (reserve_write at stride counting count) (λ w. (at.slot ≤ w.slot) × (w.slot ≤ at.slot))
  reserve_write-within counting count = by_due (passes counting count)
    where
      by_due : (b : Bool)
          → IfSome (cond b (limit_write at (raised at stride counting.limit)) None) (λ (w : Write). (at.slot ≤ w.slot) × (w.slot ≤ at.slot))
      by_due true = (omega arith, omega arith)
      by_due false = tt

  -- so it leaves all other slots
  pub reserve_write-elsewhere : (counting : Counting) (count : ℕ) (old new : Store) (done : Bool)
      → Stores old (reserve_write at stride counting count) done new → SameOutside at.slot at.slot old.records new.records
  reserve_write-elsewhere counting count old new done stores =
      stores_elsewhere old new (reserve_write at stride counting count) done at.slot at.slot stores (reserve_write-within counting count)

  -- it leads from what the records gave to what they give
  pub reservations_lead : ReservationsLead at stride
  reservations_lead c count few left = by_due (passes c count) refl
    where
      by_due : (b : Bool) → passes c count ≡ b
          → PutsLead (IsCountingIn at) c (puts_of (if b then limit_write at (raised at stride c.limit) else None))
          (record { limit = if b then raised at stride c.limit else c.limit; next = c.next + count })
      by_due true e = leads_one (IsCountingIn at) c _ _ (λ r k.
          let below = k.kept.below in
          let next = raised_reads c.limit (record { fits = k.fits; low = k.low }) in
          record {
            kept = record { limit = limit_in-insert at r (raised at stride c.limit) next.fits next.low; below = omega arith };
            fits = next.fits;
            low = next.low;
          })
      by_due false e =
          leads_beside (IsCountingIn at) c _ (λ r k. record { kept = record { limit = k.kept.limit; below = ltb-false _ _ e }; fits = k.fits; low = k.low })
