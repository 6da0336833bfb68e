-- No number is given out twice.
use Rattle.std.proofs.Common.{◌≡◌, ◌⊎◌, ℕ, zero, suc, ◌+◌, ◌≤◌, Bool, true, false, cond, List, [], ◌∷◌, ◌++◌, Option, Some, None, Ok, refl, sym, ap, subst, ◌∙◌}
use Rattle.std.proofs.Common.{inl, inr, arith}
use Rattle.std.specs.Prelude.{IfSome}
use Rattle.std.specs.FinMap.{get}
use Rattle.plc_base.specs.Keeper.{Records, Store, Stores}
use Rattle.store_tables.specs.declared.number_slot.NumberSlot.{NumberSlot}
use Rattle.store_tables.specs.Numberings.{Counting, AgreesWith, opened, counting_from, counting_at, limit_in, limit_write, greatest, raised, passes}
use Rattle.store_tables.specs.Numberings.{reserve_write}
use Rattle.store_tables.specs.Numberings.{reserved, run_of, AllBelow, EachAbove}
use Rattle.store_tables.proofs.StoredLimits.{Reads, kept_reserved, raised_reads, reserved_reads, limit_either}

AllBelow-weaker : (a b : ℕ) (xs : List ℕ) → a ≤ b → AllBelow a xs → AllBelow b xs
AllBelow-weaker a b [] h below = tt
AllBelow-weaker a b (x ∷ xs) h below = (omega (arith, below.0), AllBelow-weaker a b xs h below.1)

AllBelow-run : (first count : ℕ) (given : List ℕ) → AllBelow first given → AllBelow (first + count) (run_of first count ++ given)
AllBelow-run first zero given below = AllBelow-weaker first (first + zero) given (omega arith) below
AllBelow-run first (suc count) given below =
    (omega arith, AllBelow-weaker (first + count) (first + suc count) (run_of first count ++ given) (omega arith) (AllBelow-run first count given below))

EachAbove-run : (first count : ℕ) (given : List ℕ) → AllBelow first given → EachAbove given → EachAbove (run_of first count ++ given)
EachAbove-run first zero given below each = each
EachAbove-run first (suc count) given below each = (AllBelow-run first count given below, EachAbove-run first count given below each)

module _ (at : NumberSlot) (stride : ℕ) where
  -- What holds over all that happens: the stored limit is above all that was given, and so is the next number.
  pub record HoldsGiven (given : List ℕ) (was : Option Counting) (records : Records) : Type 0 where
    pub limit : ℕ
    pub stored : limit_in at (get records at.slot) ≡ Some limit
    pub reads : Reads at limit
    pub below : AllBelow limit given
    pub each : EachAbove given
    pub live : IfSome was (λ c. (c.limit ≡ limit) × (c.next ≤ c.limit) × AllBelow c.next given)

  opened_counting : (c : Counting) (records : Records) → opened at records ≡ Ok c → (limit_in at (get records at.slot) ≡ Some c.limit) × (c.next ≡ c.limit)
  opened_counting c records e = by_limit (limit_in at (get records at.slot)) refl e
    where
      by_limit : (o : Option ℕ) → limit_in at (get records at.slot) ≡ o → counting_from at o ≡ Ok c
          → (limit_in at (get records at.slot) ≡ Some c.limit) × (c.next ≡ c.limit)
      by_limit None is e = absurd (cc (e))
      by_limit (Some limit) is e =
          let same : counting_at limit ≡ c = cc in
          subst (λ (k : Counting). (limit_in at (get records at.slot) ≡ Some k.limit) × (k.next ≡ k.limit)) same (is, refl)

  pub given_begins : (c : Counting) (records : Records) → opened at records ≡ Ok c → Reads at c.limit → HoldsGiven [] (Some c) records
  given_begins c records e reads =
      let from = opened_counting c records e in
      record { limit = c.limit; stored = from.0; reads = reads; below = tt; each = tt; live = (refl, omega (arith, from.1), tt) }

  -- a reservation keeps it
  pub given_more : (given : List ℕ) (c : Counting) (count : ℕ) (old new : Store) → HoldsGiven given (Some c) old.records → count ≤ stride
      → c.next + count ≤ greatest at.width
      → Stores old (reserve_write at stride c count) true new → HoldsGiven (run_of c.next count ++ given) (Some (reserved at stride c count)) new.records
  given_more given c count old new h few left stores =
      let kept : AgreesWith at c old.records = record { limit = h.stored ∙ ap Some (sym h.live.0); below = h.live.1 } in
      let reads : Reads at c.limit = subst (Reads at) (sym h.live.0) h.reads in
      let next = kept_reserved at stride c count old new kept reads few left stores in
      let below = AllBelow-run c.next count given h.live.2 in
      record {
        limit = (reserved at stride c count).limit;
        stored = next.limit;
        reads = reserved_reads at stride c count reads;
        below = AllBelow-weaker (c.next + count) (reserved at stride c count).limit (run_of c.next count ++ given) next.below below;
        each = EachAbove-run c.next count given h.live.2 h.each;
        live = (refl, next.below, below);
      }

  -- and so does a failed put
  pub given_lost : (given : List ℕ) (c : Counting) (count : ℕ) (old new : Store) → HoldsGiven given (Some c) old.records
      → Stores old (reserve_write at stride c count) false new
      → HoldsGiven given None new.records
  given_lost given c count old new h stores = by_due (passes c count) stores
    where
      next : Reads at (raised at stride c.limit)
      next = raised_reads at stride c.limit (subst (Reads at) (sym h.live.0) h.reads)

      either : (limit_in at (get new.records at.slot) ≡ limit_in at (get old.records at.slot))
          ⊎ (limit_in at (get new.records at.slot) ≡ Some (raised at stride c.limit))
          → HoldsGiven given None new.records
      either (inl same) = record { limit = h.limit; stored = same ∙ h.stored; reads = h.reads; below = h.below; each = h.each; live = tt }
      either (inr higher) = record {
        limit = raised at stride c.limit;
        stored = higher;
        reads = next;
        below = AllBelow-weaker c.next (raised at stride c.limit) given (omega (arith, h.reads.fits, h.live.0, h.live.1)) h.live.2;
        each = h.each;
        live = tt;
      }

      by_due : (b : Bool) → Stores old (cond b (limit_write at (raised at stride c.limit)) None) false new → HoldsGiven given None new.records
      by_due false s = absurd (cc (s.0))
      by_due true s = either (limit_either at old.records new.records (raised at stride c.limit) next.fits next.low s.old_or_new)

  pub given_restarts : (given : List ℕ) (was : Option Counting) (c : Counting) (records : Records) → HoldsGiven given was records → opened at records ≡ Ok c
      → HoldsGiven given (Some c) records
  given_restarts given was c records h e =
      let from = opened_counting c records e in
      let same : c.limit ≡ h.limit = cc (sym from.0 ∙ h.stored) in
      record {
        limit = h.limit;
        stored = h.stored;
        reads = h.reads;
        below = h.below;
        each = h.each;
        live = (same, omega (arith, from.1), subst (λ (k : ℕ). AllBelow k given) (sym (from.1 ∙ same)) h.below);
      }

  -- it stays where other slots are put, and where the numbering is lost
  pub given_elsewhere : (given : List ℕ) (was : Option Counting) (old new : Records) → HoldsGiven given was old → get new at.slot ≡ get old at.slot
      → HoldsGiven given was new
  given_elsewhere given was old new h same =
      record { limit = h.limit; stored = ap (limit_in at) same ∙ h.stored; reads = h.reads; below = h.below; each = h.each; live = h.live }

  pub given_none : (given : List ℕ) (was : Option Counting) (records : Records) → HoldsGiven given was records → HoldsGiven given None records
  given_none given was records h = record { limit = h.limit; stored = h.stored; reads = h.reads; below = h.below; each = h.each; live = tt }
