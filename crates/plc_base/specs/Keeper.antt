-- What a keeper holds, what a put does to it, and what a loss of power makes of a put.
use Rattle.std.specs.Prelude.{◌≡◌, ◌⊎◌, ℕ, ◌-◌, ◌<◌, ◌≤◌, Bool, true, false, ◌||◌, nat_lt, if◌then◌else◌, List, [], ◌∷◌, ◌++◌, Option, Some, None, IfSome, refl}
use Rattle.std.specs.Bool.{OnTrue, OnFalse}
use Rattle.std.specs.Option.{option_map, option_map_or}
use Rattle.std.specs.Ordering.{nat_cmp}
use Rattle.std.specs.FinMap.{FinMap, get, insert, code}
use Rattle.std.specs.Coded.{Coded, code_by, coded×, coded_ℕ, coded_bool, coded_list, coded_option}
use Rattle.plc_base.specs.declared.keeper.Cut.{Cut}
use Rattle.plc_base.specs.Causes.{Rose}

-- the octets at each slot that has a record
abbrev pub Records : Type 0
Records = FinMap nat_cmp (List ℕ)

-- A put that a call makes.
pub record Write : Type 0 where
  pub slot : ℕ
  pub octets : List ℕ

-- What a keeper holds.
pub record Store : Type 0 where
  pub records : Records
  -- None where the next opening finds these records, and else those that it may find in their place: a put that failed is decided then
  pub pending : Option Records
  -- how often it has failed, which stays at the highest number of 64 bits
  pub faults : ℕ
  -- None where it is not known, and else the cut that is to come, if there is one
  pub known_cut : Option (Option Cut)
  -- None where it lists no puts, and else the puts since the list was last cleared, in order
  pub listed : Option (List Write)

-- The slots: 1 the ring, 2 the limit of the send counter, 3 that of the own number, 4 the next datagram tag, 5 the floors,
-- 6 the limit of the broadcast number; the peers' marks; the ranks; the broadcast marks; the book.
abbrev pub IsSlot : ℕ → Type 0
IsSlot slot =
    ((1 ≤ slot) × (slot ≤ 6))
    ⊎ ((0x0100 ≤ slot) × (slot ≤ 0x013F))
    ⊎ ((0x0200 ≤ slot) × (slot ≤ 0x023F))
    ⊎ ((0x0300 ≤ slot) × (slot ≤ 0x031F))
    ⊎ ((0x1000 ≤ slot) × (slot ≤ 0x13E6))

-- whether the put that comes next succeeds
abbrev pub succeeds : Option Cut → Bool
succeeds None = true
succeeds (Some cut) = nat_lt 1 cut.nth

-- the cut that is to come after a put
abbrev pub cut_after : Option Cut → Option Cut
cut_after None = None
cut_after (Some cut) = if nat_lt 1 cut.nth then Some (record cut { nth = cut.nth - 1 }) else None

-- whether the put that comes next writes its slot
abbrev pub writes : Option Cut → Bool
writes None = true
writes (Some cut) = nat_lt 1 cut.nth || cut.keeps_new

-- the records after a put of these octets
abbrev pub records_after : Option Cut → Records → ℕ → List ℕ → Records
records_after cut records slot octets = if writes cut then insert records slot octets else records

-- the puts that are listed after one more, which is listed where it succeeds
abbrev pub listed_after : Bool → Write → List Write → List Write
listed_after ok write listed = if ok then listed ++ write ∷ [] else listed

-- the records that an opening may find in place of those that are held: the same, where none are pending
abbrev pub pending_records : Store → Records
pending_records store = option_map_or (λ records. records) store.pending store.records

-- what an opening may find after a put: the record, where it succeeded; where it failed, what one might have found before it, or that with this record
abbrev pub PendingAfter : Store → ℕ → List ℕ → Bool → Store → Type 0
PendingAfter old slot octets true new = pending_records new ≡ insert old.records slot octets
PendingAfter old slot octets false new =
    (pending_records new ≡ pending_records old) ⊎ (pending_records new ≡ old.records) ⊎ (pending_records new ≡ insert old.records slot octets)

-- A put of these octets, which succeeds or not.
pub record Puts (old : Store) (slot : ℕ) (octets : List ℕ) (ok : Bool) (new : Store) : Type 0 where
  pub stored : OnTrue ok (new.records ≡ insert old.records slot octets)
  pub old_or_new : (new.records ≡ old.records) ⊎ (new.records ≡ insert old.records slot octets)
  pub pending : PendingAfter old slot octets ok new
  pub faults : old.faults ≤ new.faults
  pub rose : OnFalse ok (Rose old.faults new.faults)
  -- where the cut is known, so is all of the outcome
  pub known_cut : new.known_cut ≡ option_map cut_after old.known_cut
  pub known_cut_ok : IfSome old.known_cut (λ cut. ok ≡ succeeds cut)
  pub known_cut_records : IfSome old.known_cut (λ cut. new.records ≡ records_after cut old.records slot octets)
  pub listed : new.listed ≡ option_map (listed_after ok (record { slot = slot; octets = octets })) old.listed

-- a store is kept as the tuple of its fields
abbrev pub store_code : Coded Store
store_code =
    code_by (Records × (Option Records × (ℕ × (Option (Option Cut) × Option (List Write)))))
    (coded× records_code (coded× (coded_option records_code)
    (coded× coded_ℕ (coded× (coded_option (coded_option cut_code)) (coded_option (coded_list write_code))))))
    (λ s. (s.records, (s.pending, (s.faults, (s.known_cut, s.listed)))))
    (λ p. record { records = p.0; pending = p.1.0; faults = p.1.1.0; known_cut = p.1.1.1.0; listed = p.1.1.1.1 })
    (λ _. refl)
  where
    records_code : Coded Records
    records_code = code coded_ℕ (coded_list coded_ℕ)

    write_code : Coded Write
    write_code = code_by (ℕ × List ℕ) (coded× coded_ℕ (coded_list coded_ℕ)) (λ w. (w.slot, w.octets))
        (λ p. record { slot = p.0; octets = p.1 }) (λ _. refl)

    cut_code : Coded Cut
    cut_code = code_by (ℕ × Bool) (coded× coded_ℕ coded_bool) (λ c. (c.nth, c.keeps_new))
        (λ p. record { nth = p.0; keeps_new = p.1 }) (λ _. refl)

-- The puts of a call that makes at most one; done says that none failed.
abbrev pub Stores : Store → Option Write → Bool → Store → Type 0
Stores old None done new = (done ≡ true) × (new ≡ old)
Stores old (Some write) done new = Puts old write.slot write.octets done new

-- no slot outside these has changed
abbrev pub SameOutside : ℕ → ℕ → Records → Records → Type 0
SameOutside first last old new = (slot : ℕ) → (slot < first) ⊎ (last < slot) → get new slot ≡ get old slot

-- whatever became of a put, the records are those of the value before or those of the value after
abbrev pub IsOldOrNew : {A : Type 0} → (A → Records → Type 0) → A → A → Records → Type 0
IsOldOrNew Kept old new records = Kept old records ⊎ Kept new records

-- no slot of a store outside these has changed
abbrev pub OutsideStays : ℕ → ℕ → Store → Store → Type 0
OutsideStays first last old new = SameOutside first last old.records new.records

-- whether the put of a call succeeds, where the cut is known
abbrev pub write_succeeds : Option Cut → Option Write → Bool
write_succeeds cut None = true
write_succeeds cut (Some write) = succeeds cut

-- the records after the put of a call, where the cut is known
abbrev pub records_after_write : Option Cut → Records → Option Write → Records
records_after_write cut records None = records
records_after_write cut records (Some write) = records_after cut records write.slot write.octets

-- the cut that is to come after the put of a call
abbrev pub cut_after_write : Option Cut → Option Write → Option Cut
cut_after_write cut None = cut
cut_after_write cut (Some write) = cut_after cut

-- Where the cut is known, the outcome of a call's put is a function of it.
pub record HasKnownOutcome (old : Store) (cut : Option Cut) (write : Option Write) (done : Bool) (new : Store) : Type 0 where
  pub done_is : done ≡ write_succeeds cut write
  pub records_is : new.records ≡ records_after_write cut old.records write
  pub known_cut_is : new.known_cut ≡ Some (cut_after_write cut write)
