-- A number that was stored is read back.
use Rattle.std.proofs.Common.{◌≡◌, ◌⊎◌, ℕ, ◌^◌, ◌<◌, ◌≤◌, Bool, true, false, cond, [], length, Some, None, Result, Ok, Err, refl, sym, inl, inr, ap, ◌∙◌, arith}
use Rattle.std.proofs.Common.{append-nil}
use Rattle.std.specs.Prelude.{◌==◌, OnOk, is_ok, nat_lt}
use Rattle.std.proofs.lemmas.Bool.Decides.{nat_tests}
use Rattle.std.specs.FinMap.{insert}
use Rattle.byteorder.specs.Endian.{big_bytes, big_number}
use Rattle.byteorder.specs.Numbers.{big_number-reads_back, length-bytes_high_first}
use Rattle.plc_base.specs.Keeper.{Records, Store, Stores}
use Rattle.store_tables.specs.NumberSlots.{number_in, stored_number, number_write, reading}
use Rattle.store_tables.specs.declared.number_slot.NumberSlot.{NumberSlot}
use Rattle.store_tables.proofs.StoreLemmas.{get-insert_same}

reading-high : (least number : ℕ) → least ≤ number → reading least number ≡ Some number
reading-high least number h =
    let e : nat_lt number least ≡ false = grind (arith, nat_tests) in
    ap (λ (b : Bool). cond b None (Some number)) e

pub number_in-octets : (at : NumberSlot) (number : ℕ) → number < 256 ^ at.width → at.least ≤ number
    → number_in at (Some (big_bytes at.width number)) ≡ Some number
number_in-octets at number fits least =
    let long : length (big_bytes at.width number) ≡ at.width = length-bytes_high_first at.width number in
    let same : (length (big_bytes at.width number) == at.width) ≡ true = grind (arith, nat_tests) in
    let back : big_number at.width (big_bytes at.width number) ≡ number
    = ap (big_number at.width) (sym (append-nil (big_bytes at.width number))) ∙ big_number-reads_back at.width number [] fits in
    ap (λ (b : Bool). cond b (reading at.least (big_number at.width (big_bytes at.width number))) None) same
    ∙ ap (reading at.least) back ∙ reading-high at.least number least

-- it is read back
pub stored-insert : (at : NumberSlot) (records : Records) (number : ℕ) → number < 256 ^ at.width → at.least ≤ number
    → stored_number at (insert records at.slot (big_bytes at.width number)) ≡ Some number
stored-insert at records number fits least =
    ap (number_in at) (get-insert_same records at.slot at.slot (big_bytes at.width number) refl) ∙ number_in-octets at number fits least

-- after a put that succeeded
pub number_stored : {T E : Type 0} (at : NumberSlot) (r : Result T E) (old new : Store) (number : ℕ) → number < 256 ^ at.width → at.least ≤ number
    → Stores old (Some (number_write at number)) (is_ok r) new → OnOk r (stored_number at new.records ≡ Some number)
number_stored at (Ok done) old new number fits least stores = ap (stored_number at) stores.stored ∙ stored-insert at old.records number fits least
number_stored at (Err fault) old new number fits least stores = tt

-- whatever became of the put, the old number is read or the new one
pub number_either : (at : NumberSlot) (old new : Records) (number : ℕ) → number < 256 ^ at.width → at.least ≤ number
    → (new ≡ old) ⊎ (new ≡ insert old at.slot (big_bytes at.width number))
    → (stored_number at new ≡ stored_number at old) ⊎ (stored_number at new ≡ Some number)
number_either at old new number fits least (inl same) = inl (ap (stored_number at) same)
number_either at old new number fits least (inr written) = inr (ap (stored_number at) written ∙ stored-insert at old number fits least)
