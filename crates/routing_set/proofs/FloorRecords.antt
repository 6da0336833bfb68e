-- The record of the floors is read back.
use Rattle.std.proofs.Common.{◌≡◌, ◌⊎◌, ℕ, zero, suc, ◌*◌, ◌^◌, ◌<◌, Bool, true, cond, List, [], ◌∷◌, Some, None, Result, Ok, Err, length, map, drop, get_or}
use Rattle.std.proofs.Common.{refl, sym, inl, inr, ap, ◌∙◌, arith}
use Rattle.std.specs.Prelude.{◌==◌, OnOk, is_ok}
use Rattle.std.specs.List.{range_with_len}
use Rattle.std.proofs.lemmas.Bool.Decides.{nat_tests}
use Rattle.std.proofs.lemmas.List.FromFn.{fill_by_all}
use Rattle.std.specs.FinMap.{get, insert}
use Rattle.byteorder.specs.Endian.{big_number, IsRead}
use Rattle.byteorder.specs.Numbers.{big_number-reads_back}
use Rattle.plc_base.specs.Keeper.{Records, Store, Stores}
use Rattle.store_tables.proofs.StoreLemmas.{get-insert_same}
use Rattle.routing_set.specs.RoutingSet.{floor_slot, floors_of, floors_in, floors_octets, floors_write}

-- the octets of numbers of 2 octets each
length-octets : (floors : List ℕ) → length (floors_octets floors) ≡ 2 * length floors
length-octets [] = refl
length-octets (f ∷ floors) = omega (arith, length-octets floors)

-- each of them is read at its place
read_at : (floors : List ℕ) (k d : ℕ) → k < length floors → ((i : ℕ) → get_or floors i 0 < 2 ^ 16)
    → big_number 2 (drop (2 * k) (floors_octets floors)) ≡ get_or floors k d
read_at [] k d h fits = absurd (omega arith)
read_at (f ∷ floors) zero d h fits = big_number-reads_back 2 f (floors_octets floors) (omega (arith, fits 0))
read_at (f ∷ floors) (suc k) d h fits =
    let twice : 2 * suc k ≡ suc (suc (2 * k)) = omega arith in
    ap (λ n. big_number 2 (drop n (floors_octets (f ∷ floors)))) twice ∙ read_at floors k d (omega arith) (λ i. fits (suc i))

-- floors that were stored are read back
pub floors_in-octets : (floors : List ℕ) → length floors ≡ 16 → ((i : ℕ) → get_or floors i 0 < 2 ^ 16) → floors_in (Some (floors_octets floors)) ≡ Some floors
unfolding floors_in floors_of
floors_in-octets floors long fits =
    let octets : (length (floors_octets floors) == 32) ≡ true = grind (arith, nat_tests, length-octets floors) in
    let back : floors ≡ map (λ class. big_number 2 (drop (2 * class) (floors_octets floors))) (range_with_len 0 16)
    = fill_by_all (λ class. big_number 2 (drop (2 * class) (floors_octets floors))) floors 16 0 long (λ k h. sym (read_at floors k 0 (omega arith) fits)) in
    ap (λ (b : Bool). cond b (Some (map (λ class. big_number 2 (drop (2 * class) (floors_octets floors))) (range_with_len 0 16))) None) octets
    ∙ ap Some (sym back)

-- what was read into 16 numbers
pub floors_of-read : (octets floors : List ℕ) → length floors ≡ 16 → IsRead big_number 2 octets floors → floors ≡ floors_of octets
unfolding floors_of
floors_of-read octets floors long read = fill_by_all (λ class. big_number 2 (drop (2 * class) octets)) floors 16 0 long (λ k h. read k (omega arith))

pub floors_in-insert : (records : Records) (floors : List ℕ) → length floors ≡ 16 → ((i : ℕ) → get_or floors i 0 < 2 ^ 16)
    → floors_in (get (insert records floor_slot (floors_octets floors)) floor_slot) ≡ Some floors
floors_in-insert records floors long fits =
    ap floors_in (get-insert_same records floor_slot floor_slot (floors_octets floors) refl) ∙ floors_in-octets floors long fits

-- a put of floors that succeeded is read back
pub floors_stored : {T E : Type 0} (r : Result T E) (old new : Store) (floors : List ℕ) → length floors ≡ 16 → ((i : ℕ) → get_or floors i 0 < 2 ^ 16)
    → Stores old (Some (floors_write floors)) (is_ok r) new → OnOk r (floors_in (get new.records floor_slot) ≡ Some floors)
floors_stored (Ok done) old new floors long fits stores = ap (λ m. floors_in (get m floor_slot)) stores.stored ∙ floors_in-insert old.records floors long fits
floors_stored (Err fault) old new floors long fits stores = tt

-- whatever became of a put of floors, the old ones are read or the new ones
pub floors_either : (old new : Records) (floors : List ℕ) → length floors ≡ 16 → ((i : ℕ) → get_or floors i 0 < 2 ^ 16)
    → (new ≡ old) ⊎ (new ≡ insert old floor_slot (floors_octets floors))
    → (floors_in (get new floor_slot) ≡ floors_in (get old floor_slot)) ⊎ (floors_in (get new floor_slot) ≡ Some floors)
floors_either old new floors long fits (inl same) = inl (ap (λ m. floors_in (get m floor_slot)) same)
floors_either old new floors long fits (inr written) = inr (ap (λ m. floors_in (get m floor_slot)) written ∙ floors_in-insert old floors long fits)
