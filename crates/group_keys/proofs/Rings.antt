-- A record of a ring is read back, and what is stored of it stays.
use Rattle.std.proofs.Common.{◌≡◌, ◌⊎◌, ℕ, zero, suc, ◌<◌, Bool, true, cond, List, [], ◌∷◌, ◌++◌, length, take, drop, Option, Some, None, Result, Ok, Err, inl}
use Rattle.std.proofs.Common.{inr, refl, ap, ◌∙◌, arith, length-append}
use Rattle.std.specs.Prelude.{nat_lt, nat_le, ◌==◌, ◌&&◌, is_ok, OnOk}
use Rattle.std.specs.Option.{option_map, option_map_or}
use Rattle.std.proofs.lemmas.Bool.Decides.{nat_tests}
use Rattle.std.specs.FinMap.{get, insert}
use Rattle.byteorder.specs.Endian.{big_number, big_bytes}
use Rattle.byteorder.specs.Numbers.{big_number-reads_back}
use Rattle.plc_base.specs.Keeper.{Records, Store, Stores, SameOutside}
use Rattle.plc_base.specs.Grant.{Granted, IsGrant}
use Rattle.plc_base.specs.declared.key.Key.{Key}
use Rattle.store_tables.proofs.StoreLemmas.{get-insert_same}
use Rattle.group_keys.specs.Fields.{held_in, held_octets}
use Rattle.group_keys.specs.KeyRing.{Ring, AgreesWith, ring_slot, ring_at, ring_in, grant_in, grant_of, ring_octets, ring_write}

-- # Fields in a row

pub take_front : {A : Type 0} (n : ℕ) (xs ys : List A) → length xs ≡ n → take n (xs ++ ys) ≡ xs
take_front zero [] ys e = refl
take_front zero (x ∷ xs) ys e = absurd (omega arith)
take_front (suc n) [] ys e = absurd (omega arith)
take_front (suc n) (x ∷ xs) ys e = ap (λ k. x ∷ k) (take_front n xs ys (omega arith))

pub drop_front : {A : Type 0} (n : ℕ) (xs ys : List A) → length xs ≡ n → drop n (xs ++ ys) ≡ ys
drop_front zero [] ys e = refl
drop_front zero (x ∷ xs) ys e = absurd (omega arith)
drop_front (suc n) [] ys e = absurd (omega arith)
drop_front (suc n) (x ∷ xs) ys e = drop_front n xs ys (omega arith)

-- whether a key is held, and the key, is read back
pub held_in-held_octets : (held : Option Key) → held_in (held_octets held) ≡ Some held
held_in-held_octets None = refl
held_in-held_octets (Some key) = refl

-- # The record of a ring

-- the octets after the flag
abbrev rest_of : Granted → List ℕ
rest_of g = big_bytes 2 g.address ++ (g.active ∷ (held_octets g.key0 ++ held_octets g.key1))

grant_of-fields : (g : Granted) → IsGrant g → g.address < 0xFFFE → grant_of g.address g.active g.key0 g.key1 ≡ Some g
grant_of-fields g grant short =
    let low : nat_lt g.address 0xFFFE ≡ true = grind (arith, nat_tests) in
    let index : nat_le g.active 1 ≡ true = grind (arith, nat_tests, grant.index) in
    rw (low, index, grant.held) refl

keys_of : Granted → Option (Option Key) → Option (Option Key) → ℕ → Option Granted
keys_of g k0 k1 address = option_map_or (λ key0. option_map_or (λ key1. grant_of address g.active key0 key1) k1 None) k0 None

grant_in-rest_of : (g : Granted) → IsGrant g → g.address < 0xFFFE → length (held_octets g.key0) ≡ 17 → grant_in (rest_of g) ≡ Some g
unfolding keys_of
grant_in-rest_of g grant short e0 =
    let address : big_number 2 (rest_of g)
    ≡ g.address = big_number-reads_back 2 g.address (g.active ∷ (held_octets g.key0 ++ held_octets g.key1)) (omega arith) in
    let first : held_in (take 17 (held_octets g.key0 ++ held_octets g.key1))
    ≡ Some g.key0 = ap held_in (take_front 17 (held_octets g.key0) (held_octets g.key1) e0) ∙ held_in-held_octets g.key0 in
    let last : held_in (drop 17 (held_octets g.key0 ++ held_octets g.key1))
    ≡ Some g.key1 = ap held_in (drop_front 17 (held_octets g.key0) (held_octets g.key1) e0) ∙ held_in-held_octets g.key1 in
    ap (λ k. keys_of g k (held_in (drop 17 (held_octets g.key0 ++ held_octets g.key1))) (big_number 2 (rest_of g))) first
    ∙ ap (λ k. keys_of g (Some g.key0) k (big_number 2 (rest_of g))) last
    ∙ ap (keys_of g (Some g.key0) (Some g.key1)) address
    ∙ grant_of-fields g grant short

pub ring_in-ring_octets : (g : Granted) → IsGrant g → g.address < 0xFFFE → length (held_octets g.key0) ≡ 17 → length (held_octets g.key1) ≡ 17
    → ring_in (ring_octets (Some g)) ≡ Some (Some g)
ring_in-ring_octets g grant short e0 e1 =
    let long : (length (ring_octets (Some g)) == 38) ≡ true =
    let len : length (ring_octets (Some g)) ≡ 38 = omega (arith, length-append (held_octets g.key0) (held_octets g.key1)) in grind (arith, nat_tests) in
    ap (λ (b : Bool). cond (b && true) (option_map Some (grant_in (rest_of g))) None) long
    ∙ ap (option_map Some) (grant_in-rest_of g grant short e0)

-- # The store

-- a put of a ring that succeeded is read back
pub ring_stored : {T E : Type 0} (r : Result T E) (old new : Store) (ring : Ring) → ring_in (ring_octets ring) ≡ Some ring
    → Stores old (ring_write ring) (is_ok r) new
    → OnOk r (ring_at (get new.records ring_slot) ≡ Some ring)
ring_stored (Ok done) old new ring reads stores =
    ap (λ m. ring_at (get m ring_slot)) stores.stored ∙ ap ring_at (get-insert_same old.records ring_slot ring_slot (ring_octets ring) refl) ∙ reads
ring_stored (Err fault) old new ring reads stores = tt

-- whatever became of a put of a ring, the old one is read or the new one
pub ring_either : (old new : Records) (ring : Ring) → ring_in (ring_octets ring) ≡ Some ring → (new ≡ old) ⊎ (new ≡ insert old ring_slot (ring_octets ring))
    → (ring_at (get new ring_slot) ≡ ring_at (get old ring_slot)) ⊎ (ring_at (get new ring_slot) ≡ Some ring)
ring_either old new ring reads (inl same) = inl (ap (λ m. ring_at (get m ring_slot)) same)
ring_either old new ring reads (inr written) =
    inr (ap (λ m. ring_at (get m ring_slot)) written ∙ ap ring_at (get-insert_same old ring_slot ring_slot (ring_octets ring) refl) ∙ reads)

-- what is stored of the ring stays where other slots are put
pub kept_elsewhere : (ring : Ring) (old new : Records) (first last : ℕ) → AgreesWith ring old → SameOutside first last old new
    → (ring_slot < first) ⊎ (last < ring_slot) → AgreesWith ring new
kept_elsewhere ring old new first last kept same apart = record { stored = ap ring_at (same ring_slot apart) ∙ kept.stored }
