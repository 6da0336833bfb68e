-- A record of an entry is read back, and what a change of an entry puts and leaves.
use Rattle.std.proofs.Common.{◌≡◌, ℕ, ◌+◌, ◌^◌, ◌<◌, Bool, true, false, cond, List, [], ◌∷◌, ◌++◌, length, take, drop, set, zero, suc, Option, Some, None}
use Rattle.std.proofs.Common.{refl, ap, ◌∙◌, arith, length-append}
use Rattle.std.specs.Prelude.{◌==◌, ◌&&◌, nat_eq, slice_get}
use Rattle.std.specs.Cmp.Lexicographic.{pointwise}
use mathlib.Core.Bool.{beq}
use lib.Pointwise.{bytes_decides}
use Rattle.plc_base.specs.declared.address.Eui.{Eui}
use Rattle.store_tables.specs.SlotTables as slots
use Rattle.std.specs.Option.{option_map, option_map_or, option_eq}
use Rattle.store_tables.proofs.SlotTables.{place_of-set, place_of-push}
use Rattle.std.proofs.lemmas.Bool.Decides.{nat_tests}
use Rattle.byteorder.specs.Endian.{big_number, big_bytes}
use Rattle.byteorder.specs.Numbers.{big_number-reads_back}
use Rattle.plc_base.specs.declared.key.Key.{Key}
use Rattle.group_keys.specs.Fields.{held_in, held_octets, flag_in, flag_octet}
use Rattle.group_keys.specs.declared.key_book.BookEntry.{BookEntry}
use Rattle.group_keys.specs.KeyBook.{Book, entries, entry_in, entry_of, entry_behind, entry_octets, eui_number, place_of, address_of}
use Rattle.group_keys.specs.KeyBook.{same_entry, same_key, change_write, with_entry}
use Rattle.group_keys.proofs.Rings.{take_front, drop_front, held_in-held_octets}

flag_in-flag_octet : (b : Bool) → flag_in (flag_octet b) ≡ Some b
flag_in-flag_octet true = refl
flag_in-flag_octet false = refl

-- what stands after the pair key
abbrev tail_of : ℕ → BookEntry → List ℕ
tail_of place e = big_bytes 2 (place + 1) ++ (flag_octet e.allowed ∷ (held_octets e.issued0 ++ held_octets e.issued1))

entry_behind-tail_of : (place : ℕ) (e : BookEntry) → place + 1 < 2 ^ 16 → length (held_octets e.issued0) ≡ 17
    → entry_behind place e.eui.0 e.psk.0 (tail_of place e) ≡ Some e
entry_behind-tail_of place e fits e0 =
    let address : big_number 2 (tail_of place e)
    ≡ place + 1 = big_number-reads_back 2 (place + 1) (flag_octet e.allowed ∷ (held_octets e.issued0 ++ held_octets e.issued1)) (omega arith) in
    let here : (big_number 2 (tail_of place e) == place + 1) ≡ true = grind (arith, nat_tests) in
    let first : held_in (take 17 (held_octets e.issued0 ++ held_octets e.issued1))
    ≡ Some e.issued0 = ap held_in (take_front 17 (held_octets e.issued0) (held_octets e.issued1) e0) ∙ held_in-held_octets e.issued0 in
    let last : held_in (drop 17 (held_octets e.issued0 ++ held_octets e.issued1))
    ≡ Some e.issued1 = ap held_in (drop_front 17 (held_octets e.issued0) (held_octets e.issued1) e0) ∙ held_in-held_octets e.issued1 in
    ap (λ (b : Bool). cond b (entry_of e.eui.0 e.psk.0 (flag_in (flag_octet e.allowed)) (held_in (take 17 (held_octets e.issued0 ++ held_octets e.issued1)))
    (held_in (drop 17 (held_octets e.issued0 ++ held_octets e.issued1)))) None) here
    ∙ ap (λ k. entry_of e.eui.0 e.psk.0 (flag_in (flag_octet e.allowed)) k (held_in (drop 17 (held_octets e.issued0 ++ held_octets e.issued1)))) first
    ∙ ap (λ k. entry_of e.eui.0 e.psk.0 (flag_in (flag_octet e.allowed)) (Some e.issued0) k) last
    ∙ ap (λ k. entry_of e.eui.0 e.psk.0 k (Some e.issued0) (Some e.issued1)) (flag_in-flag_octet e.allowed)

pub entry_in-entry_octets : (place : ℕ) (e : BookEntry) → place < 999 → length e.eui.0 ≡ 8 → length e.psk.0 ≡ 16
    → length (held_octets e.issued0) ≡ 17 → length (held_octets e.issued1) ≡ 17 → entry_in place (entry_octets place e) ≡ Some e
entry_in-entry_octets place e within e8 e16 e0 e1 =
    let tail : List ℕ = tail_of place e in
    let tail_long : length (tail_of place e) ≡ 37 = omega (arith, length-append (held_octets e.issued0) (held_octets e.issued1)) in
    let all_long : length (entry_octets place e)
    ≡ 61 = omega (arith, length-append e.eui.0 (e.psk.0 ++ tail_of place e), length-append e.psk.0 (tail_of place e)) in
    let long : (length (entry_octets place e) == 61) ≡ true = grind (arith, nat_tests) in
    let eui : take 8 (entry_octets place e) ≡ e.eui.0 = take_front 8 e.eui.0 (e.psk.0 ++ tail_of place e) e8 in
    let rest : drop 8 (entry_octets place e) ≡ e.psk.0 ++ tail_of place e = drop_front 8 e.eui.0 (e.psk.0 ++ tail_of place e) e8 in
    let psk : take 16 (drop 8 (entry_octets place e)) ≡ e.psk.0 = ap (take 16) rest ∙ take_front 16 e.psk.0 (tail_of place e) e16 in
    let behind : drop 16 (drop 8 (entry_octets place e)) ≡ tail_of place e = ap (drop 16) rest ∙ drop_front 16 e.psk.0 (tail_of place e) e16 in
    ap (λ (b : Bool). cond b (entry_behind place (take 8 (entry_octets place e)) (take 16 (drop 8 (entry_octets place e)))
    (drop 16 (drop 8 (entry_octets place e)))) None) long
    ∙ ap (λ xs. entry_behind place xs (take 16 (drop 8 (entry_octets place e))) (drop 16 (drop 8 (entry_octets place e)))) eui
    ∙ ap (λ xs. entry_behind place e.eui.0 xs (drop 16 (drop 8 (entry_octets place e)))) psk
    ∙ ap (entry_behind place e.eui.0 e.psk.0) behind
    ∙ entry_behind-tail_of place e (omega arith) e0

-- # A change of an entry

both : (a b : Bool) → (a && b) ≡ true → (a ≡ true) × (b ≡ true)
both true true e = (refl, refl)
both true false e = cc
both false b e = cc

same_key_is : (a b : Key) → same_key a b ≡ true → a ≡ b
same_key_is a b e = ap (λ xs. record { 0 = xs }) ((bytes_decides a.0 b.0).0 e)

same_held_is : (a b : Option Key) → option_eq same_key a b ≡ true → a ≡ b
same_held_is None None e = refl
same_held_is None (Some b) e = cc
same_held_is (Some a) None e = cc
same_held_is (Some a) (Some b) e = ap Some (same_key_is a b e)

same_flag_is : (a b : Bool) → beq a b ≡ true → a ≡ b
same_flag_is true true e = refl
same_flag_is true false e = cc
same_flag_is false true e = cc
same_flag_is false false e = refl

abbrev entry_from : List ℕ → Key → Bool → Option Key → Option Key → BookEntry
entry_from eui psk allowed issued0 issued1 = record { eui = record { 0 = eui }; psk = psk; allowed = allowed; issued0 = issued0; issued1 = issued1 }

-- entries that compare as the same are
pub same_entry_is : (a b : BookEntry) → same_entry a b ≡ true → a ≡ b
same_entry_is a b e =
    let p = both (pointwise nat_eq a.eui.0 b.eui.0) _ e in
    let q = both (same_key a.psk b.psk) _ p.1 in
    let r = both (beq a.allowed b.allowed) _ q.1 in
    let s = both (option_eq same_key a.issued0 b.issued0) _ r.1 in
    ap (λ xs. entry_from xs a.psk a.allowed a.issued0 a.issued1) ((bytes_decides a.eui.0 b.eui.0).0 p.0)
    ∙ ap (λ k. entry_from b.eui.0 k a.allowed a.issued0 a.issued1) (same_key_is a.psk b.psk q.0)
    ∙ ap (λ f. entry_from b.eui.0 b.psk f a.issued0 a.issued1) (same_flag_is a.allowed b.allowed r.0)
    ∙ ap (λ k. entry_from b.eui.0 b.psk b.allowed k a.issued1) (same_held_is a.issued0 b.issued0 s.0)
    ∙ ap (λ k. entry_from b.eui.0 b.psk b.allowed b.issued0 k) (same_held_is a.issued1 b.issued1 s.1)

-- what is written where it stands changes nothing
set_same : {A : Type 0} (xs : List A) (place : ℕ) (x : A) → slice_get xs place ≡ Some x → set xs place x ≡ xs
set_same [] place x e = refl
set_same (y ∷ xs) zero x e = cc
set_same (y ∷ xs) (suc place) x e = ap (λ k. y ∷ k) (set_same xs place x e)

pub write_same : (book : Book) (entry before : BookEntry) (place : ℕ) → place_of book entry.eui ≡ Some place → slice_get book place ≡ Some before
    → same_entry before entry ≡ true → change_write book entry ≡ None
write_same book entry before place e got same = rw (e, got, same) refl

pub entry_same : (book : Book) (entry before : BookEntry) (place : ℕ) → place_of book entry.eui ≡ Some place → slice_get book place ≡ Some before
    → same_entry before entry ≡ true → with_entry book entry ≡ book
entry_same book entry before place e got same =
    let is = same_entry_is before entry same in
    let there : slice_get book place ≡ Some entry = got ∙ ap Some is in
    rw e (set_same book place entry there)

-- # Addresses for good

-- a meter that has an address keeps it, whatever entry is written
pub address_kept : (book : Book) (entry : BookEntry) (meter : Eui) (address : ℕ) → address_of book meter ≡ Some address
    → address_of (with_entry book entry) meter ≡ Some address
address_kept book entry meter address e = by_place (place_of book meter) refl e
  where
    stays : (place : ℕ) → place_of book meter ≡ Some place → (o : Option ℕ) → place_of book entry.eui ≡ o
        → slots.place_of entries (option_map_or (λ place. set book place entry) o (book ++ entry ∷ [])) (eui_number meter) ≡ Some place
    stays place there None is = place_of-push entries book entry (eui_number meter) place there
    stays place there (Some at) is = place_of-set entries book entry at (eui_number meter) place is there

    by_place : (o : Option ℕ) → place_of book meter ≡ o → option_map (λ place. place + 1) o ≡ Some address
        → address_of (with_entry book entry) meter ≡ Some address
    by_place None is h = cc
    by_place (Some place) is h = ap (option_map (λ place. place + 1)) (stays place is (place_of book entry.eui) refl) ∙ h
