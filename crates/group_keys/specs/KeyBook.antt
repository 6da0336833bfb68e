-- The coordinator's book: one entry for each meter, the k-th with the address k.
use Rattle.std.specs.Prelude.{◌≡◌, ℕ, ◌+◌, ◌==◌, ◌&&◌, ◌||◌, nat_lt, Bool, true, false, nat_eq, if◌then◌else◌, List, [], ◌∷◌, ◌++◌, length, take, drop, set}
use Rattle.std.specs.Prelude.{slice_index, Option, Some, None, is_some, Result, Ok, Err, refl}
use Rattle.std.specs.Option.{option_map, option_map_or, option_eq}
use Rattle.std.specs.Cmp.Lexicographic.{pointwise}
use mathlib.Core.Bool.{beq}
use Rattle.std.specs.Coded.{Coded, code_by, coded×, coded_ℕ, coded_bool, coded_list, coded_option}
use Rattle.byteorder.specs.Endian.{big_number, big_bytes}
use Rattle.plc_base.specs.Keeper.{Records, Write}
use Rattle.store_tables.specs.SlotTables as slots
use Rattle.plc_base.specs.Grant.{Granted, key_code}
pub use Rattle.plc_base.specs.Addresses.{eui_number}
use Rattle.plc_base.specs.declared.address.Eui.{Eui}
use Rattle.plc_base.specs.declared.key.Key.{Key}
use Rattle.group_keys.specs.Fields.{key_in, held_in, held_octets, flag_in, flag_octet}
use Rattle.group_keys.specs.declared.key_book.BookEntry.{BookEntry}
use Rattle.group_keys.specs.declared.fault.BookFault.{BookFault}
use Rattle.group_keys.specs.declared.fault.BookFault.TheVariants.{MetersFull, NotAllowed, Store}

-- the entries in the order of their slots
abbrev pub Book : Type 0
Book = List BookEntry

-- a book is kept as the list of its entries' fields
abbrev pub book_code : Coded Book
book_code =
    coded_list (code_by (List ℕ × (Key × (Bool × (Option Key × Option Key))))
    (coded× (coded_list coded_ℕ)
    (coded× key_code (coded× coded_bool (coded× (coded_option key_code) (coded_option key_code)))))
    (λ e. (e.eui.0, (e.psk, (e.allowed, (e.issued0, e.issued1)))))
    (λ t. record { eui = record { 0 = t.0 }; psk = t.1.0; allowed = t.1.1.0; issued0 = t.1.1.1.0; issued1 = t.1.1.1.1 })
    (λ _. refl))

-- # The record: EUI, pair key, address, whether it is allowed, and the two keys that may be issued

abbrev pub entry_of : List ℕ → List ℕ → Option Bool → Option (Option Key) → Option (Option Key) → Option BookEntry
entry_of eui psk allowed issued0 issued1 =
    option_map_or (λ a. option_map_or (λ k0. option_map_or (λ k1.
    Some (record { eui = record { 0 = eui }; psk = key_in psk; allowed = a; issued0 = k0; issued1 = k1 }))
    issued1 None) issued0 None) allowed None

-- what stands after the pair key: an address, which is one more than the place, the flag and the keys
abbrev pub entry_behind : ℕ → List ℕ → List ℕ → List ℕ → Option BookEntry
entry_behind place eui psk octets =
    if big_number 2 octets == place + 1
    then entry_of eui psk (flag_in (slice_index octets 2))
    (held_in (take 17 (drop 3 octets))) (held_in (drop 17 (drop 3 octets)))
    else None

-- the entry that the record at a place gives, if it has a reading
abbrev pub entry_in : ℕ → List ℕ → Option BookEntry
entry_in place octets =
    if length octets == 61
    then entry_behind place (take 8 octets) (take 16 (drop 8 octets)) (drop 16 (drop 8 octets))
    else None

abbrev pub entry_octets : ℕ → BookEntry → List ℕ
entry_octets place e =
    e.eui.0
    ++ (e.psk.0
    ++ (big_bytes 2 (place + 1) ++ (flag_octet e.allowed ∷ (held_octets e.issued0 ++ held_octets e.issued1))))

-- how the entries are stored
abbrev pub entries : slots.Layout BookEntry
entries = record {
  first = 0x1000;
  slots = 999;
  read = entry_in;
  octets = entry_octets;
  storable = λ _. true;
  rest = λ e. e;
  key = λ e. eui_number e.eui;
}

-- What the book holds is what the records give, and no record stands after them.
abbrev pub AgreesWith : Book → Records → Type 0
AgreesWith book records = slots.IsStored entries book records

-- # Looking up

-- the place of a meter in the book
abbrev pub place_of : Book → Eui → Option ℕ
place_of book eui = slots.place_of entries book (eui_number eui)

-- the entry of a meter
abbrev pub entry_for : Book → Eui → Option BookEntry
entry_for book eui = slots.entry_of entries book (eui_number eui)

-- the address of a meter: the k-th entry has the address k
abbrev pub address_of : Book → Eui → Option ℕ
address_of book eui = option_map (λ place. place + 1) (place_of book eui)

-- whether a meter is allowed
abbrev pub is_allowed : Book → Eui → Bool
is_allowed book eui = option_map_or (λ e. e.allowed) (entry_for book eui) false

-- the key that was issued at an index
abbrev pub issued_at : BookEntry → ℕ → Option Key
issued_at e index = if index == 0 then e.issued0 else e.issued1

-- # One entry written

-- whether two keys are the same
abbrev pub same_key : Key → Key → Bool
same_key a b = pointwise nat_eq a.0 b.0

-- the place at which an entry stands, or would stand
abbrev pub place_for : Book → Eui → ℕ
place_for book eui = option_map_or (λ place. place) (place_of book eui) (length book)

-- the book with an entry in the place of its meter's, or after the others
abbrev pub with_entry : Book → BookEntry → Book
with_entry book entry = option_map_or (λ place. set book place entry) (place_of book entry.eui) (book ++ entry ∷ [])

-- the put of an entry
abbrev pub entry_write : Book → BookEntry → Option Write
entry_write book entry = Some (slots.entry_write entries (place_for book entry.eui) entry)

-- whether two entries are the same
abbrev pub same_entry : BookEntry → BookEntry → Bool
same_entry a b =
    pointwise nat_eq a.eui.0 b.eui.0
    && (same_key a.psk b.psk
    && (beq a.allowed b.allowed
    && (option_eq same_key a.issued0 b.issued0 && option_eq same_key a.issued1 b.issued1)))

-- whether the book has this very entry
abbrev pub holds : Book → BookEntry → Bool
holds book entry = option_map_or (λ before. same_entry before entry) (entry_for book entry.eui) false

-- the put of an entry, none where the book has this very entry
abbrev pub change_write : Book → BookEntry → Option Write
change_write book entry = if holds book entry then None else entry_write book entry

-- whether there is a place for the entry of a meter
abbrev pub has_room : Book → Eui → Bool
has_room book eui = is_some (place_of book eui) || nat_lt (length book) 999

-- # The calls

-- a meter that is allowed: one that is known keeps the keys that were issued to it
abbrev pub allowed_entry : Eui → Key → Option BookEntry → BookEntry
allowed_entry eui psk None = record { eui = eui; psk = psk; allowed = true; issued0 = None; issued1 = None }
allowed_entry eui psk (Some e) =
    record { eui = eui; psk = psk; allowed = true; issued0 = e.issued0; issued1 = e.issued1 }

-- a meter that was kicked
abbrev pub kicked_entry : Eui → BookEntry → BookEntry
kicked_entry eui e = record { eui = eui; psk = e.psk; allowed = false; issued0 = None; issued1 = None }

-- a meter to which the keys of a grant were issued
abbrev pub issued_entry : Eui → Granted → BookEntry → BookEntry
issued_entry eui granted e =
    record { eui = eui; psk = e.psk; allowed = e.allowed; issued0 = granted.key0; issued1 = granted.key1 }

-- the entry of a meter that is allowed
abbrev pub allowed_one : Book → Eui → Option BookEntry
allowed_one book eui = option_map_or (λ e. if e.allowed then Some e else None) (entry_for book eui) None

-- what a call is to make of the book: a fault, or the entry that it is to have
abbrev pub allow_change : Book → Eui → Key → Result BookEntry BookFault
allow_change book eui psk =
    if has_room book eui then Ok (allowed_entry eui psk (entry_for book eui)) else Err MetersFull

abbrev pub kick_change : Book → Eui → Result BookEntry BookFault
kick_change book eui = option_map_or (λ e. Ok (kicked_entry eui e)) (allowed_one book eui) (Err NotAllowed)

abbrev pub issue_change : Book → Eui → Granted → Result BookEntry BookFault
issue_change book eui granted =
    option_map_or (λ e. Ok (issued_entry eui granted e)) (allowed_one book eui) (Err NotAllowed)

-- and then which put it makes, what the book is afterwards, and the address that it answers; done says that no put failed
abbrev pub changing_write : Book → Result BookEntry BookFault → Option Write
changing_write book (Ok entry) = change_write book entry
changing_write book (Err fault) = None

abbrev pub changing_after : Book → Result BookEntry BookFault → Bool → Book
changing_after book (Ok entry) done = if done then with_entry book entry else book
changing_after book (Err fault) done = book

abbrev pub changing_result : Book → Result BookEntry BookFault → Bool → Result ℕ BookFault
changing_result book (Ok entry) done = if done then Ok (place_for book entry.eui + 1) else Err Store
changing_result book (Err fault) done = Err fault

-- The calls `allow`, `kick` and `issue`: the put, the book afterwards, and the answer.

abbrev pub allow_write : Book → Eui → Key → Option Write
allow_write book eui psk = changing_write book (allow_change book eui psk)

abbrev pub allow_after : Book → Eui → Key → Bool → Book
allow_after book eui psk done = changing_after book (allow_change book eui psk) done

abbrev pub allow_result : Book → Eui → Key → Bool → Result ℕ BookFault
allow_result book eui psk done = changing_result book (allow_change book eui psk) done

abbrev pub kick_write : Book → Eui → Option Write
kick_write book eui = changing_write book (kick_change book eui)

abbrev pub kick_after : Book → Eui → Bool → Book
kick_after book eui done = changing_after book (kick_change book eui) done

abbrev pub kick_result : Book → Eui → Bool → Result ℕ BookFault
kick_result book eui done = changing_result book (kick_change book eui) done

abbrev pub issue_write : Book → Eui → Granted → Option Write
issue_write book eui granted = changing_write book (issue_change book eui granted)

abbrev pub issue_after : Book → Eui → Granted → Bool → Book
issue_after book eui granted done = changing_after book (issue_change book eui granted) done

-- the same answer without the address
abbrev pub done_result : Result ℕ BookFault → Result (Unit {0}) BookFault
done_result (Ok address) = Ok tt
done_result (Err fault) = Err fault

abbrev pub issue_result : Book → Eui → Granted → Bool → Result (Unit {0}) BookFault
issue_result book eui granted done = done_result (changing_result book (issue_change book eui granted) done)

-- each meter that has an address keeps it
abbrev pub AddressesStay : Book → Book → Type 0
AddressesStay old new =
    (meter : Eui) (address : ℕ) → address_of old meter ≡ Some address → address_of new meter ≡ Some address

-- whether no put of a call failed
abbrev pub is_stored : {A : Type 0} → Result A BookFault → Bool
is_stored (Ok a) = true
is_stored (Err MetersFull) = true
is_stored (Err NotAllowed) = true
is_stored (Err Store) = false
