-- Two banks: the live one and the spare one, and what an opening may find in them.
use Rattle.std.specs.Prelude.{◌≡◌, ◌<◌, ◌⊎◌, ◌==◌, ◌&&◌, ℕ, Bool, true, false, List, Option, Some, None, refl}
use Rattle.std.specs.Bool.{OnFalse}
use Rattle.std.specs.Coded.{Coded, code_by, coded×, coded_ℕ, coded_bool, coded_list}
use Rattle.std.specs.FinMap.{code, insert, len}
use Rattle.plc_base.specs.Keeper.{Records, Store, store_code}
use Rattle.flash_keeper.specs.Flash.{Bank, erased, head_word}
use Rattle.flash_keeper.specs.Front.{front_in, front_records, HasFront}
use Rattle.flash_keeper.specs.Log.{Choice, IsOneOf, IsSettled, IsLeft, IsBlankFrom, HasDecayed, place, room, upto, upto_fence, is_erased}
use Rattle.flash_keeper.specs.Wear.{AreWorn}
use Rattle.flash_keeper.specs.declared.front.Front.{Front}
use Rattle.flash_keeper.specs.declared.keeper.OpenFault.{OpenFault}

-- A bank whose head is whole but for its mark.
pub record IsHeaded (bank : Bank) (generation : ℕ) : Type 0 where
  pub firm : bank.torn ≡ false
  pub head : bank.words 0 ≡ Some head_word
  pub number : bank.words 1 ≡ Some generation

-- A bank that counts.
abbrev pub IsLive : Bank → ℕ → Type 0
IsLive bank generation = IsHeaded bank generation × (bank.words 2 ≡ Some 0)

-- A bank that no reading takes for a live one: its head is 0, also where an erase of it was cut short since, or its mark was not begun.
abbrev pub IsDead : Bank → Type 0
IsDead bank = (bank.words 0 ≡ Some 0) ⊎ ((bank.torn ≡ false) × (bank.words 2 ≡ Some erased))

-- A bank that has its generation, which is never 0. 0 there is a note, made after the bank was retired: neither head has to be programmed again.
pub record IsNumbered (bank : Bank) : Type 0 where
  pub firm : bank.torn ≡ false
  pub generation : ℕ
  pub number : bank.words 1 ≡ Some generation
  pub more : 0 < generation

-- A bank whose log stands for the records of a choice, whatever its head reads as.
abbrev pub IsStanding : Bank → Choice → Type 0
IsStanding bank choice = IsNumbered bank × (front : Front) × (n : ℕ) × IsLeft front bank n choice

-- Beside a live bank: a bank that no reading takes for one, with its generation, or the mark of the live one is firm; or one that stands for
-- the same records.
abbrev pub IsBeside : Bank → Bank → Choice → Type 0
IsBeside live spare choice = (IsDead spare × (IsNumbered spare ⊎ (live.words 2 ≡ Some 0))) ⊎ IsStanding spare choice

-- What may be left of two banks at any moment: the log of the live one stands for the records of the choice, and so does that of the spare
-- one, unless no reading takes that for a live one. Nothing is put before one of them is firmly dead: so whichever a reading shows as live is right.
pub record AreLeft (front : Front) (live spare : Bank) (n : ℕ) (choice : Choice) : Type 0 where
  pub number : IsNumbered live
  pub log : IsLeft front live n choice
  pub beside : IsBeside live spare choice

-- two banks, in either order, that an opening makes one of these records of
abbrev pub IsStore : Bank → Bank → Choice → Type 0
IsStore first second choice =
    ((front : Front) × (n : ℕ) × AreLeft front first second n choice) ⊎ ((front : Front) × (n : ℕ) × AreLeft front second first n choice)

-- Nothing is open: the mark and the log of the live bank are firm, and no reading takes the spare one for a live one.
pub record AreReady (front : Front) (live spare : Bank) (n : ℕ) : Type 0 where
  pub sizes : live.size ≡ spare.size
  pub number : IsNumbered live
  pub mark : live.words 2 ≡ Some 0
  pub log : IsSettled front live n
  pub beside : IsDead spare

-- What a reading of the head of a bank answers: the generation of a live one.
pub record IsSeen (bank : Bank) (seen : Option ℕ) : Type 0 where
  pub live : (generation : ℕ) → IsLive bank generation → seen ≡ Some generation
  pub dead : IsDead bank → seen ≡ None

-- A store of which bits have changed by themselves: a live bank that has decayed, beside one that no reading takes for a live one.
pub record IsDecayed (live spare : Bank) : Type 0 where
  pub generation : ℕ
  pub live_is : IsLive live generation
  pub spare_is : IsDead spare
  pub decayed : HasDecayed live

-- two banks, in either order, that an opening may be given: a store, or one of which bits have changed by themselves
abbrev pub MayOpen : Bank → Bank → Type 0
MayOpen first second = ((c : Choice) × IsStore first second c) ⊎ IsDecayed first second ⊎ IsDecayed second first

-- Why banks were not opened: a program or an erase failed; neither is firmly a live one; they have different sizes; they are not a store as it
-- was written, whatever records it may have stood for.
abbrev pub IsCause : OpenFault → Bank → Bank → Type 0
IsCause OpenFault.Flash first second = first.size ≡ second.size
IsCause OpenFault.NoStore first second = (first.size ≡ second.size) × ((generation : ℕ) → (IsLive first generation ⊎ IsLive second generation) → ⊥)
IsCause OpenFault.Sizes first second = first.size ≡ second.size → ⊥
IsCause OpenFault.Small first second = ⊥
IsCause OpenFault.Decayed first second = (first.size ≡ second.size) × ((choice : Choice) → IsStore first second choice → ⊥)

-- whether nothing but the records is in two banks: they are the front of the live one, no cell was written, and each word of the spare one is erased
abbrev pub are_purged : Bank → ℕ → Bool
are_purged spare n = (n == 0) && is_erased spare

-- Two banks in which nothing but these records is left: the front of the live one has each of them once, and no word behind its first cell, which
-- a put that failed may have begun, was programmed; the spare one is erased.
pub record ArePurged (live spare : Bank) (records : Records) : Type 0 where
  pub front : Front
  pub has_front : HasFront live front
  pub all : front_records live.words front.count ≡ records
  pub each : len records ≡ front.count
  pub cells : IsBlankFrom live.words (place front 1)
  pub firm : spare.torn ≡ false
  pub blank : (i : ℕ) → i < spare.size → spare.words i ≡ Some erased

-- whether a bank has no room for a cell beside its records, where each takes as few words as it can
abbrev pub are_full : Front → Bank → ℕ → Bool
are_full front live n = (n == 0) && (room front live.size == 0)

-- two banks of which no word was programmed so much oftener than in a life in which nothing fails, whichever of them an opening takes for the live one
abbrev pub AreWornBoth : Front → ℕ → Bank → Bank → Type 0
AreWornBoth front more live spare = AreWorn front more live spare × (IsDead spare ⊎ AreWorn (front_in spare) more spare live)

-- What a keeper over flash holds, what an opening of its banks may find in place of its records, and whether nothing but its records is in them.
-- Then why a put may fail: a program or an erase of one of its banks has failed, or a bank has no room for one record more. Then how much oftener a word
-- of its banks was programmed than in a life in which nothing fails, and whether no cell of its log is left.
pub record FlashStore : Type 0 where
  pub store : Store
  pub left : Records
  pub purged : Bool
  pub has_failed : Bool
  pub full : Bool
  pub worn : ℕ
  pub used_up : Bool

abbrev pub flash_store_code : Coded FlashStore
flash_store_code =
    code_by (Store × (Records × (Bool × (Bool × (Bool × (ℕ × Bool))))))
    (coded× store_code (coded× (code coded_ℕ (coded_list coded_ℕ)) (coded× coded_bool (coded× coded_bool (coded× coded_bool (coded× coded_ℕ coded_bool))))))
    (λ s. (s.store, (s.left, (s.purged, (s.has_failed, (s.full, (s.worn, s.used_up)))))))
    (λ p. record {
      store = p.0;
      left = p.1.0;
      purged = p.1.1.0;
      has_failed = p.1.1.1.0;
      full = p.1.1.1.1.0;
      worn = p.1.1.1.1.1.0;
      used_up = p.1.1.1.1.1.1;
    }) (λ _. refl)

-- what a keeper is to the node over it: what an opening may find is pending
abbrev pub kept_store : FlashStore → Store
kept_store keeper = record keeper.store { pending = Some keeper.left }

-- A cause for which a put or a purge fails: a program or an erase failed, or there is no room.
abbrev pub HasCause : FlashStore → Type 0
HasCause keeper = (keeper.has_failed ≡ true) ⊎ (keeper.full ≡ true)

-- what a keeper holds that was opened: one of these records, and no other opening will find others
pub record IsOpened (choice : Choice) (keeper : FlashStore) : Type 0 where
  pub one : IsOneOf choice keeper.store.records
  pub left : keeper.left ≡ keeper.store.records
  pub faults : keeper.store.faults ≡ 0
  pub known_cut : keeper.store.known_cut ≡ None

-- what an opening may find after a put: the record, where it was done; where it failed, what an opening might have found before it, or that
-- with this record
abbrev pub IsLeftBy : FlashStore → ℕ → List ℕ → Bool → FlashStore → Type 0
IsLeftBy old slot octets true new = new.left ≡ insert old.store.records slot octets
IsLeftBy old slot octets false new = (new.left ≡ old.left) ⊎ (new.left ≡ old.store.records) ⊎ (new.left ≡ insert old.store.records slot octets)

-- the records that the first n cells of a live bank stand for, and those with one cell more if its fence was begun
abbrev pub choice_of : Front → Bank → ℕ → Choice
choice_of front bank n = record { old = upto front bank.words n; new = upto_fence front bank.words n }

-- The spare bank is a whole copy of what the live one stands for, with this front and no cell.
pub record IsCopy (front : Front) (live spare : Bank) (n : ℕ) (copy_front : Front) : Type 0 where
  pub number : IsNumbered spare
  pub mark : spare.words 2 ≡ Some 0
  pub log : IsSettled copy_front spare 0
  pub stands : IsOneOf (choice_of front live n) (upto copy_front spare.words 0)

-- What is known of two banks at any moment: what is left of them, and that the spare one is a whole copy where one was made, and the live one not
-- retired then.
pub record AreHeld (front : Front) (live spare : Bank) (n : ℕ) (copied : Option Front) : Type 0 where
  pub sizes : live.size ≡ spare.size
  pub left : AreLeft front live spare n (choice_of front live n)
  pub copy_is : (copy_front : Front) → copied ≡ Some copy_front → IsCopy front live spare n copy_front

-- What holds of a keeper: its banks are held so; nothing is open where it has not failed, and where it has, its flash did, or there was no room.
pub record IsKept (front : Front) (live spare : Bank) (n : ℕ) (copied : Option Front) (failed has_failed : Bool) : Type 0 where
  pub held : AreHeld front live spare n copied
  pub ready : OnFalse failed (AreReady front live spare n × (copied ≡ None))
  pub cause : failed ≡ true → (has_failed ≡ true) ⊎ (are_full front live n ≡ true)

-- the records that a log stands for are among these, also with the cell after it
abbrev pub AreAmong : Choice → Front → Bank → ℕ → Type 0
AreAmong choice front bank n = IsOneOf choice (upto front bank.words n) × IsOneOf choice (upto_fence front bank.words n)

-- what a reopening left: one of what an opening might have found before, as an opening may find now
pub record IsLeftOpen (old new : FlashStore) : Type 0 where
  pub records : IsOneOf (record { old = old.store.records; new = old.left }) new.store.records
  pub left : IsOneOf (record { old = old.store.records; new = old.left }) new.left
