-- What an answer of a node says of its plan.
use Rattle.std.proofs.Common.{◌≡◌, ⊎_elim, ℕ, ◌+◌, ◌≤◌, ◌<◌, Bool, true, false, [], ◌∷◌, ◌++◌, length, set, Option, Some, None, Result, Ok, Err, refl, sym, ap}
use Rattle.std.proofs.Common.{◌∙◌, subst, arith}
use Rattle.std.specs.Prelude.{if◌then◌else◌, IfSome, is_some, ◌||◌, nat_lt}
use Rattle.std.specs.Option.{option_map, option_map_or, option_and_then}
use Rattle.std.proofs.lemmas.Bool.{ltb-true}
use Rattle.std.proofs.lemmas.Option.{same_Some}
use Rattle.std.proofs.lemmas.List.{length-append, length-set}
use Rattle.store_tables.proofs.SlotTables.{found}
use Rattle.plc_base.specs.declared.address.Eui.{Eui}
use Rattle.plc_base.specs.declared.key.Key.{Key}
use Rattle.plc_base.specs.Grant.{Granted}
use Rattle.group_keys.specs.declared.key_book.BookEntry.{BookEntry}
use Rattle.group_keys.specs.KeyRing as ring
use Rattle.group_keys.specs.KeyBook as book
use Rattle.node_rules.specs.Memory.{Memory, Node}
use Rattle.node_rules.specs.Plans.{Plan, carry_out, resting}
use Rattle.node_rules.specs.Laws.{IsWhole, IsCutOff}
use Rattle.node_rules.specs.NodeSteps.{acts, stays, left_by}
use Rattle.node_rules.specs.Drafts.{Draft, empty_draft, choose, sealing, refused}
use Rattle.node_rules.specs.MemoryDrafts.{in_memory, with_memory_by}
use Rattle.node_rules.specs.declared.refusal.CoordinatorRefusal.{CoordinatorRefusal}
use Rattle.node_rules.specs.declared.refusal.CoordinatorRefusal.TheVariants as refusal
use Rattle.node_rules.specs.Coordinators.{with_book_entry, changed, changes, without_session, grant_for, depot, depot_by, orders}
use Rattle.node_rules.proofs.FailedWrites.{clean}
use Rattle.line_laws.specs.Stores.{IsReadable}
use Rattle.line_laws.proofs.NodeCalls.{no_some}

-- A plan whose good answer a node gave.
pub record Answered {A E : Type 0} (x : Node) (plan : Memory → Plan Memory (Result A E)) (g : A) : Type 0 where
  pub memory : Memory
  pub there : x.memory ≡ Some memory
  pub is : (plan memory).answer ≡ Ok g

-- a good answer is that of the plan
pub acts_answered : {A E : Type 0} (x : Node) (reason store : E) (plan : Memory → Plan Memory (Result A E)) → ((m : Memory) → (plan m).failed ≡ Err store)
    → (g : A) → (acts x (Err reason) plan).answer ≡ Ok g → Answered x plan g
unfolding acts
acts_answered {A = A} {E = E} x reason store plan failed g = by_memory x.memory refl
  where
    by_outcome : (m : Memory) → x.memory ≡ Some m → (carry_out x.store.records x.store.cut (plan m)).answer ≡ Ok g → Answered x plan g
    by_outcome m there e = ⊎_elim
        (λ (w : IsWhole x.store.records x.store.cut (plan m) (carry_out x.store.records x.store.cut (plan m))).
        record { memory = m; there = there; is = sym w.answer ∙ e })
        (λ (c : IsCutOff x.store.records x.store.cut (plan m) (carry_out x.store.records x.store.cut (plan m))). absurd
        (not_ok store g (sym (failed m) ∙ sym c.answer ∙ e)))
        (clean x.store.records x.store.cut (plan m))
      where
        not_ok : (s : E) (a : A) → Err s ≡ Ok a → ⊥
        not_ok s a e = cc

    by_memory : (o : Option Memory) → x.memory ≡ o
        → (option_map_or (λ m. left_by x (carry_out x.store.records x.store.cut (plan m))) o (stays x (Err reason))).answer ≡ Ok g → Answered x plan g
    by_memory None there e = absurd (cc)
    by_memory (Some m) there e = by_outcome m there e

-- # Addresses of the book

pub booked_low : (b : book.Book) (eui : Eui) (a : ℕ) → length b ≤ 999 → book.address_of b eui ≡ Some a → a < 0xFFFE
booked_low b eui a short = by_place (book.place_of b eui) refl
  where
    by_place : (o : Option ℕ) → book.place_of b eui ≡ o → option_map (λ p. p + 1) o ≡ Some a → a < 0xFFFE
    by_place None is e = absurd (no_some _ e)
    by_place (Some place) is e =
        let same : place + 1 ≡ a = same_Some _ _ e in
        let there : place < length b = (found book.entries b (book.eui_number eui) place
        (record { eui = eui; psk = record { 0 = [] }; allowed = false; issued0 = None; issued1 = None }) is).0 in
        omega arith

-- # The grant of the workshop

with_short : (b : book.Book) (e : BookEntry) → length b ≤ 999 → book.has_room b e.eui ≡ true → length (book.with_entry b e) ≤ 999
with_short b e short room = by_place (book.place_of b e.eui) room
  where
    by_place : (o : Option ℕ) → (is_some o || nat_lt (length b) 999) ≡ true → length (option_map_or (λ p. set b p e) o (b ++ e ∷ [])) ≤ 999
    by_place (Some p) r = let same = length-set b p e in omega arith
    by_place None r = let less : length b < 999 = ltb-true _ _ r in let longer = length-append b (e ∷ []) in omega arith

pub granted_readable : (r : ring.Ring) (b : book.Book) (eui : Eui) (g : Granted) → IfSome r IsReadable → length b ≤ 999
    → option_and_then (λ address. option_map (λ (x : Granted). record x { address = address }) r) (book.address_of b eui) ≡ Some g → IsReadable g
granted_readable r b eui g h short = by_place (book.place_of b eui) refl r h
  where
    by_place : (o : Option ℕ) → book.place_of b eui ≡ o → (r : ring.Ring) → IfSome r IsReadable
        → option_and_then (λ address. option_map (λ (x : Granted). record x { address = address }) r) (option_map (λ p. p + 1) o) ≡ Some g → IsReadable g
    by_place None is r h e = absurd (no_some _ e)
    by_place (Some place) is None h e = absurd (no_some _ e)
    by_place (Some place) is (Some x) h e =
        let same : record x { address = place + 1 } ≡ g = same_Some _ _ e in
        let there : place < length b = (found book.entries b (book.eui_number eui) place
        (record { eui = eui; psk = record { 0 = [] }; allowed = false; issued0 = None; issued1 = None }) is).0 in
        subst IsReadable same (record { grant = record { index = h.grant.index; held = h.grant.held }; address = omega arith; key0 = h.key0; key1 = h.key1 })

err_not_ok : {A E : Type 0} (x : E) (a : A) → Err x ≡ Ok a → ⊥
err_not_ok x a e = cc

refused_not : (m : Memory) (x : CoordinatorRefusal) (g : Granted) → (refused {H = Granted} orders m x).answer ≡ Ok g → ⊥
unfolding resting
refused_not m x g e = err_not_ok x g e

module _ (m : Memory) (eui : Eui) (psk : Key) (g : Granted) (readable : IfSome m.station.ring IsReadable) (short : length m.book ≤ 999) where
  entry : BookEntry
  entry = book.allowed_entry eui psk (book.entry_for m.book eui)

  entry_eui : (o : Option BookEntry) → (book.allowed_entry eui psk o).eui ≡ eui
  entry_eui None = refl
  entry_eui (Some e) = refl

  -- the ring and the size of the book after the meter was allowed
  changed_station : book.has_room m.book eui ≡ true → ((changed m entry).memory.station.ring ≡ m.station.ring) × (length (changed m entry).memory.book ≤ 999)
  unfolding empty_draft with_memory_by with_book_entry entry
  changed_station room = by_change (changes m entry)
    where
      fits : book.has_room m.book entry.eui ≡ true
      fits = ap (book.has_room m.book) (entry_eui (book.entry_for m.book eui)) ∙ room

      by_change : (b : Bool) → let d : Draft Memory = (if b then with_memory_by (without_session entry.eui) (with_book_entry entry (empty_draft m))
          else empty_draft m) in (d.memory.station.ring ≡ m.station.ring) × (length d.memory.book ≤ 999)
      by_change true = (refl, with_short m.book entry short fits)
      by_change false = (refl, short)

  by_answer : (d : Draft Memory) → d.memory.station.ring ≡ m.station.ring → length d.memory.book ≤ 999 → (depot_by m eui psk d).answer ≡ Ok g → IsReadable g
  by_answer d same few = by_grant (grant_for d.memory eui) refl
    where
      by_entry : (granted : Granted) (o : Option BookEntry) → grant_for d.memory eui ≡ Some granted
          → (option_map_or (λ e. sealing in_memory orders (with_book_entry (book.issued_entry eui granted e) d) granted) o
          (refused orders m refusal.MetersFull)).answer ≡ Ok g → IsReadable g
      by_entry granted None is e = absurd (refused_not m _ g e)
      by_entry granted (Some x) is e =
          let this : granted ≡ g = cc in subst IsReadable this (granted_readable d.memory.station.ring d.memory.book eui granted (rw same readable) few is)

      by_grant : (o : Option Granted) → grant_for d.memory eui ≡ o
          → (option_map_or (λ granted. option_map_or (λ e. sealing in_memory orders (with_book_entry (book.issued_entry eui granted e) d) granted)
          (book.allowed_one d.memory.book eui) (refused orders m refusal.MetersFull)) o (refused orders m refusal.MetersFull)).answer ≡ Ok g → IsReadable g
      by_grant None is e = absurd (refused_not m _ g e)
      by_grant (Some granted) is e = by_entry granted (book.allowed_one d.memory.book eui) is e

  pub depot_grants : (depot m eui psk).answer ≡ Ok g → IsReadable g
  unfolding choose entry
  depot_grants = by_room (book.has_room m.book eui) refl
    where
      by_room : (b : Bool) → book.has_room m.book eui ≡ b
          → (if b then depot_by m eui psk (changed m entry) else refused orders m refusal.MetersFull).answer ≡ Ok g → IsReadable g
      by_room true room e = let station = changed_station room in by_answer (changed m entry) station.0 station.1 e
      by_room false room e = absurd (refused_not m _ g e)
