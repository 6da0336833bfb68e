-- What is looked up after an entry was written, and that the puts of a ring and of an entry lead to what the records give.
use Rattle.std.proofs.Common.{◌≡◌, ◌≢◌, ℕ, ◌+◌, ◌<◌, Bool, true, false, [], ◌∷◌, ◌++◌, length, set, Option, Some, None, refl, sym, ap, ◌∙◌, subst, arith}
use Rattle.std.specs.Prelude.{if◌then◌else◌, All, is_some, ◌||◌, nat_lt, slice_get, IfSome}
use Rattle.std.specs.Option.{option_map, option_map_or, option_and_then}
use Rattle.std.specs.FinMap.{insert}
use Rattle.std.proofs.lemmas.Bool.{ltb-true}
use Rattle.std.proofs.lemmas.List.Elements.{All-set, All-push}
use Rattle.plc_base.specs.Keeper.{Records}
use Rattle.store_tables.specs.Writes.{puts_of}
use Rattle.store_tables.specs.LeadingPuts.{PutsLead}
use Rattle.store_tables.proofs.LeadingPuts.{leads_one, leads_beside}
use Rattle.store_tables.proofs.LookUps.{entry_set, entry_set_other, entry_push, entry_push_other, place_push}
use Rattle.store_tables.proofs.StoreLemmas.{get-insert_same}
use Rattle.store_tables.proofs.SlotTables.{found, free_new, free_found, IsTable-set, IsTable-push, stored_set, stored_push, place_of-set}
use Rattle.plc_base.specs.declared.address.Eui.{Eui}
use Rattle.group_keys.specs.declared.key_book.BookEntry.{BookEntry}
use Rattle.group_keys.specs.KeyRing as rings
use Rattle.group_keys.specs.KeyBook as books
use Rattle.group_keys.specs.Laws.{IsReadable, IsReadableEntry, IsNoChange, HasEntry, IsBookIn}
use Rattle.group_keys.proofs.Rings.{ring_in-ring_octets}
use Rattle.group_keys.proofs.Books.{entry_in-entry_octets, entry_same, write_same, address_kept}

-- # The ring

ring_reads : (x : rings.Ring) → IfSome x IsReadable → rings.ring_in (rings.ring_octets x) ≡ Some x
ring_reads None h = refl
ring_reads (Some g) h = ring_in-ring_octets g h.grant h.address h.key0 h.key1

pub ring_leads : (before after : rings.Ring) → IfSome after IsReadable → PutsLead rings.AgreesWith before (puts_of (rings.ring_write after)) after
ring_leads before after h = leads_one rings.AgreesWith before after _
    (λ r k. record { stored = ap rings.ring_at (get-insert_same r 1 1 (rings.ring_octets after) refl) ∙ ring_reads after h })

-- # Looking up

pub no_change : (b : books.Book) (e : BookEntry) → books.holds b e ≡ true → IsNoChange b e
no_change b e = by_place (books.place_of b e.eui) refl
  where
    by_entry : (place : ℕ) (o : Option BookEntry) → books.place_of b e.eui ≡ Some place → slice_get b place ≡ o
        → option_map_or (λ before. books.same_entry before e) o false ≡ true → IsNoChange b e
    by_entry place None is got same = absurd (cc)
    by_entry place (Some before) is got same = record { same = entry_same b e before place is got same; write = write_same b e before place is got same }

    by_place : (o : Option ℕ) → books.place_of b e.eui ≡ o → option_map_or (λ before. books.same_entry before e) (option_and_then (slice_get b) o) false ≡ true
        → IsNoChange b e
    by_place None is same = absurd (cc)
    by_place (Some place) is same = by_entry place (slice_get b place) is refl same

pub has_entry : (b : books.Book) (e : BookEntry) → HasEntry b e
has_entry b e = record {
  here = here_by (books.place_of b e.eui) refl;
  address = at_by (books.place_of b e.eui) refl;
  others = λ meter ne. other_by meter ne (books.place_of b e.eui) refl;
  addresses = λ meter address had. address_kept b e meter address had;
}
  where
    here_by : (o : Option ℕ) → books.place_of b e.eui ≡ o → books.entry_for (option_map_or (λ place. set b place e) o (b ++ e ∷ [])) e.eui ≡ Some e
    here_by None is = entry_push books.entries b e is
    here_by (Some place) is = entry_set books.entries b place e is

    at_by : (o : Option ℕ) → books.place_of b e.eui ≡ o
        → books.address_of (option_map_or (λ place. set b place e) o (b ++ e ∷ [])) e.eui ≡ Some (option_map_or (λ place. place) o (length b) + 1)
    at_by None is = ap (option_map (λ place. place + 1)) (place_push books.entries b e is)
    at_by (Some place) is = ap (option_map (λ place. place + 1)) (place_of-set books.entries b e place (books.eui_number e.eui) place is is)

    other_by : (meter : Eui) → books.eui_number meter ≢ books.eui_number e.eui → (o : Option ℕ) → books.place_of b e.eui ≡ o
        → books.entry_for (option_map_or (λ place. set b place e) o (b ++ e ∷ [])) meter ≡ books.entry_for b meter
    other_by meter ne None is = entry_push_other books.entries b (books.eui_number meter) e ne
    other_by meter ne (Some place) is = entry_set_other books.entries b place (books.eui_number meter) e is ne

-- # The book

reads_entry : (place : ℕ) (e : BookEntry) → place < 999 → IsReadableEntry e
    → books.entries.read place (books.entries.octets place e) ≡ Some (books.entries.rest e)
reads_entry place e within h = entry_in-entry_octets place e within h.eui h.psk h.key0 h.key1

-- the book with an entry is what the records with its record give
pub book_with : (b : books.Book) (e : BookEntry) (r : Records) → IsBookIn b r → IsReadableEntry e → books.has_room b e.eui ≡ true
    → IsBookIn (books.with_entry b e) (insert r (0x1000 + books.place_for b e.eui) (books.entry_octets (books.place_for b e.eui) e))
book_with b e r k fits room = by_place (books.place_of b e.eui) refl
  where
    by_place : (o : Option ℕ) → books.place_of b e.eui ≡ o
        → let place = option_map_or (λ p. p) o (length b) in
        IsBookIn (option_map_or (λ p. set b p e) o (b ++ e ∷ [])) (insert r (0x1000 + place) (books.entry_octets place e))
    by_place (Some place) is =
        let there = found books.entries b (books.eui_number e.eui) place e is in
        let short = k.sound.short in
        record {
          sound = IsTable-set books.entries b place e k.sound there.0 (free_found books.entries b (books.eui_number e.eui) place k.sound is);
          each = All-set IsReadableEntry b place e fits k.each;
          kept = stored_set books.entries b r _ place e k.kept there.0 refl (reads_entry place e (omega arith) fits);
        }
    by_place None is =
        let some : nat_lt (length b) 999 ≡ true = subst (λ (o : Option ℕ). (is_some o || nat_lt (length b) 999) ≡ true) is room in
        let less : length b < 999 = ltb-true _ _ some in
        record {
          sound = IsTable-push books.entries b e k.sound less (free_new books.entries b (books.eui_number e.eui) (length b) (ap is_some is));
          each = All-push IsReadableEntry b e k.each fits;
          kept = stored_push books.entries b r _ e k.kept less refl (reads_entry (length b) e less fits);
        }

pub change_leads : (b : books.Book) (e : BookEntry) → IsReadableEntry e → books.has_room b e.eui ≡ true
    → PutsLead IsBookIn b (puts_of (books.change_write b e)) (books.with_entry b e)
change_leads b e fits room = by_holding (books.holds b e) refl
  where
    by_holding : (h : Bool) → books.holds b e ≡ h → PutsLead IsBookIn b (puts_of (if h then None else books.entry_write b e)) (books.with_entry b e)
    by_holding true same = leads_beside IsBookIn b _ (λ r k. subst (λ (x : books.Book). IsBookIn x r) (sym (no_change b e same).same) k)
    by_holding false other = leads_one IsBookIn b _ _ (λ r k. book_with b e r k fits room)
