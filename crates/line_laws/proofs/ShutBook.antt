-- A book in which a meter is not allowed: only an entry of that meter that is allowed ends it, and a kick begins it.
use Rattle.std.proofs.Common.{◌≡◌, ◌≢◌, ⊎_elim, ℕ, ◌<◌, Bool, true, false, [], ◌∷◌, ◌++◌, length, set, Option, Some, None, refl, sym, ap, ◌∙◌, get_or}
use Rattle.std.specs.Prelude.{if◌then◌else◌, IfSome, slice_get}
use Rattle.std.specs.Option.{option_map_or, option_and_then}
use Rattle.std.proofs.lemmas.Bool.{cases_eq}
use Rattle.std.proofs.lemmas.Option.{same_Some, slice_get-get_or}
use Rattle.store_tables.proofs.SlotTables.{found, free_found, slice_get-set, slice_get-set_other, slice_get-push, slice_get-push_other}
use Rattle.store_tables.specs.SlotTables as slots
use Rattle.plc_base.specs.Grant.{Granted}
use Rattle.plc_base.specs.declared.address.Eui.{Eui}
use Rattle.plc_base.specs.declared.key.Key.{Key}
use Rattle.group_keys.specs.declared.key_book.BookEntry.{BookEntry}
use Rattle.group_keys.specs.KeyBook as books
use Rattle.node_rules.specs.Memory.{Memory}
use Rattle.line_laws.specs.Stores.{IsPair}
use Rattle.line_laws.proofs.MadeIn.{EntryChange, Allows, Issues, Kicks}
use Rattle.line_laws.proofs.Worlds.{within}
pub use Rattle.line_laws.specs.Shut.{Shut}

-- The entry of a meter that is allowed, where it stands.
pub record Stands (b : books.Book) (number : ℕ) (e : BookEntry) : Type 0 where
  pub place : ℕ
  pub is : slice_get b place ≡ Some e
  pub first : slots.place_of books.entries b number ≡ Some place
  pub named : books.eui_number e.eui ≡ number
  pub allowed : e.allowed ≡ true

pub allowed_there : (b : books.Book) (u : Eui) (e : BookEntry) → books.allowed_one b u ≡ Some e → Stands b (books.eui_number u) e
allowed_there b u e = by_place (slots.place_of books.entries b (books.eui_number u)) refl
  where
    by_flag : (place : ℕ) → slots.place_of books.entries b (books.eui_number u) ≡ Some place → (x : BookEntry) → slice_get b place ≡ Some x → (f : Bool)
        → x.allowed ≡ f → (if f then Some x else None) ≡ Some e → Stands b (books.eui_number u) e
    by_flag place first x there true is_so h =
        let same : x ≡ e = same_Some _ _ h in
        let key = found books.entries b (books.eui_number u) place x first in
        let here : get_or b place x ≡ x = same_Some _ _ (sym (slice_get-get_or b place x key.0) ∙ there) in
        record {
          place = place;
          is = there ∙ ap Some same;
          first = first;
          named = ap (λ (y : BookEntry). books.eui_number y.eui) (sym same ∙ sym here) ∙ key.1;
          allowed = ap (λ (y : BookEntry). y.allowed) (sym same) ∙ is_so;
        }
    by_flag place first x there false not_so h = absurd (cc)

    by_entry : (place : ℕ) → slots.place_of books.entries b (books.eui_number u) ≡ Some place → (o : Option BookEntry) → slice_get b place ≡ o
        → option_map_or (λ (x : BookEntry). if x.allowed then Some x else None) o None ≡ Some e → Stands b (books.eui_number u) e
    by_entry place first None there h = absurd (cc)
    by_entry place first (Some x) there h = by_flag place first x there x.allowed refl h

    by_place : (o : Option ℕ) → slots.place_of books.entries b (books.eui_number u) ≡ o
        → option_map_or (λ (x : BookEntry). if x.allowed then Some x else None) (option_and_then (slice_get b) o) None ≡ Some e
        → Stands b (books.eui_number u) e
    by_place None first h = absurd (cc)
    by_place (Some place) first h = by_entry place first (slice_get b place) refl h

pub allowed_eui : (u : Eui) (psk : Key) (o : Option BookEntry) → (books.allowed_entry u psk o).eui ≡ u
allowed_eui u psk None = refl
allowed_eui u psk (Some e) = refl

two_flags : (f : Bool) → f ≡ true → f ≡ false → ⊥
two_flags f a b = let both : true ≡ false = sym a ∙ b in cc (both)

module _ (eui : Eui) where
  -- a pair key of another meter
  abbrev pub OfOther : Eui → Key → Type 0
  OfOther u psk = IsPair psk × (books.eui_number u ≢ books.eui_number eui)

  -- who is allowed is another one
  pub allowed_other : (b : books.Book) (u : Eui) (e : BookEntry) → Shut eui b → books.allowed_one b u ≡ Some e → books.eui_number u ≡ books.eui_number eui → ⊥
  allowed_other b u e shut is same = let s = allowed_there b u e is in two_flags e.allowed s.allowed (shut s.place e s.is (s.named ∙ same))

  pub shut_with : (b : books.Book) (e : BookEntry) → Shut eui b → (books.eui_number e.eui ≡ books.eui_number eui → e.allowed ≡ false)
      → Shut eui (books.with_entry b e)
  shut_with b e shut new = by_place (books.place_of b e.eui) refl
    where
      this : (x : BookEntry) → e ≡ x → books.eui_number x.eui ≡ books.eui_number eui → x.allowed ≡ false
      this x same named = ap (λ (y : BookEntry). y.allowed) (sym same) ∙ new (ap (λ (y : BookEntry). books.eui_number y.eui) same ∙ named)

      by_place : (o : Option ℕ) → books.place_of b e.eui ≡ o → Shut eui (option_map_or (λ place. set b place e) o (b ++ e ∷ []))
      by_place None first place x is named = ⊎_elim
          (λ (here : place ≡ length b). this x (same_Some _ _ (sym (slice_get-push b e) ∙ ap (slice_get (b ++ e ∷ [])) (sym here) ∙ is)) named)
          (λ (ne : place ≢ length b). shut place x (sym (slice_get-push_other b place e ne) ∙ is) named)
          (cases_eq place (length b))
      by_place (Some at) first place x is named = ⊎_elim
          (λ (here : place ≡ at). this x (same_Some _ _
          (sym (slice_get-set b at e (found books.entries b (books.eui_number e.eui) at e first).0) ∙ ap (slice_get (set b at e)) (sym here) ∙ is)) named)
          (λ (ne : place ≢ at). shut place x (sym (slice_get-set_other b at place e ne) ∙ is) named)
          (cases_eq place at)

  -- no change of an entry lets the meter in, as long as it is not allowed
  pub shut_step : (L : Granted → Type 0) (E : Eui → Type 0) (m : Memory) (b : books.Book) (e : BookEntry) → EntryChange L OfOther E m b e → Shut eui b
      → Shut eui (books.with_entry b e)
  shut_step L E m b e (Allows u psk known other room) shut =
      shut_with b e shut (λ same. absurd (other.1 (ap books.eui_number (sym (allowed_eui u psk (books.entry_for b u))) ∙ same)))
  shut_step L E m b e (Issues u granted old from held allowed) shut = shut_with b e shut (λ same. absurd (allowed_other b u old shut allowed same))
  shut_step L E m b e (Kicks u old known allowed) shut = shut_with b e shut (λ same. refl)

  -- a kick shuts the meter out
  pub kicked_shut : (b : books.Book) (e : BookEntry) → slots.IsTable books.entries b → books.allowed_one b eui ≡ Some e
      → Shut eui (books.with_entry b (books.kicked_entry e.eui e))
  kicked_shut b e table is = by_place (books.place_of b e.eui) (ap (slots.place_of books.entries b) s.named ∙ s.first)
    where
      s : Stands b (books.eui_number eui) e
      s = allowed_there b eui e is

      k : BookEntry
      k = books.kicked_entry e.eui e

      none_else : (place : ℕ) (x : BookEntry) → place ≢ s.place → slice_get b place ≡ Some x → books.eui_number x.eui ≡ books.eui_number eui → ⊥
      none_else place x ne there named =
          at_entry (slice_get b place) there (free_found books.entries b (books.eui_number eui) s.place table s.first place (inside b place x there) ne)
        where
          at_entry : (o : Option BookEntry) → o ≡ Some x → IfSome o (λ (y : BookEntry). books.eui_number y.eui ≢ books.eui_number eui) → ⊥
          at_entry None e h = absurd (cc)
          at_entry (Some y) e h = h (ap (λ (z : BookEntry). books.eui_number z.eui) (same_Some _ _ e) ∙ named)

          inside : (b : books.Book) (place : ℕ) (x : BookEntry) → slice_get b place ≡ Some x → place < length b
          inside b place x there = within b place x there

      by_place : (o : Option ℕ) → o ≡ Some s.place → Shut eui (option_map_or (λ place. set b place k) o (b ++ k ∷ []))
      by_place None e place x there named = absurd (cc)
      by_place (Some at) e place x there named = ⊎_elim
          (λ (here : place ≡ at). ap (λ (y : BookEntry). y.allowed) (sym
          (same_Some _ _ (sym (slice_get-set b at k (found books.entries b (books.eui_number eui) at k (s.first ∙ sym e)).0)
          ∙ ap (slice_get (set b at k)) (sym here) ∙ there))))
          (λ (ne : place ≢ at). absurd (none_else place x (λ z. ne (z ∙ sym (same_Some _ _ e))) (sym (slice_get-set_other b at place k ne) ∙ there) named))
          (cases_eq place at)
