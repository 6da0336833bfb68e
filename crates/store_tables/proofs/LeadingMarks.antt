-- The put for an admitted number leads from the marks that the records gave to those that they give.
use Rattle.std.proofs.Common.{◌≡◌, ℕ, ◌<◌, ◌^◌, Bool, true, false, [], ◌∷◌, ◌++◌, length, set, Option, Some, None, refl, sym, ap, subst, arith}
use Rattle.std.specs.Prelude.{if◌then◌else◌, is_some, nat_le, slice_get}
use Rattle.std.specs.Option.{option_map_or}
use Rattle.std.proofs.lemmas.Option.{slice_get-get_or}
use Rattle.store_tables.specs.Writes.{puts_of}
use Rattle.store_tables.specs.SlotTables.{Layout, IsFree, entry_write}
use Rattle.store_tables.specs.LeadingPuts.{PutsLead}
use Rattle.store_tables.specs.declared.marks.Mark.{Mark}
use Rattle.store_tables.specs.Marks.{Table, layout, place_of, mark_at, mark_ahead, advanced, has_room, keep_write, kept_after, AreMarksIn, AdmissionsLead}
use Rattle.store_tables.proofs.LeadingPuts.{leads_one, leads_beside}
use Rattle.store_tables.proofs.SlotTables.{found, free_new, free_found, IsTable-set, IsTable-push, stored_set, stored_push, stored_rest}
use Rattle.store_tables.proofs.MarkEntries.{mark_in-octets_of, room_new}

module _ (first count : ℕ) (t : Table first count) (address number : ℕ) (short : address < 0xFFFE) (fits : number < 2 ^ 32) where
  ahead : Mark first count
  ahead = mark_ahead first count address number

  abbrev marks : Layout (Mark first count)
  marks = layout first count

  reads : (place : ℕ) → marks.read place (marks.octets place ahead) ≡ Some (marks.rest ahead)
  unfolding ahead
  reads place = mark_in-octets_of first count (mark_ahead first count address number) short (omega arith)

  new_leads : place_of first count t address ≡ None → length t < marks.slots
      → PutsLead (AreMarksIn first count) t (entry_write marks (length t) ahead ∷ []) (t ++ ahead ∷ [])
  unfolding ahead
  new_leads at room = leads_one (AreMarksIn first count) t _ _ (λ r k. record {
    kept = stored_push marks t r _ ahead k.kept room refl (reads (length t));
    sound = IsTable-push marks t ahead k.sound room (free_new marks t address (length t) (ap is_some at));
  })

  high_leads : (place : ℕ) → place_of first count t address ≡ Some place
      → PutsLead (AreMarksIn first count) t (entry_write marks place ahead ∷ []) (set t place ahead)
  unfolding ahead
  high_leads place at =
      let there = found marks t address place (record { address = 0; mark = 0; stored = 0 }) at in
      leads_one (AreMarksIn first count) t _ _ (λ r k. record {
        kept = stored_set marks t r _ place ahead k.kept there.0 refl (reads place);
        sound = IsTable-set marks t place ahead k.sound there.0 (free_found marks t address place k.sound at);
      })

  low_leads : (place : ℕ) → place_of first count t address ≡ Some place
      → PutsLead (AreMarksIn first count) t [] (set t place (record (mark_at first count t place) { mark = number }))
  low_leads place at =
      let there = found marks t address place (record { address = 0; mark = 0; stored = 0 }) at in
      let e : Mark first count = record (mark_at first count t place) { mark = number } in
      let got : slice_get t place ≡ Some (mark_at first count t place) = slice_get-get_or t place (record { address = 0; mark = 0; stored = 0 }) there.0 in
      leads_beside (AreMarksIn first count) t _ (λ r k. record {
        kept = stored_rest marks t r place e there.0 (rw got refl) k.kept;
        sound = IsTable-set marks t place e k.sound there.0
            (subst (λ (q : ℕ). IsFree marks t place q) (sym there.1) (free_found marks t address place k.sound at));
      })

  leads : has_room first count t address number ≡ true
      → PutsLead (AreMarksIn first count) t (puts_of (keep_write first count t address number)) (kept_after first count t address number)
  unfolding ahead
  leads room = by_place (place_of first count t address) refl
    where
      by_stored : (place : ℕ) (b : Bool) → place_of first count t address ≡ Some place
          → PutsLead (AreMarksIn first count) t (puts_of (if b then None else Some (entry_write marks place ahead)))
          (set t place (if b then record (mark_at first count t place) { mark = number } else ahead))
      by_stored place true at = low_leads place at
      by_stored place false at = high_leads place at

      by_place : (o : Option ℕ) → place_of first count t address ≡ o
          → PutsLead (AreMarksIn first count) t (puts_of (option_map_or
          (λ place. if nat_le number (mark_at first count t place).stored then None else Some (entry_write marks place ahead)) o
          (Some (entry_write marks (length t) ahead))))
          (option_map_or (λ place. set t place (advanced first count (mark_at first count t place) address number)) o (t ++ ahead ∷ []))
      by_place (Some place) at = by_stored place (nat_le number (mark_at first count t place).stored) at
      by_place None at = new_leads at (room_new first count t address number at room)

pub admissions_lead : (first count : ℕ) → AdmissionsLead first count
admissions_lead first count t address number room short fits = leads first count t address number short fits room
