-- The route of an offer that was taken is found, whatever the table was before.
use Rattle.std.proofs.Common.{◌≡◌, ℕ, zero, suc, ◌<◌, Bool, true, false, cond, List, [], ◌∷◌}
use Rattle.std.proofs.Common.{◌++◌, length, get_or, set, Option, Some, None, refl, sym, ap, ◌∙◌, arith}
use Rattle.std.specs.Prelude.{if◌then◌else◌, is_some, slice_get, ◌==◌}
use Rattle.std.specs.List.{find}
use Rattle.std.specs.Option.{option_and_then, option_map, option_map_or, option_or}
use Rattle.std.proofs.lemmas.List.Folds.{find-append}
use Rattle.std.proofs.lemmas.List.Quantifiers.{position-Some}
use Rattle.store_tables.proofs.SlotTables.{apart, found}
use Rattle.routing_set.specs.declared.rank.Rank.{Rank}
use Rattle.routing_set.specs.declared.entry.Route.{Route}
use Rattle.routing_set.specs.declared.entry.RoutingEntry.{RoutingEntry}
use Rattle.routing_set.specs.RoutingSet.{Routing, entered, entries_after, first_to_go, forgotten, offered, offered_entry, next_of, place_of, ranks}
use Rattle.routing_set.proofs.LookUps.{entry_of-find, is_at, is_at-false, is_at-true}
use Rattle.routing_set.proofs.RisingRanks.{route-by}
use Rattle.node_rules.specs.Memory.{StationMemory, next_hop}

-- what is set behind what fails a test is the first that passes it
first_set : {A : Type 0} (p : A → Bool) (xs : List A) (k : ℕ) (d e : A) → p e ≡ true → k < length xs
    → ((j : ℕ) → j < k → p (get_or xs j d) ≡ false) → find p (set xs k e) ≡ Some e
first_set p [] k d e met lt none = absurd (omega arith)
first_set p (x ∷ xs) zero d e met lt none = ap (λ b. cond b (Some e) (find p xs)) met
first_set p (x ∷ xs) (suc k) d e met lt none =
    ap (λ b. cond b (Some x) (find p (set xs k e))) (none zero (omega arith))
    ∙ first_set p xs k d e met (omega (arith, lt)) (λ j less. none (suc j) (omega (arith, less)))

module _ (entries : List RoutingEntry) (e : RoutingEntry) where
  abbrev test : RoutingEntry → Bool
  test = is_at e.address

  passes : test e ≡ true
  passes = is_at-true e.address e refl

  -- the entries with this one at a place, or at their end
  abbrev at_place : Option ℕ → List RoutingEntry
  at_place o = option_map_or (λ place. set entries place e) o (entries ++ e ∷ [])

  at_end : place_of entries e.address ≡ None → find test (entries ++ e ∷ []) ≡ Some e
  at_end at =
      let none : find test entries ≡ None = sym (entry_of-find entries e.address) ∙ ap (option_and_then (slice_get entries)) at in
      find-append test entries (e ∷ []) ∙ ap (λ o. option_or o (find test (e ∷ []))) none ∙ ap (λ b. cond b (Some e) None) passes

  by_gone : (gone : Option RoutingEntry) → place_of entries e.address ≡ None → find test (entries_after entries gone e) ≡ Some e
  by_gone None at = ap (λ o. find test (at_place o)) at ∙ at_end at
  by_gone (Some g) at = by_place (place_of entries g.address) refl
    where
      by_place : (o : Option ℕ) → place_of entries g.address ≡ o → find test (at_place (place_of entries g.address)) ≡ Some e
      by_place None is = ap (λ o. find test (at_place o)) is ∙ at_end at
      by_place (Some place) is =
          let within = (found ranks entries g.address place e is).0 in
          ap (λ o. find test (at_place o)) is
          ∙ first_set test entries place e e passes within
          (λ j less. is_at-false e.address (get_or entries j e) (apart ranks entries e.address (ap is_some at) j e (omega (arith, less, within))))

  by_held : (place : ℕ) → place_of entries e.address ≡ Some place → find test (entries_after entries None e) ≡ Some e
  by_held place at =
      let there = position-Some test entries place e at in
      ap (λ o. find test (at_place o)) at ∙ first_set test entries place e e passes there.0 there.2

entry_found : (r : Routing) (e : RoutingEntry) (now : ℕ) → find (is_at e.address) (entered r e now).entries ≡ Some e
unfolding entered forgotten
entry_found r e now = by_old (place_of r.entries e.address) refl
  where
    by_old : (o : Option ℕ) → place_of r.entries e.address ≡ o → find (is_at e.address) (entries_after r.entries (forgotten r e.address now) e) ≡ Some e
    by_old None at = by_gone r.entries e (forgotten r e.address now) at
    by_old (Some place) at =
        ap (λ o. find (is_at e.address) (entries_after r.entries
        (if is_some o then None else (if length r.entries == 64 then first_to_go now r.entries else None)) e)) at
        ∙ by_held r.entries e place at

-- it goes by the neighbour that offered
pub next_by : (l : StationMemory) (r : Routing) (to : ℕ) (rank : Rank) (hop now : ℕ) → l.routing ≡ offered r to rank hop now
    → next_hop l to ≡ Some hop
unfolding next_hop
next_by l r to rank hop now routes =
    ap (λ x. next_of x to) routes
    ∙ ap (λ o. option_map (λ (route : Route). route.next) o) (route-by (offered r to rank hop now) to
    ∙ ap (λ o. option_and_then (λ (x : RoutingEntry). x.route) o) (entry_found r (offered_entry to rank hop now) now))
