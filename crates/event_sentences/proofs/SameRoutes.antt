-- Where the same routes are valid as before, none ends.
use Rattle.std.proofs.Common.{◌≡◌, ℕ, Bool, true, false, List, [], ◌∷◌, get_or, refl, sym, ap, ◌∙◌, arith}
use Rattle.std.specs.Prelude.{◌==◌, not, if◌then◌else◌, All}
use Rattle.std.specs.Ordering.{nat_cmp}
use Rattle.std.specs.BTreeMap.{insert_entry}
use Rattle.std.proofs.lemmas.Bool.Decides.{nat_tests}
use Rattle.std.proofs.lemmas.List.Elements.{All-head, All-tail}
use Rattle.std.proofs.lemmas.List.Folds.{list_any_at, list_any_none}
use Rattle.node_rules.specs.declared.shown.ShownRoute.{ShownRoute}
use Rattle.event_sentences.specs.RouteEnds.{Routes, ended_after, has, has_ended, routes_after, valid_dests}

same_number : (n : ℕ) → (n == n) ≡ true
same_number n = grind (arith, nat_tests)

-- each address of a list is in it
all_there : (valid : List ℕ) → All (λ dest. has valid dest ≡ true) valid
all_there valid k d lt = list_any_at (λ (other : ℕ). other == get_or valid k d) valid k d lt (same_number (get_or valid k d))

no_end : (event : ℕ) (valid old : List ℕ) (ended : List (ℕ × ℕ)) → All (λ dest. has valid dest ≡ true) old → ended_after event valid old ended ≡ ended
no_end event valid [] ended all = refl
no_end event valid (dest ∷ old) ended all =
    ap (ended_after event valid old) (kept (has valid dest) (All-head (λ d. has valid d ≡ true) dest old all))
    ∙ no_end event valid old ended (All-tail (λ d. has valid d ≡ true) dest old all)
  where
    kept : (b : Bool) → b ≡ true → (if b then ended else insert_entry nat_cmp ended dest event) ≡ ended
    kept true h = refl
    kept false h = absurd (cc)

pub none_ended : (valid old : List ℕ) → valid ≡ old → has_ended valid old ≡ false
none_ended valid old same =
    ap (has_ended valid) (sym same)
    ∙ list_any_none (λ (dest : ℕ). not (has valid dest)) valid (λ k d lt. ap not (all_there valid k d lt))

pub same_routes : (event : ℕ) (shown : List ShownRoute) (routes : Routes) → valid_dests shown ≡ routes.valid → routes_after event shown routes ≡ routes
same_routes event shown routes same =
    ap (λ (valid : List ℕ). record { valid = valid; ended = ended_after event valid routes.valid routes.ended }) same
    ∙ ap (λ (ended : List (ℕ × ℕ)). record { valid = routes.valid; ended = ended })
    (no_end event routes.valid routes.valid routes.ended (all_there routes.valid))
