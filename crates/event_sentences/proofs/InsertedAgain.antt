-- An entry that is put in where one with its key is.
use Rattle.std.proofs.Common.{◌≡◌, ℕ, List, [], ◌∷◌, refl, ap, ◌∙◌, arith}
use Rattle.std.specs.Ordering.{nat_cmp, match_ordering}
use Rattle.std.specs.declared.cmp.Ordering.{Ordering}
use Rattle.std.specs.declared.cmp.Ordering.TheVariants.{Less, Equal, Greater}
use Rattle.std.specs.BTreeMap.{insert_entry}
use Rattle.std.proofs.lemmas.Bool.Decides.{nat_tests}

same_key : (n : ℕ) → nat_cmp n n ≡ Equal
same_key n = grind (arith, nat_tests)

module _ {X : Type 0} where
  pub inserted_again : (key : ℕ) (old new : X) (entries : List (ℕ × X))
      → insert_entry nat_cmp (insert_entry nat_cmp entries key old) key new ≡ insert_entry nat_cmp entries key new
  inserted_again key old new [] =
      ap (λ (o : Ordering). match_ordering o ((key, new) ∷ (key, old) ∷ []) ((key, new) ∷ []) ((key, old) ∷ (key, new) ∷ [])) (same_key key)
  inserted_again key old new (e ∷ es) = by_order (nat_cmp key e.0) refl (inserted_again key old new es)
    where
      here : match_ordering (nat_cmp key key) ((key, new) ∷ ((key, old) ∷ (e ∷ es))) ((key, new) ∷ (e ∷ es))
          ((key, old) ∷ insert_entry nat_cmp (e ∷ es) key new)
          ≡ (key, new) ∷ (e ∷ es)
      here = ap (λ (o : Ordering). match_ordering o ((key, new) ∷ ((key, old) ∷ (e ∷ es))) ((key, new) ∷ (e ∷ es))
          ((key, old) ∷ insert_entry nat_cmp (e ∷ es) key new)) (same_key key)

      by_order : (o : Ordering) → nat_cmp key e.0 ≡ o
          → insert_entry nat_cmp (insert_entry nat_cmp es key old) key new ≡ insert_entry nat_cmp es key new
          → insert_entry nat_cmp (match_ordering o ((key, old) ∷ (e ∷ es)) ((e.0, old) ∷ es) (e ∷ insert_entry nat_cmp es key old)) key new
          ≡ match_ordering o ((key, new) ∷ (e ∷ es)) ((e.0, new) ∷ es) (e ∷ insert_entry nat_cmp es key new)
      by_order Less is more = here
      by_order Equal is more =
          ap (λ (o : Ordering). match_ordering o ((key, new) ∷ ((e.0, old) ∷ es)) ((e.0, new) ∷ es) ((e.0, old) ∷ insert_entry nat_cmp es key new)) is
      by_order Greater is more =
          ap (λ (o : Ordering). match_ordering o ((key, new) ∷ (e ∷ insert_entry nat_cmp es key old)) ((e.0, new) ∷ insert_entry nat_cmp es key old)
          (e ∷ insert_entry nat_cmp (insert_entry nat_cmp es key old) key new)) is
          ∙ ap (λ (xs : List (ℕ × X)). e ∷ xs) more
