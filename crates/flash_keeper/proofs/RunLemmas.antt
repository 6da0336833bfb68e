-- What a store holds after puts, losses of power and openings.
use Rattle.std.proofs.Common.{◌≡◌, ◌⊎◌, inl, inr, ℕ, ◌==◌, Bool, true, false, cond, List, [], ◌∷◌, Option, Some, refl, sym, subst, ap, ◌∙◌, arith}
use Rattle.std.proofs.lemmas.Bool.Decides.{nat_tests}
use Rattle.std.specs.Ordering.{nat_cmp, eq_by_cmp}
use Rattle.std.specs.Cmp.{nat_cmp_total}
use Rattle.std.specs.FinMap.{get, insert, get-insert, get-empty}
use Rattle.plc_base.specs.Keeper.{Records}
use Rattle.flash_keeper.specs.Log.{IsOneOf}
use Rattle.flash_keeper.specs.Banks.{FlashStore}
use Rattle.flash_keeper.specs.Runs.{Event, Put, Open, Reopen, IsRun, Leaves, Holds, HoldsWhatWasPut, EachOpeningIsTheSame}

get_insert : (r : Records) (s : ℕ) (o : List ℕ) (q : ℕ) → get (insert r s o) q ≡ cond (s == q) (Some o) (get r q)
get_insert r s o q = get-insert nat_cmp_total r s o q ∙ ap (λ (b : Bool). cond b (Some o) (get r q)) (tie_is q s)
  where
    tie_is : (q s : ℕ) → eq_by_cmp nat_cmp q s ≡ (s == q)
    tie_is q s = grind (arith, nat_tests)

equal : (s q : ℕ) → (s == q) ≡ true → s ≡ q
equal s q e = grind (arith, nat_tests)

apart : (s q : ℕ) → (s == q) ≡ false → s ≡ q → ⊥
apart s q e is = grind (arith, nat_tests)

-- what is found after an insert
by_slot : (b : Bool) (s q : ℕ) (o : List ℕ) (x found : Option (List ℕ)) → (s == q) ≡ b → found ≡ cond b (Some o) x → ((s ≡ q) × (found ≡ Some o)) ⊎ ((s ≡ q
    → ⊥) × (found ≡ x))
by_slot true s q o x found e is = inl (equal s q e, is)
by_slot false s q o x found e is = inr (apart s q e, is)

at_slot : (r : Records) (s : ℕ) (o : List ℕ) (q : ℕ) (now : Records) → now ≡ insert r s o → ((s ≡ q) × (get now q ≡ Some o)) ⊎ ((s ≡ q
    → ⊥) × (get now q ≡ get r q))
at_slot r s o q now is = by_slot (s == q) s q o (get r q) (get now q) refl (ap (λ (m : Records). get m q) is ∙ get_insert r s o q)

abbrev Both : List Event → FlashStore → ℕ → Type 0
Both events now slot = Holds events slot (get now.store.records slot) × (Holds events slot (get now.left slot) ⊎ Leaves events slot (get now.left slot))

holds : (events : List Event) (now : FlashStore) → IsRun events now → (slot : ℕ) → Both events now slot
unfolding IsRun Holds Leaves
holds [] now (records, left) slot = (
  ap (λ (m : Records). get m slot) records ∙ get-empty nat_cmp slot,
  inl (ap (λ (m : Records). get m slot) left
      ∙ get-empty nat_cmp slot),
)
holds (Put at octets true ∷ events) now (before, run, records, left) slot =
    let old = holds events before run slot in (
      put_at old.0 (at_slot before.store.records at octets slot now.store.records records),
      inl (put_at old.0 (at_slot before.store.records at octets slot
          now.left left)),
    )
  where
    put_at : {found : Option (List ℕ)} → Holds events slot (get before.store.records slot) → ((at ≡ slot) × (found ≡ Some octets)) ⊎ ((at ≡ slot
        → ⊥) × (found ≡ get before.store.records slot))
        → ((at ≡ slot) × (found ≡ Some octets)) ⊎ ((at ≡ slot → ⊥) × Holds events slot found)
    put_at h (inl x) = inl x
    put_at h (inr (other, e)) = inr (other, subst (λ (f : Option (List ℕ)). Holds events slot f) (sym e) h)
holds (Put at octets false ∷ events) now (before, run, records, left) slot =
    let old = holds events before run slot in
    (subst (λ (m : Records). Holds events slot (get m slot)) (sym records) old.0, left_by old left)
  where
    left_by : Both events before slot → (now.left ≡ before.left) ⊎ (now.left ≡ before.store.records) ⊎ (now.left ≡ insert before.store.records at octets)
        → Holds events slot (get now.left slot) ⊎ (Leaves events slot (get now.left slot) ⊎ ((at ≡ slot) × (get now.left slot ≡ Some octets)))
    left_by old (inl e) = elim old.1 [
      | inl h ↦ inl (subst (λ (m : Records). Holds events slot (get m slot)) (sym e) h)
      | inr l ↦ inr (inl (subst (λ (m : Records). Leaves events slot (get m slot)) (sym e) l))
    ]
    left_by old (inr (inl e)) = inl (subst (λ (m : Records). Holds events slot (get m slot)) (sym e) old.0)
    left_by old (inr (inr e)) = elim (at_slot before.store.records at octets slot now.left e) [
      | inl x ↦ inr (inr x)
      | inr x ↦ inl (subst (λ (f : Option (List ℕ)). Holds events slot f) (sym x.1) old.0)
    ]
holds (Open ∷ events) now (before, run, records, left) slot =
    let old = holds events before run slot in
    let here = opened old records in
    (here, inl (subst (λ (m : Records). Holds events slot (get m slot) ⊎ Leaves events slot (get m slot)) (sym left) here))
  where
    opened : Both events before slot → (now.store.records ≡ before.store.records) ⊎ (now.store.records ≡ before.left)
        → Holds events slot (get now.store.records slot) ⊎ Leaves events slot (get now.store.records slot)
    opened old (inl e) = inl (subst (λ (m : Records). Holds events slot (get m slot)) (sym e) old.0)
    opened old (inr e) = subst (λ (m : Records). Holds events slot (get m slot) ⊎ Leaves events slot (get m slot)) (sym e) old.1
holds (Reopen ∷ events) now (before, run, left) slot =
    let old = holds events before run slot in (opened old left.records, inl (opened old left.left))
  where
    opened : {r : Records} → Both events before slot → IsOneOf (record { old = before.store.records; new = before.left }) r
        → Holds events slot (get r slot) ⊎ Leaves events slot (get r slot)
    opened old (inl e) = inl (subst (λ (m : Records). Holds events slot (get m slot)) (sym e) old.0)
    opened old (inr e) = subst (λ (m : Records). Holds events slot (get m slot) ⊎ Leaves events slot (get m slot)) (sym e) old.1

pub holds_what_was_put : HoldsWhatWasPut
holds_what_was_put events now run slot = (holds events now run slot).0

pub each_opening_is_the_same : EachOpeningIsTheSame
each_opening_is_the_same choice first second one two = elim two.one [
  | inl e ↦ e
  | inr e ↦ e ∙ one.left
]
