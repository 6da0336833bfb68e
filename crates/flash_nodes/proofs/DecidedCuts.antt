-- The loss of power that an opening decides for some puts.
use Rattle.std.proofs.Common.{◌≡◌, ◌⊎◌, inl, inr, ℕ, suc, ◌+◌, ◌-◌, ◌≤◌, Bool, true, false, List, [], ◌∷◌, length, refl, sym, ap, ◌∙◌, subst, arith}
use Rattle.std.proofs.Common.{Option, Some, None}
use Rattle.std.specs.Prelude.{IfSome, nat_lt}
use Rattle.std.proofs.lemmas.Bool.Decides.{nat_tests}
use Rattle.std.specs.FinMap.{insert}
use Rattle.plc_base.specs.declared.keeper.Cut.{Cut}
use Rattle.plc_base.specs.Keeper.{Records, Store, Write, pending_records}
use Rattle.store_tables.specs.Writes.{Writes, Written, write}
use Rattle.flash_nodes.specs.Openings.{IsSettled, MayBeFound}

-- Under this loss of power the puts end as they did, and leave these records.
pub record Decides (s : Store) (ws : List Write) (done : Bool) (found : Records) (cut : Option Cut) : Type 0 where
  pub from : IfSome cut (λ c. 1 ≤ c.nth)
  pub to : IfSome cut (λ c. c.nth ≤ length ws)
  pub whole : done ≡ (write ws cut s.records).whole
  pub records : found ≡ (write ws cut s.records).records
  pub spent : (write ws cut s.records).cut ≡ None
  pub none : done ≡ true → cut ≡ None

-- what may be found of a store of which nothing is pending is what it holds
pub found_settled : (s : Store) (found : Records) → IsSettled s → MayBeFound s found → found ≡ s.records
found_settled s found settled (inl e) = e
found_settled s found settled (inr e) = e ∙ settled

-- the loss of power that comes one put later
later : Option Cut → Option Cut
later None = None
later (Some c) = Some (record c { nth = c.nth + 1 })

later_writes : (w : Write) (ws : List Write) (cut : Option Cut) (records : Records) → IfSome cut (λ c. 1 ≤ c.nth)
    → write (w ∷ ws) (later cut) records ≡ write ws cut (insert records w.slot w.octets)
unfolding later
later_writes w ws None records h = refl
later_writes w ws (Some c) records h =
    let passes : nat_lt 1 (c.nth + 1) ≡ true = grind (arith, nat_tests) in
    let before : c.nth + 1 - 1 ≡ c.nth = omega arith in
    rw passes (ap (λ k. write ws (Some (record { nth = k; keeps_new = c.keeps_new })) (insert records w.slot w.octets)) before)

later_comes : (cut : Option Cut) → IfSome cut (λ c. 1 ≤ c.nth) → IfSome (later cut) (λ c. 1 ≤ c.nth)
unfolding later
later_comes None h = tt
later_comes (Some c) h = omega arith

later_within : (n : ℕ) (cut : Option Cut) → IfSome cut (λ c. c.nth ≤ n) → IfSome (later cut) (λ c. c.nth ≤ suc n)
unfolding later
later_within n None h = tt
later_within n (Some c) h = let within : c.nth ≤ n = h in omega (arith, within)

no_false : true ≡ false → ⊥
no_false e = cc

-- after puts of which none failed nothing is pending
pub settled_after : (s t : Store) (ws : List Write) → IsSettled s → Writes s ws true t → IsSettled t
settled_after s t [] settled h = subst IsSettled (sym h.1) settled
settled_after s t (w ∷ ws) settled (true, mid, p, rest, u) = settled_after mid t ws (p.pending ∙ sym p.stored) rest
settled_after s t (w ∷ ws) settled (false, mid, p, u, stop) = absurd (no_false stop.0)

pub decided : (s t : Store) (ws : List Write) (done : Bool) (found : Records) → IsSettled s → Writes s ws done t → MayBeFound t found
    → (cut : Option Cut) × Decides s ws done found cut
unfolding later
decided s t [] done found settled h may = (
  None,
  record {
    from = tt;
    to = tt;
    whole = h.0;
    records = found_settled s found settled (subst (λ (k : Store). MayBeFound k found) h.1 may);
    spent = refl;
    none = λ _. refl;
  },
)
decided s t (w ∷ ws) done found settled (true, mid, p, rest, u) may =
    let k = decided mid t ws done found (p.pending ∙ sym p.stored) rest may in
    let same : write ws k.0 mid.records ≡ write (w ∷ ws) (later k.0) s.records =
    ap (write ws k.0) p.stored ∙ sym (later_writes w ws k.0 s.records k.1.from) in (
      later k.0,
      record {
        from = later_comes k.0 k.1.from;
        to = later_within (length ws) k.0 k.1.to;
        whole = k.1.whole ∙ ap (λ (m : Written). m.whole) same;
        records = k.1.records ∙ ap (λ (m : Written). m.records) same;
        spent = sym (ap (λ (m : Written). m.cut) same) ∙ k.1.spent;
        none = λ d. ap later (k.1.none d);
      },
    )
decided s t (w ∷ ws) done found settled (false, mid, p, u, stop) may = by_found (subst (λ (k : Store). MayBeFound k found) stop.1 may)
  where
    failed : done ≡ true → ⊥
    failed e = no_false (sym e ∙ stop.0)

    kept : found ≡ s.records → (cut : Option Cut) × Decides s (w ∷ ws) done found cut
    kept old = (
      Some (record { nth = 1; keeps_new = false }),
      record { from = omega arith; to = omega arith; whole = stop.0; records = old; spent = refl; none = λ d. absurd (failed d) },
    )

    stored : found ≡ insert s.records w.slot w.octets → (cut : Option Cut) × Decides s (w ∷ ws) done found cut
    stored new = (
      Some (record { nth = 1; keeps_new = true }),
      record { from = omega arith; to = omega arith; whole = stop.0; records = new; spent = refl; none = λ d. absurd (failed d) },
    )

    by_put : (mid.records ≡ s.records) ⊎ (mid.records ≡ insert s.records w.slot w.octets) → found ≡ mid.records
        → (cut : Option Cut) × Decides s (w ∷ ws) done found cut
    by_put (inl old) e = kept (e ∙ old)
    by_put (inr new) e = stored (e ∙ new)

    by_pending : (pending_records mid ≡ pending_records s) ⊎ (pending_records mid ≡ s.records) ⊎ (pending_records mid ≡ insert s.records w.slot w.octets)
        → found ≡ pending_records mid → (cut : Option Cut) × Decides s (w ∷ ws) done found cut
    by_pending (inl before) e = kept (e ∙ before ∙ settled)
    by_pending (inr (inl old)) e = kept (e ∙ old)
    by_pending (inr (inr new)) e = stored (e ∙ new)

    by_found : MayBeFound mid found → (cut : Option Cut) × Decides s (w ∷ ws) done found cut
    by_found (inl e) = by_put p.old_or_new e
    by_found (inr e) = by_pending p.pending e
