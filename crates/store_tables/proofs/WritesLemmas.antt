-- Puts one after another, as a call makes them.
use Rattle.std.proofs.Common.{◌≡◌, ◌⊎◌, inl, inr, ◌+◌, ◌-◌, ◌≤◌, Bool, true, false, List, [], ◌∷◌, ◌++◌, Option, Some, None, refl, sym, ap, ◌∙◌, subst, arith}
use Rattle.std.specs.Prelude.{IfSome, IfNone, nat_lt}
use Rattle.std.specs.Bool.{OnFalse}
use Rattle.std.proofs.lemmas.Bool.Decides.{nat_tests}
use Rattle.std.specs.FinMap.{insert}
use Rattle.plc_base.specs.declared.keeper.Cut.{Cut}
use Rattle.plc_base.specs.Causes.{Rose}
use Rattle.plc_base.specs.Keeper.{Store, Records, Write, Stores, succeeds, cut_after}
use Rattle.store_tables.specs.Writes.{Writes, Wrote, Written, IsCutBy, write, puts_of}
use Rattle.store_tables.proofs.StoreLemmas.{stores_known}

-- no put
pub wrote_none : (s : Store) → Wrote s [] true s
wrote_none s = record { by = (refl, refl) }

-- a part's put was done, and the others follow
pub wrote_then : (s m t : Store) (o : Option Write) (ws : List Write) (done : Bool) → Stores s o true m → Wrote m ws done t → Wrote s (puts_of o ++ ws) done t
wrote_then s m t None ws done first rest = subst (λ (k : Store). Wrote k ws done t) first.1 rest
wrote_then s m t (Some w) ws done first rest = record { by = (true, m, first, rest.by, tt) }

-- a part's put failed
pub wrote_stop : (s t : Store) (o : Option Write) (ws : List Write) → Stores s o false t → Wrote s (puts_of o ++ ws) false t
wrote_stop s t None ws first = absurd (cc)
wrote_stop s t (Some w) ws first = record { by = (false, t, first, tt, (refl, refl)) }

-- a part puts once at most, and nothing follows
pub wrote_one : (s t : Store) (o : Option Write) (done : Bool) → Stores s o done t → Wrote s (puts_of o) done t
wrote_one s t None true h = record { by = (refl, h.1) }
wrote_one s t None false h = absurd (cc)
wrote_one s t (Some w) true h = record { by = (true, t, h, (refl, refl), tt) }
wrote_one s t (Some w) false h = record { by = (false, t, h, tt, (refl, refl)) }

writes_append : (s m t : Store) (ws vs : List Write) (done : Bool) → Writes s ws true m → Writes m vs done t → Writes s (ws ++ vs) done t
writes_append s m t [] vs done a b = subst (λ (k : Store). Writes k vs done t) a.1 b
writes_append s m t (w ∷ ws) vs done (true, mid, p, rest, u) b = (true, mid, p, writes_append mid m t ws vs done rest b, tt)
writes_append s m t (w ∷ ws) vs done (false, mid, p, u, stop) b = absurd (cc (stop.0))

writes_stop : (s t : Store) (ws vs : List Write) → Writes s ws false t → Writes s (ws ++ vs) false t
writes_stop s t [] vs a = absurd (cc (a.0))
writes_stop s t (w ∷ ws) vs (true, mid, p, rest, u) = (true, mid, p, writes_stop mid t ws vs rest, tt)
writes_stop s t (w ∷ ws) vs (false, mid, p, u, stop) = (false, mid, p, tt, stop)

-- the puts of a list were done, and those of another follow
pub wrote_append : (s m t : Store) (ws vs : List Write) (done : Bool) → Wrote s ws true m → Wrote m vs done t → Wrote s (ws ++ vs) done t
wrote_append s m t ws vs done a b = record { by = writes_append s m t ws vs done a.by b.by }

-- one of the puts of a list failed, and those of another do not follow
pub wrote_append_stop : (s t : Store) (ws vs : List Write) → Wrote s ws false t → Wrote s (ws ++ vs) false t
wrote_append_stop s t ws vs a = record { by = writes_stop s t ws vs a.by }

-- # The cut of some puts

rises : (s t : Store) (ws : List Write) (done : Bool) → Writes s ws done t → OnFalse done (Rose s.faults t.faults)
rises s t ws true h = tt
rises s t [] false h = absurd (cc)
rises s t (w ∷ ws) false (true, mid, p, rest, u) = omega (arith, p.faults, rises mid t ws false rest)
rises s t (w ∷ ws) false (false, mid, p, u, stop) = omega (arith, p.rose, ap (λ (k : Store). k.faults) stop.1)

-- a known cut is the one
with_known_cut : (s t : Store) (ws : List Write) (done : Bool) (cut : Option Cut) → Writes s ws done t → s.known_cut ≡ Some cut
    → (done ≡ (write ws cut s.records).whole) × (t.records ≡ (write ws cut s.records).records) × (t.known_cut ≡ Some (write ws cut s.records).cut)
with_known_cut s t [] done cut h e = (h.0, ap (λ (k : Store). k.records) h.1, ap (λ (k : Store). k.known_cut) h.1 ∙ e)
with_known_cut s t (w ∷ ws) done cut (true, mid, p, rest, u) e =
    let known = stores_known s mid (Some w) true cut p e in
    let k = with_known_cut mid t ws done (cut_after cut) rest known.known_cut_is in
    let ok : succeeds cut ≡ true = sym known.done_is in
    let more = subst (λ m. (done ≡ (write ws (cut_after cut) m).whole) × (t.records ≡ (write ws (cut_after cut) m).records)
    × (t.known_cut ≡ Some (write ws (cut_after cut) m).cut)) known.records_is k in
    rw ok more
with_known_cut s t (w ∷ ws) done cut (false, mid, p, u, stop) e =
    let known = stores_known s mid (Some w) false cut p e in
    let failed : succeeds cut ≡ false = sym known.done_is in
    rw failed (stop.0, ap (λ (k : Store). k.records) stop.1 ∙ known.records_is, ap (λ (k : Store). k.known_cut) stop.1 ∙ known.known_cut_is)

-- a cut that comes one put later
pub later : Option Cut → Option Cut
later None = None
later (Some c) = Some (record c { nth = c.nth + 1 })

-- where none is known, there is one all the same
pub record IsSomeCut (s t : Store) (ws : List Write) (done : Bool) (cut : Option Cut) : Type 0 where
  pub comes : IfSome cut (λ c. 1 ≤ c.nth)
  pub whole : done ≡ (write ws cut s.records).whole
  pub records : t.records ≡ (write ws cut s.records).records
  pub none : done ≡ true → cut ≡ None

pub later_writes : (w : Write) (ws : List Write) (cut : Option Cut) (records : Records) → IfSome cut (λ c. 1 ≤ c.nth)
    → write (w ∷ ws) (later cut) records ≡ write ws cut (insert records w.slot w.octets)
unfolding later
later_writes w ws None records h = refl
later_writes w ws (Some c) records h =
    let passes : nat_lt 1 (c.nth + 1) ≡ true = grind (arith, nat_tests) in
    let before : c.nth + 1 - 1 ≡ c.nth = omega arith in
    rw passes (ap (λ k. write ws (Some (record { nth = k; keeps_new = c.keeps_new })) (insert records w.slot w.octets)) before)

pub later_comes : (cut : Option Cut) → IfSome cut (λ c. 1 ≤ c.nth) → IfSome (later cut) (λ c. 1 ≤ c.nth)
unfolding later
later_comes None h = tt
later_comes (Some c) h = omega arith

some_cut : (s t : Store) (ws : List Write) (done : Bool) → Writes s ws done t → (cut : Option Cut) × IsSomeCut s t ws done cut
unfolding later
some_cut s t [] done h = (None, record { comes = tt; whole = h.0; records = ap (λ (k : Store). k.records) h.1; none = λ _. refl })
some_cut s t (w ∷ ws) done (true, mid, p, rest, u) =
    let k = some_cut mid t ws done rest in
    let e = later_writes w ws k.0 s.records k.1.comes in
    let same : write ws k.0 mid.records ≡ write (w ∷ ws) (later k.0) s.records = ap (write ws k.0) p.stored ∙ sym e in (
      later k.0,
      record {
        comes = later_comes k.0 k.1.comes;
        whole = k.1.whole ∙ ap (λ (m : Written). m.whole) same;
        records = k.1.records ∙ ap (λ (m : Written). m.records) same;
        none = λ d. ap later (k.1.none d);
      },
    )
some_cut s t (w ∷ ws) done (false, mid, p, u, stop) = either p.old_or_new
  where
    either : (mid.records ≡ s.records) ⊎ (mid.records ≡ insert s.records w.slot w.octets) → (cut : Option Cut) × IsSomeCut s t (w ∷ ws) done cut
    either (inl old) = (
      Some (record { nth = 1; keeps_new = false }),
      record {
        comes = omega arith;
        whole = stop.0;
        records = ap (λ (k : Store). k.records) stop.1 ∙ old;
        none = λ d. absurd (cc (d, stop.0));
      },
    )
    either (inr new) = (
      Some (record { nth = 1; keeps_new = true }),
      record {
        comes = omega arith;
        whole = stop.0;
        records = ap (λ (k : Store). k.records) stop.1 ∙ new;
        none = λ d. absurd (cc (d, stop.0));
      },
    )

-- some cut makes of the puts what was made, and the known one if one is known
pub cut_of : (s t : Store) (ws : List Write) (done : Bool) → Wrote s ws done t → (cut : Option Cut) × IsCutBy s ws done t cut
cut_of s t ws done h = go s.known_cut refl
  where
    go : (o : Option (Option Cut)) → s.known_cut ≡ o → (cut : Option Cut) × IsCutBy s ws done t cut
    go None e =
        let k = some_cut s t ws done h.by in (
          k.0,
          record {
            known_cut = subst (λ (o : Option (Option Cut)). IfSome o (λ c. (c ≡ k.0) × (t.known_cut ≡ Some (write ws k.0 s.records).cut))) (sym e) tt;
            whole = k.1.whole;
            records = k.1.records;
            none = λ d. subst (λ (o : Option (Option Cut)). IfNone o (k.0 ≡ None)) (sym e) (k.1.none d);
            rose = rises s t ws done h.by;
          },
        )
    go (Some cut) e =
        let k = with_known_cut s t ws done cut h.by e in (
          cut,
          record {
            known_cut = subst (λ (o : Option (Option Cut)). IfSome o (λ c. (c ≡ cut) × (t.known_cut ≡ Some (write ws cut s.records).cut))) (sym e) (refl, k.2);
            whole = k.0;
            records = k.1;
            none = λ d. subst (λ (o : Option (Option Cut)). IfNone o (cut ≡ None)) (sym e) tt;
            rose = rises s t ws done h.by;
          },
        )
