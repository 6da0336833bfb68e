-- The entry that is forgotten is the first that may be.
use Rattle.std.proofs.Common.{◌≡◌, ℕ, zero, suc, Bool, true, false, cond, List, [], ◌∷◌, Option, Some, None, refl, sym, ap, subst, ◌∙◌, arith}
use Rattle.std.specs.Prelude.{fold, slice_get, IfSome, MatchOption}
use Rattle.std.specs.List.{list_all}
use Rattle.std.proofs.lemmas.Bool.Decides.{nat_tests}
use Rattle.routing_set.specs.declared.entry.Route.{Route}
use Rattle.routing_set.specs.declared.entry.RoutingEntry.{RoutingEntry}
use Rattle.routing_set.specs.RoutingSet.{comes_first, before_by, goes_before, is_fresh, first_of, first_to_go}
use Rattle.routing_set.specs.Laws.{Among, IsFirstToGo}
use Rattle.routing_set.proofs.Offers.{gone_among, one_goes}

-- # The order

comes_first_trans : (m a n b k c : ℕ) → comes_first m a n b ≡ true → comes_first n b k c ≡ true → comes_first m a k c ≡ true
comes_first_trans m a n b k c h g = grind (arith, nat_tests)

comes_first_past : (m a n b k c : ℕ) → comes_first m a n b ≡ false → comes_first n b k c ≡ false → comes_first m a k c ≡ false
comes_first_past m a n b k c h g = grind (arith, nat_tests)

comes_first_itself : (m a : ℕ) → comes_first m a m a ≡ false
comes_first_itself m a = grind (arith, nat_tests)

before_trans : (a b c : RoutingEntry) (s t u : Option Route) → before_by a b s t ≡ true → before_by b c t u ≡ true → before_by a c s u ≡ true
before_trans a b c None None None h g = comes_first_trans a.rank.number a.address b.rank.number b.address c.rank.number c.address h g
before_trans a b c None None (Some u) h g = refl
before_trans a b c None (Some t) None h g = cc
before_trans a b c None (Some t) (Some u) h g = refl
before_trans a b c (Some s) None u h g = cc
before_trans a b c (Some s) (Some t) None h g = cc
before_trans a b c (Some s) (Some t) (Some u) h g = comes_first_trans s.offered a.address t.offered b.address u.offered c.address h g

before_past : (a b c : RoutingEntry) (s t u : Option Route) → before_by a b s t ≡ false → before_by b c t u ≡ false → before_by a c s u ≡ false
before_past a b c None None None h g = comes_first_past a.rank.number a.address b.rank.number b.address c.rank.number c.address h g
before_past a b c None None (Some u) h g = cc
before_past a b c None (Some t) u h g = cc
before_past a b c (Some s) None None h g = refl
before_past a b c (Some s) None (Some u) h g = cc
before_past a b c (Some s) (Some t) None h g = refl
before_past a b c (Some s) (Some t) (Some u) h g = comes_first_past s.offered a.address t.offered b.address u.offered c.address h g

before_itself : (a : RoutingEntry) (s : Option Route) → before_by a a s s ≡ false
before_itself a None = comes_first_itself a.rank.number a.address
before_itself a (Some s) = comes_first_itself s.offered a.address

-- where the first goes before the second, and not before the third, the second does not go before the third
not_after : (a b c : RoutingEntry) → goes_before a b ≡ true → goes_before a c ≡ false → goes_before b c ≡ false
not_after a b c h g = by_test (goes_before b c) refl
  where
    by_test : (test : Bool) → goes_before b c ≡ test → goes_before b c ≡ false
    by_test true is = absurd (cc (before_trans a b c a.route b.route c.route h is, g))
    by_test false is = is

-- # The choice

-- What holds of the one that was chosen of the one so far and of the others.
record Chosen (now : ℕ) (best : Option RoutingEntry) (entries : List RoutingEntry) (e : RoutingEntry) : Type 0 where
  old : is_fresh now e ≡ false
  so_far : IfSome best (λ b. goes_before b e ≡ false)
  others : (other : RoutingEntry) → Among entries other → is_fresh now other ≡ false → goes_before other e ≡ false

-- the entries after the first one
by_among : (P : RoutingEntry → Type 0) (x : RoutingEntry) (entries : List RoutingEntry) → P x → ((other : RoutingEntry) → Among entries other → P other)
    → (other : RoutingEntry) (place : ℕ)
    → slice_get (x ∷ entries) place ≡ Some other → P other
by_among P x entries here more other zero there = let same : x ≡ other = cc in subst P same here
by_among P x entries here more other (suc place) there = more other (record { place = place; there = there })

chosen : (now : ℕ) (best : Option RoutingEntry) (entries : List RoutingEntry) (e : RoutingEntry) → IfSome best (λ b. is_fresh now b ≡ false)
    → fold (first_of now) best entries ≡ Some e
    → Chosen now best entries e
chosen now None [] e old h = absurd (cc (h))
chosen now (Some b) [] e old h =
    let same : b ≡ e = cc in record {
      old = subst (λ (x : RoutingEntry). is_fresh now x ≡ false) same old;
      so_far = subst (λ (x : RoutingEntry). goes_before b x ≡ false) same (before_itself b b.route);
      others = λ other among fresh. absurd (cc (among.there));
    }
chosen now None (x ∷ entries) e old h = by_fresh (is_fresh now x) refl (chosen now None entries e) (chosen now (Some x) entries e)
  where
    by_fresh : (fresh : Bool) → is_fresh now x ≡ fresh
        → (Unit {0} → fold (first_of now) None entries ≡ Some e → Chosen now None entries e)
        → (is_fresh now x ≡ false → fold (first_of now) (Some x) entries ≡ Some e → Chosen now (Some x) entries e) → Chosen now None (x ∷ entries) e
    by_fresh true is stays changes =
        let same : fold (first_of now) (first_of now None x) entries
        ≡ fold (first_of now) None entries = ap (λ (b : Bool). fold (first_of now) (cond b None (Some x)) entries) is in
        let k = stays tt (sym same ∙ h) in record {
          old = k.old;
          so_far = tt;
          others = λ other among.
              by_among (λ o. is_fresh now o ≡ false → goes_before o e ≡ false) x entries (λ fresh. absurd (cc (is, fresh))) k.others other among.place
              among.there;
        }
    by_fresh false is stays changes =
        let same : fold (first_of now) (first_of now None x) entries
        ≡ fold (first_of now) (Some x) entries = ap (λ (b : Bool). fold (first_of now) (cond b None (Some x)) entries) is in
        let k = changes is (sym same ∙ h) in record {
          old = k.old;
          so_far = tt;
          others = λ other among. by_among (λ o. is_fresh now o ≡ false → goes_before o e ≡ false) x entries (λ fresh. k.so_far) k.others other among.place
              among.there;
        }
chosen now (Some b) (x ∷ entries) e old h =
    by_tests (is_fresh now x) (goes_before x b) refl refl (chosen now (Some b) entries e old) (chosen now (Some x) entries e)
  where
    by_tests : (fresh before : Bool) → is_fresh now x ≡ fresh → goes_before x b ≡ before
        → (fold (first_of now) (Some b) entries ≡ Some e → Chosen now (Some b) entries e)
        → (is_fresh now x ≡ false → fold (first_of now) (Some x) entries ≡ Some e → Chosen now (Some x) entries e) → Chosen now (Some b) (x ∷ entries) e
    by_tests true before is order stays changes =
        let same : fold (first_of now) (first_of now (Some b) x) entries ≡ fold (first_of now) (Some b) entries
        = ap (λ (f : Bool). fold (first_of now) (cond f (Some b) (cond (goes_before x b) (Some x) (Some b))) entries) is in
        let k = stays (sym same ∙ h) in record {
          old = k.old;
          so_far = k.so_far;
          others = λ other among.
              by_among (λ o. is_fresh now o ≡ false → goes_before o e ≡ false) x entries (λ fresh. absurd (cc (is, fresh))) k.others other among.place
              among.there;
        }
    by_tests false true is order stays changes =
        let same : fold (first_of now) (first_of now (Some b) x) entries ≡ fold (first_of now) (Some x) entries
        = ap (λ (f : Bool). fold (first_of now) (cond f (Some b) (cond (goes_before x b) (Some x) (Some b))) entries) is
        ∙ ap (λ (f : Bool). fold (first_of now) (cond f (Some x) (Some b)) entries) order in
        let k = changes is (sym same ∙ h) in record {
          old = k.old;
          so_far = not_after x b e order k.so_far;
          others = λ other among. by_among (λ o. is_fresh now o ≡ false → goes_before o e ≡ false) x entries (λ fresh. k.so_far) k.others other among.place
              among.there;
        }
    by_tests false false is order stays changes =
        let same : fold (first_of now) (first_of now (Some b) x) entries ≡ fold (first_of now) (Some b) entries
        = ap (λ (f : Bool). fold (first_of now) (cond f (Some b) (cond (goes_before x b) (Some x) (Some b))) entries) is
        ∙ ap (λ (f : Bool). fold (first_of now) (cond f (Some x) (Some b)) entries) order in
        let k = stays (sym same ∙ h) in record {
          old = k.old;
          so_far = k.so_far;
          others = λ other among.
              by_among (λ o. is_fresh now o ≡ false → goes_before o e ≡ false) x entries (λ fresh. before_past x b e x.route b.route e.route order k.so_far)
              k.others other among.place
              among.there;
        }

-- the one that is forgotten
pub first_is_first : (now : ℕ) (entries : List RoutingEntry) (e : RoutingEntry) → first_to_go now entries ≡ Some e → IsFirstToGo now entries e
unfolding first_to_go
first_is_first now entries e h =
    let k = chosen now None entries e tt h in
    record { there = gone_among now entries e h; old = k.old; first = k.others }

all_fresh : (now : ℕ) (entries : List RoutingEntry) → first_to_go now entries ≡ None → list_all (is_fresh now) entries ≡ true
all_fresh now entries h = by_test (list_all (is_fresh now) entries) refl
  where
    by_test : (test : Bool) → list_all (is_fresh now) entries ≡ test → list_all (is_fresh now) entries ≡ true
    by_test true is = is
    by_test false is = absurd (cc (one_goes now entries is, h))

pub first_or_fresh : (now : ℕ) (entries : List RoutingEntry)
    → MatchOption (first_to_go now entries) (list_all (is_fresh now) entries ≡ true) (IsFirstToGo now entries)
first_or_fresh now entries = by_choice (first_to_go now entries) refl
  where
    by_choice : (o : Option RoutingEntry) → first_to_go now entries ≡ o → MatchOption o (list_all (is_fresh now) entries ≡ true) (IsFirstToGo now entries)
    by_choice None is = all_fresh now entries is
    by_choice (Some e) is = first_is_first now entries e is
