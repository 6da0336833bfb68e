-- An event is reported to be forged exactly where it is.
use Rattle.std.proofs.Common.{◌≡◌, ℕ, zero, suc, Bool, true, false, not, List, [], ◌∷◌, Option, Some, None, refl, sym, ap, ◌∙◌, subst}
use Rattle.std.specs.Prelude.{◌==◌, ◌||◌, ◌&&◌, All, slice_get}
use Rattle.std.specs.List.{list_any}
use Rattle.std.specs.Option.{option_map_or}
use Rattle.std.proofs.lemmas.Bool.{and_parts, eqb-true, eqb-false}
use Rattle.std.proofs.lemmas.List.Elements.{All-nil, All-cons, All-head, All-tail}
use Rattle.std.proofs.lemmas.Option.{same_Some}
use Rattle.std.proofs.lemmas.Slice.Eq.{bytes_eq-Decides}
use Rattle.plc_base.specs.declared.key.Key.{Key}
use Rattle.plc_base.specs.declared.key.RandomOctets.{RandomOctets}
use Rattle.plc_base.specs.declared.tags.PairTag.{PairTag}
use Rattle.plc_base.specs.declared.tags.PairTag.TheVariants as tags
use Rattle.group_keys.specs.KeyBook.{same_key}
use Rattle.line_rules.specs.Worlds.{Flight, has_octets, is_forged_frame, same_tag, is_forged_tag}
use Rattle.line_rules.specs.Forgery.{NoneFlew, IsSameTag, BothMacP, BothMacS, BothChannel, NoneMade}

-- # Lists

-- one of them passes the test
pub record Passes {A : Type 0} (test : A → Bool) (xs : List A) : Type 0 where
  pub place : ℕ
  pub one : A
  pub there : slice_get xs place ≡ Some one
  pub is : test one ≡ true

pub some_passes : {A : Type 0} (test : A → Bool) (xs : List A) → list_any test xs ≡ true → Passes test xs
some_passes test [] e = absurd (cc)
some_passes test (x ∷ xs) e = by_test (test x) refl e (λ k. some_passes test xs k)
  where
    by_test : (b : Bool) → test x ≡ b → (b || list_any test xs) ≡ true → (list_any test xs ≡ true → Passes test xs) → Passes test (x ∷ xs)
    by_test true is e rest = record { place = 0; one = x; there = refl; is = is }
    by_test false is e rest = let p = rest e in record { place = suc p.place; one = p.one; there = p.there; is = p.is }

pub any_at : {A : Type 0} (test : A → Bool) (xs : List A) (place : ℕ) (x : A) → slice_get xs place ≡ Some x → test x ≡ true → list_any test xs ≡ true
any_at test [] place x there is = absurd (cc)
any_at test (y ∷ xs) zero x there is = first (test y) (list_any test xs) (ap test (same_Some y x there) ∙ is)
  where
    first : (a b : Bool) → a ≡ true → (a || b) ≡ true
    first true b e = refl
    first false b e = absurd (cc)
any_at test (y ∷ xs) (suc place) x there is = second (test y) (list_any test xs) (any_at test xs place x there is)
  where
    second : (a b : Bool) → b ≡ true → (a || b) ≡ true
    second true b e = refl
    second false b e = e

none_passes : {A : Type 0} (test : A → Bool) (P : A → Type 0) (xs : List A) → ((x : A) → P x → test x ≡ true) → list_any test xs ≡ false → All (λ x. P x → ⊥) xs
none_passes test P [] f e = All-nil (λ x. P x → ⊥)
none_passes test P (x ∷ xs) f e =
    All-cons (λ x. P x → ⊥) x xs (λ p. no (test x) (list_any test xs) (f x p) e) (none_passes test P xs f (rest (test x) (list_any test xs) e))
  where
    no : (a b : Bool) → a ≡ true → (a || b) ≡ false → ⊥
    no true b e h = cc
    no false b e h = cc

    rest : (a b : Bool) → (a || b) ≡ false → b ≡ false
    rest true b e = absurd (cc)
    rest false b e = e

passes_none : {A : Type 0} (test : A → Bool) (P : A → Type 0) (xs : List A) → ((x : A) → test x ≡ true → P x) → All (λ x. P x → ⊥) xs → list_any test xs ≡ false
passes_none test P [] f all = refl
passes_none test P (x ∷ xs) f all = by_test (test x) refl (passes_none test P xs f (All-tail (λ x. P x → ⊥) x xs all))
  where
    by_test : (b : Bool) → test x ≡ b → list_any test xs ≡ false → (b || list_any test xs) ≡ false
    by_test true is rest = absurd (All-head (λ x. P x → ⊥) x xs all (f x is))
    by_test false is rest = rest

not_true : (b : Bool) → not b ≡ true → b ≡ false
not_true true e = absurd (cc)
not_true false e = refl

not_false : (b : Bool) → b ≡ false → not b ≡ true
not_false true e = absurd (cc)
not_false false e = refl

-- # Frames

key_of : List ℕ → Key
key_of octets = record { 0 = octets }

under_is : (o : Option Key) (key : Key) → option_map_or (same_key key) o false ≡ true → o ≡ Some key
unfolding key_of
under_is None key e = absurd (cc)
under_is (Some k) key e = let same : key.0 ≡ k.0 = (bytes_eq-Decides key.0 k.0).0 e in ap (λ octets. Some (key_of octets)) (sym same)

is_under : (o : Option Key) (key : Key) → o ≡ Some key → option_map_or (same_key key) o false ≡ true
is_under o key e = subst (λ x. option_map_or (same_key key) x false ≡ true) (sym e) ((bytes_eq-Decides key.0 key.0).1 refl)

both_true : (a b : Bool) → a ≡ true → b ≡ true → (a && b) ≡ true
both_true true b e f = f
both_true false b e f = absurd (cc)

pub flew_is : (octets : List ℕ) (key : Key) (f : Flight) → has_octets octets key f ≡ true → (f.octets ≡ octets) × (f.key ≡ Some key)
flew_is octets key f e = let parts = and_parts _ _ e in ((bytes_eq-Decides f.octets octets).0 parts.0, under_is f.key key parts.1)

is_flown : (octets : List ℕ) (key : Key) (f : Flight) → (f.octets ≡ octets) × (f.key ≡ Some key) → has_octets octets key f ≡ true
is_flown octets key f h = both_true _ _ ((bytes_eq-Decides f.octets octets).1 h.0) (is_under f.key key h.1)

pub none_flew : (flights : List Flight) (octets : List ℕ) (key : Key) → is_forged_frame flights octets key ≡ true → NoneFlew flights octets key
none_flew flights octets key e =
    none_passes (has_octets octets key) (λ (f : Flight). (f.octets ≡ octets) × (f.key ≡ Some key)) flights (is_flown octets key) (not_true _ e)

pub flew_none : (flights : List Flight) (octets : List ℕ) (key : Key) → NoneFlew flights octets key → is_forged_frame flights octets key ≡ true
flew_none flights octets key all =
    not_false _ (passes_none (has_octets octets key) (λ (f : Flight). (f.octets ≡ octets) × (f.key ≡ Some key)) flights (flew_is octets key) all)

-- # Pair tags

rand_of : List ℕ → RandomOctets
rand_of octets = record { 0 = octets }

tag_is : (a b : PairTag) → same_tag a b ≡ true → IsSameTag a b
unfolding rand_of
tag_is (tags.MacP a s) (tags.MacP b t) e =
    let p = and_parts _ _ e in subst (λ u. IsSameTag (tags.MacP a s) (tags.MacP b u)) ((bytes_eq-Decides s t).0 p.1) (BothMacP a b s (eqb-true _ _ p.0))
tag_is (tags.MacP a s) (tags.MacS b t) e = absurd (cc)
tag_is (tags.MacP a s) (tags.Channel b q n h t) e = absurd (cc)
tag_is (tags.MacS a s) (tags.MacP b t) e = absurd (cc)
tag_is (tags.MacS a s) (tags.MacS b t) e =
    let p = and_parts _ _ e in subst (λ u. IsSameTag (tags.MacS a s) (tags.MacS b u)) ((bytes_eq-Decides s t).0 p.1) (BothMacS a b s (eqb-true _ _ p.0))
tag_is (tags.MacS a s) (tags.Channel b q n h t) e = absurd (cc)
tag_is (tags.Channel a p m g s) (tags.MacP b t) e = absurd (cc)
tag_is (tags.Channel a p m g s) (tags.MacS b t) e = absurd (cc)
tag_is (tags.Channel a p m g s) (tags.Channel b q n h t) e =
    let one = and_parts _ _ e in
    let two = and_parts _ _ one.1 in
    let three = and_parts _ _ two.1 in
    let four = and_parts _ _ three.1 in
    let rands : p ≡ q = ap rand_of ((bytes_eq-Decides p.0 q.0).0 two.0) in
    let nonces : m ≡ n = eqb-true _ _ three.0 in
    let heads : g ≡ h = (bytes_eq-Decides g h).0 four.0 in
    let texts : s ≡ t = (bytes_eq-Decides s t).0 four.1 in
    subst (λ u. IsSameTag (tags.Channel a p m g s) (tags.Channel b q n h u)) texts
    (subst (λ u. IsSameTag (tags.Channel a p m g s) (tags.Channel b q n u s)) heads
    (subst (λ u. IsSameTag (tags.Channel a p m g s) (tags.Channel b q u g s)) nonces
    (subst (λ u. IsSameTag (tags.Channel a p m g s) (tags.Channel b u m g s)) rands (BothChannel a b p m g s (eqb-true _ _ one.0)))))

eqb_same : (m n : ℕ) → m ≡ n → (m == n) ≡ true
eqb_same m n e = by_test (m == n) refl
  where
    by_test : (b : Bool) → (m == n) ≡ b → b ≡ true
    by_test true is = refl
    by_test false is = absurd (eqb-false _ _ is e)

is_tag : (a b : PairTag) → IsSameTag a b → same_tag a b ≡ true
is_tag x y (BothMacP a b s e) = both_true _ _ (eqb_same _ _ e) ((bytes_eq-Decides s s).1 refl)
is_tag x y (BothMacS a b s e) = both_true _ _ (eqb_same _ _ e) ((bytes_eq-Decides s s).1 refl)
is_tag x y (BothChannel a b p n h t e) =
    both_true _ _ (eqb_same _ _ e) (both_true _ _ ((bytes_eq-Decides p.0 p.0).1 refl)
    (both_true _ _ (eqb_same n n refl) (both_true _ _ ((bytes_eq-Decides h h).1 refl) ((bytes_eq-Decides t t).1 refl))))

pub none_made : (made : List PairTag) (tag : PairTag) → is_forged_tag made tag ≡ true → NoneMade made tag
none_made made tag e = none_passes (same_tag tag) (IsSameTag tag) made (is_tag tag) (not_true _ e)

pub made_none : (made : List PairTag) (tag : PairTag) → NoneMade made tag → is_forged_tag made tag ≡ true
made_none made tag all = not_false _ (passes_none (same_tag tag) (IsSameTag tag) made (tag_is tag) all)
