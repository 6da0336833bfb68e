-- What one round gives, and what is known once no node is new.
use Rattle.std.proofs.Common.{◌≡◌, ◌≢◌, ◌⊎◌, inl, inr, ℕ, zero, suc, ◌+◌, ◌<◌, ◌≤◌, true, false, cond, List, [], ◌∷◌, ◌++◌, Option, Some, None, length}
use Rattle.std.proofs.Common.{get_or, set, replicate, refl, sym, ap, subst, ◌∙◌, arith, length-append, add-one, rules, tests}
use Rattle.std.proofs.lemmas.Bool.{cases_eq, cases_lt}
use Rattle.std.proofs.lemmas.Bool.Decides.{nat_tests}
use Rattle.std.proofs.lemmas.List.{length-set, length-replicate}
use Rattle.std.proofs.lemmas.List.Elements.{Contains-append_left, Contains-push, Contains-push_cases}
use Rattle.std.proofs.lemmas.List.Sums.{count_by-le-length, sum_by-set}
use Rattle.std.proofs.lemmas.Option.{slice_get-get_or, slice_get_past, slice_get_within}
use Rattle.std.specs.Prelude.{slice_get, ◌==◌}
use Rattle.std.specs.List.{count_by, Contains}
use Rattle.line_place.specs.declared.link.Link.{Link}
use Rattle.line_place.specs.Rows.{hearers}
use Rattle.line_place.specs.Hops.{IsLinkTo, Reaches, HasPath, AreHops, is_none, IsReachedBy, IsWider, AreAtMost}

-- # Lists by place

same_Some : {A : Type 0} (x y : A) → Some x ≡ Some y → x ≡ y
same_Some x y e = cc

slice_get-set : {A : Type 0} (xs : List A) (i : ℕ) (y : A) → i < length xs → slice_get (set xs i y) i ≡ Some y
slice_get-set [] i y h = absurd (omega arith)
slice_get-set (x ∷ xs) zero y h = refl
slice_get-set (x ∷ xs) (suc i) y h = slice_get-set xs i y (omega arith)

slice_get-set_other : {A : Type 0} (xs : List A) (i k : ℕ) (y : A) → k ≢ i → slice_get (set xs i y) k ≡ slice_get xs k
slice_get-set_other [] i k y h = refl
slice_get-set_other (x ∷ xs) zero zero y h = absurd (h refl)
slice_get-set_other (x ∷ xs) zero (suc k) y h = refl
slice_get-set_other (x ∷ xs) (suc i) zero y h = refl
slice_get-set_other (x ∷ xs) (suc i) (suc k) y h = slice_get-set_other xs i k y (λ e. h (ap suc e))

slice_get-replicate : {A : Type 0} (n i : ℕ) (x y : A) → slice_get (replicate n x) i ≡ Some y → x ≡ y
slice_get-replicate zero i x y e = cc
slice_get-replicate (suc n) zero x y e = same_Some x y e
slice_get-replicate (suc n) (suc i) x y e = slice_get-replicate n i x y e

-- an element at a place is one of the list
contains_at : (xs : List ℕ) (k x : ℕ) → slice_get xs k ≡ Some x → Contains xs x
contains_at [] k x e = cc
contains_at (y ∷ ys) zero x e = (0, omega arith, same_Some y x e)
contains_at (y ∷ ys) (suc k) x e =
    let rest : Contains ys x = contains_at ys k x e in
    (suc rest.0, omega (arith, rest.1), rest.2)

-- and the converse
place_of : (xs : List ℕ) (x : ℕ) → Contains xs x → (k : ℕ) × (slice_get xs k ≡ Some x)
place_of xs x c = (c.0, slice_get-get_or xs c.0 x c.1 ∙ ap Some c.2)

nothing_listed : (xs : List ℕ) (x : ℕ) → length xs ≡ 0 → Contains xs x → ⊥
nothing_listed xs x e c = omega (arith, c.1)

-- # One node

none_counted : (xs : List (Option ℕ)) (i n : ℕ) → slice_get xs i ≡ Some None → count_by is_none (set xs i (Some n)) + 1 ≡ count_by is_none xs
none_counted xs i n e =
    let within : i < length xs = slice_get_within xs i None e in
    let here : get_or xs i None ≡ None = same_Some (get_or xs i None) None (sym (slice_get-get_or xs i None within) ∙ e) in
    let all : count_by is_none (set xs i (Some n)) + cond (is_none (get_or xs i None)) 1 0 ≡ count_by is_none xs + 0 =
    sum_by-set (λ (x : Option ℕ). cond (is_none x) 1 0) xs i (Some n) None within in
    let one : cond (is_none (get_or xs i None)) 1 0 ≡ 1 = ap (λ (x : Option ℕ). let n : ℕ = cond (is_none x) 1 0 in n) here in
    omega (arith, all, one)

-- a node without hops gets them
pub gets_hops : (hops : List (Option ℕ)) (next : List ℕ) (node round : ℕ) → slice_get hops node ≡ Some None →
    IsWider round (λ b. b ≡ node) hops next (set hops node (Some round)) (next ++ (node ∷ []))
gets_hops hops next node round here =
    record {
      size = length-set hops node (Some round);
      kept = λ b n e. slice_get-set_other hops node b (Some round) (apart b n e) ∙ e;
      fresh = λ b n e. elim (cases_eq b node) [
        | inl same ↦ inr (is_round b n same e, (same, subst (λ v. Contains (next ++ (node ∷ [])) v) (sym same) (Contains-push next node)))
        | inr other ↦ inl (sym (slice_get-set_other hops node b (Some round) other) ∙ e)
      ];
      all = λ b same within. (round, at_node b same);
      still_listed = λ b c. Contains-append_left next (node ∷ []) b c;
      newly_listed = λ b c. elim (Contains-push_cases next node b c) [
        | inl before ↦ inl before
        | inr same ↦ inr (at_node b (sym same))
      ];
      count = omega (arith, none_counted hops node round here, length-append next (node ∷ []));
    }
  where
    within : node < length hops
    within = slice_get_within hops node None here

    at_node : (b : ℕ) → b ≡ node → slice_get (set hops node (Some round)) b ≡ Some (Some round)
    at_node b same = ap (slice_get (set hops node (Some round))) same ∙ slice_get-set hops node (Some round) within

    apart : (b n : ℕ) → slice_get hops b ≡ Some (Some n) → b ≢ node
    apart b n e same = let there : slice_get hops b ≡ slice_get hops node = ap (slice_get hops) same in cc

    is_round : (b n : ℕ) → b ≡ node → slice_get (set hops node (Some round)) b ≡ Some (Some n) → n ≡ round
    is_round b n same e = let there : slice_get (set hops node (Some round)) b ≡ Some (Some round) = at_node b same in cc

-- one that has hops, or is not there, changes nothing
pub has_hops : (hops : List (Option ℕ)) (next : List ℕ) (node round n : ℕ) → slice_get hops node ≡ Some (Some n) →
    IsWider round (λ b. b ≡ node) hops next hops next
has_hops hops next node round n here =
    record {
      size = refl;
      kept = λ b m e. e;
      fresh = λ b m e. inl e;
      all = λ b same within. (n, ap (slice_get hops) same ∙ here);
      still_listed = λ b c. c;
      newly_listed = λ b c. inl c;
      count = refl;
    }

pub has_some_hops : (hops : List (Option ℕ)) (next : List ℕ) (node round : ℕ) (so_far : Option ℕ) → slice_get hops node ≡ Some so_far →
    is_none so_far ≡ false → IsWider round (λ b. b ≡ node) hops next hops next
has_some_hops hops next node round None here some = cc
has_some_hops hops next node round (Some n) here some = has_hops hops next node round n here

pub no_hops_yet : (so_far : Option ℕ) → is_none so_far ≡ true → so_far ≡ None
no_hops_yet None none = refl
no_hops_yet (Some n) none = cc

-- # One after the other

pub none_reached : (round : ℕ) (T : ℕ → Type 0) (hops : List (Option ℕ)) (next : List ℕ) → ((b : ℕ) → T b → ⊥) →
    IsWider round T hops next hops next
none_reached round T hops next never =
    record {
      size = refl;
      kept = λ b m e. e;
      fresh = λ b m e. inl e;
      all = λ b t within. absurd (never b t);
      still_listed = λ b c. c;
      newly_listed = λ b c. inl c;
      count = refl;
    }

pub still_wider : {round : ℕ} {T U : ℕ → Type 0} {f g h : List (Option ℕ)} {fn gn hn : List ℕ} (V : ℕ → Type 0) →
    ((b : ℕ) → T b → V b) → ((b : ℕ) → U b → V b) → ((b : ℕ) → V b → T b ⊎ U b) →
    IsWider round T f fn g gn → IsWider round U g gn h hn → IsWider round V f fn h hn
still_wider {round} {T} {U} {f} {g} {h} {fn} {gn} {hn} V left right cases one two =
    record {
      size = two.size ∙ one.size;
      kept = λ b n e. two.kept b n (one.kept b n e);
      fresh = λ b n e. elim (two.fresh b n e) [
        | inl old ↦ elim (one.fresh b n old) [
          | inl older ↦ inl older
          | inr (is, (t, c)) ↦ inr (is, (left b t, two.still_listed b c))
        ]
        | inr (is, (u, c)) ↦ inr (is, (right b u, c))
      ];
      all = λ b v within. elim (cases b v) [
        | inl t ↦ (let r : (n : ℕ) × (slice_get g b ≡ Some (Some n)) = one.all b t within in (r.0, two.kept b r.0 r.1))
        | inr u ↦ two.all b u (omega (arith, one.size))
      ];
      still_listed = λ b c. two.still_listed b (one.still_listed b c);
      newly_listed = λ b c. elim (two.newly_listed b c) [
        | inl before ↦ elim (one.newly_listed b before) [
          | inl older ↦ inl older
          | inr e ↦ inr (two.kept b round e)
        ]
        | inr e ↦ inr e
      ];
      count = two.count ∙ one.count;
    }

-- # The links of a node, and the nodes of a round

-- one of the first this many links leads to a node
abbrev pub IsLinkBefore : List Link → ℕ → ℕ → Type 0
IsLinkBefore links i b = (k : ℕ) × ((k < i) × ((l : Link) × ((slice_get links k ≡ Some l) × (l.to ≡ b))))

pub links_begin : (links : List Link) (b : ℕ) → IsLinkBefore links 0 b → ⊥
links_begin links b t = omega (arith, t.1.0)

pub links_go_on : {round : ℕ} {f g h : List (Option ℕ)} {fn gn hn : List ℕ} (links : List Link) (i : ℕ) (link : Link) →
    slice_get links i ≡ Some link → IsWider round (IsLinkBefore links i) f fn g gn →
    IsWider round (λ b. b ≡ link.to) g gn h hn → IsWider round (IsLinkBefore links (i + 1)) f fn h hn
links_go_on links i link here one two =
    still_wider (IsLinkBefore links (i + 1))
    (λ b t. (t.0, (omega (arith, t.1.0), t.1.1)))
    (λ b u. (i, (omega arith, (link, (here, sym u)))))
    (λ b v. elim (cases_lt v.0 i) [
      | inl low ↦ inl (v.0, (low, v.1.1))
      | inr high ↦ inr (sym v.1.1.1.1
          ∙ ap (λ (l : Link). l.to) (same_Some v.1.1.0 link (sym v.1.1.1.0 ∙ (ap (slice_get links) (at_end v.0 high v.1.0) ∙ here))))
    ])
    one two
  where
    at_end : (k : ℕ) → i ≤ k → k < i + 1 → k ≡ i
    at_end k high low = omega arith

pub links_end : {round : ℕ} {f g : List (Option ℕ)} {fn gn : List ℕ} (links : List Link) (i : ℕ) → length links ≤ i →
    IsWider round (IsLinkBefore links i) f fn g gn → IsWider round (IsLinkTo links) f fn g gn
links_end links i long one =
    record {
      size = one.size;
      kept = one.kept;
      fresh = λ b n e. elim (one.fresh b n e) [
        | inl old ↦ inl old
        | inr (is, (t, c)) ↦ inr (is, ((t.0, t.1.1), c))
      ];
      all = λ b t within. one.all b (t.0, (before t.0 t.1.0 t.1.1.0, t.1)) within;
      still_listed = one.still_listed;
      newly_listed = one.newly_listed;
      count = one.count;
    }
  where
    before : (k : ℕ) (l : Link) → slice_get links k ≡ Some l → k < i
    before k l e = omega (arith, slice_get_within links k l e)

-- a frame of one of the first this many nodes reaches b
abbrev pub IsReachedBefore : List (List Link) → List ℕ → ℕ → ℕ → Type 0
IsReachedBefore rows front i b = (k : ℕ) × ((k < i) × ((a : ℕ) × ((slice_get front k ≡ Some a) × Reaches rows a b)))

pub front_begins : (rows : List (List Link)) (front : List ℕ) (b : ℕ) → IsReachedBefore rows front 0 b → ⊥
front_begins rows front b t = omega (arith, t.1.0)

pub front_goes_on : {round : ℕ} {f g h : List (Option ℕ)} {fn gn hn : List ℕ} (rows : List (List Link)) (front : List ℕ) (i a : ℕ) →
    slice_get front i ≡ Some a → IsWider round (IsReachedBefore rows front i) f fn g gn →
    IsWider round (IsLinkTo (hearers rows a)) g gn h hn → IsWider round (IsReachedBefore rows front (i + 1)) f fn h hn
front_goes_on rows front i a here one two =
    still_wider (IsReachedBefore rows front (i + 1))
    (λ b t. (t.0, (omega (arith, t.1.0), t.1.1)))
    (λ b u. (i, (omega arith, (a, (here, u)))))
    (λ b v. elim (cases_lt v.0 i) [
      | inl low ↦ inl (v.0, (low, v.1.1))
      | inr high ↦ inr (subst (λ x. Reaches rows x b) (same_Some v.1.1.0 a (sym v.1.1.1.0 ∙ (ap (slice_get front) (at_end v.0 high v.1.0) ∙ here))) v.1.1.1.1)
    ])
    one two
  where
    at_end : (k : ℕ) → i ≤ k → k < i + 1 → k ≡ i
    at_end k high low = omega arith

pub front_ends : {round : ℕ} {f g : List (Option ℕ)} {fn gn : List ℕ} (rows : List (List Link)) (front : List ℕ) (i : ℕ) → length front ≤ i →
    IsWider round (IsReachedBefore rows front i) f fn g gn → IsWider round (IsReachedBy rows front) f fn g gn
front_ends rows front i long one =
    record {
      size = one.size;
      kept = one.kept;
      fresh = λ b n e. elim (one.fresh b n e) [
        | inl old ↦ inl old
        | inr (is, (t, c)) ↦ inr (is, ((t.0, t.1.1), c))
      ];
      all = λ b t within. one.all b (t.0, (before t.0 t.1.0 t.1.1.0, t.1)) within;
      still_listed = one.still_listed;
      newly_listed = one.newly_listed;
      count = one.count;
    }
  where
    before : (k a : ℕ) → slice_get front k ≡ Some a → k < i
    before k a e = omega (arith, slice_get_within front k a e)

-- # Rounds

abbrev no_hop : Option ℕ
no_hop = None

-- no node has hops
abbrev nobody : ℕ → List (Option ℕ)
nobody n = replicate n no_hop

-- the coordinator alone has hops
abbrev begun : ℕ → List (Option ℕ)
begun n = set (nobody n) 0 (Some 0)

begins : (n : ℕ) → 0 < n → slice_get (begun n) 0 ≡ Some (Some 0)
begins n some = slice_get-set (nobody n) 0 (Some 0) (omega (arith, length-replicate n no_hop))

nobody_has : (n : ℕ) → 0 < n → slice_get (nobody n) 0 ≡ Some None
nobody_has n some =
    let long : 0 < length (nobody n) = omega (arith, length-replicate n no_hop) in
    let e : slice_get (nobody n) 0 ≡ Some (get_or (nobody n) 0 None) = slice_get-get_or (nobody n) 0 None long in
    e ∙ ap Some (sym (slice_get-replicate n 0 no_hop (get_or (nobody n) 0 None) e))

differ_hops : (n : ℕ) → no_hop ≡ Some n → ⊥
differ_hops n e = cc

begins_first : (n b m : ℕ) → slice_get (begun n) b ≡ Some (Some m) → b ≡ 0
begins_first n b m e = elim (cases_eq b 0) [
  | inl same ↦ same
  | inr other ↦ absurd (differ_hops m (slice_get-replicate n b no_hop (Some m) (sym (slice_get-set_other (nobody n) 0 b (Some 0) other) ∙ e)))
]

begins_zero : (n b m : ℕ) → 0 < n → slice_get (begun n) b ≡ Some (Some m) → m ≡ 0
begins_zero n b m some e =
    same_Some m 0 (same_Some (Some m) (Some 0) (sym e ∙ (ap (slice_get (begun n)) (begins_first n b m e) ∙ begins n some)))

no_links : (rows : List (List Link)) (b n : ℕ) → n ≤ 0 → HasPath rows n b → b ≡ 0
no_links rows b zero low p = p
no_links rows b (suc n) low p = absurd (omega arith)

one_listed : (b : ℕ) → Contains (0 ∷ []) b → b ≡ 0
one_listed b (zero, low, is) = sym is
one_listed b (suc k, low, is) = absurd (omega arith)

first_path : (rows : List (List Link)) (b m : ℕ) → m ≡ 0 → b ≡ 0 → HasPath rows m b
first_path rows b zero none is = is
first_path rows b (suc m) none is = absurd (omega arith)

-- the first round: the coordinator, if there is one
pub first_round : (rows : List (List Link)) → 0 < length rows →
    AreAtMost rows 0 (set (replicate (length rows) None) 0 (Some 0)) (0 ∷ [])
first_round rows some =
    record {
      size = length-set (nobody (length rows)) 0 (Some 0) ∙ length-replicate (length rows) no_hop;
      path = λ b n e. first_path rows b n (begins_zero (length rows) b n some e) (begins_first (length rows) b n e);
      low = λ b n e. omega (arith, begins_zero (length rows) b n some e);
      shortest = λ b n low within p. (0, (ap (slice_get (begun (length rows))) (no_links rows b n low p) ∙ begins (length rows) some, omega arith));
      listed = λ b e. (0, omega arith, sym (begins_first (length rows) b 0 e));
      only = λ b c. ap (slice_get (begun (length rows))) (one_listed b c) ∙ begins (length rows) some;
      room = omega (
        arith,
        none_counted (nobody (length rows)) 0 0 (nobody_has (length rows) some),
        count_by-le-length is_none (nobody (length rows)),
        length-replicate (length rows) no_hop,
      );
    }

-- a node that reaches another is on the line
reaches_within : (rows : List (List Link)) (a b : ℕ) → Reaches rows a b → a < length rows
unfolding hearers
reaches_within rows a b r = elim (cases_lt a (length rows)) [
  | inl low ↦ low
  | inr past ↦
      (let none : slice_get rows a ≡ None = slice_get_past rows a past in
      let nobody : hearers rows a ≡ [] = ap (λ o. elim o as (λ (_ : Option (List Link)). List Link) [ None ↦ [] | Some row ↦ row ]) none in
      let no : slice_get (hearers rows a) r.0 ≡ None = ap (λ links. slice_get links r.0) nobody in
      absurd (differ r.1.0 (sym no ∙ r.1.1.0)))
]
  where
    differ : (l : Link) → None ≡ Some l → ⊥
    differ l e = cc

-- a list is not empty
pub some_left : (n : ℕ) → false ≡ (n == 0) → 0 < n
some_left zero e = cc
some_left (suc n) e = omega arith

pub none_left : (n : ℕ) → true ≡ (n == 0) → n ≡ 0
none_left n e = first_of (grind (arith, nat_tests), search (rules, tests), omega (arith, nat_tests))

pub next_round : {rows : List (List Link)} {round : ℕ} {hops new : List (Option ℕ)} {front next : List ℕ} →
    0 < length front → AreAtMost rows round hops front →
    IsWider (round + 1) (IsReachedBy rows front) hops [] new next → AreAtMost rows (round + 1) new next
next_round {rows} {round} {hops} {new} {front} {next} some now wider =
    record {
      size = wider.size ∙ now.size;
      path = λ b n e. elim (wider.fresh b n e) [
        | inl old ↦ now.path b n old
        | inr (is, (t, c)) ↦ subst (λ m. HasPath rows m b) (sym (is ∙ add-one round))
            (t.1.0, (now.path t.1.0 round (now.only t.1.0 (contains_at front t.0 t.1.0 t.1.1.0)), t.1.1.1))
      ];
      low = low;
      shortest = λ b n le within p. elim (cases_lt n (round + 1)) [
        | inl less ↦ (let r : (m : ℕ) × ((slice_get hops b ≡ Some (Some m)) × (m ≤ n)) = now.shortest b n (omega arith) within p in
            (r.0, (wider.kept b r.0 r.1.0, r.1.1)))
        | inr more ↦ farthest b n (omega arith) within p
      ];
      listed = λ b e. elim (wider.fresh b (round + 1) e) [
        | inl old ↦ absurd (omega (arith, now.low b (round + 1) old))
        | inr (is, (t, c)) ↦ c
      ];
      only = λ b c. elim (wider.newly_listed b c) [
        | inl before ↦ absurd (nothing_listed [] b refl before)
        | inr e ↦ e
      ];
      room = omega (arith, now.room, wider.count);
    }
  where
    low : (b n : ℕ) → slice_get new b ≡ Some (Some n) → n ≤ round + 1
    low b n e = elim (wider.fresh b n e) [
      | inl old ↦ omega (arith, now.low b n old)
      | inr (is, (t, c)) ↦ omega (arith, is)
    ]

    farthest : (b n : ℕ) → n ≡ suc round → b < length rows → HasPath rows n b →
        (m : ℕ) × ((slice_get new b ≡ Some (Some m)) × (m ≤ n))
    farthest b n is within p = at_last (subst (λ m. HasPath rows m b) is p)
      where
        widened : (n : ℕ) × (slice_get new b ≡ Some (Some n)) → (m : ℕ) × ((slice_get new b ≡ Some (Some m)) × (m ≤ n))
        widened r = (r.0, (r.1, omega (arith, low b r.0 r.1)))

        at_last : HasPath rows (suc round) b → (m : ℕ) × ((slice_get new b ≡ Some (Some m)) × (m ≤ n))
        at_last (x, (p, reach)) = by_near (now.shortest x round (omega arith) (reaches_within rows x b reach) p)
          where
            by_near : (m : ℕ) × ((slice_get hops x ≡ Some (Some m)) × (m ≤ round)) → (m : ℕ) × ((slice_get new b ≡ Some (Some m)) × (m ≤ n))
            by_near (m, (e, le)) = elim (cases_lt m round) [
              | inl less ↦
                  (let r : (k : ℕ) × ((slice_get hops b ≡ Some (Some k)) × (k ≤ suc m)) =
                  now.shortest b (suc m) (omega arith) within (x, (now.path x m e, reach)) in
                  (r.0, (wider.kept b r.0 r.1.0, omega (arith, r.1.1))))
              | inr same ↦
                  (let here : slice_get hops x ≡ Some (Some round) = e ∙ ap (λ k. Some (Some k)) (omega arith) in
                  let place : (k : ℕ) × (slice_get front k ≡ Some x) = place_of front x (now.listed x here) in
                  widened (wider.all b (place.0, (x, (place.1, reach))) (omega (arith, now.size))))
            ]

-- where no node is new, all nodes have their hops
pub last_round : {rows : List (List Link)} {round : ℕ} {hops : List (Option ℕ)} {front : List ℕ} →
    length front ≡ 0 → AreAtMost rows round hops front → AreHops rows hops
last_round {rows} {round} {hops} {front} none now =
    record { size = now.size; path = now.path; shortest = λ b n. shortest n b }
  where
    shortest : (n b : ℕ) → b < length rows → HasPath rows n b → (m : ℕ) × ((slice_get hops b ≡ Some (Some m)) × (m ≤ n))
    shortest zero b within p = now.shortest b 0 (omega arith) within p
    shortest (suc n) b within (x, (p, reach)) = by_near (shortest n x (reaches_within rows x b reach) p)
      where
        by_near : (m : ℕ) × ((slice_get hops x ≡ Some (Some m)) × (m ≤ n)) → (m : ℕ) × ((slice_get hops b ≡ Some (Some m)) × (m ≤ suc n))
        by_near (m, (e, le)) = elim (cases_lt m round) [
          | inl less ↦
              (let r : (k : ℕ) × ((slice_get hops b ≡ Some (Some k)) × (k ≤ suc m)) =
              now.shortest b (suc m) (omega arith) within (x, (now.path x m e, reach)) in
              (r.0, (r.1.0, omega (arith, r.1.1))))
          | inr same ↦
              (let here : slice_get hops x ≡ Some (Some round) = e ∙ ap (λ k. Some (Some k)) (omega (arith, now.low x m e)) in
              absurd (nothing_listed front x none (now.listed x here)))
        ]

-- a line without nodes
pub no_nodes : (rows : List (List Link)) (hops : List (Option ℕ)) → length hops ≡ length rows → length hops ≡ 0 → AreHops rows hops
no_nodes rows hops size none =
    record {
      size = size;
      path = λ b n e. absurd (omega (arith, none, slice_get_within hops b (Some n) e));
      shortest = λ b n within p. absurd (omega (arith, none, size));
    }
