-- What is looked up in a table where an entry came.
use Rattle.std.proofs.Common.{◌≡◌, ◌≢◌, ◌⊎◌, inl, inr, ℕ, zero, suc, ◌<◌, ◌≤◌, Bool, true, false, cond, List, [], ◌∷◌, ◌++◌, Option, Some, None, length, set}
use Rattle.std.proofs.Common.{get_or, refl, sym, ap, subst, ◌∙◌, arith}
use Rattle.std.specs.Prelude.{◌==◌, nat_lt, is_some, slice_get, IfSome}
use Rattle.std.specs.List.{find, position_or_len}
use Rattle.std.specs.Option.{option_and_then, option_or}
use Rattle.std.proofs.lemmas.Bool.{cases_eq, cases_lt}
use Rattle.std.proofs.lemmas.Bool.Decides.{nat_tests}
use Rattle.std.proofs.lemmas.List.{get_or-set_same, get_or-set_other, length-set}
use Rattle.std.proofs.lemmas.List.Folds.{find_at, find-set, find_past, find-append}
use Rattle.std.proofs.lemmas.Option.{slice_get_past, slice_get_within, slice_get-get_or}
use Rattle.store_tables.specs.SlotTables.{IsTable}
use Rattle.store_tables.proofs.SlotTables.{found, apart, free_new, free_found, IsTable-set, IsTable-push}
use Rattle.routing_set.specs.declared.entry.RoutingEntry.{RoutingEntry}
use Rattle.routing_set.specs.RoutingSet.{ranks, place_of, entry_of}
use Rattle.routing_set.specs.Laws.{Among}

-- whether an entry is that of an address
abbrev pub is_at : ℕ → RoutingEntry → Bool
is_at dest e = e.address == dest

pub is_at-true : (dest : ℕ) (e : RoutingEntry) → e.address ≡ dest → is_at dest e ≡ true
is_at-true dest e h = grind (arith, nat_tests)

pub is_at-false : (dest : ℕ) (e : RoutingEntry) → e.address ≢ dest → is_at dest e ≡ false
is_at-false dest e h = grind (arith, nat_tests)

-- the entry of an address is the first one that has it
pub entry_of-find : (entries : List RoutingEntry) (dest : ℕ) → entry_of entries dest ≡ find (is_at dest) entries
entry_of-find entries dest = by_within (nat_lt (position_or_len (is_at dest) entries) (length entries)) refl
  where
    by_within : (within : Bool) → nat_lt (position_or_len (is_at dest) entries) (length entries) ≡ within → entry_of entries dest ≡ find (is_at dest) entries
    by_within true is =
        ap (λ (b : Bool). option_and_then (slice_get entries) (cond b (Some (position_or_len (is_at dest) entries)) None)) is
        ∙ sym (find_at (is_at dest) entries)
    by_within false is =
        let past : length entries ≤ position_or_len (is_at dest) entries = grind (arith, nat_tests) in
        ap (λ (b : Bool). option_and_then (slice_get entries) (cond b (Some (position_or_len (is_at dest) entries)) None)) is
        ∙ sym (find_at (is_at dest) entries ∙ slice_get_past entries (position_or_len (is_at dest) entries) past)

-- none has it
find_none : (entries : List RoutingEntry) (dest : ℕ) → place_of entries dest ≡ None → find (is_at dest) entries ≡ None
find_none entries dest e = sym (entry_of-find entries dest) ∙ ap (option_and_then (slice_get entries)) e

find_place : (entries : List RoutingEntry) (dest place : ℕ) → place_of entries dest ≡ Some place → find (is_at dest) entries ≡ slice_get entries place
find_place entries dest place e = sym (entry_of-find entries dest) ∙ ap (option_and_then (slice_get entries)) e

first_place : (entries : List RoutingEntry) (dest place : ℕ) → place_of entries dest ≡ Some place → place ≡ position_or_len (is_at dest) entries
first_place entries dest place e = by_within (nat_lt (position_or_len (is_at dest) entries) (length entries)) (position_or_len (is_at dest) entries) e
  where
    by_within : (within : Bool) (k : ℕ) → cond within (Some k) None ≡ Some place → place ≡ k
    by_within true k h = cc
    by_within false k h = absurd (cc (h))

none_by : (p : RoutingEntry → Bool) (entries : List RoutingEntry) (d : RoutingEntry) → ((k : ℕ) → k < length entries → p (get_or entries k d) ≡ false)
    → find p entries ≡ None
none_by p [] d h = refl
none_by p (x ∷ entries) d h = ap (λ (b : Bool). cond b (Some x) (find p entries)) (h 0 (omega arith)) ∙ none_by p entries d (λ k w. h (suc k) (omega arith))

-- a new address at a place
set_new : (p : RoutingEntry → Bool) (entries : List RoutingEntry) (place : ℕ) (e : RoutingEntry) → find p entries ≡ None → place < length entries → p e ≡ true
    → find p (set entries place e) ≡ Some e
set_new p [] place e none within is = absurd (omega arith)
set_new p (x ∷ entries) zero e none within is = ap (λ (b : Bool). cond b (Some e) (find p entries)) is
set_new p (x ∷ entries) (suc place) e none within is = by_first (p x) refl (set_new p entries place e)
  where
    fails : (b : Bool) (o : Option RoutingEntry) → cond b (Some x) o ≡ None → (b ≡ false) × (o ≡ None)
    fails true o h = absurd (cc (h))
    fails false o h = (refl, h)

    by_first : (b : Bool) → p x ≡ b → (find p entries ≡ None → place < length entries → p e ≡ true → find p (set entries place e) ≡ Some e)
        → cond (p x) (Some x) (find p (set entries place e)) ≡ Some e
    by_first b same more =
        let f = fails (p x) (find p entries) none in
        ap (λ (c : Bool). cond c (Some x) (find p (set entries place e))) f.0 ∙ more f.1 (omega arith) is

-- What is found where an entry came, in the place of another one that is gone, if there is one.
pub record Came (old new : List RoutingEntry) (e : RoutingEntry) (gone : Option RoutingEntry) : Type 0 where
  pub here : find (is_at e.address) new ≡ Some e
  pub away : (dest : ℕ) → dest ≢ e.address → IfSome gone (λ g. dest ≢ g.address) → find (is_at dest) new ≡ find (is_at dest) old
  pub lost : IfSome gone (λ g. (g.address ≢ e.address) × (find (is_at g.address) new ≡ None) × (find (is_at g.address) old ≡ Some g))
  pub sound : IsTable ranks new

-- in the place of its address
pub came_held : (entries : List RoutingEntry) (e : RoutingEntry) (place : ℕ) → IsTable ranks entries → place_of entries e.address ≡ Some place
    → Came entries (set entries place e) e None
came_held entries e place h at =
    let there = found ranks entries e.address place e at in
    record {
      here = find-set (is_at e.address) entries place e (first_place entries e.address place at) there.0 (is_at-true e.address e refl);
      away = λ dest ne other. find_past (is_at dest) entries place e e (is_at-false dest (get_or entries place e) (λ same. ne (sym same ∙ there.1)))
          (is_at-false dest e (λ same. ne (sym same)));
      lost = tt;
      sound = IsTable-set ranks entries place e h there.0 (free_found ranks entries e.address place h at);
    }

-- after the others
pub came_new : (entries : List RoutingEntry) (e : RoutingEntry) → IsTable ranks entries → place_of entries e.address ≡ None → length entries < 64
    → Came entries (entries ++ e ∷ []) e None
came_new entries e h at room = record {
  here =
      find-append (is_at e.address) entries (e ∷ []) ∙ ap (λ o. option_or o (find (is_at e.address) (e ∷ []))) (find_none entries e.address at)
      ∙ ap (λ (b : Bool). cond b (Some e) None) (is_at-true e.address e refl);
  away = λ dest ne other.
      find-append (is_at dest) entries (e ∷ [])
      ∙ ap (λ (b : Bool). option_or (find (is_at dest) entries) (cond b (Some e) None)) (is_at-false dest e (λ same. ne (sym same)))
      ∙ or_none (find (is_at dest) entries);
  lost = tt;
  sound = IsTable-push ranks entries e h room (free_new ranks entries e.address (length entries) (ap is_some at));
}
  where
    or_none : (o : Option RoutingEntry) → option_or o None ≡ o
    or_none None = refl
    or_none (Some x) = refl

-- in the place of another one
pub came_gone : (entries : List RoutingEntry) (e g : RoutingEntry) (place : ℕ) → IsTable ranks entries → place_of entries e.address ≡ None → Among entries g
    → place_of entries g.address ≡ Some place → Came entries (set entries place e) e (Some g)
came_gone entries e g place h new among at = record {
  here = set_new (is_at e.address) entries place e (find_none entries e.address new) there.0 (is_at-true e.address e refl);
  away = λ dest ne other. find_past (is_at dest) entries place e e
      (is_at-false dest (get_or entries place e) (λ same. other (sym same ∙ (found ranks entries g.address place e at).1)))
      (is_at-false dest e (λ same. ne (sym same)));
  lost = (
    differs,
    none_by (is_at g.address) (set entries place e) e others,
    find_place entries g.address place at ∙ subst (λ (k : ℕ). slice_get entries k ≡ Some g) same_place among.there,
  );
  sound = IsTable-set ranks entries place e h there.0 (free_new ranks entries e.address place (ap is_some new));
}
  where
    there : (place < length entries) × ((get_or entries place g).address ≡ g.address)
    there = found ranks entries g.address place g at

    inside : among.place < length entries
    inside = slice_get_within entries among.place g among.there

    is_there : (d : RoutingEntry) → get_or entries among.place d ≡ g
    is_there d = let k = slice_get-get_or entries among.place d inside in cc (k, among.there)

    differs : g.address ≢ e.address
    differs same = apart ranks entries e.address (ap is_some new) among.place g inside (ap (λ (x : RoutingEntry). x.address) (is_there g) ∙ same)

    same_place : among.place ≡ place
    same_place = by_order (cases_eq among.place place)
      where
        by_lower : (among.place < place) ⊎ (place ≤ among.place) → among.place ≢ place → among.place ≡ place
        by_lower (inl lower) ne = absurd (h.distinct among.place place g lower there.0 (ap (λ (x : RoutingEntry). x.address) (is_there g) ∙ sym there.1))
        by_lower (inr higher) ne =
            absurd (h.distinct place among.place g (omega arith) inside (there.1 ∙ sym (ap (λ (x : RoutingEntry). x.address) (is_there g))))

        by_order : (among.place ≡ place) ⊎ (among.place ≢ place) → among.place ≡ place
        by_order (inl same) = same
        by_order (inr ne) = by_lower (cases_lt among.place place) ne

    others : (k : ℕ) → k < length (set entries place e) → is_at g.address (get_or (set entries place e) k e) ≡ false
    others k within = by_place (cases_eq k place)
      where
        long : k < length entries
        long = omega (arith, length-set entries place e)

        at_e : (get_or entries place e).address ≡ g.address
        at_e = (found ranks entries g.address place e at).1

        by_lower : (k < place) ⊎ (place ≤ k) → k ≢ place → (get_or entries k e).address ≢ g.address
        by_lower (inl lower) ne same = h.distinct k place e lower there.0 (same ∙ sym at_e)
        by_lower (inr higher) ne same = h.distinct place k e (omega arith) long (at_e ∙ sym same)

        by_place : (k ≡ place) ⊎ (k ≢ place) → is_at g.address (get_or (set entries place e) k e) ≡ false
        by_place (inl same) =
            ap (λ (j : ℕ). is_at g.address (get_or (set entries place e) j e)) same ∙ ap (is_at g.address) (get_or-set_same entries place e e there.0)
            ∙ is_at-false g.address e (λ same. differs (sym same))
        by_place (inr ne) =
            ap (is_at g.address) (get_or-set_other entries place k e e ne) ∙ is_at-false g.address (get_or entries k e) (by_lower (cases_lt k place) ne)
