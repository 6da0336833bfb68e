-- Whether a path leads to every node, by the hops of all.
use Rattle.std.proofs.Common.{◌≡◌, ℕ, zero, suc, ◌<◌, ◌≤◌, true, false, List, [], ◌∷◌, Option, Some, None, length, get_or, refl, sym, ap, ◌∙◌}
use Rattle.std.proofs.Common.{arith}
use Rattle.std.proofs.lemmas.Bool.{and_parts, and_from}
use Rattle.std.proofs.lemmas.Option.{slice_get-get_or, slice_get_within}
use Rattle.std.specs.Prelude.{slice_get, is_some}
use Rattle.std.specs.List.{list_all}
use Rattle.line_place.specs.declared.link.Link.{Link}
use Rattle.line_place.specs.Hops.{HasPath, AreHops, AllHavePaths}

all_at : (xs : List (Option ℕ)) (k : ℕ) (x : Option ℕ) → list_all is_some xs ≡ true → slice_get xs k ≡ Some x → is_some x ≡ true
all_at [] k x all e = cc
all_at (y ∷ ys) zero x all e =
    let here : is_some y ≡ true = (and_parts (is_some y) (list_all is_some ys) all).0 in
    let same : y ≡ x = cc in
    ap is_some (sym same) ∙ here
all_at (y ∷ ys) (suc k) x all e = all_at ys k x (and_parts (is_some y) (list_all is_some ys) all).1 e

all_from : (xs : List (Option ℕ)) → ((k : ℕ) (x : Option ℕ) → slice_get xs k ≡ Some x → is_some x ≡ true) → list_all is_some xs ≡ true
all_from [] each = refl
all_from (y ∷ ys) each = and_from (is_some y) (list_all is_some ys) (each 0 y refl) (all_from ys (λ k x e. each (suc k) x e))

pub all_have_paths : {rows : List (List Link)} {hops : List (Option ℕ)} → AreHops rows hops → list_all is_some hops ≡ true → AllHavePaths rows
all_have_paths {rows} {hops} are all b within = by_hops (get_or hops b None) (slice_get-get_or hops b None (omega (arith, are.size)))
  where
    by_hops : (x : Option ℕ) → slice_get hops b ≡ Some x → (n : ℕ) × HasPath rows n b
    by_hops None e = (let no : false ≡ true = all_at hops b None all e in cc)
    by_hops (Some n) e = (n, are.path b n e)

pub all_have_hops : {rows : List (List Link)} {hops : List (Option ℕ)} → AreHops rows hops → AllHavePaths rows → list_all is_some hops ≡ true
all_have_hops {rows} {hops} are paths = all_from hops each
  where
    each : (k : ℕ) (x : Option ℕ) → slice_get hops k ≡ Some x → is_some x ≡ true
    each k x e =
        let within : k < length rows = omega (arith, are.size, slice_get_within hops k x e) in
        let path : (n : ℕ) × HasPath rows n k = paths k within in
        let short : (m : ℕ) × ((slice_get hops k ≡ Some (Some m)) × (m ≤ path.0)) = are.shortest k path.0 within path.1 in
        let same : x ≡ Some short.0 = cc in
        ap is_some same
