-- Lemmas of counts: each reading of a meter came, or is missing; and a line of one node more.
use Rattle.std.proofs.Common.{arith, ◌≡◌, ◌∙◌, ◌+◌, ◌&&◌, ◌++◌, ◌∷◌, [], ℕ, Bool, true, false, not, cond, List, ap, sym, refl, filter, is_some}
use Rattle.std.specs.List.{fold, range_with_len}
use Rattle.std.proofs.lemmas.List.{append-nil, map-id}
use Rattle.std.proofs.lemmas.List.FromFn.{filter_of_map_range_with_len_more}
use Rattle.line_readings.specs.declared.reading.Reading.{Reading}
use Rattle.line_readings.specs.Readings.{came_of, due_of, has_come, is_missing, is_of, is_spare, metered, missing_of, with_node}

one : (of come : Bool) (a b c : ℕ) → a + b ≡ c → (a + cond (of && come) 1 0) + (b + cond (of && not come) 1 0) ≡ c + cond of 1 0
one true true a b c is = omega (arith, is)
one true false a b c is = omega (arith, is)
one false come a b c is = omega (arith, is)

sums : (node : ℕ) (rs : List Reading) (a b c : ℕ) → a + b ≡ c
    → fold (λ n r. n + cond (has_come node r) 1 0) a rs + fold (λ n r. n + cond (is_missing node r) 1 0) b rs
    ≡ fold (λ n r. n + cond (is_of node r) 1 0) c rs
sums node [] a b c is = is
sums node (r ∷ rs) a b c is = sums node rs _ _ _ (one (is_of node r) (is_some r.came) a b c is)

-- each reading of a meter came, or is missing
pub came_and_missing : (node : ℕ) (rs : List Reading) → came_of node rs + missing_of node rs ≡ due_of node rs
came_and_missing node rs = sums node rs 0 0 0 refl

range_more : (p : ℕ → Bool) (n : ℕ)
    → filter p (range_with_len 1 (n + 1)) ≡ filter p (range_with_len 1 n) ++ cond (p (n + 1)) ((n + 1) ∷ []) []
range_more p n =
    ap (filter p) (sym (map-id (range_with_len 1 (n + 1))))
    ∙ filter_of_map_range_with_len_more p (λ (x : ℕ). x) 1 n (n + 1) (omega arith)
    ∙ ap (λ xs. filter p xs ++ cond (p (n + 1)) ((n + 1) ∷ []) []) (map-id (range_with_len 1 n))

by_spare : (spare : Bool) (node : ℕ) (meters : List ℕ)
    → meters ++ cond (not spare) (node ∷ []) [] ≡ with_node spare node meters
by_spare true node meters = append-nil meters
by_spare false node meters = refl

-- one node more
pub one_node_more : (spares : List ℕ) (n : ℕ)
    → metered spares (n + 1) ≡ with_node (is_spare (n + 1) spares) (n + 1) (metered spares n)
one_node_more spares n =
    range_more (λ (node : ℕ). not (is_spare node spares)) n ∙ by_spare (is_spare (n + 1) spares) (n + 1) (metered spares n)
