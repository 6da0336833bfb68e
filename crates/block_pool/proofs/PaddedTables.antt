-- A table with a slot more, which no chain has, is of the same chains.
use Rattle.std.proofs.Common.{◌≡◌, ℕ, zero, suc, ◌<◌, ◌≤◌, inl, inr, nat_lt, if◌then◌else◌, List, [], ◌∷◌, ◌++◌, length, set, refl, sym, ap, subst}
use Rattle.std.proofs.Common.{◌∙◌, arith, length-append, Result, Ok, Err, IsOk, is_ok}
use Rattle.std.proofs.lemmas.Bool.{cases_lt, cond-true, cond-false, lt-ltb, le-ltb}
use Rattle.std.proofs.lemmas.List.Sums.{sum_by_push}
use Rattle.std.specs.List.{sum_by}
use Rattle.block_pool.specs.Hops.{hop}
use Rattle.block_pool.specs.Region.{Spot, spot_of, IsSpot, next_of}
use Rattle.block_pool.specs.Table.{no_slot, slot_at, blocks_in, padded, start_of, size_of, IsLaid, Covers, chains_of}
use Rattle.block_pool.specs.declared.region.Blocks.{Blocks}
use Rattle.block_pool.specs.declared.pool.Slot.{Slot}
use Rattle.block_pool.proofs.Chains.{same_maps}
use Rattle.block_pool.proofs.Contents.{get-chains, contents_kept}

slot_pushed : (t : List Slot) (q : ℕ) → slot_at (t ++ no_slot ∷ []) q ≡ slot_at t q
slot_pushed [] zero = refl
slot_pushed [] (suc q) = refl
slot_pushed (s ∷ t) zero = refl
slot_pushed (s ∷ t) (suc q) = slot_pushed t q

there : (t : List Slot) (k : ℕ) → k < length t → padded t k ≡ t
unfolding padded
there t k lt = cond-true (nat_lt k (length t)) t (t ++ no_slot ∷ []) (lt-ltb k (length t) lt)

after : (t : List Slot) (k : ℕ) → length t ≤ k → padded t k ≡ t ++ no_slot ∷ []
unfolding padded
after t k le = cond-false (nat_lt k (length t)) t (t ++ no_slot ∷ []) (le-ltb k (length t) le)

pub same_slots : (t : List Slot) (k q : ℕ) → slot_at (padded t k) q ≡ slot_at t q
same_slots t k q = elim (cases_lt k (length t)) [
  | inl lt ↦ ap (λ u. slot_at u q) (there t k lt)
  | inr le ↦ ap (λ u. slot_at u q) (after t k le) ∙ slot_pushed t q
]

pub same_sum : (t : List Slot) (k : ℕ) → sum_by blocks_in (padded t k) ≡ sum_by blocks_in t
same_sum t k = elim (cases_lt k (length t)) [
  | inl lt ↦ ap (sum_by blocks_in) (there t k lt)
  | inr le ↦ ap (sum_by blocks_in) (after t k le) ∙ omega (arith, sum_by_push blocks_in t no_slot)
]

pub has_room : (t : List Slot) (k : ℕ) → k ≤ length t → k < length (padded t k)
has_room t k le = elim (cases_lt k (length t)) [
  | inl lt ↦ omega (arith, ap length (there t k lt), lt)
  | inr more ↦ omega (arith, ap length (after t k more), length-append t (no_slot ∷ []))
]

pub no_longer : (t : List Slot) (k n : ℕ) → length t ≤ n → k < n → length (padded t k) ≤ n
no_longer t k n le lt = elim (cases_lt k (length t)) [
  | inl less ↦ omega (arith, ap length (there t k less))
  | inr more ↦ omega (arith, ap length (after t k more), length-append t (no_slot ∷ []))
]

-- the table once a slot was pushed is the padded one with that slot
set_last : (t : List Slot) (s : Slot) (k : ℕ) → k ≡ length t → set (t ++ no_slot ∷ []) k s ≡ t ++ s ∷ []
set_last [] s k e = ap (λ i. set (no_slot ∷ []) i s) e
set_last (x ∷ t) s k e =
    ap (λ i. set (x ∷ t ++ no_slot ∷ []) i s) e ∙ ap (λ u. x ∷ u) (set_last t s (length t) refl)

pub set_here : (t : List Slot) (s : Slot) (k : ℕ) → k < length t → set t k s ≡ set (padded t k) k s
set_here t s k lt = ap (λ u. set u k s) (sym (there t k lt))

pub set_pushed : (t : List Slot) (s : Slot) (k : ℕ) → k ≡ length t → t ++ s ∷ [] ≡ set (padded t k) k s
set_pushed t s k e = sym (set_last t s k e) ∙ ap (λ u. set u k s) (sym (after t k (omega (arith, e))))

module _ (r : Blocks) (x : Spot) (n : ℕ) (t u : List Slot) (same : (q : ℕ) → slot_at u q ≡ slot_at t q) where
  laid_same : IsLaid r x n t → IsLaid r x n u
  laid_same laid =
      let Q : Spot → ℕ → ℕ → Type 0 = λ z c i. IsSpot r z × (laid.0 z ≡ (c, i)) in (
        laid.0,
        λ c. elim c as (λ c. (i : ℕ) → i < size_of n u c → Q (hop (next_of r) (start_of x u c) i) c i) [
          | zero ↦ λ i li. laid.1 0 i li
          | suc c ↦ λ i li. subst (λ w. Q (hop (next_of r) (spot_of w.first) i) (suc c) i) (sym (same c))
              (laid.1 (suc c) i (subst (λ w. i < blocks_in w) (same c) li))
        ],
      )

  covers_same : Covers r x n t → Covers r x n u
  covers_same covers z is =
      let Goal : Type 0 = (c : ℕ) × (i : ℕ) × (i < size_of n u c) × (z ≡ hop (next_of r) (start_of x u c) i) in
      let by_string : (c i : ℕ) → i < size_of n t c → z ≡ hop (next_of r) (start_of x t c) i
      → Goal = λ c. elim c as (λ c. (i : ℕ) → i < size_of n t c → z ≡ hop (next_of r) (start_of x t c) i → Goal) [
        | zero ↦ λ i li at. (0, i, li, at)
        | suc d ↦ λ i li at. (
          suc d,
          i,
          subst (λ w. i < blocks_in w) (sym (same d)) li,
          at ∙ ap (λ w. hop (next_of r) (spot_of w.first) i) (sym (same d)),
        )
      ] in
      let h = covers z is in by_string h.0 h.1 h.2 h.3

pub laid_padded : (r : Blocks) (x : Spot) (n k : ℕ) (t : List Slot) → IsLaid r x n t → IsLaid r x n (padded t k)
laid_padded r x n k t laid = laid_same r x n t (padded t k) (same_slots t k) laid

pub covers_padded : (r : Blocks) (x : Spot) (n k : ℕ) (t : List Slot) → Covers r x n t → Covers r x n (padded t k)
covers_padded r x n k t covers = covers_same r x n t (padded t k) (same_slots t k) covers

pub chains_padded : (r : Blocks) (k : ℕ) (t : List Slot) → chains_of r (padded t k) ≡ chains_of r t
chains_padded r k t = same_maps _ _ (λ q.
    get-chains r (padded t k) q ∙ contents_kept r r t (padded t k) q (same_slots t k q) (λ p lt. refl) ∙ sym (get-chains r t q))

-- a push that did not fail
if_ok : {X F : Type 0} (r : Result X F) (more same new : List Slot) → IsOk r → new ≡ (if is_ok r then more else same) → new ≡ more
if_ok (Ok x) more same new ok e = e
if_ok (Err f) more same new ok e = absurd cc

pub pushed : {X F : Type 0} (r : Result X F) (t new : List Slot) (s : Slot) (k : ℕ) → k ≡ length t → IsOk r
    → new ≡ (if is_ok r then t ++ s ∷ [] else t) → new ≡ set (padded t k) k s
pushed r t new s k last ok e = if_ok r (t ++ s ∷ []) t new ok e ∙ set_pushed t s k last
