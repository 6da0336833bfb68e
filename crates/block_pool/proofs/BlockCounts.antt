-- The free blocks, and those that the lengths of the chains take, are together all blocks.
use Rattle.std.proofs.Common.{◌≡◌, ℕ, zero, suc, ◌+◌, ◌-◌, ◌<◌, ◌≤◌, inl, inr, List, [], ◌∷◌, length, refl, sym, ap, subst, ◌∙◌, arith}
use Rattle.std.proofs.lemmas.Bool.{cases_lt}
use Rattle.std.proofs.lemmas.List.Sums.{sum_by-cons}
use Rattle.std.specs.Int.{div_ceil}
use Rattle.std.specs.List.{range_with_len, sum_by}
use Rattle.block_pool.specs.Pool.{PoolState, IsChain, HasBlocks, SameBlocks, chain_octets, chain_blocks, octets_or_none}
use Rattle.block_pool.specs.Table.{slot_at, blocks_in, state_of, IsPool}
use Rattle.block_pool.specs.declared.pool.Slot.{Slot}
use Rattle.block_pool.specs.declared.pool.Pool.TheInside.{Inside}
use Rattle.block_pool.proofs.Callers.{is_chain_if_long}
use Rattle.block_pool.proofs.Contents.{get-chains, contents_none, contents_some, length-octets, found, past}

-- the octets of a chain are those of its slot
octets_long : (p : Inside) (k : ℕ) → length (chain_octets (state_of p) k) ≡ (slot_at p.table.items k).octets
octets_long p k = elim (cases_lt 0 (slot_at p.table.items k).octets) [
  | inl lt ↦ ap length (ap octets_or_none (get-chains p.blocks p.table.items k ∙ contents_some p.blocks p.table.items k lt)) ∙ length-octets p.blocks _ _
  | inr le ↦
      let none : (slot_at p.table.items k).octets ≡ 0 = omega arith in
      ap length (ap octets_or_none (get-chains p.blocks p.table.items k ∙ contents_none p.blocks p.table.items k none)) ∙ sym none
]

sum_range : (g : ℕ → ℕ) (t : List Slot) (a : ℕ) → ((k : ℕ) → k < length t → g (a + k) ≡ blocks_in (slot_at t k))
    → sum_by g (range_with_len a (length t)) ≡ sum_by blocks_in t
sum_range g [] a h = refl
sum_range g (s ∷ t) a h =
    let here : a ≡ a + 0 = omega arith in
    let first : g a ≡ blocks_in s = ap g here ∙ h 0 (omega arith) in
    let more = sum_range g t (a + 1) (λ k lt. let e : a + 1 + k ≡ a + suc k = omega arith in ap g e ∙ h (suc k) (omega arith)) in
    sum_by-cons g a (range_with_len (a + 1) (length t)) ∙ ap (λ n. n + sum_by g (range_with_len (a + 1) (length t))) first ∙ ap (λ n. blocks_in s + n) more
    ∙ sym (sum_by-cons blocks_in s t)

sum_two : (g : ℕ → ℕ) (n d a : ℕ) → sum_by g (range_with_len a (n + d)) ≡ sum_by g (range_with_len a n) + sum_by g (range_with_len (a + n) d)
sum_two g zero d a =
    let start : a ≡ a + 0 = omega arith in let all : 0 + d ≡ d = omega arith in
    let none : sum_by g (range_with_len a 0) ≡ 0 = refl in
    omega (arith, none, ap (λ k. sum_by g (range_with_len a k)) all ∙ ap (λ b. sum_by g (range_with_len b d)) start)
sum_two g (suc n) d a =
    let long : suc n + d ≡ suc (n + d) = omega arith in let start : a + 1 + n ≡ a + suc n = omega arith in
    let first = sum_by-cons g a (range_with_len (a + 1) (n + d)) in let few = sum_by-cons g a (range_with_len (a + 1) n) in
    let rest = sum_two g n d (a + 1) ∙ ap (λ b. sum_by g (range_with_len (a + 1) n) + sum_by g (range_with_len b d)) start in
    ap (λ k. sum_by g (range_with_len a k)) long ∙ omega (arith, first, few, rest)

sum_of_none : (g : ℕ → ℕ) (d a : ℕ) → ((k : ℕ) → a ≤ k → g k ≡ 0) → sum_by g (range_with_len a d) ≡ 0
sum_of_none g zero a none = refl
sum_of_none g (suc d) a none =
    omega (arith, sum_by-cons g a (range_with_len (a + 1) d), none a (omega arith), sum_of_none g d (a + 1) (λ k le. none k (omega arith)))

pub has_blocks : (p : Inside) → IsPool p → HasBlocks (state_of p) p.count
has_blocks p pool =
    let g : ℕ → ℕ = λ c. div_ceil (length (chain_octets (state_of p) c)) 64 in
    let t : List Slot = p.table.items in let more : ℕ = p.count - length t in
    let all : length t + more ≡ p.count = let le = pool.within in omega arith in
    let slots : chain_blocks (state_of p) (length t) ≡ sum_by blocks_in t
    = sum_range g t 0 (λ k lt. let e : 0 + k ≡ k = omega arith in ap g e ∙ ap (λ n. div_ceil n 64) (octets_long p k)) in
    let rest : sum_by g (range_with_len (0 + length t) more) ≡ 0
    = sum_of_none g more (0 + length t) (λ k le. ap (λ n. div_ceil n 64) (octets_long p k ∙ past t k (omega arith))) in
    let chains : chain_blocks (state_of p) p.count ≡ sum_by blocks_in t
    = ap (chain_blocks (state_of p)) (sym all) ∙ sum_two g (length t) more 0 ∙ omega (arith, slots, rest) in
    record {
      total = ap (λ n. p.free.linked + p.free.fresh + n) chains ∙ pool.total;
      numbers = λ c is. let lt = (found p (state_of p) c c refl refl is).within in let le = pool.within in omega arith;
    }

pub has_so_many : (p : Inside) (blocks : ℕ) → IsPool p → p.count ≡ blocks → HasBlocks (state_of p) blocks
has_so_many p blocks pool same = subst (HasBlocks (state_of p)) same (has_blocks p pool)

no_blocks : (p : PoolState) (n c : ℕ) → ((d : ℕ) → IsChain p d → d < n) → n ≤ c → div_ceil (length (chain_octets p c)) 64 ≡ 0
no_blocks p n c numbers le = elim (cases_lt 0 (length (chain_octets p c))) [
  | inl lt ↦ absurd (let bad : c < n = numbers c (is_chain_if_long p c lt) in omega arith)
  | inr none ↦ omega arith
]

-- no pool has two counts of blocks
at_most : (p : PoolState) (n m : ℕ) → HasBlocks p n → HasBlocks p m → m ≤ n
at_most p n m has other = elim (cases_lt n m) [
  | inl lt ↦ absurd (
      let more : ℕ = m - n in let all : n + more ≡ m = omega arith in
      let sum : chain_blocks p m ≡ chain_blocks p n = ap (chain_blocks p) (sym all) ∙ sum_two (λ c. div_ceil (length (chain_octets p c)) 64) n more 0
      ∙ omega (arith, sum_of_none (λ c. div_ceil (length (chain_octets p c)) 64) more (0 + n) (λ k le. no_blocks p n k has.numbers (omega arith))) in
      omega (arith, has.total, other.total, sum))
  | inr le ↦ le
]

one_count : (p : PoolState) (n m : ℕ) → HasBlocks p n → HasBlocks p m → n ≡ m
one_count p n m has other = omega (arith, at_most p n m has other, at_most p m n other has)

pub same_blocks : (p q : Inside) (old : PoolState) → state_of p ≡ old → IsPool p → IsPool q → q.count ≡ p.count
    → SameBlocks old (state_of q)
same_blocks p q old e pool pool' same blocks has =
    let count : p.count ≡ blocks = one_count (state_of p) _ _ (has_blocks p pool) (subst (λ (st : PoolState). HasBlocks st blocks) (sym e) has) in
    subst (HasBlocks (state_of q)) (same ∙ count) (has_blocks q pool')
