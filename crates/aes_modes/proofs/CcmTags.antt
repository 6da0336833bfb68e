-- The blocks under a tag of CCM.
use Rattle.std.proofs.Common.{◌≡◌, ℕ, zero, suc, ◌+◌, ◌-◌, ◌%◌, ◌<◌, ◌≤◌, eqb, List, [], ◌∷◌, ◌++◌, length, take, drop, replicate, refl, sym, ap, ◌∙◌, ◌⊎◌, inl}
use Rattle.std.proofs.Common.{inr, arith, if◌then◌else◌, ◌==◌, ◌*◌, ◌/◌}
use Rattle.std.specs.Int.{w16, to_be_bytes}
use Rattle.std.proofs.lemmas.Bool.{cond-true, cond-false, eq-eqb, ne_eqb, cases_eq}
use Rattle.std.proofs.lemmas.List.{append-nil, append_assoc, take_all, drop_all, length-append, length-drop, length-replicate, length-take-le, take-append-drop}
use Rattle.std.proofs.lemmas.List.{drop-replicate}
use Rattle.aes_modes.specs.Cipher.{xor_bytes, encrypted}
use Rattle.aes_modes.specs.Chains.{zero_block, padded, chained_all}
use Rattle.aes_modes.specs.Ccm.{ccm_first_block, ccm_header_blocks, ccm_mac}
use Rattle.aes_modes.proofs.Chains.{chained_all-append, chained_all_one}

xor_bytes-zeros : (n : ℕ) (b : List ℕ) → length b ≡ n → xor_bytes (replicate n 0) b ≡ b
xor_bytes-zeros zero [] h = refl
xor_bytes-zeros zero (y ∷ b) h = absurd (omega arith)
xor_bytes-zeros (suc n) [] h = absurd (omega arith)
xor_bytes-zeros (suc n) (y ∷ b) h = ap (λ (x : List ℕ). y ∷ x) (xor_bytes-zeros n b (omega arith))

length-padded : (m : List ℕ) → length (padded m) % 16 ≡ 0
length-padded m =
    omega (arith, length-append m (replicate ((16 - length m % 16) % 16) 0), length-replicate {A = ℕ} ((16 - length m % 16) % 16) 0)

pub ccm_head_none : (header : List ℕ) → length header ≡ 0 → ccm_header_blocks header ≡ []
ccm_head_none header none = cond-true (eqb (length header) 0) _ _ (eq-eqb (length header) 0 none)

ccm_head_some : (header : List ℕ) → 0 < length header → ccm_header_blocks header ≡ padded (to_be_bytes w16 (length header) ++ header)
ccm_head_some header some = cond-false (eqb (length header) 0) _ _ (ne_eqb (length header) 0 (λ e. omega arith))

length-ccm_header_blocks : (header : List ℕ) → length (ccm_header_blocks header) % 16 ≡ 0
length-ccm_header_blocks header =
    elim (cases_eq (length header) 0) [
      | inl none ↦ ap (λ (x : List ℕ). length x % 16) (ccm_head_none header none)
      | inr some ↦
          ap (λ (x : List ℕ). length x % 16) (ccm_head_some header (omega arith))
          ∙ length-padded (to_be_bytes w16 (length header) ++ header)
    ]

length-ccm_first_block : (n : ℕ) (nonce header m : List ℕ) → length nonce ≡ 13 → length (ccm_first_block n nonce header m) ≡ 16
length-ccm_first_block n nonce header m len =
    ap suc (length-append nonce (to_be_bytes w16 (length m)) ∙ ap (λ (k : ℕ). k + 2) len)

pub ccm_mac_is : (n : ℕ) (key nonce header m : List ℕ) → length nonce ≡ 13
    → chained_all key (chained_all key (encrypted key (ccm_first_block n nonce header m)) (ccm_header_blocks header)) (padded m)
    ≡ ccm_mac n key nonce header m
unfolding ccm_mac
ccm_mac_is n key nonce header m len =
    let first : List ℕ = ccm_first_block n nonce header m in
    let head : List ℕ = ccm_header_blocks header in
    let lf : length first ≡ 16 = length-ccm_first_block n nonce header m len in
    let lh : length head % 16 ≡ 0 = length-ccm_header_blocks header in
    let e1 : chained_all key zero_block first ≡ encrypted key first =
    chained_all_one key zero_block first lf ∙ ap (encrypted key) (xor_bytes-zeros 16 first lf) in
    let e2 : chained_all key zero_block (first ++ head) ≡ chained_all key (encrypted key first) head =
    chained_all-append key zero_block first head (omega arith) ∙ ap (λ (x : List ℕ). chained_all key x head) e1 in
    sym (chained_all-append key zero_block (first ++ head) (padded m) (omega (arith, length-append first head))
    ∙ ap (λ (x : List ℕ). chained_all key x (padded m)) e2)

-- the first block of a header, and its others
head_parts : (l header : List ℕ) (c : ℕ) → length l ≡ 2
    → ((c ≡ length header) × (c ≤ 14)) ⊎ ((c ≡ 14) × (14 < length header))
    → (l ++ take c header ++ replicate (14 - c) 0) ++ padded (drop c header) ≡ padded (l ++ header)
head_parts l header c len (inl h) =
    let all : take c header ≡ header = take_all c header (omega (arith, h.0)) in
    let none : drop c header ≡ [] = drop_all c header (omega (arith, h.0)) in
    let pad : 14 - c ≡ (16 - length (l ++ header) % 16) % 16 = omega (arith, length-append l header, h.0, h.1) in
    (λ i. (l ++ all i ++ replicate (pad i) 0) ++ padded (none i)) ∙ append-nil (padded (l ++ header))
head_parts l header c len (inr h) =
    let zero_pad : 14 - c ≡ 0 = omega (arith, h.0) in
    let first : List ℕ = l ++ take c header in
    let rest : List ℕ = drop c header in
    let whole : first ++ rest ≡ l ++ header =
    append_assoc l (take c header) (drop c header) ∙ ap (λ (x : List ℕ). l ++ x) (take-append-drop c header) in
    let count : (16 - length rest % 16) % 16 ≡ (16 - length (l ++ header) % 16) % 16 =
    omega (arith, length-append l header, length-drop c header, h.0, h.1) in
    (λ i. (first ++ replicate (zero_pad i) 0) ++ (rest ++ replicate (count i) 0))
    ∙ (λ i. append-nil first i ++ (rest ++ replicate ((16 - length (l ++ header) % 16) % 16) 0))
    ∙ sym (append_assoc first rest (replicate ((16 - length (l ++ header) % 16) % 16) 0))
    ∙ (λ i. whole i ++ replicate ((16 - length (l ++ header) % 16) % 16) 0)

-- a header's chain, from its first block
pub chained_head : (key x header b : List ℕ) (c : ℕ) → 0 < length header
    → ((c ≡ length header) × (c ≤ 14)) ⊎ ((c ≡ 14) × (14 < length header)) → c ≤ 14 → c ≤ length header
    → b ≡ to_be_bytes w16 (length header) ++ take c header ++ replicate (14 - c) 0
    → chained_all key (encrypted key (xor_bytes x b)) (padded (drop c header)) ≡ chained_all key x (ccm_header_blocks header)
chained_head key x header b c some cases low fits eb =
    let l : List ℕ = to_be_bytes w16 (length header) in
    let len : length b ≡ 16 =
    omega (
      arith,
      ap length eb,
      length-append (l ++ take c header) (replicate (14 - c) 0),
      length-append l (take c header),
      length-take-le c header fits,
      length-replicate {A = ℕ} (14 - c) 0,
    ) in
    let whole : b ++ padded (drop c header) ≡ ccm_header_blocks header =
    ap (λ (y : List ℕ). y ++ padded (drop c header)) eb ∙ head_parts l header c refl cases
    ∙ sym (ccm_head_some header some) in
    ap (λ (y : List ℕ). chained_all key y (padded (drop c header))) (sym (chained_all_one key x b len))
    ∙ sym (chained_all-append key x b (padded (drop c header)) (omega arith)) ∙ ap (chained_all key x) whole

-- the block that the code fills
pub head_block : (high low k c : ℕ) (ys : List ℕ) → k ≡ c
    → high ∷ low ∷ (ys ++ drop k (replicate 14 0)) ≡ (high ∷ low ∷ []) ++ ys ++ replicate (14 - c) 0
head_block high low k c ys e =
    ap (λ (z : List ℕ). high ∷ low ∷ (ys ++ z)) (drop-replicate k 14 0 ∙ ap (λ (n : ℕ). replicate (14 - n) 0) e)

pub first_block_by_length : (n : ℕ) (nonce header m k : List ℕ) → length m ≡ length k → ccm_first_block n nonce header m ≡ ccm_first_block n nonce header k
first_block_by_length n nonce header m k len =
    λ i. ((if length header == 0 then 0 else 64) + 8 * ((n - 2) / 2) + 1) ∷ nonce ++ to_be_bytes w16 (len i)
