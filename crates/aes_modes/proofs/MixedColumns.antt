-- ShiftRows and MixColumns by the sum of an octet and the one of the row after it.
use Rattle.std.proofs.Common.{◌≡◌, ℕ, List, [], ◌∷◌, map, get_or, length, bit_xor, ap, subst, ◌∙◌}
use Rattle.std.specs.Int.Bits.{xor_assoc}
use Rattle.std.proofs.lemmas.Nat.{xor_comm}
use lib.Lanes.{zip2}
use Rattle.aes_modes.specs.LookUps.{entry}
use Rattle.aes_modes.specs.Rounds.{own, next, last, mixed}
use Rattle.aes_modes.specs.declared.cipher.TheConstants.{ROW_AFTER}
use Rattle.aes_modes.proofs.Rounds.{swapped}
use Rattle.aes_modes.proofs.Written.{gets, spelled}

-- twice the octet, the one after it, the one before it, and what the two rows after give
five : (p q r s u : ℕ) → bit_xor (bit_xor (bit_xor p q) r) (bit_xor s u) ≡ bit_xor (bit_xor p (bit_xor s q)) (bit_xor u r)
five p q r s u =
    swapped (bit_xor p q) r s u
    ∙ (λ i. bit_xor ((xor_assoc p q s ∙ ap (bit_xor p) (xor_comm q s)) i) (xor_comm r u i))

abbrev pair : List ℕ → List ℕ → List ℕ
pair once twice = zip2 bit_xor (map (entry twice) own) (map (entry once) next)

abbrev pub by_pairs : List ℕ → List ℕ → List ℕ
by_pairs once twice =
    zip2 bit_xor (zip2 bit_xor (pair once twice) (map (entry once) last)) (map (entry (pair once twice)) ROW_AFTER)

mixed_16 : (o0 o1 o2 o3 o4 o5 o6 o7 o8 o9 o10 o11 o12 o13 o14 o15 t0 t1 t2 t3 t4 t5 t6 t7 t8 t9 t10 t11 t12 t13 t14 t15 : ℕ)
    → by_pairs (o0 ∷ o1 ∷ o2 ∷ o3 ∷ o4 ∷ o5 ∷ o6 ∷ o7 ∷ o8 ∷ o9 ∷ o10 ∷ o11 ∷ o12 ∷ o13 ∷ o14 ∷ o15 ∷ [])
    (t0 ∷ t1 ∷ t2 ∷ t3 ∷ t4 ∷ t5 ∷ t6 ∷ t7 ∷ t8 ∷ t9 ∷ t10 ∷ t11 ∷ t12 ∷ t13 ∷ t14 ∷ t15 ∷ [])
    ≡ mixed (o0 ∷ o1 ∷ o2 ∷ o3 ∷ o4 ∷ o5 ∷ o6 ∷ o7 ∷ o8 ∷ o9 ∷ o10 ∷ o11 ∷ o12 ∷ o13 ∷ o14 ∷ o15 ∷ [])
    (t0 ∷ t1 ∷ t2 ∷ t3 ∷ t4 ∷ t5 ∷ t6 ∷ t7 ∷ t8 ∷ t9 ∷ t10 ∷ t11 ∷ t12 ∷ t13 ∷ t14 ∷ t15 ∷ [])
mixed_16 o0 o1 o2 o3 o4 o5 o6 o7 o8 o9 o10 o11 o12 o13 o14 o15 t0 t1 t2 t3 t4 t5 t6 t7 t8 t9 t10 t11 t12 t13 t14 t15 = λ i.
    five t0 o5 o15 t5 o10 i
    ∷ five t5 o10 o0 t10 o15 i
    ∷ five t10 o15 o5 t15 o0 i
    ∷ five t15 o0 o10 t0 o5 i
    ∷ five t4 o9 o3 t9 o14 i
    ∷ five t9 o14 o4 t14 o3 i
    ∷ five t14 o3 o9 t3 o4 i
    ∷ five t3 o4 o14 t4 o9 i
    ∷ five t8 o13 o7 t13 o2 i
    ∷ five t13 o2 o8 t2 o7 i
    ∷ five t2 o7 o13 t7 o8 i
    ∷ five t7 o8 o2 t8 o13 i
    ∷ five t12 o1 o11 t1 o6 i
    ∷ five t1 o6 o12 t6 o11 i
    ∷ five t6 o11 o1 t11 o12 i
    ∷ five t11 o12 o6 t12 o1 i ∷ []

pub mixed_is : (once twice : List ℕ) → length once ≡ 16 → length twice ≡ 16 → by_pairs once twice ≡ mixed once twice
mixed_is once twice lo lt =
    subst (λ (os : List ℕ). by_pairs os twice ≡ mixed os twice) (spelled 16 once lo)
    (subst (λ (ts : List ℕ). by_pairs (gets 16 0 0 once) ts ≡ mixed (gets 16 0 0 once) ts) (spelled 16 twice lt)
    (let o : ℕ → ℕ = λ k. get_or once k 0 in let t : ℕ → ℕ = λ k. get_or twice k 0 in mixed_16 (o 0) (o 1) (o 2) (o 3) (o 4) (o 5) (o 6) (o 7) (o 8)
    (o 9) (o 10) (o 11) (o 12) (o 13) (o 14) (o 15) (t 0) (t 1) (t 2) (t 3) (t 4) (t 5) (t 6) (t 7) (t 8) (t 9) (t 10) (t 11) (t 12) (t 13) (t 14) (t 15)))
