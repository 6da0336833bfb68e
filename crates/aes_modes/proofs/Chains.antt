-- How chains of blocks grow.
use Rattle.std.proofs.Common.{◌≡◌, ℕ, zero, suc, ◌+◌, ◌-◌, ◌*◌, ◌/◌, ◌%◌, ◌<◌, ◌≤◌, ◌≢◌, List, [], ◌∷◌, ◌++◌, length, take, drop, set, replicate, eqb, refl}
use Rattle.std.proofs.Common.{sym, ap, ◌∙◌, arith, add-one}
use Rattle.std.specs.Int.{w128, to_be_bytes}
use Rattle.std.proofs.lemmas.Bool.{cond-true, cond-false, eq-eqb, ne_eqb}
use Rattle.std.proofs.lemmas.List.{append-nil, take-append-le, drop-append-le, take_all, drop_at, drop-drop, length-append, length-drop, length-replicate}
use Rattle.std.proofs.lemmas.List.{set_at}
use Rattle.aes_modes.specs.Cipher.{xor_bytes, encrypted, round_key, next_round_key, last_round}
use Rattle.aes_modes.specs.Chains.{chained, zero_block, padded, chained_all}
use Rattle.aes_modes.specs.Cmac.{last_block, first_subkey, doubled, cmac, blocks_before}
use Rattle.aes_modes.specs.Resumed.{mac_from}
use Rattle.aes_modes.specs.Eax.{numbered_mac}

pub length-encrypted : (key block : List ℕ) → length (encrypted key block) ≡ 16
unfolding encrypted last_round round_key next_round_key
length-encrypted key block = refl

pub chained_none : (key x m : List ℕ) → chained key x m 0 ≡ x
unfolding chained
chained_none key x m = refl

chained_next : (key x m : List ℕ) (n : ℕ)
    → chained key x m (suc n) ≡ encrypted key (xor_bytes (chained key x m n) (take 16 (drop (16 * n) m)))
unfolding chained
chained_next key x m n = refl

pub chained_more : (key x m : List ℕ) (n : ℕ)
    → chained key x m (n + 1) ≡ encrypted key (xor_bytes (chained key x m n) (take 16 (drop (16 * n) m)))
chained_more key x m n = rw add-one (chained_next key x m n)

-- a chain reads only the blocks that it counts
pub chained-append : (key x m z : List ℕ) (n : ℕ) → 16 * n ≤ length m → chained key x (m ++ z) n ≡ chained key x m n
chained-append key x m z zero h = chained_none key x (m ++ z) ∙ sym (chained_none key x m)
chained-append key x m z (suc n) h =
    let fits : 16 ≤ length (drop (16 * n) m) = omega (arith, length-drop (16 * n) m) in
    let block : take 16 (drop (16 * n) (m ++ z)) ≡ take 16 (drop (16 * n) m) =
    rw (drop-append-le (16 * n) m z (omega arith)) (take-append-le 16 (drop (16 * n) m) z fits) in
    let before : chained key x (m ++ z) n ≡ chained key x m n = chained-append key x m z n (omega arith) in
    chained_next key x (m ++ z) n ∙ (λ i. encrypted key (xor_bytes (before i) (block i))) ∙ sym (chained_next key x m n)

-- a chain over k blocks, and then n more
pub chained-after : (key x a m : List ℕ) (k n : ℕ) → length a ≡ 16 * k
    → chained key x (a ++ m) (k + n) ≡ chained key (chained key x a k) m n
chained-after key x a m k zero len =
    let plus : k + zero ≡ k = omega arith in
    rw plus (chained-append key x a m k (omega arith) ∙ sym (chained_none key (chained key x a k) m))
chained-after key x a m k (suc n) len =
    let plus : k + suc n ≡ suc (k + n) = omega arith in
    let place : 16 * (k + n) ≡ length a + 16 * n = omega arith in
    let rest : drop (16 * (k + n)) (a ++ m) ≡ drop (16 * n) m =
    rw place (sym (drop-drop (16 * n) (length a) (a ++ m)) ∙ ap (drop (16 * n)) (drop_at a m (length a) refl)) in
    let before : chained key x (a ++ m) (k + n) ≡ chained key (chained key x a k) m n = chained-after key x a m k n len in
    rw plus
    (chained_next key x (a ++ m) (k + n) ∙ (λ i. encrypted key (xor_bytes (before i) (take 16 (rest i))))
    ∙ sym (chained_next key (chained key x a k) m n))

-- the chain over one block
pub chained_one : (key x b : List ℕ) → length b ≡ 16 → chained key x b 1 ≡ encrypted key (xor_bytes x b)
chained_one key x b len =
    chained_next key x b 0 ∙ (λ i. encrypted key (xor_bytes (chained_none key x b i) (take_all 16 b (omega arith) i)))

-- whole blocks first
pub chained_all-append : (key x a m : List ℕ) → length a % 16 ≡ 0
    → chained_all key x (a ++ m) ≡ chained_all key (chained_all key x a) m
chained_all-append key x a m whole =
    let count : length (a ++ m) / 16 ≡ length a / 16 + length m / 16 = omega (arith, length-append a m) in
    rw count (chained-after key x a m (length a / 16) (length m / 16) (omega arith))

pub chained_all_one : (key x b : List ℕ) → length b ≡ 16 → chained_all key x b ≡ encrypted key (xor_bytes x b)
chained_all_one key x b len = rw len (chained_one key x b len)

-- another text ends in a padded block
pub chained_part : (key x m : List ℕ) → length m % 16 ≢ 0
    → encrypted key (xor_bytes (chained key x m (length m / 16)) (drop (16 * (length m / 16)) m ++ replicate (16 - (length m - 16 * (length m / 16))) 0))
    ≡ chained_all key x (padded m)
chained_part key x m part =
    let n : ℕ = length m / 16 in
    let zeros : List ℕ = replicate ((16 - length m % 16) % 16) 0 in
    let lz : length zeros ≡ (16 - length m % 16) % 16 = length-replicate ((16 - length m % 16) % 16) 0 in
    let len : length (m ++ zeros) ≡ length m + (16 - length m % 16) % 16 = length-append m zeros ∙ ap (λ (k : ℕ). length m + k) lz in
    let count : length (m ++ zeros) / 16 ≡ n + 1 = omega arith in
    let pad : 16 - (length m - 16 * n) ≡ (16 - length m % 16) % 16 = omega arith in
    let last_len : length (drop (16 * n) m ++ zeros) ≡ 16 = omega (arith, length-append (drop (16 * n) m) zeros, length-drop (16 * n) m) in
    let block : take 16 (drop (16 * n) (m ++ zeros)) ≡ drop (16 * n) m ++ zeros =
    ap (take 16) (drop-append-le (16 * n) m zeros (omega arith)) ∙ take_all 16 (drop (16 * n) m ++ zeros) (omega arith) in
    let before : chained key x (m ++ zeros) n ≡ chained key x m n = chained-append key x m zeros n (omega arith) in
    let whole : chained_all key x (m ++ zeros) ≡ encrypted key (xor_bytes (chained key x m n) (drop (16 * n) m ++ zeros)) =
    rw count (chained_more key x (m ++ zeros) n ∙ (λ i. encrypted key (xor_bytes (before i) (block i)))) in
    rw pad (sym whole)

-- ---- CMAC

pub last_block_whole : (key r b : List ℕ) (subkey n : ℕ) → subkey ≡ first_subkey key → length r ≡ 16 → n ≡ 16
    → b ≡ r ++ replicate (16 - n) 0 → xor_bytes b (to_be_bytes w128 subkey) ≡ last_block key r
unfolding last_block
last_block_whole key r b subkey n es len en eb =
    let same : b ≡ r = rw en at eb ∙ append-nil r in
    (λ i. xor_bytes (same i) (to_be_bytes w128 (es i)))
    ∙ sym (cond-true (eqb (length r) 16) _ _ (eq-eqb (length r) 16 len))

pub last_block_part : (key r b : List ℕ) (subkey n : ℕ) → subkey ≡ first_subkey key → length r ≡ n → n < 16
    → b ≡ r ++ replicate (16 - n) 0 → xor_bytes (set b n 0x80) (to_be_bytes w128 (doubled subkey)) ≡ last_block key r
unfolding last_block
last_block_part key r b subkey n es len low eb =
    let room : 16 - n ≡ suc (15 - length r) = omega arith in
    let begun : b ≡ r ++ 0 ∷ replicate (15 - length r) 0 = rw room at eb in
    let ended : set b n 0x80 ≡ r ++ 0x80 ∷ replicate (15 - length r) 0 =
    ap (λ (x : List ℕ). set x n 0x80) begun ∙ set_at r 0 (replicate (15 - length r) 0) 0x80 n len in
    (λ i. xor_bytes (ended i) (to_be_bytes w128 (doubled (es i))))
    ∙ sym (cond-false (eqb (length r) 16) _ _ (ne_eqb (length r) 16 (λ e. omega arith)))

pub mac_from_is : (key x m c l : List ℕ) (n : ℕ) → n ≡ blocks_before m → c ≡ chained key x m n → l ≡ last_block key (drop (16 * n) m)
    → encrypted key (xor_bytes c l) ≡ mac_from key x m
unfolding mac_from
mac_from_is key x m c l n en ec el =
    (λ i. encrypted key (xor_bytes (ec i) (el i)))
    ∙ (λ i. encrypted key (xor_bytes (chained key x m (en i)) (last_block key (drop (16 * en i) m))))

pub cmac_is : (key m : List ℕ) → mac_from key zero_block m ≡ cmac key m
unfolding cmac mac_from
cmac_is key m = refl

-- CMAC of a block and a text
mac_from-after : (key x b m : List ℕ) → length b ≡ 16 → 0 < length m
    → mac_from key (encrypted key (xor_bytes x b)) m ≡ mac_from key x (b ++ m)
unfolding mac_from
mac_from-after key x b m len some =
    let n : ℕ = blocks_before m in
    let count : blocks_before (b ++ m) ≡ 1 + n = omega (arith, length-append b m) in
    let chain : chained key x (b ++ m) (1 + n) ≡ chained key (encrypted key (xor_bytes x b)) m n =
    chained-after key x b m 1 n len ∙ ap (λ (y : List ℕ). chained key y m n) (chained_one key x b len) in
    let place : 16 * (1 + n) ≡ length b + 16 * n = omega arith in
    let rest : drop (16 * (1 + n)) (b ++ m) ≡ drop (16 * n) m =
    rw place (sym (drop-drop (16 * n) (length b) (b ++ m)) ∙ ap (drop (16 * n)) (drop_at b m (length b) refl)) in
    rw count (sym (λ i. encrypted key (xor_bytes (chain i) (last_block key (rest i)))))

pub numbered_mac_some : (key m : List ℕ) (number : ℕ) → 0 < length m
    → mac_from key (encrypted key (to_be_bytes w128 number)) m ≡ numbered_mac key number m
unfolding numbered_mac cmac mac_from
numbered_mac_some key m number some = mac_from-after key zero_block (to_be_bytes w128 number) m refl some

pub numbered_mac_none : (key m : List ℕ) (number : ℕ) → m ≡ []
    → mac_from key zero_block (to_be_bytes w128 number) ≡ numbered_mac key number m
unfolding numbered_mac cmac mac_from
numbered_mac_none key m number none = rw none refl
