-- A text and a key stream.
use Rattle.std.proofs.Common.{◌≡◌, ℕ, zero, suc, ◌+◌, ◌-◌, ◌*◌, ◌/◌, ◌%◌, ◌<◌, ◌≤◌, List, [], ◌∷◌, length, get_or, bit_xor, refl, sym, ap, ◌∙◌, inl, inr, arith}
use Rattle.std.specs.Int.Bits.{xor_assoc, xor_self, xor_zero_r}
use Rattle.std.proofs.lemmas.Bool.{cases_lt}
use Rattle.std.proofs.lemmas.List.{ext_get_or, get_or_append_left, get_or-append_right, length-append}
use Rattle.aes_modes.specs.Cipher.{xor_bytes}
use Rattle.aes_modes.specs.KeyStream.{stream_blocks, masked}

pub length-xor_bytes : (a b : List ℕ) → length a ≤ length b → length (xor_bytes a b) ≡ length a
length-xor_bytes [] b h = refl
length-xor_bytes (x ∷ a) [] h = absurd (omega arith)
length-xor_bytes (x ∷ a) (y ∷ b) h = ap suc (length-xor_bytes a b (omega arith))

get_or-xor_bytes : (a b : List ℕ) (k : ℕ) → k < length a → length a ≤ length b
    → get_or (xor_bytes a b) k 0 ≡ bit_xor (get_or a k 0) (get_or b k 0)
get_or-xor_bytes [] b k low h = absurd (omega arith)
get_or-xor_bytes (x ∷ a) [] k low h = absurd (omega arith)
get_or-xor_bytes (x ∷ a) (y ∷ b) zero low h = refl
get_or-xor_bytes (x ∷ a) (y ∷ b) (suc k) low h = get_or-xor_bytes a b k (omega arith) (omega arith)

-- the octets below n of new are those of old with the key stream added, and the rest are those of old
abbrev pub MaskedTo : (ℕ → List ℕ) → List ℕ → List ℕ → ℕ → Type 0
MaskedTo f old new n =
    ((k : ℕ) → k < n → get_or new k 0 ≡ bit_xor (get_or old k 0) (get_or (f (k / 16)) (k % 16) 0))
    × ((k : ℕ) → n ≤ k → get_or new k 0 ≡ get_or old k 0)

pub masked_more : (f : ℕ → List ℕ) (old mid new s : List ℕ) (i count n : ℕ) → MaskedTo f old mid (16 * i) → s ≡ f i
    → count ≤ 16
    → ((k : ℕ) → k < count → get_or new (16 * i + k) 0 ≡ bit_xor (get_or mid (16 * i + k) 0) (get_or s k 0))
    → ((k : ℕ) → k < 16 * i → get_or new k 0 ≡ get_or mid k 0)
    → ((k : ℕ) → 16 * i + count ≤ k → get_or new k 0 ≡ get_or mid k 0)
    → n ≡ 16 * i + count → MaskedTo f old new n
masked_more f old mid new s i count n held es fits block before after en = (
  λ k low. elim (cases_lt k (16 * i)) [
    | inl under ↦ before k under ∙ held.0 k under
    | inr over ↦
        let j : ℕ = k - 16 * i in
        let back : 16 * i + j ≡ k = omega arith in
        let row : k / 16 ≡ i = omega arith in
        let col : k % 16 ≡ j = omega arith in
        let here : get_or new (16 * i + j) 0 ≡ bit_xor (get_or mid (16 * i + j) 0) (get_or s j 0) = block j (omega arith) in
        rw (row, col) ((rw back at here) ∙ (λ z. bit_xor (held.1 k over z) (get_or (es z) j 0)))
  ],
  λ k high. after k (omega arith) ∙ held.1 k (omega arith),
)

module _ (f : ℕ → List ℕ) (blocks : (i : ℕ) → length (f i) ≡ 16) where
  length-stream : (n : ℕ) → length (stream_blocks f n) ≡ 16 * n
  unfolding stream_blocks
  length-stream zero = refl
  length-stream (suc n) = omega (arith, length-append (stream_blocks f n) (f n), length-stream n, blocks n)

  get_or-stream : (n k : ℕ) → k < 16 * n → get_or (stream_blocks f n) k 0 ≡ get_or (f (k / 16)) (k % 16) 0
  unfolding stream_blocks
  get_or-stream zero k low = absurd (omega arith)
  get_or-stream (suc n) k low =
      elim (cases_lt k (16 * n)) [
        | inl under ↦
            get_or_append_left (stream_blocks f n) (f n) 0 k (omega (arith, length-stream n)) ∙ get_or-stream n k under
        | inr over ↦
            let row : k / 16 ≡ n = omega arith in
            let col : k - 16 * n ≡ k % 16 = omega arith in
            get_or-append_right (stream_blocks f n) (f n) (16 * n) k 0 (length-stream n) over
            ∙ rw (row, col) refl
      ]

  room : (m : List ℕ) → length m ≤ length (stream_blocks f (length m / 16 + 1))
  room m = omega (arith, length-stream (length m / 16 + 1))

  pub length-masked : (m : List ℕ) → length (masked f m) ≡ length m
  unfolding masked
  length-masked m = length-xor_bytes m _ (room m)

  pub get_or-masked : (m : List ℕ) (k : ℕ) → k < length m
      → get_or (masked f m) k 0 ≡ bit_xor (get_or m k 0) (get_or (f (k / 16)) (k % 16) 0)
  unfolding masked
  get_or-masked m k low =
      get_or-xor_bytes m _ k low (room m) ∙ ap (bit_xor (get_or m k 0)) (get_or-stream (length m / 16 + 1) k (omega arith))

  pub masked_all : (old new : List ℕ) (n : ℕ) → MaskedTo f old new n → n ≡ length old → length new ≡ length old → new ≡ masked f old
  masked_all old new n held en len =
      ext_get_or 0 new (masked f old) (len ∙ sym (length-masked old))
      (λ k low. held.0 k (omega arith) ∙ sym (get_or-masked old k (omega arith)))

  -- the same key stream once more
  pub masked_twice : (m : List ℕ) → masked f (masked f m) ≡ m
  masked_twice m =
      ext_get_or 0 (masked f (masked f m)) m (length-masked (masked f m) ∙ length-masked m)
      (λ k low.
      let in_m : k < length m = omega (arith, length-masked (masked f m), length-masked m) in
      let s : ℕ = get_or (f (k / 16)) (k % 16) 0 in
      get_or-masked (masked f m) k (omega (arith, length-masked m))
      ∙ ap (λ (x : ℕ). bit_xor x s) (get_or-masked m k in_m)
      ∙ xor_assoc (get_or m k 0) s s ∙ ap (bit_xor (get_or m k 0)) (xor_self s) ∙ xor_zero_r (get_or m k 0))
