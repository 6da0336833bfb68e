-- What round keys a schedule has, and a block goes on with them.
use Rattle.std.proofs.Common.{◌≡◌, ℕ, zero, suc, ◌<◌, List, [], ◌∷◌, map, get_or, refl, ap, ◌∙◌, arith}
use Rattle.aes_modes.specs.Cipher.{xor_bytes, round, round_key, next_round_key, round_constant, state_after}
use Rattle.aes_modes.specs.LookUps.{unturned, unhidden}
use Rattle.aes_modes.specs.Schedule.{IsSchedule}

pub round_key-zero : (key : List ℕ) → key ≡ round_key key 0
unfolding round_key
round_key-zero key = refl

round_key-more : (key : List ℕ) (n : ℕ) → next_round_key (round_constant n) (round_key key n) ≡ round_key key (suc n)
unfolding round_key
round_key-more key n = refl

pub next_round_key_is : (key k next : List ℕ) (n : ℕ) → k ≡ round_key key n → next ≡ next_round_key (round_constant n) k
    → next ≡ round_key key (suc n)
next_round_key_is key k next n ek en = en ∙ ap (next_round_key (round_constant n)) ek ∙ round_key-more key n

hidden_keys : (key h1 h2 h3 h4 h5 h6 h7 h8 h9 last : List ℕ)
    → map unhidden h1 ≡ round_key key 1 → map unhidden h2 ≡ round_key key 2 → map unhidden h3 ≡ round_key key 3 → map unhidden h4 ≡ round_key key 4 →
    map unhidden h5 ≡ round_key key 5 → map unhidden h6 ≡ round_key key 6 → map unhidden h7 ≡ round_key key 7 → map unhidden h8 ≡ round_key key 8 →
    map unhidden h9 ≡ round_key key 9
    → (i : ℕ) → i < 9 → map unhidden (get_or (key ∷ h1 ∷ h2 ∷ h3 ∷ h4 ∷ h5 ∷ h6 ∷ h7 ∷ h8 ∷ h9 ∷ last ∷ []) (suc i) []) ≡ round_key key (suc i)
hidden_keys key h1 h2 h3 h4 h5 h6 h7 h8 h9 last e1 e2 e3 e4 e5 e6 e7 e8 e9 zero lt = e1
hidden_keys key h1 h2 h3 h4 h5 h6 h7 h8 h9 last e1 e2 e3 e4 e5 e6 e7 e8 e9 (suc zero) lt = e2
hidden_keys key h1 h2 h3 h4 h5 h6 h7 h8 h9 last e1 e2 e3 e4 e5 e6 e7 e8 e9 (suc (suc zero)) lt = e3
hidden_keys key h1 h2 h3 h4 h5 h6 h7 h8 h9 last e1 e2 e3 e4 e5 e6 e7 e8 e9 (suc (suc (suc zero))) lt = e4
hidden_keys key h1 h2 h3 h4 h5 h6 h7 h8 h9 last e1 e2 e3 e4 e5 e6 e7 e8 e9 (suc (suc (suc (suc zero)))) lt = e5
hidden_keys key h1 h2 h3 h4 h5 h6 h7 h8 h9 last e1 e2 e3 e4 e5 e6 e7 e8 e9 (suc (suc (suc (suc (suc zero))))) lt = e6
hidden_keys key h1 h2 h3 h4 h5 h6 h7 h8 h9 last e1 e2 e3 e4 e5 e6 e7 e8 e9 (suc (suc (suc (suc (suc (suc zero)))))) lt = e7
hidden_keys key h1 h2 h3 h4 h5 h6 h7 h8 h9 last e1 e2 e3 e4 e5 e6 e7 e8 e9 (suc (suc (suc (suc (suc (suc (suc zero))))))) lt = e8
hidden_keys key h1 h2 h3 h4 h5 h6 h7 h8 h9 last e1 e2 e3 e4 e5 e6 e7 e8 e9 (suc (suc (suc (suc (suc (suc (suc (suc zero)))))))) lt = e9
hidden_keys key h1 h2 h3 h4 h5 h6 h7 h8 h9 last e1 e2 e3 e4 e5 e6 e7 e8 e9 (suc (suc (suc (suc (suc (suc (suc (suc (suc i))))))))) lt = absurd (omega
    (arith, lt))

pub schedule : (key h1 h2 h3 h4 h5 h6 h7 h8 h9 last : List ℕ)
    → map unhidden h1 ≡ round_key key 1 → map unhidden h2 ≡ round_key key 2 → map unhidden h3 ≡ round_key key 3 → map unhidden h4 ≡ round_key key 4 →
    map unhidden h5 ≡ round_key key 5 → map unhidden h6 ≡ round_key key 6 → map unhidden h7 ≡ round_key key 7 → map unhidden h8 ≡ round_key key 8 →
    map unhidden h9 ≡ round_key key 9 → last ≡ round_key key 10
    → IsSchedule key (key ∷ h1 ∷ h2 ∷ h3 ∷ h4 ∷ h5 ∷ h6 ∷ h7 ∷ h8 ∷ h9 ∷ last ∷ [])
schedule key h1 h2 h3 h4 h5 h6 h7 h8 h9 last e1 e2 e3 e4 e5 e6 e7 e8 e9 e10 = (
  refl,
  hidden_keys key h1 h2 h3 h4 h5 h6 h7 h8 h9 last e1 e2 e3 e4 e5
      e6 e7 e8 e9,
  e10,
)

-- a block before the first round, and after one more
pub state_none : (key block x s k : List ℕ) → k ≡ key → x ≡ xor_bytes block k → map unturned s ≡ x
    → map unturned s ≡ state_after key block 0
unfolding state_after
state_none key block x s k ek ex es = es ∙ ex ∙ ap (xor_bytes block) (ek ∙ round_key-zero key)

pub state_more : (key block s r k : List ℕ) (n : ℕ) → map unturned s ≡ state_after key block n
    → map unhidden k ≡ round_key key (suc n) → map unturned r ≡ round (map unhidden k) (map unturned s)
    → map unturned r ≡ state_after key block (suc n)
unfolding state_after
state_more key block s r k n es ek er = er ∙ (λ i. round (ek i) (es i))
