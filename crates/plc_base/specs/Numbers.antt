-- Numbers in octets.
use Rattle.std.specs.Prelude.{◌≡◌, ℕ, ◌<◌, List, length, All}

-- this many octets that were read as a number are those of the number
abbrev pub HasOneSpelling : (ℕ → ℕ → List ℕ) → (ℕ → List ℕ → ℕ) → ℕ → Type 0
HasOneSpelling bytes number n =
    (octets : List ℕ) → length octets ≡ n → All (λ x. x < 256) octets → bytes n (number n octets) ≡ octets
