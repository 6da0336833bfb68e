-- How the code holds round keys, for the clauses of its private functions. No public clause names what
-- stands here.
use Rattle.std.specs.Prelude.{◌≡◌, ℕ, suc, ◌<◌, List, [], map, slice_index_or}
use Rattle.aes_modes.specs.Cipher.{round_key}
use Rattle.aes_modes.specs.LookUps.{unhidden}

-- the key that a schedule begins with
abbrev pub first_key : List (List ℕ) → List ℕ
first_key keys = slice_index_or keys 0 []

-- the keys are the round keys of a key, all but the first and the last of them hidden
abbrev pub IsSchedule : List ℕ → List (List ℕ) → Type 0
IsSchedule key keys =
    (slice_index_or keys 0 [] ≡ key)
    × ((i : ℕ) → i < 9 → map unhidden (slice_index_or keys (suc i) []) ≡ round_key key (suc i))
    × (slice_index_or keys 10 [] ≡ round_key key 10)
