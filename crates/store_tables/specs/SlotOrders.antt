-- The places of a table in the order of their keys. The key of each place stands in a list of numbers.
use Rattle.std.specs.Prelude.{◌≡◌, ◌≢◌, ℕ, ◌+◌, ◌<◌, ◌≤◌, List, length, slice_index, All, AllPairs, Contains}
use Rattle.std.specs.List.{AllWithin}

-- Each of these places has a key, and the keys rise from one place to the next.
pub record IsRising (keys places : List ℕ) : Type 0 where
  pub within : All (λ place. place < length keys) places
  pub rises : AllPairs (λ p q. slice_index keys p < slice_index keys q) places

-- All places, in the order of their keys.
pub record IsOrder (keys places : List ℕ) : Type 0 where
  pub rising : IsRising keys places
  pub whole : (place : ℕ) → place < length keys → Contains places place
  pub counted : length places ≡ length keys

-- All places but one, in the order of their keys.
pub record LacksOne (keys places : List ℕ) (place : ℕ) : Type 0 where
  pub rising : IsRising keys places
  pub lacking : All (λ q. q ≢ place) places
  pub others : (q : ℕ) → q < length keys → q ≢ place → Contains places q
  pub counted : length places + 1 ≡ length keys

-- The places before this rank have lower keys, and those from it on do not.
pub record IsRank (keys places : List ℕ) (key rank : ℕ) : Type 0 where
  pub within : rank ≤ length places
  pub lower : AllWithin (λ place. slice_index keys place < key) places 0 rank
  pub higher : AllWithin (λ place. key ≤ slice_index keys place) places rank (length places)
