-- How many hops a node is from the coordinator, node 0, along links that carry frames away from it.
use Rattle.std.specs.Prelude.{ℕ, zero, suc, ◌+◌, ◌≡◌, ◌≤◌, ◌<◌, ◌⊎◌, Bool, true, false, Option, Some, None, List, length, slice_get}
use Rattle.std.specs.List.{count_by, Contains}
use Rattle.line_place.specs.declared.link.Link.{Link}
use Rattle.line_place.specs.Rows.{hearers}

-- one of the links leads to a node
abbrev pub IsLinkTo : List Link → ℕ → Type 0
IsLinkTo links b = (k : ℕ) × ((l : Link) × ((slice_get links k ≡ Some l) × (l.to ≡ b)))

-- a frame of a reaches b
abbrev pub Reaches : List (List Link) → ℕ → ℕ → Type 0
Reaches rows a b = IsLinkTo (hearers rows a) b

-- some path of n links leads from the coordinator to a node
abbrev pub HasPath : List (List Link) → ℕ → ℕ → Type 0
HasPath rows zero b = b ≡ 0
HasPath rows (suc n) b = (a : ℕ) × (HasPath rows n a × Reaches rows a b)

-- the hops of each node: the links of its shortest path, None where no path leads to it
pub record AreHops (rows : List (List Link)) (hops : List (Option ℕ)) : Type 0 where
  pub size : length hops ≡ length rows
  pub path : (b n : ℕ) → slice_get hops b ≡ Some (Some n) → HasPath rows n b
  pub shortest : (b n : ℕ) → b < length rows → HasPath rows n b → (m : ℕ) × ((slice_get hops b ≡ Some (Some m)) × (m ≤ n))

-- a path leads to every node
abbrev pub AllHavePaths : List (List Link) → Type 0
AllHavePaths rows = (b : ℕ) → b < length rows → (n : ℕ) × HasPath rows n b

-- # Round after round

abbrev pub is_none : Option ℕ → Bool
is_none None = true
is_none (Some n) = false

-- a frame of one of the nodes reaches b
abbrev pub IsReachedBy : List (List Link) → List ℕ → ℕ → Type 0
IsReachedBy rows front b = (k : ℕ) × ((a : ℕ) × ((slice_get front k ≡ Some a) × Reaches rows a b))

-- Nodes that are reached and had no hops have this many, and are listed after those that were listed.
pub record IsWider (round : ℕ) (reached : ℕ → Type 0) (old : List (Option ℕ)) (before : List ℕ) (new : List (Option ℕ)) (next : List ℕ) : Type 0 where
  pub size : length new ≡ length old
  pub kept : (b n : ℕ) → slice_get old b ≡ Some (Some n) → slice_get new b ≡ Some (Some n)
  pub fresh : (b n : ℕ) → slice_get new b ≡ Some (Some n) →
      (slice_get old b ≡ Some (Some n)) ⊎ ((n ≡ round) × (reached b × Contains next b))
  pub all : (b : ℕ) → reached b → b < length old → (n : ℕ) × (slice_get new b ≡ Some (Some n))
  pub still_listed : (b : ℕ) → Contains before b → Contains next b
  pub newly_listed : (b : ℕ) → Contains next b → Contains before b ⊎ (slice_get new b ≡ Some (Some round))
  pub count : count_by is_none new + length next ≡ count_by is_none old + length before

-- The nodes up to this many hops away have their hops, and those that are just so far are listed.
pub record AreAtMost (rows : List (List Link)) (round : ℕ) (hops : List (Option ℕ)) (front : List ℕ) : Type 0 where
  pub size : length hops ≡ length rows
  pub path : (b n : ℕ) → slice_get hops b ≡ Some (Some n) → HasPath rows n b
  pub low : (b n : ℕ) → slice_get hops b ≡ Some (Some n) → n ≤ round
  pub shortest : (b n : ℕ) → n ≤ round → b < length rows → HasPath rows n b → (m : ℕ) × ((slice_get hops b ≡ Some (Some m)) × (m ≤ n))
  pub listed : (b : ℕ) → slice_get hops b ≡ Some (Some round) → Contains front b
  pub only : (b : ℕ) → Contains front b → slice_get hops b ≡ Some (Some round)
  pub room : round + count_by is_none hops + length front ≤ length rows
