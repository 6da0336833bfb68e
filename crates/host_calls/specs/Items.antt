-- Items of octets: a kind, a length, and this many octets.
use Rattle.std.specs.Prelude.{◌≡◌, ℕ, ◌+◌, ◌*◌, ◌/◌, ◌%◌, nat_lt, List, [], ◌∷◌, ◌++◌, length, take, drop, Option, Some, None, if◌then◌else◌}

pub record Item : Type 0 where
  pub kind : ℕ
  pub octets : List ℕ

-- an item as octets: its kind, its length in two octets, the highest first, and its octets
abbrev pub spelling : Item → List ℕ
spelling item = item.kind ∷ length item.octets / 256 ∷ length item.octets % 256 ∷ item.octets

-- What is read of octets: an item, and the octets after it.
pub record Read : Type 0 where
  pub item : Item
  pub rest : List ℕ

-- this many octets as an item, where there are this many
abbrev pub item_of : (kind count : ℕ) → List ℕ → Option Read
item_of kind count octets =
    if nat_lt (length octets) count then None
    else Some (record { item = record { kind = kind; octets = take count octets }; rest = drop count octets })

-- the item that octets begin with, None where they end in it
abbrev pub item_in : List ℕ → Option Read
item_in [] = None
item_in (kind ∷ []) = None
item_in (kind ∷ high ∷ []) = None
item_in (kind ∷ high ∷ low ∷ octets) = item_of kind (256 * high + low) octets

-- an item that was written before other octets is read back
abbrev pub ItemsAreReadBack : Type 0
ItemsAreReadBack = (item : Item) (rest : List ℕ) → item_in (spelling item ++ rest) ≡ Some (record { item = item; rest = rest })

-- octets begin with the spelling of one item at most
abbrev pub SpellingsAreUnique : Type 0
SpellingsAreUnique = (one two : Item) (rest more : List ℕ) → spelling one ++ rest ≡ spelling two ++ more → (one ≡ two) × (rest ≡ more)
