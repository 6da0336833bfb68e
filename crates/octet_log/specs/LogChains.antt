-- How a log is kept, for the clauses of private functions. No public clause names what stands here.
use Rattle.std.specs.Prelude.{◌≡◌, ◌<◌, ◌≤◌, ◌⊎◌, ◌+◌, ◌*◌, ◌%◌, ◌-◌, ℕ, List, [], ◌∷◌, drop, length, map, take, slice_index, slice_range}
use Rattle.std.specs.List.{fold}
use Rattle.octet_log.specs.Logs.{IsLast}
use Rattle.octet_log.specs.declared.chains.Link.{Link}

-- # Octets one after the other, and the places where strings end

-- the strings from a start on
abbrev pub strings_of : List ℕ → ℕ → List ℕ → List (List ℕ)
strings_of octets start [] = []
strings_of octets start (end ∷ ends) = slice_range octets start end ∷ strings_of octets end ends

-- the strings from a start on follow one another up to the last octet
abbrev pub AreEnds : ℕ → List ℕ → ℕ → Type 0
AreEnds start [] count = start ≡ count
AreEnds start (end ∷ ends) count = (start ≤ end) × AreEnds end ends count

-- the places stand in order, and both vectors have the room that was reserved
pub record ArePlaced (octets ends : List ℕ) (places room most_ends most_octets : ℕ) : Type 0 where
  pub placed : AreEnds 0 ends (length octets)
  pub places_fit : length ends + places ≤ most_ends
  pub room_fits : length octets + room ≤ most_octets

-- # Chains

-- the chain after one more octet
abbrev pub next_chain : ℕ → ℕ → ℕ
next_chain chain octet = (31 * chain + octet) % 16384

-- the chain to which octets lead
abbrev pub chain_by : List ℕ → ℕ
chain_by octets = fold next_chain 0 octets

-- the last octets of a string, at most 16
abbrev pub ending : List ℕ → List ℕ
ending octets = drop (length octets - 16) octets

-- the chain of an octet string
unfoldable pub chain_of : List ℕ → ℕ
chain_of octets = chain_by (ending octets)

abbrev pub chains_of : List Link → List ℕ
chains_of links = map (λ (l : Link). l.chain) links

abbrev pub befores_of : List Link → List ℕ
befores_of links = map (λ (l : Link). l.before) links

-- the chains of the numbers from 1 on, and for how many more numbers there is room
pub record Chained : Type 0 where
  pub chains : List ℕ
  pub places : ℕ

-- each chain's head is its last number, and each link leads to the one before; heads and room were reserved together
pub record IsLinked (heads : List ℕ) (links : List Link) (places most : ℕ) : Type 0 where
  pub size : (heads ≡ []) ⊎ (length heads ≡ 16384)
  pub made : 0 < places → length heads ≡ 16384
  pub fit : length links + places ≤ most
  pub head : (chain : ℕ) → chain < 16384 → IsLast (chains_of links) chain (slice_index heads chain)
  pub before : (n : ℕ) → n < length links
      → IsLast (take n (chains_of links)) (slice_index (chains_of links) n) (slice_index (befores_of links) n)

-- each string is in its chain, and the chains have a place for each that may still be pushed
pub record IsChained (strings : List (List ℕ)) (places : ℕ) (chained : Chained) : Type 0 where
  pub chains : chained.chains ≡ map chain_of strings
  pub fit : places ≤ chained.places
