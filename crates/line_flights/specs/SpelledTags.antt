-- The tag that a spelling is of, for the clauses of private functions. No public clause names what stands here.
use Rattle.std.specs.Prelude.{◌≡◌, ◌≤◌, ◌<◌, ℕ, zero, suc, ◌*◌, List, [], ◌∷◌, Some, take, drop, slice_get, slice_index}
use Rattle.byteorder.specs.Endian.{big_number}
use Rattle.octet_log.specs.Logs.{Log}
use Rattle.plc_base.specs.declared.tags.PairTag.{PairTag}
use Rattle.plc_base.specs.declared.tags.PairTag.TheVariants.{MacP, MacS, Channel}
use Rattle.plc_base.specs.Tags.{IsTag, blank_tag, tag_octets}

-- a field that begins with its length, and what stands after it
abbrev pub field_of : List ℕ → List ℕ
field_of [] = []
field_of (count ∷ rest) = take count rest

abbrev pub behind_field : List ℕ → List ℕ
behind_field [] = []
behind_field (count ∷ rest) = drop count rest

-- a tag of the protected channel, by its EUI, its random value, and the octets after these
abbrev pub channel_by : List ℕ → List ℕ → List ℕ → PairTag
channel_by eui rand rest =
    Channel (record { 0 = eui }) (record { 0 = rand }) (big_number 4 rest)
    (field_of (drop 4 rest))
    (behind_field (drop 4 rest))

-- a tag by its kind and the octets after it
abbrev pub tag_by : ℕ → List ℕ → PairTag
tag_by zero rest = MacP (record { 0 = take 8 rest }) (drop 8 rest)
tag_by (suc zero) rest = MacS (record { 0 = take 8 rest }) (drop 8 rest)
tag_by (suc (suc n)) rest = channel_by (take 8 rest) (take 16 (drop 8 rest)) (drop 16 (drop 8 rest))

-- the tag of a spelling
unfoldable pub tag_of : List ℕ → PairTag
tag_of [] = blank_tag
tag_of (kind ∷ rest) = tag_by kind rest

-- a spelling that a tag has, which is made of octets
pub record IsSpelling (octets : List ℕ) : Type 0 where
  pub back : tag_octets (tag_of octets) ≡ octets
  pub sound : IsTag (tag_of octets)
  pub octet : (k : ℕ) → slice_index octets k < 256

-- the strings of a log are spellings, and there is room for one at each place
pub record AreSpelled (log : Log) : Type 0 where
  pub each : (k : ℕ) (octets : List ℕ) → slice_get log.strings k ≡ Some octets → IsSpelling octets
  pub fit : 158 * log.places ≤ log.room
