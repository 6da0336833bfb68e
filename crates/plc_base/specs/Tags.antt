-- How a tag between a joining node and the coordinator is spelled, so that tags can be looked up.
use Rattle.std.specs.Prelude.{◌≡◌, ◌<◌, ◌^◌, ℕ, List, [], ◌∷◌, ◌++◌, length, replicate}
use Rattle.byteorder.specs.Endian.{big_bytes}
use Rattle.plc_base.specs.declared.tags.PairTag.{PairTag}
use Rattle.plc_base.specs.declared.tags.PairTag.TheVariants.{MacP, MacS, Channel}

-- the blank of an unused place
abbrev pub blank_tag : PairTag
blank_tag = MacS (record { 0 = replicate 8 0 }) []

-- The octets and numbers of a tag are those of a packet: 8 of an EUI-64, 16 of a random value, a nonce of 32 bits.
abbrev pub IsTag : PairTag → Type 0
IsTag (MacP eui text) = length eui.0 ≡ 8
IsTag (MacS eui text) = length eui.0 ≡ 8
IsTag (Channel eui rand_p nonce header text) = (length eui.0 ≡ 8) × (length rand_p.0 ≡ 16) × (nonce < 2 ^ 32)

-- the spelling of a tag: which one it is, and what it was computed over
abbrev pub tag_octets : PairTag → List ℕ
tag_octets (MacP eui text) = 0 ∷ (eui.0 ++ text)
tag_octets (MacS eui text) = 1 ∷ (eui.0 ++ text)
tag_octets (Channel eui rand_p nonce header text) =
    2 ∷ (eui.0 ++ (rand_p.0 ++ (big_bytes 4 nonce ++ (length header ∷ (header ++ text)))))

-- Two tags with one spelling are the same.
abbrev pub OneSpellingOneTag : Type 0
OneSpellingOneTag = (a b : PairTag) → IsTag a → IsTag b → tag_octets a ≡ tag_octets b → a ≡ b
