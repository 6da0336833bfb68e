-- Sentences as options of a block, and which fit there.
use Rattle.std.specs.Prelude.{ℕ, ◌≤◌, ◌<◌, ◌^◌, List, [], ◌∷◌, length, All}
use Rattle.pcapng.specs.Blocks.{BlockOption, COMMENT}
use Rattle.sentence_parts.specs.declared.part.Part.{Part}
use Rattle.sentence_parts.specs.Parts.{part_text, parts_text}

-- # Options

-- an option of a code that says a sentence
abbrev pub said : ℕ → List Part → List BlockOption
said code parts = (record { code = code; octets = parts_text parts }) ∷ []

-- a comment
abbrev pub comment : List Part → List BlockOption
comment parts = said COMMENT parts

-- # Sizes

-- a part of at most 100 octets
abbrev pub IsShort : Part → Type 0
IsShort part = length (part_text part) ≤ 100

-- at most 20 of them
pub record IsSentence (parts : List Part) : Type 0 where
  pub count : length parts ≤ 20
  pub each : All IsShort parts

-- an option that says no more than a sentence does
pub record IsSmall (o : BlockOption) : Type 0 where
  pub begun : 0 < o.code
  pub code : o.code < 2 ^ 16
  pub size : length o.octets ≤ 2000

-- this many options, none of which says more
pub record AreFew (most : ℕ) (os : List BlockOption) : Type 0 where
  pub count : length os ≤ most
  pub each : All IsSmall os
