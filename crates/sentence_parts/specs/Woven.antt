-- Sentences whose words stand once, as one text with a hole for each fact.
use Rattle.std.specs.Prelude.{ℕ, ◌==◌, Bool, List, [], ◌∷◌, ◌++◌}
use Rattle.std.specs.List.{after_first, before_first, count_by}
use Rattle.sentence_parts.specs.declared.part.Part.{Part}
use Rattle.sentence_parts.specs.Parts.{part_text}

-- a %
abbrev pub is_hole : ℕ → Bool
is_hole c = c == 37

abbrev pub before_hole : List ℕ → List ℕ
before_hole words = before_first is_hole words

abbrev pub after_hole : List ℕ → List ℕ
after_hole words = after_first is_hole words

-- how many facts some words have room for
abbrev pub holes : List ℕ → ℕ
holes words = count_by is_hole words

-- some words, with a fact for each %
abbrev pub woven : List ℕ → List Part → List ℕ
woven words [] = words
woven words (fact ∷ facts) = before_hole words ++ (part_text fact ++ woven (after_hole words) facts)
