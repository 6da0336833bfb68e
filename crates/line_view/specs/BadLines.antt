-- The line at which a run ends because it is bad.
use Rattle.std.specs.Prelude.{List, [], ◌∷◌, ◌++◌, codes, ℕ, Option, None, Some}
use Rattle.sentence_parts.specs.declared.part.Part.TheVariants.{Words, Number}
use Rattle.sentence_parts.specs.Parts.{parts_text}
use Rattle.line_script.specs.Texts.{reason_word}
use Rattle.line_view.specs.declared.bad_line.BadLine.{BadLine}

-- that a run ends there, and why the line is bad
unfoldable pub bad_text : BadLine → List ℕ
bad_text bad =
    parts_text
    (Words (codes "The run ends at line ") ∷ Number bad.row ∷ Words (codes ", which is bad: ") ∷ Words (reason_word bad.reason)
    ∷ Words (codes ". `line_view check` says why.") ∷ [])

-- what is said of the bad line at which a run ends, no words where there is none
abbrev pub bad_words : Option BadLine → List ℕ
bad_words None = []
bad_words (Some bad) = bad_text bad

-- the same as a line, no line where there is no bad one
abbrev pub bad_line_text : Option BadLine → List ℕ
bad_line_text None = []
bad_line_text (Some bad) = bad_text bad ++ codes "\n"
