-- What is wrong with a line.
use Rattle.std.specs.Prelude.{ℕ, List, [], ◌∷◌, ◌++◌}

-- What is marked of a line, what is wrong with it, a few words at the mark, and what helps.
pub record FindingParts : Type 0 where
  -- the place of the first octet that is marked, from 0, and the place after the last one
  pub start : ℕ
  pub end : ℕ
  pub message : List ℕ
  pub label : List ℕ
  pub notes : List (List ℕ)

abbrev pub finding_at : ℕ → ℕ → List ℕ → List ℕ → FindingParts
finding_at start end message label = record { start = start; end = end; message = message; label = label; notes = [] }

-- with a line more that helps
abbrev pub noted : List ℕ → FindingParts → FindingParts
noted note t = record t { notes = t.notes ++ (note ∷ []) }
