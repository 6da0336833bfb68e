-- Which word is meant by one that begins no line.
use Rattle.std.specs.Prelude.{◌≡◌, ◌≤◌, ℕ, ◌/◌, max, List, [], ◌∷◌, length, Option, None, Some, if◌then◌else◌, nat_le, nat_lt}
use Rattle.std.specs.List.{All}
use Rattle.std.specs.Str.{chars}
use Rattle.strsim.specs.Edits.{osa_table}
use Rattle.line_script.specs.declared.kind.EventKind.{EventKind}
use Rattle.line_script.specs.declared.kind.EventKind.TheVariants as kinds
use Rattle.line_script.specs.Kinds.{kind_word}
use Rattle.script_faults.specs.declared.nearest.Near.{Near}
use Rattle.script_faults.specs.declared.nearest.TheConstants.{KINDS}

-- how many steps lead from a text to another: a character more, one less, another one, or two that change places
unfoldable pub distance : List ℕ → List ℕ → ℕ
distance a b = (osa_table (chars a) (chars b)).last_row (length (chars b))

-- the most steps of a suggestion
abbrev pub reach : List ℕ → ℕ
reach word = max (length word / 3) 1

-- one kind, and no other of these is nearer
pub record IsNearestAmong (word : List ℕ) (kinds : List EventKind) (near : Near) : Type 0 where
  pub steps : near.steps ≡ distance word (kind_word near.kind)
  pub least : All (λ k. near.steps ≤ distance word (kind_word k)) kinds

-- the kind is near enough, and none is nearer
pub record IsNearest (word : List ℕ) (kind : EventKind) : Type 0 where
  pub near : distance word (kind_word kind) ≤ reach word
  pub nearest : (other : EventKind) → distance word (kind_word kind) ≤ distance word (kind_word other)

-- no word is near enough
abbrev pub NoneNear : List ℕ → Type 0
NoneNear word = (kind : EventKind) → distance word (kind_word kind) ≤ reach word → ⊥

-- # Which of the nearest

-- a kind with the steps to its word
abbrev pub near_of : List ℕ → EventKind → Near
near_of word kind = record { kind = kind; steps = distance word (kind_word kind) }

-- the nearer of two; of two that are as near the first
abbrev pub nearer : Near → Near → Near
nearer first second = if nat_lt second.steps first.steps then second else first

-- the nearest of the one so far and some more
abbrev pub nearest_from : List ℕ → Near → List EventKind → Near
nearest_from word best [] = best
nearest_from word best (kind ∷ kinds) = nearest_from word (nearer best (near_of word kind)) kinds

abbrev pub meant_by : List ℕ → Near → Option EventKind
meant_by word near = if nat_le near.steps (reach word) then Some near.kind else None

-- the first of the nearest, in the order of the alphabet, where it is near enough
unfoldable pub meant : List ℕ → Option EventKind
meant word = meant_by word (nearest_from word (near_of word kinds.Activate) KINDS)
