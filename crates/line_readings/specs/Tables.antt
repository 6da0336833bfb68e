-- Tables as comma-separated values, a line a row (RFC 4180).
use Rattle.std.specs.Prelude.{ℕ, ◌==◌, ◌||◌, Bool, List, [], ◌∷◌, ◌++◌, if◌then◌else◌, decimal}
use Rattle.std.specs.List.{list_any}
use Rattle.line_readings.specs.declared.csv.Cell.{Cell}
use Rattle.line_readings.specs.declared.csv.Cell.TheVariants as kinds

-- an octet in quotes: a quote stands twice
abbrev pub twice : ℕ → List ℕ
twice octet = if octet == 34 then 34 ∷ 34 ∷ [] else octet ∷ []

abbrev pub doubled : List ℕ → List ℕ
doubled [] = []
doubled (octet ∷ octets) = twice octet ++ doubled octets

-- a field in quotes
abbrev pub quoted : List ℕ → List ℕ
quoted octets = 34 ∷ (doubled octets ++ (34 ∷ []))

-- a comma, a quote and the ends of a line
abbrev pub is_special : ℕ → Bool
is_special octet = octet == 44 || octet == 34 || octet == 10 || octet == 13

abbrev pub has_special : List ℕ → Bool
has_special octets = list_any is_special octets

-- a field, which stands in quotes where it has to
abbrev pub field : List ℕ → List ℕ
field octets = if has_special octets then quoted octets else octets

abbrev pub content : Cell → List ℕ
content (kinds.Number number) = decimal number
content (kinds.Words words) = field words

-- a cell after a comma
abbrev pub cell : Cell → List ℕ
cell c = 44 ∷ content c

abbrev pub cells : List Cell → List ℕ
cells [] = []
cells (c ∷ rest) = cell c ++ cells rest

-- # Rows

-- a row: a node, and the cells after it
pub record Row : Type 0 where
  pub node : ℕ
  pub others : List Cell

abbrev pub row_text : ℕ → List Cell → List ℕ
row_text node others = decimal node ++ (cells others ++ (10 ∷ []))

abbrev pub rows_text : List Row → List ℕ
rows_text [] = []
rows_text (row ∷ rows) = row_text row.node row.others ++ rows_text rows
