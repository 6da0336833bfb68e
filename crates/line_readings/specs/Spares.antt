-- Nodes that are nobody's meter: remarks `#@ TIME spare node=N`.
use Rattle.std.specs.Prelude.{ℕ, ◌==◌, Bool, List, [], ◌∷◌, ◌++◌, bytes_eq, codes, drop, position, take, Option, None, Some, if◌then◌else◌}
use Rattle.line_script.specs.Words.{number_within}

abbrev pub is_space : ℕ → Bool
is_space c = c == 32

-- the node that what comes after a time names
unfoldable pub spare_after : List ℕ → Option ℕ
spare_after octets = if bytes_eq (take 12 octets) (codes " spare node=") then number_within 0 4294967295 (drop 12 octets) else None

abbrev pub spare_from : Option ℕ → List ℕ → Option ℕ
spare_from None octets = None
spare_from (Some place) octets = spare_after (drop place octets)

abbrev pub spare_in_remark : List ℕ → Option ℕ
spare_in_remark octets = spare_from (position is_space octets) octets

-- the node that a line says is nobody's meter
unfoldable pub spare_in : List ℕ → Option ℕ
spare_in line = if bytes_eq (take 3 line) (codes "#@ ") then spare_in_remark (drop 3 line) else None

abbrev pub with_spare : Option ℕ → List ℕ → List ℕ
with_spare None spares = spares
with_spare (Some node) spares = spares ++ (node ∷ [])
