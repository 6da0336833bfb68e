-- The names of members, as a list.
use Rattle.std.proofs.Common.{◌≡◌, List, [], ◌∷◌, map, refl, ap, String, Global, string_bytes}
use Rattle.toml.specs.View.{members_view}
use Rattle.toml.specs.declared.value.Value.{Value}
use Rattle.line_plan.specs.Unknowns.{names_of}

-- the names of members are those of their entries
pub names_view : (es : List (String Global × Value)) → names_of (members_view es) ≡ map string_bytes (map (λ e. e.0) es)
names_view [] = refl
names_view (e ∷ es) = ap (λ rest. string_bytes e.0 ∷ rest) (names_view es)
