-- The items of an array, as a list.
use Rattle.std.proofs.Common.{◌≡◌, List, [], ◌∷◌, map, refl, ap}
use Rattle.toml.specs.Data.{Data}
use Rattle.toml.specs.View.{view, items_of, items_view}
use Rattle.toml.specs.declared.value.Value.{Value}
use Rattle.plan_tables.specs.Links.{listed}

pub listed_items : (ds : List Data) → listed (items_of ds) ≡ ds
listed_items [] = refl
listed_items (d ∷ ds) = ap (λ rest. d ∷ rest) (listed_items ds)

pub listed_view : (vs : List Value) → listed (items_view vs) ≡ map view vs
listed_view vs = listed_items (map view vs)
