-- Measured links, as rows of numbers.
use Rattle.std.specs.Prelude.{ℕ, ◌==◌, ◌&&◌, ◌||◌, nat_lt, max, Bool, true, false, if◌then◌else◌, List, [], ◌∷◌, ◌++◌, Option, None, Some, is_some}
use Rattle.std.specs.Prelude.{Result, length, ◌-◌, slice_get}
use Rattle.toml.specs.Data.{Data, Items, no_items, item, at, as_array}
use Rattle.line_place.specs.declared.link.Costs.{Costs}
use Rattle.line_place.specs.declared.matrix.MeasuredLink.{MeasuredLink}
use Rattle.line_place.specs.Rows.{cost_at}
use Rattle.plan_tables.specs.declared.keys.Key.TheVariants as keys
use Rattle.plan_tables.specs.declared.fault.Wanted.TheVariants as wanted
use Rattle.plan_tables.specs.declared.fault.WrongValue.{WrongValue}
use Rattle.plan_tables.specs.Values.{◌>>=◌, number_up_to, number_from_one_to, chance_in}
use Rattle.plan_tables.specs.Faults.{TableAt, checked_at, get_at}

-- the number of a node at a place of a row
unfoldable pub node_in : ℕ → Data → Option ℕ
node_in place row = at place row >>= number_up_to 998

abbrev pub cost_or : ℕ → Option Data → Option ℕ
cost_or cost None = Some cost
cost_or cost (Some d) = number_from_one_to 255 d

-- the cost at place 3 of a row, or what follows from the loss
unfoldable pub cost_part : Costs → ℕ → Data → Option ℕ
cost_part costs loss row = cost_or (cost_at costs loss) (at 3 row)

-- a row: from, to, loss, and maybe a cost
unfoldable pub measured_in : Costs → Data → Option MeasuredLink
measured_in costs row = do
  from ← node_in 0 row
  to ← node_in 1 row
  loss ← at 2 row >>= chance_in
  cost ← cost_part costs loss row
  if from == to then None
      else if is_some (at 4 row) then None
      else Some (record { from = from; link = record { to = to; loss = loss; cost = cost } })

abbrev pub is_after : Option MeasuredLink → MeasuredLink → Bool
is_after None link = true
is_after (Some last) link =
    nat_lt last.from link.from || (last.from == link.from && nat_lt last.link.to link.link.to)

-- whether a link comes after the last one, by sender and then by hearer
abbrev pub follows : List MeasuredLink → MeasuredLink → Bool
follows links link = is_after (slice_get links (length links - 1)) link

-- links, and those of more rows
abbrev pub links_from : Costs → List MeasuredLink → List Data → Option (List MeasuredLink)
links_from costs links [] = Some links
links_from costs links (row ∷ rows) =
    measured_in costs row >>= λ link. if follows links link then links_from costs (links ++ link ∷ []) rows else None

-- the highest number of a node, where so much is the highest before
abbrev pub farther : ℕ → List MeasuredLink → ℕ
farther most [] = most
farther most (link ∷ links) = farther (max (max link.from link.link.to) most) links

abbrev pub farthest : List MeasuredLink → ℕ
farthest links = farther 0 links

-- whether there is a link from a node to another
abbrev pub has_link : ℕ → ℕ → List MeasuredLink → Bool
has_link from to [] = false
has_link from to (link ∷ links) = (link.from == from && link.link.to == to) || has_link from to links

-- items as a list
abbrev pub listed : Items → List Data
listed no_items = []
listed (item d ds) = d ∷ listed ds

-- links with a meter
abbrev pub with_meters : List MeasuredLink → Option (List MeasuredLink)
with_meters links = if farthest links == 0 then None else Some links

unfoldable pub rows_in : Costs → Data → Option (List MeasuredLink)
rows_in costs d = as_array d >>= λ rows. links_from costs [] (listed rows) >>= with_meters

abbrev pub rows_of : Costs → Option Data → Option (List MeasuredLink)
rows_of costs None = None
rows_of costs (Some d) = rows_in costs d

-- the links of a measured place
unfoldable pub matrix_at : Costs → TableAt → Result (List MeasuredLink) WrongValue
matrix_at costs table = checked_at table keys.Links wanted.Links (rows_of costs (get_at table keys.Links))
