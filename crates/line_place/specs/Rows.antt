-- The links of a place: for each node those that its frames take, in ascending order of the hearer.
use Rattle.std.specs.Prelude.{ℕ, zero, suc, ◌+◌, ◌-◌, ◌*◌, ◌/◌, min, Option, Some, None, eqb, cond, List, [], ◌∷◌, ◌++◌, slice_get}
use Rattle.std.specs.Prelude.{map, filter, find}
use Rattle.line_place.specs.declared.link.Link.{Link}
use Rattle.line_place.specs.declared.link.Losses.{Losses}
use Rattle.line_place.specs.declared.link.Costs.{Costs}
use Rattle.line_place.specs.declared.link.Costs.TheVariants.{ByLoss, Same}
use Rattle.line_place.specs.declared.layout.Layout.{Layout}
use Rattle.line_place.specs.declared.matrix.MeasuredLink.{MeasuredLink}
use Rattle.line_place.specs.Distances.{far}

-- the chance that a frame is lost this many steps past the nearest, in ten-thousandths and at most 99 per cent
unfoldable pub loss_at : Losses → ℕ → ℕ
loss_at losses steps = min (losses.nearest + losses.step * steps) 9900

-- the cost of a link with that loss: eight times the tries that a frame takes, rounded up
unfoldable pub cost_by_loss : ℕ → ℕ
cost_by_loss loss = let come = 10000 - min loss 9700 in min ((80000 + come - 1) / come) 255

unfoldable pub cost_at : Costs → ℕ → ℕ
cost_at ByLoss loss = cost_by_loss loss
cost_at (Same cost) loss = cost

-- the link to a node this many steps past the nearest
unfoldable pub link_over : Losses → Costs → ℕ → ℕ → Link
link_over losses costs to steps =
    record { to = to; loss = loss_at losses steps; cost = cost_at costs (loss_at losses steps) }

-- the link from a node to another, if a frame of the first reaches it
unfoldable pub link_at : Layout → Losses → Costs → ℕ → ℕ → Option Link
link_at layout losses costs a b =
    cond (eqb a b) None
    (elim (far layout a b) [ None ↦ None | Some steps ↦ Some (link_over losses costs b steps) ])

abbrev pub listed : {A : Type 0} → Option A → List A
listed None = []
listed (Some a) = a ∷ []

-- the links of a node to the first this many nodes
unfoldable pub row_to : Layout → Losses → Costs → ℕ → ℕ → List Link
row_to layout losses costs a zero = []
row_to layout losses costs a (suc b) = row_to layout losses costs a b ++ listed (link_at layout losses costs a b)

-- the links of the first this many nodes, to n nodes
unfoldable pub rows_to : Layout → Losses → Costs → ℕ → ℕ → List (List Link)
rows_to layout losses costs n zero = []
rows_to layout losses costs n (suc a) =
    rows_to layout losses costs n a ++ (row_to layout losses costs a n ∷ [])

-- # A measured place

-- the measured links of a node, in the order in which they are given
unfoldable pub measured_row : List MeasuredLink → ℕ → List Link
measured_row ms a = map (λ (m : MeasuredLink). m.link) (filter (λ (m : MeasuredLink). eqb m.from a) ms)

unfoldable pub measured_rows : List MeasuredLink → ℕ → List (List Link)
measured_rows ms zero = []
measured_rows ms (suc a) = measured_rows ms a ++ (measured_row ms a ∷ [])

-- # What a place answers

-- the links of a node, none where it is not on the line
unfoldable pub hearers : List (List Link) → ℕ → List Link
hearers rows a = elim (slice_get rows a) [ None ↦ [] | Some row ↦ row ]

-- the loss of the link to a node: 10,000 where there is none
unfoldable pub loss_in : List Link → ℕ → ℕ
loss_in links b = elim (find (λ (l : Link). eqb l.to b) links) as (λ _. ℕ) [ None ↦ 10000 | Some l ↦ l.loss ]
