-- The links of a place as lines of CSV, by which another program can have the same place.
use Rattle.std.specs.Prelude.{ℕ, zero, suc, ◌/◌, ◌%◌, List, [], ◌∷◌, ◌++◌, codes, decimal}
use Rattle.line_place.specs.declared.link.Link.{Link}
use Rattle.line_place.specs.Rows.{hearers}

-- from,to,
unfoldable pub ends_text : ℕ → ℕ → List ℕ
ends_text from to = decimal from ++ (codes "," ++ (decimal to ++ codes ","))

-- a chance of ten-thousandths in per cent, with two decimals
unfoldable pub percent_text : ℕ → List ℕ
percent_text loss = decimal (loss / 100) ++ (codes "." ++ (decimal (loss / 10 % 10) ++ decimal (loss % 10)))

-- ,cost
unfoldable pub cost_text : ℕ → List ℕ
cost_text cost = codes "," ++ (decimal cost ++ codes "\n")

-- from,to,loss,cost
unfoldable pub link_text : ℕ → Link → List ℕ
link_text from link = ends_text from link.to ++ (percent_text link.loss ++ cost_text link.cost)

-- the links of a node
abbrev pub row_text : ℕ → List Link → List ℕ
row_text from [] = []
row_text from (link ∷ links) = link_text from link ++ row_text from links

-- the links of the first this many nodes, ascending
abbrev pub rows_text : List (List Link) → ℕ → List ℕ
rows_text rows zero = []
rows_text rows (suc from) = rows_text rows from ++ row_text from (hearers rows from)

-- a line for each link in one direction, after the names of the columns
abbrev pub links_text : List (List Link) → ℕ → List ℕ
links_text rows nodes = codes "from,to,loss,cost\n" ++ rows_text rows nodes
