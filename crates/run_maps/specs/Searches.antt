-- How many hops each node is from the coordinator, over links either way: breadth first.
use Rattle.std.specs.Prelude.{ℕ, ◌+◌, ◌==◌, min, zero, suc, Bool, false, List, [], ◌∷◌, ◌++◌, replicate, slice_get, slice_set}
use Rattle.std.specs.Prelude.{Option, None, Some, is_none, if◌then◌else◌}
use Rattle.run_maps.specs.declared.links.Heard.{Heard}
use Rattle.run_maps.specs.declared.search.Found.{Found}

pub record Search : Type 0 where
  -- for each node its hops and the node before it on the way, once it was found
  pub found : List (Option Found)
  -- the nodes that were found, in their order
  pub order : List ℕ
  -- the hops of the last one
  pub most : ℕ

-- # One node

-- whether there is such a node, and it was not found
abbrev pub is_unknown : Option (Option Found) → Bool
is_unknown None = false
is_unknown (Some found) = is_none found

abbrev pub has_hops : Option Found → ℕ → Bool
has_hops None hops = false
has_hops (Some found) hops = found.hops == hops

-- whether a node was found, this many hops away
abbrev pub is_so_far : Option (Option Found) → ℕ → Bool
is_so_far None hops = false
is_so_far (Some found) hops = has_hops found hops

abbrev pub with_found : ℕ → ℕ → ℕ → Search → Search
with_found node hops parent s =
    record { found = slice_set s.found node (Some (record { hops = hops; parent = parent })); order = s.order ++ (node ∷ []); most = hops }

-- a node that was not found before is this many hops away
unfoldable pub find : ℕ → ℕ → ℕ → Search → Search
find node hops parent s = if is_unknown (slice_get s.found node) then with_found node hops parent s else s

-- # Rounds

-- a node is one hop further than a node beside it that is this many hops away; a run has at most 1,000 nodes
unfoldable pub reach : ℕ → ℕ → ℕ → Search → Search
reach hops from to s = if is_so_far (slice_get s.found from) hops then find to (min hops 1000 + 1) from s else s

-- over a link either way
unfoldable pub reach_both : ℕ → Heard → Search → Search
reach_both hops heard s = reach hops heard.to heard.from (reach hops heard.from heard.to s)

-- over each link, from the nodes that are this many hops away
abbrev pub spread : ℕ → List Heard → Search → Search
spread hops [] s = s
spread hops (heard ∷ rest) s = spread hops rest (reach_both hops heard s)

-- where no node is so far, no other one is further
unfoldable pub round : List Heard → ℕ → Search → Search
round heards hops s = if s.most == hops then spread hops heards s else s

-- this many rounds
abbrev pub rounds : List Heard → ℕ → Search → Search
rounds heards zero s = s
rounds heards (suc hops) s = round heards hops (rounds heards hops s)

-- # All nodes

abbrev pub nobody : ℕ → Search
nobody nodes = record { found = replicate nodes None; order = []; most = 0 }

-- of this many nodes those that no link leads to are this many hops away, beside the coordinator
abbrev pub strays : ℕ → ℕ → Search → Search
strays hops zero s = s
strays hops (suc node) s = find node hops 0 (strays hops node s)

-- those that a link leads to
unfoldable pub linked : ℕ → List Heard → Search
linked nodes heards = rounds heards nodes (find 0 0 0 (nobody nodes))

unfoldable pub with_strays : ℕ → Search → Search
with_strays nodes s = strays (min s.most 1000 + 1) nodes s

-- the search over this many nodes
unfoldable pub search_of : ℕ → List Heard → Search
search_of nodes heards = with_strays nodes (linked nodes heards)
