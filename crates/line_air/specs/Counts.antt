-- How many frames in a row from a node to another were given up, by the two nodes, where some were.
use Rattle.std.specs.Prelude.{ℕ, ◌+◌, leb, eqb, not, ◌&&◌, cond, Bool, List}
use Rattle.std.specs.declared.cmp.Ordering.{Ordering}
use Rattle.std.specs.Ordering.{nat_cmp, ordering_then}
use Rattle.std.specs.Option.{unwrap_or}
use Rattle.std.specs.BTreeMap.{insert_entry, is_at}
use Rattle.std.specs.Map.{lookup, remove_entry}

-- ways by their sender, and then by their target
abbrev pub way_cmp : ℕ × ℕ → ℕ × ℕ → Ordering
way_cmp x y = ordering_then (nat_cmp x.0 y.0) (nat_cmp x.1 y.1)

unfoldable pub count_of : List ((ℕ × ℕ) × ℕ) → ℕ → ℕ → ℕ
count_of counts from to = unwrap_or (lookup (is_at (way_cmp (from, to))) counts) 0

unfoldable pub counts_without : List ((ℕ × ℕ) × ℕ) → ℕ → ℕ → List ((ℕ × ℕ) × ℕ)
counts_without counts from to = remove_entry (is_at (way_cmp (from, to))) counts

-- with one frame more the link counts as broken; never, where no count is named
unfoldable pub breaks : ℕ → List ((ℕ × ℕ) × ℕ) → ℕ → ℕ → Bool
breaks break_after counts from to = not (eqb break_after 0) && leb break_after (count_of counts from to + 1)

-- the counts with one frame more: those of a link that breaks begin anew
unfoldable pub counts_after : ℕ → List ((ℕ × ℕ) × ℕ) → ℕ → ℕ → List ((ℕ × ℕ) × ℕ)
counts_after break_after counts from to =
    cond (eqb break_after 0) counts
    (cond (leb break_after (count_of counts from to + 1)) (counts_without counts from to)
    (insert_entry way_cmp (counts_without counts from to) (from, to) (count_of counts from to + 1)))
