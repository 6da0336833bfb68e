-- What of a frame comes by chance. Each segment is a draw of the losses.
use Rattle.std.specs.Prelude.{ℕ, zero, suc, ◌+◌, eqb, cond, List, [], ◌∷◌, ◌++◌}
use Rattle.std.specs.List.{fold}
use Rattle.rand_pcg.specs.Lcg.{Lcg}
use Rattle.air_draws.specs.Draws.{happens, after}
use Rattle.line_place.specs.declared.link.Link.{Link}
use Rattle.line_air.specs.declared.chances.End.{End}
use Rattle.line_air.specs.declared.nodes.Heard.{Heard}
use Rattle.line_air.specs.Disturbances.{Disturbed, loss_at}
use Rattle.line_air.specs.Nodes.{NodeState, has_power, may_hear_all, is_one}

-- the draws after this many
unfoldable pub after_draws : ℕ → Lcg → Lcg
after_draws zero g = g
after_draws (suc k) g = after (after_draws k g)

-- how many of this many segments come, a draw for each
unfoldable pub come : ℕ → ℕ → Lcg → ℕ
come chance zero g = 0
come chance (suc k) g = come chance k g + cond (happens chance (after_draws k g)) 0 1

-- the nodes that a frame came to, and the draws after that
pub record Drawing : Type 0 where
  pub came : List ℕ
  pub loss : Lcg

-- a hearer draws for every segment, and is listed where all came
unfoldable pub drawn_at : Disturbed → End → Link → Drawing → Drawing
drawn_at disturbed end link d =
    let came = come (loss_at disturbed end.at end.node link.to link.loss) end.segments d.loss in
    record { came = cond (eqb came end.segments) (d.came ++ (link.to ∷ [])) d.came; loss = after_draws end.segments d.loss }

-- a frame to all comes to hearers that have power, have joined, heard it undisturbed and lost no segment
unfoldable pub drawn_for_one_of_all : Disturbed → List NodeState → End → Drawing → Heard → Drawing
drawn_for_one_of_all disturbed nodes end d h =
    cond h.clear (cond (is_one may_hear_all h.link.to nodes) (drawn_at disturbed end h.link d) d) d

unfoldable pub drawn_for_all : Disturbed → List NodeState → End → List Heard → Drawing → Drawing
drawn_for_all disturbed nodes end hs d = fold (drawn_for_one_of_all disturbed nodes end) d hs

-- a frame to one node is overheard by others that have power, heard it undisturbed and lost no segment
unfoldable pub drawn_for_one_beside : Disturbed → List NodeState → End → ℕ → Drawing → Heard → Drawing
drawn_for_one_beside disturbed nodes end to d h =
    cond (eqb h.link.to to) d (cond h.clear (cond (is_one has_power h.link.to nodes) (drawn_at disturbed end h.link d) d) d)

unfoldable pub drawn_beside : Disturbed → List NodeState → End → ℕ → List Heard → Drawing → Drawing
drawn_beside disturbed nodes end to hs d = fold (drawn_for_one_beside disturbed nodes end to) d hs
