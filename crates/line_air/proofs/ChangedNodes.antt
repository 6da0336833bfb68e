-- One node of a list changes.
use Rattle.std.proofs.Common.{◌≡◌, ℕ, ◌<◌, ◌≤◌, List, Option, Some, None, length, get_or, set, sym, ap, ◌∙◌}
use Rattle.std.proofs.lemmas.Option.{slice_get-get_or, slice_get_past}
use Rattle.std.specs.Prelude.{slice_get, slice_set}
use Rattle.line_air.specs.Nodes.{NodeState, changed}

pub changed_there : (nodes : List NodeState) (node : ℕ) (f : NodeState → NodeState) (n : NodeState) → node < length nodes →
    n ≡ get_or nodes node n → changed node f nodes ≡ set nodes node (f n)
unfolding changed
changed_there nodes node f n h e =
    ap (λ o. elim o as (λ (_ : Option NodeState). List NodeState) [ None ↦ nodes | Some m ↦ slice_set nodes node (f m) ])
    (slice_get-get_or nodes node n h ∙ ap Some (sym e))

pub changed_past : (nodes : List NodeState) (node : ℕ) (f : NodeState → NodeState) → length nodes ≤ node → changed node f nodes ≡ nodes
unfolding changed
changed_past nodes node f h =
    ap (λ o. elim o as (λ (_ : Option NodeState). List NodeState) [ None ↦ nodes | Some m ↦ slice_set nodes node (f m) ])
    (slice_get_past nodes node h)

pub ruleset changes = (changed_there, changed_past)
