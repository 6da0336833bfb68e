use Rattle.std.proofs.Common.{◌≡◌, ◌∷◌, take, drop}
use Rattle.script_faults.specs.Nearest.{IsNearestAmong, near_of, nearest_from}
use Rattle.script_faults.proofs.nearest.nearest_among.Given as goal

-- the nearest of those that have passed, from which the others are looked at
abbrev pub invariant-loop-kind : goal.invariant-loop-kind
invariant-loop-kind l = record {
  among : IsNearestAmong l.word (l.fn.first ∷ take l.kind-index l.kinds) l.best;
  value : nearest_from l.word l.best (drop l.kind-index l.kinds) ≡ nearest_from l.word (near_of l.word l.fn.first) l.kinds;
}
