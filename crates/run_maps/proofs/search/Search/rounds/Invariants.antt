use Rattle.std.proofs.Common.{◌≡◌}
use Rattle.run_maps.specs.Searches.{rounds}
use Rattle.run_maps.proofs.search.Search.rounds.Given as goal

-- the rounds so far
abbrev pub invariant-loop-hops : goal.invariant-loop-hops
invariant-loop-hops l = l.self ≡ rounds l.heards l.hops l.fn.self
