use Rattle.std.proofs.Common.{◌≡◌, drop}
use Rattle.run_maps.specs.Searches.{spread}
use Rattle.run_maps.proofs.search.Search.spread.Given as goal

-- the search so far, with the links to come
abbrev pub invariant-loop-heard : goal.invariant-loop-heard
invariant-loop-heard l = spread l.hops (drop l.heard-index l.heards) l.self ≡ spread l.hops l.heards l.fn.self
