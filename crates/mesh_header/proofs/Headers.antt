-- A mesh header stands before what follows it.
use Rattle.std.proofs.Common.{◌≡◌, ℕ, List, ◌++◌, arith}
use Rattle.std.proofs.lemmas.Grind.{common_steps}
use Rattle.mesh_header.specs.Grammar.{hops_then}

pub hops_joins : (hops : ℕ) (a b : List ℕ) → hops_then hops a ++ b ≡ hops_then hops (a ++ b)
unfolding hops_then
hops_joins hops a b = grind (arith, common_steps)
