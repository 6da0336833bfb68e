use Rattle.std.proofs.Common.{rules}
use Rattle.plc_base.specs.Faults.{cut_off}
use Rattle.plc_base.proofs.Places.{after_none}
use Rattle.mesh_header.specs.Faults.{hops_fault, origin_at}
use Rattle.mesh_header.specs.Grammar.{hops_then}
use Rattle.mesh_header.proofs.meshes.hops_of.Goals as goal

pub returns-then-first-lt191 : goal.returns-then-first-lt191
unfolding hops_fault origin_at hops_then
returns-then-first-lt191 c = search (rules, after_none)

pub returns : goal.returns
unfolding hops_fault origin_at hops_then cut_off
returns c = search (rules, after_none)
