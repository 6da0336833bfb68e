use Rattle.std.proofs.Common.{◌≡◌, false}
use Rattle.line_air.specs.declared.node.Ear.{Ear}
use Rattle.line_air.proofs.MappedLists.{mapped}
use Rattle.line_air.proofs.node.disturb_all.Given as goal

abbrev pub invariant-loop-ear : goal.invariant-loop-ear
invariant-loop-ear l = l.heard ≡ mapped (λ (e : Ear). record e { clean = false }) l.ear-index l.initial.heard
