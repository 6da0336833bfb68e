use Rattle.std.proofs.Common.{◌≡◌, ◌<◌, ◌^◌, drop}
use Rattle.std.specs.List.{fold}
use Rattle.flash_keeper.specs.Check.{next_residue}
use Rattle.flash_keeper.proofs.check.residue_of.Given as goal

-- the residue so far, and the octets that are left, give that of all
abbrev pub invariant-loop-octet : goal.invariant-loop-octet
invariant-loop-octet l = record {
  residue : fold next_residue l.residue (drop l.octet-index l.octets) ≡ fold next_residue l.before l.octets;
  range : l.residue < 2 ^ 32;
}
