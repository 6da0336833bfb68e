use Rattle.std.proofs.Common.{◌≡◌, ◌<◌, drop}
use Rattle.std.specs.List.{fold}
use Rattle.octet_log.specs.LogChains.{next_chain}
use Rattle.octet_log.proofs.log.chain_by.Given as goal

-- the chain so far, and the octets that are left, give the chain of all
abbrev pub invariant-loop-octet : goal.invariant-loop-octet
invariant-loop-octet l = record {
  chain : fold next_chain l.chain (drop l.octet-index l.octets) ≡ fold next_chain 0 l.octets;
  range : l.chain < 16384;
}
