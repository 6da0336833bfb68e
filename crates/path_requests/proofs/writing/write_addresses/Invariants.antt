use Rattle.std.proofs.Common.{◌≡◌, ◌++◌, take}
use Rattle.path_requests.specs.Walks.{walk_octets}
use Rattle.path_requests.proofs.writing.write_addresses.Given as goal

abbrev pub invariant-loop-address : goal.invariant-loop-address
invariant-loop-address l = l.out ≡ l.fn.out ++ walk_octets (take l.address-index l.addresses)
