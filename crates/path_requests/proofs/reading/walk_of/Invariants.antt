use Rattle.std.proofs.Common.{◌≡◌, true, length}
use Rattle.path_requests.specs.Walks.{is_walk, walk_at}
use Rattle.path_requests.proofs.reading.walk_of.Given as goal

abbrev pub invariant-loop-k : goal.invariant-loop-k
invariant-loop-k l = record {
  walk : l.walk ≡ walk_at l.k l.at l.octets;
  is : is_walk l.walk ≡ true;
  long : length l.walk ≡ l.k;
}
