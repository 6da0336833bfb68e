use Rattle.plc_base.proofs.SortedNumbers.{one_sorted}
use Rattle.plc_base.proofs.laws.one_sorted_permutation.Goals as goal

pub returns : goal.returns
returns c = one_sorted
