use Rattle.plc_base.proofs.SortedNumbers.{sorted_numbers}
use Rattle.plc_base.proofs.laws.sorted_numbers_are_ordered.Goals as goal

pub returns : goal.returns
returns g c = sorted_numbers
