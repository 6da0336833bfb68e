use Rattle.plc_base.proofs.NumbersOfOctets.{bytes_high_first-big_from, bytes_low_first-little_from}
use Rattle.plc_base.proofs.numbers.a_number_has_the_octets_it_was_read_from.Goals as goal

pub returns-clause-big_two : goal.returns-clause-big_two
returns-clause-big_two c = bytes_high_first-big_from 2

pub returns-clause-big_four : goal.returns-clause-big_four
returns-clause-big_four c = bytes_high_first-big_from 4

pub returns-clause-little_two : goal.returns-clause-little_two
returns-clause-little_two c = bytes_low_first-little_from 2

pub returns-clause-little_four : goal.returns-clause-little_four
returns-clause-little_four c = bytes_low_first-little_from 4
