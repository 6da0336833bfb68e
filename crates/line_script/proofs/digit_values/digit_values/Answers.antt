use Rattle.std.proofs.Common.{bit_or}
use Rattle.std.proofs.lemmas.Simd.{zip2_of_maps}
use Rattle.line_script.specs.Digits.{chosen}
use Rattle.line_script.specs.declared.digit_values.TheConstants.{LETTERS, LETTER_ROWS, NUMERALS, NUMERAL_ROWS}
use Rattle.line_script.proofs.digit_values.digit_values.Goals as goal

pub returns : goal.returns
returns c =
    zip2_of_maps bit_or (chosen LETTERS LETTER_ROWS) (chosen NUMERALS NUMERAL_ROWS) c.args.x c.choose-letters.ensures c.choose-numerals.ensures
