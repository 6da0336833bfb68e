use Rattle.std.proofs.Common.{◌≡◌, ◌≤◌, drop}
use Rattle.script_faults.specs.WordFindings.{off_from}
use Rattle.script_faults.proofs.wrong_words.first_off.Given as goal

-- what the rest of the word answers is what the word answers
abbrev pub invariant-loop-octet : goal.invariant-loop-octet
invariant-loop-octet l = record {
  at : l.at ≡ l.octet-index;
  value : l.value ≤ l.high;
  rest : off_from l.at l.value l.low l.high (drop l.octet-index l.word) ≡ off_from 0 0 l.low l.high l.word;
}
