-- The words are as long, and the same where what is left of them is.
use Rattle.std.proofs.Common.{◌≡◌, drop, length}
use Rattle.std.specs.Str.{bytes_eq}
use Rattle.line_script.proofs.kind.is_same.Given as goal

abbrev pub invariant-loop-place : goal.invariant-loop-place
invariant-loop-place l = record {
  same : bytes_eq (drop l.place l.word) (drop l.place l.other) ≡ bytes_eq l.word l.other;
  long : length l.word ≡ length l.other;
}
