use Rattle.std.proofs.Common.{◌≡◌, drop}
use Rattle.line_script.specs.Kinds.{kind_among}
use Rattle.line_script.proofs.kind.kind_among.Given as goal

-- the kinds so far do not have the word
abbrev pub invariant-loop-kind : goal.invariant-loop-kind
invariant-loop-kind l = kind_among l.word (drop l.kind-index l.kinds) ≡ kind_among l.word l.kinds
