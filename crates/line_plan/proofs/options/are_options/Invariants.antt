use Rattle.std.proofs.Common.{◌≡◌, drop}
use Rattle.line_plan.specs.Options.{are_options, options_from}
use Rattle.line_plan.proofs.options.are_options.Given as goal

-- the words so far were options
abbrev pub invariant-loop-word : goal.invariant-loop-word
invariant-loop-word l = options_from l.is_name (drop l.word-index l.words) ≡ are_options l.words
