use Rattle.std.proofs.Common.{◌++◌, ◌∙◌, ap, drop, length, replicate}
use Rattle.std.proofs.lemmas.List.{drop-replicate}
use Rattle.line_script.proofs.digit_values.filled_up.Goals as goal

pub returns : goal.returns
returns c =
    ap (λ s. s ++ drop (length c.args.digits.now) (replicate 32 48)) c.copy_from_slice.ensures.after
    ∙ ap (λ s. c.args.digits.now ++ s) (drop-replicate (length c.args.digits.now) 32 48)
