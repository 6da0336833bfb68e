use Rattle.std.proofs.Common.{◌++◌, ap, ◌∙◌, string_bytes}
use Rattle.script_faults.proofs.Repeats.{repeated_none, repeated_more}
use Rattle.script_faults.proofs.finding.push_repeated.Goals as goal

pub loop-i-init : goal.loop-i-init
loop-i-init c = repeated_none c.args.sign.now (string_bytes c.args.text.now)

pub loop-i-preserved : goal.loop-i-preserved
loop-i-preserved c =
    repeated_more c.args.sign.now (string_bytes c.args.text.now) _ c.loop-i.i
    (c.in_ok-push_str.ensures.bytes ∙ ap (λ l. l ++ c.args.sign.now) c.loop-i.invariant)
