use Rattle.std.proofs.Common.{◌+◌, ◌-◌, ◌∙◌, length, replicate, sym, ap, arith}
use Rattle.std.proofs.lemmas.List.{length-append, length-replicate}
use Rattle.std.specs.Result.{result_ok}
use Rattle.hex.specs.Hex.{decode_of}
use Rattle.line_script.proofs.HexValues.{decoded, few_are}
use Rattle.line_script.proofs.digit_values.few_octets.Goals as goal

pub returns : goal.returns
returns c =
    let whole =
    length-append c.args.digits.now (replicate (32 - length c.args.digits.now) 48)
    ∙ ap (λ n. length c.args.digits.now + n) (length-replicate (32 - length c.args.digits.now) 48) in
    few_are c.args.digits.now c.sixteen_octets.result c.requires.few c.requires.even
    (c.sixteen_octets.ensures ∙ ap (λ s. result_ok (decode_of s)) c.filled_up.ensures ∙ decoded _ (omega (arith, whole, c.requires.few)))
    ∙ sym (decoded c.args.digits.now c.requires.even)
