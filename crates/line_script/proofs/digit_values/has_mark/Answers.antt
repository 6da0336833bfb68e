use Rattle.std.proofs.Common.{◌∙◌, ◌%◌, ◌^◌, ap, map, not, nat_eq, nat_le, replicate, w8, arith}
use Rattle.std.proofs.lemmas.List.{length-map}
use Rattle.std.proofs.lemmas.Simd.{mask_l-mod, tops_compared, zip2_splat_left}
use lib.Lanes.{mask_l}
use Rattle.line_script.proofs.HexValues.{mask_marks}
use Rattle.line_script.proofs.digit_values.has_mark.Goals as goal

pub returns : goal.returns
returns c =
    let marks = map (λ x. nat_le 32 x) c.args.x in
    ap (λ ms. not (nat_eq (mask_l ms % 2 ^ 64) 0)) (tops_compared w8 nat_le (replicate 16 32) c.args.x ∙ zip2_splat_left nat_le 32 16 c.args.x (omega arith))
    ∙ ap (λ m. not (nat_eq m 0)) (mask_l-mod marks 64 (omega (arith, length-map c.args.x (λ x. nat_le 32 x)))) ∙ mask_marks c.args.x
