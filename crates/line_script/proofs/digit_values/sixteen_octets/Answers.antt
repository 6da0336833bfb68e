use Rattle.std.proofs.Common.{ℕ, ◌<◌, ◌∙◌, sym, ap, Some, arith}
use Rattle.std.proofs.lemmas.Simd.{Each1-from_get_or}
use lib.Lanes.{zip2}
use Rattle.line_script.specs.Digits.{has_mark, lane_octet, lane_sum}
use Rattle.line_script.proofs.HexValues.{decoded, lanes_are, marked, octets_lie, sums_are}
use Rattle.line_script.proofs.digit_values.sixteen_octets.Goals as goal

pub returns-then-has_mark : goal.returns-then-has_mark
returns-then-has_mark c =
    let low = Each1-from_get_or (λ (b : ℕ). b < 256) c.args.digits.now 0 (λ k low. c.fits-digits k) in
    let sums =
    c.sum_lanes.ensures ∙ (λ i. zip2 lane_sum (c.digit_values-first.ensures i) (c.digit_values-second.ensures i))
    ∙ sums_are c.args.digits.now (omega arith) in
    let some = sym (ap has_mark sums) ∙ sym c.has_mark.ensures ∙ c.if-has_mark.true in
    marked c.args.digits.now low some ∙ sym (decoded c.args.digits.now (omega arith))

pub returns : goal.returns
returns c =
    let low = Each1-from_get_or (λ (b : ℕ). b < 256) c.args.digits.now 0 (λ k low. c.fits-digits k) in
    let sums =
    c.sum_lanes.ensures ∙ (λ i. zip2 lane_sum (c.digit_values-first.ensures i) (c.digit_values-second.ensures i))
    ∙ sums_are c.args.digits.now (omega arith) in
    let none = sym (ap has_mark sums) ∙ sym c.has_mark.ensures ∙ c.if-has_mark.false in
    let octets =
    c.octet_lanes.ensures ∙ (λ i. zip2 lane_octet (c.digit_values-first.ensures i) (c.digit_values-second.ensures i))
    ∙ octets_lie c.args.digits.now (omega arith) in
    ap Some octets ∙ sym (lanes_are c.args.digits.now (omega arith) low none) ∙ sym (decoded c.args.digits.now (omega arith))
