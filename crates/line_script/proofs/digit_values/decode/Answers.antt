use Rattle.std.proofs.Common.{◌≡◌, ℕ, ◌*◌, ◌+◌, ◌-◌, ◌/◌, ◌%◌, ◌<◌, ◌≤◌, ◌++◌, ◌∙◌, length, take, drop, get_or, Some, [], sym, ap, arith}
use Rattle.std.proofs.lemmas.List.{append-nil, drop_all, length-drop}
use Rattle.std.proofs.lemmas.Slice.{take-put_mid}
use Rattle.line_script.proofs.HexValues.{decoded, last_none, last_some, no_part, octets_of, one_part, part_even}
use Rattle.line_script.proofs.digit_values.decode.Goals as goal

pub returns-in_err-whole : goal.returns-in_err-whole
returns-in_err-whole c =
    let digits = c.args.digits.now in
    let n : ℕ = length digits / 32 in
    let part = get_or c.as_chunks.result.0.now c.loop-place.place ([]) in
    let front = ap (λ xs. get_or xs c.loop-place.place ([])) c.as_chunks.ensures.front in
    let below : c.loop-place.place < n = omega (arith, c.loop-place-test.true, c.loop-place.auto.place-end, c.as_chunks.ensures.front_len) in
    let fits : 32 * n ≤ length digits = omega arith in
    c.from_residual.ensures
    ∙ no_part digits c.loop-place.octets part n c.loop-place.place below fits front
    (sym (decoded part (part_even n c.loop-place.place digits part below fits front)) ∙ sym c.sixteen_octets.ensures ∙ c.in_err-whole.was)
    c.loop-place.invariant
    ∙ sym (decoded digits c.if-digits-ne0.false)

pub loop-place-preserved : goal.loop-place-preserved
loop-place-preserved c =
    let digits = c.args.digits.now in
    let n : ℕ = length digits / 32 in
    let part = get_or c.as_chunks.result.0.now c.loop-place.place ([]) in
    let front = ap (λ xs. get_or xs c.loop-place.place ([])) c.as_chunks.ensures.front in
    let below : c.loop-place.place < n = omega (arith, c.loop-place-test.true, c.loop-place.auto.place-end, c.as_chunks.ensures.front_len) in
    let fits : 32 * n ≤ length digits = omega arith in
    let new = c.copy_from_slice.new.self in
    let long : 16 * (c.loop-place.place + 1) ≡ 16 * c.loop-place.place + length new = omega (arith, ap length c.copy_from_slice.ensures.after) in
    one_part digits c.loop-place.octets _ part c.in_ok-whole.whole n c.loop-place.place below fits front
    (sym (decoded part (part_even n c.loop-place.place digits part below fits front)) ∙ sym c.sixteen_octets.ensures ∙ c.in_ok-whole.was)
    (take-put_mid (16 * c.loop-place.place) (16 * c.loop-place.place + 16 - 16 * c.loop-place.place) c.loop-place.octets new
    (16 * (c.loop-place.place + 1)) long (omega (arith, below, c.requires, c.loop-place.auto.octets))
    ∙ ap (λ xs. take (16 * c.loop-place.place) c.loop-place.octets ++ xs) c.copy_from_slice.ensures.after)
    c.loop-place.invariant

pub returns-in_err-last : goal.returns-in_err-last
returns-in_err-last c =
    let digits = c.args.digits.now in
    let rest = c.as_chunks.result.1.now in
    let at : length digits / 32 * 32 ≡ 32 * c.loop-place.place =
    omega (arith, c.loop-place-test.false, c.loop-place.auto.place-end, c.as_chunks.ensures.front_len) in
    let back = c.as_chunks.ensures.back ∙ ap (λ m. drop m digits) at in
    let even : length rest % 2 ≡ 0 = omega (arith, c.if-digits-ne0.false, ap length c.as_chunks.ensures.back, length-drop (length digits / 32 * 32) digits) in
    c.from_residual-in_err-last.ensures
    ∙ last_none digits _ (drop (32 * c.loop-place.place) digits) (length rest / 2) c.few_octets.result c.in_err-last.was
    (c.few_octets.ensures ∙ decoded rest even ∙ ap octets_of back) c.loop-place.invariant
    ∙ sym (decoded digits c.if-digits-ne0.false)

pub returns : goal.returns
returns c =
    let digits = c.args.digits.now in
    let rest = c.as_chunks.result.1.now in
    let at : length digits / 32 * 32 ≡ 32 * c.loop-place.place =
    omega (arith, c.loop-place-test.false, c.loop-place.auto.place-end, c.as_chunks.ensures.front_len) in
    let back = c.as_chunks.ensures.back ∙ ap (λ m. drop m digits) at in
    let even : length rest % 2 ≡ 0 = omega (arith, c.if-digits-ne0.false, ap length c.as_chunks.ensures.back, length-drop (length digits / 32 * 32) digits) in
    let all =
    last_some digits _ (drop (32 * c.loop-place.place) digits) c.in_ok-last.last (length rest / 2) c.few_octets.result c.in_ok-last.was
    (c.few_octets.ensures ∙ decoded rest even ∙ ap octets_of back) c.loop-place.invariant in
    let start : ℕ = 16 * length c.as_chunks.result.0.now in
    let same : start ≡ 16 * c.loop-place.place = omega (arith, c.loop-place-test.false, c.loop-place.auto.place-end) in
    let written =
    ap (λ s. take start c.loop-place.octets ++ (c.copy_from_slice-2.new.self ++ s))
    (drop_all (length c.loop-place.octets - start) (drop start c.loop-place.octets) (omega (arith, length-drop start c.loop-place.octets)))
    ∙ ap (λ s. take start c.loop-place.octets ++ s) (append-nil c.copy_from_slice-2.new.self)
    ∙ (λ i. take (same i) c.loop-place.octets ++ c.copy_from_slice-2.ensures.after i) in
    ap Some c.new.ensures ∙ ap Some written ∙ sym all ∙ sym (decoded digits c.if-digits-ne0.false)
