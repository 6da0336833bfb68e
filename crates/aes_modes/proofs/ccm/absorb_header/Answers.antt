use Rattle.std.proofs.Common.{◌≡◌, ◌+◌, ◌-◌, ◌<◌, ◌≤◌, [], ◌∷◌, ◌++◌, length, take, drop, replicate, get_or, sym, ap, ◌∙◌, ◌⊎◌, inl, inr, arith}
use Rattle.std.proofs.lemmas.Bool.{eqb-true, eqb-false, cases_lt}
use Rattle.std.proofs.lemmas.List.{take_rest}
use Rattle.aes_modes.specs.Cipher.{encrypted}
use Rattle.aes_modes.specs.Chains.{chained_all, padded}
use Rattle.aes_modes.proofs.Chains.{chained_none}
use Rattle.aes_modes.proofs.CcmTags.{ccm_head_none, chained_head, head_block}
use Rattle.aes_modes.proofs.ccm.absorb_header.Goals as goal

pub returns-then-is_empty : goal.returns-then-is_empty
returns-then-is_empty c =
    let key = c.args.aes.now in
    let none = ccm_head_none c.args.header.now (eqb-true (length c.args.header.now) 0 (sym c.if-is_empty.ensures)) in
    sym (ap (chained_all key c.args.x.now) none ∙ chained_none key c.args.x.now [])

pub returns : goal.returns
returns c =
    let key = c.args.aes.now in
    let h = c.args.header.now in
    let n = c.min-count.result in
    let ys = c.copy_from_slice.new.self in
    let bs = c.to_be_bytes.result in
    let ne = eqb-false (length h) 0 (sym c.if-is_empty.ensures) in
    let some : 0 < length h = omega arith in
    let en = c.min-count.ensures in
    let cases : ((n ≡ length h) × (n ≤ 14)) ⊎ ((n ≡ 14) × (14 < length h)) =
    elim (cases_lt 14 (length h)) [
      | inl over ↦ inr (omega arith, over)
      | inr under ↦ inl (omega arith, omega arith)
    ] in
    let taken : ys ≡ take n h = c.copy_from_slice.ensures.after in
    let block =
    head_block (get_or bs 0 0) (get_or bs 1 0) (2 + n - 2) n ys (omega arith)
    ∙ (λ i. (get_or (c.to_be_bytes.ensures i) 0 0 ∷ get_or (c.to_be_bytes.ensures i) 1 0 ∷ []) ++ taken i ++ replicate (14 - n) 0) in
    c.absorb.ensures
    ∙ (λ i. chained_all key ((c.encrypt_block-next.ensures ∙ (λ j. encrypted key (c.xor_blocks.ensures j))) i) (padded (take_rest h n i)))
    ∙ chained_head key c.args.x.now h (get_or bs 0 0 ∷ get_or bs 1 0 ∷ (ys ++ drop (2 + n - 2) (replicate 14 0))) n some cases (omega arith) (omega arith) block
