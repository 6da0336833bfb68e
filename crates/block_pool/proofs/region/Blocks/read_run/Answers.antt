use Rattle.std.proofs.Common.{◌≡◌, ℕ, ◌+◌, ◌-◌, ◌≤◌, length, sym, ◌∙◌, arith}
use borrow.Rule.Slice.PartMut.{mid_of, same_len_mid}
use Rattle.block_pool.proofs.Parts.{length-mid_of, get_or-put_mid, get_or-put_mid_other}
use Rattle.block_pool.proofs.Strings.{is_spot_at, at_more, read_more}
use Rattle.block_pool.proofs.region.Blocks.read_run.Goals as goal

pub loop-done-init : goal.loop-done-init
loop-done-init c =
    let read = c.read_blocks-offset.ensures in
    record { within = omega (arith, read.within, c.read_blocks-offset.auto.out); read = read.read; stands = read.stands }

pub settle-within-requires-clause-spot : goal.settle-within-requires-clause-spot
settle-within-requires-clause-spot c = is_spot_at _ _ _ _ _ _ c.loop-done.invariant.stands c.requires (omega (arith, c.loop-done-test.true))

pub read_part-requires-clause-spot : goal.read_part-requires-clause-spot
read_part-requires-clause-spot c =
    is_spot_at _ _ _ _ _ _ (c.settle-within.ensures.same _ _ c.loop-done.invariant.stands) c.requires (omega (arith, c.loop-done-test.true))

pub loop-done-preserved : goal.loop-done-preserved
loop-done-preserved c =
    let stands = c.settle-within.ensures.same _ _ c.loop-done.invariant.stands in
    let part = c.part-count.ensures in
    let done : ℕ = c.loop-done.done in
    let n : ℕ = done + c.part-count.result - done in
    let same : n ≡ c.part-count.result = omega arith in
    let fits : done + n ≤ length c.loop-done.out = omega (arith, same, part.1, c.loop-done.invariant.within) in
    let room : length (mid_of done n c.loop-done.out) ≡ n = length-mid_of done n c.loop-done.out fits in
    let long : length c.read_part.new.out ≡ n = c.read_part.auto.out ∙ room in
    record {
      within = omega (arith, fits, same, same_len_mid done n c.loop-done.out c.read_part.new.out (long ∙ sym room));
      read = read_more c.loop-done.out _ c.read_part.new.out _ _ _ _ _ _ _ c.loop-done.invariant.read stands c.settle-within.ensures.within part.2
          (λ i lt. c.read_part.ensures i (omega (arith, room, same, lt)))
          (λ k lt. get_or-put_mid_other done n c.loop-done.out c.read_part.new.out 0 fits long k (λ low high. absurd (omega (arith, low, lt))))
          (λ i lt. get_or-put_mid done n c.loop-done.out c.read_part.new.out 0 fits long i (omega (arith, same, lt)));
      stands = at_more _ _ _ _ _ _ _ stands part.2 (omega arith);
    }
