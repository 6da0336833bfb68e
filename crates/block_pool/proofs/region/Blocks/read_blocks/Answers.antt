use Rattle.std.proofs.Common.{◌≡◌, ℕ, ◌+◌, ◌-◌, ◌≤◌, length, ap, sym, refl, ◌∙◌, arith}
use borrow.Rule.Slice.PartMut.{mid_of, same_len_mid}
use Rattle.block_pool.specs.Region.{spot_of, octet_of}
use Rattle.block_pool.proofs.Parts.{length-mid_of, get_or-put_mid, get_or-put_mid_other}
use Rattle.block_pool.proofs.Strings.{is_spot_at, at_begin, at_more, at_next, at_start, read_more}
use Rattle.block_pool.proofs.region.Blocks.read_blocks.Goals as goal

pub returns-then-offset-gt0-clause-stands : goal.returns-then-offset-gt0-clause-stands
returns-then-offset-gt0-clause-stands c = at_start _ _ _ _ _ c.walk-place.ensures (omega arith)

pub loop-out-init : goal.loop-out-init
loop-out-init c = record {
  within = omega arith;
  read = λ k lt. absurd (omega arith);
  stands = at_begin _ _ _ _ _ c.walk-place.ensures (omega (arith, c.if-offset-gt0.false)) (omega arith);
}

pub read_block-requires-clause-spot : goal.read_block-requires-clause-spot
read_block-requires-clause-spot c = is_spot_at _ _ _ _ _ _ c.loop-out.invariant.stands c.requires (omega (arith, c.loop-out-test.true))

pub next-place-requires : goal.next-place-requires
next-place-requires c = is_spot_at _ _ _ _ _ _ c.loop-out.invariant.stands c.requires (omega (arith, c.loop-out-test.true))

pub loop-out-preserved : goal.loop-out-preserved
loop-out-preserved c =
    let stands = c.loop-out.invariant.stands in
    let done : ℕ = c.loop-out.done in
    let n : ℕ = done + 64 - done in
    let same : n ≡ 64 = omega arith in
    let fits : done + n ≤ length c.loop-out.out = omega (arith, same, c.loop-out-test.true) in
    let room : length (mid_of done n c.loop-out.out) ≡ n = length-mid_of done n c.loop-out.out fits in
    let long : length c.read_block.new.out ≡ n = c.read_block.auto.out ∙ room in
    record {
      within = omega (arith, fits, same, same_len_mid done n c.loop-out.out c.read_block.new.out (long ∙ sym room));
      read = read_more c.loop-out.out _ c.read_block.new.out _ _ _ _ _ 0 64 c.loop-out.invariant.read stands (omega arith) (omega arith)
          (λ i lt. c.read_block.ensures i lt ∙ ap (octet_of c.args.self.now (spot_of c.loop-out.place)) (omega arith))
          (λ k lt. get_or-put_mid_other done n c.loop-out.out c.read_block.new.out 0 fits long k (λ low high. absurd (omega (arith, low, lt))))
          (λ i lt. get_or-put_mid done n c.loop-out.out c.read_block.new.out 0 fits long i (omega (arith, same, lt)));
      stands = at_next _ _ _ _ _ _ (at_more _ _ _ 0 64 _ _ stands (omega arith) (omega arith)) refl c.next-place.ensures;
    }
