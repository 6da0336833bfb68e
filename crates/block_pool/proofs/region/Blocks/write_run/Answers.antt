use Rattle.std.proofs.Common.{◌≡◌, ℕ, ◌+◌, ◌-◌, ◌≤◌, length, ◌∙◌, arith}
use Rattle.block_pool.proofs.Parts.{length-mid_of, get_or-mid_of}
use Rattle.block_pool.proofs.Strings.{are_spots, strung_links, hop-links, is_spot_at, at_block, at_more, at_start, at_links, written_none, written_more}
use Rattle.block_pool.proofs.region.Blocks.write_run.Goals as goal

pub walk-place-requires : goal.walk-place-requires
walk-place-requires c = λ i lt. are_spots _ _ _ c.requires i (omega arith)

pub loop-done-init : goal.loop-done-init
loop-done-init c = record { within = omega arith; written = written_none _ _ _ _; stands = at_start _ _ _ _ _ c.walk-place.ensures (omega arith) }

pub settle-within-requires-clause-spot : goal.settle-within-requires-clause-spot
settle-within-requires-clause-spot c = is_spot_at _ _ _ _ _ _ c.loop-done.invariant.stands
    (are_spots _ _ _ (strung_links _ _ _ _ c.loop-done.invariant.written.links c.requires)) (omega (arith, c.loop-done-test.true))

pub write_part-requires-clause-spot : goal.write_part-requires-clause-spot
write_part-requires-clause-spot c =
    is_spot_at _ _ _ _ _ _ (c.settle-within.ensures.same _ _ c.loop-done.invariant.stands)
    (are_spots _ _ _ (strung_links _ _ _ _ c.loop-done.invariant.written.links c.requires)) (omega (arith, c.loop-done-test.true))

pub loop-done-preserved : goal.loop-done-preserved
loop-done-preserved c =
    let stands = c.settle-within.ensures.same _ _ c.loop-done.invariant.stands in
    let here = at_block _ _ _ _ _ stands c.settle-within.ensures.within in
    let now = strung_links _ _ _ _ c.loop-done.invariant.written.links c.requires in
    let part = c.part-count.ensures in
    let n : ℕ = c.loop-done.done + c.part-count.result - c.loop-done.done in
    let same : n ≡ c.part-count.result = omega arith in
    let fits : c.loop-done.done + n ≤ length c.args.piece.now = omega (arith, same, part.1, c.loop-done.invariant.within) in
    record {
      within = omega (arith, part.1, c.loop-done.invariant.within);
      written = written_more _ _ _ _ _ _ _ _ _ _ _ _ c.requires (omega (arith, part.1, c.loop-done.invariant.within)) part.0 c.loop-done.invariant.written
          (here.0 ∙ hop-links _ _ _ _ c.loop-done.invariant.written.links (are_spots _ _ _ c.requires) _ (omega (arith, c.loop-done-test.true))) here.1 part.2
          (length-mid_of _ _ _ fits ∙ same) (λ i lt. get_or-mid_of c.loop-done.done n i c.args.piece.now 0 (omega (arith, lt))) c.write_part.ensures;
      stands = at_links _ _ _ _ _ _ _ c.write_part.ensures.links (are_spots _ _ _ now) (at_more _ _ _ _ _ _ _ stands part.2 (omega arith))
          (omega (arith, part.1, c.loop-done.invariant.within));
    }
