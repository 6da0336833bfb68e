use Rattle.std.proofs.Common.{◌≡◌, ℕ, ◌+◌, ◌-◌, ◌≤◌, length, refl, ap, get_or, ◌∙◌, arith}
use Rattle.block_pool.specs.Region.{spot_of, IsSpot, next_of, octet_of}
use Rattle.block_pool.proofs.Parts.{get_or-put_mid, get_or-put_mid_other}
use Rattle.block_pool.proofs.Rows.{block_is, writes_by}
use Rattle.block_pool.proofs.region.Blocks.write_part.Goals as goal

pub get_mut-requires : goal.get_mut-requires
unfolding spot_of IsSpot
get_mut-requires c = c.requires.spot

pub returns : goal.returns
unfolding spot_of IsSpot next_of octet_of
returns c =
    let a : ℕ = c.args.offset in
    let n : ℕ = a + length c.args.piece.now - a in
    let os = c.get_mut.result.now.octets in
    let fits : a + n ≤ length os = omega (arith, c.get_mut.result.now.full, c.requires.room) in
    let block = block_is c.args.self.now.cells _ _ c.requires.spot c.get_mut.ensures.value in
    let long : length c.copy_from_slice.new.self ≡ n = ap length c.copy_from_slice.ensures.after ∙ omega arith in
    writes_by _ _ _ _ c.requires.spot refl _ _ (ap (λ b. b.next) block)
    (λ k lt. get_or-put_mid a n os _ 0 fits long k (omega (arith, lt)) ∙ ap (λ ys. get_or ys k 0) c.copy_from_slice.ensures.after)
    (λ j apart. get_or-put_mid_other a n os _ 0 fits long j (λ low high. apart low (omega (arith, high))) ∙ ap (λ b. get_or b.octets j 0) block)
