use Rattle.std.proofs.Common.{ℕ, ◌+◌, ◌-◌, length, get_or, ap, ◌∙◌, arith}
use Rattle.block_pool.specs.Region.{spot_of, IsSpot, octet_of}
use Rattle.block_pool.proofs.Parts.{get_or-mid_of}
use Rattle.block_pool.proofs.Rows.{block_is}
use Rattle.block_pool.proofs.region.Blocks.read_part.Goals as goal

pub get-requires : goal.get-requires
unfolding spot_of IsSpot
get-requires c = c.requires.spot

pub returns : goal.returns
unfolding spot_of IsSpot octet_of
returns c = λ k lt.
    let n : ℕ = c.args.offset + length c.args.out.now - c.args.offset in
    ap (λ os. get_or os k 0) c.copy_from_slice.ensures.after ∙ get_or-mid_of c.args.offset n k c.get.result.now.octets 0 (omega (arith, lt))
    ∙ ap (λ b. get_or b.octets (c.args.offset + k) 0) (block_is c.args.self.now.cells _ _ c.requires.spot c.get.ensures)
