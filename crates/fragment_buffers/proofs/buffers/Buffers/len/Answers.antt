use Rattle.std.proofs.Common.{length, ap, arith}
use Rattle.fragment_buffers.proofs.OneList.{length-entries}
use Rattle.fragment_buffers.proofs.buffers.Buffers.len.Goals as goal

pub returns : goal.returns
returns c =
    omega (
      arith,
      c.len.ensures,
      c.self.inside.buffers.ok,
      length-entries c.self.inside.buffers.items c.self.inside.places,
      ap length c.self.view_is,
    )
