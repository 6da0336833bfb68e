use Rattle.std.proofs.Common.{sym, ap, arith}
use Rattle.fragment_buffers.specs.Entries.{Entry}
use Rattle.fragment_buffers.proofs.OneList.{there, read}
use Rattle.fragment_buffers.proofs.buffers.Buffers.note.Goals as goal

pub index-requires : goal.index-requires
index-requires c = omega (
  arith,
  c.self.inside.buffers.ok,
  there c.self.inside.buffers.items c.self.inside.places c.args.self.now c.args.index c.self.view_is
      c.requires,
)

pub returns : goal.returns
returns c = sym (ap (λ (e : Entry). e.note) (read c.self.inside.buffers.items c.self.inside.places c.args.self.now c.args.index c.self.view_is c.requires
    c.index.result.now c.self.invariant.all c.index.ensures))
