use Rattle.std.proofs.Common.{sym, ap, arith}
use Rattle.fragment_buffers.specs.Entries.{Entry}
use Rattle.fragment_buffers.proofs.OneList.{there, read, rule_at}
use Rattle.fragment_buffers.proofs.buffers.Buffers.size.Goals as goal

pub index-requires : goal.index-requires
index-requires c = omega (
  arith,
  c.self.inside.buffers.ok,
  there c.self.inside.buffers.items c.self.inside.places c.args.self.now c.args.index c.self.view_is
      c.requires,
)

pub returns-clause-value : goal.returns-clause-value
returns-clause-value c = sym (ap (λ (e : Entry). e.size) (read c.self.inside.buffers.items c.self.inside.places c.args.self.now c.args.index c.self.view_is
    c.requires c.index.result.now c.self.invariant.all c.index.ensures))

pub returns-clause-rule : goal.returns-clause-rule
returns-clause-rule c = rule_at c.self.inside.buffers.items c.self.inside.places c.args.self.now c.args.index c.self.view_is c.requires
    c.self.invariant.entries
