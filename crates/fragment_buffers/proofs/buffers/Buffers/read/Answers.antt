use Rattle.std.proofs.Common.{length, sym, ap, arith, ◌∙◌}
use Rattle.block_pool.specs.Pool.{chain_octets}
use Rattle.fragment_buffers.specs.Entries.{Entry}
use Rattle.fragment_buffers.proofs.OneList.{there, read, rule_at}
use Rattle.fragment_buffers.proofs.buffers.Buffers.read.Goals as goal

pub index-requires : goal.index-requires
index-requires c = omega (
  arith,
  c.self.inside.buffers.ok,
  there c.self.inside.buffers.items c.self.inside.places c.args.self.now c.args.index c.self.view_is
      c.requires.there,
)

pub read-requires-clause-short : goal.read-requires-clause-short
read-requires-clause-short c =
    let entry = read c.self.inside.buffers.items c.self.inside.places c.args.self.now c.args.index c.self.view_is c.requires.there c.index.result.now
    c.self.invariant.all c.index.ensures in
    omega (
      arith,
      ap (λ (e : Entry). e.size) entry,
      (rule_at c.self.inside.buffers.items c.self.inside.places c.args.self.now c.args.index c.self.view_is
          c.requires.there c.self.invariant.entries).size,
    )

pub read-requires-clause-some : goal.read-requires-clause-some
read-requires-clause-some c =
    let entry = read c.self.inside.buffers.items c.self.inside.places c.args.self.now c.args.index c.self.view_is c.requires.there c.index.result.now
    c.self.invariant.all c.index.ensures in
    omega (arith, ap (λ (e : Entry). e.size) entry, c.requires.some)

pub read-requires-clause-chain : goal.read-requires-clause-chain
read-requires-clause-chain c =
    let entry = read c.self.inside.buffers.items c.self.inside.places c.args.self.now c.args.index c.self.view_is c.requires.there c.index.result.now
    c.self.invariant.all c.index.ensures in
    sym (ap (λ (e : Entry). length (chain_octets c.args.pool.now e.chain)) entry) ∙ c.requires.chain ∙ ap (λ (e : Entry). e.size) entry

pub returns : goal.returns
returns c =
    let entry = read c.self.inside.buffers.items c.self.inside.places c.args.self.now c.args.index c.self.view_is c.requires.there c.index.result.now
    c.self.invariant.all c.index.ensures in
    c.read.ensures ∙ ap (λ (e : Entry). chain_octets c.args.pool.now e.chain) (sym entry)
