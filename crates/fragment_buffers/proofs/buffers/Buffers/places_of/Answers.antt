use Rattle.std.proofs.Common.{take, drop, length, sym, ap, ◌∙◌, arith}
use Rattle.fragment_buffers.specs.Entries.{Entry}
use Rattle.fragment_buffers.proofs.OneList.{there, read, rule_at, counted, few_counted, fits}
use Rattle.fragment_buffers.proofs.buffers.Buffers.places_of.Goals as goal

pub front-requires : goal.front-requires
front-requires c =
    let lt = there c.self.inside.buffers.items c.self.inside.places c.args.self.now c.args.index c.self.view_is c.requires in
    omega (arith, lt, ap length c.deref.ensures.value)

pub count-start-requires : goal.count-start-requires
count-start-requires c = few_counted c.self.inside.buffers.items c.deref.result.now c.front.result.now c.self.inside.places c.args.index c.front.ensures
    c.deref.ensures.value c.self.invariant.all c.self.invariant.few

pub index-requires : goal.index-requires
index-requires c = omega (
  arith,
  c.self.inside.buffers.ok,
  there c.self.inside.buffers.items c.self.inside.places c.args.self.now c.args.index c.self.view_is
      c.requires,
)

pub part-requires : goal.part-requires
part-requires c =
    let start = counted c.self.inside.buffers.items c.deref.result.now c.front.result.now c.args.index c.count-start.result c.front.ensures
    c.deref.ensures.value
    c.count-start.ensures in
    let lt = there c.self.inside.buffers.items c.self.inside.places c.args.self.now c.args.index c.self.view_is c.requires in
    omega (
      arith,
      start,
      fits c.self.inside.buffers.items c.self.inside.places c.args.index c.index.result.now c.self.invariant.all lt c.index.ensures,
      ap length c.as_slice.ensures,
    )

pub returns-clause-value : goal.returns-clause-value
returns-clause-value c =
    let start = counted c.self.inside.buffers.items c.deref.result.now c.front.result.now c.args.index c.count-start.result c.front.ensures
    c.deref.ensures.value
    c.count-start.ensures in
    c.part.ensures ∙ (λ k. take c.index.result.now.pieces (drop (start k) (c.as_slice.ensures k)))
    ∙ sym (ap (λ (e : Entry). e.places) (read c.self.inside.buffers.items c.self.inside.places c.args.self.now c.args.index c.self.view_is c.requires
    c.index.result.now c.self.invariant.all c.index.ensures))

pub returns-clause-rule : goal.returns-clause-rule
returns-clause-rule c = rule_at c.self.inside.buffers.items c.self.inside.places c.args.self.now c.args.index c.self.view_is c.requires
    c.self.invariant.entries
