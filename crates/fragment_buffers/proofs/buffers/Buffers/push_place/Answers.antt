use Rattle.std.proofs.Common.{◌+◌, length, sym, ap, subst, arith}
use Rattle.std.specs.List.{All}
use Rattle.fragment_buffers.specs.declared.buffers.Buffer.{Buffer}
use Rattle.fragment_buffers.specs.Entries.{IsEntry, entry_at}
use Rattle.fragment_buffers.proofs.OneList.{there, counted, few_counted, few_more, fits, same_read, more, pieces_more, rule_at, rules_set}
use Rattle.fragment_buffers.proofs.PieceWrites.{entry_written}
use Rattle.fragment_buffers.proofs.buffers.Buffers.push_place.Goals as goal

pub front-requires : goal.front-requires
front-requires c =
    let lt = there c.self.inside.buffers.items c.self.inside.places c.args.self.now c.args.index c.self.view_is c.requires.there in
    omega (arith, lt, ap length c.deref.ensures.value)

pub count-start-requires : goal.count-start-requires
count-start-requires c = few_counted c.self.inside.buffers.items c.deref.result.now c.front.result.now c.self.inside.places c.args.index c.front.ensures
    c.deref.ensures.value c.self.invariant.all c.self.invariant.few

pub index-requires : goal.index-requires
index-requires c = omega (
  arith,
  c.self.inside.buffers.ok,
  there c.self.inside.buffers.items c.self.inside.places c.args.self.now c.args.index c.self.view_is c.requires.there,
)

pub overflow_add-end : goal.overflow_add-end
overflow_add-end c =
    let start = counted c.self.inside.buffers.items c.deref.result.now c.front.result.now c.args.index c.count-start.result c.front.ensures
    c.deref.ensures.value
    c.count-start.ensures in
    let lt = there c.self.inside.buffers.items c.self.inside.places c.args.self.now c.args.index c.self.view_is c.requires.there in
    omega (
      arith,
      start,
      c.self.invariant.few,
      fits c.self.inside.buffers.items c.self.inside.places c.args.index c.index.result.now c.self.invariant.all lt c.index.ensures,
    )

pub insert-requires : goal.insert-requires
insert-requires c =
    let start = counted c.self.inside.buffers.items c.deref.result.now c.front.result.now c.args.index c.count-start.result c.front.ensures
    c.deref.ensures.value
    c.count-start.ensures in
    let lt = there c.self.inside.buffers.items c.self.inside.places c.args.self.now c.args.index c.self.view_is c.requires.there in (
      omega arith,
      (
        omega (
          arith,
          start,
          fits c.self.inside.buffers.items c.self.inside.places c.args.index c.index.result.now c.self.invariant.all lt
              c.index.ensures,
        ),
        few_more c.self.inside.buffers.items c.self.inside.places c.args.self.now c.args.index c.args.place c.self.view_is
            c.self.invariant.all c.self.invariant.entries c.requires.there c.requires.place c.requires.apart c.requires.room,
      ),
    )

pub index_mut-requires : goal.index_mut-requires
index_mut-requires c = omega (
  arith,
  c.self.inside.buffers.ok,
  there c.self.inside.buffers.items c.self.inside.places c.args.self.now c.args.index c.self.view_is c.requires.there,
)

pub overflow_add-index_mut : goal.overflow_add-index_mut
overflow_add-index_mut c =
    let lt = there c.self.inside.buffers.items c.self.inside.places c.args.self.now c.args.index c.self.view_is c.requires.there in
    omega (
      arith,
      c.self.invariant.few,
      fits c.self.inside.buffers.items c.self.inside.places c.args.index c.index_mut.result.now c.self.invariant.all lt c.index_mut.ensures.value,
    )

-- the reassembly with a piece more
abbrev grown : Buffer → Buffer
grown b = record b { pieces = b.pieces + 1 }

pub returns : goal.returns
returns c =
    let start = counted c.self.inside.buffers.items c.deref.result.now c.front.result.now c.args.index c.count-start.result c.front.ensures
    c.deref.ensures.value
    c.count-start.ensures in
    let lt = there c.self.inside.buffers.items c.self.inside.places c.args.self.now c.args.index c.self.view_is c.requires.there in
    let same = same_read c.self.inside.buffers.items c.args.index c.index_mut.result.now c.index.result.now lt c.index_mut.ensures.value
    c.index.ensures in
    more c.self.inside.buffers.items c.self.inside.places c.args.self.now c.args.index c.self.view_is c.requires.there c.index.result.now
    c.self.invariant.all c.index.ensures (grown c.index_mut.result.now) c.insert.new.self
    (c.count-start.result + c.index.result.now.pieces) c.args.place (ap (λ n. n + c.index.result.now.pieces) start) c.insert.ensures.items
    (ap grown same)

pub invariant_of-self : goal.invariant_of-self
invariant_of-self c =
    let start = counted c.self.inside.buffers.items c.deref.result.now c.front.result.now c.args.index c.count-start.result c.front.ensures
    c.deref.ensures.value
    c.count-start.ensures in
    let lt = there c.self.inside.buffers.items c.self.inside.places c.args.self.now c.args.index c.self.view_is c.requires.there in
    let same = same_read c.self.inside.buffers.items c.args.index c.index_mut.result.now c.index.result.now lt c.index_mut.ensures.value
    c.index.ensures in
    let rule = rule_at c.self.inside.buffers.items c.self.inside.places c.args.self.now c.args.index c.self.view_is c.requires.there
    c.self.invariant.entries in
    let sums = pieces_more c.self.inside.buffers.items c.self.inside.places c.args.index c.index.result.now c.self.invariant.all lt
    c.index.ensures (grown c.index_mut.result.now) c.insert.new.self (c.count-start.result + c.index.result.now.pieces) c.args.place
    (ap (λ n. n + c.index.result.now.pieces) start) c.insert.ensures.items (ap (λ (b : Buffer). b.pieces + 1) same) in
    let few = few_more c.self.inside.buffers.items c.self.inside.places c.args.self.now c.args.index c.args.place c.self.view_is
    c.self.invariant.all c.self.invariant.entries c.requires.there c.requires.place c.requires.apart c.requires.room in
    record {
      entries = subst (All IsEntry) (sym (returns c)) (rules_set c.args.self.now c.args.index _ (subst (All IsEntry) c.self.view_is c.self.invariant.entries)
          (entry_written (entry_at c.args.self.now c.args.index) c.args.place rule c.requires.place c.requires.apart));
      all = sums.0;
      few = omega (arith, sums.1, few);
      reserved = c.self.invariant.reserved;
    }
