use Rattle.std.proofs.Common.{◌+◌, length, sym, ap, subst, ◌∙◌, arith}
use Rattle.std.specs.List.{All}
use Rattle.std.specs.FinMap as map
use Rattle.std.specs.Int.{div_ceil}
use Rattle.block_pool.specs.Pool.{IsChain, chain_octets}
use Rattle.fragment_buffers.specs.Entries.{Entry, IsEntry}
use Rattle.fragment_buffers.specs.Buffers.{entries_from, pieces_in}
use Rattle.fragment_buffers.proofs.OneList.{there, counted, few_counted, fits, read, removed, pieces_removed, cut_from, rules_removed}
use Rattle.fragment_buffers.proofs.buffers.Buffers.end.Goals as goal

pub front-requires : goal.front-requires
front-requires c =
    let lt = there c.self.inside.buffers.items c.self.inside.places c.args.self.now c.args.index c.self.view_is c.requires.there in
    omega (arith, lt, ap length c.deref.ensures.value)

pub count-start-requires : goal.count-start-requires
count-start-requires c = few_counted c.self.inside.buffers.items c.deref.result.now c.front.result.now c.self.inside.places c.args.index c.front.ensures
    c.deref.ensures.value c.self.invariant.all c.self.invariant.few

pub remove-chain-requires : goal.remove-chain-requires
remove-chain-requires c = omega (
  arith,
  c.self.inside.buffers.ok,
  there c.self.inside.buffers.items c.self.inside.places c.args.self.now c.args.index c.self.view_is c.requires.there,
)

pub cut-requires : goal.cut-requires
cut-requires c =
    let start = counted c.self.inside.buffers.items c.deref.result.now c.front.result.now c.args.index c.count-start.result c.front.ensures
    c.deref.ensures.value
    c.count-start.ensures in
    let lt = there c.self.inside.buffers.items c.self.inside.places c.args.self.now c.args.index c.self.view_is c.requires.there in
    omega (
      arith,
      start,
      fits c.self.inside.buffers.items c.self.inside.places c.args.index c.remove-chain.result c.self.invariant.all lt
          c.remove-chain.ensures.value,
    )

pub give_back-requires : goal.give_back-requires
give_back-requires c =
    let entry = read c.self.inside.buffers.items c.self.inside.places c.args.self.now c.args.index c.self.view_is c.requires.there c.remove-chain.result
    c.self.invariant.all c.remove-chain.ensures.value in
    subst (IsChain c.args.pool.now) (ap (λ (e : Entry). e.chain) entry) c.requires.ours

pub returns-clause-items : goal.returns-clause-items
returns-clause-items c =
    let start = counted c.self.inside.buffers.items c.deref.result.now c.front.result.now c.args.index c.count-start.result c.front.ensures
    c.deref.ensures.value
    c.count-start.ensures in
    ap (λ l. entries_from l c.cut.new.places) c.remove-chain.ensures.items
    ∙ removed c.self.inside.buffers.items c.self.inside.places c.args.self.now c.args.index c.self.view_is c.requires.there c.remove-chain.result
    c.self.invariant.all c.remove-chain.ensures.value c.cut.new.places c.count-start.result start c.cut.ensures

pub returns-clause-free : goal.returns-clause-free
returns-clause-free c =
    let entry = read c.self.inside.buffers.items c.self.inside.places c.args.self.now c.args.index c.self.view_is c.requires.there c.remove-chain.result
    c.self.invariant.all c.remove-chain.ensures.value in
    c.give_back.ensures.free ∙ ap (λ (e : Entry). c.args.pool.now.free + div_ceil (length (chain_octets c.args.pool.now e.chain)) 64) (sym entry)

pub returns-clause-chains : goal.returns-clause-chains
returns-clause-chains c =
    let entry = read c.self.inside.buffers.items c.self.inside.places c.args.self.now c.args.index c.self.view_is c.requires.there c.remove-chain.result
    c.self.invariant.all c.remove-chain.ensures.value in
    c.give_back.ensures.chains ∙ ap (λ (e : Entry). map.remove c.args.pool.now.chains e.chain) (sym entry)

pub invariant_of-self : goal.invariant_of-self
invariant_of-self c =
    let start = counted c.self.inside.buffers.items c.deref.result.now c.front.result.now c.args.index c.count-start.result c.front.ensures
    c.deref.ensures.value
    c.count-start.ensures in
    let lt = there c.self.inside.buffers.items c.self.inside.places c.args.self.now c.args.index c.self.view_is c.requires.there in
    let sums = pieces_removed c.self.inside.buffers.items c.self.inside.places c.args.index c.remove-chain.result c.self.invariant.all lt
    c.remove-chain.ensures.value
    c.cut.new.places (cut_from c.self.inside.buffers.items c.self.inside.places c.cut.new.places
    c.args.index c.count-start.result c.remove-chain.result.pieces start c.cut.ensures) in
    record {
      entries = subst (All IsEntry) (sym (returns-clause-items c)) (rules_removed c.args.self.now c.args.index
          (subst (All IsEntry) c.self.view_is c.self.invariant.entries));
      all = ap pieces_in c.remove-chain.ensures.items ∙ sums.0;
      few = omega (arith, sums.1, c.self.invariant.few);
      reserved = omega (arith, c.self.invariant.reserved, c.remove-chain.ensures.capacity);
    }
