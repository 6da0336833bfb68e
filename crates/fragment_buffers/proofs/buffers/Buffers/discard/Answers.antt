use Rattle.std.proofs.Common.{ℕ, length, refl, sym, ap, subst, arith}
use Rattle.std.specs.List.{All}
use Rattle.fragment_buffers.specs.declared.buffers.Buffer.{Buffer}
use Rattle.fragment_buffers.specs.Entries.{IsEntry, entry_at}
use Rattle.fragment_buffers.proofs.OneList.{there, counted, few_counted, fits, anew, pieces_none, cut_from, same_read, rule_at, rules_set}
use Rattle.fragment_buffers.proofs.PieceWrites.{empty_entry}
use Rattle.fragment_buffers.proofs.buffers.Buffers.discard.Goals as goal

pub front-requires : goal.front-requires
front-requires c =
    let lt = there c.self.inside.buffers.items c.self.inside.places c.args.self.now c.args.index c.self.view_is c.requires in
    omega (arith, lt, ap length c.deref.ensures.value)

pub count-start-requires : goal.count-start-requires
count-start-requires c = few_counted c.self.inside.buffers.items c.deref.result.now c.front.result.now c.self.inside.places c.args.index c.front.ensures
    c.deref.ensures.value c.self.invariant.all c.self.invariant.few

pub index-requires : goal.index-requires
index-requires c = omega (
  arith,
  c.self.inside.buffers.ok,
  there c.self.inside.buffers.items c.self.inside.places c.args.self.now c.args.index c.self.view_is
      c.requires,
)

pub cut-requires : goal.cut-requires
cut-requires c =
    let start = counted c.self.inside.buffers.items c.deref.result.now c.front.result.now c.args.index c.count-start.result c.front.ensures
    c.deref.ensures.value
    c.count-start.ensures in
    let lt = there c.self.inside.buffers.items c.self.inside.places c.args.self.now c.args.index c.self.view_is c.requires in
    omega (arith, start, fits c.self.inside.buffers.items c.self.inside.places c.args.index c.index.result.now c.self.invariant.all lt c.index.ensures)

pub index_mut-buffer-requires : goal.index_mut-buffer-requires
index_mut-buffer-requires c =
    omega (arith, c.self.inside.buffers.ok, there c.self.inside.buffers.items c.self.inside.places c.args.self.now c.args.index c.self.view_is c.requires)

-- the reassembly as it is then
abbrev emptied : Buffer → (note now : ℕ) → Buffer
emptied b note now = record b { note = note; since = now; pieces = 0 }

pub returns : goal.returns
returns c =
    let start = counted c.self.inside.buffers.items c.deref.result.now c.front.result.now c.args.index c.count-start.result c.front.ensures
    c.deref.ensures.value
    c.count-start.ensures in
    let lt = there c.self.inside.buffers.items c.self.inside.places c.args.self.now c.args.index c.self.view_is c.requires in
    let same = same_read c.self.inside.buffers.items c.args.index c.index_mut-buffer.result.now c.index.result.now lt c.index_mut-buffer.ensures.value
    c.index.ensures in
    anew c.self.inside.buffers.items c.self.inside.places c.args.self.now c.args.index c.self.view_is c.requires c.index.result.now c.self.invariant.all
    c.index.ensures (emptied c.index_mut-buffer.result.now c.args.note c.args.now) c.cut.new.places c.count-start.result c.args.note c.args.now start
    c.cut.ensures
    (ap (λ b. emptied b c.args.note c.args.now) same)

pub invariant_of-self : goal.invariant_of-self
invariant_of-self c =
    let start = counted c.self.inside.buffers.items c.deref.result.now c.front.result.now c.args.index c.count-start.result c.front.ensures
    c.deref.ensures.value
    c.count-start.ensures in
    let lt = there c.self.inside.buffers.items c.self.inside.places c.args.self.now c.args.index c.self.view_is c.requires in
    let rule = rule_at c.self.inside.buffers.items c.self.inside.places c.args.self.now c.args.index c.self.view_is c.requires c.self.invariant.entries in
    let sums = pieces_none c.self.inside.buffers.items c.self.inside.places c.args.index c.index.result.now c.self.invariant.all lt c.index.ensures
    (emptied c.index_mut-buffer.result.now c.args.note c.args.now) c.cut.new.places (cut_from c.self.inside.buffers.items c.self.inside.places c.cut.new.places
    c.args.index c.count-start.result c.index.result.now.pieces start c.cut.ensures) refl in
    record {
      entries = subst (All IsEntry) (sym (returns c)) (rules_set c.args.self.now c.args.index _ (subst (All IsEntry) c.self.view_is c.self.invariant.entries)
          (empty_entry (entry_at c.args.self.now c.args.index) c.args.note c.args.now rule));
      all = sums.0;
      few = omega (arith, sums.1, c.self.invariant.few);
      reserved = c.self.invariant.reserved;
    }
