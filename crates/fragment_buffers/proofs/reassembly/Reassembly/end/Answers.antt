use Rattle.std.proofs.Common.{◌≡◌, ◌+◌, length, sym, ap, subst, ◌∙◌, arith}
use Rattle.std.specs.List.{remove}
use Rattle.block_pool.specs.Pool.{IsChain, chain_octets}
use Rattle.fragment_buffers.specs.PieceIntake.{blocks}
use Rattle.fragment_buffers.specs.Entries.{Entry, IsBounded, Keeps, Moves, reassemblies_in, entry_at, blocks_used}
use Rattle.fragment_buffers.proofs.PieceWrites.{stays-remove}
use Rattle.fragment_buffers.proofs.PoolEntries.{AreSome, Ends, kept_chain, gathered_remove, keeps_remove, moves_remove, bounded_after, used_after}
use Rattle.fragment_buffers.proofs.reassembly.Reassembly.end.Goals as goal

pub size-requires : goal.size-requires
size-requires c = omega (arith, ap length c.self.view_is, c.requires.there)

pub end-requires-clause-there : goal.end-requires-clause-there
end-requires-clause-there c = omega (arith, ap length c.self.view_is, c.requires.there)

pub end-requires-clause-ours : goal.end-requires-clause-ours
end-requires-clause-ours c =
    subst (λ es. IsChain c.args.pool.now (entry_at es c.args.index).chain) (sym c.self.view_is)
    (kept_chain c.args.pool.now c.args.self.now c.args.index c.requires.keeps (subst AreSome c.self.view_is c.self.invariant.bounded.some) c.requires.there)

the_entry : (c : goal.After-end) → entry_at c.self.inside.buffers c.args.index ≡ entry_at c.args.self.now c.args.index
the_entry c = ap (λ es. entry_at es c.args.index) c.self.view_is

items : (c : goal.After-end) → c.end.new.self ≡ remove c.args.self.now c.args.index
items c = c.end.ensures.items ∙ ap (λ es. remove es c.args.index) c.self.view_is

ends : (c : goal.After-end) → Ends c.args.pool.now c.end.new.pool c.args.self.now c.args.index
ends c =
    let chain = ap (λ (e : Entry). e.chain) (the_entry c) in
    record {
      there = c.requires.there;
      free = c.end.ensures.free ∙ ap (λ n. c.args.pool.now.free + blocks n)
          (ap (λ (e : Entry). length (chain_octets c.args.pool.now e.chain)) (the_entry c) ∙ c.requires.keeps.lengths c.args.index c.requires.there);
      others = λ d ne is. stays-remove c.args.pool.now c.end.new.pool _ d c.end.ensures.chains (λ e. ne (e ∙ chain)) is;
    }

some : (c : goal.After-end) → AreSome c.args.self.now
some c = subst AreSome c.self.view_is c.self.invariant.bounded.some

pub invariant_of-self : goal.invariant_of-self
invariant_of-self c =
    let used = used_after c.args.self.now _ c.args.index (items c) c.requires.there in
    let size = ap (λ (e : Entry). blocks e.size) (the_entry c) in
    let before = ap (λ es. blocks_used es) c.self.view_is in
    record {
      blocks = omega (arith, used, size, before, c.self.invariant.blocks, c.div_ceil.ensures, ap (λ n. blocks n) c.size.ensures.value);
      bounded = bounded_after c.args.self.now _ c.args.index (items c) c.requires.there (subst IsBounded c.self.view_is c.self.invariant.bounded);
    }

pub returns-clause-gathered : goal.returns-clause-gathered
returns-clause-gathered c =
    ap (reassemblies_in c.end.new.pool) (items c)
    ∙ gathered_remove c.args.pool.now c.end.new.pool c.args.self.now c.args.index c.requires.keeps (some c) (ends c)

pub returns-clause-keeps : goal.returns-clause-keeps
returns-clause-keeps c =
    subst (Keeps c.end.new.pool) (sym (items c))
    (keeps_remove c.args.pool.now c.end.new.pool c.args.self.now c.args.index c.requires.keeps (some c) (ends c))

pub returns-clause-moves : goal.returns-clause-moves
returns-clause-moves c =
    subst (Moves c.args.pool.now c.end.new.pool c.args.self.now) (sym (items c))
    (moves_remove c.args.pool.now c.end.new.pool c.args.self.now c.args.index (ends c))

pub returns-clause-bounded : goal.returns-clause-bounded
returns-clause-bounded c = bounded_after c.args.self.now _ c.args.index (items c) c.requires.there (subst IsBounded c.self.view_is c.self.invariant.bounded)
