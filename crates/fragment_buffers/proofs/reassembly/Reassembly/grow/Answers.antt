use Rattle.std.proofs.Common.{◌≡◌, length, length-set, set, sym, ap, subst, ◌∙◌, arith}
use Rattle.block_pool.specs.Pool.{chain_octets}
use Rattle.fragment_buffers.specs.Reassembly.{begun, placed}
use Rattle.fragment_buffers.specs.PieceIntake.{grown}
use Rattle.fragment_buffers.specs.Entries.{Entry, Keeps, Moves, IsBounded, reassemblies_in, entry_at, reassembly_in, blocks_used, no_entry}
use Rattle.fragment_buffers.specs.Steps.{Changes}
use Rattle.fragment_buffers.proofs.PoolEntries.{AreSome, gathered_set, keeps_set, moves_set, bounded_set, used_set}
use Rattle.fragment_buffers.proofs.reassembly.Reassembly.grow.Goals as goal

pub grow-requires-clause-there : goal.grow-requires-clause-there
grow-requires-clause-there c = omega (arith, ap length c.self.view_is, c.requires.there)

pub grow-requires-clause-size : goal.grow-requires-clause-size
grow-requires-clause-size c = ap (λ es. (entry_at es c.args.index).size) c.self.view_is ∙ c.requires.size

pub grow-requires-clause-tag : goal.grow-requires-clause-tag
grow-requires-clause-tag c = ap (λ es. (entry_at es c.args.index).tag) c.self.view_is ∙ c.requires.tag

pub grow-requires-clause-chain : goal.grow-requires-clause-chain
grow-requires-clause-chain c =
    subst (λ es. length (chain_octets c.args.pool.now (entry_at es c.args.index).chain) ≡ (entry_at es c.args.index).size) (sym c.self.view_is)
    (c.requires.keeps.lengths c.args.index c.requires.there)

pub grow-requires-clause-room : goal.grow-requires-clause-room
grow-requires-clause-room c = c.self.invariant.bounded.blocks

-- the entry that has grown
abbrev new : (c : goal.After-grow) → Entry
new c = entry_at c.grow.new.self c.args.index

items : (c : goal.After-grow) → c.grow.new.self ≡ set c.args.self.now c.args.index (new c)
items c = c.grow.ensures.items ∙ ap (λ es. set es c.args.index (new c)) c.self.view_is

some : (c : goal.After-grow) → AreSome c.args.self.now
some c = subst AreSome c.self.view_is c.self.invariant.bounded.some

changes : (c : goal.After-grow) → Changes c.args.pool.now c.grow.new.pool c.args.self.now c.args.index (new c)
changes c = subst (λ es. Changes c.args.pool.now c.grow.new.pool es c.args.index (new c)) c.self.view_is c.grow.ensures.changes

pub returns-clause-gathered : goal.returns-clause-gathered
returns-clause-gathered c =
    ap (reassemblies_in c.grow.new.pool) (items c)
    ∙ gathered_set c.args.pool.now c.grow.new.pool c.args.self.now c.args.index (new c) c.requires.keeps (some c) (changes c)
    ∙ ap (λ r. set (reassemblies_in c.args.pool.now c.args.self.now) c.args.index r) (c.grow.ensures.gathered
    ∙ ap (λ es. grown (reassembly_in c.args.pool.now (entry_at es c.args.index))
    (begun (entry_at es c.args.index).origin c.args.piece.now c.args.note c.args.now)
    (placed c.args.piece.now)) c.self.view_is)

pub returns-clause-as_many : goal.returns-clause-as_many
returns-clause-as_many c = ap length (items c) ∙ length-set c.args.self.now c.args.index (new c)

pub returns-clause-keeps : goal.returns-clause-keeps
returns-clause-keeps c =
    subst (Keeps c.grow.new.pool) (sym (items c))
    (keeps_set c.args.pool.now c.grow.new.pool c.args.self.now c.args.index (new c) c.requires.keeps (some c) (changes c))

pub returns-clause-moves : goal.returns-clause-moves
returns-clause-moves c =
    subst (Moves c.args.pool.now c.grow.new.pool c.args.self.now) (sym (items c))
    (moves_set c.args.pool.now c.grow.new.pool c.args.self.now c.args.index (new c) (changes c))

pub invariant_of-self : goal.invariant_of-self
invariant_of-self c =
    let size = (changes c).size_is in
    let pos = some c c.args.index no_entry c.requires.there in
    record {
      blocks = c.self.invariant.blocks ∙ ap (λ es. blocks_used es) c.self.view_is
          ∙ sym (ap (λ es. blocks_used es) (items c) ∙ used_set c.args.self.now c.args.index (new c) c.requires.there size);
      bounded = subst IsBounded (sym (items c)) (bounded_set c.args.self.now c.args.index (new c) c.requires.there size (omega (arith, size, pos))
          (subst IsBounded c.self.view_is c.self.invariant.bounded));
    }
