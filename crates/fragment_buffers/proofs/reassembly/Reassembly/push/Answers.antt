use Rattle.std.proofs.Common.{◌≡◌, [], ◌∷◌, ◌++◌, length, sym, ap, subst, ◌∙◌, arith}
use Rattle.std.proofs.lemmas.List.{length_push}
use Rattle.std.proofs.lemmas.List.Sums.{sum_by_push}
use Rattle.fragment_buffers.specs.PieceIntake.{blocks}
use Rattle.fragment_buffers.specs.Entries.{Entry, Keeps, Moves, IsBounded, reassemblies_in, entry_at, blocks_used}
use Rattle.fragment_buffers.specs.Reassembly.{Reassembly}
use Rattle.fragment_buffers.proofs.PoolEntries.{AreSome, gathered_push, keeps_push, moves_push, bounded_push}
use Rattle.fragment_buffers.proofs.reassembly.Reassembly.push.Goals as goal

pub begin-requires-clause-few : goal.begin-requires-clause-few
begin-requires-clause-few c = omega (arith, ap length c.self.view_is, c.requires.room)

pub begin-requires-clause-room : goal.begin-requires-clause-room
begin-requires-clause-room c = omega (arith, ap (λ es. blocks_used es) c.self.view_is, c.requires.room)

-- the entry that begins
abbrev last : (c : goal.After-begin) → Entry
last c = entry_at c.begin.new.self (length c.self.inside.buffers)

items : (c : goal.After-begin) → c.begin.new.self ≡ c.args.self.now ++ last c ∷ []
items c = c.begin.ensures.items ∙ ap (λ es. es ++ last c ∷ []) c.self.view_is

some : (c : goal.After-begin) → AreSome c.args.self.now
some c = subst AreSome c.self.view_is c.self.invariant.bounded.some

pub returns-clause-gathered : goal.returns-clause-gathered
returns-clause-gathered c =
    ap (reassemblies_in c.begin.new.pool) (items c)
    ∙ gathered_push c.args.pool.now c.begin.new.pool c.args.self.now (last c) c.requires.keeps (some c) c.begin.ensures.begins
    ∙ ap (λ r. reassemblies_in c.args.pool.now c.args.self.now ++ r ∷ []) c.begin.ensures.gathered

pub returns-clause-keeps : goal.returns-clause-keeps
returns-clause-keeps c =
    subst (Keeps c.begin.new.pool) (sym (items c))
    (keeps_push c.args.pool.now c.begin.new.pool c.args.self.now (last c) c.requires.keeps (some c) c.begin.ensures.begins)

pub returns-clause-moves : goal.returns-clause-moves
returns-clause-moves c =
    subst (Moves c.args.pool.now c.begin.new.pool c.args.self.now) (sym (items c))
    (moves_push c.args.pool.now c.begin.new.pool c.args.self.now (last c) c.begin.ensures.begins)

pub returns-clause-longer : goal.returns-clause-longer
returns-clause-longer c = ap length (items c) ∙ length_push c.args.self.now (last c)

pub invariant_of-self : goal.invariant_of-self
invariant_of-self c =
    let size = ap (λ (r : Reassembly). r.size) c.begin.ensures.gathered in
    let used = ap (λ es. blocks_used es) c.self.view_is in
    let more = ap (λ es. blocks_used es) (items c) in
    let bounded = subst IsBounded c.self.view_is c.self.invariant.bounded in
    record {
      blocks = omega (
        arith,
        c.self.invariant.blocks,
        used,
        more,
        sum_by_push (λ (e : Entry). blocks e.size) c.args.self.now (last c),
        ap (λ n. blocks n) size,
        c.div_ceil.ensures,
        ap (λ n. blocks n) c.size.ensures.value,
      );
      bounded = subst IsBounded (sym (items c)) (bounded_push c.args.self.now (last c) (omega (arith, c.requires.room))
          (omega (arith, c.requires.room, ap (λ n. blocks n) size)) (omega (arith, size, c.begin.ensures.some)) bounded);
    }
